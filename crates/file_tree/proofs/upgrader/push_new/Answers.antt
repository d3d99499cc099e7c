use Rattle.file_tree.proofs.Prelude.{◌≡◌, ◌++◌, ◌∷◌, [], sym, ap, subst, ◌∙◌, Two, entry, files_in, File, AreWithin}
use Rattle.file_tree.proofs.GrowLemmas.{file-push}
use Rattle.file_tree.proofs.upgrader.push_new.Goals as goal
use Rattle.file_tree.proofs.upgrader.push_new.Goals.{In_ok-push}

abbrev added : In_ok-push → File
added c = record { name = c.args.file.name.now; kind = c.args.file.kind.now; content = c.args.file.content.now }

-- the places with the further one
pushed : (c : In_ok-push) → AreWithin c.push_file.new.image.items (c.args.files.now.items ++ c.in_ok-place.place ∷ [])
    × (files_in c.push_file.new.image.items (c.args.files.now.items ++ c.in_ok-place.place ∷ []) ≡ files_in c.args.image.now.items
    c.args.files.now.items ++ added c ∷ [])
pushed c =
    file-push c.args.image.now.items c.push_file.new.image.items (entry Two (added c)) c.args.files.now.items c.in_ok-place.place (added c)
    c.in_ok-place.ensures.items c.requires.within c.in_ok-place.ensures.place c.in_ok-place.ensures.file

pub returns-clause-files : goal.returns-clause-files
returns-clause-files c = ap (files_in c.push_file.new.image.items) c.in_ok-push.ensures.items ∙ (pushed c).1

pub returns-clause-within : goal.returns-clause-within
returns-clause-within c = subst (λ fs. AreWithin c.push_file.new.image.items fs) (sym c.in_ok-push.ensures.items) (pushed c).0
