use Rattle.file_tree.proofs.Prelude.{◌≡◌, ◌≤◌, length, Ok, Err, ap, sym, subst, ◌∙◌, arith, nat_lt, err_from_is_err_and, length-map}
use Rattle.file_tree.proofs.Prelude.{LONGEST_IMAGE, TooLong, Two, image, refuse, scripts, read_image, file_in, files_in, Fails, IsIndex}
use Rattle.file_tree.proofs.Prelude.{SiteContent, IsLoaded, files_of, upgraded, second_image}
use Rattle.file_tree.proofs.UpgradeLemmas.{table-upgraded, second-long, second-scripts, second-reads}
use Rattle.file_tree.proofs.ReadLemmas.{gives-fault, gives-same}
use Rattle.file_tree.proofs.upgrader.upgrade.Goals as goal
use Rattle.file_tree.proofs.upgrader.upgrade.Goals.{After-site, After-measure, In_ok-push_new_files}

loaded : (c : After-site) → IsLoaded c.args.site.now
loaded c = subst IsLoaded c.site.view_is c.site.invariant

pub push_new_files-requires-clause-good : goal.push_new_files-requires-clause-good
push_new_files-requires-clause-good c = (loaded (goal.at.push_new_files-requires-clause-good c).After-site).good

pub returns-in_err-push_new_files-clause-exact : goal.returns-in_err-push_new_files-clause-exact
returns-in_err-push_new_files-clause-exact c =
    let p = err_from_is_err_and c.from_residual-in_err-push_new_files.result c.from_residual-in_err-push_new_files.ensures.1 in
    let files = upgraded c.args.words.now (files_of c.args.site.now) in
    let part = refuse (nat_lt LONGEST_IMAGE (length (image Two files))) TooLong in
    gives-same _ c.from_residual-in_err-push_new_files.result p.0 part (second_image files) p.1
    (subst (λ f. Fails f part) (sym p.2) c.in_err-push_new_files.ensures.long)
    (λ e h. second-long files e h)

pub measure-requires-clause-table : goal.measure-requires-clause-table
measure-requires-clause-table c =
    let site = c.args.site.now in
    let made = c.push_new_files.new.image.items in
    let order_is = ap (λ (s : SiteContent). s.order) (sym c.site.view_is) ∙ sym c.deref-2.ensures.value in
    subst (λ x. IsIndex x c.deref_mut.result.now c.deref-2.result.now) (sym c.deref.ensures.value)
    (subst (λ fs. IsIndex made fs c.deref-2.result.now) (sym c.deref_mut.ensures.value)
    (subst (λ os. IsIndex made c.push_new_files.new.files.items os) order_is
    (table-upgraded c.args.words.now (files_of site) site.order made c.push_new_files.new.files.items
    (loaded (goal.at.measure-requires-clause-table c).After-site).table.order_is
    c.in_ok-push_new_files.ensures.within c.in_ok-push_new_files.ensures.files)))

-- the scripts of the new list, as they were measured
measured : (c : After-measure) → c.measure.result ≡ scripts (upgraded c.args.words.now (files_of c.args.site.now)) 0
    (upgraded c.args.words.now (files_of c.args.site.now))
measured c =
    let files_are = ap (λ x. files_in x c.deref_mut.result.now) c.deref.ensures.value ∙ ap (files_in c.push_new_files.new.image.items)
    c.deref_mut.ensures.value ∙ c.in_ok-push_new_files.ensures.files in
    c.measure.ensures.scripts ∙ ap (λ fs. scripts fs 0 fs) files_are

size : (c : In_ok-push_new_files) → length (image Two (upgraded c.args.words.now (files_of c.args.site.now))) ≤ LONGEST_IMAGE
size c = omega (arith, ap length c.in_ok-push_new_files.ensures.image, c.in_ok-push_new_files.ensures.room)

pub returns-in_err-measure-clause-exact : goal.returns-in_err-measure-clause-exact
returns-in_err-measure-clause-exact c =
    let p = err_from_is_err_and c.from_residual-in_err-measure.result c.from_residual-in_err-measure.ensures.1 in
    let files = upgraded c.args.words.now (files_of c.args.site.now) in
    let at = goal.at.returns-in_err-measure-clause-exact c in
    gives-fault _ c.from_residual-in_err-measure.result p.0 c.in_err-measure.field-0.0 (second_image files) p.1 p.2
    (second-scripts files (Err c.in_err-measure.field-0.0) (size at.In_ok-push_new_files) (sym c.in_err-measure.was ∙ measured at.After-measure))

pub returns-clause-exact : goal.returns-clause-exact
returns-clause-exact c =
    let files = upgraded c.args.words.now (files_of c.args.site.now) in
    let at = goal.at.returns-clause-exact c in
    second-scripts files (Ok tt) (size at.In_ok-push_new_files) (sym c.in_ok-measure.was ∙ measured at.After-measure)
    ∙ ap Ok (sym c.in_ok-push_new_files.ensures.image)

pub returns-clause-reads : goal.returns-clause-reads
returns-clause-reads c =
    let at = goal.at.returns-clause-reads c in
    let is = loaded at.After-site in
    let olds = files_of c.args.site.now in
    ap read_image c.in_ok-push_new_files.ensures.image
    ∙ second-reads c.args.words.now olds c.requires is.good is.apart (omega (arith, is.few, length-map c.args.site.now.files (file_in c.args.site.now.image)))
    (size at.In_ok-push_new_files) (sym c.in_ok-measure.was ∙ measured at.After-measure)
