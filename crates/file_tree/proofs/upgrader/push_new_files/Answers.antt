use Rattle.file_tree.proofs.Prelude.{subst, sym, arith, nat_lt, length, IfErr, err_from_is_err_and, LONGEST_IMAGE, TooLong, Two, File}
use Rattle.file_tree.proofs.Prelude.{image, refuse, Fails, files_of, upgraded}
use Rattle.file_tree.proofs.GoodLemmas.{upgraded-good}
use Rattle.file_tree.proofs.UpgradeLemmas.{Upgraded, upgrades-start, upgrades-more, upgrades-long, upgrades-end}
use Rattle.file_tree.proofs.upgrader.push_new_files.Goals as goal
use Rattle.file_tree.proofs.upgrader.push_new_files.Goals.{After-new_file, After-loop-number}

pub loop-number-init : goal.loop-number-init
loop-number-init c = upgrades-start c.args.words.now (files_of c.args.site.now) c.args.image.now.items c.args.files.now.items
    c.requires.head c.requires.no_files

pub overflow_cast-number : goal.overflow_cast-number
overflow_cast-number c = omega (arith, c.requires.few, c.count-number-end.ensures, c.loop-number-test.true)

abbrev file : After-new_file → File
file c = record { name = c.new_file.result.name.now; kind = c.new_file.result.kind.now; content = c.new_file.result.content.now }

pub push_new-requires-clause-name : goal.push_new-requires-clause-name
push_new-requires-clause-name c = (upgraded-good c.args.words.now (files_of c.args.site.now) c.requires.kinds c.requires.good
    c.loop-number.number (file c) c.new_file.ensures).0

pub push_new-requires-clause-kind : goal.push_new-requires-clause-kind
push_new-requires-clause-kind c = (upgraded-good c.args.words.now (files_of c.args.site.now) c.requires.kinds c.requires.good
    c.loop-number.number (file c) c.new_file.ensures).1

pub push_new-requires-clause-within : goal.push_new-requires-clause-within
push_new-requires-clause-within c = c.loop-number.invariant.within

pub returns-in_err-push_new-clause-long : goal.returns-in_err-push_new-clause-long
returns-in_err-push_new-clause-long c =
    let files = upgraded c.args.words.now (files_of c.args.site.now) in
    let own : File = record { name = c.new_file.result.name.now; kind = c.new_file.result.kind.now; content = c.new_file.result.content.now } in
    let long = upgrades-long files c.loop-number.number c.loop-number.image.items c.loop-number.files.items own c.in_err-push_new.field-0.0
    c.loop-number.invariant c.new_file.ensures c.in_err-push_new.ensures.long in
    let p = err_from_is_err_and c.from_residual.result c.from_residual.ensures.1 in
    subst (λ r. IfErr r (λ fault. Fails fault (refuse (nat_lt LONGEST_IMAGE (length (image Two files))) TooLong))) (sym p.1)
    (subst (λ f. Fails f (refuse (nat_lt LONGEST_IMAGE (length (image Two files))) TooLong)) (sym p.2) long)

pub loop-number-preserved : goal.loop-number-preserved
loop-number-preserved c =
    let files = upgraded c.args.words.now (files_of c.args.site.now) in
    let own : File = record { name = c.new_file.result.name.now; kind = c.new_file.result.kind.now; content = c.new_file.result.content.now } in
    upgrades-more files c.loop-number.number c.loop-number.image.items c.push_new.new.image.items c.loop-number.files.items c.push_new.new.files.items own
    c.loop-number.invariant c.new_file.ensures c.in_ok-push_new.ensures.image c.in_ok-push_new.ensures.room c.in_ok-push_new.ensures.files
    c.in_ok-push_new.ensures.within

whole : (c : After-loop-number) → Upgraded (upgraded c.args.words.now (files_of c.args.site.now)) c.loop-number.image.items c.loop-number.files.items
whole c = upgrades-end c.args.words.now (files_of c.args.site.now) c.loop-number.number c.loop-number.image.items c.loop-number.files.items
    c.loop-number.invariant
    (omega (arith, c.loop-number-test.false, c.count-number-end.ensures))

pub returns-clause-image : goal.returns-clause-image
returns-clause-image c = (whole c).made_is

pub returns-clause-room : goal.returns-clause-room
returns-clause-room c = c.loop-number.invariant.room

pub returns-clause-files : goal.returns-clause-files
returns-clause-files c = (whole c).files_are

pub returns-clause-within : goal.returns-clause-within
returns-clause-within c = c.loop-number.invariant.within
