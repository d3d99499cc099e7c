use Rattle.file_tree.proofs.Prelude.{◌≡◌, ◌≤◌, [], length, Ok, Err, ap, sym, subst, ◌∙◌, arith, err_from_is_err_and, length-map}
use Rattle.file_tree.proofs.Prelude.{LONGEST_IMAGE, MOST_FILES, One, image, scripts, read_image, files_in, Fails, HeldFile, file_of, listed}
use Rattle.file_tree.proofs.Prelude.{named, packed}
use Rattle.file_tree.proofs.PackLemmas.{fine}
use Rattle.file_tree.proofs.PackedLemmas.{packed-long, packed-many, packed-names, packed-scripts, packed-reads, are-listed}
use Rattle.file_tree.proofs.ReadLemmas.{gives-fault, gives-same}
use Rattle.file_tree.proofs.packer.pack.Goals as goal
use Rattle.file_tree.proofs.packer.pack.Goals.{Else-list-gt-MOST_FILES, After-measure, In_ok-measure}

pub returns-in_default-clause-exact : goal.returns-in_default-clause-exact
returns-in_default-clause-exact c = packed-long (listed c.args.list.now) c.in_default.ensures.long

pub returns-then-list-gt-MOST_FILES-clause-exact : goal.returns-then-list-gt-MOST_FILES-clause-exact
returns-then-list-gt-MOST_FILES-clause-exact c =
    let list = c.args.list.now in
    packed-many (listed list) (omega (arith, c.in-Some.ensures.fits.0, c.in-Some.ensures.fits.1))
    (omega (arith, c.if-list-gt-MOST_FILES.true, length-map list (λ (x : HeldFile). file_of x.name x.content)))

size : (c : Else-list-gt-MOST_FILES) → length (image One (listed c.args.list.now)) ≤ LONGEST_IMAGE
size c = omega (arith, c.in-Some.ensures.fits.0, c.in-Some.ensures.fits.1)

few : (c : Else-list-gt-MOST_FILES) → length (listed c.args.list.now) ≤ MOST_FILES
few c = omega (arith, c.if-list-gt-MOST_FILES.false, length-map c.args.list.now (λ (x : HeldFile). file_of x.name x.content))

pub returns-in_err-push_all-clause-exact : goal.returns-in_err-push_all-clause-exact
returns-in_err-push_all-clause-exact c =
    let p = err_from_is_err_and c.from_residual-in_err-push_all.result c.from_residual-in_err-push_all.ensures.1 in
    let files = listed c.args.list.now in
    let at = (goal.at.returns-in_err-push_all-clause-exact c).Else-list-gt-MOST_FILES in
    gives-same _ c.from_residual-in_err-push_all.result p.0 (named [] files) (packed files) p.1
    (subst (λ f. Fails f (named [] files)) (sym p.2) c.in_err-push_all.ensures.names)
    (λ e h. packed-names files e (size at) (few at) h)

-- the scripts of the list, as they were measured
measured : (c : After-measure) → c.measure.result ≡ scripts (listed c.args.list.now) 0 (listed c.args.list.now)
measured c =
    let files_are = ap (λ x. files_in x c.deref_mut.result.now) c.deref.ensures.value ∙ ap (files_in c.push_all.new.draft.image.items)
    c.deref_mut.ensures.value ∙ c.in_ok-push_all.ensures.files in
    c.measure.ensures.scripts ∙ ap (λ fs. scripts fs 0 fs) files_are

pub returns-in_err-measure-clause-exact : goal.returns-in_err-measure-clause-exact
returns-in_err-measure-clause-exact c =
    let p = err_from_is_err_and c.from_residual-in_err-measure.result c.from_residual-in_err-measure.ensures.1 in
    let files = listed c.args.list.now in
    let at = (goal.at.returns-in_err-measure-clause-exact c).Else-list-gt-MOST_FILES in
    gives-fault _ c.from_residual-in_err-measure.result p.0 c.in_err-measure.field-0.0 (packed files) p.1 p.2
    (packed-scripts files (Err c.in_err-measure.field-0.0) (size at) (few at) c.in_ok-push_all.ensures.names
    (sym c.in_err-measure.was ∙ measured (goal.at.returns-in_err-measure-clause-exact c).After-measure))

pub returns-clause-exact : goal.returns-clause-exact
returns-clause-exact c =
    let files = listed c.args.list.now in
    let at = (goal.at.returns-clause-exact c).Else-list-gt-MOST_FILES in
    packed-scripts files fine (size at) (few at) c.in_ok-push_all.ensures.names (sym c.in_ok-measure.was
    ∙ measured (goal.at.returns-clause-exact c).After-measure)
    ∙ ap Ok (sym c.in_ok-push_all.ensures.image)

pub returns-clause-reads : goal.returns-clause-reads
returns-clause-reads c =
    let files = listed c.args.list.now in
    let at = (goal.at.returns-clause-reads c).Else-list-gt-MOST_FILES in
    ap read_image c.in_ok-push_all.ensures.image
    ∙ packed-reads files (are-listed c.args.list.now) (size at) (few at) c.in_ok-push_all.ensures.names
    (sym (measured (goal.at.returns-clause-reads c).After-measure) ∙ c.in_ok-measure.was)
