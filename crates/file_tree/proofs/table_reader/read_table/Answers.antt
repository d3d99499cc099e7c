use Rattle.file_tree.proofs.Prelude.{◌≡◌, [], List, ◌++◌, length, take, drop, Ok, Err, ap, sym, subst, ◌∙◌, arith, err_from_is_err_and}
use Rattle.file_tree.proofs.Prelude.{take_at, length-drop, length-map, Place, entries, scripts, read_image, file_in, files_in, Fails}
use Rattle.file_tree.proofs.Prelude.{IsIndex, AreMeasured, image-reads}
use Rattle.file_tree.proofs.ReadLemmas.{read-at-head, read-at-entries, read-at-rest, read-at-end, image-files-are, gives-fault, gives-same}
use Rattle.file_tree.proofs.GoodLemmas.{image-good, image-apart}
use Rattle.file_tree.proofs.table_reader.read_table.Goals as goal
use Rattle.file_tree.proofs.table_reader.read_table.Goals.{In_ok-measure}

pub returns-in_err-version-clause-exact : goal.returns-in_err-version-clause-exact
returns-in_err-version-clause-exact c =
    let p = err_from_is_err_and c.from_residual.result c.from_residual.ensures.1 in
    gives-fault _ c.from_residual.result p.0 c.in_err-version.field-0.0 (read_image c.args.image.now) p.1 p.2
    (read-at-head c.args.image.now c.in_err-version.field-0.0 (sym c.in_err-version.ensures.head))

pub returns-in_err-table-clause-exact : goal.returns-in_err-table-clause-exact
returns-in_err-table-clause-exact c =
    let p = err_from_is_err_and c.from_residual-in_err-table.result c.from_residual-in_err-table.ensures.1 in
    gives-same _ c.from_residual-in_err-table.result p.0 (entries c.in_ok-version.version c.in_ok-version.count []
    (drop 10 c.args.image.now)) (read_image c.args.image.now) p.1
    (subst (λ f. Fails f (entries c.in_ok-version.version c.in_ok-version.count [] (drop 10 c.args.image.now))) (sym p.2) c.in_err-table.ensures.err)
    (λ e h. read-at-entries c.args.image.now (c.in_ok-version.version, c.in_ok-version.count) e (sym c.in_ok-version.ensures.head) h)

pub returns-then-table-image-clause-exact : goal.returns-then-table-image-clause-exact
returns-then-table-image-clause-exact c =
    let image = c.args.image.now in
    read-at-rest image (c.in_ok-version.version, c.in_ok-version.count) (files_in image c.in_ok-table.table.files.items) (drop c.in_ok-table.table.next image)
    (sym c.in_ok-version.ensures.head) c.in_ok-table.ensures.ok
    (omega (arith, length-drop c.in_ok-table.table.next image, c.if-table-image.true))

pub returns-in_err-measure-clause-exact : goal.returns-in_err-measure-clause-exact
returns-in_err-measure-clause-exact c =
    let p = err_from_is_err_and c.from_residual-in_err-measure.result c.from_residual-in_err-measure.ensures.1 in
    let image = c.args.image.now in
    let places = c.in_ok-table.table.files.items in
    let files = files_in image places in
    gives-fault _ c.from_residual-in_err-measure.result p.0 c.in_err-measure.field-0.0 (read_image image) p.1 p.2
    (read-at-end image (c.in_ok-version.version, c.in_ok-version.count) files (drop c.in_ok-table.table.next image) (Err c.in_err-measure.field-0.0)
    (sym c.in_ok-version.ensures.head) c.in_ok-table.ensures.ok (omega (arith, length-drop c.in_ok-table.table.next image, c.if-table-image.false))
    (c.in_err-measure.ensures.scripts ∙ ap (λ ps. scripts (files_in image ps) 0 (files_in image ps)) c.deref_mut.ensures.value))

-- the places as the measuring left them
places : In_ok-measure → List Place
places c = take c.in_ok-table.table.files.len (c.measure.new.files ++ drop (length c.measure.new.files) c.in_ok-table.table.files.items)

same-files : (c : In_ok-measure) → files_in c.args.image.now c.measure.new.files ≡ files_in c.args.image.now c.in_ok-table.table.files.items
same-files c = c.in_ok-measure.ensures.same ∙ ap (files_in c.args.image.now) c.deref_mut.ensures.value

places-are : (c : In_ok-measure) → places c ≡ c.measure.new.files
unfolding places
places-are c =
    let new = c.measure.new.files in
    let old = c.in_ok-table.table.files.items in
    let image = c.args.image.now in
    let counted : length new ≡ c.in_ok-table.table.files.len =
    sym (length-map new (file_in image)) ∙ ap length (same-files c) ∙ length-map old (file_in image) ∙ sym c.in_ok-table.table.files.ok.0 in
    take_at new (drop (length new) old) c.in_ok-table.table.files.len counted

is-read : (c : In_ok-measure) → read_image c.args.image.now ≡ Ok (files_in c.args.image.now (places c))
is-read c =
    let image = c.args.image.now in
    let old = c.in_ok-table.table.files.items in
    read-at-end image (c.in_ok-version.version, c.in_ok-version.count) (files_in image old) (drop c.in_ok-table.table.next image) (Ok c.in_ok-measure.field-0)
    (sym c.in_ok-version.ensures.head) c.in_ok-table.ensures.ok (omega (arith, length-drop c.in_ok-table.table.next image, c.if-table-image.false))
    (c.in_ok-measure.ensures.scripts ∙ ap (λ ps. scripts (files_in image ps) 0 (files_in image ps)) c.deref_mut.ensures.value)
    ∙ ap Ok (sym (same-files c) ∙ ap (files_in image) (sym (places-are c)))

pub returns-clause-exact : goal.returns-clause-exact
unfolding places
returns-clause-exact c = is-read c

pub returns-clause-loaded : goal.returns-clause-loaded
unfolding places
returns-clause-loaded c =
    let image = c.args.image.now in
    let size = c.in_ok-version.ensures.size in
    let count = c.in_ok-table.ensures.count_is in
    let few = c.in_ok-version.ensures.few in
    let counted : length (places c) ≡ length c.in_ok-table.table.files.items =
    ap length (places-are c) ∙ sym (length-map c.measure.new.files (file_in image)) ∙ ap length (same-files c)
    ∙ length-map c.in_ok-table.table.files.items (file_in image) in
    record {
      read = image-files-are image (files_in image (places c)) (omega (arith, size.0)) (is-read c);
      good = image-good image (files_in image (places c)) (image-reads image (files_in image (places c)) (λ i. omega (arith, c.type_inv.image i)) (is-read c));
      apart = image-apart image (files_in image (places c)) (image-reads image (files_in image (places c))
          (λ i. omega (arith, c.type_inv.image i)) (is-read c));
      size = size.1;
      few = omega (arith, counted, count, few);
      table = subst (λ ps. IsIndex image ps c.in_ok-table.table.order.items) (sym (places-are c))
          (subst (λ os. IsIndex image c.measure.new.files os) c.deref.ensures.value c.in_ok-measure.ensures.table);
      measured = subst (AreMeasured image) (sym (places-are c)) c.in_ok-measure.ensures.measured;
    }
