use Rattle.link_replay.proofs.Prelude.{◌≡◌, ◌+◌, length, map, refl, ◌∙◌, slice_get_read, err_from_is_err_and, CodeSide, ShownSide}
use Rattle.link_replay.proofs.Prelude.{lines_of_client, code_side_shown}
use Rattle.link_replay.proofs.Listing.{texts_end, texts_more, texts_stop}
use Rattle.link_replay.proofs.Matching.{matched_image}
use Rattle.link_replay.proofs.Shown.{lines_reported}
use Rattle.link_replay.proofs.report.clients.write_clients.Goals as goal

pub returns-in_err-write_client-clause-wrote : goal.returns-in_err-write_client-clause-wrote
returns-in_err-write_client-clause-wrote g c =
    let xs = c.args.sides.now in
    let P : CodeSide → ShownSide → Type 0 = λ x y. code_side_shown x ≡ y in
    let place = c.loop-place.place in
    let p = err_from_is_err_and c.from_residual.result c.from_residual.ensures.1 in
    let at = slice_get_read xs (length xs) place c.index-sides-place.result refl c.loop-place-test.true c.index-sides-place.is in
    let m = matched_image code_side_shown xs in
    texts_stop P xs (map code_side_shown xs) (lines_of_client c.args.show) m place c.index-sides-place.result _ _ _
    c.in_err-write_client.field-0.0 p.0 c.from_residual.result p.1 at
    c.loop-place.invariant.transmitting (λ y here same. lines_reported c.args.show (place + 1) c.index-sides-place.result y _ _ _ same
    c.in_err-write_client.ensures.wrote)

pub loop-place-preserved : goal.loop-place-preserved
loop-place-preserved g c =
    let xs = c.args.sides.now in
    let P : CodeSide → ShownSide → Type 0 = λ x y. code_side_shown x ≡ y in
    let place = c.loop-place.place in
    let at = slice_get_read xs (length xs) place c.index-sides-place.result refl c.loop-place-test.true c.index-sides-place.is in
    let m = matched_image code_side_shown xs in
    record {
      transmitting = texts_more P xs (map code_side_shown xs) (lines_of_client c.args.show) m place c.index-sides-place.result _ _ _
          c.in_ok-write_client.field-0 at
          c.loop-place.invariant.transmitting (λ y here same. lines_reported c.args.show (place + 1) c.index-sides-place.result y _ _ _ same
          c.in_ok-write_client.ensures.wrote);
      same = c.in_ok-write_client.ensures.cause.same ∙ c.loop-place.invariant.same;
    }

pub returns-clause-wrote : goal.returns-clause-wrote
returns-clause-wrote g c =
    let xs = c.args.sides.now in
    let P : CodeSide → ShownSide → Type 0 = λ x y. code_side_shown x ≡ y in
    texts_end P xs (map code_side_shown xs) (lines_of_client c.args.show) (matched_image code_side_shown xs) c.loop-place.place _ _ tt c.loop-place-test.false
    c.loop-place.invariant.transmitting
