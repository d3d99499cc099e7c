use Rattle.link_replay.proofs.Prelude.{◌∙◌, err_from_is_err_and, encode_lower}
use Rattle.link_replay.proofs.Transmission.{sending_more, sending_stops, sending_ends}
use Rattle.link_replay.proofs.Listing.{digits_parts}
use Rattle.link_replay.proofs.report.hex_text.write_digits.Goals as goal

pub returns-in_err-write_block-clause-wrote : goal.returns-in_err-write_block-clause-wrote
returns-in_err-write_block-clause-wrote g c =
    let rest = c.loop-rest.rest.now in
    let block = c.split_at.result.0.now in
    let others = c.split_at.result.1.now in
    let p = err_from_is_err_and c.from_residual.result c.from_residual.ensures.1 in
    sending_stops _ _ _ _ (encode_lower rest) (encode_lower block) (encode_lower others) c.in_err-write_block.field-0.0 p.0 c.from_residual.result p.1
    c.loop-rest.invariant.transmitting (digits_parts 64 rest block others c.split_at.ensures.front c.split_at.ensures.back) c.in_err-write_block.ensures.wrote

pub loop-rest-preserved : goal.loop-rest-preserved
loop-rest-preserved g c =
    let rest = c.loop-rest.rest.now in
    let block = c.split_at.result.0.now in
    let others = c.split_at.result.1.now in
    record {
      transmitting = sending_more _ _ _ _ (encode_lower rest) (encode_lower block) (encode_lower others) c.in_ok-write_block.field-0
          c.loop-rest.invariant.transmitting (digits_parts 64 rest block others c.split_at.ensures.front c.split_at.ensures.back)
          c.in_ok-write_block.ensures.wrote;
      same = c.in_ok-write_block.ensures.cause.same ∙ c.loop-rest.invariant.same;
    }

pub returns-clause-wrote : goal.returns-clause-wrote
returns-clause-wrote g c = sending_ends _ _ _ _ _ c.write_block-2.result c.loop-rest.invariant.transmitting c.write_block-2.ensures.wrote
