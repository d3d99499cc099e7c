use Rattle.link_replay.proofs.Prelude.{◌++◌, codes, err_from_is_err_and, digits_or_dash}
use Rattle.link_replay.proofs.Transmission.{wrote_stop, wrote_then}
use Rattle.link_replay.proofs.report.hex_text.write_text_line.Goals as goal

pub returns-in_err-write_word-clause-wrote : goal.returns-in_err-write_word-clause-wrote
returns-in_err-write_word-clause-wrote g c =
    let digits = digits_or_dash c.args.bytes.now in
    let p = err_from_is_err_and c.from_residual.result c.from_residual.ensures.1 in
    wrote_stop _ _ (codes "text ") (digits ++ codes "\n") c.in_err-write_word.field-0.0 p.0 c.from_residual.result p.1 c.in_err-write_word.ensures.wrote

pub returns-in_err-write_text-clause-wrote : goal.returns-in_err-write_text-clause-wrote
returns-in_err-write_text-clause-wrote g c =
    let digits = digits_or_dash c.args.bytes.now in
    let r = c.from_residual-in_err-write_text.result in
    let p = err_from_is_err_and r c.from_residual-in_err-write_text.ensures.1 in
    wrote_then _ _ _ (codes "text ") (digits ++ codes "\n") c.in_ok-write_word.field-0 r c.in_ok-write_word.ensures.wrote
    (wrote_stop _ _ digits (codes "\n") c.in_err-write_text.field-0.0 p.0 r p.1 c.in_err-write_text.ensures.wrote)

pub returns-clause-wrote : goal.returns-clause-wrote
returns-clause-wrote g c =
    let digits = digits_or_dash c.args.bytes.now in
    let r = c.write_word-2.result in
    wrote_then _ _ _ (codes "text ") (digits ++ codes "\n") c.in_ok-write_word.field-0 r c.in_ok-write_word.ensures.wrote
    (wrote_then _ _ _ digits (codes "\n") c.in_ok-write_text.field-0 r c.in_ok-write_text.ensures.wrote c.write_word-2.ensures.wrote)
