use Rattle.link_replay.proofs.Prelude.{List, ℕ, ap, ◌∙◌, err_from_is_err_and, word_if, CodeSide, client_line, text_line, code_side_shown}
use Rattle.link_replay.proofs.Transmission.{wrote_by, wrote_stop, wrote_then}
use Rattle.link_replay.proofs.report.clients.write_client.Goals as goal

pub returns-in_err-write_word-clause-wrote : goal.returns-in_err-write_word-clause-wrote
returns-in_err-write_word-clause-wrote g c =
    let side = c.args.side.now in
    let line = client_line c.args.show c.args.number (code_side_shown side) in
    let text = word_if c.args.show (text_line side.received) in
    let p = err_from_is_err_and c.from_residual.result c.from_residual.ensures.1 in
    wrote_stop _ _ line text c.in_err-write_word.field-0.0 p.0 c.from_residual.result p.1
    (wrote_by _ _ _ c.bytes.result.now line (c.bytes.ensures ∙ c.client_line.ensures) c.in_err-write_word.ensures.wrote)

pub returns-clause-wrote : goal.returns-clause-wrote
returns-clause-wrote g c =
    let side = c.args.side.now in
    let line = client_line c.args.show c.args.number (code_side_shown side) in
    let text = word_if c.args.show (text_line side.received) in
    let r = c.write_received.result in
    wrote_then _ _ _ line text c.in_ok-write_word.field-0 r
    (wrote_by _ _ _ c.bytes.result.now line (c.bytes.ensures ∙ c.client_line.ensures) c.in_ok-write_word.ensures.wrote)
    (wrote_by _ _ r _ text (ap (λ (l : List ℕ). word_if c.args.show (text_line l)) (c.deref.ensures.value
    ∙ ap (λ (x : CodeSide). x.received) c.side.view_is)) c.write_received.ensures.wrote)
