use Rattle.link_replay.proofs.Prelude.{◌≡◌, ◌++◌, ℕ, List, length, map, ap, subst, ◌∙◌, OnOk, err_from_is_err_and, CodeSent, CodeSide}
use Rattle.link_replay.proofs.Prelude.{EndsReport, code_side_shown, IsLink, LinkRepresents, Link, link_of, word_if, counts_line}
use Rattle.link_replay.proofs.Prelude.{line_of_datagram, lines_of_client, numbered_texts, side_shown, ticks_of}
use Rattle.link_replay.proofs.Places.{link_read}
use Rattle.link_replay.proofs.Transmission.{wrote_by, wrote_stop, wrote_then}
use Rattle.link_replay.proofs.Shown.{lines_represent, not_done, report_ends}
use Rattle.link_replay.proofs.Representing.{counts_represent}
use Rattle.link_replay.proofs.report.write_report.Goals as goal

pub returns-in_err-write_shown-clause-wrote : goal.returns-in_err-write_shown-clause-wrote
returns-in_err-write_shown-clause-wrote g c = rw (← c.world.view_is) (λ m served w represented reached.
    let read : LinkRepresents (link_of c.as_slice-sides.result.now c.as_slice-sent.result.now) w
    × IsLink w.node.addr (link_of c.as_slice-sides.result.now c.as_slice-sent.result.now)
    = link_read (λ (l : Link). LinkRepresents l w × IsLink w.node.addr l) _ _ _ _ c.as_slice-sides.ensures.value
    c.as_slice-sent.ensures.value (represented.link, represented.home) in
    let show = c.args.show in
    let p = err_from_is_err_and c.from_residual.result c.from_residual.ensures.1 in
    let shown = word_if show (numbered_texts line_of_datagram 1 w.sent) in
    let clients = numbered_texts (lines_of_client show) 1 (map side_shown w.sides) in
    let last = counts_line (ticks_of w.node.history) (length w.sent) in
    wrote_stop _ _ shown (clients ++ last)
    c.in_err-write_shown.field-0.0 p.0 c.from_residual.result p.1 (c.in_err-write_shown.ensures.wrote m served w
    (c.addr.ensures ∙ represented.node.addr) read.0 read.1 reached))

pub returns-in_err-write_clients-clause-wrote : goal.returns-in_err-write_clients-clause-wrote
returns-in_err-write_clients-clause-wrote g c = rw (← c.world.view_is) (λ m served w represented reached.
    let read : LinkRepresents (link_of c.as_slice-sides.result.now c.as_slice-sent.result.now) w
    × IsLink w.node.addr (link_of c.as_slice-sides.result.now c.as_slice-sent.result.now)
    = link_read (λ (l : Link). LinkRepresents l w × IsLink w.node.addr l) _ _ _ _ c.as_slice-sides.ensures.value
    c.as_slice-sent.ensures.value (represented.link, represented.home) in
    let show = c.args.show in
    let clients = numbered_texts (lines_of_client show) 1 (map side_shown w.sides) in
    let last = counts_line (ticks_of w.node.history) (length w.sent) in
    let r = c.from_residual-in_err-write_clients.result in
    let p = err_from_is_err_and r c.from_residual-in_err-write_clients.ensures.1 in
    let shown = word_if show (numbered_texts line_of_datagram 1 w.sent) in
    wrote_then _ _ _ shown (clients ++ last) c.in_ok-write_shown.field-0 r
    (c.in_ok-write_shown.ensures.wrote m served w (c.addr.ensures ∙ represented.node.addr) read.0 read.1 reached)
    (wrote_stop _ _ clients last c.in_err-write_clients.field-0.0 p.0 r p.1
    (wrote_by _ _ _ _ clients (lines_represent show c.as_slice-sides.result.now w.sides read.0.sides) c.in_err-write_clients.ensures.wrote)))

pub returns-clause-wrote : goal.returns-clause-wrote
returns-clause-wrote g c = rw (← c.world.view_is) (λ m served w represented reached.
    let read : LinkRepresents (link_of c.as_slice-sides.result.now c.as_slice-sent.result.now) w
    × IsLink w.node.addr (link_of c.as_slice-sides.result.now c.as_slice-sent.result.now)
    = link_read (λ (l : Link). LinkRepresents l w × IsLink w.node.addr l) _ _ _ _ c.as_slice-sides.ensures.value
    c.as_slice-sent.ensures.value (represented.link, represented.home) in
    let show = c.args.show in
    let shown = word_if show (numbered_texts line_of_datagram 1 w.sent) in
    let clients = numbered_texts (lines_of_client show) 1 (map side_shown w.sides) in
    let last = counts_line (ticks_of w.node.history) (length w.sent) in
    let r = c.write_word.result in
    let count : ℕ = length c.as_slice-sent.result.now in
    let text = counts_line c.ticks.result count in
    let made : c.bytes.result.now ≡ text = ◌∙◌ {b = c.last_line-line.result} {c = text} c.bytes.ensures c.last_line-line.ensures in
    let line : text ≡ last = counts_represent _ _ _ _ (c.ticks.ensures ∙ represented.node.counts.ticks) read.0.sent.same_length in
    wrote_then _ _ _ shown (clients ++ last) c.in_ok-write_shown.field-0 r
    (c.in_ok-write_shown.ensures.wrote m served w (c.addr.ensures ∙ represented.node.addr) read.0 read.1 reached)
    (wrote_then _ _ _ clients last c.in_ok-write_clients.field-0 r
    (wrote_by _ _ _ _ clients (lines_represent show c.as_slice-sides.result.now w.sides read.0.sides) c.in_ok-write_clients.ensures.wrote)
    (wrote_by _ _ r text last line (wrote_by _ _ r c.bytes.result.now text made c.write_word.ensures.wrote))))

pub returns-in_err-write_shown-clause-shows : goal.returns-in_err-write_shown-clause-shows
returns-in_err-write_shown-clause-shows g c =
    let p = err_from_is_err_and c.from_residual.result c.from_residual.ensures.1 in
    not_done c.from_residual.result p.0 _ p.1

pub returns-in_err-write_clients-clause-shows : goal.returns-in_err-write_clients-clause-shows
returns-in_err-write_clients-clause-shows g c =
    let r = c.from_residual-in_err-write_clients.result in
    let p = err_from_is_err_and r c.from_residual-in_err-write_clients.ensures.1 in
    not_done r p.0 _ p.1

pub returns-clause-shows : goal.returns-clause-shows
returns-clause-shows g c = rw (← c.world.view_is) (
    let show = c.args.show in
    let sides : List CodeSide = c.as_slice-sides.result.now in
    let all : List CodeSide = c.world.inside.sides.items in
    let count : ℕ = length c.as_slice-sent.result.now in
    let r = c.write_word.result in
    let text = counts_line c.ticks.result count in
    let made : c.bytes.result.now ≡ text = ◌∙◌ {b = c.last_line-line.result} {c = text} c.bytes.ensures c.last_line-line.ensures in
    let clients = numbered_texts (lines_of_client show) 1 (map code_side_shown sides) in
    let reported = numbered_texts (lines_of_client show) 1 (map code_side_shown all) in
    let same = ap (λ (xs : List CodeSide). numbered_texts (lines_of_client show) 1 (map code_side_shown xs) ++ text) c.as_slice-sides.ensures.value
    ∙ ap (λ (xs : List CodeSent). reported ++ counts_line c.ticks.result (length xs)) c.as_slice-sent.ensures.value
    ∙ ap (λ (ticks : ℕ). reported ++ counts_line ticks (length c.world.inside.sent.items)) c.ticks.ensures in
    subst (λ (end : List ℕ). OnOk r (EndsReport show (g.K.Sink.written c.args.sink.now) (g.K.Sink.written c.write_word.new.sink) end)) same
    (report_ends show _ _ _ _ clients text r c.in_ok-write_shown.ensures.some c.in_ok-write_clients.ensures.wrote.whole
    (wrote_by _ _ r c.bytes.result.now text made c.write_word.ensures.wrote)))
