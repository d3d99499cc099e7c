-- The line is that of the world's clients and datagrams.
use Rattle.link_replay.proofs.Prelude.{◌≡◌, ℕ, List, map, ap, subst, ◌∙◌, on_err_weaker, on_ok_weaker, Appends, AppendsPrefix, CodeSent}
use Rattle.link_replay.proofs.Prelude.{CodeSide, code_side_shown, World, LinkRepresents, Link, summary_of, tally_line, tally_of, Tally}
use Rattle.link_replay.proofs.Transmission.{wrote_by}
use Rattle.link_replay.proofs.Shown.{tally_reported}
use Rattle.link_replay.proofs.world.WorldOf.summary.Goals as goal

-- what holds for the line of these counts holds for the summary of a world that they represent
of_world : (P : List ℕ → Type 0) (link : Link) (w : World) → LinkRepresents link w
    → P (tally_line (tally_of (map code_side_shown link.sides) (map (λ e. e.again) link.sent))) → P (summary_of w)
of_world P link w st h = subst (λ (t : Tally). P (tally_line t)) (tally_reported link w st) h

pub returns-clause-shows : goal.returns-clause-shows
returns-clause-shows g c = rw (← c.self.view_is) (
    let shown : List CodeSide → List CodeSent → Tally = λ sides sent. tally_of (map code_side_shown sides) (map (λ e. e.again) sent) in
    let sides : List CodeSide = c.self.inside.sides.items in
    let sent : List CodeSent = c.self.inside.sent.items in
    let tally : Tally = c.count_up-tally.result in
    let made : c.bytes.result.now ≡ tally_line tally = ◌∙◌ {b = c.line_of-line.result} {c = tally_line tally} c.bytes.ensures c.line_of-line.ensures in
    let same : tally ≡ shown sides sent
    = c.count_up-tally.ensures
    ∙ ap (λ (xs : List CodeSide). shown xs c.as_slice-2.result.now) c.as_slice.ensures.value
    ∙ ap (λ (ys : List CodeSent). shown sides ys) c.as_slice-2.ensures.value in
    wrote_by _ _ c.write_whole.result c.bytes.result.now (tally_line (shown sides sent)) (made ∙ ap (λ (t : Tally). tally_line t) same)
    (record { whole = c.write_whole.ensures.whole; prefix = c.write_whole.ensures.prefix }))

pub returns-clause-ok : goal.returns-clause-ok
returns-clause-ok g c =
    on_ok_weaker c.write_whole.result
    (λ wrote w represented. of_world (Appends (g.K.Sink.written c.args.sink.now) (g.K.Sink.written c.write_whole.new.self))
    c.args.self.now.link w represented.link wrote)
    (returns-clause-shows g c).whole

pub returns-clause-err : goal.returns-clause-err
returns-clause-err g c =
    on_err_weaker c.write_whole.result
    (λ wrote w represented. of_world (AppendsPrefix (g.K.Sink.written c.args.sink.now) (g.K.Sink.written c.write_whole.new.self))
    c.args.self.now.link w represented.link wrote)
    (returns-clause-shows g c).prefix
