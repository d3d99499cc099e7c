use Rattle.link_replay.proofs.Prelude.{Bool, List, length, sym, ◌∙◌, ◌==◌, length-map, is_none, not, column, CodeSent, CodeSide}
use Rattle.link_replay.proofs.Prelude.{code_side_shown}
use Rattle.link_replay.proofs.Counted.{count_image, same_tally, sum_image}
use Rattle.link_replay.proofs.report.tally.count_up.Goals as goal

pub returns : goal.returns
returns c =
    let sides : List CodeSide = c.args.sides.now in
    let sent : List CodeSent = c.args.sent.now in
    same_tally _ _ _ _ _ _ _ _ _ _ _ _ _ _ _ _
    (c.count_in-closed.ensures ∙ count_image (λ side. column side.state == 0) code_side_shown sides)
    (c.count_in-opened.ensures ∙ count_image (λ side. column side.state == 1) code_side_shown sides)
    (c.count_in-reset.ensures ∙ count_image (λ side. column side.state == 2) code_side_shown sides)
    (c.count_in-other.ensures ∙ count_image (λ side. column side.state == 3) code_side_shown sides)
    (c.stale.ensures ∙ count_image (λ side. not (is_none side.first_stale)) code_side_shown sides)
    (c.bytes_taken.ensures ∙ sum_image (λ side. length side.received) code_side_shown sides)
    (sym (length-map sent (λ e. e.again)))
    (c.again.ensures ∙ count_image (λ (it : Bool). it) (λ (e : CodeSent). e.again) sent)
