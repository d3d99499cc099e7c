-- The text of a segment in order is accepted.
use Rattle.link_client.proofs.Prelude.{true, sym, ap, ◌∙◌, plain, abstract_client, sends_next}
use Rattle.link_client.proofs.Taking.{takes_next}
use Rattle.link_client.proofs.client.Client.accept.Goals as goal

pub returns-then-is_next-clause-step : goal.returns-then-is_next-clause-step
returns-then-is_next-clause-step c = λ request received.
    takes_next (abstract_client c.args.self.now request received) (plain c.args.segment.now c.args.piece.now)
    (sym c.has_syn.ensures ∙ c.if-has_syn.false)
    (sym c.occupies_sequence_space.ensures ∙ c.if-not-occupies_sequence_space.false)
    (sym c.is_next.ensures ∙ c.if-is_next.true)
    ∙ ap (sends_next true) (c.take_text.ensures.taken request received)
