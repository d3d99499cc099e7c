-- A RST counts or does not.
use Rattle.link_client.proofs.Prelude.{Bool, sym, ap, ◌∙◌, if◌then◌else◌, abstract_client, Client, AbstractClient, Reset}
use Rattle.link_client.proofs.client.Client.take_reset.Goals as goal

abbrev by : AbstractClient → Bool → AbstractClient
by a b = if b then record a { state = Reset } else a

pub returns-then-is_reset_by-clause-reset : goal.returns-then-is_reset_by-clause-reset
returns-then-is_reset_by-clause-reset c = λ request received text.
    ap (by (abstract_client c.args.self.now request received)) (c.is_reset_by.ensures request received text ∙ c.if-is_reset_by.true)
    ∙ ap (λ (v : Client). record (abstract_client v request received) { state = Reset }) (sym c.self.view_is)

pub returns-else-is_reset_by-clause-reset : goal.returns-else-is_reset_by-clause-reset
returns-else-is_reset_by-clause-reset c = λ request received text.
    ap (by (abstract_client c.args.self.now request received)) (c.is_reset_by.ensures request received text ∙ c.if-is_reset_by.false)
