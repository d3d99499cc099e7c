use Rattle.uip_device.proofs.Prelude.{cut_at, whole, is_stop, word_of, SpaceOrLine, ap, sym, ◌∙◌}
use Rattle.uip_device.proofs.query.target_in.Goals as goal

pub returns-in-Some : goal.returns-in-Some
returns-in-Some c =
    cut_at (is_stop SpaceOrLine) c.after_method-rest.result.now c.in-Some.end (sym c.end_in.ensures ∙ c.in-Some.is)
    ∙ ap (word_of SpaceOrLine) c.after_method-rest.ensures

pub returns-in-None : goal.returns-in-None
returns-in-None c =
    whole (is_stop SpaceOrLine) c.after_method-rest.result.now (sym c.end_in.ensures ∙ c.in-None.is)
    ∙ ap (word_of SpaceOrLine) c.after_method-rest.ensures
