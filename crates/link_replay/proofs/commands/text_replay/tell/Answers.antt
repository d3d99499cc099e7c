use Rattle.link_replay.proofs.Prelude.{refl, inl, inr}
use Rattle.link_replay.proofs.commands.text_replay.tell.Goals as goal

pub returns-in-Ok : goal.returns-in-Ok
returns-in-Ok g c = λ m served w represented at. inl (refl, record { whole = c.in-Ok.ensures.ok m served w represented at; same = c.in-Ok.ensures.cause.same })

pub returns-in-Err : goal.returns-in-Err
returns-in-Err g c = λ m served w represented at. inr
    (refl, record { prefix = c.in-Err.ensures.err m served w represented at; rose = c.in-Err.ensures.cause.failed })
