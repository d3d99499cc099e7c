use Rattle.link_replay.proofs.Prelude.{◌≡◌, ℕ, ◌-◌, suc, sym, arith, refl, subst, set, advertises_window, Side, client_stepped, with_client}
use Rattle.link_replay.proofs.Prelude.{LinkRepresents, Link, link_of}
use Rattle.link_replay.proofs.Pairs.{there_is}
use Rattle.link_replay.proofs.Places.{side_put}
use Rattle.link_replay.proofs.Sending
use Rattle.link_replay.proofs.world.client_acts.advertise_window.Goals as goal

pub returns-clause-reported : goal.returns-clause-reported
returns-clause-reported c = λ w sent h.
    let n : ℕ = c.from-place.result - 1 in
    let is : c.args.number ≡ suc n = omega arith in
    let link : Link = link_of c.args.sides.now.items sent in
    let after : Link = record link { sides = set c.args.sides.now.items n c.advertise_window.new.self } in
    Sending.done_at link after w c.args.number n c.index_mut.result.now (λ s. client_stepped w c.args.number s (advertises_window c.args.window s.client)) is h
    (there_is c.args.sides.now.items n c.index_mut.result.now c.index_mut.ensures.value (omega arith))
    (λ s g o. let t : Side = with_client s (advertises_window c.args.window s.client).client in
    subst (λ k. LinkRepresents after (client_stepped w k s (advertises_window c.args.window s.client))) (sym is)
    (side_put link w n c.advertise_window.new.self s t h g refl (c.advertise_window.ensures.step s o)))
