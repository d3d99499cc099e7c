use Rattle.link_replay.proofs.Prelude.{◌≡◌, ℕ, ◌-◌, suc, Some, Option, slice_get, set, refl, sym, ap, ◌∙◌, arith, subst, FitsRequest, Side}
use Rattle.link_replay.proofs.Prelude.{marked, numbered, with_side, LinkRepresents, SideRepresents, Link, link_of, sees, CodeSide}
use Rattle.link_replay.proofs.Pairs.{there_is, partner}
use Rattle.link_replay.proofs.Places.{side_put, link_put}
use Rattle.link_replay.proofs.world.marks.see.Goals as goal

pub returns-clause-represented : goal.returns-clause-represented
returns-clause-represented c = λ w e sent h q.
    let n : ℕ = c.from-place.result - 1 in
    let is : c.args.client ≡ suc n = omega arith in
    let link : Link = link_of c.args.sides.now.items sent in
    let old : CodeSide = c.index_mut.result.now in
    let new : CodeSide = c.see.new.self in
    let after : Link = record link { sides = set link.sides n new } in
    let at : slice_get link.sides n ≡ Some old = there_is link.sides n old c.index_mut.ensures.value (omega arith) in
    let p = partner SideRepresents link.sides w.sides n old h.sides at in
    let put : LinkRepresents after (with_side w (suc n) (marked p.other c.args.number e))
    = side_put link w n new p.other (marked p.other c.args.number e) h p.get refl (c.see.ensures.represented p.other e p.pair q) in
    subst (λ (x : Option Side). LinkRepresents after (sees w c.args.client c.args.number e x)) (sym (ap (numbered w.sides) is ∙ p.get))
    (subst (λ k. LinkRepresents after (with_side w k (marked p.other c.args.number e))) (sym is) put)

pub returns-clause-kept : goal.returns-clause-kept
returns-clause-kept c = λ addr sent h.
    let n : ℕ = c.from-place.result - 1 in
    let link : Link = link_of c.args.sides.now.items sent in
    let old : CodeSide = c.index_mut.result.now in
    let at : slice_get link.sides n ≡ Some old = there_is link.sides n old c.index_mut.ensures.value (omega arith) in
    link_put addr link n c.see.new.self h (subst (λ (z : CodeSide). FitsRequest z.client z.request) (sym c.see.ensures.kept) (h.clients n old at))
    (subst (λ (z : CodeSide). z.client.setup.server ≡ addr) (sym c.see.ensures.kept) (h.servers n old at))
