use Rattle.link_replay.proofs.Prelude.{◌≡◌, List, false, refl, sym, ap, ◌∙◌, rules, subst, tests, ping_from, posts, OfPing, Pinger}
use Rattle.link_replay.proofs.Prelude.{LinkRepresents, link_of, CodeSide}
use Rattle.link_replay.proofs.Handling.{linked, still_linked}
use Rattle.link_replay.proofs.Sending.{kept_posted}
use Rattle.link_replay.proofs.world.WorldOf.ping.Goals as goal

pub invariant_of-self : goal.invariant_of-self
invariant_of-self g c = record {
  link = still_linked _ _ c.self.invariant.link
      (λ addr. kept_posted addr _ c.self.inside.sides.items c.self.inside.sent.items c.post.new.sent.items c.as_slice-2.ensures.value
      (c.post.ensures.kept addr));
  room = c.self.invariant.room;
}

pub invariant_of-self-2 : goal.invariant_of-self-2
invariant_of-self-2 g c = record {
  link = still_linked _ _ c.self.invariant.link
      (λ addr. kept_posted addr _ c.self.inside.sides.items c.self.inside.sent.items c.post.new.sent.items c.as_slice-2.ensures.value
      (c.post.ensures.kept addr));
  room = c.self.invariant.room;
}

pub returns-clause-sent : goal.returns-clause-sent
returns-clause-sent g c = rw (← c.self.view_is) (λ w s.
    let a = g.A.App in
    let sides : List CodeSide = c.self.inside.sides.items in
    let echo = OfPing (ping_from c.args.source w.node.addr) in
    let items : c.in_ok-bytes.bytes.items ≡ c.as_slice.result.now = search (rules, tests) in
    let bytes : c.in_ok-bytes.bytes.items ≡ ping_from c.args.source w.node.addr = items ∙ c.as_slice.ensures ∙ c.echo_request.ensures
    ∙ ap (ping_from c.args.source) (c.addr.ensures ∙ s.node.addr) in
    let represented : LinkRepresents (link_of sides c.post.new.sent.items) (posts w Pinger false echo)
    = subst (λ (xs : List CodeSide). LinkRepresents (link_of xs c.post.new.sent.items) (posts w Pinger false echo)) c.as_slice-2.ensures.value
    (c.in_ok-post.ensures.posted w echo (subst (λ (xs : List CodeSide). LinkRepresents (link_of xs c.self.inside.sent.items) w)
    (sym c.as_slice-2.ensures.value) s.link) (c.ticks-tick.ensures ∙ s.node.counts.ticks) bytes) in
    linked a _ (link_of sides c.post.new.sent.items) c.self.inside.area.items w _ s refl refl represented
    (kept_posted w.node.addr _ sides c.self.inside.sent.items c.post.new.sent.items c.as_slice-2.ensures.value (c.post.ensures.kept w.node.addr) s.home))
