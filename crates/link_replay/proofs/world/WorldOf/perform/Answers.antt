use Rattle.link_replay.proofs.Prelude.{sym, subst, advertises_window, does, Act, WorldRepresents, link_of}
use Rattle.link_replay.proofs.Handling.{own_done, still_linked}
use Rattle.link_replay.proofs.world.WorldOf.perform.Goals as goal

pub invariant_of-self : goal.invariant_of-self
invariant_of-self g c = record {
  link = still_linked _ _ c.self.invariant.link (λ addr. c.advertise_window.ensures.kept addr
      c.self.inside.sent.items);
  room = c.self.invariant.room;
}

pub returns-in-Window-clause-done : goal.returns-in-Window-clause-done
returns-in-Window-clause-done g c = rw (← c.self.view_is) (λ w h f s.
    let a = g.A.App in
    let m = a.app_spec (a.config c.self.inside.node.shared) in
    let number = c.in-Window.number in
    let sent = c.self.inside.sent.items in
    let link = link_of c.advertise_window.new.sides.items sent in
    subst (λ (act : Act). WorldRepresents a (record {
      node = c.self.inside.node;
      link = link;
      mark = c.self.inside.mark;
      spent = c.self.inside.spent;
      area = c.self.inside.area.items;
    }) (does m a.served w act)) (sym c.in-Window.is)
    (own_done a _ link c.self.inside.area.items w number (advertises_window c.in-Window.window) s (c.advertise_window.ensures.reported w sent s.link)
    (c.advertise_window.ensures.kept w.node.addr sent s.home)))
