use Rattle.telnet_shell.proofs.Opened.{room, acked_after}
use Rattle.telnet_shell.proofs.Prelude.{refl, ◌+◌, ◌≤◌, length, sym, subst, Shell, replies_left}
use Rattle.telnet_shell.proofs.shell.ShellApp.acked.Goals as goal

pub advance-self-inside-requires : goal.advance-self-inside-requires
advance-self-inside-requires c =
    subst (λ (a : Shell). a.at + c.args.count ≤ length (replies_left a.queue a.capture)) (sym c.self.view_is)
    (room c.args.self.now c.args._shared.now.site c.args.count c.requires)

pub returns-clause-part : goal.returns-clause-part
returns-clause-part c = rw (← c.self.view_is) (λ p s. record {
  polls = refl;
  lost = s.lost;
  done = s.done;
  delivers_text = s.delivers_text;
  trailing = c.advance-self-inside.ensures.trailing (record p { acked = p.acked + c.args.count; polls = 0 })
      (acked_after c.self.inside.queue.items c.self.inside.capture c.self.inside.at c.args.count p s.trailing);
  place = c.advance-self-inside.ensures.place;
})
