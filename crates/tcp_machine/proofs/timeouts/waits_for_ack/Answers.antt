-- The timer a tick later.
use Rattle.tcp_machine.proofs.Prelude.{rules, ◌≡◌, ◌+◌, ◌*◌, ◌^◌, min, refl, ap, arith, Timer}
use Rattle.tcp_machine.proofs.Beats.{wait_meets, again_meets, wait_fits}
use Rattle.tcp_machine.proofs.timeouts.waits_for_ack.Goals as goal

pub returns-in-Wait-clause-takes : goal.returns-in-Wait-clause-takes
returns-in-Wait-clause-takes g c = record {
  same = search rules;
  sound = search rules;
  place = search rules;
  fits = search rules;
  meets = λ a h.
      wait_meets g.A.App (g.A.App.config c.args.shared.now) (g.A.App.app_spec (g.A.App.config c.args.shared.now)) c.args.conn.now
      c.tick.new.self a (g.A.App.numbers c.args.shared.now) c.limit_of.result
      h c.requires.live c.requires.out c.limit_of.ensures c.in-Wait.ensures.ages;
}

pub returns-in-Again-clause-takes : goal.returns-in-Again-clause-takes
returns-in-Again-clause-takes g c =
    let left = (c.in-Again.ensures.again.0 refl).1 in
    let tries : c.tick.new.self.tries ≡ c.args.conn.now.timer.tries + 1 = ap (λ (t : Timer). t.tries) c.in-Again.ensures.after in
    let count : c.tick.new.self.count ≡ 3 * 2 ^ min c.args.conn.now.timer.tries 4 = ap (λ (t : Timer). t.count) c.in-Again.ensures.after in
    record {
      same = search rules;
      sound = record {
        numbers = λ live.
            let n = c.requires.sound.numbers live in
            record {
              mss_low = n.mss_low;
              mss_high = n.mss_high;
              initial_low = n.initial_low;
              initial_high = n.initial_high;
              tries = omega (arith, tries, left, c.limit_of.ensures);
              count = omega (arith, count, wait_fits c.args.conn.now.timer.tries);
              len = n.len;
            };
        says = c.requires.sound.says;
      };
      place = search rules;
      fits = search rules;
      meets = λ a h.
          again_meets g.A.App (g.A.App.config c.args.shared.now) (g.A.App.app_spec (g.A.App.config c.args.shared.now)) c.args.conn.now
          c.tick.new.self a (g.A.App.numbers c.args.shared.now) c.limit_of.result c.outstanding.result
          h c.requires.live c.requires.out c.limit_of.ensures c.outstanding.ensures c.in-Again.ensures.ages;
    }
