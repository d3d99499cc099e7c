use Rattle.link_replay.proofs.Prelude.{◌≡◌, ◌∷◌, [], ◌++◌, sym, refl, rules, tests, subst, List, posts, Matched, SentRepresents, CodeSent}
use Rattle.link_replay.proofs.Places.{posted}
use Rattle.link_replay.proofs.world.sent_list.post.Goals as goal

pub returns-clause-posted : goal.returns-clause-posted
returns-clause-posted c = λ w content h t b.
    let x : CodeSent = record { who = c.args.who; tick = c.args.tick; epoch = c.epoch_of-epoch.result; again = c.args.again; bytes = c.args.bytes.items } in
    let items : c.push.new.self.items ≡ c.args.sent.now.items ++ x ∷ [] = search (rules, tests) in
    record {
      sides = h.sides;
      sent = subst (λ (xs : List CodeSent). Matched (SentRepresents (posts w c.args.who c.args.again content)) xs
          (posts w c.args.who c.args.again content).sent) (sym items)
          (posted w c.args.sent.now.items x c.args.who c.args.again content h.sent
          record { who = refl; tick = t; epoch = c.epoch_of-epoch.ensures w.sides h.sides; again = refl; bytes = b });
    }
