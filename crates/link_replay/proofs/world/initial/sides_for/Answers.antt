use Rattle.link_replay.proofs.Prelude.{◌≡◌, ◌++◌, ◌+◌, List, [], ◌∷◌, length, rules, tests, sym, ap, ◌∙◌, subst, length-append}
use Rattle.link_replay.specs.Plain.{CodeSide as Side}
use Rattle.link_replay.proofs.Opened.{FreshTo, in_range_at, one_more}
use Rattle.link_replay.proofs.Pairs.{there_is}
use Rattle.link_replay.proofs.world.initial.sides_for.Goals as goal

pub side_for-requires-clause-range : goal.side_for-requires-clause-range
side_for-requires-clause-range c =
    in_range_at c.args.clients.now c.loop-at.at c.index-clients-at.result c.requires.ranges
    (there_is c.args.clients.now c.loop-at.at c.index-clients-at.result c.index-clients-at.is c.loop-at-test.true)

pub loop-at-preserved : goal.loop-at-preserved
loop-at-preserved c =
    let items : c.push.new.self.items ≡ c.loop-at.sides.items ++ c.in_ok-side.side ∷ [] = search (rules, tests) in
    record {
      same_length = ap length items ∙ length-append c.loop-at.sides.items (c.in_ok-side.side ∷ []) ∙ ap (λ n. n + 1) c.loop-at.invariant.same_length;
      each = subst (λ (xs : List Side). FreshTo c.args.clients.now xs) (sym items)
          (one_more c.args.clients.now c.loop-at.sides.items c.loop-at.at c.index-clients-at.result c.in_ok-side.side
          (there_is c.args.clients.now c.loop-at.at c.index-clients-at.result c.index-clients-at.is c.loop-at-test.true)
          c.loop-at.invariant.same_length c.in_ok-side.ensures c.loop-at.invariant.each);
    }
