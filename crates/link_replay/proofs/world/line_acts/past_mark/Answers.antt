use Rattle.link_replay.proofs.Prelude.{◌≡◌, ◌<◌, ◌+◌, ◌-◌, ℕ, ◌∷◌, [], ◌++◌, ap, sym, ◌∙◌, arith, suc, rules, tests, append_assoc}
use Rattle.link_replay.proofs.Prelude.{range_with_len}
use Rattle.link_replay.proofs.world.line_acts.past_mark.Goals as goal

next : (n sent : ℕ) → n < sent → range_with_len (n + 1) (sent - n) ≡ (n + 1) ∷ range_with_len (n + 1 + 1) (sent - (n + 1))
next n sent h = ap (range_with_len (n + 1)) (let e : sent - n ≡ suc (sent - (n + 1)) = omega (arith, h) in e)

pub loop-number-preserved : goal.loop-number-preserved
loop-number-preserved c =
    let n = c.loop-number.number in
    let items : c.push.new.self.items ≡ c.loop-number.numbers.items ++ (n + 1) ∷ [] = search (rules, tests) in
    ap (λ xs. xs ++ range_with_len (n + 1 + 1) (c.args.sent - (n + 1))) items
    ∙ append_assoc c.loop-number.numbers.items ((n + 1) ∷ []) (range_with_len (n + 1 + 1) (c.args.sent - (n + 1)))
    ∙ ap (λ xs. c.loop-number.numbers.items ++ xs) (sym (next n c.args.sent c.loop-number-test.true))
    ∙ c.loop-number.invariant
