use Rattle.ethernet_arp.proofs.Prelude.{◌≡◌, ◌∙◌, [], sym, arith, length, position_or_len_is, is_of, Entry}
use Rattle.ethernet_arp.proofs.arp.place_of.Goals as goal

pub returns-then-is_of : goal.returns-then-is_of
returns-then-is_of c =
    sym (position_or_len_is (λ (e : Entry). is_of c.args.addr.0 e) c.args.entries.now c.loop-at.at _ (omega arith)
    (λ k below. c.loop-at.invariant k _ below) (λ h. sym c.is_of.ensures ∙ c.if-is_of.true))

pub returns : goal.returns
returns c =
    let e : c.loop-at.at ≡ length c.args.entries.now = omega arith in
    rw (← e) (sym (position_or_len_is (λ (x : Entry). is_of c.args.addr.0 x) c.args.entries.now c.loop-at.at
    (record { addr = record { 0 = [] }; mac = record { 0 = [] }; age = 0 }) (omega arith) (λ k below. c.loop-at.invariant k _ below)
    (λ h. absurd (omega arith))))
