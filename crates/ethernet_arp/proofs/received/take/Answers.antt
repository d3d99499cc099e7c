use Rattle.ethernet_arp.proofs.Prelude.{◌≡◌, ◌++◌, List, Some, length, length-drop, refl, arith, ap, sym, ◌∙◌, subst, MediumInput}
use Rattle.ethernet_arp.proofs.Prelude.{acts_among, Host, arp_reply, Act, Asked, Pair, Replied, Knows, in_table, IsTaught, Arp}
use Rattle.ethernet_arp.proofs.received.take.Goals as goal

pub returns-in-Datagram-clause-reported : goal.returns-in-Datagram-clause-reported
returns-in-Datagram-clause-reported c = (
  rw c.in-Datagram.is at c.sort.ensures.decodes,
  (let least = c.requires.least in omega arith),
  (let some = rw c.in-Datagram.is at c.sort.ensures.some in omega (arith, some, length-drop 14 c.args.frame.now)),
  refl,
)

pub returns-in-Asked-clause-reported : goal.returns-in-Asked-clause-reported
returns-in-Asked-clause-reported c =
    let pair : Pair = record { addr = c.in-Asked.addr.0; mac = c.in-Asked.mac.0 } in
    let reply = c.reply.ensures ∙ ap (λ (k : Host). arp_reply k pair) c.learn.ensures.host in (
      pair,
      rw c.in-Asked.is at c.sort.ensures.decodes,
      (let size : length c.reply.result ≡ 42 = omega arith in sym size ∙ ap (λ l. length l) reply),
      rw reply at c.put_prefix.ensures,
    )

pub returns-in-Asked-clause-knows : goal.returns-in-Asked-clause-knows
returns-in-Asked-clause-knows c = λ acts k.
    let pair : Pair = record { addr = c.in-Asked.addr.0; mac = c.in-Asked.mac.0 } in
    subst (λ (l : List (MediumInput Act)). Knows c.learn.new.self (acts ++ acts_among l)) (sym (rw c.in-Asked.is at c.sort.ensures.decodes))
    (c.learn.ensures.knows (Asked pair) acts refl k)

pub returns-in-Replied-clause-knows : goal.returns-in-Replied-clause-knows
returns-in-Replied-clause-knows c = λ acts k.
    let pair : Pair = record { addr = c.in-Replied.addr.0; mac = c.in-Replied.mac.0 } in
    subst (λ (l : List (MediumInput Act)). Knows c.learn-in-Replied.new.self (acts ++ acts_among l)) (sym (rw c.in-Replied.is at c.sort.ensures.decodes))
    (c.learn-in-Replied.ensures.knows (Replied pair) acts refl k)

-- the pair of an act that taught it
knows_pair : (new : Arp) (reported pair : Pair) → in_table new reported.addr ≡ Some reported.mac → Some reported ≡ Some pair
    → in_table new pair.addr ≡ Some pair.mac
knows_pair new reported pair e is = let same : reported ≡ pair = cc in subst (λ (p : Pair). in_table new p.addr ≡ Some p.mac) same e

pub returns-in-Nothing-clause-table : goal.returns-in-Nothing-clause-table
returns-in-Nothing-clause-table c =
    subst (λ (l : List (MediumInput Act)). IsTaught l c.args.arp.now c.args.arp.now) (sym (rw c.in-Nothing.is at c.sort.ensures.decodes)) refl

pub returns-in-Datagram-clause-table : goal.returns-in-Datagram-clause-table
returns-in-Datagram-clause-table c =
    subst (λ (l : List (MediumInput Act)). IsTaught l c.args.arp.now c.args.arp.now) (sym (rw c.in-Datagram.is at c.sort.ensures.decodes)) refl

pub returns-in-Asked-clause-table : goal.returns-in-Asked-clause-table
returns-in-Asked-clause-table c =
    let reported : Pair = record { addr = c.in-Asked.addr.0; mac = c.in-Asked.mac.0 } in
    subst (λ (l : List (MediumInput Act)). IsTaught l c.args.arp.now c.learn.new.self) (sym (rw c.in-Asked.is at c.sort.ensures.decodes))
    (λ pair is. knows_pair c.learn.new.self reported pair c.learn.ensures.table is)

pub returns-in-Replied-clause-table : goal.returns-in-Replied-clause-table
returns-in-Replied-clause-table c =
    let reported : Pair = record { addr = c.in-Replied.addr.0; mac = c.in-Replied.mac.0 } in
    subst (λ (l : List (MediumInput Act)). IsTaught l c.args.arp.now c.learn-in-Replied.new.self) (sym (rw c.in-Replied.is at c.sort.ensures.decodes))
    (λ pair is. knows_pair c.learn-in-Replied.new.self reported pair c.learn-in-Replied.ensures.table is)
