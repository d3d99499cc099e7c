use Rattle.ethernet_arp.proofs.Prelude.{◌-◌, ◌∷◌, ◌∙◌, [], length, take, drop, refl, arith, ap, sym, Datagram, Host, frame_brings, framed}
use Rattle.ethernet_arp.proofs.Prelude.{arp_reply, Asked, Pair, Replied, host_of}
use Rattle.ethernet_arp.proofs.Bytes.{payload_is}
use Rattle.ethernet_arp.proofs.TakenLaws.{brings_act, brings_datagram, brings_none}
use Rattle.ethernet_arp.proofs.ether_line.EtherLine.take_whole.Goals as goal

pub returns-in-Nothing-clause-reported : goal.returns-in-Nothing-clause-reported
returns-in-Nothing-clause-reported c = ap (λ l. frame_brings (host_of c.args.self.now.arp) l) (sym c.frame.ensures) ∙ c.in-Nothing.ensures.decodes

pub returns-in-Nothing-clause-knows : goal.returns-in-Nothing-clause-knows
returns-in-Nothing-clause-knows c =
    brings_none c.args.self.now.arp c.args.self.now.arp _ (ap (λ l. frame_brings (host_of c.args.self.now.arp) l) (sym c.frame.ensures)
    ∙ c.in-Nothing.ensures.decodes) (λ acts k. k)

pub returns-in-Datagram-clause-reported : goal.returns-in-Datagram-clause-reported
returns-in-Datagram-clause-reported c =
    let part = c.args.self.now.part in
    let payload = payload_is part.area part.len c.requires.least (let most = c.requires.most in omega arith) in
    ap (λ l. frame_brings (host_of c.args.self.now.arp) l) (sym c.frame.ensures) ∙ c.in-Datagram.ensures.decodes
    ∙ ap (λ l. Datagram (drop 14 l) ∷ []) c.frame.ensures
    ∙ ap (λ l. Datagram l ∷ []) (payload ∙ ap (λ l. take (length l - 14) (drop 14 part.area)) (sym c.frame-in-Datagram.ensures))

pub returns-in-Datagram-clause-knows : goal.returns-in-Datagram-clause-knows
returns-in-Datagram-clause-knows c =
    brings_datagram c.args.self.now.arp c.args.self.now.arp _ _ (ap (λ l. frame_brings (host_of c.args.self.now.arp) l)
    (sym c.frame.ensures) ∙ c.in-Datagram.ensures.decodes) (λ acts k. k)

pub returns-in-Asked-clause-reported : goal.returns-in-Asked-clause-reported
returns-in-Asked-clause-reported c =
    let pair : Pair = record { addr = c.in-Asked.addr.0; mac = c.in-Asked.mac.0 } in (
      Asked pair,
      ap (λ l. frame_brings (host_of c.args.self.now.arp) l) (sym c.frame.ensures) ∙ c.in-Asked.ensures.decodes,
      ap (λ (k : Host). framed (arp_reply k pair)) (sym c.learn.ensures.host) ∙ sym c.frame_reply-self.ensures.text,
    )

pub returns-in-Asked-clause-knows : goal.returns-in-Asked-clause-knows
returns-in-Asked-clause-knows c =
    let pair : Pair = record { addr = c.in-Asked.addr.0; mac = c.in-Asked.mac.0 } in
    brings_act c.args.self.now.arp c.learn.new.self _ (Asked pair) (ap (λ l. frame_brings (host_of c.args.self.now.arp) l)
    (sym c.frame.ensures) ∙ c.in-Asked.ensures.decodes)
    (λ acts k. c.learn.ensures.knows (Asked pair) acts refl k)

pub returns-in-Replied-clause-reported : goal.returns-in-Replied-clause-reported
returns-in-Replied-clause-reported c =
    let pair : Pair = record { addr = c.in-Replied.addr.0; mac = c.in-Replied.mac.0 } in
    (Replied pair, ap (λ l. frame_brings (host_of c.args.self.now.arp) l) (sym c.frame.ensures) ∙ c.in-Replied.ensures.decodes, refl)

pub returns-in-Replied-clause-knows : goal.returns-in-Replied-clause-knows
returns-in-Replied-clause-knows c =
    let pair : Pair = record { addr = c.in-Replied.addr.0; mac = c.in-Replied.mac.0 } in
    brings_act c.args.self.now.arp c.learn-in-Replied.new.self _ (Replied pair) (ap (λ l. frame_brings (host_of c.args.self.now.arp) l)
    (sym c.frame.ensures) ∙ c.in-Replied.ensures.decodes)
    (λ acts k. c.learn-in-Replied.ensures.knows (Replied pair) acts refl k)
