use Rattle.ethernet_arp.proofs.Prelude.{◌≡◌, ◌∙◌, arith, ap, length, sym, written, arp_reply, Pair, host_of}
use Rattle.ethernet_arp.proofs.Bytes.{framed_is}
use Rattle.ethernet_arp.proofs.framing.frame_reply.Goals as goal

pub returns-clause-text : goal.returns-clause-text
returns-clause-text c =
    let pair : Pair = record { addr = c.args.addr.0; mac = c.args.mac.0 } in
    let size : length c.reply.result ≡ 42 = omega arith in
    framed_is c.split_at_mut-length.result.0.now c.split_at_mut-length.result.1.now (arp_reply (host_of c.args.arp.now) pair)
    c.put16.new.bytes c.put_prefix.new.out
    42 c.split_at_mut-length.ensures.front_len c.put16.ensures
    (record {
      size = sym size ∙ ap (λ l. length l) c.reply.ensures;
      there = c.put_prefix.ensures ∙ ap (λ l. written c.split_at_mut-length.result.1.now 0 l) c.reply.ensures;
    })
