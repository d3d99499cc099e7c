use Rattle.frame_device.proofs.Prelude.{◌≡◌, ◌∷◌, ◌∙◌, [], arith, ap, drop, length, length-drop, length-take, take, drop-take, written}
use Rattle.frame_device.proofs.Prelude.{Datagram, arp_reply, Asked, host_of, interface_of}
use Rattle.frame_device.proofs.EtherLaws.{brings_payload, prefix_of, is_silent}
use Rattle.frame_device.proofs.ether.take_whole.Goals as goal

pub returns-in-Nothing-clause-reported : goal.returns-in-Nothing-clause-reported
returns-in-Nothing-clause-reported c = is_silent (interface_of c.args.ether.now) _ (rw c.in-Nothing.is at c.take.ensures.reported).0

pub returns-in-Reply-clause-reported : goal.returns-in-Reply-clause-reported
returns-in-Reply-clause-reported c =
    let reported = rw c.in-Reply.is at c.take.ensures.reported in
    let reply = arp_reply (host_of c.args.ether.now.arp) reported.0 in
    let part : take c.in-Reply.len c.take.new.out ≡ reply =
    ap (λ n. take n c.take.new.out) reported.2 ∙ ap (λ l. take (length reply) l) reported.3 ∙ prefix_of _ reply in (
      Asked reported.0,
      reported.1,
      ap (λ l. take c.in-Reply.len l) (c.put_prefix.ensures ∙ ap (λ l. written c.args.buf.now 0 l) part)
          ∙ ap (λ n. take n (written c.args.buf.now 0 reply)) reported.2 ∙ prefix_of c.args.buf.now reply,
    )

pub returns-in-Datagram-clause-fits : goal.returns-in-Datagram-clause-fits
returns-in-Datagram-clause-fits c =
    let reported = rw c.in-Datagram.is at c.take.ensures.reported in
    let frame = take c.args.len c.args.buf.now in
    let same = brings_payload (host_of c.args.ether.now.arp) frame (drop c.in-Datagram.at frame) reported.0 in
    let size = length-take c.args.len c.args.buf.now in
    let most = c.requires.most in
    let room = c.requires.room in (
      omega (arith, reported.1, size, room, most),
      omega (arith, reported.1, size, room, most, ap (λ l. length l) same, length-drop 14 frame, length-drop c.in-Datagram.at frame),
    )

pub returns-in-Datagram-clause-reported : goal.returns-in-Datagram-clause-reported
returns-in-Datagram-clause-reported c =
    let reported = rw c.in-Datagram.is at c.take.ensures.reported in
    let size = length-take c.args.len c.args.buf.now in
    let most = c.requires.most in
    let room = c.requires.room in
    reported.0
    ∙ ap (λ n. Datagram (drop c.in-Datagram.at (take n c.args.buf.now)) ∷ []) (omega (arith, reported.1, size, room, most))
    ∙ ap (λ l. Datagram l ∷ []) (drop-take c.in-Datagram.at c.in-Datagram.len c.args.buf.now)
