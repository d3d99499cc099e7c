use Rattle.uip_device.proofs.Prelude.{◌≡◌, ◌++◌, [], ◌∷◌, ap, arith, inl, inr, List, length, length-append, map, refl, take, Byte}
use Rattle.uip_device.proofs.Prelude.{datagram_in, Datagram, Frame, Overlong, frames, arrivals_after, text_sent, text_to_come, Received}
use Rattle.uip_device.proofs.Prelude.{TooLong}
use Rattle.uip_device.proofs.FrameLaws.{reported_arrivals}
use Rattle.uip_device.proofs.PartLaws.{take_whole}
use Rattle.uip_device.proofs.SendLaws.{sends_by, sends_from, sends_none, sends_overlong}
use Rattle.uip_device.proofs.device.take.Goals as goal

pub returns-in-More-clause-stops : goal.returns-in-More-clause-stops
returns-in-More-clause-stops g c = inl (c.receive-run.ensures.whole c.in-More.is)

pub returns-in-Overlong-clause-stops : goal.returns-in-Overlong-clause-stops
returns-in-Overlong-clause-stops g c = inr (rw c.in-Overlong.is at c.receive-run.ensures.prefix.end)

pub returns-in-Datagram-clause-stops : goal.returns-in-Datagram-clause-stops
returns-in-Datagram-clause-stops g c = inr (rw c.in-Datagram.is at c.receive-run.ensures.prefix.end)

pub returns-in-More-clause-one : goal.returns-in-More-clause-one
returns-in-More-clause-one g c = λ before fed.
    let reported = rw c.in-More.is at c.receive-run.ensures.prefix.frames in
    omega (arith, ap (λ (l : List Frame). length l) (reported before fed).1, length-append (frames before) [])

pub returns-in-Overlong-clause-one : goal.returns-in-Overlong-clause-one
returns-in-Overlong-clause-one g c = λ before fed.
    let reported = rw c.in-Overlong.is at c.receive-run.ensures.prefix.frames in
    omega (arith, ap (λ (l : List Frame). length l) (reported before fed).1, length-append (frames before) (Overlong ∷ []))

pub returns-in-Datagram-clause-one : goal.returns-in-Datagram-clause-one
returns-in-Datagram-clause-one g c = λ before fed.
    let reported = rw c.in-Datagram.is at c.receive-run.ensures.prefix.frames in
    omega (
      arith,
      ap (λ (l : List Frame). length l) (reported before fed).1,
      length-append (frames before) (Datagram (take c.receive-run.new.part.len c.receive-run.new.node.packet.area) ∷ []),
    )

pub returns-in-More-clause-sends : goal.returns-in-More-clause-sends
returns-in-More-clause-sends g c = λ before fed.
    let reported = rw c.in-More.is at c.receive-run.ensures.prefix.frames in
    let bytes = take c.receive-run.result.count c.args.bytes.now in
    let guard = c.args.guard.now in
    let mid = c.receive-run.new.node in
    rw c.nothing-written.ensures (
    sends_from g.A.App (arrivals_after 0 before (map Byte bytes)) guard guard c.args.node.now mid mid _
    (λ own replies. text_sent guard.rules.key own replies ≡ []) c.receive-run.ensures.rest
    (sends_by g.A.App [] (arrivals_after 0 before (map Byte bytes)) guard guard mid mid (λ own replies. text_sent guard.rules.key own replies ≡ [])
    (reported_arrivals before bytes [] (reported before fed).1)
    (sends_none g.A.App guard mid (λ own replies. text_sent guard.rules.key own replies ≡ []) (λ own. refl))))

pub returns-in-Overlong-clause-sends : goal.returns-in-Overlong-clause-sends
returns-in-Overlong-clause-sends g c = λ before fed.
    let reported = rw c.in-Overlong.is at c.receive-run.ensures.prefix.frames in
    let bytes = take c.receive-run.result.count c.args.bytes.now in
    let guard = c.args.guard.now in
    let mid = c.receive-run.new.node in
    let new = c.count_overlong.new.self in
    rw c.nothing-written-in-Overlong.ensures (
    sends_from g.A.App (arrivals_after 0 before (map Byte bytes)) guard guard c.args.node.now mid new _
    (λ own replies. text_sent guard.rules.key own replies ≡ []) c.receive-run.ensures.rest
    (sends_by g.A.App (TooLong ∷ []) (arrivals_after 0 before (map Byte bytes)) guard guard mid new (λ own replies. text_sent guard.rules.key own replies ≡ [])
    (reported_arrivals before bytes (Overlong ∷ []) (reported before fed).1)
    (sends_overlong g.A.App guard mid new (λ own replies. text_sent guard.rules.key own replies ≡ []) c.count_overlong.ensures.same
    c.count_overlong.ensures.step (λ own. refl))))

pub returns-in-Datagram-clause-sends : goal.returns-in-Datagram-clause-sends
returns-in-Datagram-clause-sends g c = λ before fed.
    let reported = rw c.in-Datagram.is at c.receive-run.ensures.prefix.frames in
    let leaves = rw c.in-Datagram.is at c.receive-run.ensures.prefix.leaves in
    let bytes = take c.receive-run.result.count c.args.bytes.now in
    let guard = c.args.guard.now in
    let mid = c.receive-run.new.node in
    let area = mid.packet.area in
    let shown = take c.receive-run.new.part.len area in
    let same : take c.in-Datagram.len area ≡ shown = take_whole c.in-Datagram.len c.receive-run.new.part.len area leaves.1 in
    let new = c.answer-written.new.node in
    let guarded = c.answer-written.new.guard in
    sends_from g.A.App (arrivals_after 0 before (map Byte bytes)) guard guarded c.args.node.now mid new _
    (λ own replies. text_sent guard.rules.key own replies ≡ take c.answer-written.result.wrote c.answer-written.new.out ++ text_to_come
    (datagram_in new.packet) c.answer-written.result.left) c.receive-run.ensures.rest
    (sends_by g.A.App (Received shown ∷ []) (arrivals_after 0 before (map Byte bytes)) guard guarded mid new
    (λ own replies. text_sent guard.rules.key own replies ≡ take c.answer-written.result.wrote c.answer-written.new.out ++ text_to_come
    (datagram_in new.packet) c.answer-written.result.left)
    (reported_arrivals before bytes (Datagram shown ∷ []) (reported before fed).1)
    (rw same at c.answer-written.ensures.sends))
