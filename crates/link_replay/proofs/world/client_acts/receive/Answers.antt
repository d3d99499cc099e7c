use Rattle.link_replay.proofs.Prelude.{◌≡◌, ℕ, ◌-◌, suc, sym, ap, ◌∙◌, arith, subst, length, List, set, ◌≤◌, client_receives, client_hands}
use Rattle.link_replay.proofs.Prelude.{handed, World, LinkRepresents, Link, link_of}
use Rattle.link_replay.proofs.Pairs.{there_is}
use Rattle.link_replay.proofs.Sending
use Rattle.link_replay.proofs.world.client_acts.receive.Goals as goal

pub post_prefix-requires : goal.post_prefix-requires
post_prefix-requires c =
    let s = Sending.some_side c.index_mut.result.now in
    let back = Sending.area_back c.receive.new.area c.as_mut_slice.result.now c.args.area.now.items c.args.area.now.len
    c.receive.ensures.room c.as_mut_slice.ensures.value c.as_mut_slice.ensures.len in
    let read : c.as_slice-2.result.now ≡ c.receive.new.area = c.as_slice-2.ensures.value ∙ back.is in
    record {
      area = ap length read ∙ back.size ∙ c.requires.room;
      inside = λ n e. subst (λ (xs : List ℕ). n ≤ length xs) (sym read) (Sending.sends_inside s.plain.client.setup _ c.in_ok-len.len n
          c.receive.new.area (c.in_ok-len.ensures.step s.plain s.represented).sent e);
    }

pub returns-clause-kept : goal.returns-clause-kept
returns-clause-kept c = λ addr h.
    let n : ℕ = c.from-place.result - 1 in
    Sending.kept_posted addr _ (set c.args.sides.now.items n c.receive.new.self) c.args.sent.now.items c.post_prefix.new.sent.items
    c.as_slice.ensures.value (c.post_prefix.ensures.kept addr)
    (Sending.kept_put addr (link_of c.args.sides.now.items c.args.sent.now.items) n c.index_mut.result.now c.receive.new.self
    (there_is c.args.sides.now.items n c.index_mut.result.now c.index_mut.ensures.value (omega arith)) c.receive.ensures.fits c.receive.ensures.setup h)

pub returns-in_err-post_prefix-clause-kept : goal.returns-in_err-post_prefix-clause-kept
returns-in_err-post_prefix-clause-kept c = λ addr h.
    let n : ℕ = c.from-place.result - 1 in
    Sending.kept_posted addr _ (set c.args.sides.now.items n c.receive.new.self) c.args.sent.now.items c.post_prefix.new.sent.items
    c.as_slice.ensures.value (c.post_prefix.ensures.kept addr)
    (Sending.kept_put addr (link_of c.args.sides.now.items c.args.sent.now.items) n c.index_mut.result.now c.receive.new.self
    (there_is c.args.sides.now.items n c.index_mut.result.now c.index_mut.ensures.value (omega arith)) c.receive.ensures.fits c.receive.ensures.setup h)

pub returns-clause-room : goal.returns-clause-room
returns-clause-room c =
    let back = Sending.area_back c.receive.new.area c.as_mut_slice.result.now c.args.area.now.items c.args.area.now.len
    c.receive.ensures.room c.as_mut_slice.ensures.value c.as_mut_slice.ensures.len in
    ap length back.is ∙ back.size ∙ c.requires.room

pub returns-in_err-post_prefix-clause-room : goal.returns-in_err-post_prefix-clause-room
returns-in_err-post_prefix-clause-room c =
    let back = Sending.area_back c.receive.new.area c.as_mut_slice.result.now c.args.area.now.items c.args.area.now.len
    c.receive.ensures.room c.as_mut_slice.ensures.value c.as_mut_slice.ensures.len in
    ap length back.is ∙ back.size ∙ c.requires.room

pub returns-clause-delivered : goal.returns-clause-delivered
returns-clause-delivered c = λ w h t.
    let n : ℕ = c.from-place.result - 1 in
    let is : c.args.number ≡ suc n = omega arith in
    let link : Link = link_of c.args.sides.now.items c.args.sent.now.items in
    let after : Link = link_of (set c.args.sides.now.items n c.receive.new.self) c.post_prefix.new.sent.items in
    let back = Sending.area_back c.receive.new.area c.as_mut_slice.result.now c.args.area.now.items c.args.area.now.len
    c.receive.ensures.room c.as_mut_slice.ensures.value c.as_mut_slice.ensures.len in
    let read : c.as_slice-2.result.now ≡ c.receive.new.area = c.as_slice-2.ensures.value ∙ back.is in
    Sending.done_at link after w c.args.number n c.index_mut.result.now (handed w c.args.number c.args.datagram.now) is h
    (there_is c.args.sides.now.items n c.index_mut.result.now c.index_mut.ensures.value (omega arith))
    (λ s g o. subst (λ (x : World). LinkRepresents after x) (Sending.received_handed w c.args.number n s c.args.datagram.now is g)
    (Sending.step_posted link w c.args.number n c.index_mut.result.now c.receive.new.self s is h g o c.receive.ensures.setup
    (client_hands s.client (client_receives s.client.setup c.args.datagram.now)) c.in_ok-len.len c.receive.new.area after c.args.tick
    (c.in_ok-len.ensures.step s o)
    (Sending.posted_as c.args.number c.args.tick c.in_ok-len.len _ c.receive.new.area _ (set c.args.sides.now.items n c.receive.new.self)
    c.args.sent.now.items c.post_prefix.new.sent.items read c.as_slice.ensures.value c.in_ok-post_prefix.ensures.posted) t))
