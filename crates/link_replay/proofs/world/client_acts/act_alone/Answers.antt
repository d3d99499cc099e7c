use Rattle.link_replay.proofs.Prelude.{◌≡◌, ℕ, ◌-◌, suc, sym, ap, ◌∙◌, arith, subst, length, List, set, ◌≤◌, client_stepped, own_step, Link}
use Rattle.link_replay.proofs.Prelude.{link_of, CodeSide}
use Rattle.link_replay.proofs.Pairs.{there_is}
use Rattle.link_replay.proofs.Sending
use Rattle.link_replay.proofs.world.client_acts.act_alone.Goals as goal

pub post_prefix-requires : goal.post_prefix-requires
post_prefix-requires c =
    let s = Sending.some_side c.index_mut.result.now in
    let back = Sending.area_back c.act-len.new.area c.as_mut_slice.result.now c.args.area.now.items c.args.area.now.len
    c.act-len.ensures.room c.as_mut_slice.ensures.value c.as_mut_slice.ensures.len in
    let read : c.as_slice-2.result.now ≡ c.act-len.new.area = c.as_slice-2.ensures.value ∙ back.is in
    record {
      area = ap length read ∙ back.size ∙ c.requires.room;
      inside = λ n e. subst (λ (xs : List ℕ). n ≤ length xs) (sym read) (Sending.sends_inside s.plain.client.setup _ c.act-len.result n
          c.act-len.new.area (c.act-len.ensures.step s.plain s.represented).sent e);
    }

pub returns-clause-kept : goal.returns-clause-kept
returns-clause-kept c = λ addr h.
    let n : ℕ = c.from-place.result - 1 in
    Sending.kept_posted addr _ (set c.args.sides.now.items n c.act-len.new.self) c.args.sent.now.items c.post_prefix.new.sent.items
    c.as_slice.ensures.value (c.post_prefix.ensures.kept addr)
    (Sending.kept_put addr (link_of c.args.sides.now.items c.args.sent.now.items) n c.index_mut.result.now c.act-len.new.self
    (there_is c.args.sides.now.items n c.index_mut.result.now c.index_mut.ensures.value (omega arith)) c.act-len.ensures.fits c.act-len.ensures.setup h)

pub returns-in_err-post_prefix-clause-kept : goal.returns-in_err-post_prefix-clause-kept
returns-in_err-post_prefix-clause-kept c = λ addr h.
    let n : ℕ = c.from-place.result - 1 in
    Sending.kept_posted addr _ (set c.args.sides.now.items n c.act-len.new.self) c.args.sent.now.items c.post_prefix.new.sent.items
    c.as_slice.ensures.value (c.post_prefix.ensures.kept addr)
    (Sending.kept_put addr (link_of c.args.sides.now.items c.args.sent.now.items) n c.index_mut.result.now c.act-len.new.self
    (there_is c.args.sides.now.items n c.index_mut.result.now c.index_mut.ensures.value (omega arith)) c.act-len.ensures.fits c.act-len.ensures.setup h)

pub returns-clause-room : goal.returns-clause-room
returns-clause-room c =
    let back = Sending.area_back c.act-len.new.area c.as_mut_slice.result.now c.args.area.now.items c.args.area.now.len
    c.act-len.ensures.room c.as_mut_slice.ensures.value c.as_mut_slice.ensures.len in
    ap length back.is ∙ back.size ∙ c.requires.room

pub returns-in_err-post_prefix-clause-room : goal.returns-in_err-post_prefix-clause-room
returns-in_err-post_prefix-clause-room c =
    let back = Sending.area_back c.act-len.new.area c.as_mut_slice.result.now c.args.area.now.items c.args.area.now.len
    c.act-len.ensures.room c.as_mut_slice.ensures.value c.as_mut_slice.ensures.len in
    ap length back.is ∙ back.size ∙ c.requires.room

pub returns-clause-acted : goal.returns-clause-acted
returns-clause-acted c = λ w h t.
    let n : ℕ = c.from-place.result - 1 in
    let is : c.args.number ≡ suc n = omega arith in
    let old : CodeSide = c.index_mut.result.now in
    let new : CodeSide = c.act-len.new.self in
    let link : Link = link_of c.args.sides.now.items c.args.sent.now.items in
    let after : Link = link_of (set c.args.sides.now.items n new) c.post_prefix.new.sent.items in
    let back = Sending.area_back c.act-len.new.area c.as_mut_slice.result.now c.args.area.now.items c.args.area.now.len
    c.act-len.ensures.room c.as_mut_slice.ensures.value c.as_mut_slice.ensures.len in
    let read : c.as_slice-2.result.now ≡ c.act-len.new.area = c.as_slice-2.ensures.value ∙ back.is in
    Sending.done_at link after w c.args.number n old (λ s. client_stepped w c.args.number s (own_step c.args.own s.client)) is h
    (there_is c.args.sides.now.items n old c.index_mut.ensures.value (omega arith))
    (λ s g o. Sending.step_posted link w c.args.number n old new s is h g o c.act-len.ensures.setup (own_step c.args.own s.client)
    c.act-len.result c.act-len.new.area after c.args.tick
    (c.act-len.ensures.step s o)
    (Sending.posted_as c.args.number c.args.tick c.act-len.result _ c.act-len.new.area _ (set c.args.sides.now.items n new)
    c.args.sent.now.items c.post_prefix.new.sent.items read c.as_slice.ensures.value c.in_ok-post_prefix.ensures.posted) t)
