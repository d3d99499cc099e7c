use Rattle.link_replay.proofs.Prelude.{◌≡◌, ap, sym, ◌∙◌, subst, World, LinkRepresents, link_of, IsTo}
use Rattle.link_replay.proofs.Answered.{IsNumber, answer_posted, meant_for, meant_nothing, meant_to_none, meant_to_one, number_of_none}
use Rattle.link_replay.proofs.Answered.{number_of_some}
use Rattle.link_replay.proofs.world.call_effects.post_reply.Goals as goal
use Rattle.link_replay.proofs.world.call_effects.post_reply.Goals.{in-None, in-Some, then-number-eq0+then-is_some, else-number-eq0}
use Rattle.link_replay.proofs.world.call_effects.post_reply.Goals.{else-number-eq0-via-then-number-eq0+else-is_some}
use Rattle.link_replay.proofs.world.call_effects.post_reply.Goals.{else-number-eq0-via-else-number-eq0}

pub returns-clause-posted : goal.returns-clause-posted
returns-clause-posted c = λ w reply t k a d h.
    let to = c.match-to.to in
    let number = c.match-to.number in
    let datagram = c.args.datagram.now in
    let same : c.args.to ≡ to = elim c.match-to.branch [ in-None b ↦ sym b.to-is | in-Some b ↦ b.in-Some.is ∙ sym b.to-is ] in
    let numbered : IsNumber c.args.sides.now to number = elim c.match-to.branch [
      | in-None b ↦ number_of_none c.args.sides.now to number (b.to-is ∙ b.in-None.is) b.number-is
      | in-Some b ↦ number_of_some c.args.sides.now to number b.in-Some.pair b.to-is
          (λ ss m. b.number-is ∙ b.addressed-number.ensures ss m)
    ] in
    let meant : c.if-number-eq0.meant.now ≡ meant_for number to datagram = elim c.if-number-eq0.branch [
      | then-number-eq0+then-is_some b ↦ ap (λ s. s.now) b.meant-is ∙ meant_nothing number to datagram b.if-number-eq0.true
          (sym b.is_some.ensures ∙ b.if-is_some.true)
      | else-number-eq0 b ↦ ap (λ s. s.now) b.meant-is ∙ (elim b.else-number-eq0.branch [
        | else-number-eq0-via-then-number-eq0+else-is_some e ↦ meant_to_none number to datagram (sym e.is_some.ensures ∙ e.if-is_some.false)
        | else-number-eq0-via-else-number-eq0 e ↦ meant_to_one number to datagram e.if-number-eq0.false
      ])
    ] in
    answer_posted (λ (v : World). LinkRepresents (link_of c.args.sides.now c.post.new.sent.items) v) w reply c.args.sides.now to number
    c.args.again datagram c.in_ok-bytes.bytes.items
    (subst (λ o. IsTo o reply) same t) a d h.sides numbered (c.in_ok-bytes.ensures.items_if_clones_equal (λ x y e. e) ∙ meant)
    (λ content bytes. c.in_ok-post.ensures.posted w content h k bytes)
