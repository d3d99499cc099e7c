use Rattle.link_replay.proofs.Prelude.{List, ◌∙◌, subst, World, PostsReply, LinkRepresents, link_of, CodeSent, CodeSide, NodeStep, step}
use Rattle.link_replay.proofs.Answered.{left_by, loud, quiet}
use Rattle.link_replay.proofs.Sending.{kept_posted}
use Rattle.uip_node.proofs.Addresses.{step_addr}
use Rattle.link_replay.proofs.world.call_effects.tell.Goals as goal

pub returns-in_err-post_reply-in-Some-clause-kept : goal.returns-in_err-post_reply-in-Some-clause-kept
returns-in_err-post_reply-in-Some-clause-kept g c = λ addr h.
    kept_posted addr _ c.bury_gone.new.sides.items c.args.sent.now.items c.post_reply.new.sent.items c.as_slice.ensures.value (c.post_reply.ensures.kept addr)
    (c.bury_gone.ensures.kept addr c.args.sent.now.items h)

pub returns-in_ok-post_reply-in-Some-clause-kept : goal.returns-in_ok-post_reply-in-Some-clause-kept
returns-in_ok-post_reply-in-Some-clause-kept g c = λ addr h.
    kept_posted addr _ c.bury_gone.new.sides.items c.args.sent.now.items c.post_reply.new.sent.items c.as_slice.ensures.value (c.post_reply.ensures.kept addr)
    (c.bury_gone.ensures.kept addr c.args.sent.now.items h)

pub returns-in-None-clause-reported : goal.returns-in-None-clause-reported
returns-in-None-clause-reported g c = λ m served w event before to represented sent h.
    let r : NodeStep = step m served w.node event in
    quiet (λ (v : World). LinkRepresents (link_of c.bury_gone.new.sides.items c.args.sent.now.items) v) (left_by w r.node r.gone)
    c.args.node.now.addr r.sent c.args.answer c.args.node.now.packet c.in-None.is sent
    (c.in_ok-bury_gone.ensures.buried c.args.sent.now.items w r.node r.gone (c.gone.ensures m served w.node event before represented)
    (step_addr m served w.node event) h)

pub returns-in_ok-post_reply-in-Some-clause-reported : goal.returns-in_ok-post_reply-in-Some-clause-reported
returns-in_ok-post_reply-in-Some-clause-reported g c = λ m served w event before to represented sent h.
    let r : NodeStep = step m served w.node event in
    let v : World = left_by w r.node r.gone in
    let all : List CodeSent = c.args.sent.now.items in
    let more : List CodeSent = c.post_reply.new.sent.items in
    let buried : LinkRepresents (link_of c.bury_gone.new.sides.items all) v
    = c.in_ok-bury_gone.ensures.buried all w r.node r.gone (c.gone.ensures m served w.node event before represented) (step_addr m served w.node event) h in
    let posted : PostsReply c.args.to c.ticks.result c.again-again.result c.packet.result.now (link_of c.bury_gone.new.sides.items all)
    (link_of c.bury_gone.new.sides.items more)
    = subst (λ (xs : List CodeSide). PostsReply c.args.to c.ticks.result c.again-again.result c.packet.result.now (link_of xs all)
    (link_of xs more)) c.as_slice.ensures.value c.in_ok-post_reply-in-Some.ensures.posted in
    loud (λ (u : World). LinkRepresents (link_of c.bury_gone.new.sides.items more) u) v c.args.node.now.addr c.args.to r.sent c.args.answer
    c.in-Some.field-0 c.args.node.now.packet c.again-again.result
    c.in-Some.is represented.addr to (c.again-again.ensures m served w.node event before represented) sent
    (λ reply t a d. posted v reply t (c.ticks.ensures ∙ represented.counts.ticks) a (c.packet.ensures.datagram ∙ d) buried)
