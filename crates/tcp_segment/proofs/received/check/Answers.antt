use Rattle.tcp_segment.proofs.Prelude.{◌≡◌, ◌+◌, ◌-◌, ◌∙◌, length, take, drop, arith, length-take, length-drop, IfOk-weaker, head_facts}
use Rattle.tcp_segment.proofs.Prelude.{Segment}
use Rattle.tcp_segment.proofs.received.check.Goals as goal

pub slice_bounds-payload-count : goal.slice_bounds-payload-count
slice_bounds-payload-count c =
    let facts = head_facts c.args.head.now c.args.bytes.now c.requires in omega (arith, facts.least)

pub slice_bounds-payload-start : goal.slice_bounds-payload-start
slice_bounds-payload-start c =
    let facts = head_facts c.args.head.now c.args.bytes.now c.requires in omega (arith, facts.least, facts.most)

pub slice_bounds-payload-end : goal.slice_bounds-payload-end
slice_bounds-payload-end c =
    let facts = head_facts c.args.head.now c.args.bytes.now c.requires in omega (arith, facts.most)

pub returns-clause-inside : goal.returns-clause-inside
returns-clause-inside c =
    let facts = head_facts c.args.head.now c.args.bytes.now c.requires in
    let n : 20 + length (take (c.from.result - 20) (drop 20 c.args.bytes.now)) ≡ c.args.head.now.total =
    omega (arith, facts.least, facts.most, length-take (c.from.result - 20) (drop 20 c.args.bytes.now), length-drop 20 c.args.bytes.now) in
    IfOk-weaker c.read.result (λ (s : Segment). s.text_at + s.text_len ≡ 20 + length (take (c.from.result - 20) (drop 20 c.args.bytes.now)))
    (λ (s : Segment). s.text_at + s.text_len ≡ c.args.head.now.total) (λ s e. e ∙ n) c.read.ensures.inside
