-- The counters, index by index.
-- [add: counter] The number of counters.
use Rattle.uip_node.proofs.Prelude.{◌≡◌, ℕ, ◌+◌, ◌<◌, Bool, if◌then◌else◌, length, get_or, false, sym, ap, ◌∙◌, arith, wrap, marks}
use Rattle.uip_node.proofs.Raises.{marks_at, raise_by_place, risen_once}
use Rattle.uip_node.proofs.increments.raised.Goals as goal

pub returns : goal.returns
returns c =
    let bits = marks c.args.first c.args.second c.args.third in
    let held : (k : ℕ) → k < length c.args.net → get_or c.raise_at-3.new.net k 0
    ≡ (if get_or bits k false then wrap (get_or c.args.net k 0 + 1) else get_or c.args.net k 0) =
    λ k h.
    let less : k < 20 = omega arith in
    risen_once k c.args.first c.args.second c.args.third c.apart.result c.apart-2.result c.apart-3.result
    (get_or c.args.net k 0) (get_or c.raise_at.new.net k 0) (get_or c.raise_at-2.new.net k 0) (get_or c.raise_at-3.new.net k 0) less
    c.apart.ensures c.apart-2.ensures c.apart-3.ensures (c.raise_at.ensures.each k h)
    (c.raise_at-2.ensures.each k (omega (arith, c.raise_at.ensures.long)))
    (c.raise_at-3.ensures.each k (omega (arith, c.raise_at.ensures.long, c.raise_at-2.ensures.long)))
    ∙ ap (λ (b : Bool). if b then wrap (get_or c.args.net k 0 + 1) else get_or c.args.net k 0)
    (sym (marks_at c.args.first c.args.second c.args.third k less)) in
    raise_by_place bits c.args.net c.raise_at-3.new.net
    (omega (arith, c.raise_at.ensures.long, c.raise_at-2.ensures.long, c.raise_at-3.ensures.long)) (omega arith) held
