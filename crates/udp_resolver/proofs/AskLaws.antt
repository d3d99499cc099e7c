-- The turns of a run, put together.
use Rattle.udp_resolver.proofs.Prelude.{◌≡◌, ℕ, ◌+◌, ◌<◌, ◌≤◌, ◌⊎◌, inr, Bool, true, false, not, List, [], ◌++◌, Option, length, refl, sym}
use Rattle.udp_resolver.proofs.Prelude.{ap, ◌∙◌, arith, length-append, subst, Appends, Item, ServeEnd, Consumes, Appends-then}
use Rattle.udp_resolver.proofs.Prelude.{Consumes-then, appends_by, prefix_by, prefix_then, took_all, none_more, line_text, Question, events}
use Rattle.udp_resolver.proofs.Prelude.{IsOpen, LastAsked, Asks, Adds, AsksOn, Run, Ended, TurnsBy, breaks_prefix, calm_then, IsCalm}
use Rattle.udp_resolver.proofs.Prelude.{LineView}
use Rattle.uip_edge.specs.declared.serve_end.ServeEnd.TheVariants as ends

pub open_by_test : (b t : Bool) → t ≡ not b → t ≡ true → b ≡ false
open_by_test true t e h = absurd (cc (e, h))
open_by_test false t e h = refl

consumed_none : (a b c : Option (List Item)) (taken more : List Item) → more ≡ [] → Consumes a b taken → Consumes b c more → Consumes a c taken
consumed_none a b c taken more none p q = subst (λ (l : List Item). Consumes a c l) (none_more taken more none) (Consumes-then a b c taken more p q)

-- what a turn adds to the line out
pub added : (asked : List Question) (taken more : List Item) (text : List ℕ) (a b c : Option (List ℕ)) → Adds asked taken more text
    → Appends a b (line_text asked (events taken)) → Appends b c text → Appends a c (line_text asked (events (taken ++ more)))
added asked taken more text a b c adds p q =
    appends_by a c (line_text asked (events taken) ++ text) (line_text asked (events (taken ++ more))) adds
    (Appends-then a b c (line_text asked (events taken)) text p q)

kept_out : (a b c : Option (List ℕ)) (text : List ℕ) → c ≡ b → Appends a b text → Appends a c text
kept_out a b c text same p = subst (λ (o : Option (List ℕ)). Appends a o text) (sym same) p

-- a run that ends in a turn
pub stopped : (asked : List Question) (n : ℕ) (taken more : List Item) (run : Run) (old mid new : LineView) (room : ℕ) (end : ServeEnd)
    → IsOpen asked taken → Consumes old.link.coming mid.link.coming taken → Consumes mid.link.coming new.link.coming more → length taken < n
    → length more ≤ room → room + length taken ≤ n
    → IsCalm old mid → (taken ≡ []) ⊎ LastAsked asked taken → Appends old.sink.written mid.sink.written (line_text asked (events taken))
    → TurnsBy mid new more (Ended end) → AsksOn asked taken more run mid new (Ended end) → Asks asked n run old new end
stopped asked n taken more run old mid new room ends.End is_open c more_c few size fits calm needed wrote why t = record {
  taken = taken;
  within = omega arith;
  consumed = consumed_none old.link.coming mid.link.coming new.link.coming taken more why.0 c more_c;
  needed = needed;
  by = record {
    done = inr (is_open, took_all old.link.coming mid.link.coming taken c why.1, few);
    calm = calm_then old mid new calm why.2;
    knows = t.knows;
    out = kept_out old.sink.written mid.sink.written new.sink.written (line_text asked (events taken)) t.out wrote;
  };
}
stopped asked n taken more run old mid new room ends.LinkFault is_open c more_c few size fits calm needed wrote why t = record {
  taken = taken;
  within = omega arith;
  consumed = consumed_none old.link.coming mid.link.coming new.link.coming taken more why.0 c more_c;
  needed = needed;
  by = (
    is_open,
    few,
    rw calm.link at why.1,
    why.2 ∙ calm.sink,
    kept_out old.sink.written mid.sink.written new.sink.written
        (line_text asked (events taken)) t.out wrote,
  );
}
stopped asked n taken more run old mid new room ends.WriteFault is_open c more_c few size fits calm needed wrote why t = record {
  taken = taken ++ more;
  within = omega (arith, length-append taken more);
  consumed = Consumes-then old.link.coming mid.link.coming new.link.coming taken more c more_c;
  needed = inr (record { before = taken; last = more; whole = refl; is_open = is_open; once = t.once });
  by = (
    why.0 ∙ calm.link,
    rw calm.sink at why.1,
    prefix_by old.sink.written new.sink.written (line_text asked (events taken) ++ t.text) (line_text asked (events (taken ++ more))) t.adds
        (prefix_then old.sink.written mid.sink.written new.sink.written (line_text asked (events taken)) t.text wrote
        (breaks_prefix [] t.text mid.sink.written new.sink.written t.broke)),
    (let some = t.broke.some in omega (arith, some, length-append (line_text asked (events taken)) t.text, ap (λ l. length l) t.adds)),
  );
}
stopped asked n taken more run old mid new room ends.Budget is_open c more_c few size fits calm needed wrote why t = absurd why
