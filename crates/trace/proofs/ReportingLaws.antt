-- What was reported of a line, under another name and after a header.
use Rattle.trace.proofs.Prelude.{◌≡◌, ℕ, ◌<◌, List, [], ◌++◌, Option, length, length-append, append-nil, sym, ap, ◌∙◌, arith, subst}
use Rattle.trace.proofs.Prelude.{Appends, Consumes, TookAll, Appends-then, appends_by, prefix_by, prefix_then, Item, ServeEnd, ReportsLine}
use Rattle.trace.proofs.Prelude.{LineView, EndsBy, WrittenBy}
use Rattle.uip_edge.specs.declared.serve_end.ServeEnd.TheVariants as ends

-- the text was written whole, whatever the end
pub written_by : (a b : Option (List ℕ)) (text : List ℕ) (end : ServeEnd) → Appends a b text → WrittenBy end a b text
written_by a b text ends.End w = w
written_by a b text ends.Budget w = w
written_by a b text ends.LinkFault w = w
written_by a b text ends.WriteFault w = (text, [], sym (append-nil text), w)

-- the same text under another name
pub reported_by_name : (text text' : List Item → List ℕ) (n : ℕ) (old new : LineView) (end : ServeEnd) → ((items : List Item) → text' items ≡ text items)
    → ReportsLine text n old new end → ReportsLine text' n old new end
reported_by_name text text' n old new end same t =
    record {
      taken = t.taken;
      consumed = t.consumed;
      ends = t.ends;
      wrote = subst (λ (l : List ℕ). WrittenBy end old.sink.written new.sink.written l) (sym (same t.taken)) t.wrote;
      some = λ is. subst (λ (l : List ℕ). 0 < length l) (sym (same t.taken)) (t.some is);
    }

headed : (head text whole : List ℕ) (a b c : Option (List ℕ)) (end : ServeEnd) → whole ≡ head ++ text → Appends a b head
    → WrittenBy end b c text → WrittenBy end a c whole
headed head text whole a b c ends.End e v w = appends_by a c _ _ e (Appends-then a b c head text v w)
headed head text whole a b c ends.Budget e v w = appends_by a c _ _ e (Appends-then a b c head text v w)
headed head text whole a b c ends.LinkFault e v w = appends_by a c _ _ e (Appends-then a b c head text v w)
headed head text whole a b c ends.WriteFault e v w = prefix_by a c _ _ e (prefix_then a b c head text v w)

ends_as : (n : ℕ) (taken : List Item) (old mid new : LineView) (end : ServeEnd) → mid.link.coming ≡ old.link.coming → mid.link.faults ≡ old.link.faults
    → mid.sink.faults ≡ old.sink.faults → EndsBy n mid new taken end → EndsBy n old new taken end
ends_as n taken old mid new ends.End i l k t = (subst (λ (o : Option (List Item)). TookAll o taken) i t.0, t.1, t.2 ∙ l, t.3 ∙ k)
ends_as n taken old mid new ends.Budget i l k t = (t.0, t.1 ∙ l, t.2 ∙ k)
ends_as n taken old mid new ends.LinkFault i l k t = (t.0, rw l at t.1, t.2 ∙ k)
ends_as n taken old mid new ends.WriteFault i l k t = (t.0, t.1 ∙ l, rw k at t.2)

-- a head was written before
pub reported_after : (head : List ℕ) (text text' : List Item → List ℕ) (n : ℕ) (old mid new : LineView) (end : ServeEnd)
    → ((items : List Item) → text' items ≡ head ++ text items)
    → mid.link.coming ≡ old.link.coming → mid.link.faults ≡ old.link.faults → mid.sink.faults ≡ old.sink.faults → Appends old.sink.written mid.sink.written head
    → ReportsLine text n mid new end → ReportsLine text' n old new end
reported_after head text text' n old mid new end same i l k w t = record {
  taken = t.taken;
  consumed = subst (λ (o : Option (List Item)). Consumes o new.link.coming t.taken) i t.consumed;
  ends = ends_as n t.taken old mid new end i l k t.ends;
  wrote = headed head (text t.taken) _ _ _ _ end (same t.taken) w t.wrote;
  some = λ is. (let some = t.some is in omega (arith, some, length-append head (text t.taken), ap (λ l. length l) (same t.taken)));
}
