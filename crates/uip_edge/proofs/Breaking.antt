-- A text whose writing broke off.
use Rattle.uip_edge.proofs.Prelude.{◌≡◌, ◌<◌, ℕ, List, [], ◌++◌, Option, length, sym, ap, ◌∙◌, append_assoc, arith, length-append, subst}
use Rattle.uip_edge.proofs.Prelude.{Appends, AppendsPrefix, BreaksOff}
use Rattle.uip_edge.proofs.Reported.{Appends-then, appends_by}

-- other names for what precedes a text and for the text
pub breaks_by : (us vs xs ys : List ℕ) (a b : Option (List ℕ)) → us ≡ vs → xs ≡ ys → BreaksOff vs ys a b → BreaksOff us xs a b
breaks_by us vs xs ys a b e f h = record {
  some = subst (λ (l : List ℕ). 0 < length l) (sym f) h.some;
  prefix = h.prefix;
  rest = h.rest;
  cut = f ∙ h.cut;
  written = appends_by a b _ _ (ap (λ l. l ++ h.prefix) e) h.written;
}

-- what was written is a prefix of all
pub breaks_prefix : (us xs : List ℕ) (a b : Option (List ℕ)) → BreaksOff us xs a b → AppendsPrefix a b (us ++ xs)
breaks_prefix us xs a b h = (us ++ h.prefix, h.rest, ap (λ l. us ++ l) h.cut ∙ sym (append_assoc us h.prefix h.rest), h.written)

-- a text that broke off after others
pub breaks_then : (us vs text : List ℕ) (a b c : Option (List ℕ)) → Appends a b us → BreaksOff vs text b c → BreaksOff (us ++ vs) text a c
breaks_then us vs text a b c first h = record {
  some = h.some;
  prefix = h.prefix;
  rest = h.rest;
  cut = h.cut;
  written = appends_by a c _ _ (append_assoc us vs h.prefix) (Appends-then a b c us (vs ++ h.prefix) first h.written);
}

-- what precedes a text belongs to it, and so does what was to follow
pub breaks_whole : (before text more whole : List ℕ) (a b : Option (List ℕ)) → whole ≡ (before ++ text) ++ more → BreaksOff before text a b
    → BreaksOff [] whole a b
breaks_whole before text more whole a b e h = record {
  some = let some = h.some in omega (arith, some, ap (λ l. length l) e, length-append (before ++ text) more, length-append before text);
  prefix = before ++ h.prefix;
  rest = h.rest ++ more;
  cut = e ∙ ap (λ l. (before ++ l) ++ more) h.cut ∙ ap (λ l. l ++ more) (sym (append_assoc before h.prefix h.rest))
      ∙ append_assoc (before ++ h.prefix) h.rest more;
  written = h.written;
}
