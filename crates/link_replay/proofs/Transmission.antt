-- Texts that are written one after another.
use Rattle.link_replay.proofs.Prelude.{◌≡◌, ℕ, List, [], ◌++◌, Option, Result, Ok, Err, refl, sym, ap, ◌∙◌, append_assoc, append-nil, subst}
use Rattle.link_replay.proofs.Prelude.{Appends, Appends-none, Appends-then, appends_by, prefix_by, prefix_more, prefix_then, Wrote}

-- a prefix of the whole text was written, and this is the rest
pub record Transmission (first now : Option (List ℕ)) (whole rest : List ℕ) : Type 0 where
  pub prefix : List ℕ
  pub parts : whole ≡ prefix ++ rest
  pub reported : Appends first now prefix

pub sending_starts : (first : Option (List ℕ)) (whole : List ℕ) → Transmission first first whole whole
sending_starts first whole = record { prefix = []; parts = refl; reported = Appends-none first }

-- a part more
pub sending_more : {T E : Type 0} (first mid now : Option (List ℕ)) (whole rest text more : List ℕ) (t : T)
    → Transmission first mid whole rest → rest ≡ text ++ more
    → Wrote {T = T} {E = E} mid now (Ok t) text → Transmission first now whole more
sending_more first mid now whole rest text more t s e w = record {
  prefix = s.prefix ++ text;
  parts = s.parts ∙ ap (λ l. s.prefix ++ l) e ∙ sym (append_assoc s.prefix text more);
  reported = Appends-then first mid now s.prefix text s.reported w.whole;
}

-- a part failed
pub sending_stops : {T U E D : Type 0} (first mid now : Option (List ℕ)) (whole rest text more : List ℕ) (e : E) (d : D) (r : Result U D)
    → r ≡ Err d → Transmission first mid whole rest
    → rest ≡ text ++ more → Wrote {T = T} {E = E} mid now (Err e) text → Wrote first now r whole
sending_stops first mid now whole rest text more e d (Ok u) is s same w = absurd cc
sending_stops first mid now whole rest text more e d (Err f) is s same w = record {
  whole = tt;
  prefix = prefix_by first now (s.prefix ++ rest) whole s.parts
      (prefix_then first mid now s.prefix rest s.reported (prefix_more mid now text more rest (sym same) w.prefix));
}

-- the last part is written, or fails
pub sending_ends : {T E : Type 0} (first mid now : Option (List ℕ)) (whole rest : List ℕ) (r : Result T E) → Transmission first mid whole rest
    → Wrote mid now r rest → Wrote first now r whole
sending_ends first mid now whole rest (Ok t) s w = record {
  whole = appends_by first now (s.prefix ++ rest) whole s.parts (Appends-then first mid now s.prefix rest s.reported w.whole);
  prefix = tt;
}
sending_ends first mid now whole rest (Err e) s w = record {
  whole = tt;
  prefix = prefix_by first now (s.prefix ++ rest) whole s.parts (prefix_then first mid now s.prefix rest s.reported w.prefix);
}

-- nothing is left
pub sending_done : {T E : Type 0} (first now : Option (List ℕ)) (whole rest : List ℕ) (t : T) → Transmission first now whole rest → rest ≡ []
    → Wrote {T = T} {E = E} first now (Ok t) whole
sending_done first now whole rest t s none = record {
  whole = appends_by first now s.prefix whole (s.parts ∙ ap (λ l. s.prefix ++ l) none ∙ append-nil s.prefix) s.reported;
  prefix = tt;
}

-- two texts, of which the first failed
pub wrote_stop : {T U E D : Type 0} (old now : Option (List ℕ)) (text more : List ℕ) (e : E) (d : D) (r : Result U D) → r ≡ Err d
    → Wrote {T = T} {E = E} old now (Err e) text → Wrote old now r (text ++ more)
wrote_stop old now text more e d r is w = sending_stops old old now (text ++ more) (text ++ more) text more e d r is (sending_starts old (text ++ more)) refl w

-- and of which the first was written
pub wrote_then : {T U D E : Type 0} (old mid now : Option (List ℕ)) (text more : List ℕ) (t : T) (r : Result U D) → Wrote {T = T} {E = E} old mid (Ok t) text
    → Wrote mid now r more → Wrote old now r (text ++ more)
wrote_then old mid now text more t r w v =
    sending_ends old mid now (text ++ more) more r (sending_more old old mid (text ++ more) (text ++ more) text more t
    (sending_starts old (text ++ more)) refl w) v

pub wrote_by : {T E : Type 0} (old now : Option (List ℕ)) (r : Result T E) (xs ys : List ℕ) → xs ≡ ys → Wrote old now r xs → Wrote old now r ys
wrote_by old now r xs ys e w = subst (Wrote old now r) e w
