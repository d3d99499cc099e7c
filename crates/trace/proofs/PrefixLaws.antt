-- The frames of bytes that a decoder consumed, and what is written of them.
use Rattle.trace.proofs.Prelude.{◌≡◌, ℕ, ◌+◌, List, [], ◌∷◌, ◌++◌, Option, Result, Ok, Err, IfErr, length, map, take, drop, refl, sym, ap}
use Rattle.trace.proofs.Prelude.{◌∙◌, append-nil, arith, length-append, subst, length-map, map-append, take-append-drop, Appends, Rose}
use Rattle.trace.proofs.Prelude.{SinkView, BreaksOff, breaks_by, breaks_then, breaks_whole, Appends-none, Appends-then, appends_by}
use Rattle.trace.proofs.Prelude.{bytes_among-append, bytes_among-map, Item, Byte, Quiet, State, WasFed, Frame, frames, seen_at, seen_after}
use Rattle.trace.proofs.Prelude.{seen_on, silences_of, BrokeWatch, HasSeen, IsWatched, Saw, text_after, texts_from, Form, bytes_among}
use Rattle.trace.specs.declared.watch.Watch.{Watch}
use Rattle.trace.proofs.SeenLaws.{seen-reported, seen_on-append, silences-append, silences-bytes, text-then}

-- what holds of a failure, whichever it is
pub if_err : {T E P : Type 0} (r : Result T E) → P → IfErr r (λ e. P)
if_err (Ok x) p = tt
if_err (Err e) p = p

-- what a decoder reports of these bytes, whatever it was fed before
abbrev pub Reported : State → State → List ℕ → List Frame → Type 0
Reported decoder decoder' bytes reported = (fed : List ℕ) → WasFed fed decoder → WasFed (fed ++ bytes) decoder'
    × (frames (fed ++ bytes) ≡ frames fed ++ reported)

module _ (decoder decoder' : State) (count silences : ℕ) (bytes : List ℕ) (reported : List Frame) (fed : Reported decoder decoder' bytes reported) where
  brought : (before : List Item) → HasSeen before decoder count silences
      → seen_after (bytes_among before) (silences_of before) (map Byte bytes) ≡ map (seen_at silences) reported
  brought before h =
      seen-reported (bytes_among before) (silences_of before) bytes reported (fed (bytes_among before) h.fed).1
      ∙ ap (λ n. map (seen_at n) reported) (sym h.waited)

  pub prefix_seen : (before : List Item) → HasSeen before decoder count silences → HasSeen (before ++ map Byte bytes) decoder'
      (count + length reported) silences
  prefix_seen before h =
      let line : bytes_among (before ++ map Byte bytes) ≡ bytes_among before ++ bytes =
      bytes_among-append before (map Byte bytes) ∙ ap (λ l. bytes_among before ++ l) (bytes_among-map bytes) in
      let same : length (map (seen_at silences) reported) ≡ length reported = rw length-map refl in
      let size = ap (λ l. length l) (seen_on-append before (map Byte bytes) ∙ ap (λ l. seen_on before ++ l) (brought before h)) in
      record {
        fed = subst (λ (l : List ℕ). WasFed l decoder') (sym line) (fed (bytes_among before) h.fed).0;
        numbered = omega (arith, size, h.numbered, length-append (seen_on before) (map (seen_at silences) reported), same);
        waited = omega (arith, h.waited, silences-append before (map Byte bytes), silences-bytes bytes);
      }

  pub prefix_text : (form : Form) (before : List Item) → HasSeen before decoder count silences
      → text_after form before (map Byte bytes) ≡ texts_from form (count + 1) (map (seen_at silences) reported)
  prefix_text form before h =
      ap (λ l. texts_from form (length (seen_on before) + 1) l) (brought before h)
      ∙ ap (λ n. texts_from form (n + 1) (map (seen_at silences) reported)) (sym h.numbered)

-- what broke off in the text of bytes broke off in the text of more bytes
pub broke_in_more : (form : Form) (before : List Item) (n : ℕ) (bytes : List ℕ) (a b : Option (List ℕ))
    → BreaksOff [] (text_after form before (map Byte (take n bytes))) a b → BreaksOff [] (text_after form before (map Byte bytes)) a b
broke_in_more form before n bytes a b p =
    let first = map Byte (take n bytes) in
    let rest = map Byte (drop n bytes) in
    let whole : map Byte bytes ≡ first ++ rest = ap (λ l. map Byte l) (sym (take-append-drop n bytes)) ∙ map-append Byte (take n bytes) (drop n bytes) in
    breaks_whole [] (text_after form before first) (text_after form (before ++ first) rest) (text_after form before (map Byte bytes)) a b
    (ap (λ l. text_after form before l) whole ∙ text-then form before first rest) p

-- what was written of a frame broke off
pub prefix_broke : (decoder decoder' : State) (count silences n : ℕ) (bytes : List ℕ) (reported : List Frame)
    → Reported decoder decoder' (take n bytes) reported
    → (form : Form) (area : List ℕ) (a b : Option (List ℕ)) → area ≡ texts_from form (count + 1) (map (seen_at silences) reported) → BreaksOff [] area a b
    → (before : List Item) → HasSeen before decoder count silences → BreaksOff [] (text_after form before (map Byte bytes)) a b
prefix_broke decoder decoder' count silences n bytes reported fed form area a b e p = λ before h.
    broke_in_more form before n bytes a b
    (breaks_by [] [] (text_after form before (map Byte (take n bytes))) area a b refl
    (prefix_text decoder decoder' count silences (take n bytes) reported fed form before h ∙ sym e) p)

-- a silence brings no frame
pub silence_seen : (before : List Item) (decoder : State) (count silences : ℕ) → HasSeen before decoder count silences
    → HasSeen (before ++ Quiet ∷ []) decoder count (silences + 1)
silence_seen before decoder count silences h =
    let line : bytes_among (before ++ Quiet ∷ []) ≡ bytes_among before = bytes_among-append before (Quiet ∷ []) ∙ append-nil (bytes_among before) in
    let size = ap (λ l. length l) (seen_on-append before (Quiet ∷ []) ∙ append-nil (seen_on before)) in
    record {
      fed = subst (λ (l : List ℕ). WasFed l decoder) (sym line) h.fed;
      numbered = omega (arith, size, h.numbered);
      waited = omega (arith, h.waited, silences-append before (Quiet ∷ []));
    }

module _ (k : Form × Option (List ℕ)) (before : List Item) (a b : Option (List ℕ)) (watch : Watch) (h : IsWatched k before a watch) where
  -- the text of further items was written
  pub wrote_on : (items : List Item) (text : List ℕ) → text_after watch.form before items ≡ text → Appends a b text
      → Appends k.1 b (text_after k.0 [] (before ++ items))
  wrote_on items text e w =
      let first = text_after k.0 [] before in
      appends_by k.1 b _ _
      (text-then k.0 [] before items ∙ ap (λ f. first ++ text_after f before items) (sym h.form) ∙ ap (λ l. first ++ l) e)
      (Appends-then k.1 a b first text h.written w)

  -- or it broke off
  pub broke_on : (items : List Item) → BreaksOff [] (text_after watch.form before items) a b
      → BreaksOff (text_after k.0 [] before) (text_after k.0 before items) k.1 b
  broke_on items p =
      let first = text_after k.0 [] before in
      breaks_by first (first ++ []) (text_after k.0 before items) (text_after watch.form before items) k.1 b
      (sym (append-nil first)) (ap (λ f. text_after f before items) (sym h.form))
      (breaks_then first [] (text_after watch.form before items) k.1 a b h.written p)

pub broke_watch : (watch : Watch) (bytes : List ℕ) (a : Option (List ℕ)) (faults : ℕ) (new : SinkView)
    → ((before : List Item) → Saw before watch → BreaksOff [] (text_after watch.form before (map Byte bytes)) a new.written) → Rose faults new.faults
    → (k : Form × Option (List ℕ)) (before : List Item) → IsWatched k before a watch → BrokeWatch k before bytes faults new
broke_watch watch bytes a faults new broke rose k before h =
    record { broke = broke_on k before a new.written watch h (map Byte bytes) (broke before h.seen); rose = rose }

-- a silence has no text
pub silence_watched : (k : Form × Option (List ℕ)) (before : List Item) (now : Option (List ℕ)) (watch : Watch) → IsWatched k before now watch
    → IsWatched k (before ++ Quiet ∷ []) now (record watch { silences = watch.silences + 1 })
silence_watched k before now watch h = record {
  form = h.form;
  seen = silence_seen before watch.decoder watch.frames watch.silences h.seen;
  written = wrote_on k before now now watch h (Quiet ∷ []) [] refl (Appends-none now);
}
