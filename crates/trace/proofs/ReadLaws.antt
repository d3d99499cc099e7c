-- What the reader of a capture file knows, one step after another.
use Rattle.trace.proofs.Prelude.{◌≡◌, ℕ, ◌+◌, ◌-◌, ◌<◌, ◌≤◌, List, [], ◌∷◌, ◌++◌, Option, Some, None, length, take, drop, refl, sym, ap}
use Rattle.trace.proofs.Prelude.{◌∙◌, append-nil, append_assoc, arith, length-append, length-drop, subst, length-take-le, take-append-drop}
use Rattle.trace.proofs.Prelude.{take_rest, flat_map-append, Appends, Appends-then, appends_by, prefix_by, prefix_more, prefix_then}
use Rattle.trace.proofs.Prelude.{AppendsPrefix, slip_text, LARGEST_DATAGRAM, BeginsWith, Captured, IsCaptured, captured_in, length_in}
use Rattle.trace.proofs.Prelude.{line_text, lines_of, order_of, BadHeader, BadLength, BrokeOff, IsReadTo, IsAtFault, StopsAt, ByteOrder}
use Rattle.trace.proofs.Prelude.{Stop, Stage}
use Rattle.trace.specs.declared.slip_end.CaptureWhy.TheVariants as whys
use Rattle.trace.specs.declared.stage.Stage.TheVariants as stages
use Rattle.trace.proofs.CaptureLaws.{captured_line, prefix_of, length_in-append, lines-more, more_rest, one_more, reads_on}

module _ (start now : Option (List ℕ)) (bytes : List ℕ) (number : ℕ) (part : List ℕ) where
  -- the header is none that is read
  pub header_fault : (more : List ℕ) → length part ≡ 24 → order_of part ≡ None → IsReadTo start now bytes stages.Header number part
      → IsAtFault whys.Head start now (bytes ++ more) number
  header_fault more size none at =
      let same : take 24 (bytes ++ more) ≡ part = ap (λ l. take 24 (l ++ more)) (sym at.read.2) ∙ prefix_of 24 part more size in
      let count = ap (λ l. length l) at.read.2 in
      record {
        reading = BadHeader;
        read = (omega (arith, size, count, length-append bytes more), ap (λ l. order_of l) same ∙ none);
        fault = ap (λ n. Some (n, whys.Head)) (sym at.read.0);
        written = subst (λ (l : List Captured). Appends start now (lines_of l)) at.read.1 at.written;
      }

  module _ (order : ByteOrder) where
    -- a record has too great a length
    pub length_fault : (more : List ℕ) → length part ≡ 16 → LARGEST_DATAGRAM < length_in order part → IsReadTo start now bytes (stages.Head order) number part
        → IsAtFault whys.Length start now (bytes ++ more) number
    length_fault more size long at = record {
      reading = BadLength at.records;
      read = (
        order,
        part ++ more,
        more_rest order at.records part bytes more at.read.1,
        record {
          head = omega (arith, size, length-append part more);
          long = subst (λ (n : ℕ). LARGEST_DATAGRAM < n) (sym (length_in-append order part more (omega (arith, size)))) long;
        },
      );
      fault = ap (λ n. Some (n, whys.Length)) (sym at.read.0);
      written = at.written;
    }

    -- a record without a byte
    pub empty_captured : length part ≡ 16 → length_in order part ≡ 0 → IsReadTo start now bytes (stages.Head order) number part
        → IsReadTo start now bytes (stages.Head order) (number + 1) []
    empty_captured size none at =
        let captured : Captured = record { head = part; body = [] } in
        let is : IsCaptured order captured = record { head = size; body = sym none; fits = omega arith } in
        record {
          records = at.records ++ captured ∷ [];
          read = (
            omega (arith, at.read.0, length-append at.records (captured ∷ [])),
            one_more order at.records part [] bytes captured at.read.1 is (sym (append-nil (part ++ []) ∙ append-nil part)),
          );
          written = appends_by _ _ _ _ (lines-more at.records captured ∙ append-nil (lines_of at.records)) at.written;
        }

pub line_some : (datagram : List ℕ) → 0 < length datagram → line_text datagram ≡ slip_text datagram
line_some [] some = absurd (omega arith)
line_some (b ∷ datagram) some = refl

-- the datagram in a record's bytes
pub body_part : (bytes part : List ℕ) → bytes ≡ part → take (length bytes - 16) (drop 16 bytes) ≡ drop 16 part
body_part bytes part e = rw take_rest (ap (λ l. drop 16 l) e)

-- a record with its datagram
pub record IsBody (order : ByteOrder) (part : List ℕ) : Type 0 where
  pub some : 16 < length part
  pub size : length part ≡ 16 + length_in order part
  pub fits : length_in order part ≤ LARGEST_DATAGRAM

module _ (start old new : Option (List ℕ)) (bytes : List ℕ) (number : ℕ) (part : List ℕ) (order : ByteOrder) (is : IsBody order part)
    (at : IsReadTo start old bytes (stages.Body order) number part) where
  abbrev captured : Captured
  captured = record { head = take 16 part; body = drop 16 part }

  captured_is : IsCaptured order captured
  captured_is =
      let least : 16 ≤ length part = let s = is.some in omega arith in
      let head : length (take 16 part) ≡ 16 = length-take-le 16 part least in
      let body : length (drop 16 part) ≡ length_in order part = let s = is.size in omega (arith, length-drop 16 part) in
      let same : length_in order (take 16 part) ≡ length_in order part =
      sym (length_in-append order (take 16 part) (drop 16 part) (omega (arith, head))) ∙ ap (λ l. length_in order l) (take-append-drop 16 part) in
      record { head = head; body = body ∙ sym same; fits = subst (λ (n : ℕ). n ≤ LARGEST_DATAGRAM) (sym body) is.fits }

  whole : BeginsWith order (at.records ++ captured ∷ []) [] bytes
  whole = one_more order at.records part [] bytes captured at.read.1 captured_is (sym (append-nil (take 16 part ++ drop 16 part) ∙ take-append-drop 16 part))

  text : lines_of (at.records ++ captured ∷ []) ≡ lines_of at.records ++ slip_text (drop 16 part)
  text = lines-more at.records captured
      ∙ ap (λ l. lines_of at.records ++ l) (line_some (drop 16 part) (let s = is.some in omega (arith, length-drop 16 part)))

  -- its line was written
  pub body_done : Appends old new (slip_text (drop 16 part)) → IsReadTo start new bytes (stages.Head order) (number + 1) []
  body_done w = record {
    records = at.records ++ captured ∷ [];
    read = (omega (arith, at.read.0, length-append at.records (captured ∷ [])), whole);
    written = appends_by _ _ _ _ text (Appends-then start old new _ _ at.written w);
  }

  -- which is not empty
  text_some : 0 < length (lines_of (at.records ++ captured ∷ []))
  text_some = omega (arith, ap (λ l. length l) text, length-append (lines_of at.records) (slip_text (drop 16 part)))

  -- the writing of its line broke off
  pub body_broke : (more : List ℕ) → AppendsPrefix old new (slip_text (drop 16 part)) → BrokeOff start new (bytes ++ more)
  body_broke more w =
      let on = reads_on (length more + 1) order (at.records ++ captured ∷ []) more (bytes ++ more) (omega arith)
      (more_rest order (at.records ++ captured ∷ []) [] bytes more whole) in
      let lines = ap (λ l. lines_of l) on.first ∙ flat_map-append captured_line (at.records ++ captured ∷ []) on.more in
      let prefix = prefix_more start new (lines_of (at.records ++ captured ∷ [])) (lines_of on.more) (lines_of (captured_in on.reading))
      (sym lines)
      (prefix_by start new _ _ text (prefix_then start old new _ _ at.written w)) in
      record {
        reading = on.reading;
        read = on.read;
        broke = record {
          some = omega (arith, text_some, ap (λ l. length l) lines, length-append (lines_of (at.records ++ captured ∷ [])) (lines_of on.more));
          prefix = prefix.0;
          rest = prefix.1;
          cut = prefix.2;
          written = prefix.3;
        };
      }

-- the writing of its line broke off, whatever was read before
pub broke_all : (old new : Option (List ℕ)) (stage : Stage) (number : ℕ) (part text : List ℕ) (order : ByteOrder) → IsBody order part
    → stage ≡ stages.Body order
    → text ≡ slip_text (drop 16 part) → AppendsPrefix old new text
    → (start : Option (List ℕ)) (bytes more : List ℕ) → IsReadTo start old bytes stage number part → BrokeOff start new (bytes ++ more)
broke_all old new stage number part text order is here e w = λ start bytes more at.
    body_broke start old new bytes number part order is (subst (λ (s : Stage). IsReadTo start old bytes s number part) here at) more
    (prefix_by old new text (slip_text (drop 16 part)) (sym e) w)

-- more of the part was read
pub part_grows : (start now : Option (List ℕ)) (bytes more : List ℕ) (stage : Stage) (number : ℕ) (part : List ℕ) → IsReadTo start now bytes stage number part
    → IsReadTo start now (bytes ++ more) stage number (part ++ more)
part_grows start now bytes more stages.Header number part at =
    record { records = at.records; read = (at.read.0, at.read.1, ap (λ l. l ++ more) at.read.2); written = at.written }
part_grows start now bytes more (stages.Head order) number part at =
    record { records = at.records; read = (at.read.0, more_rest order at.records part bytes more at.read.1); written = at.written }
part_grows start now bytes more (stages.Body order) number part at =
    record { records = at.records; read = (at.read.0, more_rest order at.records part bytes more at.read.1); written = at.written }

-- what a whole part stopped at is what the bytes stopped at that it was read from
pub stops_prefix : (stop : Stop) (old new : Option (List ℕ)) (n : ℕ) (bytes : List ℕ) (stage : Stage) (number number' : ℕ) (part part' : List ℕ)
    → part' ≡ part ++ take n bytes
    → ((start : Option (List ℕ)) (fed more : List ℕ) → IsReadTo start old fed stage number part' → StopsAt stop start new (fed ++ more) number')
    → (start : Option (List ℕ)) (before : List ℕ) → IsReadTo start old before stage number part → StopsAt stop start new (before ++ bytes) number'
stops_prefix stop old new n bytes stage number number' part part' e f = λ start before at.
    subst (λ (l : List ℕ). StopsAt stop start new l number')
    (append_assoc before (take n bytes) (drop n bytes) ∙ ap (λ l. before ++ l) (take-append-drop n bytes))
    (f start (before ++ take n bytes) (drop n bytes)
    (subst (λ (l : List ℕ). IsReadTo start old (before ++ take n bytes) stage number l) (sym e)
    (part_grows start old before (take n bytes) stage number part at)))
