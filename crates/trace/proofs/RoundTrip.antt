-- A capture file that was written of a line is read as the line's datagrams.
use Rattle.trace.proofs.Prelude.{◌≡◌, ℕ, Bool, true, false, leb, if◌then◌else◌, ◌+◌, ◌*◌, ◌/◌, ◌%◌, ◌<◌, ◌≤◌, List, [], ◌∷◌, ◌++◌, Option}
use Rattle.trace.proofs.Prelude.{Some, None, length, map, refl, sym, ap, ◌∙◌, append-nil, arith, length-append, subst, Appends}
use Rattle.trace.proofs.Prelude.{AllByRecursion, flat_map, leb-true, length-map, map-append, take-append-le, flat_map-append, Consumes}
use Rattle.trace.proofs.Prelude.{bytes_among, TookAll, Item, Byte, Frame, Datagram, Overlong, all_but_last, frame_of, frames, parts}
use Rattle.trace.proofs.Prelude.{unescaped, slip_text, LARGEST_DATAGRAM, appends_by, bytes_among-append, bytes_among-map, taken_within}
use Rattle.trace.proofs.Prelude.{Captured, HoldsJust, IsCaptured, IsReadAs, Reading, cut_in, captured_in, captured_bytes, fault_in}
use Rattle.trace.proofs.Prelude.{lines_of, order_of, BadHeader, BadLength, InRecord, InHeader, Whole, capture_header, capture_file}
use Rattle.trace.proofs.Prelude.{datagrams_in, datagrams_on, frame_record, Converts, IsSurely, SlipEndsBy, end_by_cut, Seen, seen_on, Big}
use Rattle.trace.proofs.Prelude.{CaptureWhy, SlipEnd, LineView, LineUnfailed}
use Rattle.uip_wire.specs.Prelude.{long_bytes}
use Rattle.std.proofs.Math.Nat.{div-add-mod}
use Rattle.trace.proofs.CaptureLaws.{captured_line, length_in-append, more_rest}
use Rattle.trace.proofs.OneReading.{one_reading}
use Rattle.trace.proofs.ReadLaws.{line_some}
use Rattle.trace.proofs.TextLaws.{seen_record}
use Rattle.trace.proofs.SeenLaws.{frame_in, frames_seen}
use Rattle.trace.specs.declared.slip_end.CaptureWhy.TheVariants as whys
use Rattle.trace.specs.declared.slip_end.SlipEnd.TheVariants as ends

none_is_not : {fault : ℕ × CaptureWhy} (o : Option (ℕ × CaptureWhy)) → o ≡ None → o ≡ Some fault → ⊥
none_is_not o none some = absurd cc

uncut : {number : ℕ} (o : Option ℕ) → o ≡ None → o ≡ Some number → ⊥
uncut o none some = absurd cc

fault_or : ℕ × CaptureWhy → Option (ℕ × CaptureWhy) → ℕ × CaptureWhy
fault_or d None = d
fault_or d (Some fault) = fault

same_fault : (o : Option (ℕ × CaptureWhy)) (one other : ℕ × CaptureWhy) → o ≡ Some one → o ≡ Some other → one ≡ other
unfolding fault_or
same_fault o one other p q = ap (λ f. fault_or one f) (sym p ∙ q)

bad_end : ℕ × CaptureWhy → SlipEnd
bad_end fault = ends.Bad fault.0 fault.1

same_bad : (o : Option (ℕ × CaptureWhy)) (one other : ℕ × CaptureWhy) → o ≡ Some one → o ≡ Some other → ends.Bad one.0 one.1 ≡ ends.Bad other.0 other.1
unfolding bad_end
same_bad o one other p q = ap bad_end (same_fault o one other p q)

-- the answer that must come where nothing failed
module _ (n : ℕ) (old new : LineView) (taken : List Item) (reading : Reading) (calm : LineUnfailed old new) where
  reported_bad : (end : SlipEnd) → SlipEndsBy n old new taken reading end → (number : ℕ) (why : CaptureWhy)
      → fault_in reading ≡ Some (number, why) → end ≡ ends.Bad number why
  reported_bad ends.End by number why f = absurd (none_is_not _ by.1 f)
  reported_bad ends.Budget by number why f = absurd (none_is_not _ by.1 f)
  reported_bad ends.LinkFault by number why f = absurd (none_is_not _ by.1 f)
  reported_bad ends.WriteFault by number why f = absurd (omega (arith, by.2, calm.sink, calm.sink.below))
  reported_bad (ends.Bad m whys.Cut) by number why f = absurd (none_is_not _ by.1 f)
  reported_bad (ends.Bad m whys.Head) by number why f = same_bad _ (m, whys.Head) (number, why) by.2 f
  reported_bad (ends.Bad m whys.Length) by number why f = same_bad _ (m, whys.Length) (number, why) by.2 f

  reported_budget : (end : SlipEnd) → SlipEndsBy n old new taken reading end → fault_in reading ≡ None → length taken ≡ n → end ≡ ends.Budget
  reported_budget ends.End by none all = absurd (omega (arith, by.0.1))
  reported_budget ends.Budget by none all = refl
  reported_budget ends.LinkFault by none all = absurd (omega (arith, by.0.0))
  reported_budget ends.WriteFault by none all = absurd (omega (arith, by.2, calm.sink, calm.sink.below))
  reported_budget (ends.Bad m whys.Cut) by none all = absurd (omega (arith, by.0.1))
  reported_budget (ends.Bad m whys.Head) by none all = absurd (none_is_not _ none by.2)
  reported_budget (ends.Bad m whys.Length) by none all = absurd (none_is_not _ none by.2)

  reported_over : (end : SlipEnd) → SlipEndsBy n old new taken reading end → (all : List Item) → fault_in reading ≡ None
      → old.link.coming ≡ Some all → length all < n
      → Consumes old.link.coming new.link.coming taken → end ≡ end_by_cut (cut_in reading)
  reported_over ends.End by all none reported short c = ap (λ o. end_by_cut o) (sym by.2)
  reported_over ends.Budget by all none reported short c = absurd (omega (arith, taken_within old.link.coming new.link.coming all taken reported c, by.0.0))
  reported_over ends.LinkFault by all none reported short c = absurd (omega (arith, by.0.1, calm.link, calm.link.below))
  reported_over ends.WriteFault by all none reported short c = absurd (omega (arith, by.2, calm.sink, calm.sink.below))
  reported_over (ends.Bad m whys.Cut) by all none reported short c = ap (λ o. end_by_cut o) (sym by.2)
  reported_over (ends.Bad m whys.Head) by all none reported short c = absurd (none_is_not _ none by.2)
  reported_over (ends.Bad m whys.Length) by all none reported short c = absurd (none_is_not _ none by.2)

pub surely : (n : ℕ) (old new : LineView) (taken : List Item) (reading : Reading) (end : SlipEnd) → SlipEndsBy n old new taken reading end
    → LineUnfailed old new → IsSurely n old new taken reading end
surely n old new taken reading end by calm = record {
  bad = reported_bad n old new taken reading calm end by;
  budget = reported_budget n old new taken reading calm end by;
  over = reported_over n old new taken reading calm end by;
}

-- a datagram of a line has from 1 to 1500 bytes
abbrev Fits : Frame → Type 0
Fits (Datagram bytes) = (0 < length bytes) × (length bytes ≤ LARGEST_DATAGRAM)
Fits Overlong = Unit {0}

fits_if : (b : ℕ) (bytes : List ℕ) (t : Bool) → (t ≡ true → length (b ∷ bytes) ≤ LARGEST_DATAGRAM)
    → AllByRecursion Fits (if t then Datagram (b ∷ bytes) ∷ [] else Overlong ∷ [])
fits_if b bytes true h = ((omega arith, h refl), tt)
fits_if b bytes false h = (tt, tt)

frame_fits : (part : List ℕ) → AllByRecursion Fits (frame_of part)
frame_fits [] = tt
frame_fits (b ∷ bytes) =
    fits_if b bytes (leb (length (b ∷ bytes)) LARGEST_DATAGRAM) (λ e. leb-true (length (b ∷ bytes)) LARGEST_DATAGRAM e)

all_append : {X : Type 0} (P : X → Type 0) (xs ys : List X) → AllByRecursion P xs → AllByRecursion P ys → AllByRecursion P (xs ++ ys)
all_append P [] ys a b = b
all_append P (x ∷ xs) ys a b = (a.0, all_append P xs ys a.1 b)

parts_fit : (parts : List (List ℕ)) → AllByRecursion Fits (flat_map (λ part. frame_of (unescaped part)) parts)
parts_fit [] = tt
parts_fit (part ∷ parts) = all_append Fits (frame_of (unescaped part)) _ (frame_fits (unescaped part)) (parts_fit parts)

frames_fit : (bytes : List ℕ) → AllByRecursion Fits (frames bytes)
frames_fit bytes = parts_fit (all_but_last (parts bytes))

-- the record of a frame
abbrev head_bytes : ℕ → List ℕ → List ℕ
head_bytes silences datagram =
    long_bytes (silences / 2 % 4294967296) ++ long_bytes (500000 * (silences % 2)) ++ long_bytes (length datagram) ++ long_bytes (length datagram)

abbrev frame_captured : ℕ → Frame → List Captured
frame_captured silences (Datagram bytes) = record { head = head_bytes silences bytes; body = bytes } ∷ []
frame_captured silences Overlong = []

abbrev seen_captured : Seen → List Captured
seen_captured s = frame_captured s.silences s.frame

length_back : (n : ℕ) → 65536 * (256 * (n / 65536 / 256) + n / 65536 % 256) + (256 * (n % 65536 / 256) + n % 65536 % 256) ≡ n
length_back n =
    ap (λ k. 65536 * k + (256 * (n % 65536 / 256) + n % 65536 % 256)) (div-add-mod (n / 65536) 256)
    ∙ ap (λ k. 65536 * (n / 65536) + k) (div-add-mod (n % 65536) 256)
    ∙ div-add-mod n 65536

frame_sound : (silences : ℕ) (frame : Frame) → Fits frame → AllByRecursion (IsCaptured Big) (frame_captured silences frame)
frame_sound silences (Datagram bytes) fits = (record { head = refl; body = sym (length_back (length bytes)); fits = fits.1 }, tt)
frame_sound silences Overlong fits = tt

records_sound : (seen : List Seen) → AllByRecursion Fits (map frame_in seen) → AllByRecursion (IsCaptured Big) (flat_map seen_captured seen)
records_sound [] all = tt
records_sound (s ∷ seen) all = all_append (IsCaptured Big) (seen_captured s) (flat_map seen_captured seen)
    (frame_sound s.silences s.frame all.0) (records_sound seen all.1)

frame_spelled : (silences : ℕ) (frame : Frame) → frame_record silences frame ≡ flat_map captured_bytes (frame_captured silences frame)
frame_spelled silences (Datagram bytes) = sym (append-nil (head_bytes silences bytes ++ bytes))
frame_spelled silences Overlong = refl

records_spelled : (seen : List Seen) → flat_map seen_record seen ≡ flat_map captured_bytes (flat_map seen_captured seen)
records_spelled [] = refl
records_spelled (s ∷ seen) =
    ap (λ l. seen_record s ++ l) (records_spelled seen)
    ∙ ap (λ l. l ++ flat_map captured_bytes (flat_map seen_captured seen)) (frame_spelled s.silences s.frame)
    ∙ sym (flat_map-append captured_bytes (seen_captured s) (flat_map seen_captured seen))

abbrev body_of : Captured → List ℕ
body_of captured = captured.body

frame_body : (silences : ℕ) (frame : Frame) → map body_of (frame_captured silences frame) ≡ datagrams_in frame
frame_body silences (Datagram bytes) = refl
frame_body silences Overlong = refl

bodies_of : (seen : List Seen) → map body_of (flat_map seen_captured seen) ≡ flat_map datagrams_in (map frame_in seen)
bodies_of [] = refl
bodies_of (s ∷ seen) =
    map-append body_of (seen_captured s) (flat_map seen_captured seen)
    ∙ ap (λ l. l ++ map body_of (flat_map seen_captured seen)) (frame_body s.silences s.frame)
    ∙ ap (λ l. datagrams_in s.frame ++ l) (bodies_of seen)

frame_line : (silences : ℕ) (frame : Frame) → Fits frame → flat_map captured_line (frame_captured silences frame) ≡ flat_map slip_text (datagrams_in frame)
frame_line silences (Datagram bytes) fits = ap (λ l. l ++ []) (line_some bytes fits.0)
frame_line silences Overlong fits = refl

lines_are : (seen : List Seen) → AllByRecursion Fits (map frame_in seen) → lines_of (flat_map seen_captured seen) ≡ flat_map slip_text
    (flat_map datagrams_in (map frame_in seen))
lines_are [] all = refl
lines_are (s ∷ seen) all =
    flat_map-append captured_line (seen_captured s) (flat_map seen_captured seen)
    ∙ ap (λ l. l ++ lines_of (flat_map seen_captured seen)) (frame_line s.silences s.frame all.0)
    ∙ ap (λ l. flat_map slip_text (datagrams_in s.frame) ++ l) (lines_are seen all.1)
    ∙ sym (flat_map-append slip_text (datagrams_in s.frame) (flat_map datagrams_in (map frame_in seen)))

-- the capture file of a line
module _ (items : List Item) where
  abbrev records : List Captured
  records = flat_map seen_captured (seen_on items)

  all_fit : AllByRecursion Fits (map frame_in (seen_on items))
  all_fit = subst (λ (l : List Frame). AllByRecursion Fits l) (sym (frames_seen items)) (frames_fit (bytes_among items))

  read_whole : IsReadAs (capture_file items) (Whole records)
  read_whole = (
    Big,
    record {
      header = capture_header;
      size = refl;
      good = refl;
      sound = records_sound (seen_on items) all_fit;
      spelled = ap (λ l. capture_header ++ l) (records_spelled (seen_on items)) ∙ sym (append-nil (capture_header ++ flat_map captured_bytes records));
    },
  )

  datagrams : flat_map datagrams_in (map frame_in (seen_on items)) ≡ datagrams_on items
  datagrams = ap (λ l. flat_map datagrams_in l) (frames_seen items)

  pub holds_just : HoldsJust (datagrams_on items) (capture_file items)
  holds_just = record { records = records; read = read_whole; bodies = bodies_of (seen_on items) ∙ datagrams }

  line_is : lines_of records ≡ flat_map slip_text (datagrams_on items)
  line_is = lines_are (seen_on items) all_fit ∙ ap (λ l. flat_map slip_text l) datagrams

-- a fault stays whatever follows
fault_stays : (bytes more : List ℕ) (reading : Reading) (fault : ℕ × CaptureWhy) → IsReadAs bytes reading → fault_in reading ≡ Some fault
    → IsReadAs (bytes ++ more) reading
fault_stays bytes more InHeader fault read e = absurd cc
fault_stays bytes more BadHeader fault read e =
    (omega (arith, read.0, length-append bytes more), ap (λ l. order_of l) (take-append-le 24 bytes more read.0) ∙ read.1)
fault_stays bytes more (Whole records) fault read e = absurd cc
fault_stays bytes more (InRecord records) fault read e = absurd cc
fault_stays bytes more (BadLength records) fault read e =
    let order = read.0 in
    let rest = read.1 in
    let head = read.3.head in
    let long = read.3.long in (
      order,
      rest ++ more,
      more_rest order records rest bytes more read.2,
      record {
        head = omega (arith, length-append rest more);
        long = subst (λ (k : ℕ). LARGEST_DATAGRAM < k) (sym (length_in-append order rest more head)) long;
      },
    )

-- the content of a line that holds just these bytes
reported_rest : (old new : Option (List Item)) (text : List ℕ) (taken : List Item) → old ≡ Some (map Byte text) → Consumes old new taken
    → (left : List Item) × (text ≡ bytes_among taken ++ bytes_among left)
reported_rest None new text taken e c = absurd cc
reported_rest (Some all) None text taken e c = absurd c
reported_rest (Some all) (Some left) text taken e c =
    let same : all ≡ map Byte text = cc in
    (left, sym (bytes_among-map text) ∙ ap (λ l. bytes_among l) (sym same ∙ c) ∙ bytes_among-append taken left)

reported_all : (old : Option (List Item)) (text : List ℕ) (taken : List Item) → old ≡ Some (map Byte text) → TookAll old taken → bytes_among taken ≡ text
reported_all None text taken e t = absurd cc
reported_all (Some all) text taken e t =
    let same : all ≡ map Byte text = cc in
    ap (λ l. bytes_among l) (sym t ∙ same) ∙ bytes_among-map text

module _ (items : List Item) (n : ℕ) (old new : LineView) (reported : old.link.coming ≡ Some (map Byte (capture_file items)))
    (short : length (capture_file items) < n)
    (calm : LineUnfailed old new) where
  abbrev Back : SlipEnd → Type 0
  Back end = (end ≡ ends.End) × Appends old.sink.written new.sink.written (flat_map slip_text (datagrams_on items))

  whole_size : length (map Byte (capture_file items)) ≡ length (capture_file items)
  whole_size = rw length-map refl

  read_all : (reading : Reading) (taken : List Item) → IsReadAs (bytes_among taken) reading → TookAll old.link.coming taken → reading ≡ Whole (records items)
  read_all reading taken read all =
      one_reading (capture_file items) reading (Whole (records items))
      (subst (λ (l : List ℕ). IsReadAs l reading) (reported_all old.link.coming (capture_file items) taken reported all) read) (read_whole items)

  no_fault : (reading : Reading) (taken : List Item) (fault : ℕ × CaptureWhy) → IsReadAs (bytes_among taken) reading
      → Consumes old.link.coming new.link.coming taken
      → fault_in reading ≡ Some fault → ⊥
  no_fault reading taken fault read c e =
      let rest = reported_rest old.link.coming new.link.coming (capture_file items) taken reported c in
      let same : reading ≡ Whole (records items) =
      one_reading (capture_file items) reading (Whole (records items))
      (subst (λ (l : List ℕ). IsReadAs l reading) (sym rest.1) (fault_stays (bytes_among taken) (bytes_among rest.0) reading fault read e))
      (read_whole items) in
      none_is_not (fault_in reading) (ap (λ r. fault_in r) same) e

  back : (end : SlipEnd) → Converts n old new end → Back end
  back ends.End c =
      let same = read_all c.reading c.taken c.read c.ends.0.0 in
      (refl, appends_by _ _ _ _ (sym (ap (λ r. lines_of (captured_in r)) same ∙ line_is items)) c.wrote)
  back ends.Budget c =
      absurd (omega (arith, taken_within old.link.coming new.link.coming (map Byte (capture_file items)) c.taken reported c.consumed, c.ends.0.0, whole_size))
  back ends.LinkFault c = absurd (omega (arith, c.ends.0.1, calm.link, calm.link.below))
  back ends.WriteFault c = absurd (omega (arith, c.ends.2, calm.sink, calm.sink.below))
  back (ends.Bad m whys.Cut) c =
      let same = read_all c.reading c.taken c.read c.ends.0.0 in absurd (uncut (cut_in c.reading) (ap (λ r. cut_in r) same) c.ends.2)
  back (ends.Bad m whys.Head) c = absurd (no_fault c.reading c.taken (m, whys.Head) c.read c.consumed c.ends.2)
  back (ends.Bad m whys.Length) c = absurd (no_fault c.reading c.taken (m, whys.Length) c.read c.consumed c.ends.2)

pub comes_back : (items : List Item) (n : ℕ) (old new : LineView) (end : SlipEnd) → old.link.coming ≡ Some (map Byte (capture_file items))
    → length (capture_file items) < n → Converts n old new end → LineUnfailed old new
    → (end ≡ ends.End) × Appends old.sink.written new.sink.written (flat_map slip_text (datagrams_on items))
comes_back items n old new end reported short c calm = back items n old new reported short calm end c
