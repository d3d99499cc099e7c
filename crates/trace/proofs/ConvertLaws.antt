-- How the reading of a capture file ends.
use Rattle.trace.proofs.Prelude.{◌≡◌, ℕ, ◌<◌, ◌≤◌, List, [], ◌∷◌, ◌++◌, Option, Some, None, length, map, take, refl, sym, ap, ◌∙◌}
use Rattle.trace.proofs.Prelude.{append-nil, arith, subst, Appends, Consumes, bytes_among, EndsBy, Item, Byte, Quiet, ServeEnd}
use Rattle.trace.proofs.Prelude.{breaks_prefix, bytes_among-append, bytes_among-map, LineView, IsCalm, SinkView, Captured, IsReadAs}
use Rattle.trace.proofs.Prelude.{Reading, cut_in, captured_in, fault_in, lines_of, BadHeader, BadLength, InRecord, InHeader, Whole}
use Rattle.trace.proofs.Prelude.{Converts, HasNewFault, IsFoundSoon, SlipEndsBy, WroteLine, IsReadTo, IsOpen, IsReadSound, StopBy, Stopped}
use Rattle.trace.proofs.Prelude.{StopsAt, end_at, EndsRead, StopsRead, Stop, CaptureWhy, SlipEnd, Stage}
use Rattle.trace.specs.declared.reader.Reader.{Reader}
use Rattle.uip_edge.specs.declared.serve_end.ServeEnd.TheVariants as line
use Rattle.trace.specs.contracts.reader.ReaderLineReader.TheImpl.{ghosts}
use Rattle.trace.specs.declared.reader.Stop.TheVariants as stops
use Rattle.trace.specs.declared.slip_end.CaptureWhy.TheVariants as whys
use Rattle.trace.specs.declared.slip_end.SlipEnd.TheVariants as ends
use Rattle.trace.specs.declared.stage.Stage.TheVariants as stages
use Rattle.trace.proofs.ReadLaws.{part_grows, stops_prefix}

-- the answer to the end of the link, where the bytes are read so
abbrev pub EndIs : Reading → SlipEnd → Type 0
EndIs reading ends.End = cut_in reading ≡ None
EndIs reading ends.LinkFault = ⊥
EndIs reading ends.WriteFault = ⊥
EndIs reading ends.Budget = ⊥
EndIs reading (ends.Bad number whys.Cut) = cut_in reading ≡ Some number
EndIs reading (ends.Bad number whys.Head) = ⊥
EndIs reading (ends.Bad number whys.Length) = ⊥

-- how the bytes are read that a reader took
pub record IsSoundAt (start now : Option (List ℕ)) (bytes : List ℕ) (end : SlipEnd) : Type 0 where
  pub reading : Reading
  pub read : IsReadAs bytes reading
  pub sound : fault_in reading ≡ None
  pub written : Appends start now (lines_of (captured_in reading))
  pub cut : EndIs reading end

pub sound_at : (start now : Option (List ℕ)) (bytes : List ℕ) (stage : Stage) (number : ℕ) (part : List ℕ) (want : ℕ)
    → IsReadTo start now bytes stage number part → IsOpen stage part want → IsSoundAt start now bytes (end_at stage part number)
sound_at start now bytes stages.Header number part want at is =
    let size = ap (λ l. length l) at.read.2 in
    record {
      reading = InHeader;
      read = (let s = is.short in let w = is.wants in omega (arith, size));
      sound = refl;
      written = subst (λ (l : List Captured). Appends start now (lines_of l)) at.read.1 at.written;
      cut = ap (λ n. Some n) (sym at.read.0);
    }
sound_at start now bytes (stages.Head order) number [] want at is =
    record { reading = Whole at.records; read = (order, at.read.1); sound = refl; written = at.written; cut = refl }
sound_at start now bytes (stages.Head order) number (b ∷ part) want at is =
    let short : length (b ∷ part) < 16 = (let s = is.short in let w = is.wants in omega arith) in
    record {
      reading = InRecord at.records;
      read = (order, b ∷ part, at.read.1, omega arith, record { fits = λ k. absurd (omega arith); short = λ k. absurd (omega arith) });
      sound = refl;
      written = at.written;
      cut = ap (λ n. Some n) (sym at.read.0);
    }
sound_at start now bytes (stages.Body order) number part want at is =
    let s = is.short in
    let w = is.wants in
    record {
      reading = InRecord at.records;
      read = (order, part, at.read.1, omega (arith, w.2), record { fits = λ k. omega (arith, w.1, w.3); short = λ k. omega (arith, w.3) });
      sound = refl;
      written = at.written;
      cut = ap (λ n. Some n) (sym at.read.0);
    }

-- a silence has no effect
pub silence_read : (start now : Option (List ℕ)) (before : List Item) (stage : Stage) (number : ℕ) (part : List ℕ)
    → IsReadTo start now (bytes_among before) stage number part
    → IsReadTo start now (bytes_among (before ++ Quiet ∷ [])) stage number part
silence_read start now before stage number part at =
    subst (λ (l : List ℕ). IsReadTo start now l stage number part) (sym (bytes_among-append before (Quiet ∷ []) ∙ append-nil (bytes_among before))) at

-- the bytes of a line go on
pub bytes_on : (before : List Item) (bytes : List ℕ) → bytes_among before ++ bytes ≡ bytes_among (before ++ map Byte bytes)
bytes_on before bytes = ap (λ l. bytes_among before ++ l) (sym (bytes_among-map bytes)) ∙ sym (bytes_among-append before (map Byte bytes))

-- more of the part was read, which then is this
pub grown : (start now : Option (List ℕ)) (before : List Item) (bytes : List ℕ) (stage : Stage) (number : ℕ) (part part' : List ℕ) → part' ≡ part ++ bytes
    → IsReadTo start now (bytes_among before) stage number part → IsReadTo start now (bytes_among (before ++ map Byte bytes)) stage number part'
grown start now before bytes stage number part part' e at =
    subst (λ (l : List ℕ). IsReadTo start now l stage number part') (bytes_on before bytes)
    (subst (λ (l : List ℕ). IsReadTo start now (bytes_among before ++ bytes) stage number l) (sym e)
    (part_grows start now (bytes_among before) bytes stage number part at))

-- and the reading stopped at it
pub stopped_prefix : (stop : Stop) (old : Option (List ℕ)) (faults : ℕ) (new : SinkView) (n : ℕ) (bytes : List ℕ) (stage : Stage)
    (number number' : ℕ) (part part' : List ℕ) (want : ℕ)
    → IsOpen stage part want → part' ≡ part ++ take n bytes → StopBy stop faults new.faults
    → ((start : Option (List ℕ)) (fed more : List ℕ) → IsReadTo start old fed stage number part' → StopsAt stop start new.written (fed ++ more) number')
    → (start : Option (List ℕ)) (before : List Item) → IsReadTo start old (bytes_among before) stage number part
    → Stopped stop start before bytes faults new number'
stopped_prefix stop old faults new n bytes stage number number' part part' want is e by f = λ start before at.
    let s = sound_at start old (bytes_among before) stage number part want at is in
    record {
      prefix = record { reading = s.reading; read = s.read; sound = s.sound };
      stops = stops_prefix stop old new.written n bytes stage number number' part part' e f start (bytes_among before) at;
      by = by;
    }

why_of : Option (ℕ × CaptureWhy) → CaptureWhy
why_of None = whys.Head
why_of (Some fault) = fault.1

never_cut : (reading : Reading) (number : ℕ) → fault_in reading ≡ Some (number, whys.Cut) → ⊥
unfolding why_of
never_cut InHeader number e = absurd cc
never_cut BadHeader number e = let w : whys.Head ≡ whys.Cut = ap why_of e in absurd cc
never_cut (Whole records) number e = absurd cc
never_cut (InRecord records) number e = absurd cc
never_cut (BadLength records) number e = let w : whys.Length ≡ whys.Cut = ap why_of e in absurd cc

-- the line ended, or the budget did, after these items
module _ (n : ℕ) (taken : List Item) (old new : LineView) (stage : Stage) (number : ℕ) (part : List ℕ) (want : ℕ)
    (c : Consumes old.link.coming new.link.coming taken)
    (at : IsReadTo old.sink.written new.sink.written (bytes_among taken) stage number part) (is : IsOpen stage part want) where
  -- the reading goes with an end at which no write failed
  converted : (end cut : SlipEnd) (s : IsSoundAt old.sink.written new.sink.written (bytes_among taken) cut) → SlipEndsBy n old new taken s.reading end
      → (end ≡ ends.WriteFault → ⊥) → WroteLine end old.sink.written new.sink.written (lines_of (captured_in s.reading)) → Converts n old new end
  converted end cut s by fine wrote = record {
    taken = taken;
    consumed = c;
    reading = s.reading;
    read = s.read;
    some = λ is. absurd (fine is);
    ends = by;
    wrote = wrote;
  }

  ended_so : (end : SlipEnd) → IsSoundAt old.sink.written new.sink.written (bytes_among taken) end → EndsBy n old new taken line.End → Converts n old new end
  ended_so ends.End s e = converted ends.End ends.End s (e, s.sound, s.cut) (λ is. cc is) s.written
  ended_so (ends.Bad number whys.Cut) s e =
      converted (ends.Bad number whys.Cut) (ends.Bad number whys.Cut) s (e, s.sound, s.cut) (λ is. cc is) s.written
  ended_so ends.LinkFault s e = absurd s.cut
  ended_so ends.WriteFault s e = absurd s.cut
  ended_so ends.Budget s e = absurd s.cut
  ended_so (ends.Bad number whys.Head) s e = absurd s.cut
  ended_so (ends.Bad number whys.Length) s e = absurd s.cut

  abbrev sound : IsSoundAt old.sink.written new.sink.written (bytes_among taken) (end_at stage part number)
  sound = sound_at _ _ _ stage number part want at is

  ended : EndsBy n old new taken line.End → Converts n old new (end_at stage part number)
  ended e = ended_so (end_at stage part number) sound e

  link_failed : EndsBy n old new taken line.LinkFault → Converts n old new ends.LinkFault
  link_failed e = converted ends.LinkFault (end_at stage part number) sound (e, sound.sound) (λ is. cc is) sound.written

  spent : EndsBy n old new taken line.Budget → Converts n old new ends.Budget
  spent e = converted ends.Budget (end_at stage part number) sound (e, sound.sound) (λ is. cc is) sound.written

-- the reader stopped among bytes that came in one answer
module _ (n : ℕ) (before : List Item) (bytes : List ℕ) (old new : LineView) (number : ℕ)
    (c : Consumes old.link.coming new.link.coming (before ++ map Byte bytes)) (within : length (before ++ map Byte bytes) ≤ n)
    (calm : new.link.faults ≡ old.link.faults) where
  write_failed : Stopped stops.WriteFault old.sink.written before bytes old.sink.faults new.sink number → Converts n old new ends.WriteFault
  write_failed s = record {
    taken = before ++ map Byte bytes;
    consumed = c;
    reading = s.stops.reading;
    read = subst (λ (l : List ℕ). IsReadAs l s.stops.reading) (bytes_on before bytes) s.stops.read;
    some = λ is. s.stops.broke.some;
    ends = (within, calm, s.by);
    wrote = breaks_prefix [] _ old.sink.written new.sink.written s.stops.broke;
  }

  abbrev new_fault : IsReadSound (bytes_among before) → HasNewFault (before ++ map Byte bytes)
  new_fault s = record { prefix = before; last = bytes; pieces = refl; reading = s.reading; read = s.read; sound = s.sound }

  found_so : (why : CaptureWhy) (reading : Reading) → fault_in reading ≡ Some (number, why) → IsCalm old new → HasNewFault (before ++ map Byte bytes)
      → SlipEndsBy n old new (before ++ map Byte bytes) reading (ends.Bad number why)
  found_so whys.Head reading fault all fresh = (within, all, fault, fresh)
  found_so whys.Length reading fault all fresh = (within, all, fault, fresh)
  found_so whys.Cut reading fault all fresh = absurd (never_cut reading number fault)

  file_fault : (why : CaptureWhy) → Stopped (stops.Bad why) old.sink.written before bytes old.sink.faults new.sink number
      → Converts n old new (ends.Bad number why)
  file_fault why s = record {
    taken = before ++ map Byte bytes;
    consumed = c;
    reading = s.stops.reading;
    read = subst (λ (l : List ℕ). IsReadAs l s.stops.reading) (bytes_on before bytes) s.stops.read;
    some = λ is. absurd (cc is);
    ends = found_so why s.stops.reading s.stops.fault (record { link = calm; sink = s.by }) (new_fault s.prefix);
    wrote = s.stops.written;
  }

  found_soon : (why : CaptureWhy) → length bytes ≤ 4096 → IsReadSound (bytes_among before) → IsFoundSoon old new (ends.Bad number why)
  found_soon whys.Cut few s = tt
  found_soon whys.Head few s = (before ++ map Byte bytes, c, new_fault s, few)
  found_soon whys.Length few s = (before ++ map Byte bytes, c, new_fault s, few)

-- the same, from what is known of a line that the reader read
module _ (n : ℕ) (old new : LineView) (reader : Reader) where
  abbrev Ends : ServeEnd → Type 0
  Ends end = EndsRead ghosts old.sink.written n old new reader end

  abbrev Stops : Stop → Type 0
  Stops stop = StopsRead ghosts old.sink.written n old new reader stop

  pub line_ended : Ends line.End → Converts n old new (end_at reader.stage reader.part reader.number)
  line_ended r = ended n r.taken old new reader.stage reader.number reader.part reader.want r.consumed r.took r.ready r.ends

  pub line_lost : Ends line.LinkFault → Converts n old new ends.LinkFault
  line_lost r = link_failed n r.taken old new reader.stage reader.number reader.part reader.want r.consumed r.took r.ready r.ends

  pub line_spent : Ends line.Budget → Converts n old new ends.Budget
  line_spent r = spent n r.taken old new reader.stage reader.number reader.part reader.want r.consumed r.took r.ready r.ends

  pub line_unwritten : Ends line.WriteFault → Converts n old new ends.WriteFault
  line_unwritten r = absurd (r.written refl)

  pub stop_unwritten : Stops stops.WriteFault → Converts n old new ends.WriteFault
  stop_unwritten r = write_failed n r.before r.bytes old new reader.number r.consumed r.within r.calm r.stopped

  pub stop_bad : (why : CaptureWhy) → Stops (stops.Bad why) → Converts n old new (ends.Bad reader.number why)
  stop_bad why r = file_fault n r.before r.bytes old new reader.number r.consumed r.within r.calm why r.stopped

  pub stop_soon : (why : CaptureWhy) → Stops (stops.Bad why) → IsFoundSoon old new (ends.Bad reader.number why)
  stop_soon why r = found_soon n r.before r.bytes old new reader.number r.consumed r.within r.calm why r.soon r.stopped.prefix
