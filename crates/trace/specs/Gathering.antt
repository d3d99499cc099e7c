-- What the reader of a capture file knows of the bytes that it consumed, and what stops it.
use Rattle.std.specs.Prelude.{◌≡◌, ◌<◌, ◌≤◌, ◌+◌, ℕ, List, [], ◌∷◌, ◌++◌, Option, Some, None, length}
use Rattle.std.specs.Io.KnownBytes.{Appends}
use Rattle.uip_edge.specs.Prelude.{Rose, bytes_among, BreaksOff, SinkView}
use Rattle.uip_edge.specs.declared.item.Item.{Item}
use Rattle.trace.specs.CaptureReading.{BeginsWith, Captured, IsReadAs, Reading, captured_in, fault_in, length_in, lines_of}
use Rattle.trace.specs.declared.area.TheConstants.{LONGEST_RECORD}
use Rattle.trace.specs.declared.reader.Reader.{Reader}
use Rattle.trace.specs.declared.reader.Stop.{Stop}
use Rattle.trace.specs.declared.reader.Stop.TheVariants as stops
use Rattle.trace.specs.declared.slip_end.CaptureWhy.{CaptureWhy}
use Rattle.trace.specs.declared.slip_end.CaptureWhy.TheVariants as whys
use Rattle.trace.specs.declared.slip_end.SlipEnd.{SlipEnd}
use Rattle.trace.specs.declared.slip_end.SlipEnd.TheVariants as ends
use Rattle.trace.specs.declared.stage.Stage.{Stage}
use Rattle.trace.specs.declared.stage.Stage.TheVariants as stages

-- the length of a complete part
abbrev pub Wants : Stage → List ℕ → ℕ → Type 0
Wants stages.Header part want = want ≡ 24
Wants (stages.Head order) part want = want ≡ 16
Wants (stages.Body order) part want = (16 < want) × (want ≤ LONGEST_RECORD) × (16 ≤ length part) × (want ≡ 16 + length_in order part)

-- the part is not complete yet
pub record IsOpen (stage : Stage) (part : List ℕ) (want : ℕ) : Type 0 where
  pub wants : Wants stage part want
  pub short : length part < want

-- the part is complete
pub record IsFull (stage : Stage) (part : List ℕ) (want : ℕ) : Type 0 where
  pub wants : Wants stage part want
  pub full : length part ≡ want

-- The bytes are a header and these records, and the part after them. The next record has this number; the header has number 0.
abbrev pub HasRead : List ℕ → List Captured → Stage → ℕ → List ℕ → Type 0
HasRead bytes records stages.Header number part = (number ≡ 0) × (records ≡ []) × (part ≡ bytes)
HasRead bytes records (stages.Head order) number part = (number ≡ length records + 1) × BeginsWith order records part bytes
HasRead bytes records (stages.Body order) number part = (number ≡ length records + 1) × BeginsWith order records part bytes

-- and the line of the records was written, from the start on
pub record IsReadTo (start now : Option (List ℕ)) (bytes : List ℕ) (stage : Stage) (number : ℕ) (part : List ℕ) : Type 0 where
  pub records : List Captured
  pub read : HasRead bytes records stage number part
  pub written : Appends start now (lines_of records)

-- the reader of a capture file waits for more of its part, has all of it, or has read these bytes
abbrev pub IsOpenIn : Reader → Type 0
IsOpenIn reader = IsOpen reader.stage reader.part reader.want

abbrev pub IsFullIn : Reader → Type 0
IsFullIn reader = IsFull reader.stage reader.part reader.want

abbrev pub HasReadTo : Option (List ℕ) → Option (List ℕ) → List ℕ → Reader → Type 0
HasReadTo start now bytes reader = IsReadTo start now bytes reader.stage reader.number reader.part

-- these bytes have this reading, and the writing of their records' line broke off
pub record BrokeOff (start now : Option (List ℕ)) (bytes : List ℕ) : Type 0 where
  pub reading : Reading
  pub read : IsReadAs bytes reading
  pub broke : BreaksOff [] (lines_of (captured_in reading)) start now

-- the file has a fault: these bytes have this reading, and the line of the records before the fault was written
pub record IsAtFault (why : CaptureWhy) (start now : Option (List ℕ)) (bytes : List ℕ) (number : ℕ) : Type 0 where
  pub reading : Reading
  pub read : IsReadAs bytes reading
  pub fault : fault_in reading ≡ Some (number, why)
  pub written : Appends start now (lines_of (captured_in reading))

-- a call that writes nothing leaves what was read as it is
abbrev pub KeepsRead : Reader → Reader → Type 0
KeepsRead old new = (start now : Option (List ℕ)) (bytes : List ℕ) → HasReadTo start now bytes old → HasReadTo start now bytes new

-- what was read so far has this fault, whatever follows
abbrev pub HasFault : Reader → ℕ → CaptureWhy → Type 0
HasFault old number why =
    (start now : Option (List ℕ)) (bytes more : List ℕ) → HasReadTo start now bytes old → IsAtFault why start now (bytes ++ more) number

-- why the reading of these bytes stopped
abbrev pub StopsAt : Stop → Option (List ℕ) → Option (List ℕ) → List ℕ → ℕ → Type 0
StopsAt stops.WriteFault start now bytes number = BrokeOff start now bytes
StopsAt (stops.Bad why) start now bytes number = IsAtFault why start now bytes number

-- a write failed only if the sink's count rose; else the count stays the same
abbrev pub StopBy : Stop → ℕ → ℕ → Type 0
StopBy stops.WriteFault before now = Rose before now
StopBy (stops.Bad why) before now = now ≡ before

-- the end of a call at the end of the link
abbrev pub end_at : Stage → List ℕ → ℕ → SlipEnd
end_at (stages.Head order) [] number = ends.End
end_at (stages.Head order) (b ∷ part) number = ends.Bad number whys.Cut
end_at (stages.Body order) part number = ends.Bad number whys.Cut
end_at stages.Header part number = ends.Bad number whys.Cut

-- the bytes have this reading, and no fault
pub record IsReadSound (bytes : List ℕ) : Type 0 where
  pub reading : Reading
  pub read : IsReadAs bytes reading
  pub sound : fault_in reading ≡ None

-- the reading stopped among these bytes, after sound ones
pub record Stopped (stop : Stop) (start : Option (List ℕ)) (before : List Item) (bytes : List ℕ) (faults : ℕ) (new : SinkView)
    (number : ℕ) : Type 0 where
  pub prefix : IsReadSound (bytes_among before)
  pub stops : StopsAt stop start new.written (bytes_among before ++ bytes) number
  pub by : StopBy stop faults new.faults
