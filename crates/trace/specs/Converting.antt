-- What a call that converts a capture file to a serial line has consumed and written, and how it ends.
use Rattle.std.specs.Prelude.{◌≡◌, ◌<◌, ◌≤◌, ◌++◌, flat_map, length, List, map, None, Option, Some, ℕ, ⊤}
use Rattle.std.specs.Io.KnownBytes.{Appends}
use Rattle.uip_edge.specs.Prelude.{Consumes, bytes_among, EndsBy, AppendsPrefix, IsCalm, LineUnfailed, LineView}
use Rattle.uip_edge.specs.declared.item.Item.{Item}
use Rattle.uip_edge.specs.declared.item.Item.TheVariants.{Byte}
use Rattle.uip_edge.specs.declared.serve_end.ServeEnd.TheVariants as line
use Rattle.uip_slip.specs.Prelude.{slip_text}
use Rattle.trace.specs.CaptureText.{capture_file, datagrams_on}
use Rattle.trace.specs.CaptureReading.{IsReadAs, Reading, cut_in, captured_in, fault_in, lines_of}
use Rattle.trace.specs.declared.slip_end.CaptureWhy.{CaptureWhy}
use Rattle.trace.specs.declared.slip_end.CaptureWhy.TheVariants as whys
use Rattle.trace.specs.declared.slip_end.SlipEnd.{SlipEnd}
use Rattle.trace.specs.declared.slip_end.SlipEnd.TheVariants as ends

-- The last read of the link brought the fault: what was consumed before it has none, and it has bytes alone, and no silence.
pub record HasNewFault (taken : List Item) : Type 0 where
  pub prefix : List Item
  pub last : List ℕ
  pub pieces : taken ≡ prefix ++ map Byte last
  pub reading : Reading
  pub read : IsReadAs (bytes_among prefix) reading
  pub sound : fault_in reading ≡ None

-- The cause of each end of a call that consumed these items, at most n of them, with this reading: how the line ended, and
-- what the reading gives.
abbrev pub SlipEndsBy : ℕ → LineView → LineView → List Item → Reading → SlipEnd → Type 0
SlipEndsBy n old new taken reading ends.End = EndsBy n old new taken line.End × (fault_in reading ≡ None) × (cut_in reading ≡ None)
SlipEndsBy n old new taken reading ends.Budget = EndsBy n old new taken line.Budget × (fault_in reading ≡ None)
SlipEndsBy n old new taken reading ends.LinkFault = EndsBy n old new taken line.LinkFault × (fault_in reading ≡ None)
SlipEndsBy n old new taken reading ends.WriteFault = EndsBy n old new taken line.WriteFault
SlipEndsBy n old new taken reading (ends.Bad number whys.Cut) =
    EndsBy n old new taken line.End × (fault_in reading ≡ None) × (cut_in reading ≡ Some number)
SlipEndsBy n old new taken reading (ends.Bad number why) =
    (length taken ≤ n) × IsCalm old new × (fault_in reading ≡ Some (number, why)) × HasNewFault taken

-- the text was written whole, or a prefix of it after a write fault
abbrev pub WroteLine : SlipEnd → Option (List ℕ) → Option (List ℕ) → List ℕ → Type 0
WroteLine ends.WriteFault old new text = AppendsPrefix old new text
WroteLine _ old new text = Appends old new text

-- A capture file was converted to a serial line, up to n items. There are items that the link lost, if they are known; their
-- bytes have one reading, the end has its cause, and the line of the whole records was written. A write fails only if there is
-- a record.
pub record Converts (n : ℕ) (old new : LineView) (result : SlipEnd) : Type 0 where
  pub taken : List Item
  pub consumed : Consumes old.link.coming new.link.coming taken
  pub reading : Reading
  pub read : IsReadAs (bytes_among taken) reading
  pub some : result ≡ ends.WriteFault → 0 < length (lines_of (captured_in reading))
  pub ends : SlipEndsBy n old new taken reading result
  pub wrote : WroteLine result old.sink.written new.sink.written (lines_of (captured_in reading))

-- the fault is among the last 4,096 items that were consumed, the greatest number of one read of the link
abbrev pub IsFoundSoon : LineView → LineView → SlipEnd → Type 0
IsFoundSoon old new (ends.Bad number whys.Cut) = ⊤
IsFoundSoon old new (ends.Bad number why) =
    (taken : List Item) × Consumes old.link.coming new.link.coming taken × (fault : HasNewFault taken) × (length fault.last ≤ 4096)
IsFoundSoon old new end = ⊤

-- the end of a call at the end of the link, by the reading of the bytes
abbrev pub end_by_cut : Option ℕ → SlipEnd
end_by_cut None = ends.End
end_by_cut (Some number) = ends.Bad number whys.Cut

-- The end that must be reported if nothing failed: the fault, if the bytes have one; else the budget after this number of
-- items; else, if the link has fewer items than are allowed, the end by the reading of these bytes.
pub record IsSurely (n : ℕ) (old new : LineView) (taken : List Item) (reading : Reading) (end : SlipEnd) : Type 0 where
  pub bad : (number : ℕ) (why : CaptureWhy) → fault_in reading ≡ Some (number, why) → end ≡ ends.Bad number why
  pub budget : fault_in reading ≡ None → length taken ≡ n → end ≡ ends.Budget
  pub over : (all : List Item) → fault_in reading ≡ None → old.link.coming ≡ Some all
      → length all < n → Consumes old.link.coming new.link.coming taken
      → end ≡ end_by_cut (cut_in reading)

-- If nothing fails, a line that has the capture file of other items is converted to the SLIP texts of their datagrams, up to its end.
abbrev pub LinesComeBack : Type 0
LinesComeBack =
    (items : List Item) (n : ℕ) (old new : LineView) (end : SlipEnd) → old.link.coming ≡ Some (map Byte (capture_file items))
    → length (capture_file items) < n → Converts n old new end → LineUnfailed old new
    → (end ≡ ends.End) × Appends old.sink.written new.sink.written (flat_map slip_text (datagrams_on items))
