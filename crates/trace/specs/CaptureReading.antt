-- The content of a capture file: its grammar in either byte order, and where its bytes end.
use Rattle.std.specs.Prelude.{◌≡◌, ◌<◌, ◌≤◌, ◌+◌, ◌*◌, ◌&&◌, ◌∷◌, ◌++◌, [], Bool, bytes_eq, length, List, ℕ}
use Rattle.std.specs.Prelude.{map, take, drop, slice_index, Option, Some, None, if◌then◌else◌}
use Rattle.std.specs.List.{AllByRecursion, flat_map}
use Rattle.uip_slip.specs.Prelude.{slip_text}
use Rattle.uip_wire.specs.Prelude.{long_at}
use Rattle.uip_wire.specs.declared.sizes.TheConstants.{LARGEST_DATAGRAM}
use Rattle.trace.specs.CaptureText.{link_type, signature}
use Rattle.trace.specs.declared.byte_order.ByteOrder.{ByteOrder}
use Rattle.trace.specs.declared.byte_order.ByteOrder.TheVariants.{Big, Little}
use Rattle.trace.specs.declared.slip_end.CaptureWhy.{CaptureWhy}
use Rattle.trace.specs.declared.slip_end.CaptureWhy.TheVariants.{Head, Length}

-- the field of four bytes at an offset, in a byte order
abbrev pub field_at : ByteOrder → List ℕ → ℕ → ℕ
field_at Big bytes at = long_at bytes at
field_at Little bytes at =
    slice_index bytes at + 256 * slice_index bytes (at + 1) + 65536 * slice_index bytes (at + 2) + 16777216 * slice_index bytes (at + 3)

-- a header has the signature and the link type; what is between them is free
abbrev pub is_header : ByteOrder → List ℕ → Bool
is_header order header = bytes_eq (take 8 header) (signature order) && bytes_eq (drop 20 header) (link_type order)

-- the byte order of the file with this header, if it is a good one
abbrev pub order_of : List ℕ → Option ByteOrder
order_of header = if is_header Big header then Some Big else if is_header Little header then Some Little else None

-- a record: the sixteen bytes of its times and lengths, and its data
pub record Captured : Type 0 where
  pub head : List ℕ
  pub body : List ℕ

abbrev pub captured_bytes : Captured → List ℕ
captured_bytes captured = captured.head ++ captured.body

-- the length of a record's data is the third of its four numbers; the times and the second length are free
abbrev pub length_in : ByteOrder → List ℕ → ℕ
length_in order head = field_at order head 8

pub record IsCaptured (order : ByteOrder) (captured : Captured) : Type 0 where
  pub head : length captured.head ≡ 16
  pub body : length captured.body ≡ length_in order captured.head
  pub fits : length captured.body ≤ LARGEST_DATAGRAM

-- a header and whole records, and the bytes after them
pub record BeginsWith (order : ByteOrder) (records : List Captured) (rest bytes : List ℕ) : Type 0 where
  pub header : List ℕ
  pub size : length header ≡ 24
  pub good : order_of header ≡ Some order
  pub sound : AllByRecursion (IsCaptured order) records
  pub spelled : bytes ≡ header ++ flat_map captured_bytes records ++ rest

-- these bytes are less than a record, and none of its four numbers has a fault yet
pub record IsCutRecord (order : ByteOrder) (rest : List ℕ) : Type 0 where
  pub fits : 16 ≤ length rest → length_in order rest ≤ LARGEST_DATAGRAM
  pub short : 16 ≤ length rest → length rest < 16 + length_in order rest

-- the record that these bytes begin has a length that no datagram has
pub record HasLongRecord (order : ByteOrder) (rest : List ℕ) : Type 0 where
  pub head : 16 ≤ length rest
  pub long : LARGEST_DATAGRAM < length_in order rest

-- where the bytes of a capture end
pub data Reading : Type 0 where
  InHeader : Reading
  BadHeader : Reading
  Whole : List Captured → Reading
  InRecord : List Captured → Reading
  BadLength : List Captured → Reading

-- the bytes have this reading
abbrev pub IsReadAs : List ℕ → Reading → Type 0
IsReadAs bytes InHeader = length bytes < 24
IsReadAs bytes BadHeader = (24 ≤ length bytes) × (order_of (take 24 bytes) ≡ None)
IsReadAs bytes (Whole records) = (order : ByteOrder) × BeginsWith order records [] bytes
IsReadAs bytes (InRecord records) =
    (order : ByteOrder) × (rest : List ℕ) × BeginsWith order records rest bytes × (0 < length rest) × IsCutRecord order rest
IsReadAs bytes (BadLength records) = (order : ByteOrder) × (rest : List ℕ) × BeginsWith order records rest bytes × HasLongRecord order rest

-- what is wrong with the bytes so far, and in which record: the header has number 0
abbrev pub fault_in : Reading → Option (ℕ × CaptureWhy)
fault_in BadHeader = Some (0, Head)
fault_in (BadLength records) = Some (length records + 1, Length)
fault_in _ = None

-- the record that an end of the bytes cuts
abbrev pub cut_in : Reading → Option ℕ
cut_in InHeader = Some 0
cut_in (InRecord records) = Some (length records + 1)
cut_in _ = None

-- the whole records
abbrev pub captured_in : Reading → List Captured
captured_in (Whole records) = records
captured_in (InRecord records) = records
captured_in (BadLength records) = records
captured_in reading = []

-- a datagram of no bytes has no frame
abbrev pub line_text : List ℕ → List ℕ
line_text [] = []
line_text (b ∷ datagram) = slip_text (b ∷ datagram)

-- the serial line of records
abbrev pub lines_of : List Captured → List ℕ
lines_of records = flat_map (λ captured. line_text captured.body) records

-- a capture file of just these datagrams
pub record HoldsJust (datagrams : List (List ℕ)) (bytes : List ℕ) : Type 0 where
  pub records : List Captured
  pub read : IsReadAs bytes (Whole records)
  pub bodies : map (λ captured. captured.body) records ≡ datagrams
