-- A packet after a borrowed part of its area is given back.
use Rattle.std.specs.Prelude.{ℕ, List, ◌+◌, ◌++◌, take, drop, length}
use Rattle.std.specs.Borrow.{Lends, MutBor, Fml, Array, u8}
use Rattle.packet_buffer.specs.Buffer.{Buffer}
use Rattle.packet_buffer.specs.contracts.packet.Packet.{the_row}

-- A slice keeps its length.
abbrev pub fitted : List ℕ → List ℕ → List ℕ
fitted old new = take (length old) (new ++ drop (length new) old)

abbrev pub LendsArea : MutBor Buffer → MutBor (List ℕ) → Fml
LendsArea s r = Lends the_row (Array u8 0) s r (λ area. record { area = fitted s.now.area area; len = s.now.len })

-- The bytes from an offset on are overwritten.
abbrev pub spliced : List ℕ → ℕ → List ℕ → List ℕ
spliced old at new = take (length old) (take at old ++ (new ++ drop (at + length new) old))

abbrev pub LendsPart : MutBor Buffer → ℕ → MutBor (List ℕ) → Fml
LendsPart s at r = Lends the_row (Array u8 0) s r (λ part. record { area = spliced s.now.area at part; len = s.now.len })
