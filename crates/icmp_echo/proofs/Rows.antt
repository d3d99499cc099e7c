-- Echo requests worked by hand with their replies, and each fate of a message at its edge.
use Rattle.icmp_echo.proofs.Prelude.{◌≡◌, ℕ, List, [], ◌∷◌, map, Option, Some, None, refl, IcmpFate, replicate, folded, Short, Checksum}
use Rattle.icmp_echo.proofs.Prelude.{NotEcho, echo_reply, echo_fate}

-- Requests, and the reply to each.
abbrev reply_rows : List (List ℕ × List ℕ)
reply_rows = (
  0x45 ∷ 0 ∷ 0 ∷ 0x1c ∷ 0 ∷ 1 ∷ 0 ∷ 0 ∷ 0x40 ∷ 1 ∷ 0x66 ∷ 0xde ∷ 0x0a ∷ 0 ∷ 0 ∷ 2 ∷ 0x0a ∷ 0 ∷ 0 ∷ 1 ∷ 8 ∷ 0 ∷ 0xf7 ∷ 0xfd ∷ 0 ∷ 1 ∷ 0
      ∷ 1 ∷ [],
  0x45 ∷ 0 ∷ 0 ∷ 0x1c ∷ 0 ∷ 1 ∷ 0 ∷ 0 ∷ 0x40 ∷ 1 ∷ 0x66 ∷ 0xde ∷ 0x0a ∷ 0 ∷ 0 ∷ 1 ∷ 0x0a ∷ 0 ∷ 0 ∷ 2 ∷ 0 ∷ 0 ∷ 0xff ∷ 0xfd ∷ 0 ∷ 1 ∷ 0 ∷ 1 ∷ [],
)  -- plain
    ∷ (
      0x45 ∷ 0 ∷ 0 ∷ 0x1e ∷ 0 ∷ 1 ∷ 0 ∷ 0 ∷ 0x40 ∷ 1 ∷ 0x66 ∷ 0xdc ∷ 0x0a ∷ 0 ∷ 0 ∷ 2 ∷ 0x0a ∷ 0 ∷ 0 ∷ 1 ∷ 8 ∷ 0 ∷ 0x37 ∷ 0x22 ∷ 0 ∷ 1 ∷ 0
          ∷ 1 ∷ 0xc0 ∷ 0xdb ∷ [],
      0x45 ∷ 0 ∷ 0 ∷ 0x1e ∷ 0 ∷ 1 ∷ 0 ∷ 0 ∷ 0x40 ∷ 1 ∷ 0x66 ∷ 0xdc ∷ 0x0a ∷ 0 ∷ 0 ∷ 1 ∷ 0x0a ∷ 0 ∷ 0 ∷ 2 ∷ 0 ∷ 0 ∷ 0x3f ∷ 0x22 ∷ 0 ∷ 1 ∷ 0
          ∷ 1 ∷ 0xc0 ∷ 0xdb ∷ [],
    )  -- with escaped bytes
    ∷ (
      0x45 ∷ 0 ∷ 0 ∷ 0x1d ∷ 0 ∷ 1 ∷ 0 ∷ 0 ∷ 0x40 ∷ 1 ∷ 0x66 ∷ 0xdd ∷ 0x0a ∷ 0 ∷ 0 ∷ 2 ∷ 0x0a ∷ 0 ∷ 0 ∷ 1 ∷ 8 ∷ 0 ∷ 0xb6 ∷ 0xfd ∷ 0 ∷ 1 ∷ 0
          ∷ 1 ∷ 0x41 ∷ [],
      0x45 ∷ 0 ∷ 0 ∷ 0x1d ∷ 0 ∷ 1 ∷ 0 ∷ 0 ∷ 0x40 ∷ 1 ∷ 0x66 ∷ 0xdd ∷ 0x0a ∷ 0 ∷ 0 ∷ 1 ∷ 0x0a ∷ 0 ∷ 0 ∷ 2 ∷ 0 ∷ 0 ∷ 0xbe ∷ 0xfd ∷ 0 ∷ 1 ∷ 0 ∷ 1 ∷ 0x41 ∷ [],
    )  -- odd length
    ∷ (
      0x45 ∷ 0 ∷ 5 ∷ 0xdc ∷ 0 ∷ 1 ∷ 0 ∷ 0 ∷ 0x40 ∷ 1 ∷ 0x61 ∷ 0x1e ∷ 0x0a ∷ 0 ∷ 0 ∷ 2 ∷ 0x0a ∷ 0 ∷ 0 ∷ 1 ∷ 8 ∷ 0 ∷ 0xf7 ∷ 0xfd ∷ 0 ∷ 1 ∷ 0
          ∷ 1 ∷ replicate 1472 0,
      0x45 ∷ 0 ∷ 5 ∷ 0xdc ∷ 0 ∷ 1 ∷ 0 ∷ 0 ∷ 0x40 ∷ 1 ∷ 0x61 ∷ 0x1e ∷ 0x0a ∷ 0 ∷ 0 ∷ 1 ∷ 0x0a ∷ 0 ∷ 0 ∷ 2 ∷ 0 ∷ 0 ∷ 0xff ∷ 0xfd ∷ 0 ∷ 1 ∷ 0
          ∷ 1 ∷ replicate 1472 0,
    )  -- largest
    ∷ []

replies : map (λ row. echo_reply row.0) reply_rows ≡ map (λ row. row.1) reply_rows
unfolding folded
replies = refl

-- Messages, and the fate of each.
abbrev fate_rows : List (List ℕ × Option IcmpFate)
fate_rows =
    (8 ∷ 0 ∷ 0xf7 ∷ 0xfd ∷ 0 ∷ 1 ∷ 0 ∷ 1 ∷ [], None)  -- request
    ∷ (8 ∷ 0 ∷ 0xf7 ∷ 0xfd ∷ 0 ∷ 1 ∷ 0 ∷ [], Some Short)  -- short at 7
    ∷ (8 ∷ 0 ∷ 0xf7 ∷ 0xfd ∷ 0 ∷ 1 ∷ 0 ∷ 0 ∷ [], Some Checksum)  -- sum off by one
    ∷ (0 ∷ 0 ∷ 0xff ∷ 0xfd ∷ 0 ∷ 1 ∷ 0 ∷ 1 ∷ [], Some NotEcho)  -- reply itself
    ∷ (8 ∷ 1 ∷ 0xf7 ∷ 0xfc ∷ 0 ∷ 1 ∷ 0 ∷ 1 ∷ [], Some NotEcho)  -- code 1
    ∷ (0 ∷ 0 ∷ 0xff ∷ 0xfd ∷ 0 ∷ 1 ∷ 0 ∷ 0 ∷ [], Some Checksum)  -- sum before type
    ∷ []

fates : map (λ row. echo_fate row.0) fate_rows ≡ map (λ row. row.1) fate_rows
unfolding folded
fates = refl
