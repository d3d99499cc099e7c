-- The definitions on examples worked by hand: that of RFC 1071, section 3, and texts that are or are not dotted quads.
use Rattle.uip_wire.proofs.Prelude.{◌≡◌, ℕ, List, [], ◌∷◌, map, Option, None, Some, refl, codes, quad_of, checksum_of, folded}

-- Bytes, and the checksum of each.
abbrev checksum_rows : List (List ℕ × ℕ)
checksum_rows =
    (0x00 ∷ 0x01 ∷ 0xf2 ∷ 0x03 ∷ 0xf4 ∷ 0xf5 ∷ 0xf6 ∷ 0xf7 ∷ [], 0x220d)  -- that of RFC 1071
    ∷ (0xff ∷ 0xff ∷ 0x01 ∷ [], 0xfeff)  -- odd last
    ∷ ([], 0xffff)  -- no bytes
    ∷ []

checksums : map (λ row. checksum_of row.0) checksum_rows ≡ map (λ row. row.1) checksum_rows
unfolding folded
checksums = refl

-- Texts, and the dotted quad that each is.
abbrev quad_rows : List (List ℕ × Option (List ℕ))
quad_rows =
    (codes "10.0.0.1", Some (10 ∷ 0 ∷ 0 ∷ 1 ∷ []))  -- plain
    ∷ (codes "255.255.255.255", Some (255 ∷ 255 ∷ 255 ∷ 255 ∷ []))  -- greatest
    ∷ (codes "10.0.0.256", None)  -- too great
    ∷ (codes "10.0.0.01", None)  -- leading zero
    ∷ (codes "10.0.0", None)  -- three numbers
    ∷ (codes "10.0.0.1.2", None)  -- five numbers
    ∷ (codes "10..0.1", None)  -- no number
    ∷ (codes "1000.0.0.1", None)  -- four digits
    ∷ ([], None)  -- empty
    ∷ []

quads : map (λ row. quad_of row.0) quad_rows ≡ map (λ row. row.1) quad_rows
unfolding quad_of
quads = refl
