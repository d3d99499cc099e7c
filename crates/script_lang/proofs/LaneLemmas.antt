-- Bytes that are compared at once: the offset of the first one of a kind, and the first mark.
use Rattle.script_lang.proofs.Prelude.{◌≡◌, ◌&&◌, ℕ, ◌+◌, ◌≤◌, ◌%◌, ◌^◌, false, not, cond, eqb, List, length, map, replicate, ap, ◌∙◌, sym}
use Rattle.script_lang.proofs.Prelude.{arith, prefix_len, bitmask_splat, first_set_mask_l, length-chunk, run_in_chunk_fails}
use Rattle.script_lang.proofs.Prelude.{run_in_chunk_le, run_in_chunk_stops, first_place, is_byte, is_directive_mark}
use lib.Count.{count_trailing_zeros}
use lib.Lanes.{chunk, mask_l, top, zip2}
use mir.Syntax.{w8}
use Rattle.script_lang.proofs.PlaceLemmas.{first_place-behind, first_place-is, same-first}

-- the mask of the 32 lanes from an offset on: a bit is set if the byte is there
abbrev pub mask_at : List ℕ → ℕ → ℕ → ℕ
mask_at text byte at =
    mask_l (map (top 7) (zip2 (λ a b. cond (eqb a b) 255 0) (chunk at 32 text) (replicate 32 byte))) % 2 ^ 64

lanes-first : (text : List ℕ) (byte at r : ℕ) → at + 32 ≤ length text → r ≡ prefix_len (λ x. not (eqb x byte)) (chunk at 32 text)
    → at + r ≡ first_place (is_byte text byte) at (at + 32)
lanes-first text byte at r room counted =
    let few = run_in_chunk_le (λ x. eqb x byte) text at 32 r 0 room counted in
    same-first (is_byte text byte) at (at + 32) (at + r) (first_place (is_byte text byte) at (at + 32))
    (record {
      low = omega arith;
      high = omega (arith, few);
      before = run_in_chunk_fails (λ x. eqb x byte) text at 32 r 0 room counted;
      here = λ lt. run_in_chunk_stops (λ x. eqb x byte) text at 32 r 0 room counted (omega arith);
    })
    (first_place-is (is_byte text byte) at (at + 32) (omega arith))

mask-counted : (text : List ℕ) (byte at : ℕ) → at + 32 ≤ length text
    → cond (eqb (mask_at text byte at) 0) 32 (count_trailing_zeros 64 (mask_at text byte at)) ≡ prefix_len (λ x. not (eqb x byte)) (chunk at 32 text)
mask-counted text byte at room =
    let long = length-chunk at 32 text room in
    ap (λ m. cond (eqb m 0) 32 (count_trailing_zeros 64 m)) (bitmask_splat w8 eqb (chunk at 32 text) 32 byte long (omega arith))
    ∙ first_set_mask_l (λ x. eqb x byte) (chunk at 32 text) 32 long (omega arith)

pub no-lane : (text : List ℕ) (byte at : ℕ) → at + 32 ≤ length text → mask_at text byte at ≡ 0 → at + 32 ≡ first_place (is_byte text byte) at (at + 32)
no-lane text byte at room none =
    lanes-first text byte at 32 room
    (sym (ap (λ m. cond (eqb m 0) 32 (count_trailing_zeros 64 (mask_at text byte at))) none) ∙ mask-counted text byte at room)

pub some-lane : (text : List ℕ) (byte at : ℕ) → at + 32 ≤ length text → eqb (mask_at text byte at) 0 ≡ false
    → at + count_trailing_zeros 64 (mask_at text byte at) ≡ first_place (is_byte text byte) at (at + 32)
some-lane text byte at room some =
    lanes-first text byte at (count_trailing_zeros 64 (mask_at text byte at)) room
    (sym (ap (λ t. cond t 32 (count_trailing_zeros 64 (mask_at text byte at))) some) ∙ mask-counted text byte at room)

-- a mark is only where its first byte is
pub mark-from-byte : (text : List ℕ) (a b r : ℕ) → a ≤ b → r ≡ first_place (is_byte text 37) a b
    → first_place (is_directive_mark text) r b ≡ first_place (is_directive_mark text) a b
mark-from-byte text a b r h e =
    let first = first_place-is (is_byte text 37) a b h in
    first_place-behind (is_directive_mark text) a r b (omega (arith, first.low)) (omega (arith, first.high))
    (λ k low below. ap (λ t. t && is_byte text 33 (k + 1)) (first.before k low (omega arith)))
