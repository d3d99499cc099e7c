-- Bytes that are copied up to the next mark.
use Rattle.uip_slip.proofs.Prelude.{◌≡◌, ℕ, ◌+◌, ◌-◌, ◌≤◌, List, ◌++◌, length, take, drop, sym, ap, ◌∙◌}
use Rattle.uip_slip.proofs.Prelude.{take-add, take-append-add, take-append-le, take_rest, length-take-le, put_mid, IsFirstChunk, drop-drop}
use Rattle.uip_slip.proofs.Words.{PlainUntil}

-- the first bytes have no mark, and were copied to the start of an area that was `old`
pub record CopiedUntil (bytes old : List ℕ) (at : ℕ) (out : List ℕ) : Type 0 where
  pub until : PlainUntil bytes at
  pub long : length out ≡ length old
  pub copied : take at out ≡ take at bytes
  pub rest : drop at out ≡ drop at old

-- the next bytes, too
pub copied_more : (bytes old out new part : List ℕ) (at n : ℕ) → CopiedUntil bytes old at out → PlainUntil bytes (at + n)
    → part ≡ take n (drop at bytes) → length new ≡ length out → take (at + n) new ≡ take at out ++ part → drop (at + n) new ≡ drop (at + n) out
    → CopiedUntil bytes old (at + n) new
copied_more bytes old out new part at n so_far until is long copied rest = record {
  until = until;
  long = long ∙ so_far.long;
  copied = copied ∙ ap (λ l. l ++ part) so_far.copied ∙ ap (λ l. take at bytes ++ l) is ∙ sym (take-add at n bytes);
  rest = rest ∙ sym (drop-drop n at out) ∙ ap (drop n) so_far.rest ∙ drop-drop n at old;
}

-- a chunk of the rest is its first bytes
pub chunk_is : (bytes word : List ℕ) (at : ℕ) → IsFirstChunk (take (length bytes - at) (drop at bytes)) word 8 → word ≡ take 8 (drop at bytes)
chunk_is bytes word at chunk = chunk.same ∙ ap (take 8) (take_rest bytes at)

-- a prefix of a part that was put at an offset
pub put_prefix : (at k n : ℕ) (old ys part : List ℕ) → at ≤ length old → n ≤ length ys → take n ys ≡ part
    → take (at + n) (put_mid at k old ys) ≡ take at old ++ part
put_prefix at k n old ys part h within e =
    ap (λ m. take (m + n) (put_mid at k old ys)) (sym (length-take-le at old h))
    ∙ take-append-add (take at old) (ys ++ drop k (drop at old)) n
    ∙ ap (λ l. take at old ++ l) (take-append-le n ys (drop k (drop at old)) within ∙ e)
