-- A serial line decodes to bytes.
use Rattle.serve_loop.proofs.Prelude.{All, ℕ, ◌<◌, List, [], ◌∷◌, ◌++◌, length, map, sym, subst, arith, eqb, nat_le, append_assoc}
use Rattle.serve_loop.proofs.Prelude.{append-nil, All-append, All-cons, All-head, All-nil, All-tail, LARGEST_DATAGRAM, IsByte, Frame}
use Rattle.serve_loop.proofs.Prelude.{Datagram, Overlong, frame_of, meant, open_part, unescaped, open_part-end, open_part-plain, parts-byte}
use Rattle.serve_loop.proofs.Prelude.{both_ways, choose, BringsBytes, CarriesBytes, came_by, slip_medium}

meant_low : (b : ℕ) → b < 256 → meant b < 256
meant_low b h = choose (λ x. x < 256) (eqb b 220) _ _ (λ e. omega arith) (λ e. choose (λ x. x < 256) (eqb b 221) _ _ (λ f. omega arith) (λ f. h))

pub unescaped_low : (xs : List ℕ) → All IsByte xs → All IsByte (unescaped xs)
unescaped_low [] h = h
unescaped_low (a ∷ []) h = choose (λ l. All IsByte l) (eqb a 219) _ _ (λ e. All-nil IsByte) (λ e. h)
unescaped_low (a ∷ b ∷ rest) h =
    let t : All IsByte (b ∷ rest) = All-tail IsByte a (b ∷ rest) h in
    choose (λ l. All IsByte l) (eqb a 219) _ _
    (λ e. All-cons IsByte (meant b) (unescaped rest) (meant_low b (All-head IsByte b rest t)) (unescaped_low rest (All-tail IsByte b rest t)))
    (λ e. All-cons IsByte a (unescaped (b ∷ rest)) (All-head IsByte a (b ∷ rest) h) (unescaped_low (b ∷ rest) t))

-- the open part of bytes is bytes
pub open_low : (before : List ℕ) (b : ℕ) → b < 256 → All IsByte (open_part before) → All IsByte (open_part (before ++ b ∷ []))
open_low before b low h = both_ways (eqb b 192)
    (λ e. subst (λ l. All IsByte l) (sym (open_part-end before b e)) (All-nil IsByte))
    (λ e. subst (λ l. All IsByte l) (sym (open_part-plain before (b ∷ []) (parts-byte b e))) (All-append IsByte (open_part before) (b ∷ [])
    h (All-cons IsByte b [] low (All-nil IsByte))))

opened_later : (before bytes : List ℕ) → All IsByte (open_part before) → All IsByte bytes → All IsByte (open_part (before ++ bytes))
opened_later before [] h a = subst (λ l. All IsByte (open_part l)) (sym (append-nil before)) h
opened_later before (b ∷ bytes) h a =
    subst (λ l. All IsByte (open_part l)) (append_assoc before (b ∷ []) bytes)
    (opened_later (before ++ b ∷ []) bytes (open_low before b (All-head IsByte b bytes a) h) (All-tail IsByte b bytes a))

frame_bytes : (xs : List ℕ) → All IsByte xs → All CarriesBytes (map came_by (frame_of xs))
frame_bytes [] h = All-nil CarriesBytes
frame_bytes (b ∷ bytes) h =
    choose (λ (l : List Frame). All CarriesBytes (map came_by l)) (nat_le (length (b ∷ bytes)) LARGEST_DATAGRAM) _ _
    (λ e. All-cons CarriesBytes (came_by (Datagram (b ∷ bytes))) [] h (All-nil CarriesBytes))
    (λ e. All-cons CarriesBytes (came_by Overlong) [] tt (All-nil CarriesBytes))

pub slip_brings_bytes : BringsBytes slip_medium
slip_brings_bytes before b a low =
    choose (λ (l : List Frame). All CarriesBytes (map came_by l)) (eqb b 192) _ _
    (λ e. frame_bytes (unescaped (open_part before)) (unescaped_low (open_part before) (opened_later [] before (All-nil IsByte) a)))
    (λ e. All-nil CarriesBytes)
