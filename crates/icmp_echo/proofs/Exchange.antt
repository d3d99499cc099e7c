-- The two addresses of a header, exchanged.
use Rattle.icmp_echo.proofs.Prelude.{◌≡◌, ℕ, ◌+◌, ◌<◌, ◌≤◌, List, ◌∷◌, ◌++◌, length, take, drop, get_or, slice_range, sym, ap, ◌∙◌, arith}
use Rattle.icmp_echo.proofs.Prelude.{length-append, length-take, drop_more, drop-drop, take_at, drop_at, address_at, written}

next : (d : List ℕ) (at more : ℕ) → at < length d → at + 1 ≡ more → drop at d ≡ get_or d at 0 ∷ drop more d
next d at more h e = drop_more d at 0 h ∙ ap (λ k. get_or d at 0 ∷ drop k d) e

-- an address is a part of four bytes
address-part : (d : List ℕ) (at : ℕ) → at + 4 ≤ length d → address_at d at ≡ take 4 (drop at d)
address-part d at h =
    let a : drop at d ≡ get_or d at 0 ∷ drop (at + 1) d = drop_more d at 0 (omega arith) in
    let b : drop (at + 1) d ≡ get_or d (at + 1) 0 ∷ drop (at + 2) d = next d (at + 1) (at + 2) (omega arith) (omega arith) in
    let c : drop (at + 2) d ≡ get_or d (at + 2) 0 ∷ drop (at + 3) d = next d (at + 2) (at + 3) (omega arith) (omega arith) in
    let e : drop (at + 3) d ≡ get_or d (at + 3) 0 ∷ drop (at + 4) d = next d (at + 3) (at + 4) (omega arith) (omega arith) in
    sym (ap (λ l. take 4 l) (a ∙ ap (λ l. get_or d at 0 ∷ l) (b ∙ ap (λ l. get_or d (at + 1) 0 ∷ l) (c ∙ ap (λ l. get_or d (at + 2) 0 ∷ l) e))))

pub addresses_exchanged : (d source target once twice : List ℕ) → 20 ≤ length d → source ≡ address_at d 12 → target ≡ address_at d 16
    → once ≡ written d 12 target → twice ≡ written once 16 source
    → twice ≡ take 12 d ++ slice_range d 16 20 ++ slice_range d 12 16 ++ drop 20 d
addresses_exchanged d source target once twice h s t first second =
    let s_is : source ≡ slice_range d 12 16 = s ∙ address-part d 12 (omega arith) in
    let t_is : target ≡ slice_range d 16 20 = t ∙ address-part d 16 (omega arith) in
    let s_len : length source ≡ 4 = ap (λ l. length l) s in
    let t_len : length target ≡ 4 = ap (λ l. length l) t in
    let prefix = take 12 d ++ target in
    let prefix_count : length prefix ≡ 16 = omega (arith, length-append (take 12 d) target, length-take 12 d, t_len) in
    let rest : drop (12 + length target) d ≡ drop 16 d = ap (λ k. drop (12 + k) d) t_len in
    let once_is : once ≡ prefix ++ drop 16 d = first ∙ ap (λ l. prefix ++ l) rest in
    let kept : take 16 once ≡ prefix = ap (λ l. take 16 l) once_is ∙ take_at prefix (drop 16 d) 16 prefix_count in
    let behind : drop (16 + length source) once ≡ drop 20 d =
    ap (λ k. drop (16 + k) once) s_len ∙ sym (drop-drop 4 16 once)
    ∙ ap (λ l. drop 4 l) (ap (λ l. drop 16 l) once_is ∙ drop_at prefix (drop 16 d) 16 prefix_count) ∙ drop-drop 4 16 d in
    second ∙ ap (λ l. (l ++ source) ++ drop (16 + length source) once) kept ∙ ap (λ l. (prefix ++ source) ++ l) behind
    ∙ ap (λ l. ((take 12 d ++ l) ++ source) ++ drop 20 d) t_is ∙ ap (λ l. ((take 12 d ++ slice_range d 16 20) ++ l) ++ drop 20 d) s_is
