-- A field that is written over a part of a list.
use Rattle.uip_wire.proofs.Prelude.{◌≡◌, ◌+◌, ◌/◌, ◌%◌, ◌≤◌, ◌<◌, ◌-◌, ◌++◌, [], ◌∷◌, ◌∙◌, ap, length, take, drop, ℕ, List, arith, refl}
use Rattle.uip_wire.proofs.Prelude.{append_assoc, append-nil, length-drop, take_rest, drop_all, drop-drop, word_bytes, long_bytes, written}
use borrow.Rule.Slice.PartMut.{put_mid}

joined : (prefix part tail ys post : List ℕ) → ys ≡ part ++ tail → post ≡ [] → prefix ++ (ys ++ post) ≡ prefix ++ part ++ tail
joined prefix part tail ys post e p = rw (e, p, append-nil, append_assoc) refl

deeper : (n at : ℕ) (xs : List ℕ) → drop n (drop at xs) ≡ drop (at + n) xs
deeper n at xs = drop-drop n at xs

pub put_part : (at n : ℕ) (part xs ys : List ℕ) → length part ≡ n → at + n ≤ length xs
    → ys ≡ part ++ drop n (take (length xs - at) (drop at xs))
    → put_mid at (length xs - at) xs ys ≡ written xs at part
put_part at n part xs ys size fits e =
    let tail : drop n (take (length xs - at) (drop at xs)) ≡ drop (at + n) xs = ap (λ l. drop n l) (take_rest xs at) ∙ deeper n at xs in
    let none : drop (length xs - at) (drop at xs) ≡ [] = drop_all (length xs - at) (drop at xs) (omega (arith, length-drop at xs)) in
    let whole : ys ≡ part ++ drop (at + n) xs = e ∙ ap (λ l. part ++ l) tail in
    joined (take at xs) part (drop (at + n) xs) ys _ whole none ∙ ap (λ m. take at xs ++ part ++ drop (at + m) xs) (omega arith)

pub word_is : (v : ℕ) (rest : List ℕ) → v < 65536 → v / 256 % 256 ∷ v % 256 ∷ rest ≡ word_bytes v ++ rest
word_is v rest h = ap (λ n. n ∷ v % 256 ∷ rest) (omega arith)

pub same_four : (a a' b b' c c' d d' : ℕ) (rest : List ℕ) → a ≡ a' → b ≡ b' → c ≡ c' → d ≡ d' → a ∷ b ∷ c ∷ d ∷ rest ≡ a' ∷ b' ∷ c' ∷ d' ∷ rest
same_four a a' b b' c c' d d' rest e f g h = cc

pub long_is : (v : ℕ) (rest : List ℕ) → v < 4294967296
    → v / 16777216 % 256 ∷ v / 65536 % 256 ∷ v / 256 % 256 ∷ v % 256 ∷ rest ≡ long_bytes v ++ rest
long_is v rest h = same_four _ _ _ _ _ _ _ _ rest (omega arith) (omega arith) (omega arith) (omega arith)
