-- Lists that agree at each index continue to do so.
use Rattle.link_replay.proofs.Prelude.{◌≡◌, ℕ, zero, suc, ◌+◌, ◌-◌, ◌<◌, List, [], ◌∷◌, ◌++◌, length, set, refl, sym, ap, ◌∙◌, subst, arith}
use Rattle.link_replay.proofs.Prelude.{Some, None, inl, inr, slice_get, slice_get_cases, slice_get_past, get_or, drop, length-append}
use Rattle.link_replay.proofs.Prelude.{length-set, numbered, get_push, older, newest, get_set, here, there, Matched}
use Rattle.std.proofs.Math.Seq.{drop-cons}

inside : {X : Type 0} (xs : List X) (i : ℕ) (x : X) → slice_get xs i ≡ Some x → i < length xs
inside [] i x h = absurd (cc)
inside (y ∷ ys) zero x h = omega arith
inside (y ∷ ys) (suc i) x h = let k = inside ys i x h in omega (arith, k)

-- an element that was read
pub there_is : {X : Type 0} (xs : List X) (i : ℕ) (x : X) → x ≡ get_or xs i x → i < length xs → slice_get xs i ≡ Some x
there_is [] i x h l = absurd (let z : i < 0 = l in omega (arith, z))
there_is (y ∷ ys) zero x h l = ap Some (sym h)
there_is (y ∷ ys) (suc i) x h l = there_is ys i x h (omega (arith, l))

-- what is left, with its first
pub left_is : {X : Type 0} (xs : List X) (i : ℕ) (d : X) → i < length xs → drop i xs ≡ get_or xs i d ∷ drop (i + 1) xs
left_is xs i d h = drop-cons xs i d h ∙ ap (λ n. get_or xs i d ∷ drop n xs) (let e : suc i ≡ i + 1 = omega arith in e)

at_end : {X : Type 0} (xs : List X) (new x : X) → slice_get (xs ++ new ∷ []) (length xs) ≡ Some x → new ≡ x
at_end [] new x h = cc
at_end (y ∷ ys) new x h = at_end ys new x h

pub reads : {X : Type 0} (xs : List X) (i : ℕ) → i < length xs → (x : X) × (slice_get xs i ≡ Some x)
reads [] i h = absurd (let z : i < 0 = h in omega (arith, z))
reads (x ∷ xs) zero h = (x, refl)
reads (x ∷ xs) (suc i) h = reads xs i (omega (arith, h))

-- what has a number is at the index one below it
pub numbered_at : {X : Type 0} (xs : List X) (n : ℕ) → 0 < n → numbered xs n ≡ slice_get xs (n - 1)
numbered_at xs zero h = absurd (let z : 0 < 0 = h in omega (arith, z))
numbered_at xs (suc n) h = ap (slice_get xs) (let e : n ≡ suc n - 1 = omega arith in e)

-- the other of two
pub record Partner {X Y : Type 0} (P : X → Y → Type 0) (ys : List Y) (i : ℕ) (x : X) : Type 0 where
  pub other : Y
  pub get : slice_get ys i ≡ Some other
  pub pair : P x other

-- the same by a number
pub record NumberedPartner {X Y : Type 0} (P : X → Y → Type 0) (ys : List Y) (n : ℕ) (x : X) : Type 0 where
  pub index : ℕ
  pub other : Y
  pub get : slice_get ys index ≡ Some other
  pub there : numbered ys n ≡ Some other
  pub pair : P x other

module _ {X Y : Type 0} (P : X → Y → Type 0) where
  pub partner : (xs : List X) (ys : List Y) (i : ℕ) (x : X) → Matched P xs ys → slice_get xs i ≡ Some x → Partner P ys i x
  partner xs ys i x m g =
      let l = inside xs i x g in
      let r = reads ys i (omega (arith, l, m.same_length)) in
      record { other = r.0; get = r.1; pair = m.each i x r.0 g r.1 }

  pub numbered_partner : (xs : List X) (ys : List Y) (n : ℕ) (x : X) → Matched P xs ys → Some x ≡ numbered xs n → NumberedPartner P ys n x
  numbered_partner xs ys zero x m h = absurd (cc)
  numbered_partner xs ys (suc n) x m h = let p = partner xs ys n x m (sym h) in record { index = n; other = p.other; get = p.get; there = p.get; pair = p.pair }

  -- no element of either has the number
  pub none_numbered : (xs : List X) (ys : List Y) (n : ℕ) → Matched P xs ys → None ≡ numbered xs n → numbered ys n ≡ None
  none_numbered xs ys zero m h = refl
  none_numbered xs ys (suc n) m h = elim ((slice_get_cases xs n).1) [
    | inl found ↦ absurd (cc (h, found.2))
    | inr past ↦ slice_get_past ys n (omega (arith, past.0, m.same_length))
  ]

  -- one more at the end of both
  pub push : (xs : List X) (ys : List Y) (x : X) (y : Y) → Matched P xs ys → P x y → Matched P (xs ++ x ∷ []) (ys ++ y ∷ [])
  push xs ys x y m p = record {
    same_length = length-append xs (x ∷ []) ∙ ap (λ n. n + 1) m.same_length ∙ sym (length-append ys (y ∷ []));
    each = λ i a b g h. elim (get_push xs x i a g) [
      | older old ↦ elim (get_push ys y i b h) [
        | older o ↦ m.each i a b old o
        | newest j q ↦ (let l = inside xs i a old in absurd (let z = m.same_length in omega (arith, l, j, z)))
      ]
      | newest j q ↦ elim (get_push ys y i b h) [
        | older o ↦ (let l = inside ys i b o in absurd (let z = m.same_length in omega (arith, l, j, z)))
        | newest k r ↦ subst (λ z. P z b) q (subst (λ z. P x z) r p)
      ]
    ];
  }

  -- one place is written in both
  pub put : (xs : List X) (ys : List Y) (i : ℕ) (x : X) (y : Y) → Matched P xs ys → P x y → Matched P (set xs i x) (set ys i y)
  put xs ys i x y m p = record {
    same_length = length-set xs i x ∙ m.same_length ∙ sym (length-set ys i y);
    each = λ j a b g h. elim (get_set xs i x j a g) [
      | here e q ↦ elim (get_set ys i y j b h) [
        | here f r ↦ subst (λ z. P z b) q (subst (λ z. P x z) r p)
        | there n o ↦ absurd (n e)
      ]
      | there n o ↦ elim (get_set ys i y j b h) [
        | here f r ↦ absurd (n f)
        | there k l ↦ m.each j a b o l
      ]
    ];
  }

  -- another relation at each place
  pub turn : (Q : X → Y → Type 0) (xs : List X) (ys : List Y) → ((x : X) (y : Y) → P x y → Q x y) → Matched P xs ys → Matched Q xs ys
  turn Q xs ys f m = record { same_length = m.same_length; each = λ i a b g h. f a b (m.each i a b g h) }
