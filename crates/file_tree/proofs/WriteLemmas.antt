-- The file of an entry that was appended to an image, at its place.
use Rattle.file_tree.proofs.Prelude.{◌≡◌, ℕ, ◌+◌, ◌-◌, ◌≤◌, List, [], ◌∷◌, ◌++◌, length, take, drop, refl, sym, ap, ◌∙◌, append_assoc}
use Rattle.file_tree.proofs.Prelude.{arith, slice_range, w32, to_be_bytes, take_at, drop_at, append-nil, length-append, Version, One, Two}
use Rattle.file_tree.proofs.Prelude.{File, short_text, long_text, entry, IsKindIn, IsWithin, file_in, place_after}

-- a part of a list by what is before it and after it
part-at : (xs before part after : List ℕ) (at len : ℕ) → xs ≡ before ++ (part ++ after) → at ≡ length before → len ≡ length part
    → slice_range xs at (at + len) ≡ part
part-at xs before part after at len is here size =
    let n : (at + len) - at ≡ len = omega arith in
    ap (λ k. take k (drop at xs)) n
    ∙ ap (λ x. take len (drop at x)) is
    ∙ ap (take len) (drop_at before (part ++ after) at (sym here))
    ∙ take_at part after len (sym size)

long-size : (c : List ℕ) → length (long_text c) ≡ length c + 4
long-size c = omega (arith, length-append (to_be_bytes w32 (length c)) c)

pub record Written (version : Version) (old : List ℕ) (file : File) : Type 0 where
  pub within : IsWithin (old ++ entry version file) (place_after version (length old) (length file.name) (length file.kind) (length file.content))
  pub file_is : file_in (old ++ entry version file) (place_after version (length old) (length file.name) (length file.kind) (length file.content)) ≡ file

pub written : (version : Version) (old : List ℕ) (file : File) → IsKindIn version file.kind → Written version old file
written One old file kind =
    let name = file.name in
    let body = file.content in
    let number = to_be_bytes w32 (length body) in
    let whole = old ++ entry One file in
    let n = length-append old (entry One file) in
    let m = length-append (short_text name) (long_text body) in
    let l = long-size body in
    let none : length file.kind ≡ 0 = ap length kind in
    let first : whole ≡ (old ++ length name ∷ []) ++ (name ++ long_text body) = sym (append_assoc old (length name ∷ []) (name ++ long_text body)) in
    let last : whole ≡ ((old ++ short_text name) ++ number) ++ (body ++ []) =
    sym (append_assoc old (short_text name) (number ++ body)) ∙ sym (append_assoc (old ++ short_text name) number body)
    ∙ ap (λ x. ((old ++ short_text name) ++ number) ++ x) (sym (append-nil body)) in
    record {
      within = record { name = omega (arith, n, m, l); kind = omega (arith, n, m, l, none); content = omega (arith, n, m, l, none) };
      file_is = λ i. record {
        name = part-at whole (old ++ length name ∷ []) name (long_text body) (length old + 1) (length name) first
            (sym (length-append old (length name ∷ []))) refl i;
        kind = (let gone : (length old + 1 + length name + length file.kind) - (length old + 1 + length name) ≡ 0 = omega (arith, none) in
            ap (λ k. take k (drop (length old + 1 + length name) whole)) gone ∙ sym kind) i;
        content = part-at whole ((old ++ short_text name) ++ number) body [] (length old + 1 + length name + length file.kind + 4) (length body) last
            (omega (arith, length-append (old ++ short_text name) number, length-append old (short_text name), none)) refl i;
      };
    }
written Two old file kind =
    let name = file.name in
    let own = file.kind in
    let body = file.content in
    let number = to_be_bytes w32 (length body) in
    let tail = short_text own ++ long_text body in
    let whole = old ++ entry Two file in
    let n = length-append old (entry Two file) in
    let m = length-append (short_text name) tail in
    let k = length-append (short_text own) (long_text body) in
    let l = long-size body in
    let first : whole ≡ (old ++ length name ∷ []) ++ (name ++ tail) = sym (append_assoc old (length name ∷ []) (name ++ tail)) in
    let after_name : whole ≡ (old ++ short_text name) ++ tail = sym (append_assoc old (short_text name) tail) in
    let middle : whole ≡ ((old ++ short_text name) ++ length own ∷ []) ++ (own ++ long_text body) =
    after_name ∙ sym (append_assoc (old ++ short_text name) (length own ∷ []) (own ++ long_text body)) in
    let last : whole ≡ (((old ++ short_text name) ++ short_text own) ++ number) ++ (body ++ []) =
    after_name ∙ sym (append_assoc (old ++ short_text name) (short_text own) (number ++ body))
    ∙ sym (append_assoc ((old ++ short_text name) ++ short_text own) number body)
    ∙ ap (λ x. (((old ++ short_text name) ++ short_text own) ++ number) ++ x) (sym (append-nil body)) in
    let prefix = length-append old (short_text name) in
    let before_kind = length-append (old ++ short_text name) (length own ∷ []) in
    let with_kind = length-append (old ++ short_text name) (short_text own) in
    let before_body = length-append ((old ++ short_text name) ++ short_text own) number in
    record {
      within = record { name = omega (arith, n, m, k, l); kind = omega (arith, n, m, k, l); content = omega (arith, n, m, k, l) };
      file_is = λ i. record {
        name = part-at whole (old ++ length name ∷ []) name tail (length old + 1) (length name) first (sym (length-append old (length name ∷ []))) refl i;
        kind = part-at whole ((old ++ short_text name) ++ length own ∷ []) own (long_text body) (length old + 1 + length name + 1)
            (length own) middle (omega (arith, prefix, before_kind)) refl i;
        content = part-at whole (((old ++ short_text name) ++ short_text own) ++ number) body []
            (length old + 1 + length name + 1 + length own + 4) (length body) last
            (omega (arith, prefix, with_kind, before_body)) refl i;
      };
    }
