-- A value that is set is shown, and the others stay.
use Rattle.device_values.proofs.Prelude.{All, ◌≡◌, ℕ, ◌+◌, ◌-◌, ◌*◌, ◌%◌, ◌<◌, ◌≤◌, Bool, true, false, List, ◌∷◌, ◌++◌, drop, get_or}
use Rattle.device_values.proofs.Prelude.{length, ltb, map, min, replicate, take, refl, sym, ap, ◌∙◌, append_assoc, arith, length-append}
use Rattle.device_values.proofs.Prelude.{ltb-false, ltb-true, drop-append-le, get_or-append_right, get_or_append_left, length-drop}
use Rattle.device_values.proofs.Prelude.{length-replicate, length-take-le, take-append-drop, take-append-le, take_at, drop-append-add}
use Rattle.device_values.proofs.Prelude.{get_or-append_seam, take-append_seam, IsByte, GivenIsShown, value_given, value_of}
use Rattle.device_values.proofs.Bytes.{low_same}

-- a value is determined by its length and by its 32 bytes
abbrev bytes_at : List ℕ → ℕ → List ℕ
bytes_at own n = take 32 (drop (33 * n + 1) own)

abbrev value_by : ℕ → List ℕ → List ℕ
value_by len bytes = map (λ b. b % 256) (take (min 32 len) bytes)

value_reported : (own : List ℕ) (n : ℕ) → value_of own n ≡ value_by (get_or own (33 * n) 0) (bytes_at own n)
value_reported own n =
    let count : (33 * n + 33) - (33 * n + 1) ≡ 32 = omega arith in
    ap (λ k. value_by (get_or own (33 * n) 0) (take k (drop (33 * n + 1) own))) count

same_value : (xs ys : List ℕ) (n : ℕ) → get_or xs (33 * n) 0 ≡ get_or ys (33 * n) 0 → bytes_at xs n ≡ bytes_at ys n → value_of xs n ≡ value_of ys n
same_value xs ys n len bytes =
    value_reported xs n ∙ (λ i. value_by (len i) (bytes i)) ∙ sym (value_reported ys n)

-- a value before others
bytes_in_prefix : (prefix more : List ℕ) (n : ℕ) → 33 * n + 33 ≤ length prefix → bytes_at (prefix ++ more) n ≡ bytes_at prefix n
bytes_in_prefix prefix more n within =
    ap (λ l. take 32 l) (drop-append-le (33 * n + 1) prefix more (omega (arith, within)))
    ∙ take-append-le 32 (drop (33 * n + 1) prefix) more (omega (arith, length-drop (33 * n + 1) prefix, within))

same_in_prefix : (prefix more others : List ℕ) (n : ℕ) → 33 * n + 33 ≤ length prefix → value_of (prefix ++ more) n ≡ value_of (prefix ++ others) n
same_in_prefix prefix more others n within =
    let inside : 33 * n < length prefix = omega (arith, within) in
    same_value (prefix ++ more) (prefix ++ others) n
    (get_or_append_left prefix more 0 (33 * n) inside ∙ sym (get_or_append_left prefix others 0 (33 * n) inside))
    (bytes_in_prefix prefix more n within ∙ sym (bytes_in_prefix prefix others n within))

-- and after others
trailing_bytes : (prefix more : List ℕ) (n : ℕ) → length prefix ≤ 33 * n → bytes_at (prefix ++ more) n ≡ take 32 (drop (33 * n + 1 - length prefix) more)
trailing_bytes prefix more n history =
    let split : 33 * n + 1 ≡ length prefix + (33 * n + 1 - length prefix) = omega (arith, history) in
    ap (λ k. take 32 (drop k (prefix ++ more))) split ∙ ap (λ l. take 32 l) (drop-append-add prefix more (33 * n + 1 - length prefix))

same_after : (prefix other more : List ℕ) (n : ℕ) → length prefix ≡ length other → length prefix ≤ 33 * n → value_of (prefix ++ more) n
    ≡ value_of (other ++ more) n
same_after prefix other more n same history =
    let past_other : length other ≤ 33 * n = omega (arith, same, history) in
    same_value (prefix ++ more) (other ++ more) n
    (get_or-append_right prefix more (length prefix) (33 * n) 0 refl history
    ∙ ap (λ k. get_or more (33 * n - k) 0) same
    ∙ sym (get_or-append_right other more (length other) (33 * n) 0 refl past_other))
    (trailing_bytes prefix more n history ∙ ap (λ k. take 32 (drop (33 * n + 1 - k) more)) same ∙ sym (trailing_bytes other more n past_other))

module _ (n : ℕ) (lt : n < 16) (text : List ℕ) (short : length text ≤ 32) (bytes : All IsByte text) (own : List ℕ) (long : length own ≡ 528) where
  abbrev prefix : List ℕ
  prefix = take (33 * n) own

  abbrev behind : List ℕ
  behind = drop (33 * n + 33) own

  abbrev zeros : List ℕ
  zeros = replicate (32 - length text) 0

  abbrev row : List ℕ
  row = length text ∷ (text ++ zeros)

  prefix_long : length prefix ≡ 33 * n
  prefix_long = length-take-le (33 * n) own (omega (arith, lt, long))

  padded_long : length (text ++ zeros) ≡ 32
  padded_long = omega (arith, length-append text zeros, length-replicate {A = ℕ} (32 - length text) 0, short)

  row_long : length row ≡ 33
  row_long = omega (arith, padded_long)

  head_long : length (prefix ++ row) ≡ 33 * n + 33
  head_long = omega (arith, length-append prefix row, prefix_long, row_long)

  from_prefix : value_given n text own ≡ prefix ++ (row ++ behind)
  from_prefix = append_assoc prefix row behind

  len_shown : get_or (value_given n text own) (33 * n) 0 ≡ length text
  len_shown =
      ap (λ (l : List ℕ). get_or l (33 * n) 0) from_prefix ∙ ap (λ k. get_or (prefix ++ (row ++ behind)) k 0) (sym prefix_long)
      ∙ get_or-append_seam prefix (length text) ((text ++ zeros) ++ behind) 0

  bytes_shown : bytes_at (value_given n text own) n ≡ text ++ zeros
  bytes_shown =
      let here : 33 * n + 1 ≡ length prefix + 1 = omega (arith, prefix_long) in
      ap (λ (l : List ℕ). take 32 (drop (33 * n + 1) l)) from_prefix
      ∙ ap (λ k. take 32 (drop k (prefix ++ (row ++ behind)))) here
      ∙ ap (λ (l : List ℕ). take 32 l) (drop-append-add prefix (row ++ behind) 1)
      ∙ take_at (text ++ zeros) behind 32 padded_long

  shown : value_of (value_given n text own) n ≡ text
  shown =
      let all : min 32 (length text) ≡ length text = omega (arith, short) in
      value_reported (value_given n text own) n
      ∙ (λ i. value_by (len_shown i) (bytes_shown i))
      ∙ ap (λ k. map (λ b. b % 256) (take k (text ++ zeros))) all
      ∙ ap (λ (l : List ℕ). map (λ b. b % 256) l) (take-append_seam text zeros)
      ∙ low_same text bytes

  others : (other : ℕ) → (other ≡ n → ⊥) → value_of (value_given n text own) other ≡ value_of own other
  others other apart = by_place (ltb other n) (ltb n other) refl refl
    where
      by_place : (b c : Bool) → ltb other n ≡ b → ltb n other ≡ c → value_of (value_given n text own) other ≡ value_of own other
      by_place true c e f =
          let less : other < n = ltb-true other n e in
          let within : 33 * other + 33 ≤ length prefix = omega (arith, less, prefix_long) in
          ap (λ (l : List ℕ). value_of l other) from_prefix
          ∙ same_in_prefix prefix (row ++ behind) (drop (33 * n) own) other within
          ∙ ap (λ (l : List ℕ). value_of l other) (take-append-drop (33 * n) own)
      by_place false true e f =
          let more : n < other = ltb-true n other f in
          let kept : length (take (33 * n + 33) own) ≡ 33 * n + 33 = length-take-le (33 * n + 33) own (omega (arith, lt, long)) in
          same_after (prefix ++ row) (take (33 * n + 33) own) behind other (omega (arith, head_long, kept)) (omega (arith, head_long, more))
          ∙ ap (λ (l : List ℕ). value_of l other) (take-append-drop (33 * n + 33) own)
      by_place false false e f =
          let one : n ≤ other = ltb-false other n e in
          let two : other ≤ n = ltb-false n other f in
          absurd (apart (omega (arith, one, two)))

  long_given : length (value_given n text own) ≡ 528
  long_given = omega (arith, length-append (prefix ++ row) behind, head_long, length-drop (33 * n + 33) own, long, lt)

pub given_is_shown : GivenIsShown
given_is_shown n lt text short bytes own long = record {
  long = long_given n lt text short bytes own long;
  shown = shown n lt text short bytes own long;
  others = others n lt text short bytes own long;
}
