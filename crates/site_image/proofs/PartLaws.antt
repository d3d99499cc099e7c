-- A part that has no fault is the part that was written, and what was written is read back.
use Rattle.site_image.proofs.Prelude.{◌≡◌, ◌≢◌, ℕ, ◌+◌, ◌^◌, ◌<◌, ◌≤◌, not, ◌||◌, eqb, ltb, leb, ◌&&◌, List, [], ◌∷◌, ◌++◌, length, get_or}
use Rattle.site_image.proofs.Prelude.{take, drop, None, refl, sym, ap, ◌∙◌, append_assoc, add-one, arith, inl, inr, IsTrue, list_all, w32}
use Rattle.site_image.proofs.Prelude.{from_be_bytes, to_be_bytes, cases_lt, ltb-false, le-ltb, eqb-false, ne_eqb, or_from, not-false}
use Rattle.site_image.proofs.Prelude.{not_from_true, and_parts, leb-true, take_at, drop_at, take-append-drop, length-append, length-take}
use Rattle.site_image.proofs.Prelude.{length-drop, length-take-le, get_or-drop, get_or-take, get_or_past, drop-drop, be_bytes_4}
use Rattle.site_image.proofs.Prelude.{from_be_bytes-to_be_bytes_4, LONGEST_NAME, LONGEST_KIND, Cut, Name, Kind, Two, is_name, is_kind}
use Rattle.site_image.proofs.Prelude.{is_name_byte, is_kind_byte, short_text, long_text, byte_length, text, after_text, long_length}
use Rattle.site_image.proofs.Prelude.{content, after_content, name_fault, kind_fault, content_fault}
use Rattle.site_image.proofs.Rows.{four-rows, two-rows, four-none, two-none}

abbrev pub IsBytes : List ℕ → Type 0
IsBytes bytes = (i : ℕ) → get_or bytes i 0 < 256

pub IsBytes-drop : (n : ℕ) (bytes : List ℕ) → IsBytes bytes → IsBytes (drop n bytes)
IsBytes-drop n bytes h i = rw get_or-drop (h (n + i))

pub IsBytes-take : (n : ℕ) (bytes : List ℕ) → IsBytes bytes → IsBytes (take n bytes)
IsBytes-take n bytes h i =
    elim (cases_lt i n) [
      | inl lt ↦ rw (get_or-take n bytes i 0 lt) (h i)
      | inr le ↦ rw (get_or_past (take n bytes) i 0 (omega (arith, length-take n bytes))) (omega arith)
    ]

-- a text after its length
pub short-parts : (bytes : List ℕ) → length bytes ≢ 0 → byte_length bytes + 1 ≤ length bytes → bytes ≡ short_text (text bytes) ++ after_text bytes
short-parts [] some within = absurd (some refl)
short-parts (n ∷ bytes) some within =
    let len : length (take n bytes) ≡ n = length-take-le n bytes (omega arith) in
    let after : drop (n + 1) (n ∷ bytes) ≡ drop n bytes = ap (λ k. drop k (n ∷ bytes)) (add-one n) in
    ap (λ x. n ∷ x) (sym (take-append-drop n bytes))
    ∙ ap (λ k. k ∷ (take n bytes ++ drop n bytes)) (sym len)
    ∙ ap (λ x. length (take n bytes) ∷ (take n bytes ++ x)) (sym after)

pub short-text : (t rest : List ℕ) → text (short_text t ++ rest) ≡ t
short-text t rest = take_at t rest (length t) refl

pub short-after : (t rest : List ℕ) → after_text (short_text t ++ rest) ≡ rest
short-after t rest = ap (λ k. drop k (length t ∷ (t ++ rest))) (add-one (length t)) ∙ drop_at t rest (length t) refl

pub short-length : (t rest : List ℕ) → length (short_text t ++ rest) ≡ length t + 1 + length rest
short-length t rest = omega (arith, length-append t rest)

-- a content after its length
long-parts-by : (bytes : List ℕ) (n : ℕ) → IsBytes bytes → n ≡ long_length bytes → n + 4 ≤ length bytes
    → bytes ≡ long_text (take n (drop 4 bytes)) ++ drop (n + 4) bytes
long-parts-by bytes n fits is within =
    let rest = drop 4 bytes in
    let len : length (take n rest) ≡ n = length-take-le n rest (omega (arith, length-drop 4 bytes)) in
    let four : length (take 4 bytes) ≡ 4 = length-take-le 4 bytes (omega arith) in
    let prefix : to_be_bytes w32 n ≡ take 4 bytes = be_bytes_4 (take 4 bytes) n four (IsBytes-take 4 bytes fits) is in
    let after : drop (n + 4) bytes ≡ drop n rest = sym (drop-drop n 4 bytes ∙ ap (λ k. drop k bytes) (omega arith)) in
    sym (take-append-drop 4 bytes)
    ∙ ap (λ x. take 4 bytes ++ x) (sym (take-append-drop n rest))
    ∙ ap (λ x. take 4 bytes ++ (take n rest ++ x)) (sym after)
    ∙ sym (append_assoc (take 4 bytes) (take n rest) (drop (n + 4) bytes))
    ∙ ap (λ x. (x ++ take n rest) ++ drop (n + 4) bytes) (sym prefix)
    ∙ ap (λ k. (to_be_bytes w32 k ++ take n rest) ++ drop (n + 4) bytes) (sym len)

pub long-parts : (bytes : List ℕ) → IsBytes bytes → long_length bytes + 4 ≤ length bytes → bytes ≡ long_text (content bytes) ++ after_content bytes
long-parts bytes fits within = long-parts-by bytes (long_length bytes) fits refl within

long-prefix : (c rest : List ℕ) → long_text c ++ rest ≡ to_be_bytes w32 (length c) ++ (c ++ rest)
long-prefix c rest = append_assoc (to_be_bytes w32 (length c)) c rest

pub long-length : (c rest : List ℕ) → length c < 2 ^ 32 → long_length (long_text c ++ rest) ≡ length c
long-length c rest lt =
    ap (λ x. from_be_bytes w32 (take 4 x)) (long-prefix c rest)
    ∙ ap (from_be_bytes w32) (take_at (to_be_bytes w32 (length c)) (c ++ rest) 4 refl)
    ∙ from_be_bytes-to_be_bytes_4 (length c) lt

pub long-content : (c rest : List ℕ) → length c < 2 ^ 32 → content (long_text c ++ rest) ≡ c
long-content c rest lt =
    ap (λ n. take n (drop 4 (long_text c ++ rest))) (long-length c rest lt)
    ∙ ap (λ x. take (length c) (drop 4 x)) (long-prefix c rest)
    ∙ ap (take (length c)) (drop_at (to_be_bytes w32 (length c)) (c ++ rest) 4 refl)
    ∙ take_at c rest (length c) refl

pub long-after : (c rest : List ℕ) → length c < 2 ^ 32 → after_content (long_text c ++ rest) ≡ rest
long-after c rest lt =
    ap (λ n. drop (n + 4) (long_text c ++ rest)) (long-length c rest lt)
    ∙ drop_at (long_text c) rest (length c + 4) (omega (arith, length-append (to_be_bytes w32 (length c)) c))

pub long-size : (c rest : List ℕ) → length (long_text c ++ rest) ≡ length c + 4 + length rest
long-size c rest = omega (arith, length-append (long_text c) rest, length-append (to_be_bytes w32 (length c)) c)

-- a part without fault is the part that was written
pub name-parts : (bytes : List ℕ) → name_fault bytes ≡ None → (bytes ≡ short_text (text bytes) ++ after_text bytes) × IsTrue (is_name (text bytes))
name-parts bytes none =
    let rows = four-rows (eqb (length bytes) 0) (eqb (byte_length bytes) 0 || ltb LONGEST_NAME (byte_length bytes))
    (ltb (length bytes) (byte_length bytes + 1)) (not (is_name (text bytes))) Cut Name Cut Name none in
    (short-parts bytes (eqb-false (length bytes) 0 rows.0) (ltb-false (length bytes) (byte_length bytes + 1) rows.2), not-false (is_name (text bytes)) rows.3)

pub kind-parts : (bytes : List ℕ) → kind_fault Two bytes ≡ None → (bytes ≡ short_text (text bytes) ++ after_text bytes) × IsTrue (is_kind (text bytes))
kind-parts bytes none =
    let rows = four-rows (eqb (length bytes) 0) (ltb LONGEST_KIND (byte_length bytes)) (ltb (length bytes) (byte_length bytes + 1))
    (not (is_kind (text bytes))) Cut Kind Cut Kind none in
    (short-parts bytes (eqb-false (length bytes) 0 rows.0) (ltb-false (length bytes) (byte_length bytes + 1) rows.2), not-false (is_kind (text bytes)) rows.3)

pub content-parts : (bytes : List ℕ) → IsBytes bytes → content_fault bytes ≡ None → bytes ≡ long_text (content bytes) ++ after_content bytes
content-parts bytes fits none =
    let rows = two-rows (ltb (length bytes) 4) (ltb (length bytes) (long_length bytes + 4)) Cut Cut none in
    long-parts bytes fits (ltb-false (length bytes) (long_length bytes + 4) rows.1)

-- a name is not empty and not too long, a content type is not too long
pub name-length : (name : List ℕ) → IsTrue (is_name name) → (1 ≤ length name) × (length name ≤ LONGEST_NAME)
name-length name is =
    let all = and_parts (leb 1 (length name) && leb (length name) LONGEST_NAME && eqb (get_or name 0 0) 0x2F) (list_all is_name_byte name) is in
    let three = and_parts (leb 1 (length name) && leb (length name) LONGEST_NAME) (eqb (get_or name 0 0) 0x2F) all.0 in
    let two = and_parts (leb 1 (length name)) (leb (length name) LONGEST_NAME) three.0 in
    (leb-true 1 (length name) two.0, leb-true (length name) LONGEST_NAME two.1)

pub kind-length : (kind : List ℕ) → IsTrue (is_kind kind) → length kind ≤ LONGEST_KIND
kind-length kind is = leb-true (length kind) LONGEST_KIND (and_parts (leb (length kind) LONGEST_KIND) (list_all is_kind_byte kind) is).0

-- what was written has no fault
pub name-again : (name rest : List ℕ) → IsTrue (is_name name) → name_fault (short_text name ++ rest) ≡ None
name-again name rest is =
    let bytes = short_text name ++ rest in
    let size = name-length name is in
    let low = size.0 in
    let high = size.1 in
    let len = short-length name rest in
    four-none (eqb (length bytes) 0) (eqb (byte_length bytes) 0 || ltb LONGEST_NAME (byte_length bytes))
    (ltb (length bytes) (byte_length bytes + 1)) (not (is_name (text bytes))) Cut Name Cut Name
    (ne_eqb (length bytes) 0 (λ e. omega arith))
    (or_from (eqb (length name) 0) (ltb LONGEST_NAME (length name)) (ne_eqb (length name) 0 (λ e. omega arith)) (le-ltb LONGEST_NAME (length name) high))
    (le-ltb (length bytes) (length name + 1) (omega arith))
    (ap (λ t. not (is_name t)) (short-text name rest) ∙ not_from_true (is_name name) is)

pub kind-again : (kind rest : List ℕ) → IsTrue (is_kind kind) → kind_fault Two (short_text kind ++ rest) ≡ None
kind-again kind rest is =
    let bytes = short_text kind ++ rest in
    let high = kind-length kind is in
    let len = short-length kind rest in
    four-none (eqb (length bytes) 0) (ltb LONGEST_KIND (byte_length bytes)) (ltb (length bytes) (byte_length bytes + 1))
    (not (is_kind (text bytes))) Cut Kind Cut Kind
    (ne_eqb (length bytes) 0 (λ e. omega arith))
    (le-ltb LONGEST_KIND (length kind) high)
    (le-ltb (length bytes) (length kind + 1) (omega arith))
    (ap (λ t. not (is_kind t)) (short-text kind rest) ∙ not_from_true (is_kind kind) is)

pub content-again : (c rest : List ℕ) → length c < 2 ^ 32 → content_fault (long_text c ++ rest) ≡ None
content-again c rest lt =
    let bytes = long_text c ++ rest in
    let len = long-size c rest in
    let is = long-length c rest lt in
    two-none (ltb (length bytes) 4) (ltb (length bytes) (long_length bytes + 4)) Cut Cut
    (le-ltb (length bytes) 4 (omega (arith, len)))
    (le-ltb (length bytes) (long_length bytes + 4) (omega (arith, len, is)))
