-- Bytes without END and ESC.
use Rattle.uip_slip.proofs.Prelude.{◌≡◌, ℕ, ◌≤◌, ◌<◌, Bool, true, false, cond, eqb, List, [], ◌∷◌, ◌++◌, take, length, get_or, refl, sym}
use Rattle.uip_slip.proofs.Prelude.{ap, ◌∙◌, arith, ◌&&◌, ◌||◌, append_assoc, append-nil, zero, suc, add-one, list_all, list_all_more}
use Rattle.uip_slip.proofs.Prelude.{is_mark, is_plain, meant, unescaped, parts, waits_after, escaped}

pub both_true : (a b : Bool) → (a && b) ≡ true → (a ≡ true) × (b ≡ true)
both_true true b e = (refl, e)
both_true false b e = absurd (cc e)

-- no byte of the prefix passes the search for a mark
pub none_marked : (n : ℕ) (bytes : List ℕ) → n ≤ length bytes → ((k : ℕ) → k < n → is_mark (get_or bytes k 0) ≡ true → ⊥)
    → list_all is_plain (take n bytes) ≡ true
none_marked zero bytes h none = refl
none_marked (suc n) bytes h none =
    let here : n < length bytes = omega arith in
    let prefix = none_marked n bytes (omega arith) (λ k less. none k (omega arith)) in
    let byte : is_plain (get_or bytes n 0) ≡ true =
    elim (is_mark (get_or bytes n 0)) as (λ v. is_mark (get_or bytes n 0) ≡ v → cond v false true ≡ true)
    [ true ↦ λ e. absurd (none n (omega arith) e) | false ↦ λ e. refl ] refl in
    rw (← add-one n) (list_all_more is_plain bytes n 0 here ∙ rw (prefix, byte) refl)

pub plain_byte : (b : ℕ) → is_plain b ≡ true → (eqb b 192 ≡ false) × (eqb b 219 ≡ false)
plain_byte b =
    elim (eqb b 192) as (λ v. cond (v || eqb b 219) false true ≡ true → (v ≡ false) × (eqb b 219 ≡ false)) [
      | true ↦ λ e. absurd (cc e)
      | false ↦ elim (eqb b 219) as (λ v. cond v false true ≡ true → (false ≡ false) × (v ≡ false))
          [ true ↦ λ e. absurd (cc e) | false ↦ λ e. (refl, refl) ]
    ]

pub parts-plain : (bytes : List ℕ) → list_all is_plain bytes ≡ true → parts bytes ≡ bytes ∷ []
parts-plain [] e = refl
parts-plain (b ∷ bytes) e =
    let each = both_true (is_plain b) (list_all is_plain bytes) e in
    let no_end = (plain_byte b each.0).0 in
    let rest = parts-plain bytes each.1 in
    rw (no_end, rest) refl

pub escaped-plain : (bytes : List ℕ) → list_all is_plain bytes ≡ true → escaped bytes ≡ bytes
escaped-plain [] e = refl
escaped-plain (b ∷ bytes) e =
    let each = both_true (is_plain b) (list_all is_plain bytes) e in
    let no = plain_byte b each.0 in
    let rest = escaped-plain bytes each.1 in
    rw (no.0, no.1, rest) refl

-- what one more byte adds to a part
abbrev pub adds : Bool → ℕ → List ℕ
adds waits b = cond waits (meant b ∷ []) (cond (eqb b 219) [] (b ∷ []))

pub unescaped-push : (part : List ℕ) (b : ℕ) → unescaped (part ++ b ∷ []) ≡ unescaped part ++ adds (waits_after part) b
unescaped-push [] b = refl
unescaped-push (a ∷ []) b =
    elim (eqb a 219) as (λ v. cond v (meant b ∷ []) (a ∷ cond (eqb b 219) [] (b ∷ [])) ≡ cond v [] (a ∷ []) ++ adds v b)
    [ true ↦ refl | false ↦ refl ]
unescaped-push (a ∷ c ∷ rest) b =
    elim (eqb a 219) as (λ v. cond v (meant c ∷ unescaped (rest ++ b ∷ [])) (a ∷ unescaped ((c ∷ rest) ++ b ∷ []))
    ≡ cond v (meant c ∷ unescaped rest) (a ∷ unescaped (c ∷ rest)) ++ adds (cond v (waits_after rest) (waits_after (c ∷ rest))) b)
    [ true ↦ ap (λ l. meant c ∷ l) (unescaped-push rest b) | false ↦ ap (λ l. a ∷ l) (unescaped-push (c ∷ rest) b) ]

pub waits_after-push : (part : List ℕ) (b : ℕ) → waits_after (part ++ b ∷ []) ≡ cond (waits_after part) false (eqb b 219)
waits_after-push [] b = refl
waits_after-push (a ∷ []) b =
    elim (eqb a 219) as (λ v. cond v false (eqb b 219) ≡ cond v false (eqb b 219)) [ true ↦ refl | false ↦ refl ]
waits_after-push (a ∷ c ∷ rest) b =
    elim (eqb a 219) as (λ v. cond v (waits_after (rest ++ b ∷ [])) (waits_after ((c ∷ rest) ++ b ∷ []))
    ≡ cond (cond v (waits_after rest) (waits_after (c ∷ rest))) false (eqb b 219))
    [ true ↦ waits_after-push rest b | false ↦ waits_after-push (c ∷ rest) b ]

-- plain bytes represent themselves after a part in which no ESC waits
pub plain_joined : (part bytes : List ℕ) → list_all is_plain bytes ≡ true → waits_after part ≡ false
    → (unescaped (part ++ bytes) ≡ unescaped part ++ bytes) × (waits_after (part ++ bytes) ≡ false)
plain_joined part [] e w = (ap (λ l. unescaped l) (append-nil part) ∙ sym (append-nil (unescaped part)), ap (λ l. waits_after l) (append-nil part) ∙ w)
plain_joined part (b ∷ bytes) e w =
    let each = both_true (is_plain b) (list_all is_plain bytes) e in
    let no_esc = (plain_byte b each.0).1 in
    let one : unescaped (part ++ b ∷ []) ≡ unescaped part ++ b ∷ [] = unescaped-push part b ∙ rw (w, no_esc) refl in
    let rests : waits_after (part ++ b ∷ []) ≡ false = waits_after-push part b ∙ rw (w, no_esc) refl in
    let more = plain_joined (part ++ b ∷ []) bytes each.1 rests in
    let same : part ++ b ∷ bytes ≡ (part ++ b ∷ []) ++ bytes = sym (append_assoc part (b ∷ []) bytes) in (
      ap (λ l. unescaped l) same ∙ more.0 ∙ ap (λ l. l ++ bytes) one ∙ append_assoc (unescaped part) (b ∷ []) bytes,
      ap (λ l. waits_after l) same ∙ more.1,
    )
