-- The text of a datagram, and only it, is read back as that datagram.
use Rattle.uip_slip.proofs.Prelude.{◌≡◌, ℕ, ◌≤◌, ◌<◌, true, false, cond, eqb, List, [], ◌∷◌, ◌++◌, length, refl, sym, ap, ◌∙◌, arith}
use Rattle.uip_slip.proofs.Prelude.{le-leb, eqb-true, Datagram, unescaped, frame_of, parts, frames, open_part, escaped, escaped_byte}
use Rattle.uip_slip.proofs.Prelude.{slip_text}
use Rattle.uip_slip.proofs.PartLaws.{frames-end, frames-plain, open_part-plain}

plain_prefix : (b : ℕ) (rest : List ℕ) → eqb b 219 ≡ false → unescaped (b ∷ rest) ≡ b ∷ unescaped rest
plain_prefix b [] e = rw e refl
plain_prefix b (c ∷ rest) e = rw e refl

-- what comes before the rest of a part
prefix_byte : (b : ℕ) (rest : List ℕ) → unescaped (escaped_byte b ++ rest) ≡ b ∷ unescaped rest
prefix_byte b rest =
    elim (eqb b 192) as (λ v. eqb b 192 ≡ v → unescaped (cond v (219 ∷ 220 ∷ []) (cond (eqb b 219) (219 ∷ 221 ∷ []) (b ∷ [])) ++ rest) ≡ b ∷ unescaped rest) [
      | true ↦ λ e. ap (λ x. x ∷ unescaped rest) (sym (eqb-true b 192 e))
      | false ↦ λ _. elim (eqb b 219) as (λ v. eqb b 219 ≡ v → unescaped (cond v (219 ∷ 221 ∷ []) (b ∷ []) ++ rest) ≡ b ∷ unescaped rest) [
        | true ↦ λ e. ap (λ x. x ∷ unescaped rest) (sym (eqb-true b 219 e))
        | false ↦ λ e. plain_prefix b rest e
      ] refl
    ] refl

pub unescaped-escaped : (datagram : List ℕ) → unescaped (escaped datagram) ≡ datagram
unescaped-escaped [] = refl
unescaped-escaped (b ∷ datagram) = prefix_byte b (escaped datagram) ∙ ap (λ l. b ∷ l) (unescaped-escaped datagram)

parts_byte : (b : ℕ) (rest : List ℕ) → parts rest ≡ rest ∷ [] → parts (escaped_byte b ++ rest) ≡ (escaped_byte b ++ rest) ∷ []
parts_byte b rest e =
    elim (eqb b 192) as (λ v. eqb b 192 ≡ v → parts (cond v (219 ∷ 220 ∷ []) (cond (eqb b 219) (219 ∷ 221 ∷ []) (b ∷ [])) ++ rest)
    ≡ (cond v (219 ∷ 220 ∷ []) (cond (eqb b 219) (219 ∷ 221 ∷ []) (b ∷ [])) ++ rest) ∷ []) [
      | true ↦ λ _. rw e refl
      | false ↦ λ n. elim (eqb b 219) as (λ v. parts (cond v (219 ∷ 221 ∷ []) (b ∷ []) ++ rest) ≡ (cond v (219 ∷ 221 ∷ []) (b ∷ []) ++ rest) ∷ []) [
        | true ↦ rw e refl
        | false ↦ rw (n, e) refl
      ]
    ] refl

parts-escaped : (datagram : List ℕ) → parts (escaped datagram) ≡ escaped datagram ∷ []
parts-escaped [] = refl
parts-escaped (b ∷ datagram) = parts_byte b (escaped datagram) (parts-escaped datagram)

frame_of-some : (d : List ℕ) → 0 < length d → length d ≤ 1500 → frame_of d ≡ Datagram d ∷ []
frame_of-some [] some fits = absurd (omega arith)
frame_of-some (b ∷ d) some fits = (let e = le-leb (length (b ∷ d)) 1500 fits in rw e refl)

pub frames-text : (d : List ℕ) → 0 < length d → length d ≤ 1500 → frames (slip_text d) ≡ Datagram d ∷ []
frames-text d some fits =
    let e = escaped d in
    let prefix : frames (192 ∷ e) ≡ [] = frames-plain (192 ∷ []) e (parts-escaped d) in
    let open_is : open_part (192 ∷ e) ≡ e = open_part-plain (192 ∷ []) e (parts-escaped d) in
    frames-end (192 ∷ e) 192 refl ∙ ap (λ l. l ++ frame_of (unescaped (open_part (192 ∷ e)))) prefix
    ∙ ap (λ l. frame_of (unescaped l)) open_is ∙ ap (λ l. frame_of l) (unescaped-escaped d) ∙ frame_of-some d some fits
