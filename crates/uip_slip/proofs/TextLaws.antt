-- The text of a datagram in parts.
use Rattle.uip_slip.proofs.Prelude.{◌≡◌, ℕ, ◌+◌, ◌*◌, ◌-◌, ◌≤◌, ◌<◌, List, [], ◌∷◌, ◌++◌, take, drop, length, get_or, sym, ap, ◌∙◌}
use Rattle.uip_slip.proofs.Prelude.{append_assoc, append-nil, arith, true, false, cond, eqb, length-append, length-take, length-drop}
use Rattle.uip_slip.proofs.Prelude.{list_all, take_more, take-append-drop, flat_map-append, is_plain, escaped, escaped_byte, slip_text}
use Rattle.uip_slip.proofs.PlainLaws.{escaped-plain}

byte_bound : (b : ℕ) → length (escaped_byte b) ≤ 2
byte_bound b =
    elim (eqb b 192) as (λ v. length (cond v (219 ∷ 220 ∷ []) (cond (eqb b 219) (219 ∷ 221 ∷ []) (b ∷ []))) ≤ 2) [
      | true ↦ omega arith
      | false ↦ elim (eqb b 219) as (λ v. length (cond v (219 ∷ 221 ∷ []) (b ∷ [])) ≤ 2) [ true ↦ omega arith | false ↦ omega arith ]
    ]

pub escaped-bound : (bytes : List ℕ) → length (escaped bytes) ≤ 2 * length bytes
escaped-bound [] = omega arith
escaped-bound (b ∷ bytes) = omega (arith, byte_bound b, escaped-bound bytes, length-append (escaped_byte b) (escaped bytes))

-- a run of plain bytes goes out as it is
pub run_text : (old new piece : List ℕ) (n : ℕ) → list_all is_plain (take n piece) ≡ true → new ≡ old ++ take n piece → new ≡ old ++ escaped (take n piece)
run_text old new piece n plain e = e ∙ ap (λ l. old ++ l) (sym (escaped-plain (take n piece) plain))

-- one more byte
pub byte_text : (start text new piece : List ℕ) (n : ℕ) → n < length piece → text ≡ start ++ escaped (take n piece)
    → new ≡ text ++ escaped_byte (get_or piece n 0)
    → new ≡ start ++ escaped (take (n + 1) piece)
byte_text start text new piece n here made e =
    let byte = escaped_byte (get_or piece n 0) in
    let both : escaped (take (n + 1) piece) ≡ escaped (take n piece) ++ byte =
    ap (λ l. escaped l) (take_more piece n 0 here) ∙ flat_map-append escaped_byte (take n piece) (get_or piece n 0 ∷ [])
    ∙ ap (λ l. escaped (take n piece) ++ l) (append-nil byte) in
    e ∙ ap (λ l. l ++ byte) made ∙ append_assoc start (escaped (take n piece)) byte ∙ ap (λ l. start ++ l) (sym both)

-- text after the text of a prefix
pub escaped_then : (start text new prefix part : List ℕ) → text ≡ start ++ escaped prefix → new ≡ text ++ escaped part → new ≡ start ++ escaped (prefix ++ part)
escaped_then start text new prefix part made e =
    e ∙ ap (λ l. l ++ escaped part) made ∙ append_assoc start (escaped prefix) (escaped part)
    ∙ ap (λ l. start ++ l) (sym (flat_map-append escaped_byte prefix part))

-- what is left fits, if a run took its room
pub room_left : (old new rest : List ℕ) (n room : ℕ) → length old + 2 * length rest ≤ room → n ≤ length rest → new ≡ old ++ escaped (take n rest)
    → length new + 2 * length (take (length rest - n) (drop n rest)) ≤ room
room_left old new rest n room h within e =
    let size : length new ≡ length old + length (escaped (take n rest)) = ap (λ l. length l) e ∙ length-append old (escaped (take n rest)) in
    omega (arith, size, escaped-bound (take n rest), length-take n rest, length-take (length rest - n) (drop n rest), length-drop n rest)

-- text that was sent and text that is gathered
pub gathered : (sent text new prefix part : List ℕ) → sent ++ text ≡ 192 ∷ escaped prefix → new ≡ text ++ escaped part
    → sent ++ new ≡ 192 ∷ escaped (prefix ++ part)
gathered sent text new prefix part made e =
    ap (λ l. sent ++ l) e ∙ sym (append_assoc sent text (escaped part)) ∙ ap (λ l. l ++ escaped part) made
    ∙ ap (λ l. 192 ∷ l) (sym (flat_map-append escaped_byte prefix part))

-- the text of a datagram in two parts
pub text_parts : (datagram prefix part rest : List ℕ) → datagram ≡ (prefix ++ part) ++ rest
    → (192 ∷ escaped (prefix ++ part)) ++ (escaped rest ++ 192 ∷ []) ≡ slip_text datagram
text_parts datagram prefix part rest e =
    sym (append_assoc (192 ∷ escaped (prefix ++ part)) (escaped rest) (192 ∷ []))
    ∙ ap (λ l. (192 ∷ l) ++ 192 ∷ []) (sym (flat_map-append escaped_byte (prefix ++ part) rest) ∙ ap (λ l. escaped l) (sym e))

pub split_pieces : (datagram prefix rest part others : List ℕ) (n : ℕ) → datagram ≡ prefix ++ rest → part ≡ take n rest → others ≡ drop n rest
    → datagram ≡ (prefix ++ part) ++ others
split_pieces datagram prefix rest part others n e p o =
    e ∙ ap (λ l. prefix ++ l) (sym (take-append-drop n rest) ∙ ap (λ l. l ++ drop n rest) (sym p) ∙ ap (λ l. part ++ l) (sym o))
    ∙ sym (append_assoc prefix part others)

-- the whole text, with its last END
pub whole_text : (datagram sent text new full prefix rest : List ℕ) → sent ++ text ≡ 192 ∷ escaped prefix → new ≡ text ++ escaped rest
    → full ≡ new ++ 192 ∷ [] → datagram ≡ prefix ++ rest → sent ++ full ≡ slip_text datagram
whole_text datagram sent text new full prefix rest made e f pieces =
    ap (λ l. sent ++ l) f ∙ sym (append_assoc sent new (192 ∷ []))
    ∙ ap (λ l. l ++ 192 ∷ []) (gathered sent text new prefix rest made e ∙ ap (λ l. 192 ∷ escaped l) (sym pieces))
