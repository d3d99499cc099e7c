-- A datagram's text in pieces.
use Rattle.uip_device.proofs.Prelude.{◌≡◌, ℕ, ◌≤◌, List, [], ◌∷◌, ◌++◌, length, take, sym, ap, ◌∙◌, append_assoc, arith, length-append}
use Rattle.uip_device.proofs.Prelude.{true, Option, length-take-le, flat_map-append, false≢true, is_some, append-nil, Addr, Buffer}
use Rattle.uip_device.proofs.Prelude.{datagram_in, escaped, escaped_byte, slip_text, IsSentOver, Key, Reply, leaving, rest_text, text_sent}
use Rattle.uip_device.proofs.Prelude.{wire_text}

-- a prefix is put, and its text is no longer pending
pub prefix_put : (before made rest prefix after : List ℕ) → made ≡ before ++ escaped prefix → rest ≡ prefix ++ after
    → made ++ rest_text after ≡ before ++ rest_text rest
prefix_put before made rest prefix after put parts =
    let marks = 192 ∷ [] in
    ap (λ l. l ++ rest_text after) put
    ∙ append_assoc before (escaped prefix) (rest_text after)
    ∙ ap (λ l. before ++ l) (sym (append_assoc (escaped prefix) (escaped after) marks) ∙ ap (λ l. l ++ marks) (sym (flat_map-append escaped_byte prefix after)))
    ∙ ap (λ l. before ++ rest_text l) (sym parts)

-- a prefix that contains another is no shorter
pub longer : (xs ys more : List ℕ) (n k : ℕ) → n ≤ length xs → k ≤ length ys → take k ys ≡ take n xs ++ more → n ≤ k
longer xs ys more n k here there e =
    omega (arith, length-take-le n xs here, length-take-le k ys there, ap (λ l. length l) e, length-append (take n xs) more)

-- the text of what was sent
pub sent_text : (key : Option Key) (own : Addr) (replies : List Reply) (sent : Option ℕ) (packet : Buffer) (text : List ℕ) → is_some sent ≡ true
    → text ≡ 192 ∷ rest_text (datagram_in packet) → IsSentOver (leaving key) own replies sent packet → text ≡ text_sent key own replies
sent_text key own [] sent packet text some e none = absurd (false≢true (sym (ap (λ o. is_some o) none) ∙ some))
sent_text key own (reply ∷ []) sent packet text some e is = e ∙ ap (λ d. slip_text d) is.datagram ∙ sym (append-nil (wire_text key own reply))
sent_text key own (reply ∷ other ∷ more) sent packet text some e is = absurd is
