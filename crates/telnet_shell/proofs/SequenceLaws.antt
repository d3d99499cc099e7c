-- The table of the protocol's sequences.
use Rattle.telnet_shell.proofs.Prelude.{◌≡◌, ℕ, ◌<◌, ◌&&◌, ◌++◌, Bool, nat_le, List, [], ◌∷◌, refl, ap, ◌∙◌, arith, if◌then◌else◌, ne_eqb}
use Rattle.telnet_shell.proofs.Prelude.{lt-leb, tokens, Text, Second, Choice, Byte, ReadsSequences}

-- after 255, a byte that is neither 255 nor a verb
plain_second : (x : ℕ) (rest : List ℕ) → x < 251 → tokens Second (x ∷ rest) ≡ tokens Text rest
plain_second x rest h =
    ap (λ (b : Bool). (if b then Byte 255 ∷ [] else []) ++ tokens (if nat_le 251 x && nat_le x 254 then Choice x else Text) rest)
    (ne_eqb x 255 (λ e. omega (arith, h, e)))
    ∙ ap (λ (b : Bool). tokens (if b && nat_le x 254 then Choice x else Text) rest) (lt-leb 251 x h)

plain_byte : (x : ℕ) (rest : List ℕ) → x < 255 → tokens Text (x ∷ rest) ≡ Byte x ∷ tokens Text rest
plain_byte x rest h =
    ap (λ (b : Bool). (if b then [] else Byte x ∷ []) ++ tokens (if b then Second else Text) rest) (ne_eqb x 255 (λ e. omega (arith, h, e)))

pub reads_sequences : ReadsSequences
reads_sequences = record {
  doubled = λ rest. refl;
  offered = λ x rest. refl;
  asked = λ x rest. refl;
  refused = λ x rest. refl;
  forbidden = λ x rest. refl;
  other = λ x rest h. plain_second x rest h;
  plain = plain_byte;
}
