-- Worked rows, computed from the definitions.
use Rattle.uip_slip.proofs.Prelude.{◌≡◌, [], ◌∷◌, refl, Datagram, frames, slip_text}

-- an ESC before any other byte gives that byte
stray_escape : frames (192 ∷ 219 ∷ 65 ∷ 192 ∷ []) ≡ Datagram (65 ∷ []) ∷ []
stray_escape = refl

-- END and ESC of a datagram
both_escapes : frames (219 ∷ 220 ∷ 219 ∷ 221 ∷ 192 ∷ []) ≡ Datagram (192 ∷ 219 ∷ []) ∷ []
both_escapes = refl

-- an END always ends a frame, also after an ESC, which is dropped
escape_at_end : frames (219 ∷ 192 ∷ 220 ∷ 192 ∷ []) ≡ Datagram (220 ∷ []) ∷ []
escape_at_end = refl

-- what follows the last END is dropped, and empty parts are nothing
unfinished : frames (192 ∷ 192 ∷ 1 ∷ 192 ∷ 2 ∷ []) ≡ Datagram (1 ∷ []) ∷ []
unfinished = refl

text_row : slip_text (1 ∷ 192 ∷ 219 ∷ []) ≡ 192 ∷ 1 ∷ 219 ∷ 220 ∷ 219 ∷ 221 ∷ 192 ∷ []
text_row = refl
