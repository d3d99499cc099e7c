-- Pieces that are received in turn.
use Rattle.std.specs.List.{concat, fold}
use Rattle.std.proofs.Common.{◌≡◌, ℕ, List, [], ◌∷◌, ◌++◌, refl, sym, ap, ◌∙◌, append_assoc, append-nil}
use Rattle.protosocket.specs.Prelude.{Line, after, fresh, ReceivesInPieces, receives_joined}

in_turn : (line : Line) (piece : List ℕ) (pieces : List (List ℕ)) → fold after (after line piece) pieces ≡ after line (piece ++ concat pieces)
in_turn line piece [] = ap (λ bytes. after line bytes) (sym (append-nil piece))
in_turn line piece (next ∷ pieces) =
    ap (λ l. fold after l pieces) (sym ((receives_joined line piece next).0))
    ∙ in_turn line (piece ++ next) pieces
    ∙ ap (λ bytes. after line bytes) (append_assoc piece next (concat pieces))

pub receives_in_pieces : ReceivesInPieces
receives_in_pieces stops [] = refl
receives_in_pieces stops (piece ∷ pieces) = in_turn (fresh stops) piece pieces
