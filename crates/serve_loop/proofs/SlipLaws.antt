-- What bytes decode to over a serial line.
use Rattle.serve_loop.proofs.Prelude.{◌≡◌, ℕ, List, [], ◌∷◌, ◌++◌, map, refl, sym, ap, ◌∙◌, map-append, Frame, completed, frames}
use Rattle.serve_loop.proofs.Prelude.{completed_by, completed_reported, came_by, slip_medium, all_decoded}

-- bytes bring the frames that they complete
brought_is : (before bytes : List ℕ) → all_decoded slip_medium before bytes ≡ map came_by (completed_by before bytes)
brought_is before [] = refl
brought_is before (b ∷ rest) =
    ap (λ l. map came_by (completed before b) ++ l) (brought_is (before ++ b ∷ []) rest)
    ∙ sym (map-append came_by (completed before b) (completed_by (before ++ b ∷ []) rest))

-- what a decoder reports of more bytes is what they bring
pub brought_reported : (before bytes : List ℕ) (reported : List Frame) → frames (before ++ bytes) ≡ frames before ++ reported
    → all_decoded slip_medium before bytes ≡ map came_by reported
brought_reported before bytes reported e = brought_is before bytes ∙ ap (λ l. map came_by l) (completed_reported before bytes reported e)
