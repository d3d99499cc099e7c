-- The frames that bytes complete, one byte after the other.
use Rattle.uip_slip.proofs.Prelude.{◌≡◌, ℕ, true, false, List, [], ◌∷◌, ◌++◌, if◌then◌else◌, eqb, refl, sym, ap, ◌∙◌, append-nil}
use Rattle.uip_slip.proofs.Prelude.{append_assoc, Frame, completed, frame_of, frames, open_part, unescaped}
use Rattle.uip_slip.proofs.PartLaws.{frames-end, frames-plain, parts-byte}

-- the frames that bytes complete after others
abbrev pub completed_by : List ℕ → List ℕ → List Frame
completed_by before [] = []
completed_by before (b ∷ bytes) = completed before b ++ completed_by (before ++ b ∷ []) bytes

pub frames-byte : (before : List ℕ) (b : ℕ) → frames (before ++ b ∷ []) ≡ frames before ++ completed before b
frames-byte before b =
    elim (eqb b 192) as (λ v. eqb b 192 ≡ v → frames (before ++ b ∷ []) ≡ frames before ++ (if v then frame_of (unescaped (open_part before)) else [])) [
      | true ↦ λ e. frames-end before b e
      | false ↦ λ e. frames-plain before (b ∷ []) (parts-byte b e)
    ] refl

pub frames-then : (before bytes : List ℕ) → frames (before ++ bytes) ≡ frames before ++ completed_by before bytes
frames-then before [] = ap (λ l. frames l) (append-nil before) ∙ sym (append-nil (frames before))
frames-then before (b ∷ bytes) =
    ap (λ l. frames l) (sym (append_assoc before (b ∷ []) bytes))
    ∙ frames-then (before ++ b ∷ []) bytes
    ∙ ap (λ l. l ++ completed_by (before ++ b ∷ []) bytes) (frames-byte before b)
    ∙ append_assoc (frames before) (completed before b) (completed_by (before ++ b ∷ []) bytes)

same_rest : (xs ys zs : List Frame) → xs ++ ys ≡ xs ++ zs → ys ≡ zs
same_rest [] ys zs e = e
same_rest (x ∷ xs) ys zs e = same_rest xs ys zs cc

-- what a decoder reports of more bytes are the frames that they complete
pub completed_reported : (before bytes : List ℕ) (reported : List Frame) → frames (before ++ bytes) ≡ frames before ++ reported
    → completed_by before bytes ≡ reported
completed_reported before bytes reported e = same_rest (frames before) (completed_by before bytes) reported (sym (frames-then before bytes) ∙ e)
