-- What bytes bring without a pace.
use Rattle.uip_device.proofs.Prelude.{◌≡◌, ℕ, List, [], ◌∷◌, ◌++◌, map, refl, sym, ap, ◌∙◌, append-nil, map-append, Byte, Frame, completed}
use Rattle.uip_device.proofs.Prelude.{frames, completed_by, completed_reported, arrival_of, arrivals_after}

-- bytes bring the frames that they complete
completed_arrivals : (before bytes : List ℕ) → arrivals_after 0 before (map Byte bytes) ≡ map arrival_of (completed_by before bytes)
completed_arrivals before [] = refl
completed_arrivals before (b ∷ bytes) =
    let behind = before ++ b ∷ [] in
    ap (λ l. l ++ arrivals_after 0 behind (map Byte bytes)) (append-nil (map arrival_of (completed before b)))
    ∙ ap (λ l. map arrival_of (completed before b) ++ l) (completed_arrivals behind bytes)
    ∙ sym (map-append arrival_of (completed before b) (completed_by behind bytes))

-- what a decoder reports of more bytes is what they bring to the node
pub reported_arrivals : (before bytes : List ℕ) (reported : List Frame) → frames (before ++ bytes) ≡ frames before ++ reported
    → arrivals_after 0 before (map Byte bytes) ≡ map arrival_of reported
reported_arrivals before bytes reported e = completed_arrivals before bytes ∙ ap (λ l. map arrival_of l) (completed_reported before bytes reported e)
