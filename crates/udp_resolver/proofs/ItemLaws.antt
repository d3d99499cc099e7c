-- The events of further items.
use Rattle.udp_resolver.proofs.Prelude.{◌≡◌, ℕ, true, false, eqb, leb, if◌then◌else◌, List, [], ◌∷◌, ◌++◌, length, map, refl, sym, ap, ◌∙◌}
use Rattle.udp_resolver.proofs.Prelude.{arith, append-nil, append_assoc, flat_map, Item, Byte, Quiet, Frame, Datagram, Overlong, completed}
use Rattle.udp_resolver.proofs.Prelude.{frame_of, frames, open_part, unescaped, completed_reported, silences, Silence, by_frame, events}
use Rattle.udp_resolver.proofs.Prelude.{received_after, bytes_among}
use Rattle.udp_resolver.proofs.EventLaws.{silences-append}

pub events-append : (before : List ℕ) (xs ys : List Item)
    → received_after before (xs ++ ys) ≡ received_after before xs ++ received_after (before ++ bytes_among xs) ys
events-append before [] ys = ap (λ l. received_after l ys) (sym (append-nil before))
events-append before (Byte b ∷ xs) ys =
    let behind = before ++ b ∷ [] in
    ap (λ l. flat_map by_frame (completed before b) ++ l) (events-append behind xs ys)
    ∙ ap (λ l. flat_map by_frame (completed before b) ++ (received_after behind xs ++ received_after l ys)) (append_assoc before (b ∷ []) (bytes_among xs))
    ∙ sym (append_assoc (flat_map by_frame (completed before b)) (received_after behind xs) (received_after (before ++ b ∷ bytes_among xs) ys))
events-append before (Quiet ∷ xs) ys = ap (λ l. Silence ∷ l) (events-append before xs ys)

pub events_byte : (items : List Item) (b : ℕ) → events (items ++ Byte b ∷ []) ≡ events items ++ flat_map by_frame (completed (bytes_among items) b)
events_byte items b = events-append [] items (Byte b ∷ []) ∙ ap (λ l. events items ++ l) (append-nil (flat_map by_frame (completed (bytes_among items) b)))

-- what a decoder reports of a byte is what the byte brings
pub by_reported : (before : List ℕ) (b : ℕ) (reported : List Frame) → frames (before ++ b ∷ []) ≡ frames before ++ reported
    → flat_map by_frame reported ≡ flat_map by_frame (completed before b)
by_reported before b reported e = ap (λ l. flat_map by_frame l) (sym (completed_reported before (b ∷ []) reported e) ∙ append-nil (completed before b))

calm_frames : (bytes : List ℕ) → silences (flat_map by_frame (frame_of bytes)) ≡ 0
calm_frames [] = refl
calm_frames (b ∷ bytes) =
    elim (leb (length (b ∷ bytes)) 1500) as (λ v. silences (flat_map by_frame (if v then Datagram (b ∷ bytes) ∷ [] else Overlong ∷ []))
    ≡ 0) [ true ↦ refl | false ↦ refl ]

pub calm_byte : (before : List ℕ) (b : ℕ) → silences (flat_map by_frame (completed before b)) ≡ 0
calm_byte before b =
    elim (eqb b 192) as (λ v. silences (flat_map by_frame (if v then frame_of (unescaped (open_part before)) else [])) ≡ 0)
    [ true ↦ calm_frames (unescaped (open_part before)) | false ↦ refl ]

-- bytes are no silences
pub calm_bytes : (before bytes : List ℕ) → silences (received_after before (map Byte bytes)) ≡ 0
calm_bytes before [] = refl
calm_bytes before (b ∷ bytes) =
    omega (
      arith,
      silences-append (flat_map by_frame (completed before b)) (received_after (before ++ b ∷ []) (map Byte bytes)),
      calm_byte before b,
      calm_bytes (before ++ b ∷ []) bytes,
    )
