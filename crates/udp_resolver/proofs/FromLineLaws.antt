-- The events of a line are its datagrams and its silences.
use Rattle.udp_resolver.proofs.Prelude.{◌≡◌, ℕ, List, [], ◌∷◌, ◌++◌, refl, sym, ap, ◌∙◌, arith, append-nil, append_assoc, flat_map-append}
use Rattle.udp_resolver.proofs.Prelude.{flat_map, bytes_among, Item, Byte, Quiet, Frame, Datagram, Overlong, completed, frames, frames-byte}
use Rattle.udp_resolver.proofs.Prelude.{silences, EventsAreOfLine, came_in, carried_by, silent_items, LineEvent, MediumInput, Silence}
use Rattle.udp_resolver.proofs.Prelude.{by_frame, received_after}
use Rattle.udp_resolver.proofs.EventLaws.{silences-append}
use Rattle.udp_resolver.proofs.ItemLaws.{calm_byte}

received-append : (xs ys : List LineEvent) → came_in (xs ++ ys) ≡ came_in xs ++ came_in ys
received-append [] ys = refl
received-append (MediumInput datagram ∷ xs) ys = ap (λ (l : List (List ℕ)). datagram ∷ l) (received-append xs ys)
received-append (Silence ∷ xs) ys = received-append xs ys

of_frames : (fs : List Frame) → came_in (flat_map by_frame fs) ≡ flat_map carried_by fs
of_frames [] = refl
of_frames (Datagram bytes ∷ fs) = ap (λ (l : List (List ℕ)). bytes ∷ l) (of_frames fs)
of_frames (Overlong ∷ fs) = of_frames fs

-- the datagrams of bytes
abbrev carried : List ℕ → List (List ℕ)
carried bytes = flat_map carried_by (frames bytes)

one_byte : (before : List ℕ) (b : ℕ) → carried (before ++ b ∷ []) ≡ carried before ++ flat_map carried_by (completed before b)
one_byte before b = ap (λ (fs : List Frame). flat_map carried_by fs) (frames-byte before b) ∙ flat_map-append carried_by (frames before) (completed before b)

datagrams_after : (before : List ℕ) (items : List Item) → carried before ++ came_in (received_after before items) ≡ carried (before ++ bytes_among items)
datagrams_after before [] = append-nil (carried before) ∙ ap (λ (l : List ℕ). carried l) (sym (append-nil before))
datagrams_after before (Byte b ∷ items) =
    ap (λ (l : List (List ℕ)). carried before ++ l)
    (received-append (flat_map by_frame (completed before b)) (received_after (before ++ b ∷ []) items)
    ∙ ap (λ (l : List (List ℕ)). l ++ came_in (received_after (before ++ b ∷ []) items)) (of_frames (completed before b)))
    ∙ sym (append_assoc (carried before) (flat_map carried_by (completed before b)) (came_in (received_after (before ++ b ∷ []) items)))
    ∙ ap (λ (l : List (List ℕ)). l ++ came_in (received_after (before ++ b ∷ []) items)) (sym (one_byte before b))
    ∙ datagrams_after (before ++ b ∷ []) items
    ∙ ap (λ (l : List ℕ). carried l) (append_assoc before (b ∷ []) (bytes_among items))
datagrams_after before (Quiet ∷ items) = datagrams_after before items

silent_after : (before : List ℕ) (items : List Item) → silences (received_after before items) ≡ silent_items items
silent_after before [] = refl
silent_after before (Byte b ∷ items) =
    omega (
      arith,
      silences-append (flat_map by_frame (completed before b)) (received_after (before ++ b ∷ []) items),
      calm_byte before b,
      silent_after (before ++ b ∷ []) items,
    )
silent_after before (Quiet ∷ items) = omega (arith, silent_after before items)

pub events_are_of_line : EventsAreOfLine
events_are_of_line = record { datagrams = λ items. datagrams_after [] items; silent = λ items. silent_after [] items }
