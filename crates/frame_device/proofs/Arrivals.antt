-- What holds of the events of a call at a guarded node, if it holds of those of its datagram.
use Rattle.frame_device.proofs.Prelude.{AbstractNode, All, All-cons, All-nil, ◌≡◌, ℕ, ◌==◌, ◌&&◌, ◌||◌, ◌∙◌, Bool, List, [], append-nil}
use Rattle.frame_device.proofs.Prelude.{drop, flat_map, guarded, guarded_ether, input_events, length, nat_lt, sym, subst, choose, bytes_eq}
use Rattle.frame_device.proofs.Prelude.{word_at, Event, Periodic, MediumInput, Rules, events_among, Act, Pair, arp_brings, broadcast}
use Rattle.frame_device.proofs.Prelude.{frame_brings, is_arp, is_arp_for, is_datagram, is_taken, mac_at, payload_brings, sender_of}
use Rattle.frame_device.proofs.Prelude.{acts_before, CallsSlot, InputsFrame, Interface, ether_frames, station_events_by}
use Rattle.frame_device.proofs.KeepLaws.{among_nodes}
use Rattle.frame_device.proofs.ProgramLaws.{periodic_events}
use Rattle.std.proofs.lemmas.Bool.{and_parts, eqb-true}

module _ (k : Interface) (rules : Rules) (served : ℕ → Bool) (n : AbstractNode) (P : Event → Type 0) where
  abbrev Of : List (MediumInput Act) → Type 0
  Of cs = All P (events_among (flat_map (input_events rules served n) cs))

  arp_each : (operation : ℕ) (sender : Pair) → Of (arp_brings operation sender)
  arp_each operation sender =
      choose (λ (l : List (MediumInput Act)). Of l) (operation == 1) _ _ (λ e. All-nil P)
      (λ e. choose (λ (l : List (MediumInput Act)). Of l) (operation == 2) _ _ (λ f. All-nil P) (λ f. All-nil P))

  payload_each : (kind : ℕ) (payload : List ℕ) → (kind ≡ 2048 → All P (guarded rules served n payload)) → Of (payload_brings k.host kind payload)
  payload_each kind payload h =
      choose (λ (l : List (MediumInput Act)). Of l) (is_datagram kind && nat_lt 0 (length payload)) _ _
      (λ e. subst (λ (events : List Event). All P events)
      (sym (among_nodes {C = Act} (guarded rules served n payload) [] ∙ append-nil (guarded rules served n payload)))
      (h (eqb-true kind 2048 (and_parts (is_datagram kind) (nat_lt 0 (length payload)) e).0)))
      (λ e. choose (λ (l : List (MediumInput Act)). Of l) (is_arp kind && is_arp_for k.host.addr payload) _ _
      (λ f. arp_each (word_at payload 6) (sender_of payload)) (λ f. All-nil P))

  whole_each : (frame : List ℕ) → (word_at frame 12 ≡ 2048 → All P (guarded rules served n (drop 14 frame))) → Of (frame_brings k.host frame)
  whole_each frame h =
      choose (λ (l : List (MediumInput Act)). Of l) (bytes_eq (mac_at frame 0) k.host.mac || bytes_eq (mac_at frame 0) broadcast) _ _
      (λ e. payload_each (word_at frame 12) (drop 14 frame) h) (λ e. All-nil P)

  -- of a received frame
  pub frame_each : (frame : List ℕ) → (word_at frame 12 ≡ 2048 → All P (guarded rules served n (drop 14 frame)))
      → All P (events_among (station_events_by (guarded_ether k rules) served n (InputsFrame frame)))
  frame_each frame h = choose (λ (l : List (MediumInput Act)). Of l) (is_taken frame) _ _ (λ e. whole_each frame h) (λ e. All-nil P)

  -- of the call of a slot
  pub slot_each : (slot : ℕ) → P (Periodic slot) → All P (events_among (station_events_by (guarded_ether k rules) served n (CallsSlot slot)))
  slot_each slot h =
      subst (λ (events : List Event). All P events) (sym (periodic_events (acts_before (ether_frames k) slot) slot))
      (All-cons P (Periodic slot) [] h (All-nil P))
