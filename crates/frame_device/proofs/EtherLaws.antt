-- Frames of Ethernet: what brings them, and what they are beside those of a line.
use Rattle.frame_device.proofs.Prelude.{unanswered, reset_by, Verdict, Drop, Pass, Displace, Sockets, is_plain_syn, PlainSegment, has_rst}
use Rattle.frame_device.proofs.Prelude.{Arrived, connection_in, AbstractNode, MediumSpec, Rules, by_verdict, flat_map, guarded_ether}
use Rattle.frame_device.proofs.Prelude.{input_events, leaving, lensed, take-append_seam, ◌⊎◌, inl, inr, ◌≡◌, ℕ, ◌+◌, ◌<◌, ◌==◌, ◌&&◌, Bool}
use Rattle.frame_device.proofs.Prelude.{true, false, if◌then◌else◌, nat_lt, List, [], ◌∷◌, ◌++◌, Option, None, Some, drop, length, map}
use Rattle.frame_device.proofs.Prelude.{take, refl, sym, ap, ◌∙◌, subst, arith, append-nil, length-append, ◌||◌, ⊤, bytes_eq, AppSpec}
use Rattle.frame_device.proofs.Prelude.{address_at, word_at, word_bytes, written, Addr, choose, Event, reply_bytes, Reply, Periodic, step}
use Rattle.frame_device.proofs.Prelude.{MediumInput, Datagram, Overlong, Own, StationEvent, OfMedium, OfNode, Station, station_after}
use Rattle.frame_device.proofs.Prelude.{output, output_of_event, reply_text, ether_text, ether_medium, is_taken, writes_at, Host}
use Rattle.frame_device.proofs.Prelude.{arp_brings, arp_packet, broadcast, frame_brings, frame_with, framed, is_arp, is_arp_for}
use Rattle.frame_device.proofs.Prelude.{is_datagram, is_sendable, mac_at, no_mac, payload_brings, arp_reply, sender_of, wrapped_to}
use Rattle.frame_device.proofs.Prelude.{wrapped_via, Act, Asked, Pair, Replied, Ticked, known, IsSilent, as_medium, CallsSlot, DoesNothing}
use Rattle.frame_device.proofs.Prelude.{FrameCall, InputsFrame, station_events_by, SentAsOnLine, Interface, IsOneLink, Network, and_zero_r}
use Rattle.frame_device.proofs.Prelude.{bytes_eq-Decides, or_left, or_right, slice_index, ether_frames, hop_of, is_on_link, masked}
use Rattle.frame_device.proofs.Prelude.{next_hop, no_address, on_line}

-- what was written in front is read
pub prefix_of : (old part : List ℕ) → take (length part) (written old 0 part) ≡ part
prefix_of old part = take-append_seam part (drop (0 + length part) old)

-- a frame that teaches, or brings nothing
pub is_silent : (k : Interface) (cs : List (MediumInput Act)) → (cs ≡ []) ⊎ ((pair : Pair) × (cs ≡ Own (Replied pair) ∷ [])) → IsSilent (ether_frames k) cs
is_silent k cs (inl e) = inl e
is_silent k cs (inr p) = inr (Replied p.0, p.1, refl)

-- of a frame that brings a datagram that is the payload
abbrev IsPayload : List ℕ → List (MediumInput Act) → Type 0
IsPayload payload [] = ⊤
IsPayload payload (Datagram d ∷ cs) = d ≡ payload
IsPayload payload (Overlong ∷ cs) = ⊤
IsPayload payload (Own a ∷ cs) = ⊤

arp_is : (payload : List ℕ) (operation : ℕ) (sender : Pair) → IsPayload payload (arp_brings operation sender)
arp_is payload operation sender =
    choose (λ (l : List (MediumInput Act)). IsPayload payload l) (operation == 1) _ _ (λ e. tt)
    (λ e. choose (λ (l : List (MediumInput Act)). IsPayload payload l) (operation == 2) _ _ (λ f. tt) (λ f. tt))

payload_is : (k : Host) (kind : ℕ) (payload : List ℕ) → IsPayload payload (payload_brings k kind payload)
payload_is k kind payload =
    choose (λ (l : List (MediumInput Act)). IsPayload payload l) (is_datagram kind && nat_lt 0 (length payload)) _ _ (λ e. refl)
    (λ e. choose (λ (l : List (MediumInput Act)). IsPayload payload l) (is_arp kind && is_arp_for k.addr payload) _ _
    (λ f. arp_is payload (word_at payload 6) (sender_of payload)) (λ f. tt))

frame_is : (k : Host) (frame : List ℕ) → IsPayload (drop 14 frame) (frame_brings k frame)
frame_is k frame =
    choose (λ (l : List (MediumInput Act)). IsPayload (drop 14 frame) l) (bytes_eq (mac_at frame 0) k.mac || bytes_eq (mac_at frame 0) broadcast) _ _
    (λ e. payload_is k (word_at frame 12) (drop 14 frame)) (λ e. tt)

pub brings_payload : (k : Host) (frame d : List ℕ) → frame_brings k frame ≡ Datagram d ∷ [] → d ≡ drop 14 frame
brings_payload k frame d e = subst (λ (l : List (MediumInput Act)). IsPayload (drop 14 frame) l) e (frame_is k frame)

-- ---- one link

zero_mask : (addr mask : List ℕ) → mask ≡ no_address → masked addr mask ≡ no_address
zero_mask addr mask e =
    ap (λ m. masked addr m) e ∙ rw (
      and_zero_r (slice_index addr 0),
      and_zero_r (slice_index addr 1),
      and_zero_r (slice_index addr 2),
      and_zero_r (slice_index addr 3),
    )

on_one_link : (network : Network) (own target : List ℕ) → IsOneLink network → is_on_link network own target ≡ true
on_one_link network own target (inl e) =
    or_right (bytes_eq network.router.0 no_address) (bytes_eq (masked target network.mask.0) (masked own network.mask.0))
    ((bytes_eq-Decides _ _).1 (zero_mask target network.mask.0 e ∙ sym (zero_mask own network.mask.0 e)))
on_one_link network own target (inr e) =
    or_left (bytes_eq network.router.0 no_address) (bytes_eq (masked target network.mask.0) (masked own network.mask.0)) ((bytes_eq-Decides _ _).1 e)

one_link : (network : Network) (own target : List ℕ) → IsOneLink network → next_hop network own target ≡ target
one_link network own target one = ap (λ b. if b then target else network.router.0) (on_one_link network own target one)

-- ---- beside a line

some_on_line : (xs : List ℕ) → 0 < length xs → on_line xs ≡ framed xs
some_on_line [] some = absurd (omega (arith, some))
some_on_line (x ∷ xs) some = refl

module _ (k : Interface) where
  abbrev host : Host
  host = k.host

  frame_some : (to payload : List ℕ) (kind : ℕ) → 0 < length (frame_with to host.mac kind payload)
  frame_some to payload kind =
      omega (arith, length-append to host.mac, length-append (to ++ host.mac) (word_bytes kind), length-append (to ++ host.mac ++ word_bytes kind) payload)

  wrapped_some : (hop : List ℕ) (d : List ℕ) (o : Option (List ℕ)) → 0 < length (wrapped_to host hop o d)
  wrapped_some hop d None = frame_some broadcast (arp_packet 1 host.mac host.addr no_mac hop) 2054
  wrapped_some hop d (Some mac) = frame_some mac d 2048

  -- the text of a datagram with this next hop
  text_via : (acts : List Act) (d hop : List ℕ) → on_line (if is_sendable d then wrapped_via host acts hop d else [])
      ≡ (if is_sendable d then framed (wrapped_via host acts hop d) else [])
  text_via acts d hop =
      elim (is_sendable d) as (λ v. on_line (if v then wrapped_via host acts hop d else []) ≡ (if v then framed (wrapped_via host acts hop d) else [])) [
        | true ↦ some_on_line (wrapped_via host acts hop d) (wrapped_some hop d (known acts hop))
        | false ↦ refl
      ]

  module _ (one : IsOneLink k.network) where
    text_on_line : (acts : List Act) (d : List ℕ) → on_line ((ether_frames k).text acts d) ≡ ether_text host acts d
    text_on_line acts d =
        text_via acts d (hop_of k d) ∙ ap (λ hop. if is_sendable d then framed (wrapped_via host acts hop d) else [])
        (one_link k.network host.addr (address_at d 16) one)

    sends_on_line : (act : Act) → on_line ((ether_frames k).output_at act) ≡ writes_at host act
    sends_on_line (Asked pair) = some_on_line (arp_reply host pair) (frame_some pair.mac (arp_packet 2 host.mac host.addr pair.mac pair.addr) 2054)
    sends_on_line (Replied pair) = refl
    sends_on_line Ticked = refl

    module _ (rules : Rules) (m : AppSpec) (served : ℕ → Bool) (own : Addr) where
      abbrev frames : MediumSpec Act
      frames = lensed rules.key (as_medium (ether_frames k))

      abbrev line : MediumSpec Act
      line = lensed rules.key (ether_medium host)

      reply_on_line : (acts : List Act) (o : Option Reply) → on_line (reply_text frames acts own o) ≡ reply_text line acts own o
      reply_on_line acts None = refl
      reply_on_line acts (Some reply) = text_on_line acts (leaving rules.key (reply_bytes own reply))

      station_event_on_line : (d : StationEvent Act) (s : Station Act) → on_line (output_of_event m served frames own s d) ≡ output_of_event
          m served line own s d
      station_event_on_line (OfMedium act) s = sends_on_line act
      station_event_on_line (OfNode e) s = reply_on_line s.acts (step m served s.node e).sent

      one_on_line : (d : StationEvent Act) (s : Station Act) → on_line (output m served frames own (d ∷ []) s) ≡ output m served line own (d ∷ []) s
      one_on_line d s =
          ap (λ l. on_line l) (append-nil (output_of_event m served frames own s d)) ∙ station_event_on_line d s
          ∙ sym (append-nil (output_of_event m served line own s d))

      abbrev IsOnLine : Station Act → List (StationEvent Act) → Type 0
      IsOnLine s station_events = on_line (output m served frames own station_events s) ≡ output m served line own station_events s

      -- the RST of a connection that is given up is not answered
      quiet_on_line : (p : Sockets) (r : PlainSegment) (e : Event) (s : Station Act) → is_plain_syn r ≡ false → has_rst r.flags ≡ true
          → IsOnLine s (OfNode (Arrived p r) ∷ OfNode e ∷ [])
      quiet_on_line p r e s plain rst =
          let next : Station Act = station_after m served s (OfNode (Arrived p r)) in
          let none : (step m served s.node (Arrived p r)).sent ≡ None = unanswered m served s.node p r plain rst in
          subst (λ (o : Option Reply). on_line (reply_text frames s.acts own o ++ output m served frames own (OfNode e ∷ []) next)
          ≡ reply_text line s.acts own o ++ output m served line own (OfNode e ∷ []) next)
          (sym none) (one_on_line (OfNode e) next)

      verdict_on_line : (n : AbstractNode) (e : Event) (v : Verdict) (s : Station Act) → IsOnLine s (map OfNode (by_verdict n e v) ++ [])
      verdict_on_line n e Drop s = refl
      verdict_on_line n e Pass s = one_on_line (OfNode e) s
      verdict_on_line n e (Displace slot) s = quiet_on_line (connection_in slot n).sockets (reset_by (connection_in slot n)) e s refl refl

      abbrev CameOnLine : Station Act → List (MediumInput Act) → Type 0
      CameOnLine s cs = IsOnLine s (flat_map (input_events rules served s.node) cs)

      arp_on_line : (s : Station Act) (operation : ℕ) (sender : Pair) → CameOnLine s (arp_brings operation sender)
      arp_on_line s operation sender =
          choose (λ (l : List (MediumInput Act)). CameOnLine s l) (operation == 1) _ _ (λ e. one_on_line (OfMedium (Asked sender)) s)
          (λ e. choose (λ (l : List (MediumInput Act)). CameOnLine s l) (operation == 2) _ _ (λ f. one_on_line (OfMedium (Replied sender)) s) (λ f. refl))

      payload_on_line : (s : Station Act) (kind : ℕ) (payload : List ℕ) → CameOnLine s (payload_brings host kind payload)
      payload_on_line s kind payload =
          choose (λ (l : List (MediumInput Act)). CameOnLine s l) (is_datagram kind && nat_lt 0 (length payload)) _ _ (λ e. verdict_on_line s.node _ _ s)
          (λ e. choose (λ (l : List (MediumInput Act)). CameOnLine s l) (is_arp kind && is_arp_for host.addr payload) _ _
          (λ f. arp_on_line s (word_at payload 6) (sender_of payload)) (λ f. refl))

      frame_on_line : (s : Station Act) (frame : List ℕ) → CameOnLine s (frame_brings host frame)
      frame_on_line s frame =
          choose (λ (l : List (MediumInput Act)). CameOnLine s l) (bytes_eq (mac_at frame 0) host.mac || bytes_eq (mac_at frame 0) broadcast) _ _
          (λ e. payload_on_line s (word_at frame 12) (drop 14 frame)) (λ e. refl)

      call_on_line : (call : FrameCall) (s : Station Act) → IsOnLine s (station_events_by (guarded_ether k rules) served s.node call)
      call_on_line (InputsFrame frame) s = choose (λ (l : List (MediumInput Act)). CameOnLine s l) (is_taken frame) _ _ (λ e. frame_on_line s frame) (λ e. refl)
      call_on_line (CallsSlot slot) s =
          choose (λ (acts : List Act). IsOnLine s (map OfMedium acts ++ OfNode (Periodic slot) ∷ [])) (slot == 0) (Ticked ∷ []) []
          (λ e. one_on_line (OfNode (Periodic slot)) (station_after m served s (OfMedium Ticked))) (λ e. one_on_line (OfNode (Periodic slot)) s)
      call_on_line DoesNothing s = refl

pub as_on_line : SentAsOnLine
as_on_line m served k rules own call s one = call_on_line k one rules m served own call s
