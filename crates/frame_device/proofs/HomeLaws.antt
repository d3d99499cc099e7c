-- Over Ethernet each frame with a datagram goes to the hardware address that its next hop taught last.
use Rattle.frame_device.proofs.Prelude.{unanswered, reset_by, Verdict, Drop, Pass, Displace, Sockets, is_plain_syn, PlainSegment, has_rst}
use Rattle.frame_device.proofs.Prelude.{Arrived, connection_in, AbstractNode, Key, MediumSpec, Rules, by_verdict, flat_map, guarded_ether}
use Rattle.frame_device.proofs.Prelude.{input_events, leaving, lensed, ◌≡◌, ℕ, ◌&&◌, ◌||◌, ◌==◌, Bool, false, true, nat_lt, List, [], ◌∷◌}
use Rattle.frame_device.proofs.Prelude.{◌++◌, Option, None, Some, length, drop, map, refl, sym, ap, ◌∙◌, subst, append-nil, bytes_eq}
use Rattle.frame_device.proofs.Prelude.{AppSpec, word_at, Addr, reply_bytes, Event, Reply, step, MediumInput, StationEvent, OfMedium}
use Rattle.frame_device.proofs.Prelude.{OfNode, Station, station_after, output, reply_text, is_taken, Host, arp_brings, arp_packet}
use Rattle.frame_device.proofs.Prelude.{broadcast, frame_brings, frame_with, is_arp, is_arp_for, is_datagram, is_sendable, mac_at, no_mac}
use Rattle.frame_device.proofs.Prelude.{payload_brings, sender_of, Act, Asked, Replied, Ticked, known, last_learning, AllSound, IsActSound}
use Rattle.frame_device.proofs.Prelude.{kind_of, known_last, last_six, payload_of, sound_more, to_of, choose, Periodic, station_after_all}
use Rattle.frame_device.proofs.Prelude.{wrapped_to, wrapped_via, Interface, hop_of, as_medium, CallsSlot, DoesNothing, FrameCall, FrameMove}
use Rattle.frame_device.proofs.Prelude.{Gives, InputsFrame, Makes, Writing, station_after_move, station_events_by, initial_station, AllHome}
use Rattle.frame_device.proofs.Prelude.{FramesGoHome, IsHome, ether_frames}

-- ---- frames that are sent

not_arp : (n : ℕ) → n ≡ 2054 → is_datagram n ≡ true → ⊥
not_arp n e t = cc (sym (ap (λ x. is_datagram x) e) ∙ t)

module _ (k : Interface) (mac6 : length k.host.mac ≡ 6) where
  abbrev host : Host
  host = k.host

  arp_home : (acts : List Act) (to packet : List ℕ) → length to ≡ 6 → IsHome k acts (frame_with to host.mac 2054 packet)
  arp_home acts to packet six6 t = absurd (not_arp _ (kind_of to host.mac packet 2054 six6 mac6) t)

  datagram_home : (acts : List Act) (d mac : List ℕ) → AllSound acts → known acts (hop_of k d) ≡ Some mac → IsHome k acts (frame_with mac host.mac 2048 d)
  datagram_home acts d mac sound e t =
      let it = known_last (last_learning (hop_of k d) acts) mac e in
      let six6 : length mac ≡ 6 = ap (λ l. length l) (sym it.2) ∙ last_six (hop_of k d) acts it.0 sound it.1 in
      ap (λ l. known acts (hop_of k l)) (payload_of mac host.mac d 2048 six6 mac6)
      ∙ e ∙ ap (λ (l : List ℕ). Some l) (sym (to_of mac host.mac d 2048 six6 mac6))

  nothing_home : (acts : List Act) → IsHome k acts []
  nothing_home acts t = absurd (cc t)

  wrapped_home : (acts : List Act) (d : List ℕ) (o : Option (List ℕ)) → AllSound acts → known acts (hop_of k d) ≡ o
      → IsHome k acts (wrapped_to host (hop_of k d) o d)
  wrapped_home acts d None sound e = arp_home acts broadcast (arp_packet 1 host.mac host.addr no_mac (hop_of k d)) refl
  wrapped_home acts d (Some mac) sound e = datagram_home acts d mac sound e

  text_home : (acts : List Act) (d : List ℕ) → AllSound acts → IsHome k acts ((ether_frames k).text acts d)
  text_home acts d sound =
      choose (λ (l : List ℕ). IsHome k acts l) (is_sendable d) (wrapped_via host acts (hop_of k d) d) []
      (λ e. wrapped_home acts d (known acts (hop_of k d)) sound refl) (λ e. nothing_home acts)

  reply_home : (key : Option Key) (acts : List Act) (own : Addr) (o : Option Reply) → AllSound acts
      → IsHome k acts (reply_text (lensed key (as_medium (ether_frames k))) acts own o)
  reply_home key acts own None sound = nothing_home acts
  reply_home key acts own (Some reply) sound = text_home acts (leaving key (reply_bytes own reply)) sound

  act_home : (acts : List Act) (a : Act) → IsActSound a → IsHome k acts ((ether_frames k).output_at a)
  act_home acts (Asked pair) h = arp_home acts pair.mac (arp_packet 2 host.mac host.addr pair.mac pair.addr) h.1
  act_home acts (Replied pair) h = nothing_home acts
  act_home acts Ticked h = nothing_home acts

  module _ (rules : Rules) (m : AppSpec) (served : ℕ → Bool) (own : Addr) where
    abbrev medium : MediumSpec Act
    medium = lensed rules.key (as_medium (ether_frames k))

    abbrev IsHomeBy : Station Act → List (StationEvent Act) → Type 0
    IsHomeBy s station_events =
        AllSound (station_after_all m served station_events s).acts × IsHome k (station_after_all m served station_events s).acts
        (output m served medium own station_events s)

    none_home : (s : Station Act) → AllSound s.acts → IsHomeBy s []
    none_home s sound = (sound, nothing_home s.acts)

    event_home : (e : Event) (s : Station Act) → AllSound s.acts → IsHomeBy s (OfNode e ∷ [])
    event_home e s sound = (
      sound,
      subst (λ (l : List ℕ). IsHome k s.acts l) (sym (append-nil (reply_text medium s.acts own (step m served s.node e).sent)))
          (reply_home rules.key s.acts own (step m served s.node e).sent sound),
    )

    -- the RST of a connection that is given up is not answered
    quiet_home : (p : Sockets) (r : PlainSegment) (e : Event) (s : Station Act) → is_plain_syn r ≡ false → has_rst r.flags ≡ true
        → AllSound s.acts → IsHomeBy s (OfNode (Arrived p r) ∷ OfNode e ∷ [])
    quiet_home p r e s plain rst sound =
        let next : Station Act = station_after m served s (OfNode (Arrived p r)) in
        let none : (step m served s.node (Arrived p r)).sent ≡ None = unanswered m served s.node p r plain rst in (
          sound,
          subst (λ (o : Option Reply). IsHome k s.acts (reply_text medium s.acts own o ++ output m served medium own (OfNode e ∷ []) next))
              (sym none) (event_home e next sound).1,
        )

    verdict_home : (n : AbstractNode) (e : Event) (v : Verdict) (s : Station Act) → AllSound s.acts → IsHomeBy s (map OfNode (by_verdict n e v) ++ [])
    verdict_home n e Drop s sound = none_home s sound
    verdict_home n e Pass s sound = event_home e s sound
    verdict_home n e (Displace slot) s sound = quiet_home (connection_in slot n).sockets (reset_by (connection_in slot n)) e s refl refl sound

    does_home : (a : Act) (s : Station Act) → IsActSound a → AllSound s.acts → IsHomeBy s (OfMedium a ∷ [])
    does_home a s h sound = (
      sound_more s.acts a sound h,
      subst (λ (l : List ℕ). IsHome k (s.acts ++ a ∷ []) l) (sym (append-nil ((ether_frames k).output_at a))) (act_home (s.acts ++ a ∷ []) a h),
    )

    abbrev CameHome : Station Act → List (MediumInput Act) → Type 0
    CameHome s cs = IsHomeBy s (flat_map (input_events rules served s.node) cs)

    packet_home : (s : Station Act) (payload : List ℕ) → AllSound s.acts → CameHome s (arp_brings (word_at payload 6) (sender_of payload))
    packet_home s payload sound =
        choose (λ (l : List (MediumInput Act)). CameHome s l) (word_at payload 6 == 1) _ _ (λ e. does_home (Asked (sender_of payload)) s (refl, refl) sound)
        (λ e. choose (λ (l : List (MediumInput Act)). CameHome s l) (word_at payload 6 == 2) _ _
        (λ f. does_home (Replied (sender_of payload)) s (refl, refl) sound) (λ f. none_home s sound))

    payload_home : (s : Station Act) (kind : ℕ) (payload : List ℕ) → AllSound s.acts → CameHome s (payload_brings host kind payload)
    payload_home s kind payload sound =
        choose (λ (l : List (MediumInput Act)). CameHome s l) (is_datagram kind && nat_lt 0 (length payload)) _ _ (λ e. verdict_home s.node _ _ s sound)
        (λ e. choose (λ (l : List (MediumInput Act)). CameHome s l) (is_arp kind && is_arp_for host.addr payload) _ _
        (λ f. packet_home s payload sound) (λ f. none_home s sound))

    frame_home : (s : Station Act) (frame : List ℕ) → AllSound s.acts → CameHome s (frame_brings host frame)
    frame_home s frame sound =
        choose (λ (l : List (MediumInput Act)). CameHome s l) (bytes_eq (mac_at frame 0) host.mac || bytes_eq (mac_at frame 0) broadcast) _ _
        (λ e. payload_home s (word_at frame 12) (drop 14 frame) sound) (λ e. none_home s sound)

    pub call_home : (call : FrameCall) (s : Station Act) → AllSound s.acts → IsHomeBy s (station_events_by (guarded_ether k rules) served s.node call)
    call_home (InputsFrame frame) s sound = choose (λ (l : List (MediumInput Act)). CameHome s l) (is_taken frame) _ _
        (λ e. frame_home s frame sound) (λ e. none_home s sound)
    call_home (CallsSlot slot) s sound =
        choose (λ (acts : List Act). IsHomeBy s (map OfMedium acts ++ OfNode (Periodic slot) ∷ [])) (slot == 0) (Ticked ∷ []) []
        (λ e. event_home (Periodic slot) (station_after m served s (OfMedium Ticked)) (sound_more s.acts Ticked sound tt))
        (λ e. event_home (Periodic slot) s sound)
    call_home DoesNothing s sound = none_home s sound

    homes : (gives : Writing) (moves : List FrameMove) (s : Station Act) → AllSound s.acts → AllHome m served k rules gives own moves s
    homes gives [] s sound = tt
    homes gives (Makes call ∷ moves) s sound =
        let this = call_home call s sound in (this.1, homes gives moves (station_after_move m served (guarded_ether k rules) gives (Makes call) s) this.0)
    homes gives (Gives number text ∷ moves) s sound =
        (nothing_home s.acts, homes gives moves (station_after_move m served (guarded_ether k rules) gives (Gives number text) s) sound)

pub frames_go_home : FramesGoHome
frames_go_home m served k rules gives own numbers moves mac6 = homes k mac6 rules m served own gives moves (initial_station own numbers) tt
