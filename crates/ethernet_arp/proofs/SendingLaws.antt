-- Each frame with a datagram goes to the hardware address that its target taught last.
use Rattle.ethernet_arp.proofs.Prelude.{◌≡◌, ℕ, zero, suc, ◌+◌, ◌*◌, ◌/◌, ◌%◌, ◌<◌, ◌&&◌, ◌||◌, ◌==◌, Bool, true, false, if◌then◌else◌}
use Rattle.ethernet_arp.proofs.Prelude.{nat_le, nat_lt, List, [], ◌∷◌, ◌++◌, Option, None, Some, length, drop, map, refl, sym, ap, ◌∙◌}
use Rattle.ethernet_arp.proofs.Prelude.{subst, arith, inl, inr, ◌⊎◌, append_assoc, length-append, ne_eqb, eq-eqb, ⊤, slice_get}
use Rattle.ethernet_arp.proofs.Prelude.{option_map_or, option_or, bytes_eq, leb-true, AppSpec, Item, Byte, Quiet, address_at, word_at}
use Rattle.ethernet_arp.proofs.Prelude.{word_bytes, Addr, reply_bytes, Event, Reply, tick, AbstractNode, step, MediumInput, Datagram}
use Rattle.ethernet_arp.proofs.Prelude.{Overlong, Own, StationEvent, OfMedium, OfNode, Station, station_after, output, output_of_event}
use Rattle.ethernet_arp.proofs.Prelude.{reply_text, beat_on, station_event_by, station_events_after, station_events_of_line, tick_on}
use Rattle.ethernet_arp.proofs.Prelude.{is_beat, closed_by, ether_text, ether_medium, is_taken, is_whole, open_from, Host, arp_brings}
use Rattle.ethernet_arp.proofs.Prelude.{arp_packet, broadcast, frame_brings, frame_with, framed, is_arp, is_arp_for, is_datagram}
use Rattle.ethernet_arp.proofs.Prelude.{is_sendable, mac_at, no_mac, payload_brings, arp_reply, arp_request, sender_of, wrapped, Act, Asked}
use Rattle.ethernet_arp.proofs.Prelude.{Learning, Pair, Replied, Ticked, is_fresh, known, last_learning, learning_by, taught, AllGoHome}
use Rattle.ethernet_arp.proofs.Prelude.{GoesHome, frames_from, target_in}
use Rattle.ethernet_arp.proofs.LearningLaws.{mac_of}
use Rattle.ethernet_arp.proofs.Bytes.{elements6, six}

-- addresses of four bytes, and hardware addresses of six
abbrev pub IsPair : Pair → Type 0
IsPair pair = (length pair.addr ≡ 4) × (length pair.mac ≡ 6)

abbrev pub IsActSound : Act → Type 0
IsActSound (Asked pair) = IsPair pair
IsActSound (Replied pair) = IsPair pair
IsActSound Ticked = ⊤

abbrev pub AllSound : List Act → Type 0
AllSound [] = ⊤
AllSound (a ∷ acts) = IsActSound a × AllSound acts

abbrev IsStationEventSound : StationEvent Act → Type 0
IsStationEventSound (OfMedium a) = IsActSound a
IsStationEventSound (OfNode e) = ⊤

abbrev AllStationEvents : List (StationEvent Act) → Type 0
AllStationEvents [] = ⊤
AllStationEvents (d ∷ station_events) = IsStationEventSound d × AllStationEvents station_events

pub sound_more : (acts : List Act) (a : Act) → AllSound acts → IsActSound a → AllSound (acts ++ a ∷ [])
sound_more [] a s h = (h, tt)
sound_more (x ∷ acts) a s h = (s.0, sound_more acts a s.1 h)

same_some : (k l : Learning) → Some k ≡ Some l → k ≡ l
same_some k l e = cc

none_some : (l : Learning) → None ≡ Some l → ⊥
none_some l e = cc

by_pair : (addr : List ℕ) (pair : Pair) (later : List Act) (l : Learning) → length pair.mac ≡ 6 → learning_by addr (Some pair) later ≡ Some l → length l.mac ≡ 6
by_pair addr pair later l six e =
    elim (bytes_eq pair.addr addr) as (λ v. (if◌then◌else◌ {A = Option Learning} v (Some (record { mac = pair.mac; later = later })) None)
    ≡ Some l → length l.mac ≡ 6) [
      | true ↦ λ f. ap (λ (m : Learning). length m.mac) (sym (same_some _ _ f)) ∙ six
      | false ↦ λ f. absurd (none_some l f)
    ] e

-- the last learning of a sound list
by_six : (addr : List ℕ) (a : Act) (later : List Act) (l : Learning) → IsActSound a → learning_by addr (taught a) later ≡ Some l → length l.mac ≡ 6
by_six addr (Asked pair) later l s e = by_pair addr pair later l s.1 e
by_six addr (Replied pair) later l s e = by_pair addr pair later l s.1 e
by_six addr Ticked later l s e = absurd (cc e)

in_either : (x y : Option Learning) (l : Learning) → ((m : Learning) → x ≡ Some m → length m.mac ≡ 6) → ((m : Learning) → y ≡ Some m → length m.mac ≡ 6)
    → option_or x y ≡ Some l → length l.mac ≡ 6
in_either (Some m) y l f g e = f l e
in_either None y l f g e = g l e

pub last_six : (addr : List ℕ) (acts : List Act) (l : Learning) → AllSound acts → last_learning addr acts ≡ Some l → length l.mac ≡ 6
last_six addr [] l s e = absurd (cc e)
last_six addr (a ∷ acts) l s e =
    in_either (last_learning addr acts) (learning_by addr (taught a) acts) l (λ m f. last_six addr acts m s.1 f) (λ m f. by_six addr a acts m s.0 f) e

same_mac : (a b : List ℕ) → Some a ≡ Some b → a ≡ b
same_mac a b e = cc

no_mac_known : (a : List ℕ) → None ≡ Some a → ⊥
no_mac_known a e = cc

-- what is known is the hardware address of the last learning
pub known_last : (o : Option Learning) (mac : List ℕ) → mac_of o ≡ Some mac → (l : Learning) × (o ≡ Some l) × (l.mac ≡ mac)
known_last None mac e = absurd (cc e)
known_last (Some l) mac e =
    elim (is_fresh l) as (λ v. (if◌then◌else◌ {A = Option (List ℕ)} v (Some l.mac) None) ≡ Some mac → (m : Learning) × (Some l ≡ Some m) × (m.mac ≡ mac)) [
      | true ↦ λ f. (l, refl, same_mac _ _ f)
      | false ↦ λ f. absurd (no_mac_known mac f)
    ] e

-- the parts of a frame
module _ (to from payload : List ℕ) (kind : ℕ) (a : length to ≡ 6) (b : length from ≡ 6) where
  pub kind_of : word_at (frame_with to from kind payload) 12 ≡ 256 * (kind / 256) + kind % 256
  kind_of =
      subst (λ (l : List ℕ). word_at (frame_with l from kind payload) 12 ≡ 256 * (kind / 256) + kind % 256) (six to a)
      (subst (λ (l : List ℕ). word_at (frame_with (elements6 to) l kind payload) 12 ≡ 256 * (kind / 256) + kind % 256) (six from b) refl)

  pub to_of : mac_at (frame_with to from kind payload) 0 ≡ to
  to_of = subst (λ (l : List ℕ). mac_at (frame_with l from kind payload) 0 ≡ l) (six to a) refl

  pub payload_of : drop 14 (frame_with to from kind payload) ≡ payload
  payload_of =
      subst (λ (l : List ℕ). drop 14 (frame_with l from kind payload) ≡ payload) (six to a)
      (subst (λ (l : List ℕ). drop 14 (frame_with (elements6 to) l kind payload) ≡ payload) (six from b) refl)

  sequence_length : length (frame_with to from kind payload) ≡ 14 + length payload
  sequence_length =
      omega (arith, length-append to from, length-append (to ++ from) (word_bytes kind), length-append (to ++ from ++ word_bytes kind) payload, a, b)

-- the frames of a text that begins with a frame after its length
grows : (high low : ℕ) (frame run rest : List ℕ) → 0 < length run → length frame + length run ≡ 256 * high + low
    → frames_from (high ∷ low ∷ frame) (run ++ rest) ≡ (frame ++ run) ∷ frames_from [] rest
grows high low frame [] rest some h = absurd (omega arith)
grows high low frame (b ∷ []) rest some h =
    let more = frame ++ b ∷ [] in
    ap (λ v. if v then more ∷ frames_from [] rest else frames_from (high ∷ low ∷ more) rest)
    (eq-eqb (length more) (256 * high + low) (omega (arith, h, length-append frame (b ∷ []))))
grows high low frame (b ∷ c ∷ run) rest some h =
    let more = frame ++ b ∷ [] in
    let size = length-append frame (b ∷ []) in
    ap (λ v. if v then more ∷ frames_from [] ((c ∷ run) ++ rest) else frames_from (high ∷ low ∷ more) ((c ∷ run) ++ rest))
    (ne_eqb (length more) (256 * high + low) (λ e. omega (arith, e, h, size)))
    ∙ grows high low more (c ∷ run) rest (omega arith) (omega (arith, h, size))
    ∙ ap (λ l. l ∷ frames_from [] rest) (append_assoc frame (b ∷ []) (c ∷ run))

first_frame : (frame rest : List ℕ) → 0 < length frame → length frame < 65536 → frames_from [] (framed frame ++ rest) ≡ frame ∷ frames_from [] rest
first_frame frame rest some most =
    let high = length frame / 256 in
    let low = length frame % 256 in
    let size : length frame ≡ 256 * high + low = omega (arith, most) in
    ap (λ v. if v then [] ∷ frames_from [] (frame ++ rest) else frames_from (high ∷ low ∷ []) (frame ++ rest))
    (ne_eqb 0 (256 * high + low) (λ e. omega (arith, e, some, size)))
    ∙ grows high low [] frame rest some (omega (arith, size))

-- the output at an event: nothing, or one frame, which goes home if it carries a datagram
pub record IsFrame (acts : List Act) (text frame : List ℕ) : Type 0 where
  pub is : text ≡ framed frame
  pub some : 0 < length frame
  pub most : length frame < 65536
  pub home : is_datagram (word_at frame 12) ≡ true → known acts (target_in frame) ≡ Some (mac_at frame 0)

abbrev Says : List Act → List ℕ → Type 0
Says acts text = (text ≡ []) ⊎ ((frame : List ℕ) × IsFrame acts text frame)

module _ (k : Host) (mac6 : length k.mac ≡ 6) (addr4 : length k.addr ≡ 4) where
  packet_size : (operation : ℕ) (mac target : List ℕ) → length mac ≡ 6 → length target ≡ 4 → length (arp_packet operation k.mac k.addr mac target) ≡ 28
  packet_size operation mac target a b =
      let begin : List ℕ = 0 ∷ 1 ∷ 8 ∷ 0 ∷ 6 ∷ 4 ∷ [] in
      omega (
        arith,
        length-append begin (word_bytes operation),
        length-append (begin ++ word_bytes operation) k.mac,
        length-append (begin ++ word_bytes operation ++ k.mac) k.addr,
        length-append (begin ++ word_bytes operation ++ k.mac ++ k.addr) mac,
        length-append (begin ++ word_bytes operation ++ k.mac ++ k.addr ++ mac) target,
        a,
        b,
        mac6,
        addr4,
      )

  -- a frame of ARP carries no datagram
  arp_sends : (acts : List Act) (to : List ℕ) (operation : ℕ) (mac target : List ℕ) → length to ≡ 6 → length mac ≡ 6 → length target ≡ 4
      → IsFrame acts (framed (frame_with to k.mac 2054 (arp_packet operation k.mac k.addr mac target)))
      (frame_with to k.mac 2054 (arp_packet operation k.mac k.addr mac target))
  arp_sends acts to operation mac target a b c =
      let packet = arp_packet operation k.mac k.addr mac target in
      let size = sequence_length to k.mac packet 2054 a mac6 in
      record {
        is = refl;
        some = omega (arith, size);
        most = omega (arith, size, packet_size operation mac target b c);
        home = λ e. absurd (not_arp (ap (λ n. is_datagram n) (sym (kind_of to k.mac packet 2054 a mac6)) ∙ e));
      }
    where
      not_arp : false ≡ true → ⊥
      not_arp e = cc

  -- a datagram's frame goes home
  datagram_sends : (acts : List Act) (d mac : List ℕ) → AllSound acts → length d < 65000 → known acts (address_at d 16) ≡ Some mac
      → IsFrame acts (framed (frame_with mac k.mac 2048 d)) (frame_with mac k.mac 2048 d)
  datagram_sends acts d mac sound most e =
      let it = known_last (last_learning (address_at d 16) acts) mac e in
      let six : length mac ≡ 6 = ap (λ l. length l) (sym it.2) ∙ last_six (address_at d 16) acts it.0 sound it.1 in
      let size = sequence_length mac k.mac d 2048 six mac6 in
      record {
        is = refl;
        some = omega (arith, size);
        most = omega (arith, size, most);
        home = λ t.
            ap (λ l. known acts (address_at l 16)) (payload_of mac k.mac d 2048 six mac6)
            ∙ e ∙ ap (λ (l : List ℕ). Some l) (sym (to_of mac k.mac d 2048 six mac6));
      }

  wrapped_sends : (acts : List Act) (d : List ℕ) (o : Option (List ℕ)) → AllSound acts → length d < 65000 → known acts (address_at d 16) ≡ o
      → Says acts (framed (option_map_or (λ mac. frame_with mac k.mac 2048 d) o (arp_request k (address_at d 16))))
  wrapped_sends acts d None sound most e = inr (arp_request k (address_at d 16), arp_sends acts broadcast 1 no_mac (address_at d 16) refl refl refl)
  wrapped_sends acts d (Some mac) sound most e = inr (frame_with mac k.mac 2048 d, datagram_sends acts d mac sound most e)

  text_sends : (acts : List Act) (d : List ℕ) → AllSound acts → Says acts (ether_text k acts d)
  text_sends acts d sound =
      elim (is_sendable d) as (λ v. is_sendable d ≡ v → Says acts (if v then framed (wrapped k acts d) else [])) [
        | true ↦ λ e. wrapped_sends acts d (known acts (address_at d 16)) sound (short (nat_le 20 (length d)) (length d) e) refl
        | false ↦ λ e. inl refl
      ] refl
    where
      short : (b : Bool) (n : ℕ) → (b && nat_le n 1500) ≡ true → n < 65000
      short true n e = let most = leb-true n 1500 e in omega arith
      short false n e = absurd (cc e)

  reply_outputs : (acts : List Act) (own : Addr) (o : Option Reply) → AllSound acts → Says acts (reply_text (ether_medium k) acts own o)
  reply_outputs acts own None sound = inl refl
  reply_outputs acts own (Some reply) sound = text_sends acts (reply_bytes own reply) sound

  station_event_sends : (m : AppSpec) (served : ℕ → Bool) (own : Addr) (s : Station Act) (d : StationEvent Act) → AllSound s.acts
      → IsStationEventSound d → Says s.acts (output_of_event m served (ether_medium k) own s d)
  station_event_sends m served own s (OfMedium (Asked pair)) sound h = inr (arp_reply k pair, arp_sends s.acts pair.mac 2 pair.mac pair.addr h.1 h.1 h.0)
  station_event_sends m served own s (OfMedium (Replied pair)) sound h = inl refl
  station_event_sends m served own s (OfMedium Ticked) sound h = inl refl
  station_event_sends m served own s (OfNode e) sound h = reply_outputs s.acts own (step m served s.node e).sent sound

  sound_after : (m : AppSpec) (served : ℕ → Bool) (s : Station Act) (d : StationEvent Act) → AllSound s.acts → IsStationEventSound d
      → AllSound (station_after m served s d).acts
  sound_after m served s (OfMedium a) sound h = sound_more s.acts a sound h
  sound_after m served s (OfNode e) sound h = sound

  module _ (m : AppSpec) (served : ℕ → Bool) (own : Addr) where
    abbrev texts : List (StationEvent Act) → Station Act → List ℕ
    texts station_events s = output m served (ether_medium k) own station_events s

    -- after an event without output
    quiet_home : (d : StationEvent Act) (station_events : List (StationEvent Act)) (s : Station Act) (frame : List ℕ) (i : ℕ)
        → output_of_event m served (ether_medium k) own s d ≡ []
        → GoesHome m served k own station_events (station_after m served s d) i frame → GoesHome m served k own (d ∷ station_events) s i frame
    quiet_home d station_events s frame i quiet h = record {
      done = d ∷ h.done;
      now = h.now;
      later = h.later;
      split = ap (λ l. d ∷ l) h.split;
      place = ap (λ l. length (frames_from [] (l ++ texts h.done (station_after m served s d)))) quiet ∙ h.place;
      sent = h.sent;
      to = h.to;
    }

    -- after an event with a frame as output
    later_home : (d : StationEvent Act) (station_events : List (StationEvent Act)) (s : Station Act) (f frame : List ℕ) (i : ℕ)
        → IsFrame s.acts (output_of_event m served (ether_medium k) own s d) f
        → GoesHome m served k own station_events (station_after m served s d) i frame → GoesHome m served k own (d ∷ station_events) s (suc i) frame
    later_home d station_events s f frame i g h = record {
      done = d ∷ h.done;
      now = h.now;
      later = h.later;
      split = ap (λ l. d ∷ l) h.split;
      place = ap (λ l. length (frames_from [] (l ++ texts h.done (station_after m served s d)))) g.is
          ∙ ap (λ (l : List (List ℕ)). length l) (first_frame f (texts h.done (station_after m served s d)) g.some g.most)
          ∙ ap (λ n. suc n) h.place;
      sent = h.sent;
      to = h.to;
    }

    this_or_later : (d : StationEvent Act) (station_events : List (StationEvent Act)) (s : Station Act) (f frame : List ℕ) (i : ℕ)
        → IsFrame s.acts (output_of_event m served (ether_medium k) own s d) f
        → ((j : ℕ) (g : List ℕ) → slice_get (frames_from [] (texts station_events (station_after m served s d))) j ≡ Some g
        → is_datagram (word_at g 12) ≡ true → GoesHome m served k own station_events (station_after m served s d) j g)
        → slice_get (f ∷ frames_from [] (texts station_events (station_after m served s d))) i ≡ Some frame → is_datagram (word_at frame 12)
        ≡ true → GoesHome m served k own (d ∷ station_events) s i frame
    this_or_later d station_events s f frame zero h more at e =
        let same : f ≡ frame = cc at in
        record {
          done = [];
          now = d;
          later = station_events;
          split = refl;
          place = refl;
          sent = h.is ∙ ap (λ l. framed l) same;
          to = subst (λ (l : List ℕ). known s.acts (target_in l) ≡ Some (mac_at l 0)) same (h.home (ap (λ l. is_datagram (word_at l 12)) same ∙ e));
        }
    this_or_later d station_events s f frame (suc i) h more at e = later_home d station_events s f frame i h (more i frame at e)

    homes : (station_events : List (StationEvent Act)) (s : Station Act) → AllSound s.acts → AllStationEvents station_events → (i : ℕ) (frame : List ℕ)
        → slice_get (frames_from [] (texts station_events s)) i ≡ Some frame → is_datagram (word_at frame 12) ≡ true
        → GoesHome m served k own station_events s i frame
    homes [] s sound h i frame at e = absurd (cc at)
    homes (d ∷ station_events) s sound h i frame at e =
        let next = station_after m served s d in
        let rest = texts station_events next in
        let more = homes station_events next (sound_after m served s d sound h.0) h.1 in
        elim (station_event_sends m served own s d sound h.0) [
          | inl quiet ↦ quiet_home d station_events s frame i quiet (more i frame (ap (λ l. slice_get (frames_from [] (l ++ rest)) i) (sym quiet) ∙ at) e)
          | inr output ↦
              let f = output.0 in
              let cut : slice_get (f ∷ frames_from [] rest) i ≡ Some frame =
              ap (λ l. slice_get l i) (sym (ap (λ l. frames_from [] (l ++ rest)) output.1.is ∙ first_frame f rest output.1.some output.1.most)) ∙ at in
              this_or_later d station_events s f frame i output.1 more cut e
        ]

-- the deeds of a line are sound
all_station_events : (xs ys : List (StationEvent Act)) → AllStationEvents xs → AllStationEvents ys → AllStationEvents (xs ++ ys)
all_station_events [] ys a b = b
all_station_events (x ∷ xs) ys a b = (a.0, all_station_events xs ys a.1 b)

events_sound : (events : List Event) → AllStationEvents (map OfNode events)
events_sound [] = tt
events_sound (e ∷ events) = (tt, events_sound events)

abbrev IsCameSound : List (MediumInput Act) → Type 0
IsCameSound [] = ⊤
IsCameSound (Own a ∷ cs) = IsActSound a × IsCameSound cs
IsCameSound (Datagram d ∷ cs) = IsCameSound cs
IsCameSound (Overlong ∷ cs) = IsCameSound cs

came_sound : (own : Addr) (cs : List (MediumInput Act)) → IsCameSound cs → AllStationEvents (map (station_event_by own) cs)
came_sound own [] h = tt
came_sound own (Own a ∷ cs) h = (h.0, came_sound own cs h.1)
came_sound own (Datagram d ∷ cs) h = (tt, came_sound own cs h)
came_sound own (Overlong ∷ cs) h = (tt, came_sound own cs h)

if_sound : (b : Bool) (xs ys : List (MediumInput Act)) → IsCameSound xs → IsCameSound ys → IsCameSound (if b then xs else ys)
if_sound true xs ys a b = a
if_sound false xs ys a b = b

module _ (k : Host) where
  frame_sound : (frame : List ℕ) → IsCameSound (frame_brings k frame)
  frame_sound frame =
      let kind = word_at frame 12 in
      let payload = drop 14 frame in
      if_sound (bytes_eq (mac_at frame 0) k.mac || bytes_eq (mac_at frame 0) broadcast) (payload_brings k kind payload) []
      (if_sound (is_datagram kind && nat_lt 0 (length payload)) (Datagram payload ∷ []) _ tt
      (if_sound (is_arp kind && is_arp_for k.addr payload) (arp_brings (word_at payload 6) (sender_of payload)) [] (packet_sound payload) tt))
      tt
    where
      packet_sound : (packet : List ℕ) → IsCameSound (arp_brings (word_at packet 6) (sender_of packet))
      packet_sound packet =
          if_sound (word_at packet 6 == 1) (Own (Asked (sender_of packet)) ∷ []) _ ((refl, refl), tt)
          (if_sound (word_at packet 6 == 2) (Own (Replied (sender_of packet)) ∷ []) [] ((refl, refl), tt) tt)

  closes_sound : (part : List ℕ) → IsCameSound (closed_by k part)
  closes_sound part = if_sound (is_whole part && is_taken (drop 2 part)) (frame_brings k (drop 2 part)) [] (frame_sound (drop 2 part)) tt

  tick_sound : AllStationEvents (tick_on (ether_medium k))
  tick_sound = (tt, events_sound tick)

  beat_sound : (pace number : ℕ) → AllStationEvents (beat_on (ether_medium k) pace number)
  beat_sound pace number =
      elim (is_beat pace number) as (λ v. AllStationEvents (if v then tick_on (ether_medium k) else [])) [
        | true ↦ tick_sound
        | false ↦ tt
      ]

  line_sound : (own : Addr) (pace : ℕ) (before : List ℕ) (items : List Item) → AllStationEvents (station_events_after (ether_medium k) own pace before items)
  line_sound own pace before [] = tt
  line_sound own pace before (Byte b ∷ items) =
      let this = map (station_event_by own) (closed_by k (open_from [] before ++ b ∷ [])) in
      let beat = beat_on (ether_medium k) pace (length before + 1) in
      all_station_events (this ++ beat) (station_events_after (ether_medium k) own pace (before ++ b ∷ []) items)
      (all_station_events this beat (came_sound own (closed_by k (open_from [] before ++ b ∷ []))
      (closes_sound (open_from [] before ++ b ∷ []))) (beat_sound pace (length before + 1)))
      (line_sound own pace (before ++ b ∷ []) items)
  line_sound own pace before (Quiet ∷ items) = all_station_events (tick_on (ether_medium k)) (station_events_after (ether_medium k) own pace
      before items) tick_sound (line_sound own pace before items)

pub all_go_home : (m : AppSpec) (served : ℕ → Bool) (k : Host) (own : Addr) (pace : ℕ) (items : List Item) (n : AbstractNode)
    → length k.mac ≡ 6 → length k.addr ≡ 4
    → AllGoHome m served k own (station_events_of_line (ether_medium k) own pace items) (record { acts = []; node = n })
all_go_home m served k own pace items n mac6 addr4 = record {
  each = homes k mac6 addr4 m served own (station_events_of_line (ether_medium k) own pace items) (record { acts = []; node = n }) tt
      (line_sound k own pace [] items);
}
