-- Moves on a handle over Ethernet, one after the other, are moves of its device.
use Rattle.uip_c.proofs.Prelude.{IsEtherReady, Key, Option, web_rules, web_link, web_stations, All, ◌≡◌, ℕ, List, [], ◌∷◌, refl, sym, ap}
use Rattle.uip_c.proofs.Prelude.{◌∙◌, subst, IsAddr, IsByte, File, HasSoundScripts, IsLoaded, SiteContent, files_of, is_served}
use Rattle.uip_c.proofs.Prelude.{at_every_port, made_of_bytes_by, keeps_page_laws_by, word_calls, words, words_bytes, words_short, Addr}
use Rattle.uip_c.proofs.Prelude.{Interface, Mac, Network, ether_brings_bytes, AnsweredFrame, AnswersAllFrames, AnswersFrame}
use Rattle.uip_c.proofs.Prelude.{AnswersFrameMove, CallsSlot, ChangesNumbers, DoesNothing, FrameCall, FrameMove, Gives, InputsFrame, Makes}
use Rattle.uip_c.proofs.Prelude.{handed_of, frame_moves_of, FramesConform, IsFrameOfBytes, keeps_frames, device_represents, frames_exact}
use Rattle.uip_c.proofs.Prelude.{same_kept, first_numbers, value_pages, value_spec, write_value, first_words, written_words}
use Rattle.uip_c.proofs.Prelude.{EtherRepresents, interface_at, web_frames_sent, web_station_after, DidFrame, DidFrames, EtherAnswers}
use Rattle.uip_c.proofs.Prelude.{HandleGives, EtherWeb, IsEther, Kept, NoDevice, OnEther, OnLine}
use Rattle.uip_device.specs.contracts.value_pages.ValuePagesApp.TheImpl.{ghosts}
use Rattle.frame_device.specs.contracts.ether.EthernetFrames.TheImpl.{ghosts as ether_link}

abbrev ether_or : EtherWeb → Kept → EtherWeb
ether_or none (OnEther d) = d
ether_or none _ = none

same_ether : (x y : EtherWeb) → OnEther x ≡ OnEther y → x ≡ y
same_ether x y e = ap (λ (k : Kept). ether_or x k) e

-- a move on a handle is one of the device that it has
record OnDevice (move : FrameMove) (d : EtherWeb) (b : Kept) (handed : List ℕ) : Type 0 where
  after : EtherWeb
  is : b ≡ OnEther after
  answers : AnswersFrameMove ghosts ether_link write_value move d after handed

on_device : (call : FrameCall) (d : EtherWeb) (a b : Kept) (handed : List ℕ) → a ≡ OnEther d → EtherAnswers call a b handed → OnDevice (Makes call) d b handed
on_device call d a b handed is it = record {
  after = it.after;
  is = it.is;
  answers = subst (λ (x : EtherWeb). AnswersFrame ghosts ether_link call x it.after handed) (same_ether it.before d (sym it.was ∙ is)) it.holds;
}

-- the device in which a value was set
given : (number : ℕ) (text : List ℕ) (d : EtherWeb) (b : Kept) → HandleGives number text (OnEther d) b
    → (x : EtherWeb) × (b ≡ OnEther x) × ChangesNumbers ghosts ether_link (write_value number text) d x
given number text d NoDevice gives = absurd gives
given number text d (OnLine x) gives = absurd gives
given number text d (OnEther x) gives = (x, refl, gives)

-- a call that did nothing answers so
nothing_answered : (d : EtherWeb) → AnswersFrame ghosts ether_link DoesNothing d d []
nothing_answered d = record { kept = refl; rules = refl; each = λ k m own s here. (here, refl); counts = λ k m own s here. refl }

did_device : (move : FrameMove) (d : EtherWeb) (a b : Kept) (handed : List ℕ) → a ≡ OnEther d → DidFrame move a b handed → OnDevice move d b handed
did_device (Makes (InputsFrame frame)) d a b handed is it = on_device (InputsFrame frame) d a b handed is it
did_device (Makes (CallsSlot slot)) d a b handed is it = on_device (CallsSlot slot) d a b handed is it
did_device (Makes DoesNothing) d a b handed is it = record {
  after = d;
  is = it.0 ∙ is;
  answers = subst (λ (l : List ℕ). AnswersFrame ghosts ether_link DoesNothing d d l) (sym it.1) (nothing_answered d);
}
did_device (Gives number text) d a b handed is it =
    let gives = given number text d b (subst (λ (k : Kept). HandleGives number text k b) is it.0) in
    record { after = gives.0; is = gives.1; answers = (gives.2, it.1) }

-- and so for moves one after the other
record OnDevices (all : List AnsweredFrame) (d : EtherWeb) (c : Kept) : Type 0 where
  last : EtherWeb
  is : c ≡ OnEther last
  answers : AnswersAllFrames ghosts ether_link write_value all d last

on_devices : (all : List AnsweredFrame) (d : EtherWeb) (a c : Kept) → a ≡ OnEther d → DidFrames all a c → OnDevices all d c
on_devices [] d a c is same = record { last = d; is = sym same ∙ is; answers = refl }
on_devices (it ∷ all) d a c is more =
    let b : Kept = more.0 in
    let first = did_device it.move d a b it.handed is more.1 in
    let later = on_devices all first.after b c first.is more.2 in
    record { last = later.last; is = later.is; answers = (first.after, first.answers, later.answers) }

module _ (files : List File) (own : Addr) (mac : Mac) (network : Network) (key : Option Key) (all : List AnsweredFrame) (old new : Kept)
    (ready : IsEtherReady files own mac network key old) (answered : DidFrames all old new) where
  abbrev opened : EtherWeb
  opened = ready.0

  abbrev link : Interface
  link = interface_at own mac network

  devices : OnDevices all opened new
  devices = on_devices all opened old new ready.1 answered

  pub f_frames : handed_of all ≡ web_frames_sent files own mac network key (frame_moves_of all)
  f_frames = frames_exact ghosts ether_link link (value_spec files) write_value (web_rules key) own (first_numbers files) all opened
      devices.last ready.2.fresh devices.answers

  pub f_represents : IsEther (λ d. EtherRepresents files own mac network d (web_station_after files own mac network key (frame_moves_of all))) new
  f_represents =
      let last : EtherWeb = devices.last in
      let fresh = ready.2 in
      let kept = same_kept ghosts ether_link link (value_spec files) write_value (web_rules key) own (first_numbers files) all opened last
      fresh.fresh devices.answers in (
        last,
        devices.is,
        record {
          files_are = ap (λ (site : SiteContent). files_of site) kept.0 ∙ fresh.files_are;
          station = device_represents ghosts ether_link link (value_spec files) write_value (web_rules key) own (first_numbers files) all
              opened last fresh.fresh devices.answers;
        },
      )

module _ (site : SiteContent) (loaded : IsLoaded site) (image : All IsByte site.image) (sound : HasSoundScripts word_calls (files_of site))
    (own : Addr) (is : IsAddr own) (mac : Mac) (network : Network) where
  pub f_keeps : (key : Option Key) (all : List AnsweredFrame) → All IsFrameOfBytes (frame_moves_of all) → (old new : Kept)
      → IsEtherReady (files_of site) own mac network key old → DidFrames all old new
      → FramesConform (web_link own mac network key) (value_spec (files_of site)) (at_every_port (value_pages (files_of site))) is_served
      own (web_stations (files_of site) own mac network key (frame_moves_of all)) all
  f_keeps key all bytes old new ready did =
      let files : List File = files_of site in
      let on : OnDevices all ready.0 new = on_devices all ready.0 old new ready.1 did in
      keeps_frames ghosts ether_link (interface_at own mac network) (value_spec files) write_value (web_rules key) own (value_pages files)
      (keeps_page_laws_by words words_short site loaded sound)
      (λ delivered captures bytes are. made_of_bytes_by words words_bytes site image delivered captures are)
      written_words (ether_brings_bytes (interface_at own mac network)) (first_numbers files) (first_words files) is all bytes ready.0
      on.last ready.2.fresh on.answers
