-- Moves on a handle, one after the other, are moves of its device.
use Rattle.uip_c.proofs.Prelude.{All, IsAddr, IsByte, File, HasSoundScripts, IsLoaded, SiteContent, files_of, is_served, made_of_bytes_by}
use Rattle.uip_c.proofs.Prelude.{keeps_page_laws_by, word_calls, words, words_bytes, words_short, Item, Addr, Call, Calls, CallsForDatagram}
use Rattle.uip_c.proofs.Prelude.{Drains, Feeds, Inputs, Answered, Answers, AnswersAll, AnswersMove, Changes, datagrams_handed, left_text_of}
use Rattle.uip_c.proofs.Prelude.{lefts_of, line_handed, moves_of, IsOfBytes, CallsConform, Bring, Move, DeviceRepresents, WebDevice}
use Rattle.uip_c.proofs.Prelude.{first_numbers, value_spec, value_pages, web_datagrams_sent, web_line_sent, web_node_after, web_rules}
use Rattle.uip_c.proofs.Prelude.{write_value, answers_nothing, datagrams_reported, line_served, line_view, node_represents, keeps_calls}
use Rattle.uip_c.proofs.Prelude.{first_words, written_words, IsLine, Kept, NoDevice, OnEther, OnLine, Did, DidAll, ConformOnWire}
use Rattle.uip_c.proofs.Prelude.{HandleAnswers, HandleGives, IsReady, LineIsServed, left_text_in, lefts_in}
use Rattle.std.proofs.Common.{◌≡◌, ℕ, List, [], ◌∷◌, ◌++◌, None as NothingLeft, Option, refl, sym, ap, ◌∙◌, subst}
use Rattle.uip_device.specs.contracts.value_pages.ValuePagesApp.TheImpl.{ghosts}
use Rattle.uip_device.specs.Calls.{DoesNothing}
use Rattle.uip_device.specs.Moves.{Gives, Makes}
use Rattle.uip_device.proofs.AnswerLaws.{same_kept}
use Rattle.guard_laws.proofs.Lens.{lens_is_shift}
use Rattle.guard_laws.proofs.Conforms.{wire_conforms}
use Rattle.guard_laws.proofs.Through.{arrives_through_guard}
use Rattle.guard_laws.specs.Lens.{lens}
use Rattle.std.proofs.lemmas.List.Elements.{All-nil}
use Rattle.uip_c.proofs.OnWire.{comings_fit}
use Rattle.uip_c.specs.OnWire.{comings_of}
use Rattle.node_laws.specs.Prelude.{at_every_port}
use Rattle.sip_hash.specs.declared.key.Key.{Key}
use Rattle.std.specs.List.{flat_map}

abbrev line_or : WebDevice → Kept → WebDevice
line_or none (OnLine d) = d
line_or none _ = none

-- a move on a handle is one of the device that it has
record OnDevice (move : Move) (d : WebDevice) (b : Kept) (handed : List ℕ) : Type 0 where
  after : WebDevice
  is : b ≡ OnLine after
  answers : AnswersMove ghosts write_value move d after handed

same_line : (x y : WebDevice) → OnLine x ≡ OnLine y → x ≡ y
same_line x y e = ap (λ (k : Kept). line_or x k) e

-- the device of either kind in which a value was set
given : (number : ℕ) (text : List ℕ) (d : WebDevice) (b : Kept) → HandleGives number text (OnLine d) b
    → (x : WebDevice) × (b ≡ OnLine x) × Changes ghosts (write_value number text) d x
given number text d NoDevice gives = absurd gives
given number text d (OnLine x) gives = (x, refl, gives)
given number text d (OnEther x) gives = absurd gives

on_device : (call : Call) (d : WebDevice) (a b : Kept) (handed : List ℕ) → a ≡ OnLine d → HandleAnswers call a b handed → OnDevice (Makes call) d b handed
on_device call d a b handed is it = record {
  after = it.after;
  is = it.is;
  answers = subst (λ (x : WebDevice). Answers ghosts call x it.after handed) (same_line it.before d (sym it.was ∙ is)) it.holds;
}

did_device : (move : Move) (d : WebDevice) (a b : Kept) (handed : List ℕ) → a ≡ OnLine d → Did move a b handed → OnDevice move d b handed
did_device (Makes (Feeds bytes)) d a b handed is it = on_device (Feeds bytes) d a b handed is it
did_device (Makes (Calls slot)) d a b handed is it = on_device (Calls slot) d a b handed is it
did_device (Makes Drains) d a b handed is it = on_device Drains d a b handed is it
did_device (Makes (Inputs datagram)) d a b handed is it = on_device (Inputs datagram) d a b handed is it
did_device (Makes (CallsForDatagram slot)) d a b handed is it = on_device (CallsForDatagram slot) d a b handed is it
did_device (Makes DoesNothing) d a b handed is it = record {
  after = d;
  is = it.0 ∙ is;
  answers = subst (λ (l : List ℕ). Answers ghosts DoesNothing d d l) (sym it.1) (answers_nothing ghosts d);
}
did_device (Gives number text) d a b handed is it =
    let gives = given number text d b (subst (λ (k : Kept). HandleGives number text k b) is it.0) in
    record { after = gives.0; is = gives.1; answers = (gives.2, it.1) }

-- and so for moves one after the other, after each of which the same output is pending
record OnDevices (all : List Answered) (d : WebDevice) (a c : Kept) (did : DidAll all a c) : Type 0 where
  last : WebDevice
  is : c ≡ OnLine last
  answers : AnswersAll ghosts write_value all d last
  lefts : lefts_of ghosts write_value all d last answers ≡ lefts_in all a c did

on_devices : (all : List Answered) (d : WebDevice) (a c : Kept) → a ≡ OnLine d → (did : DidAll all a c) → OnDevices all d a c did
on_devices [] d a c is same = record { last = d; is = sym same ∙ is; answers = refl; lefts = refl }
on_devices (it ∷ all) d a c is more =
    let b : Kept = more.0 in
    let first = did_device it.move d a b it.handed is more.1 in
    let later = on_devices all first.after b c first.is more.2 in
    record {
      last = later.last;
      is = later.is;
      answers = (first.after, first.answers, later.answers);
      lefts = ap (λ l. left_text_of first.after ∷ l) later.lefts ∙ ap (λ (o : Kept). left_text_in o ∷ lefts_in all b c more.2) (sym first.is);
    }

module _ (files : List File) (own : Addr) (key : Option Key) (all : List Answered) (old new : Kept) (ready : IsReady files own key old)
    (answered : DidAll all old new) where
  abbrev opened : WebDevice
  opened = ready.0

  devices : OnDevices all opened old new answered
  devices = on_devices all opened old new ready.1 answered

  pub c_line : IsLine (λ d. line_handed all ++ left_text_of d ≡ web_line_sent files key own (moves_of all)) new
  c_line = (
    devices.last,
    devices.is,
    line_view ghosts (value_spec files) write_value (first_numbers files) own (web_rules key) all opened
        devices.last ready.2.fresh devices.answers,
  )

  pub c_datagrams : datagrams_handed all ≡ web_datagrams_sent files key own (moves_of all)
  c_datagrams = datagrams_reported ghosts (value_spec files) write_value (first_numbers files) own (web_rules key) all opened devices.last
      ready.2.fresh devices.answers

  pub c_represents : IsLine (λ d. DeviceRepresents files own d (web_node_after files key own (moves_of all))) new
  c_represents =
      let last : WebDevice = devices.last in
      let fresh = ready.2 in
      let kept = same_kept ghosts (value_spec files) write_value (first_numbers files) own (web_rules key) all opened last fresh.fresh devices.answers in (
        last,
        devices.is,
        record {
          files_are = ap (λ (site : SiteContent). files_of site) kept ∙ fresh.files_are;
          node = node_represents ghosts (value_spec files) write_value (first_numbers files) own (web_rules key) all opened last fresh.fresh devices.answers;
        },
      )

  pub c_served : (pace : ℕ) (items : List Item) → Bring pace items (moves_of all) → IsLine (λ d. d.left ≡ NothingLeft) new
      → LineIsServed (value_spec files) is_served (first_numbers files) own (web_rules key) pace items (line_handed all)
  c_served pace items bring handed =
      let last : handed.0 ≡ devices.last = same_line handed.0 devices.last (sym handed.1 ∙ devices.is) in
      line_served ghosts (value_spec files) write_value (first_numbers files) own (web_rules key) all opened devices.last ready.2.fresh
      devices.answers pace items bring
      (subst (λ (d : WebDevice). d.left ≡ NothingLeft) last handed.2)

module _ (site : SiteContent) (loaded : IsLoaded site) (image : All IsByte site.image) (sound : HasSoundScripts word_calls (files_of site))
    (own : Addr) (is : IsAddr own) where
  pub c_keeps : (key : Option Key) (all : List Answered) → All IsOfBytes (moves_of all) → (old new : Kept) → IsReady (files_of site) own key old
      → (did : DidAll all old new) → ConformOnWire (files_of site) own key all (lefts_in all old new did)
  c_keeps key all bytes old new ready did =
      let files : List File = files_of site in
      let on : OnDevices all ready.0 old new did = on_devices all ready.0 old new ready.1 did in
      let Of : List (List ℕ) → Type 0 = λ l. CallsConform (value_spec files) (value_pages files) is_served write_value (first_numbers files)
      (web_rules key) own all l in
      let calls : Of (lefts_in all old new did) = subst Of on.lefts
      (keeps_calls ghosts (value_spec files) (value_pages files) (keeps_page_laws_by words words_short site loaded sound)
      (λ delivered captures bytes are. made_of_bytes_by words words_bytes site image delivered captures are)
      write_value written_words (first_numbers files) (first_words files) own is (web_rules key) all bytes ready.0 on.last ready.2.fresh on.answers) in
      record {
        calls = calls;
        wire = wire_conforms (at_every_port (value_pages files)) is_served (lens key own) (lens_is_shift.shift key own)
            (flat_map (λ it. it.turns) calls.moves) calls.keeps;
        arrives = arrives_through_guard (value_spec files) (value_pages files) (keeps_page_laws_by words words_short site loaded sound)
            is_served own is (first_numbers files) (first_words files) (web_rules key) (comings_of write_value [] (moves_of all))
            (comings_fit write_value written_words [] (moves_of all) (All-nil IsByte) bytes);
      }
