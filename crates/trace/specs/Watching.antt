-- What the reader of a serial line knows of the items that it consumed.
use Rattle.std.specs.Prelude.{◌≡◌, ◌+◌, ℕ, List, [], Option, length, map}
use Rattle.std.specs.List.{enumerate_from, flat_map}
use Rattle.std.specs.Io.KnownBytes.{Appends}
use Rattle.uip_edge.specs.Prelude.{Rose, bytes_among, BreaksOff, SinkView}
use Rattle.uip_edge.specs.declared.item.Item.{Item}
use Rattle.uip_edge.specs.declared.item.Item.TheVariants.{Byte}
use Rattle.uip_slip.specs.Prelude.{State, WasFed}
use Rattle.trace.specs.CaptureText.{frame_record}
use Rattle.trace.specs.DumpText.{dump_line}
use Rattle.trace.specs.Seen.{Seen, seen_after, seen_on, silences_of}
use Rattle.trace.specs.declared.form.Form.{Form}
use Rattle.trace.specs.declared.form.Form.TheVariants.{Capture, Dump}
use Rattle.trace.specs.declared.watch.Watch.{Watch}

-- what is written of a frame with its number
abbrev pub frame_text : Form → ℕ × Seen → List ℕ
frame_text Dump numbered = dump_line numbered.0 numbered.1.frame
frame_text Capture numbered = frame_record numbered.1.silences numbered.1.frame

-- what is written of frames, numbered from this number on
abbrev pub texts_from : Form → ℕ → List Seen → List ℕ
texts_from form number seen = flat_map (frame_text form) (enumerate_from number seen)

-- what is written of items after others
abbrev pub text_after : Form → List Item → List Item → List ℕ
text_after form before items = texts_from form (length (seen_on before) + 1) (seen_after (bytes_among before) (silences_of before) items)

-- these items were read
pub record HasSeen (before : List Item) (decoder : State) (frames silences : ℕ) : Type 0 where
  pub fed : WasFed (bytes_among before) decoder
  pub numbered : frames ≡ length (seen_on before)
  pub waited : silences ≡ silences_of before

-- by a line that is watched
abbrev pub Saw : List Item → Watch → Type 0
Saw before watch = HasSeen before watch.decoder watch.frames watch.silences

-- A line is read in this form: these items were read, and their text was written, from the start on.
pub record IsWatched (k : Form × Option (List ℕ)) (before : List Item) (now : Option (List ℕ)) (watch : Watch) : Type 0 where
  pub form : watch.form ≡ k.0
  pub seen : Saw before watch
  pub written : Appends k.1 now (text_after k.0 [] before)

-- a write failed in the text of these bytes after those items
pub record BrokeWatch (k : Form × Option (List ℕ)) (before : List Item) (bytes : List ℕ) (faults : ℕ) (new : SinkView) : Type 0 where
  pub broke : BreaksOff (text_after k.0 [] before) (text_after k.0 before (map Byte bytes)) k.1 new.written
  pub rose : Rose faults new.faults
