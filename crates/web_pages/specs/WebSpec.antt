-- The transitions of a connection of the web server. Its output is the page of the delivered bytes and the captured snapshots. The
-- counters are the hits of the files, in their order.
use Rattle.std.specs.Prelude.{◌+◌, ◌-◌, ◌%◌, ◌^◌, ◌==◌, ◌&&◌, ◌∷◌, [], Bool, false, List, not, slice_index_or, ℕ}
use Rattle.std.specs.Prelude.{◌++◌, length, min, nat_lt, slice_set, if◌then◌else◌, Option}
use Rattle.std.specs.Option.{option_map_or}
use Rattle.app_events.specs.Prelude.{AppState, AppSpec}
use Rattle.app_events.specs.declared.want.Want.{Want}
use Rattle.app_events.specs.declared.want.Want.TheVariants.{Nothing, Send, Close, Abort}
use Rattle.site_image.specs.Prelude.{File}
use Rattle.web_pages.specs.Requests.{Wanted, wanted}
use Rattle.web_pages.specs.Requests.Wanted.{NotYet, Name}
use Rattle.generators.specs.Prelude.{ScriptFunctions, uip}
use Rattle.web_pages.specs.Pages.{page_by, is_whole_by, place_of}
use Rattle.web_pages.specs.declared.TheConstants.{MOST_POLLS, LARGEST_SEGMENT}

-- A hit of the file with an index: its count rises by one, modulo 2^32.
abbrev pub hit_at : List ℕ → Option ℕ → List ℕ
hit_at hits found = option_map_or (λ place. slice_set hits place ((slice_index_or hits place 0 + 1) % 2 ^ 32)) found hits

-- the hits after delivery: if the request was undecided and now names a file, that file is hit
abbrev pub hits_by : List File → List ℕ → Wanted → Wanted → List ℕ
hits_by files hits NotYet (Name name) = hit_at hits (place_of files name)
hits_by files hits _ _ = hits

-- The whole page so far is acknowledged.
abbrev pub is_acknowledged_by : {F : Type 0} → ScriptFunctions F → List File → AppState → Bool
is_acknowledged_by g files part = part.acked == length (page_by g files part.input part.snapshots)

-- A call without a snapshot stops the page of a decided request.
abbrev pub waits_for_capture_by : {F : Type 0} → ScriptFunctions F → List File → Wanted → AppState → Bool
waits_for_capture_by g files (Name name) part = not (is_whole_by g files part.input part.snapshots)
waits_for_capture_by g files _ part = false

-- the number of bytes of the page so far that are not acknowledged
abbrev pub left_of_by : {F : Type 0} → ScriptFunctions F → List File → AppState → ℕ
left_of_by g files part = length (page_by g files part.input part.snapshots) - part.acked

-- It aborts after `MOST_POLLS` ticks with nothing to send. It closes when the whole page is acknowledged. Otherwise it sends the rest of
-- the page so far.
abbrev pub web_want_by : {F : Type 0} → ScriptFunctions F → List File → AppState → Want
web_want_by g files part =
    if part.polls == MOST_POLLS then Abort
    else if is_whole_by g files part.input part.snapshots && is_acknowledged_by g files part then Close
    else if nat_lt 0 (left_of_by g files part) then Send (min LARGEST_SEGMENT (left_of_by g files part))
    else Nothing

abbrev pub web_spec_by : {F : Type 0} → ScriptFunctions F → List File → AppSpec
web_spec_by g files = record {
  output = λ part. page_by g files part.input part.snapshots;
  connected = λ hits port. record {
    part = record { port = port; input = []; snapshots = []; acked = 0; polls = 0; own = 0 };
    numbers = hits;
  };
  newdata = λ hits part piece. record {
    part = record part { input = part.input ++ piece; polls = 0 };
    numbers = hits_by files hits (wanted part.input) (wanted (part.input ++ piece));
  };
  prepare = λ hits part now.
      if is_acknowledged_by g files part && waits_for_capture_by g files (wanted part.input) part
      then record part { snapshots = part.snapshots ++ record { numbers = hits; now = now } ∷ [] }
      else part;
  want = λ hits part. web_want_by g files part;
  acked = λ hits part count. record { part = record part { acked = part.acked + count; polls = 0 }; numbers = hits };
  polled = λ hits part. record { part = record part { polls = min MOST_POLLS (part.polls + 1) }; numbers = hits };
  ended = λ hits part how. hits;
}

-- With the functions of uIP.
abbrev pub is_acknowledged : List File → AppState → Bool
is_acknowledged = is_acknowledged_by uip

abbrev pub waits_for_capture : List File → Wanted → AppState → Bool
waits_for_capture = waits_for_capture_by uip

abbrev pub left_of : List File → AppState → ℕ
left_of = left_of_by uip

abbrev pub web_want : List File → AppState → Want
web_want = web_want_by uip

abbrev pub web_spec : List File → AppSpec
web_spec = web_spec_by uip
