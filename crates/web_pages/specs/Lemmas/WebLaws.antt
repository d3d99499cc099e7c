-- The web server keeps the laws of an application, at every offset.
use Rattle.std.proofs.Common.{◌≡◌, ℕ, ◌≤◌, ◌==◌, min, Bool, true, false, ◌&&◌, List, [], ◌∷◌, ◌++◌, length}
use Rattle.std.proofs.Common.{drop, nat_lt, refl, ap, ◌∙◌, arith, append-nil, length-drop, if◌then◌else◌}
use Rattle.std.proofs.lemmas.Bool.{ltb-true, eqb-true, and_parts}
use Rattle.site_image.specs.Prelude.{File}
use Rattle.app_events.specs.Prelude.{AppState, Snapshot, IsLawful, StartsAnew, IsPrefixOf, Grows, CanSend, MayWant}
use Rattle.app_events.specs.declared.want.Want.{Want}
use Rattle.app_events.specs.declared.want.Want.TheVariants.{Nothing, Send, Close, Abort}
use Rattle.web_pages.specs.Requests.{wanted}
use Rattle.generators.specs.Prelude.{ScriptFunctions}
use Rattle.web_pages.specs.Pages.{page_by, is_whole_by, pages_by}
use Rattle.web_pages.specs.WebSpec.{web_spec_by, web_want_by, is_acknowledged_by, waits_for_capture_by, left_of_by}
use Rattle.web_pages.specs.Lemmas.Growing.{page_grows, same_prefix}
use Rattle.web_pages.specs.declared.TheConstants.{MOST_POLLS, LARGEST_SEGMENT}

no_more : (xs : List ℕ) → xs ++ [] ≡ xs
no_more xs = append-nil xs

pub newdata_grows : {F : Type 0} (g : ScriptFunctions F) (files : List File) (part : AppState) (piece : List ℕ)
    → IsPrefixOf (page_by g files part.input part.snapshots) (page_by g files (part.input ++ piece) part.snapshots)
newdata_grows g files part piece =
    let p = page_grows g files part.input piece part.snapshots [] in
    record {
      rest = p.rest;
      joined = p.joined ∙ ap (λ captures. page_by g files (part.input ++ piece) captures) (append-nil part.snapshots);
    }

capture_grows : {F : Type 0} (g : ScriptFunctions F) (files : List File) (part : AppState) (capture : Snapshot)
    → IsPrefixOf (page_by g files part.input part.snapshots) (page_by g files part.input (part.snapshots ++ capture ∷ []))
capture_grows g files part capture =
    let p = page_grows g files part.input [] part.snapshots (capture ∷ []) in
    record {
      rest = p.rest;
      joined = p.joined ∙ ap (λ delivered. page_by g files delivered (part.snapshots ++ capture ∷ [])) (no_more part.input);
    }

abbrev pub with_capture : AppState → Snapshot → AppState
with_capture part capture = record part { snapshots = part.snapshots ++ capture ∷ [] }

either_grows : {F : Type 0} (g : ScriptFunctions F) (files : List File) (part : AppState) (capture : Snapshot) (waits : Bool)
    → Grows (web_spec_by g files) part (if waits then with_capture part capture else part)
either_grows g files part capture true = record { text = capture_grows g files part capture; offset = refl }
either_grows g files part capture false =
    record {
      text = same_prefix (page_by g files part.input part.snapshots) (page_by g files part.input part.snapshots) refl;
      offset = refl;
    }

-- ---- what the connection requests

-- an amount that is requested of what is left
some_left : (most left : ℕ) → 1 ≤ most → nat_lt 0 left ≡ true → (1 ≤ min most left) × (min most left ≤ left)
some_left most left one e =
    let some = ltb-true 0 left e in
    (omega arith, omega arith)

wants_by : {F : Type 0} (g : ScriptFunctions F) (files : List File) (part : AppState) (P : Want → Type 0) → P Abort → P Nothing
    → (is_whole_by g files part.input part.snapshots ≡ true
    → part.acked ≡ length (page_by g files part.input part.snapshots) → P Close)
    → ((n : ℕ) → 1 ≤ n → n ≤ left_of_by g files part → P (Send n)) → P (web_want_by g files part)
wants_by g files part P abort nothing close send =
    by_polls (part.polls == MOST_POLLS) _
    (by_end (is_whole_by g files part.input part.snapshots && is_acknowledged_by g files part) refl)
  where
    by_left : (b : Bool) → nat_lt 0 (left_of_by g files part) ≡ b
        → P (if b then Send (min LARGEST_SEGMENT (left_of_by g files part)) else Nothing)
    by_left true e =
        let some = some_left LARGEST_SEGMENT (left_of_by g files part) (omega arith) e in
        send (min LARGEST_SEGMENT (left_of_by g files part)) some.0 some.1
    by_left false e = nothing

    by_end : (b : Bool) → (is_whole_by g files part.input part.snapshots && is_acknowledged_by g files part) ≡ b
        → P (if b then Close
        else (if nat_lt 0 (left_of_by g files part) then Send (min LARGEST_SEGMENT (left_of_by g files part)) else Nothing))
    by_end true e =
        let both = and_parts (is_whole_by g files part.input part.snapshots) (is_acknowledged_by g files part) e in
        close both.0 (eqb-true part.acked (length (page_by g files part.input part.snapshots)) both.1)
    by_end false e = by_left (nat_lt 0 (left_of_by g files part)) refl

    by_polls : (b : Bool) (want : Want) → P want → P (if b then Abort else want)
    by_polls true want rest = abort
    by_polls false want rest = rest

pub may_want : {F : Type 0} (g : ScriptFunctions F) (files : List File) (part : AppState)
    → MayWant (pages_by g files) part (web_want_by g files part)
may_want g files part =
    wants_by g files part (MayWant (pages_by g files) part) tt tt (λ whole all. (whole, all)) (λ n one most. (one, omega arith))

can_send : {F : Type 0} (g : ScriptFunctions F) (files : List File) (part : AppState)
    → CanSend (web_want_by g files part) (length (drop part.acked (page_by g files part.input part.snapshots)))
can_send g files part =
    let left = length-drop part.acked (page_by g files part.input part.snapshots) in
    wants_by g files part (λ want. CanSend want (length (drop part.acked (page_by g files part.input part.snapshots)))) tt tt
    (λ whole all. tt)
    (λ n one most. (one, omega arith))

-- ---- the laws

pub web_lawful : {F : Type 0} (g : ScriptFunctions F) (files : List File) (represented : AppState → Type 0)
    → IsLawful (web_spec_by g files) represented
web_lawful g files represented = record {
  newdata_grows = λ hits part piece s. record { text = newdata_grows g files part piece; offset = refl };
  prepare_grows = λ hits part now s.
      either_grows g files part (record { numbers = hits; now = now })
      (is_acknowledged_by g files part && waits_for_capture_by g files (wanted part.input) part);
  acked_moves = λ hits part n s h. (refl, refl);
  polled_keeps = λ hits part s. (refl, refl);
  sends = λ hits part s. can_send g files part;
}

pub web_starts : {F : Type 0} (g : ScriptFunctions F) (files : List File) → StartsAnew (web_spec_by g files)
web_starts g files hits port = (refl, refl)
