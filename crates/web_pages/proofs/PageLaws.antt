-- The web server of a site satisfies the laws from which the guarantee follows.
use Rattle.web_pages.proofs.Prelude.{All, ◌≡◌, ℕ, ◌+◌, ◌%◌, ◌^◌, Bool, true, false, ◌&&◌, List, [], ◌∷◌, ◌++◌, Option, Some, None, refl}
use Rattle.web_pages.proofs.Prelude.{inl, inr, ◌⊎◌, arith, if◌then◌else◌, slice_index_or, All-set, File, files_of, AppState, Snapshot}
use Rattle.web_pages.proofs.Prelude.{IsU32, ScriptFunctions, AreShort, uip, Wanted, wanted, NotYet, Refused, Name, place_of, hit_at}
use Rattle.web_pages.proofs.Prelude.{hits_by, is_acknowledged_by, waits_for_capture_by, page_grows, page_stays, with_capture, may_want}
use Rattle.web_pages.proofs.Prelude.{KeepsPageLaws, KeepsPageLawsBy}
use Rattle.web_pages.proofs.Limits.{page_short, uip_short, uip_sound}

hit_words : (hits : List ℕ) (place : Option ℕ) → All IsU32 hits → All IsU32 (hit_at hits place)
hit_words hits None all = all
hit_words hits (Some place) all = All-set IsU32 hits place ((slice_index_or hits place 0 + 1) % 2 ^ 32) (omega arith) all

hits_words : (files : List File) (hits : List ℕ) (before after : Wanted) → All IsU32 hits → All IsU32 (hits_by files hits before after)
hits_words files hits NotYet NotYet all = all
hits_words files hits NotYet Refused all = all
hits_words files hits NotYet (Name name) all = hit_words hits (place_of files name) all
hits_words files hits Refused after all = all
hits_words files hits (Name name) after all = all

abbrev either : Bool → AppState → Snapshot → AppState
either waits part capture = if waits then with_capture part capture else part

either_received : (waits : Bool) (part : AppState) (capture : Snapshot) → (either waits part capture).input ≡ part.input
either_received true part capture = refl
either_received false part capture = refl

either_captures : (waits : Bool) (part : AppState) (capture : Snapshot)
    → ((either waits part capture).snapshots ≡ part.snapshots) ⊎ ((either waits part capture).snapshots ≡ part.snapshots ++ capture ∷ [])
either_captures true part capture = inr refl
either_captures false part capture = inl refl

either_acked : (waits : Bool) (part : AppState) (capture : Snapshot) → (either waits part capture).acked ≡ part.acked
either_acked true part capture = refl
either_acked false part capture = refl

abbrev waits : {F : Type 0} → ScriptFunctions F → List File → AppState → Bool
waits g files part = is_acknowledged_by g files part && waits_for_capture_by g files (wanted part.input) part

pub keeps_page_laws_by : {F : Type 0} (g : ScriptFunctions F) → AreShort g → KeepsPageLawsBy g
keeps_page_laws_by g short site is sound = record {
  grows = λ q more k later. page_grows g (files_of site) q more k later;
  stays = λ q more k later whole. (page_stays g (files_of site) q more k later whole).0;
  stays_complete = λ q more k later whole. (page_stays g (files_of site) q more k later whole).1;
  short = λ q k all. page_short g short site is sound q k all;
  output = λ part. refl;
  connected_input = λ hits port. refl;
  connected_snapshots = λ hits port. refl;
  connected_acked = λ hits port. refl;
  newdata_input = λ hits part piece. refl;
  newdata_snapshots = λ hits part piece. refl;
  newdata_acked = λ hits part piece. refl;
  prepare_input = λ hits part now. either_received (waits g (files_of site) part) part (record { numbers = hits; now = now });
  prepare_snapshots = λ hits part now. either_captures (waits g (files_of site) part) part (record { numbers = hits; now = now });
  prepare_acked = λ hits part now. either_acked (waits g (files_of site) part) part (record { numbers = hits; now = now });
  acked_input = λ hits part n. refl;
  acked_snapshots = λ hits part n. refl;
  acked_moves = λ hits part n. refl;
  polled_same = λ hits part. record { input = refl; snapshots = refl; acked = refl };
  wants = λ hits part. may_want g (files_of site) part;
  connected_numbers = λ hits port all. all;
  newdata_numbers = λ hits part piece all. hits_words (files_of site) hits (wanted part.input) (wanted (part.input ++ piece)) all;
  acked_numbers = λ hits part n all. all;
  polled_numbers = λ hits part all. all;
  ended_numbers = λ hits part how all. all;
}

pub keeps_page_laws : KeepsPageLaws
keeps_page_laws site is = keeps_page_laws_by uip uip_short site is (uip_sound site is)
