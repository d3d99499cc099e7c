-- What is due for a schedule that was played by the server of a site.
use Rattle.link_replay.proofs.Prelude.{All, ◌≡◌, ℕ, List, Result, Ok, Err, length, sym, subst, refl, inl, inr, ap, ◌∙◌, Bool, lit<}
use Rattle.link_replay.proofs.Prelude.{All-replicate, AppSpec, IsByte, IsPaged, IsU32, Pages, SiteContent, IsLoaded, files_of, File}
use Rattle.link_replay.proofs.Prelude.{pages_of, web_spec, keeps_page_laws, ReadsSchedule, IfOk, MatchResult, Some, slice_get, BadText}
use Rattle.link_replay.proofs.Prelude.{SchedulePlan, read_text, ReadSchedule, Bad, HasBytes, plays, World, plan_from, PlaysSchedule}
use Rattle.link_replay.proofs.Prelude.{Reaches, Refuses, IsAt, bad_schedule, outcome, is_served, no_hits, WritesDue, IsPlayDue, IsTextDue}
use Rattle.link_replay.proofs.Prelude.{WritesFault, reported_of, HasReached, ServesHonest, KeepsPromises, ReplayEnd, OutputForm, Report}
use Rattle.link_replay.proofs.Prelude.{Planned, IsPlanned, WritesEnd, SinkView}
use Rattle.link_schedule.specs.declared.read_schedule.ReadSchedule.TheVariants.{NoMemory}
use Rattle.link_replay.specs.declared.commands.replay_end.ReplayEnd.TheVariants as ends
use Rattle.link_replay.proofs.Honest.{honest_at}
use Rattle.link_replay.proofs.Kept.{has_bytes, keeps_promises}

-- what a schedule is played for, given that the server has pages of bytes and counts that are words
abbrev pub ForPages : List File → List ℕ → Type 0 → Type 0
ForPages files hits Done = (pages : Pages) → IsPaged (web_spec files) pages → HasBytes pages → All IsU32 hits → Done

-- what holds of a site that was loaded holds of the one that it is
pub at_site : (P : SiteContent → Type 0) (site given : SiteContent) (hits : List ℕ) → site ≡ given → IsLoaded given → All IsByte given.image
    → hits ≡ no_hits (files_of given)
    → (IsLoaded site → All IsByte site.image → hits ≡ no_hits (files_of site) → P site) → P given
at_site P site given hits same loaded bytes none done =
    subst P same
    (done (subst IsLoaded (sym same) loaded) (subst (λ (s : SiteContent). All IsByte s.image) (sym same) bytes)
    (none ∙ ap (λ (s : SiteContent). no_hits (files_of s)) (sym same)))

-- a site has pages, and its counts are words before the first request
web_has : (site : SiteContent) → IsLoaded site → All IsByte site.image → (hits : List ℕ) → hits ≡ no_hits (files_of site)
    → (Done : Type 0) → ForPages (files_of site) hits Done → Done
web_has site loaded bytes hits none Done for =
    for (pages_of (files_of site)) (keeps_page_laws site loaded) (has_bytes site bytes)
    (subst (All IsU32) (sym none) (All-replicate IsU32 (length (files_of site)) 0 (lit< tt)))

-- what a schedule is played to by the server of a site
pub plays_for_site : {X : Type 0} (Now : X → World → Type 0) (content : SchedulePlan) (result : Result X ReadSchedule)
    (site given : SiteContent) (hits : List ℕ) → site ≡ given → IsLoaded given → All IsByte given.image → hits ≡ no_hits (files_of given)
    → ForPages (files_of site) hits (PlaysSchedule (web_spec (files_of site)) is_served hits content Now result)
    → PlaysSchedule (web_spec (files_of given)) is_served (no_hits (files_of given)) content Now result
plays_for_site Now content result site given hits same loaded bytes none plays_for =
    at_site (λ (s : SiteContent). PlaysSchedule (web_spec (files_of s)) is_served (no_hits (files_of s)) content Now result) site given hits
    same loaded bytes none
    (λ here all_bytes counts. subst (λ (h : List ℕ). PlaysSchedule (web_spec (files_of site)) is_served h content Now result) counts
    (web_has site here all_bytes hits counts (PlaysSchedule (web_spec (files_of site)) is_served hits content Now result) plays_for))

module _ {X : Type 0} (Now : X → World → Type 0) (content : SchedulePlan) (site : SiteContent) (loaded : IsLoaded site) where
  -- what holds for a world that the schedule reaches
  reached_where : (P : World → Type 0) (x : X) (reach : Reaches (web_spec (files_of site)) is_served (Now x) (outcome (files_of site) content))
      → P reach.world → HasReached (files_of site) content (Now x) P
  reached_where P x reach holds = record { world = reach.world; plays = reach.meant_so; represents = reach.now; holds = holds }

  -- the world that is reached keeps its promises
  pub reached_keeps : All IsByte site.image → (result : Result X ReadSchedule)
      → PlaysSchedule (web_spec (files_of site)) is_served (no_hits (files_of site)) content Now result
      → IfOk result (λ x. HasReached (files_of site) content (Now x) (KeepsPromises (files_of site)))
  reached_keeps bytes (Err fault) plays = tt
  reached_keeps bytes (Ok x) plays =
      let reach : Reaches (web_spec (files_of site)) is_served (Now x) (outcome (files_of site) content) = plays in
      reached_where (KeepsPromises (files_of site)) x reach (keeps_promises site loaded bytes is_served reach.world reach.at)

  -- in the world that is reached an honest client is served whole
  pub reached_serves : (result : Result X ReadSchedule)
      → IfOk result (λ x. (k : ℕ) (p : Planned) → slice_get (plan_from 1 content.clients) k ≡ Some p → IsPlanned p)
      → PlaysSchedule (web_spec (files_of site)) is_served (no_hits (files_of site)) content Now result
      → IfOk result (λ x. HasReached (files_of site) content (Now x) (ServesHonest (files_of site) content))
  reached_serves (Err fault) are_planned plays = tt
  reached_serves (Ok x) are_planned plays =
      let reach : Reaches (web_spec (files_of site)) is_served (Now x) (outcome (files_of site) content) = plays in
      reached_where (ServesHonest (files_of site) content) x reach (honest_at site loaded content are_planned reach.world reach.meant_so)

module _ (site : SiteContent) (loaded : IsLoaded site) (content : SchedulePlan) (chosen_form : OutputForm) (old new : SinkView) (result : ReplayEnd) where
  -- the schedule was played to its end, and its world reported
  pub played_due : All IsByte site.image → (Now : World → Type 0)
      → ((k : ℕ) (p : Planned) → slice_get (plan_from 1 content.clients) k ≡ Some p → IsPlanned p)
      → Reaches (web_spec (files_of site)) is_served Now (outcome (files_of site) content)
      → ((m : AppSpec) (served : ℕ → Bool) (w : World) → Now w → IsAt m served w → WritesEnd ends.Done ends.WriteFault old new
      (reported_of chosen_form w) result)
      → WritesDue (IsPlayDue (files_of site) content chosen_form) old new result
  played_due bytes Now are_planned reach wrote =
      let due : IsPlayDue (files_of site) content chosen_form (reported_of chosen_form reach.world) ends.Done = record {
        world = reach.world;
        plays = reach.meant_so;
        reported = refl;
        promises = keeps_promises site loaded bytes is_served reach.world reach.at;
        honest = honest_at site loaded content are_planned reach.world reach.meant_so;
      } in
      inl (reported_of chosen_form reach.world, ends.Done, due, wrote (web_spec (files_of site)) is_served reach.world reach.now reach.at)

  -- a line of it was refused, and is reported
  pub refused_due : {X : Type 0} (Now : X → World → Type 0) (fault : ReadSchedule)
      → PlaysSchedule (web_spec (files_of site)) is_served (no_hits (files_of site)) content Now (Err fault)
      → WritesFault fault old new result → WritesDue (IsPlayDue (files_of site) content chosen_form) old new result
  refused_due Now NoMemory plays short = inr short
  refused_due Now (Bad line why) plays (inr short) = inr short
  refused_due Now (Bad line why) plays (inl wrote) =
      let refuses : Refuses content.lines (outcome (files_of site) content) line why = plays in
      inl (bad_schedule line why, ends.BadSchedule line why, (refuses, refl), wrote)

-- what is due where a text reads so
abbrev ReadDue : List File → Bool → List ℕ → ReplayEnd → Result SchedulePlan BadText → Type 0
ReadDue files show text end r =
    MatchResult r (λ content. IsPlayDue files content (Report show) text end) (λ bad. (end ≡ ends.BadSchedule bad.line bad.why)
    × (text ≡ bad_schedule bad.line bad.why))

pub text_answers : (files : List File) (bytes : List ℕ) (content : SchedulePlan) (show : Bool) → read_text bytes ≡ Ok content
    → (old new : SinkView) (result : ReplayEnd) → WritesDue (IsPlayDue files content (Report show)) old new result
    → WritesDue (IsTextDue files bytes show) old new result
text_answers files bytes content show reads old new result (inl reported) =
    inl (reported.0, reported.1, subst (ReadDue files show reported.0 reported.1) {x = Ok content} (sym reads) reported.2, reported.3)
text_answers files bytes content show reads old new result (inr short) = inr short

-- the text does not read, and its first bad line is reported
pub text_refused : (files : List File) (bytes : List ℕ) (show : Bool) (fault : ReadSchedule) → ReadsSchedule (Err fault) (read_text bytes)
    → (old new : SinkView) (result : ReplayEnd) → WritesFault fault old new result
    → WritesDue (IsTextDue files bytes show) old new result
text_refused files bytes show NoMemory reads old new result short = inr short
text_refused files bytes show (Bad line why) reads old new result (inr short) = inr short
text_refused files bytes show (Bad line why) reads old new result (inl wrote) =
    inl (
      bad_schedule line why,
      ends.BadSchedule line why,
      subst (ReadDue files show (bad_schedule line why) (ends.BadSchedule line why)) {x = Err (record { line = line; why = why })} (sym reads) (refl, refl),
      wrote,
    )
