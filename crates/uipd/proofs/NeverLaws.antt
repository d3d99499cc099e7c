-- Only words without a form are reported to have none.
use Rattle.uipd.proofs.Prelude.{◌≡◌, ℕ, List, Option, sym, ◌∙◌, inl, inr, ServeEnd, LoadFault, SiteEnd, ReplayEnd, SiteServes, RunsAs}
use Rattle.uipd.proofs.Prelude.{status_of_fault, status_of_replay, status_of_serving, status_of_site, ServedLine, Status, BadWords, Outside}
use Rattle.uip_edge.specs.declared.serve_end.ServeEnd.TheVariants as serves
use Rattle.file_tree.specs.declared.load_fault.LoadFault.TheVariants as loads
use Rattle.site_commands.specs.declared.site_end.SiteEnd.TheVariants as ends
use Rattle.link_replay.specs.declared.commands.replay_end.ReplayEnd.TheVariants as replays

serving_has_words : (end : ServeEnd) → status_of_serving end ≡ BadWords → ⊥
serving_has_words serves.End e = cc
serving_has_words serves.LinkFault e = cc
serving_has_words serves.WriteFault e = cc
serving_has_words serves.Budget e = cc

fault_has_words : (fault : LoadFault) → status_of_fault fault ≡ BadWords → ⊥
fault_has_words loads.Shelf e = cc
fault_has_words (loads.Bad error) e = cc
fault_has_words loads.NoMemory e = cc

site_has_words : (end : SiteEnd) → status_of_site end ≡ BadWords → ⊥
site_has_words ends.Done e = cc
site_has_words ends.ShelfFault e = cc
site_has_words ends.WriteFault e = cc
site_has_words (ends.Bad error) e = cc
site_has_words ends.NoMemory e = cc

replay_has_words : (end : ReplayEnd) → status_of_replay end ≡ BadWords → ⊥
replay_has_words replays.Done e = cc
replay_has_words replays.ShelfFault e = cc
replay_has_words replays.WriteFault e = cc
replay_has_words (replays.BadSite error) e = cc
replay_has_words (replays.BadSchedule line why) e = cc
replay_has_words replays.NoMemory e = cc

never : {E : Type 0} (status_of : E → Status) (Ends : E → Type 0) (result : Status) → ((end : E) → status_of end ≡ BadWords → ⊥)
    → RunsAs status_of Ends result → result ≡ BadWords → ⊥
never status_of Ends result has run e = has run.0 (sym run.1 ∙ e)

pub site_never : (Ends : SiteEnd → Type 0) (result : Status) → RunsAs status_of_site Ends result → result ≡ BadWords → ⊥
site_never Ends result run e = never status_of_site Ends result site_has_words run e

pub replay_never : (Ends : ReplayEnd → Type 0) (result : Status) → RunsAs status_of_replay Ends result → result ≡ BadWords → ⊥
replay_never Ends result run e = never status_of_replay Ends result replay_has_words run e

pub serving_never : (site : List ℕ) (line : ServedLine) (old new : Outside) (result : Status) → SiteServes site line old new result → result ≡ BadWords → ⊥
serving_never site line old new result (inr none) e = fault_has_words none.fault (sym none.reported ∙ e)
serving_never site line old new result (inl has) e =
    elim has.done [ inl run ↦ serving_has_words run.0 (sym run.1 ∙ e) | inr short ↦ (let no = sym short.0 ∙ e in cc) ]
