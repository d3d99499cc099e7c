-- What a run does that may also write to a second output.
-- [add: told-command] What a run of it does.
use Rattle.std.specs.Prelude.{◌≡◌, ◌⊎◌, ℕ, List, Option, None, Some}
use Rattle.udp_resolver.specs.Prelude.{Question, questions, Resolves, Streams}
use Rattle.uipd.specs.ResolveWords.{Resolving, resolving_of}
use Rattle.uipd.specs.Running.{Runs}
use Rattle.uipd.specs.Statuses.{RunsAs, status_of_serving}
use Rattle.uip_edge.specs.Prelude.{Outside}
use Rattle.uipd.specs.declared.status.Status.{Status}
use Rattle.uipd.specs.declared.status.Status.TheVariants.{NoMemory}

-- the questions asked
abbrev pub questions_of : Resolving → List Question
questions_of r = questions (record { own = r.own; server = r.server; id = r.id }) r.names

-- A run of `resolve` ends as the resolver does, or memory ran out and everything is unchanged.
abbrev pub ResolveRuns : Resolving → Streams → Streams → Status → Type 0
ResolveRuns r old new result =
    RunsAs status_of_serving (Resolves (questions_of r) r.items old new) result ⊎ ((result ≡ NoMemory) × (new ≡ old))

-- The words of `resolve` are carried out here, and all others as `run` does.
abbrev pub ReportedBy : Option Resolving → List (List ℕ) → Outside → Outside → Streams → Streams → Status → Type 0
ReportedBy None words old new before after result = Runs words old new result
ReportedBy (Some r) words old new before after result = ResolveRuns r before after result

abbrev pub ReportedRuns : List (List ℕ) → Outside → Outside → Streams → Streams → Status → Type 0
ReportedRuns words old new before after result = ReportedBy (resolving_of words) words old new before after result
