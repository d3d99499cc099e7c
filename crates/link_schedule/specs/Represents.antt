-- How what the code has read represents what the text spells.
use Rattle.std.specs.Prelude.{◌≡◌, ℕ, List, length, Result, Ok, Err}
use Rattle.std.specs.Global.{Vec}
use Rattle.link_schedule.specs.declared.line.Line.{Line}
use Rattle.link_schedule.specs.declared.why.Why.{Why}
use Rattle.link_schedule.specs.declared.refusal.Refusal.{Refusal}
use Rattle.link_schedule.specs.declared.refusal.Refusal.TheVariants.{Faulty, NoMemory}
use Rattle.link_schedule.specs.declared.read_schedule.ReadSchedule.{ReadSchedule}
use Rattle.link_schedule.specs.declared.read_schedule.ReadSchedule.TheVariants.{Bad, NoMemory as NoRoom}
use Rattle.link_schedule.specs.Numbers.{◌>>=◌}
use Rattle.link_schedule.specs.Clients.{Plan, plan_of}
use Rattle.link_schedule.specs.Reading.{SchedulePlan, with_plan}

abbrev pub request_at : Vec ℕ → List ℕ
request_at request = request.items

abbrev pub content_of : List Plan → List Line → SchedulePlan
content_of clients lines = record { clients = clients; lines = lines }

-- the result is what is spelled, or memory ran out
abbrev pub GivesAs : {A B : Type 0} → (A → B) → Result A Refusal → Result B Why → Type 0
GivesAs at (Ok x) meant = meant ≡ Ok (at x)
GivesAs at (Err (Faulty why)) meant = meant ≡ Err why
GivesAs at (Err NoMemory) meant = Unit {0}

-- the same for a client's plan, as plain data
abbrev pub GivesPlan : Result Plan Refusal → Result Plan Why → Type 0
GivesPlan result meant = GivesAs (λ plan. plan) result meant

-- a line was read into what follows it, or refused, or memory ran out
abbrev pub LineGives : Result (Unit {0}) Refusal → SchedulePlan → Result SchedulePlan Why → Type 0
LineGives (Ok done) after meant = meant ≡ Ok after
LineGives (Err (Faulty why)) after meant = meant ≡ Err why
LineGives (Err NoMemory) after meant = Unit {0}

-- the same for a client's line, whatever the other lines have
abbrev pub ClientGives : Result (Unit {0}) Refusal → List Plan → (SchedulePlan → Result SchedulePlan Why) → List Plan → Type 0
ClientGives result after meant before =
    (lines : List Line) → LineGives result (content_of after lines) (meant (content_of before lines))

-- the same for another line, after this number of clients
abbrev pub EventGives : Result (Unit {0}) Refusal → ℕ → List Line → (SchedulePlan → Result SchedulePlan Why) → List Line → Type 0
EventGives result count after meant before =
    (clients : List Plan) → length clients ≡ count → LineGives result (content_of clients after) (meant (content_of clients before))

-- the words after `client`
abbrev pub read_client : List (List ℕ) → SchedulePlan → Result SchedulePlan Why
read_client words above = plan_of words >>= with_plan above

-- a line's refusal, with its number
abbrev pub reported : ℕ → Refusal → ReadSchedule
reported line (Faulty why) = Bad line why
reported line NoMemory = NoRoom
