-- The result of reading a text.
use Rattle.std.specs.Prelude.{◌≡◌, Result, Ok, Err}
use Rattle.link_schedule.specs.declared.read_schedule.ReadSchedule.{ReadSchedule}
use Rattle.link_schedule.specs.declared.read_schedule.ReadSchedule.TheVariants.{Bad, NoMemory}
use Rattle.link_schedule.specs.Reading.{BadText, SchedulePlan}

-- The schedule that the text spells, or its first bad line. Nothing is claimed if memory ran out.
abbrev pub ReadsSchedule : Result SchedulePlan ReadSchedule → Result SchedulePlan BadText → Type 0
ReadsSchedule (Ok schedule) meant = meant ≡ Ok schedule
ReadsSchedule (Err (Bad line why)) meant = meant ≡ Err (record { line = line; why = why })
ReadsSchedule (Err NoMemory) meant = Unit {0}
