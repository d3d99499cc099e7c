-- The lines of a schedule as lists of acts, and the mark.
-- [add: schedule-line] The acts that it is.
use Rattle.std.specs.List.{range_with_len}
use Rattle.std.specs.Prelude.{ℕ, ◌+◌, ◌-◌, ◌%◌, ◌==◌, List, [], ◌∷◌, length, map, filter}
use Rattle.std.specs.Prelude.{flat_map, replicate, reverse, max, Bool, Result, Ok}
use Rattle.std.specs.Result.{result_map_both}
use Rattle.app_events.specs.Prelude.{AppSpec}
use Rattle.link_schedule.specs.Numbers.{◌>>=◌}
use Rattle.link_world.specs.World.{World}
use Rattle.link_world.specs.Acts.{runs}
use Rattle.link_world.specs.declared.act.Act.{Act}
use Rattle.link_schedule.specs.declared.event.Event.{Event}
use Rattle.link_schedule.specs.declared.event.Event.TheVariants.{Opens, Again, Closes, Aborts, Window, Ping, Give}
use Rattle.link_schedule.specs.declared.event.Event.TheVariants.{Damage, Tick, Round, Twice, Reverse, Half, Lose}
use Rattle.link_world.specs.declared.step_fault.StepFault.{StepFault}

-- the numbers of the datagrams sent above the mark
abbrev pub past_mark : World → List ℕ
past_mark w = range_with_len (w.mark + 1) (length w.sent - w.mark)

abbrev pub acts_of : World → Event → List Act
acts_of w (Opens number) = Act.Opens number ∷ []
acts_of w (Again number) = Act.Again number ∷ []
acts_of w (Closes number) = Act.Closes number ∷ []
acts_of w (Aborts number) = Act.Aborts number ∷ []
acts_of w (Window number window) = Act.Window number window ∷ []
acts_of w (Ping source) = Act.Ping source ∷ []
acts_of w (Give k) = Act.Give k ∷ []
acts_of w (Damage k at mask) = Act.Damage k at mask ∷ []
acts_of w (Tick n) = replicate n Act.Tick
acts_of w Round = map Act.Give (past_mark w)
acts_of w Twice = flat_map (λ k. Act.Give k ∷ Act.Give k ∷ []) (past_mark w)
acts_of w Reverse = map Act.Give (reverse (past_mark w))
acts_of w Half = map Act.Give (filter (λ k. k % 2 == 1) (past_mark w))
acts_of w Lose = []

-- the mark after a line: a round passes everything sent before it, delivered or not
abbrev pub mark_after : World → Event → ℕ
mark_after w Round = max w.mark (length w.sent)
mark_after w Twice = max w.mark (length w.sent)
mark_after w Reverse = max w.mark (length w.sent)
mark_after w Half = max w.mark (length w.sent)
mark_after w Lose = max w.mark (length w.sent)
mark_after w _ = w.mark

abbrev pub plays_line : AppSpec → (ℕ → Bool) → World → Event → Result World StepFault
plays_line m served w event = runs m served (acts_of w event) w >>= λ v. Ok (record v { mark = mark_after w event })

-- The index of the first line that is refused, counted from 0, and the reason.
pub record BadLine : Type 0 where
  pub place : ℕ
  pub why : StepFault

abbrev pub plays_from : AppSpec → (ℕ → Bool) → ℕ → List Event → World → Result World BadLine
plays_from m served place [] w = Ok w
plays_from m served place (event ∷ more) w =
    result_map_both (λ v. v) (λ why. record { place = place; why = why }) (plays_line m served w event)
    >>= plays_from m served (place + 1) more

abbrev pub plays : AppSpec → (ℕ → Bool) → List Event → World → Result World BadLine
plays m served events w = plays_from m served 0 events w
