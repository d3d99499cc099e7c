-- The slot that a plain SYN takes: the first CLOSED one, else the one that has been in TIME-WAIT the longest, the first among equals. The
-- definitions hold for a table of any kind that has for each slot a state and the ticks in TIME-WAIT.
use Rattle.std.specs.Prelude.{ℕ, ◌==◌, ◌&&◌, Bool, not, max, List, [], ◌∷◌, Option, position, if◌then◌else◌}
use Rattle.std.specs.Option.{option_or}
use Rattle.app_events.specs.Prelude.{is_live, is_time_wait}
use Rattle.app_events.specs.declared.state.State.{State}
use Rattle.tcp_table.specs.declared.conn.Conn.{Conn}

-- The longest time, in ticks, that any has been in TIME-WAIT; 0 if none is.
abbrev pub longest_wait : {C : Type 0} → (C → State) → (C → ℕ) → List C → ℕ
longest_wait state ticks [] = 0
longest_wait state ticks (c ∷ cs) = max (if is_time_wait (state c) then ticks c else 0) (longest_wait state ticks cs)

abbrev pub slot_by : {C : Type 0} → (C → State) → (C → ℕ) → List C → Option ℕ
slot_by state ticks cs =
    option_or (position (λ c. not (is_live (state c))) cs)
    (position (λ c. is_time_wait (state c) && (ticks c == longest_wait state ticks cs)) cs)

-- For connections: the timer counts the ticks in TIME-WAIT.
abbrev pub waited : {A : Type 0} → Conn A → ℕ
waited c = if is_time_wait c.state then c.timer.count else 0

abbrev pub longest_rest : {A : Type 0} → List (Conn A) → ℕ
longest_rest cs = longest_wait (λ c. c.state) (λ c. c.timer.count) cs

abbrev pub has_waited : {A : Type 0} → ℕ → Conn A → Bool
has_waited ticks c = is_time_wait c.state && (c.timer.count == ticks)

abbrev pub slot_to_take : {A : Type 0} → List (Conn A) → Option ℕ
slot_to_take cs = slot_by (λ c. c.state) (λ c. c.timer.count) cs
