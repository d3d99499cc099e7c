-- The forms of the lines that state what happens, by their words.
-- [add: schedule-line] Its form.
use Rattle.std.specs.Prelude.{if◌then◌else◌, ◌∷◌, [], bytes_eq, codes, Err, List, Ok, Result, ℕ}
use Rattle.link_schedule.specs.declared.event.Event.{Event}
use Rattle.link_schedule.specs.declared.event.Event.TheVariants.{Opens, Again, Closes, Aborts, Window, Ping, Give}
use Rattle.link_schedule.specs.declared.event.Event.TheVariants.{Damage, Tick, Round, Twice, Reverse, Half, Lose}
use Rattle.link_schedule.specs.declared.why.Why.{Why}
use Rattle.link_schedule.specs.declared.why.Why.TheVariants.{Form}
use Rattle.link_schedule.specs.Numbers.{◌>>=◌, within, named, address}

-- a form by its verb: the first one with this verb
abbrev pub by_verb : List ℕ → List (List ℕ × Result Event Why) → Result Event Why
by_verb verb [] = Err Form
by_verb verb (form ∷ forms) = if bytes_eq verb form.0 then form.1 else by_verb verb forms

abbrev pub bare_forms : List (List ℕ × Result Event Why)
bare_forms =
    (codes "tick", Ok (Tick 1)) ∷ (codes "round", Ok Round) ∷ (codes "twice", Ok Twice) ∷ (codes "reverse", Ok Reverse)
    ∷ (codes "half", Ok Half) ∷ (codes "lose", Ok Lose) ∷ []

-- a verb alone
unfoldable pub bare : List ℕ → Result Event Why
bare verb = by_verb verb bare_forms

-- `open C`, `again C`, `close C`, `abort C`, `ping ADDR`, `give K`, `tick N`
abbrev pub forms_with_one : ℕ → List ℕ → List (List ℕ × Result Event Why)
forms_with_one clients word =
    (codes "open", named clients word >>= λ c. Ok (Opens c))
    ∷ (codes "again", named clients word >>= λ c. Ok (Again c))
    ∷ (codes "close", named clients word >>= λ c. Ok (Closes c))
    ∷ (codes "abort", named clients word >>= λ c. Ok (Aborts c))
    ∷ (codes "ping", address word >>= λ source. Ok (Ping source))
    ∷ (codes "give", within 0 4294967295 word >>= λ k. Ok (Give k))
    ∷ (codes "tick", within 1 300 word >>= λ n. Ok (Tick n))
    ∷ []

-- a verb and one word
unfoldable pub with_one : ℕ → List ℕ → List ℕ → Result Event Why
with_one clients verb word = by_verb verb (forms_with_one clients word)

-- `window C W`
abbrev pub window : ℕ → List ℕ → List ℕ → Result Event Why
window clients client size = do
  w ← within 0 65535 size
  c ← named clients client
  Ok (Window c w)

-- `damage K I X`
abbrev pub damage : List ℕ → List ℕ → List ℕ → Result Event Why
damage number place change = do
  k ← within 0 4294967295 number
  i ← within 0 65535 place
  x ← within 1 255 change
  Ok (Damage k i x)

-- the words of a line, after lines that made this number of clients
abbrev pub event_of_words : ℕ → List (List ℕ) → Result Event Why
event_of_words clients (verb ∷ []) = bare verb
event_of_words clients (verb ∷ one ∷ []) = with_one clients verb one
event_of_words clients (verb ∷ one ∷ two ∷ []) = by_verb verb ((codes "window", window clients one two) ∷ [])
event_of_words clients (verb ∷ one ∷ two ∷ three ∷ []) = by_verb verb ((codes "damage", damage one two three) ∷ [])
event_of_words clients words = Err Form
