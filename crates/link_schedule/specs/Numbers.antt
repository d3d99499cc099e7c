-- The numbers and addresses in the words of a line.
use Rattle.std.specs.Option.{option_map_or}
use Rattle.std.specs.Prelude.{ℕ, ◌&&◌, nat_le, if◌then◌else◌, List, Option, Result, Ok, Err}
use Rattle.uip_wire.specs.Prelude.{quad_of, is_numeral, numeral}
use Rattle.uip_wire.specs.declared.addr.Addr.{Addr}
use Rattle.link_schedule.specs.declared.why.Why.{Why}
use Rattle.link_schedule.specs.declared.why.Why.TheVariants.{Form, NoClient}

-- what follows a part, if the part has no fault
infixl 10 ◌>>=◌
abbrev pub ◌>>=◌ : {A B E : Type 0} → Result A E → (A → Result B E) → Result B E
(Ok x) >>= f = f x
(Err why) >>= f = Err why

-- a number of a range
abbrev pub in_range : ℕ → ℕ → Why → Option ℕ → Result ℕ Why
in_range low high why number = option_map_or (λ n. if nat_le low n && nat_le n high then Ok n else Err why) number (Err why)

abbrev pub within : ℕ → ℕ → List ℕ → Result ℕ Why
within low high word = in_range low high Form (numeral word)

-- the number of one of this number of clients
abbrev pub named : ℕ → List ℕ → Result ℕ Why
named clients word = if is_numeral word then in_range 1 clients NoClient (numeral word) else Err Form

-- an address as a dotted quad
abbrev pub address : List ℕ → Result Addr Why
address word = option_map_or (λ quad. Ok (record { 0 = quad })) (quad_of word) (Err Form)
