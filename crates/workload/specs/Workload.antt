-- The schedule of a seed.
use Rattle.std.specs.Prelude.{ℕ, ◌+◌, ◌/◌, ◌%◌, ◌==◌, Bool, List, [], ◌∷◌, ◌++◌, map, flat_map}
use Rattle.std.specs.Prelude.{replicate, if◌then◌else◌, codes, slice_get, unwrap_or}
use Rattle.std.specs.List.{enumerate_from, range_with_len}
use Rattle.rand_core.specs.Steps.{first_words}
use Rattle.rand_pcg.specs.Lcg.{increment_of, started}
use Rattle.rand_pcg.specs.Pcg.{multiplier_64, pcg32}
use Rattle.link_schedule.specs.declared.event.Event.{Event}
use Rattle.link_schedule.specs.declared.event.Event.TheVariants.{Opens, Again, Tick, Round, Twice, Reverse, Half, Lose}
use Rattle.link_schedule.specs.declared.line.Line.{Line}
use Rattle.link_schedule.specs.Clients.{Plan}
use Rattle.link_schedule.specs.Reading.{SchedulePlan}

-- Client k, at 10.0.1.k and port 1024 + k. An odd one advertises no MSS, and requests the front page; an even one advertises
-- 200, and requests the script.
abbrev pub client_of : ℕ → Plan
client_of k = record {
  addr = record { 0 = 10 ∷ 0 ∷ 1 ∷ k ∷ [] };
  port = record { 0 = 1024 + k };
  mss = if k % 2 == 1 then 0 else 200;
  seg = 16;
  request = if k % 2 == 1 then codes "GET / HTTP/1.0\r\n\r\n" else codes "GET /stats.shtml HTTP/1.0\r\n\r\n";
}

-- three of eight words deliver all, and the others disturb the link
abbrev pub event_drawn : ℕ → ℕ → Event
event_drawn rest client =
    unwrap_or (slice_get (Round ∷ Round ∷ Round ∷ Twice ∷ Reverse ∷ Half ∷ Lose ∷ []) rest) (Again client)

-- what a word causes, and a tick
abbrev pub happens : ℕ → ℕ → List Event
happens clients word = event_drawn (word % 8) (1 + word / 8 % clients) ∷ Tick 1 ∷ []

-- the words of a seed, from the first on
abbrev pub words_from : ℕ → List ℕ
words_from seed = first_words pcg32 200 (started 64 multiplier_64 seed (increment_of 64 54))

-- each client opens, two hundred words are drawn, and forty rounds follow
abbrev pub events_of : ℕ → ℕ → List Event
events_of seed clients =
    map (λ k. Opens k) (range_with_len 1 clients) ++ flat_map (happens clients) (words_from seed) ++ replicate 40 Round

-- lines from a number on
abbrev pub numbered_from : ℕ → List Event → List Line
numbered_from number events = map (λ p. record { at = p.0; event = p.1 }) (enumerate_from number events)

-- the lines come after those of the clients
abbrev pub workload_of : ℕ → ℕ → SchedulePlan
workload_of seed clients = record {
  clients = map client_of (range_with_len 1 clients);
  lines = numbered_from (clients + 1) (events_of seed clients);
}
