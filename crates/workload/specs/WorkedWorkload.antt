-- Parts of workloads worked by hand.
use Rattle.std.specs.Prelude.{◌≡◌, [], ◌∷◌, length, codes}
use Rattle.rand_core.specs.Steps.{first_words}
use Rattle.rand_pcg.specs.Lcg.{increment_of, started}
use Rattle.rand_pcg.specs.Pcg.{multiplier_64, pcg32}
use Rattle.link_schedule.specs.declared.event.Event.TheVariants.{Again, Tick, Round}
use Rattle.workload.specs.Workload.{happens, workload_of}

pub record AreWorkedWorkloads : Type 0 where
  -- the first word of the generator's reference text
  pub first_word : first_words pcg32 1 (started 64 multiplier_64 42 (increment_of 64 54)) ≡ 0xa15c02b7 ∷ []
  -- one client opens, two hundred words give two lines each, and forty rounds follow
  pub lines_of_one : length (workload_of 42 1).lines ≡ 441
  pub clients_of_two : (workload_of 42 2).clients
      ≡ record {
        addr = record { 0 = 10 ∷ 0 ∷ 1 ∷ 1 ∷ [] };
        port = record { 0 = 1025 };
        mss = 0;
        seg = 16;
        request = codes "GET / HTTP/1.0\r\n\r\n";
      }
      ∷ record {
        addr = record { 0 = 10 ∷ 0 ∷ 1 ∷ 2 ∷ [] };
        port = record { 0 = 1026 };
        mss = 200;
        seg = 16;
        request = codes "GET /stats.shtml HTTP/1.0\r\n\r\n";
      }
      ∷ []
  pub again : happens 3 15 ≡ Again 2 ∷ Tick 1 ∷ []
  pub round : happens 3 8 ≡ Round ∷ Tick 1 ∷ []
