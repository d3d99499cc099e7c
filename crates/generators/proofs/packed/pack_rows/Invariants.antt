use Rattle.generators.proofs.Prelude.{◌≡◌, ◌≤◌, length, map, take, row_in}
use Rattle.generators.proofs.packed.pack_rows.Given as goal

abbrev pub invariant-loop-place : goal.invariant-loop-place
invariant-loop-place l = record { so_far : map row_in (take l.place l.list) ≡ take l.place l.items; long : length l.list ≡ 10; few : length l.items ≤ 10 }
