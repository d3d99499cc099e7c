use Rattle.file_tree.proofs.Prelude.{◌≡◌, ◌≤◌, ◌+◌, length, take, flat_map, LONGEST_IMAGE, One, entry, listed}
use Rattle.file_tree.proofs.packer.packed_len.Given as goal

abbrev pub invariant-loop-entry : goal.invariant-loop-entry
invariant-loop-entry l = (l.size ≡ 10 + length (flat_map (entry One) (take l.entry-index (listed l.list)))) × (l.size ≤ LONGEST_IMAGE)
