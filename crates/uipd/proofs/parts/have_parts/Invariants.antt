use Rattle.uipd.proofs.Prelude.{◌≡◌, true, map, take, string_bytes, list_all, has_parts}
use Rattle.uipd.proofs.parts.have_parts.Given as goal

abbrev pub invariant-loop-word : goal.invariant-loop-word
invariant-loop-word l = list_all has_parts (map string_bytes (take l.word-index l.words)) ≡ true
