use Rattle.device_values.proofs.Prelude.{◌≡◌, ◌≤◌, ◌*◌, flat_map, length, take, json_byte}
use Rattle.device_values.proofs.spelling.spell_json.Given as goal

abbrev pub invariant-loop-byte : goal.invariant-loop-byte
invariant-loop-byte l = (l.out.items ≡ flat_map json_byte (take l.byte-index l.text)) × (length l.out.items ≤ 6 * l.byte-index)
