use Rattle.device_values.proofs.Prelude.{◌≡◌, ◌≤◌, ◌*◌, flat_map, length, take, html_byte}
use Rattle.device_values.proofs.spelling.spell_html.Given as goal

abbrev pub invariant-loop-byte : goal.invariant-loop-byte
invariant-loop-byte l = (l.out.items ≡ flat_map html_byte (take l.byte-index l.text)) × (length l.out.items ≤ 6 * l.byte-index)
