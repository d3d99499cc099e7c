use Rattle.device_values.proofs.Prelude.{arith, json_byte}
use Rattle.device_values.proofs.Spelt.{one_more}
use Rattle.device_values.proofs.spelling.spell_json.Goals as goal

pub loop-byte-preserved : goal.loop-byte-preserved
loop-byte-preserved c = (
  one_more json_byte c.args.text.now _ _ c.loop-byte.byte-index c.loop-byte.invariant.0 c.push_json.ensures.items c.loop-byte-test.true,
  omega (arith, c.push_json.ensures.short, c.loop-byte.invariant.1),
)
