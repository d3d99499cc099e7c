use Rattle.device_values.proofs.Prelude.{arith, html_byte}
use Rattle.device_values.proofs.Spelt.{one_more}
use Rattle.device_values.proofs.spelling.spell_html.Goals as goal

pub loop-byte-preserved : goal.loop-byte-preserved
loop-byte-preserved c = (
  one_more html_byte c.args.text.now _ _ c.loop-byte.byte-index c.loop-byte.invariant.0 c.push_html.ensures.items c.loop-byte-test.true,
  omega (arith, c.push_html.ensures.short, c.loop-byte.invariant.1),
)
