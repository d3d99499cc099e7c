use Rattle.script_lang.proofs.Prelude.{ne_eqb}
use Rattle.script_lang.proofs.LaneLemmas.{no-lane, some-lane}
use Rattle.script_lang.proofs.search.byte_in_lanes.Goals as goal

pub returns-then-mask-eq0 : goal.returns-then-mask-eq0
returns-then-mask-eq0 c = no-lane c.args.text.now c.args.byte c.args.at c.requires c.if-mask-eq0.true

pub returns : goal.returns
returns c = some-lane c.args.text.now c.args.byte c.args.at c.requires (ne_eqb _ _ c.if-mask-eq0.false)
