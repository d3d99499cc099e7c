use Rattle.file_tree.proofs.Prelude.{arith, refl}
use Rattle.file_tree.proofs.FitLemmas.{sound-goes-on, sound-ends, sound-fails}
use Rattle.file_tree.proofs.pages.are_scripts_sound.Goals as goal

pub returns-in-Err : goal.returns-in-Err
returns-in-Err g c = (
  λ is. absurd cc,
  λ sound. absurd (sound-fails g.F.Calls.calling c.args.image.now c.args.files.now c.loop-index.index
      (record { name_at = 0; name_len = 0; kind_at = 0; kind_len = 0; at = 0; len = 0; greatest = 0 }) c.in-Err.field-0
      (omega (arith, c.loop-index-test.true)) c.in-Err.ensures.err sound),
)

pub loop-index-preserved : goal.loop-index-preserved
loop-index-preserved g c =
    sound-goes-on g.F.Calls.calling c.args.image.now c.args.files.now c.loop-index.index
    (record { name_at = 0; name_len = 0; kind_at = 0; kind_len = 0; at = 0; len = 0; greatest = 0 })
    c.loop-index.invariant c.in-Ok.ensures.sound

pub returns : goal.returns
returns g c = (
  λ is. sound-ends g.F.Calls.calling c.args.image.now c.args.files.now c.loop-index.index c.loop-index.invariant (omega (arith, c.loop-index-test.false)),
  λ sound. refl,
)
