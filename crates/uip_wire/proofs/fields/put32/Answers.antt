use Rattle.uip_wire.proofs.Prelude.{◌∙◌, arith, refl}
use Rattle.uip_wire.proofs.Writing.{put_part, long_is}
use Rattle.uip_wire.proofs.fields.put32.Goals as goal

pub returns : goal.returns
returns c = put_part _ 4 _ _ _ refl c.requires (c.write_u32.ensures ∙ long_is _ _ (omega arith))
