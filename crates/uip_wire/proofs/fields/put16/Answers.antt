use Rattle.uip_wire.proofs.Prelude.{◌∙◌, arith, refl}
use Rattle.uip_wire.proofs.Writing.{put_part, word_is}
use Rattle.uip_wire.proofs.fields.put16.Goals as goal

pub returns : goal.returns
returns c = put_part _ 2 _ _ _ refl c.requires (c.write_u16.ensures ∙ word_is _ _ (omega arith))
