use Rattle.uip_slip.proofs.Prelude.{refl, state_in}
use Rattle.uip_slip.proofs.DecoderLaws.{fed_noise}
use Rattle.uip_slip.proofs.part.Part.give_up.Goals as goal

pub returns-clause-spoils : goal.returns-clause-spoils
returns-clause-spoils c = λ _ bytes noise area is fed. fed_noise bytes noise (state_in area c.args.self.now) _ is refl refl fed
