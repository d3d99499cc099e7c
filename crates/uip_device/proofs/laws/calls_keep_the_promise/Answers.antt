use Rattle.uip_device.proofs.KeepLaws.{keeps_calls}
use Rattle.uip_device.proofs.laws.calls_keep_the_promise.Goals as goal

pub returns : goal.returns
returns g c = λ m pages lawful page gives low numbers words own is rules all bytes old new fresh answered. keeps_calls g.A.App m pages
    lawful page gives low numbers words own is rules all bytes old new fresh answered
