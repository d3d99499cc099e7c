use Rattle.uip_device.proofs.Prelude.{ℕ, Option, subst, ReadsQuery, query_for}
use Rattle.uip_device.proofs.device_web.DeviceWeb.read_query.Goals as goal

pub returns : goal.returns
returns c =
    subst (λ (at : Option ℕ). ReadsQuery (query_for c.args.self.now.query at) c.read.result.hit c.read.result.len c.args.out.now c.read.new.out)
    c.file_in.ensures.place c.read.ensures
