use Rattle.ethernet_arp.proofs.Prelude.{◌∙◌, ap, min, refl}
use Rattle.ethernet_arp.proofs.TableLaws.{knows_learnt, learnt_is, moved_prefix_is}
use Rattle.ethernet_arp.proofs.arp.Arp.learn.Goals as goal

pub returns-clause-knows : goal.returns-clause-knows
returns-clause-knows c = λ act acts is k.
    knows_learnt acts act _ is c.args.self.now _ _ refl refl refl
    (c.put_prefix.ensures ∙ moved_prefix_is c.args.addr.0 _ c.args.self.now.entries c.min-place.result k.size (c.min-place.ensures
    ∙ ap (λ n. min n 7) c.place_of.ensures)) k

pub returns-clause-table : goal.returns-clause-table
returns-clause-table c = learnt_is _ (record { addr = c.args.addr; mac = c.args.mac; age = 0 }) c.min-place.result c.args.self.now.entries
    c.put_prefix.ensures refl
