use Rattle.generators.proofs.Prelude.{[], flat_map}
use Rattle.generators.proofs.Filling.{filled, none_held}
use Rattle.generators.proofs.slices.fill_all.Goals as goal

pub returns : goal.returns
returns g c =
    filled (flat_map g.T.Written.text c.args.items.now) c.args.out.now c.put_all.new.out c.args.at c.put_all.result
    (c.put_all.ensures.part [] (none_held c.args.at c.args.out.now)) c.put_all.ensures.at c.put_all.auto.out c.requires.enough
