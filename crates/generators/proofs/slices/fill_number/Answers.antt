use Rattle.generators.proofs.Prelude.{[], in_ten_places}
use Rattle.generators.proofs.Filling.{filled, none_held}
use Rattle.generators.proofs.slices.fill_number.Goals as goal

pub returns : goal.returns
returns c =
    filled (in_ten_places c.args.number) c.args.out.now c.put_in_ten_places.new.out c.args.at c.put_in_ten_places.result
    (c.put_in_ten_places.ensures.part [] (none_held c.args.at c.args.out.now)) c.put_in_ten_places.ensures.at c.put_in_ten_places.auto.out c.requires
