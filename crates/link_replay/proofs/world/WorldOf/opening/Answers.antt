use Rattle.link_replay.proofs.Prelude.{◌≡◌, length, refl, rules, server}
use Rattle.link_replay.proofs.Opened.{all_planned, link_opened, none_represent, sides_represent}
use Rattle.link_replay.proofs.world.WorldOf.opening.Goals as goal

pub invariant_of-result : goal.invariant_of-result
invariant_of-result g c =
    let size : length c.in_ok-area.area.items ≡ 1500 = search rules in
    record {
      link = (
        server,
        link_opened server _ c.args.clients.now c.in_ok-sides.ensures c.requires.few
            c.new-2.ensures.items refl,
      );
      room = size;
    }

pub returns-clause-represented : goal.returns-clause-represented
returns-clause-represented g c =
    record {
      node = c.in_ok-node.ensures.represented;
      link = record {
        sides = sides_represent c.args.clients.now c.in_ok-sides.sides.items c.in_ok-sides.ensures;
        sent = none_represent _ c.new-2.result.items c.new-2.ensures.items;
      };
      home = link_opened server _ c.args.clients.now c.in_ok-sides.ensures c.requires.few c.new-2.ensures.items refl;
      mark = refl;
      fresh = refl;
    }

pub returns-clause-planned : goal.returns-clause-planned
returns-clause-planned g c = all_planned c.args.clients.now c.in_ok-sides.sides.items c.in_ok-sides.ensures
