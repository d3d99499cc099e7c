-- What there is room for is appended to the name.
use Rattle.std.proofs.Common.{◌+◌, ◌≤◌, length, take, arith, length-take}
use Rattle.protosocket.proofs.Cuts.{kept, on_ok}
use Rattle.protosocket.proofs.line_in.keep.Goals as goal

pub returns-clause-name : goal.returns-clause-name
returns-clause-name c =
    let room : length c.args.name.now.items + length (take c.min-count.result c.args.part.now) ≤ 64 =
    omega (arith, c.remaining_capacity-room.ensures, c.min-count.ensures, length-take c.min-count.result c.args.part.now) in
    kept c.args.name.now.items c.args.part.now c.try_extend_from_slice-fits.new.self.items c.remaining_capacity-room.result c.min-count.result
    (c.remaining_capacity-room.ensures) (c.min-count.ensures)
    (on_ok c.try_extend_from_slice-fits.result (c.try_extend_from_slice-fits.ensures.variant.1 room) c.try_extend_from_slice-fits.ensures.ok)
