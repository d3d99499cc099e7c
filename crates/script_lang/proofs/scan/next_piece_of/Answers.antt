use Rattle.script_lang.proofs.StartLemmas.{GoesTo}
use Rattle.script_lang.proofs.PieceLemmas.{found-goes, found-pieces}
use Rattle.script_lang.proofs.scan.next_piece_of.Goals as goal
use Rattle.script_lang.proofs.scan.next_piece_of.Goals.{After-piece_from}

-- the piece that was read goes to the next one
goes : (g : _) (c : After-piece_from g) → GoesTo c.args.text.now c.args.at c.piece_from.result.next
goes g c = found-goes g.F.Calls.calling.named c.args.text.now c.args.at c.piece_from.result c.requires c.if-at-text.false c.piece_from.ensures.piece

pub returns-clause-pieces : goal.returns-clause-pieces
returns-clause-pieces g c = found-pieces g.F.Calls.calling.named c.args.text.now c.args.at c.piece_from.result (goes g c) c.piece_from.ensures.piece

pub returns-clause-next : goal.returns-clause-next
returns-clause-next g c = ((goes g c).after, (goes g c).place)
