use Rattle.serve_loop.proofs.line_loop.serve.Goals as goal

pub returns-clause-serves : goal.returns-clause-serves
returns-clause-serves g c = c.serve_over.ensures.serves tt c.new-medium.ensures
