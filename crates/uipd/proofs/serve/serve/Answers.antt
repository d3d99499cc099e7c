use Rattle.uipd.proofs.Prelude.{refl, inl, inr, files_of, shelf_view, same_shelf}
use Rattle.uipd.proofs.serve.serve.Goals as goal

pub returns-in-Ok-clause-runs : goal.returns-in-Ok-clause-runs
returns-in-Ok-clause-runs g c =
    inl (record {
      files = files_of c.in-Ok.site;
      read = c.in-Ok.ensures.opens.0;
      shelf = same_shelf (shelf_view g.H.Shelf c.args.shelf.now) (shelf_view g.H.Shelf c.open.new.shelf) c.in-Ok.ensures.kept c.in-Ok.ensures.opens.1;
      done = c.serve_site.ensures;
    })

pub returns-in-Err-clause-runs : goal.returns-in-Err-clause-runs
returns-in-Err-clause-runs g c =
    inr (record {
      fault = c.in-Err.fault;
      reported = c.from.ensures;
      fails = c.in-Err.ensures.opens;
      held = c.in-Err.ensures.kept;
      line = refl;
    })
