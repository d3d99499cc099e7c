-- [add: application] The arm of an application.
use Rattle.uipd.proofs.Prelude.{ℕ, List, sym, subst, files_of, no_hits, is_served, web_spec, desk_spec, is_served_at, line_view}
use Rattle.uipd.proofs.Prelude.{app_spec_of, ports_of, RunsBy, Application}
use Rattle.uipd.proofs.PromiseLaws.{site_runs}
use Rattle.uipd.proofs.serve.serve_web.Goals as goal

pub returns-in-Web : goal.returns-in-Web
returns-in-Web g c =
    let old = line_view g.L.Link g.K.Sink c.args.link.now c.args.out.now in
    let new = line_view g.L.Link g.K.Sink c.serve_by.new.link c.serve_by.new.out in
    site_runs c.args.web.site c.requires.loaded c.requires.bytes c.args.line c.see_addr.ensures old new c.serve_by.result
    (subst (λ (a : Application). RunsBy (app_spec_of a (files_of c.args.web.site)) (ports_of a) (no_hits (files_of c.args.web.site))
    c.args.line old new c.serve_by.result) (sym c.in-Web.is)
    (subst (λ (hits : List ℕ). RunsBy (web_spec (files_of c.args.web.site)) is_served hits c.args.line old new c.serve_by.result)
    c.requires.hits c.serve_by.ensures))

pub returns-in-Desk : goal.returns-in-Desk
returns-in-Desk g c =
    let old = line_view g.L.Link g.K.Sink c.args.link.now c.args.out.now in
    let new = line_view g.L.Link g.K.Sink c.serve_by-in-Desk.new.link c.serve_by-in-Desk.new.out in
    site_runs c.args.web.site c.requires.loaded c.requires.bytes c.args.line c.see_addr.ensures old new c.serve_by-in-Desk.result
    (subst (λ (a : Application). RunsBy (app_spec_of a (files_of c.args.web.site)) (ports_of a) (no_hits (files_of c.args.web.site))
    c.args.line old new c.serve_by-in-Desk.result) (sym c.in-Desk.is)
    (subst (λ (hits : List ℕ). RunsBy (desk_spec (files_of c.args.web.site)) is_served_at hits c.args.line old new
    c.serve_by-in-Desk.result) c.requires.hits c.serve_by-in-Desk.ensures))
