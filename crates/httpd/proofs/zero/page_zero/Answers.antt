use Rattle.httpd.proofs.Prelude.{sym, files_of, writes_by}
use Rattle.httpd.proofs.ZeroWriting.{asked_some}
use Rattle.httpd.proofs.zero.page_zero.Goals as goal

pub returns-in-Some : goal.returns-in-Some
returns-in-Some g c =
    writes_by _ _ _ _ _
    (sym (asked_some (files_of c.args.site.now) c.args.target.now c.in-Some.found c.in-Some.ensures))
    c.write_reply.ensures
