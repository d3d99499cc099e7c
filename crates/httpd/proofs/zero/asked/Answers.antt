use Rattle.httpd.proofs.Prelude.{◌++◌, [], ◌∷◌, codes, files_of, refused_stays}
use Rattle.httpd.proofs.ZeroAsking.{receives_method, asked_name, asked_more, no_method}
use Rattle.httpd.proofs.zero.asked.Goals as goal

pub returns-in-Target : goal.returns-in-Target
returns-in-Target c =
    c.ended.ensures (codes "GET " ++ c.args.target.now) (c.in-Target.ensures (codes "GET ") (receives_method c.new-line.result c.new-line.ensures))

pub returns-in-Named : goal.returns-in-Named
returns-in-Named c =
    asked_more (files_of c.args.site.now) (codes "GET " ++ c.args.target.now) (10 ∷ []) c.file_asked.result
    (asked_name (files_of c.args.site.now) c.receive_target.new.line (codes "GET " ++ c.args.target.now) c.file_asked.result
    (c.in-Named.ensures (codes "GET ") (receives_method c.new-line.result c.new-line.ensures)) c.file_asked.ensures.found c.file_asked.ensures.file)

pub returns-in-Method : goal.returns-in-Method
returns-in-Method c =
    absurd (no_method c.args.target.now c.receive_target.new.line (c.in-Method.ensures (codes "GET ") (receives_method c.new-line.result c.new-line.ensures)))

pub returns-in-Refused : goal.returns-in-Refused
returns-in-Refused c =
    refused_stays (codes "GET " ++ c.args.target.now) (10 ∷ []) (c.in-Refused.ensures (codes "GET ") (receives_method c.new-line.result c.new-line.ensures))
