use Rattle.httpd.proofs.httpd.HttpdApp.polled.Goals as goal

pub returns-clause-part : goal.returns-clause-part
returns-clause-part c = λ p s. c.wait.ensures c.args._shared.now.site p s
