use Rattle.httpd.proofs.httpd.HttpdApp.connected.Goals as goal

pub returns-clause-part : goal.returns-clause-part
returns-clause-part c = c.fresh.ensures c.args._shared.now.site c.args._port.0
