use Rattle.own_app.proofs.app.OwnAppApp.connected.Goals as goal

pub returns-clause-part : goal.returns-clause-part
returns-clause-part c = c.new.ensures c.args._port.0
