use Rattle.uip_device.proofs.value_pages.ValuePagesApp.connected.Goals as goal

pub returns-clause-part : goal.returns-clause-part
returns-clause-part c = c.fresh-self.ensures c.args._shared.now.web.site c.args._port.0
