use Rattle.uip_device.proofs.value_pages.ValuePagesApp.polled.Goals as goal

pub returns-clause-part : goal.returns-clause-part
returns-clause-part c = λ p s. c.wait.ensures c.args._shared.now.web.site p s
