use Rattle.uip_device.proofs.Prelude.{subst, AreApart, WebContent, files_of}
use Rattle.uip_device.proofs.value_pages.see_apart.Goals as goal

pub returns : goal.returns
returns c = subst (λ (w : WebContent). AreApart (files_of w.site)) c.web.view_is c.see_loaded.ensures.loaded.apart
