use Rattle.file_tree.proofs.Prelude.{List, ℕ, subst, IsTrue, ◌↔◌, files_in, Place, HasSoundScripts, SiteContent, files_of}
use Rattle.file_tree.proofs.site.SiteOf.are_scripts_sound.Goals as goal

pub returns : goal.returns
returns g c =
    let C = g.F.Calls.calling in
    subst (λ (site : SiteContent). IsTrue c.are_scripts_sound.result ↔ HasSoundScripts C (files_of site)) c.self.view_is
    (subst (λ (image : List ℕ). IsTrue c.are_scripts_sound.result ↔ HasSoundScripts C (files_in image c.self.inside.files.items)) c.bytes.ensures
    (subst (λ (files : List Place). IsTrue c.are_scripts_sound.result ↔ HasSoundScripts C (files_in c.bytes.result.now files)) c.deref.ensures.value
    c.are_scripts_sound.ensures))
