-- The guarantee for the desk on a line: it never retracts output, and its output is bytes. At port 80 the output is the pages of its
-- files, at port 23 the session of the delivered bytes and the captured snapshots.
use Rattle.std.specs.Prelude.{◌==◌, if◌then◌else◌, All, List, ℕ}
use Rattle.app_events.specs.Prelude.{IsByte}
use Rattle.site_image.specs.Prelude.{File}
use Rattle.file_tree.specs.Prelude.{SiteContent, IsLoaded, files_of}
use Rattle.uip_node.specs.Prelude.{IsSteady, SendsBytes}
use Rattle.node_laws.specs.Prelude.{OutputModel, Paged, Interactive, Free, HasOutputModel}
use Rattle.web_pages.specs.Prelude.{pages_of, is_served}
use Rattle.telnet_shell.specs.declared.shell.TheConstants.{TELNET_PORT}
use Rattle.telnet_shell.specs.Traces.{sessions}
use Rattle.telnet_shell.specs.DeskSpec.{desk_spec}

-- At port 80 the output is the pages of its files, and at port 23 the session of the shell.
abbrev pub desk_output_model : List File → ℕ → OutputModel
desk_output_model files port =
    if is_served port then Paged (pages_of files)
    else if port == TELNET_PORT then Interactive sessions
    else Free

pub record SpeaksOnLines (files : List File) : Type 0 where
  pub steady : IsSteady (desk_spec files)
  pub bytes : SendsBytes (desk_spec files)
  pub speaks : HasOutputModel (desk_spec files) (desk_output_model files)

abbrev pub DeskSpeaksOnLines : Type 0
DeskSpeaksOnLines = (site : SiteContent) → IsLoaded site → All IsByte site.image → SpeaksOnLines (files_of site)
