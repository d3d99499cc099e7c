-- The states that a desk represents.
use Rattle.std.proofs.Common.{◌≡◌, ℕ, ◌==◌, Bool, true, false, List, if◌then◌else◌, sym, ap, ◌∙◌}
use Rattle.app_events.specs.Prelude.{AppState, AppSpec, text_left}
use Rattle.site_image.specs.Prelude.{File}
use Rattle.file_tree.specs.Prelude.{SiteContent, files_of}
use Rattle.web_pages.specs.Prelude.{web_spec}
use Rattle.httpd.specs.First.{Httpd}
use Rattle.httpd.specs.HttpdRepresents.{HttpdRepresents}
use Rattle.httpd.specs.Lemmas.SameLeft.{same_left as web_same_left}
use Rattle.telnet_shell.specs.State.{Shell}
use Rattle.telnet_shell.specs.declared.shell.TheConstants.{TELNET_PORT}
use Rattle.telnet_shell.specs.declared.desk.Desk.{Desk}
use Rattle.telnet_shell.specs.declared.desk.Desk.TheVariants as desk
use Rattle.telnet_shell.specs.ShellSpec.{shell_spec}
use Rattle.telnet_shell.specs.ShellRepresents.{ShellRepresents}
use Rattle.telnet_shell.specs.Lemmas.SameLeft.{same_session_left as shell_same_left}
use Rattle.telnet_shell.specs.DeskSpec.{app_spec_at, desk_spec}

pub record IsWebPart (a : Httpd) (site : SiteContent) (part : AppState) : Type 0 where
  pub port : (part.port == TELNET_PORT) ≡ false
  pub represented : HttpdRepresents a site part

pub record IsShellPart (a : Shell) (part : AppState) : Type 0 where
  pub port : (part.port == TELNET_PORT) ≡ true
  pub represented : ShellRepresents a part

-- At port 23 it is a shell that represents the state, otherwise a connection of the web server.
abbrev pub DeskRepresents : Desk → SiteContent → AppState → Type 0
DeskRepresents (desk.Web a) site part = IsWebPart a site part
DeskRepresents (desk.Shell a) site part = IsShellPart a part

pub at_web : (files : List File) (port : ℕ) → (port == TELNET_PORT) ≡ false → app_spec_at files port ≡ web_spec files
at_web files port e = ap (λ (b : Bool). if b then shell_spec else web_spec files) e

pub at_shell : (files : List File) (port : ℕ) → (port == TELNET_PORT) ≡ true → app_spec_at files port ≡ shell_spec
at_shell files port e = ap (λ (b : Bool). if b then shell_spec else web_spec files) e

left_by : (files : List File) (part : AppState) (m : AppSpec) → app_spec_at files part.port ≡ m
    → text_left (desk_spec files) part ≡ text_left m part
left_by files part m e = ap (λ (n : AppSpec). text_left n part) e

pub web_left : (files : List File) (part : AppState) → (part.port == TELNET_PORT) ≡ false
    → text_left (desk_spec files) part ≡ text_left (web_spec files) part
web_left files part e = left_by files part (web_spec files) (at_web files part.port e)

pub shell_left : (files : List File) (part : AppState) → (part.port == TELNET_PORT) ≡ true
    → text_left (desk_spec files) part ≡ text_left shell_spec part
shell_left files part e = left_by files part shell_spec (at_shell files part.port e)

-- the value alone determines the rest of the output
pub desk_same_left : (a : Desk) (site : SiteContent) (p q : AppState) → DeskRepresents a site p → DeskRepresents a site q
    → text_left (desk_spec (files_of site)) p ≡ text_left (desk_spec (files_of site)) q
desk_same_left (desk.Web a) site p q s t =
    web_left (files_of site) p s.port ∙ web_same_left a site p q s.represented t.represented ∙ sym (web_left (files_of site) q t.port)
desk_same_left (desk.Shell a) site p q s t =
    shell_left (files_of site) p s.port ∙ shell_same_left a p q s.represented t.represented ∙ sym (shell_left (files_of site) q t.port)
