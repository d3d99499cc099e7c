-- At port 80 the desk is the web server, call by call, and at port 23 the shell.
use Rattle.std.specs.Prelude.{◌≡◌, ℕ, List}
use Rattle.uip_wire.specs.declared.port.TheConstants.{WEB_PORT}
use Rattle.app_events.specs.Prelude.{AppState, AppSpec}
use Rattle.app_events.specs.declared.ending.Ending.{Ending}
use Rattle.app_events.specs.declared.now.Now.{Now}
use Rattle.site_image.specs.Prelude.{File}
use Rattle.file_tree.specs.Prelude.{SiteContent}
use Rattle.web_pages.specs.Prelude.{web_spec}
use Rattle.httpd.specs.First.{Httpd}
use Rattle.httpd.specs.HttpdRepresents.{HttpdRepresents}
use Rattle.telnet_shell.specs.State.{Shell}
use Rattle.telnet_shell.specs.declared.shell.TheConstants.{TELNET_PORT}
use Rattle.telnet_shell.specs.declared.desk.Desk.{Desk}
use Rattle.telnet_shell.specs.declared.desk.Desk.TheVariants as desk
use Rattle.telnet_shell.specs.ShellSpec.{shell_spec}
use Rattle.telnet_shell.specs.ShellRepresents.{ShellRepresents}
use Rattle.telnet_shell.specs.DeskSpec.{desk_spec}
use Rattle.telnet_shell.specs.DeskRepresents.{DeskRepresents}
use Rattle.app_pair.specs.PairSpec.{StaysAtPort}

-- In this state each call of m does what that of n does.
pub record DoesAs (m n : AppSpec) (part : AppState) : Type 0 where
  pub output : m.output part ≡ n.output part
  pub connected : (numbers : List ℕ) → m.connected numbers part.port ≡ n.connected numbers part.port
  pub newdata : (numbers piece : List ℕ) → m.newdata numbers part piece ≡ n.newdata numbers part piece
  pub prepare : (numbers : List ℕ) (now : Now) → m.prepare numbers part now ≡ n.prepare numbers part now
  pub want : (numbers : List ℕ) → m.want numbers part ≡ n.want numbers part
  pub acked : (numbers : List ℕ) (count : ℕ) → m.acked numbers part count ≡ n.acked numbers part count
  pub polled : (numbers : List ℕ) → m.polled numbers part ≡ n.polled numbers part
  pub ended : (numbers : List ℕ) (how : Ending) → m.ended numbers part how ≡ n.ended numbers part how

-- The value is a connection of the web server that represents the state.
pub record IsAtWeb (a : Desk) (site : SiteContent) (part : AppState) : Type 0 where
  pub web : Httpd
  pub is : a ≡ desk.Web web
  pub represented : HttpdRepresents web site part

-- The value is a shell that represents the state.
pub record IsAtShell (a : Desk) (part : AppState) : Type 0 where
  pub shell : Shell
  pub is : a ≡ desk.Shell shell
  pub represented : ShellRepresents shell part

pub record IsTwoApplications : Type 0 where
  pub web : (files : List File) (part : AppState) → part.port ≡ WEB_PORT → DoesAs (desk_spec files) (web_spec files) part
  pub shell : (files : List File) (part : AppState) → part.port ≡ TELNET_PORT → DoesAs (desk_spec files) shell_spec part
  pub web_value : (a : Desk) (site : SiteContent) (part : AppState) → part.port ≡ WEB_PORT
      → DeskRepresents a site part → IsAtWeb a site part
  pub shell_value : (a : Desk) (site : SiteContent) (part : AppState) → part.port ≡ TELNET_PORT
      → DeskRepresents a site part → IsAtShell a part
  -- no call changes the port
  pub port : (files : List File) → StaysAtPort (desk_spec files)
