-- What the desk is at each of its ports.
use Rattle.telnet_shell.proofs.Prelude.{◌≡◌, ℕ, ◌==◌, true, false, List, refl, sym, ap, ◌∙◌, true≢false, WEB_PORT, AppState, AppSpec, File}
use Rattle.telnet_shell.proofs.Prelude.{SiteContent, web_spec, TELNET_PORT, Desk, shell_spec, app_spec_at, desk_spec, DeskRepresents}
use Rattle.telnet_shell.proofs.Prelude.{at_web, at_shell, StaysAtPort, port_at, DoesAs, IsAtWeb, IsAtShell, IsTwoApplications}
use Rattle.telnet_shell.specs.declared.desk.Desk.TheVariants as desk

is_web_port : (port : ℕ) → port ≡ WEB_PORT → (port == TELNET_PORT) ≡ false
is_web_port port e = ap (λ (n : ℕ). n == TELNET_PORT) e

is_telnet_port : (port : ℕ) → port ≡ TELNET_PORT → (port == TELNET_PORT) ≡ true
is_telnet_port port e = ap (λ (n : ℕ). n == TELNET_PORT) e

does_as : (files : List File) (part : AppState) (n : AppSpec) → app_spec_at files part.port ≡ n → DoesAs (desk_spec files) n part
does_as files part n e = record {
  output = ap (λ (m : AppSpec). m.output part) e;
  connected = λ numbers. ap (λ (m : AppSpec). m.connected numbers part.port) e;
  newdata = λ numbers piece. ap (λ (m : AppSpec). m.newdata numbers part piece) e;
  prepare = λ numbers now. ap (λ (m : AppSpec). m.prepare numbers part now) e;
  want = λ numbers. ap (λ (m : AppSpec). m.want numbers part) e;
  acked = λ numbers count. ap (λ (m : AppSpec). m.acked numbers part count) e;
  polled = λ numbers. ap (λ (m : AppSpec). m.polled numbers part) e;
  ended = λ numbers how. ap (λ (m : AppSpec). m.ended numbers part how) e;
}

web_value : (a : Desk) (site : SiteContent) (part : AppState) → (part.port == TELNET_PORT) ≡ false → DeskRepresents a site part → IsAtWeb a site part
web_value (desk.Web web) site part e s = record { web = web; is = refl; represented = s.represented }
web_value (desk.Shell shell) site part e s = elim (true≢false (sym s.port ∙ e)) [ ]

shell_value : (a : Desk) (site : SiteContent) (part : AppState) → (part.port == TELNET_PORT) ≡ true → DeskRepresents a site part → IsAtShell a part
shell_value (desk.Web web) site part e s = elim (true≢false (sym e ∙ s.port)) [ ]
shell_value (desk.Shell shell) site part e s = record { shell = shell; is = refl; represented = s.represented }

desk_port : (files : List File) → StaysAtPort (desk_spec files)
desk_port files = record {
  connected = λ numbers port. (port_at files port).connected numbers port;
  newdata = λ numbers p piece. (port_at files p.port).newdata numbers p piece;
  prepare = λ numbers p now. (port_at files p.port).prepare numbers p now;
  acked = λ numbers p count. (port_at files p.port).acked numbers p count;
  polled = λ numbers p. (port_at files p.port).polled numbers p;
}

pub two_applications : IsTwoApplications
two_applications = record {
  web = λ files part e. does_as files part (web_spec files) (at_web files part.port (is_web_port part.port e));
  shell = λ files part e. does_as files part shell_spec (at_shell files part.port (is_telnet_port part.port e));
  web_value = λ a site part e s. web_value a site part (is_web_port part.port e) s;
  shell_value = λ a site part e s. shell_value a site part (is_telnet_port part.port e) s;
  port = desk_port;
}
