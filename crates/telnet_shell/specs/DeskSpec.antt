-- The transitions of a connection of the desk: those of the shell if it was opened at port 23, otherwise those of the web server.
use Rattle.std.specs.Prelude.{ℕ, ◌==◌, ◌||◌, Bool, List, if◌then◌else◌}
use Rattle.site_image.specs.Prelude.{File}
use Rattle.app_events.specs.Prelude.{AppSpec}
use Rattle.web_pages.specs.Prelude.{is_served, web_spec}
use Rattle.telnet_shell.specs.declared.shell.TheConstants.{TELNET_PORT}
use Rattle.telnet_shell.specs.ShellSpec.{shell_spec}

-- Pages are served at port 80, and the shell at port 23.
abbrev pub is_served_at : ℕ → Bool
is_served_at port = is_served port || (port == TELNET_PORT)

-- the application of a port
abbrev pub app_spec_at : List File → ℕ → AppSpec
app_spec_at files port = if port == TELNET_PORT then shell_spec else web_spec files

-- Each call is that of the application at the port of the connection.
abbrev pub desk_spec : List File → AppSpec
desk_spec files = record {
  output = λ part. (app_spec_at files part.port).output part;
  connected = λ numbers port. (app_spec_at files port).connected numbers port;
  newdata = λ numbers part piece. (app_spec_at files part.port).newdata numbers part piece;
  prepare = λ numbers part now. (app_spec_at files part.port).prepare numbers part now;
  want = λ numbers part. (app_spec_at files part.port).want numbers part;
  acked = λ numbers part count. (app_spec_at files part.port).acked numbers part count;
  polled = λ numbers part. (app_spec_at files part.port).polled numbers part;
  ended = λ numbers part how. (app_spec_at files part.port).ended numbers part how;
}
