-- The desk sends bytes, if its pages are bytes and it receives bytes.
use Rattle.telnet_shell.proofs.Prelude.{ℕ, ◌==◌, Bool, true, false, List, if◌then◌else◌, File, web_spec, SendsBytes, TELNET_PORT, desk_spec}
use Rattle.telnet_shell.proofs.Prelude.{app_spec_at, shell_spec}
use Rattle.telnet_shell.proofs.SessionBytes.{shell_bytes}

module _ (files : List File) (pages : SendsBytes (web_spec files)) where
  either_bytes : (shell : Bool) → SendsBytes (if shell then shell_spec else web_spec files)
  either_bytes true = shell_bytes
  either_bytes false = pages

  bytes_at : (port : ℕ) → SendsBytes (app_spec_at files port)
  bytes_at port = either_bytes (port == TELNET_PORT)

  pub desk_bytes : SendsBytes (desk_spec files)
  desk_bytes = record {
    output = λ p h k. (bytes_at p.port).output p h k;
    connected = λ numbers port. (bytes_at port).connected numbers port;
    newdata = λ numbers p piece h are. (bytes_at p.port).newdata numbers p piece h are;
    prepare = λ numbers p now h. (bytes_at p.port).prepare numbers p now h;
    acked = λ numbers p n h. (bytes_at p.port).acked numbers p n h;
    polled = λ numbers p h. (bytes_at p.port).polled numbers p h;
  }
