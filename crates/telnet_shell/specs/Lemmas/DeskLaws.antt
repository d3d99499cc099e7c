-- The desk keeps the laws of an application, at every port.
use Rattle.std.proofs.Common.{◌≡◌, ℕ, ◌==◌, ◌&&◌, Bool, true, false, List, [], ◌∷◌, ◌++◌, length, nat_lt, refl, sym, ap, ◌∙◌, if◌then◌else◌}
use Rattle.site_image.specs.Prelude.{File}
use Rattle.app_events.specs.Prelude.{AppState, AppSpec, IsLawful, StartsAnew, Grows}
use Rattle.app_pair.specs.PairSpec.{StaysAtPort}
use Rattle.generators.specs.Prelude.{uip}
use Rattle.web_pages.specs.Prelude.{wanted, web_spec, is_acknowledged, waits_for_capture, web_lawful, web_starts}
use Rattle.telnet_shell.specs.declared.TheConstants.{MOST_COMMANDS}
use Rattle.telnet_shell.specs.declared.shell.TheConstants.{TELNET_PORT}
use Rattle.telnet_shell.specs.ShellSpec.{shell_spec, waiting, with_byte, receive_byte, receive_all, is_stopped, take_capture}
use Rattle.telnet_shell.specs.Lemmas.ShellLaws.{shell_lawful, shell_starts}
use Rattle.telnet_shell.specs.DeskSpec.{app_spec_at, desk_spec}

either_port : (b : Bool) (p q : AppState) → q.port ≡ p.port → (if b then q else p).port ≡ p.port
either_port true p q e = e
either_port false p q e = refl

byte_port : (p : AppState) (byte : ℕ) (lost full : Bool)
    → (if lost then p else if full then record p { own = 1 } else with_byte p byte).port ≡ p.port
byte_port p byte true full = refl
byte_port p byte false true = refl
byte_port p byte false false = refl

received_port : (p : AppState) (piece : List ℕ) → (receive_all p piece).port ≡ p.port
received_port p [] = refl
received_port p (byte ∷ more) =
    received_port (receive_byte p byte) more ∙ byte_port p byte (p.own == 1) (nat_lt MOST_COMMANDS (length (waiting (with_byte p byte))))

pub web_port : (files : List File) → StaysAtPort (web_spec files)
web_port files = record {
  connected = λ numbers port. refl;
  newdata = λ numbers p piece. refl;
  prepare = λ numbers p now.
      either_port (is_acknowledged files p && waits_for_capture files (wanted p.input) p) p
      (record p { snapshots = p.snapshots ++ record { numbers = numbers; now = now } ∷ [] }) refl;
  acked = λ numbers p count. refl;
  polled = λ numbers p. refl;
}

pub shell_port : StaysAtPort shell_spec
shell_port = record {
  connected = λ numbers port. refl;
  newdata = λ numbers p piece. received_port (record p { polls = 0 }) piece;
  prepare = λ numbers p now. either_port (is_stopped p) p (take_capture numbers p now) refl;
  acked = λ numbers p count. refl;
  polled = λ numbers p. refl;
}

by_port : (P : AppSpec → Type 0) (files : List File) (shell : Bool) → P (web_spec files) → P shell_spec
    → P (if shell then shell_spec else web_spec files)
by_port P files true w s = s
by_port P files false w s = w

abbrev IsLawfulAnywhere : AppSpec → Type 0
IsLawfulAnywhere m = IsLawful m (λ p. Unit {0})

-- of the application of each port
lawful_at : (files : List File) (port : ℕ) → IsLawfulAnywhere (app_spec_at files port)
lawful_at files port =
    by_port IsLawfulAnywhere files (port == TELNET_PORT) (web_lawful uip files (λ p. Unit {0})) (shell_lawful (λ p. Unit {0}))

starts_at : (files : List File) (port : ℕ) → StartsAnew (app_spec_at files port)
starts_at files port = by_port StartsAnew files (port == TELNET_PORT) (web_starts uip files) shell_starts

pub port_at : (files : List File) (port : ℕ) → StaysAtPort (app_spec_at files port)
port_at files port = by_port StaysAtPort files (port == TELNET_PORT) (web_port files) shell_port

-- at the same port the desk sends what the application of that port sends
writes_at : (files : List File) (p q : AppState) → q.port ≡ p.port → (desk_spec files).output q ≡ (app_spec_at files p.port).output q
writes_at files p q e = ap (λ (port : ℕ). (app_spec_at files port).output q) e

grows_at : (files : List File) (p q : AppState) → q.port ≡ p.port → Grows (app_spec_at files p.port) p q → Grows (desk_spec files) p q
grows_at files p q e g = record {
  text = record { rest = g.text.rest; joined = g.text.joined ∙ sym (writes_at files p q e) };
  offset = g.offset;
}

pub desk_lawful : (files : List File) (represented : AppState → Type 0) → IsLawful (desk_spec files) represented
desk_lawful files represented = record {
  newdata_grows = λ numbers p piece s.
      grows_at files p ((desk_spec files).newdata numbers p piece).part ((port_at files p.port).newdata numbers p piece)
      ((lawful_at files p.port).newdata_grows numbers p piece tt);
  prepare_grows = λ numbers p now s.
      grows_at files p ((desk_spec files).prepare numbers p now) ((port_at files p.port).prepare numbers p now)
      ((lawful_at files p.port).prepare_grows numbers p now tt);
  acked_moves = λ numbers p n s h.
      let both = (lawful_at files p.port).acked_moves numbers p n tt h in
      (writes_at files p ((desk_spec files).acked numbers p n).part ((port_at files p.port).acked numbers p n) ∙ both.0, both.1);
  polled_keeps = λ numbers p s.
      let both = (lawful_at files p.port).polled_keeps numbers p tt in
      (writes_at files p ((desk_spec files).polled numbers p).part ((port_at files p.port).polled numbers p) ∙ both.0, both.1);
  sends = λ numbers p s. (lawful_at files p.port).sends numbers p tt;
}

pub desk_starts : (files : List File) → StartsAnew (desk_spec files)
desk_starts files numbers port =
    let both = starts_at files port numbers port in (
      ap (λ (at : ℕ). (app_spec_at files at).output ((desk_spec files).connected numbers port).part)
          ((port_at files port).connected numbers port) ∙ both.0,
      both.1,
    )
