-- The constants of the code that definitions name, and their values.
use Rattle.std.specs.Prelude.{◌≡◌}
use Rattle.telnet_shell.specs.declared.TheConstants.{MOST_SILENT_POLLS, MOST_COMMANDS, LONGEST_LINE}
use Rattle.telnet_shell.specs.declared.shell.TheConstants.{TELNET_PORT}
use Rattle.telnet_shell.specs.declared.telnet_input.TheConstants.{IAC, DONT, DO, WONT, WILL}

pub record ConstantValues : Type 0 where
  pub most_silent_polls : MOST_SILENT_POLLS ≡ 1200
  pub most_commands : MOST_COMMANDS ≡ 32
  pub longest_line : LONGEST_LINE ≡ 16
  pub telnet_port : TELNET_PORT ≡ 23
  pub iac_byte : IAC ≡ 255
  pub dont_byte : DONT ≡ 254
  pub do_byte : DO ≡ 253
  pub wont_byte : WONT ≡ 252
  pub will_byte : WILL ≡ 251
