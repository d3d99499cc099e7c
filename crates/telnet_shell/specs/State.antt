-- A shell of the code as plain data.
use Rattle.std.specs.Prelude.{ℕ, Bool, List}
use Rattle.generators.specs.declared.capture.Capture.{Capture}
use Rattle.telnet_shell.specs.declared.command.Command.{Command}

pub record Shell : Type 0 where
  pub line : List ℕ
  pub over : Bool
  pub iac : List ℕ
  pub queue : List Command
  pub lost : Bool
  pub done : Bool
  pub capture : Capture
  pub at : ℕ
  pub polls : ℕ
