-- How much the shell has received: its fields as functions of the bytes so far.
use Rattle.std.specs.Prelude.{◌≡◌, ℕ, ◌==◌, Bool, List, [], ◌∷◌, length, take, nat_lt, slice_index, if◌then◌else◌, Option, None, Some}
use Rattle.telnet_shell.specs.declared.TheConstants.{LONGEST_LINE}
use Rattle.telnet_shell.specs.declared.command.Command.{Command}
use Rattle.telnet_shell.specs.declared.telnet_input.Reported.{Reported}
use Rattle.telnet_shell.specs.declared.telnet_input.Reported.TheVariants as reported
use Rattle.telnet_shell.specs.Reading.{Awaits, Token, tokens, awaits_after, line_after}
use Rattle.telnet_shell.specs.Reading.Awaits.{Text, Second, Choice}
use Rattle.telnet_shell.specs.Reading.Token.{Byte, Answer}

-- the open sequence, in two bytes
abbrev pub awaited : List ℕ → Awaits
awaited iac =
    if slice_index iac 0 == 0 then Text
    else if slice_index iac 1 == 0 then Second
    else Choice (slice_index iac 1)

abbrev pub tokens_of : Reported → List Token
tokens_of reported.Nothing = []
tokens_of (reported.Byte byte) = Byte byte ∷ []
tokens_of (reported.Answer command) = Answer command ∷ []

abbrev pub command_in : Option Command → List Command
command_in None = []
command_in (Some command) = command ∷ []

-- A prefix of a line is kept, and whether there was more.
pub record IsLine (kept : List ℕ) (over : Bool) (line : List ℕ) : Type 0 where
  pub prefix : kept ≡ take LONGEST_LINE line
  pub more : over ≡ nat_lt LONGEST_LINE (length line)

-- The sequence and the line that are open after the bytes.
pub record IsOpen (kept : List ℕ) (over : Bool) (iac : List ℕ) (delivered : List ℕ) : Type 0 where
  pub awaits : awaited iac ≡ awaits_after Text delivered
  pub line : IsLine kept over (line_after [] (tokens Text delivered))
