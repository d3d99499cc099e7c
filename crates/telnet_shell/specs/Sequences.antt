-- The table of the sequences of the Telnet protocol (RFC 854), for every option and whatever follows.
use Rattle.std.specs.Prelude.{◌≡◌, ◌<◌, ℕ, List, ◌∷◌}
use Rattle.telnet_shell.specs.declared.command.Command.TheVariants.{Refuse}
use Rattle.telnet_shell.specs.Reading.{tokens}
use Rattle.telnet_shell.specs.Reading.Awaits.{Text}
use Rattle.telnet_shell.specs.Reading.Token.{Byte, Answer}

pub record ReadsSequences : Type 0 where
  -- 255 255 is the byte 255
  pub doubled : (rest : List ℕ) → tokens Text (255 ∷ 255 ∷ rest) ≡ Byte 255 ∷ tokens Text rest
  -- WILL is refused by DONT, and DO by WONT
  pub offered : (x : ℕ) (rest : List ℕ) → tokens Text (255 ∷ 251 ∷ x ∷ rest) ≡ Answer (Refuse 254 x) ∷ tokens Text rest
  pub asked : (x : ℕ) (rest : List ℕ) → tokens Text (255 ∷ 253 ∷ x ∷ rest) ≡ Answer (Refuse 252 x) ∷ tokens Text rest
  -- WONT and DONT are removed
  pub refused : (x : ℕ) (rest : List ℕ) → tokens Text (255 ∷ 252 ∷ x ∷ rest) ≡ tokens Text rest
  pub forbidden : (x : ℕ) (rest : List ℕ) → tokens Text (255 ∷ 254 ∷ x ∷ rest) ≡ tokens Text rest
  -- so is 255 with any other byte after it
  pub other : (x : ℕ) (rest : List ℕ) → x < 251 → tokens Text (255 ∷ x ∷ rest) ≡ tokens Text rest
  -- any other byte is itself
  pub plain : (x : ℕ) (rest : List ℕ) → x < 255 → tokens Text (x ∷ rest) ≡ Byte x ∷ tokens Text rest
