-- One more byte: what is open after it, and the commands that it completes.
use Rattle.telnet_shell.proofs.Prelude.{◌≡◌, ℕ, Bool, true, false, List, [], ◌∷◌, ◌++◌, ◌==◌, if◌then◌else◌, refl, sym, ap, subst, ◌∙◌}
use Rattle.telnet_shell.proofs.Prelude.{append-nil, Awaits, Token, tokens, tokens_at, next_awaits, awaits_after, commands, line_after}
use Rattle.telnet_shell.proofs.Prelude.{all_commands, Text, Byte, Answer, IsLine, IsOpen, awaited, tokens_joined, commands_joined}

pub awaits_one : (awaits : Awaits) (xs : List ℕ) (byte : ℕ) → awaits_after awaits (xs ++ byte ∷ []) ≡ next_awaits (awaits_after awaits xs) byte
awaits_one awaits [] byte = refl
awaits_one awaits (x ∷ xs) byte = awaits_one (next_awaits awaits x) xs byte

pub tokens_one : (delivered : List ℕ) (byte : ℕ) → tokens Text (delivered ++ byte ∷ []) ≡ tokens Text delivered ++ tokens_at (awaits_after Text delivered) byte
tokens_one delivered byte =
    tokens_joined Text delivered (byte ∷ []) ∙ ap (λ (ts : List Token). tokens Text delivered ++ ts) (append-nil (tokens_at (awaits_after Text delivered) byte))

byte_line : (line : List ℕ) (byte : ℕ) (ts us : List Token) (ends drops : Bool)
    → ((l : List ℕ) → line_after l (ts ++ us) ≡ line_after (line_after l ts) us)
    → (if ends then line_after [] (ts ++ us) else if drops then line_after line (ts ++ us) else line_after (line ++ byte ∷ []) (ts ++ us))
    ≡ line_after (if ends then line_after [] ts else if drops then line_after line ts else line_after (line ++ byte ∷ []) ts) us
byte_line line byte ts us true drops rest = rest []
byte_line line byte ts us false true rest = rest line
byte_line line byte ts us false false rest = rest (line ++ byte ∷ [])

pub line_joined : (line : List ℕ) (ts us : List Token) → line_after line (ts ++ us) ≡ line_after (line_after line ts) us
line_joined line [] us = refl
line_joined line (Answer command ∷ ts) us = line_joined line ts us
line_joined line (Byte byte ∷ ts) us = byte_line line byte ts us (byte == 10) (byte == 13) (λ l. line_joined l ts us)

pub goes_on : (kept kept' : List ℕ) (over over' : Bool) (iac iac' delivered : List ℕ) (byte : ℕ) (ts : List Token)
    → awaited iac' ≡ next_awaits (awaited iac) byte → ts ≡ tokens_at (awaited iac) byte
    → ((line : List ℕ) → IsLine kept over line → IsLine kept' over' (line_after line ts))
    → IsOpen kept over iac delivered → IsOpen kept' over' iac' (delivered ++ byte ∷ [])
goes_on kept kept' over over' iac iac' delivered byte ts next reported_is keeps is =
    let line_is : line_after [] (tokens Text (delivered ++ byte ∷ [])) ≡ line_after (line_after [] (tokens Text delivered)) ts =
    ap (λ (us : List Token). line_after [] us) (tokens_one delivered byte)
    ∙ line_joined [] (tokens Text delivered) (tokens_at (awaits_after Text delivered) byte)
    ∙ ap (λ (us : List Token). line_after (line_after [] (tokens Text delivered)) us) (sym (reported_is ∙ ap (λ (a : Awaits). tokens_at a byte) is.awaits)) in
    record {
      awaits = next ∙ ap (λ (a : Awaits). next_awaits a byte) is.awaits ∙ sym (awaits_one Text delivered byte);
      line = subst (λ (line : List ℕ). IsLine kept' over' line) (sym line_is) (keeps (line_after [] (tokens Text delivered)) is.line);
    }

-- all commands after one more byte
pub commands_one : (delivered : List ℕ) (byte : ℕ) → all_commands (delivered ++ byte ∷ []) ≡ all_commands delivered
    ++ commands (line_after [] (tokens Text delivered)) (tokens_at (awaits_after Text delivered) byte)
commands_one delivered byte =
    ap (λ (ts : List Token). commands [] ts) (tokens_one delivered byte) ∙ commands_joined [] (tokens Text delivered)
    (tokens_at (awaits_after Text delivered) byte)
