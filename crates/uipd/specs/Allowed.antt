-- What every command satisfies: the content types in it are allowed ones, and a schedule is made for 1 to 64 clients.
-- [add: command] What the words of a command always satisfy.
use Rattle.std.specs.Prelude.{◌≤◌, All, IsTrue, string_bytes, ⊤}
use Rattle.site_image.specs.Prelude.{is_kind}
use Rattle.uipd.specs.declared.words.Command.{Command}
use Rattle.uipd.specs.declared.words.Command.TheVariants.{Load, Upgrade}
use Rattle.uipd.specs.Words.{back_part}

abbrev pub IsAllowed : Command → Type 0
IsAllowed (Upgrade site words) = All (λ word. IsTrue (is_kind (back_part (string_bytes word)))) words.now
IsAllowed (Load site seed clients) = (1 ≤ clients) × (clients ≤ 64)
IsAllowed _ = ⊤
