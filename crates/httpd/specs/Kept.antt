-- What a thread keeps while it sends something inside a script: the file of the include, and the record of the last snapshot.
-- [add: piece] An arm of `KeepsDirective`.
use Rattle.std.specs.Prelude.{◌≡◌, ℕ, ◌+◌, true, List, [], ◌∷◌, ◌++◌, slice_range, Some}
use Rattle.app_events.specs.Prelude.{Snapshot}
use Rattle.file_tree.specs.declared.file_id.FileId.{FileId}
use Rattle.script_lang.specs.declared.piece.PieceOf.{PieceOf}
use Rattle.script_lang.specs.declared.piece.PieceOf.TheVariants.{Include, Call}
use Rattle.script_lang.specs.Prelude.{begins, piece_by}
use Rattle.web_pages.specs.Prelude.{made_by, place_of}
use Rattle.httpd.specs.declared.thread.Thread.{Thread}
use Rattle.httpd.specs.declared.thread.Thread.TheVariants.{Head, Kind, Body, Inside, Making, End}
use Rattle.httpd.specs.Reply.{FileReply, body}

-- The directive that ends at `next`: its kind, and the word that it names.
pub record EndsDirective {F : Type 0} (named : List ℕ → F) (script : List ℕ) (next : ℕ)
    (directive : ℕ → ℕ → PieceOf F) (word : List ℕ) : Type 0 where
  pub from : ℕ
  pub at : ℕ
  pub len : ℕ
  pub begins : begins script from ≡ true
  pub piece : piece_by named script from ≡ record { piece = directive at len; next = next }
  pub names : slice_range script at (at + len) ≡ word

-- the directive that ends at `next` is an include of the name
abbrev pub EndsInclude : {F : Type 0} → FileReply F → ℕ → List ℕ → Type 0
EndsInclude reply next name = EndsDirective reply.functions.function_table.named (body reply) next (λ at len. Include at len) name

-- It is a call of the function with the argument.
abbrev pub EndsCall : {F : Type 0} → FileReply F → ℕ → F → List ℕ → Type 0
EndsCall reply next function argument = EndsDirective reply.functions.function_table.named (body reply) next
    (λ at len. Call function at len) argument

-- It is an include of the file.
pub record Includes {F : Type 0} (reply : FileReply F) (next : ℕ) (file : FileId) : Type 0 where
  pub name : List ℕ
  pub directive : EndsInclude reply next name
  pub place : place_of reply.files name ≡ Some file.0

-- It is a call, and the record is the one captured for it with the last snapshot.
pub record IsTaken {F : Type 0} (reply : FileReply F) (next : ℕ) (captures : List Snapshot) : Type 0 where
  pub function : F
  pub argument : List ℕ
  pub earlier : List Snapshot
  pub last : Snapshot
  pub directive : EndsCall reply next function argument
  pub takes : reply.functions.function_table.takes_capture function ≡ true
  pub taken : captures ≡ earlier ++ last ∷ []
  pub record_is : reply.made ≡ made_by reply.functions reply.files function argument last

-- What the thread keeps is right.
abbrev pub KeepsDirective : {F : Type 0} → FileReply F → List Snapshot → Thread → Type 0
KeepsDirective reply captures (Inside next file at) = Includes reply next file
KeepsDirective reply captures (Making next at) = IsTaken reply next captures
KeepsDirective reply captures (Head at) = Unit {0}
KeepsDirective reply captures (Kind at) = Unit {0}
KeepsDirective reply captures (Body at) = Unit {0}
KeepsDirective reply captures End = Unit {0}

-- It is right for any snapshots.
abbrev pub KeepsAll : {F : Type 0} → FileReply F → Thread → Type 0
KeepsAll reply thread = (captures : List Snapshot) → KeepsDirective reply captures thread

-- If it is right for one thread, it is right for the other.
abbrev pub KeepsOn : {F : Type 0} → FileReply F → Thread → Thread → Type 0
KeepsOn reply thread other = (captures : List Snapshot) → KeepsDirective reply captures thread → KeepsDirective reply captures other
