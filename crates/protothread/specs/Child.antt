-- The child of a thread, if there is one.
use Rattle.std.specs.Prelude.{ℕ, List, [], Option, Some, None}

-- if there is a child, it fits the world
abbrev pub ChildFits : {C : Type 0} → (C → List ℕ → Type 0) → Option C → List ℕ → Type 0
ChildFits fits None world = Unit {0}
ChildFits fits (Some child) world = fits child world

-- the text that it has left
abbrev pub child_text : {C : Type 0} → (C → List ℕ → List ℕ) → Option C → List ℕ → List ℕ
child_text text_left None world = []
child_text text_left (Some child) world = text_left child world
