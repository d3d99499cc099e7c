-- What is loaded from a shelf, and when that may fail.
use Rattle.std.specs.Prelude.{◌≡◌, ◌≤◌, ◌⊎◌, ℕ, List, Option, None, Some, IsSomeAnd, Result, Ok, Err, ⊤}
use Rattle.site_image.specs.Prelude.{File, read_image}
use Rattle.uip_edge.specs.Prelude.{Rose, Files, IsMissing}
use Rattle.file_tree.specs.declared.load_fault.LoadFault.{LoadFault}
use Rattle.file_tree.specs.declared.load_fault.LoadFault.TheVariants.{Shelf, Bad, NoMemory}

-- if the content of the shelf is known, it holds a file of that name, and the fact holds for its content
abbrev pub HoldsFile : Option Files → List ℕ → (List ℕ → Type 0) → Type 0
HoldsFile None name fact = ⊤
HoldsFile (Some files) name fact = IsSomeAnd (files name) fact

-- The result is what reading the file's bytes gives, mapped by the function. A fault of the shelf and a lack of memory state
-- nothing about the bytes.
abbrev pub Loads : {X : Type 0} → (X → List File) → Option Files → List ℕ → Result X LoadFault → Type 0
Loads view held name (Ok x) = HoldsFile held name (λ content. read_image content ≡ Ok (view x))
Loads view held name (Err (Bad error)) = HoldsFile held name (λ content. read_image content ≡ Err error)
Loads view held name (Err Shelf) = ⊤
Loads view held name (Err NoMemory) = ⊤

-- The count rose or the file is missing, if the result is that the shelf failed; else the count stays the same.
abbrev pub HasLoadCause : {X : Type 0} → ℕ → ℕ → Option Files → List ℕ → Result X LoadFault → Type 0
HasLoadCause before now held name (Err Shelf) = (before ≤ now) × (Rose before now ⊎ IsMissing held name)
HasLoadCause before now held name (Err (Bad error)) = now ≡ before
HasLoadCause before now held name (Err NoMemory) = now ≡ before
HasLoadCause before now held name (Ok x) = now ≡ before

-- the shelf failed or memory ran out, which states nothing about the bytes
abbrev pub IsOutside : LoadFault → Type 0
IsOutside Shelf = ⊤
IsOutside NoMemory = ⊤
IsOutside (Bad error) = ⊥
