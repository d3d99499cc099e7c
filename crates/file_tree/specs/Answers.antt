-- The result of a call on an image or a list, determined by what reading it gives: the value, or the first fault. A call may
-- always run out of memory.
use Rattle.std.specs.Prelude.{◌≡◌, Result, Ok, Err, ⊤}
use Rattle.site_image.specs.declared.site_error.SiteError.{SiteError}
use Rattle.file_tree.specs.declared.load_fault.LoadFault.{LoadFault}
use Rattle.file_tree.specs.declared.load_fault.LoadFault.TheVariants.{Shelf, Bad, NoMemory}

-- the fault is the one that reading gives
abbrev pub Fails : {T : Type 0} → LoadFault → Result T SiteError → Type 0
Fails NoMemory read = ⊤
Fails (Bad error) read = read ≡ Err error
Fails Shelf read = ⊥

-- the result, mapped by the function, is what reading gives
abbrev pub Gives : {X Y : Type 0} → (X → Y) → Result X LoadFault → Result Y SiteError → Type 0
Gives view (Ok x) read = read ≡ Ok (view x)
Gives view (Err fault) read = Fails fault read
