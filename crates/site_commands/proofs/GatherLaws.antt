-- A list that is read file by file.
use Rattle.site_commands.proofs.Prelude.{◌≡◌, ℕ, ◌+◌, ◌-◌, ◌<◌, ◌≤◌, List, [], ◌∷◌, ◌++◌, length, drop, get_or, Option, Some, None, Result}
use Rattle.site_commands.proofs.Prelude.{Ok, Err, refl, sym, ap, subst, inl, inr, ◌∙◌, append_assoc, append-nil, arith, ⊤, IsSomeAnd}
use Rattle.site_commands.proofs.Prelude.{nat_lt, option_map, option_and_then, if◌then◌else◌, le-ltb, lt-ltb, at_drop_more, at_drop_all}
use Rattle.site_commands.proofs.Prelude.{Rose, Files, IsMissing, HeldFile, LONGEST_IMAGE, SiteError, TooLong, ◌>>=◌, fault, LoadFault}
use Rattle.site_commands.proofs.Prelude.{Shelf, Bad, NoMemory, HoldsFile, HasLoadCause, FindsInFiles, LacksFile, NamedContent, Gathers}
use Rattle.site_commands.proofs.Prelude.{IsTooLong, WasRead, gathered, list_of, with_first}

abbrev pub ReadList : Type 0
ReadList = Result (List HeldFile) SiteError

-- the file that is packed of a named file
abbrev pub entry_of : NamedContent → List ℕ → HeldFile
entry_of named content = record { name = named.name; content = content }

-- the list with entries before it
abbrev pub behind : List HeldFile → ReadList → ReadList
behind before list = list >>= λ entries. Ok (before ++ entries)

behind-more : (before : List HeldFile) (entry : HeldFile) (o : Option ReadList)
    → option_map (behind before) (option_map (with_first entry) o) ≡ option_map (behind (before ++ entry ∷ [])) o
behind-more before entry None = refl
behind-more before entry (Some (Ok list)) = ap (λ l. let r : Option ReadList = Some (Ok l) in r) (sym (append_assoc before (entry ∷ []) list))
behind-more before entry (Some (Err e)) = refl

-- what the first of the named files gives
rest_of : Files → ℕ → NamedContent → List NamedContent → List ℕ → Option ReadList
rest_of files room named rest content =
    if nat_lt room (length content) then Some (Err (fault TooLong 0)) else option_map (with_first (entry_of named content))
    (gathered files (room - length content) rest)

gathered-cons : (files : Files) (room : ℕ) (named : NamedContent) (rest : List NamedContent)
    → gathered files room (named ∷ rest) ≡ option_and_then (rest_of files room named rest) (files named.file)
unfolding gathered rest_of
gathered-cons files room named rest = refl

fits : (files : Files) (room : ℕ) (named : NamedContent) (rest : List NamedContent) (content : List ℕ) → files named.file ≡ Some content → length content ≤ room
    → gathered files room (named ∷ rest) ≡ option_map (with_first (entry_of named content)) (gathered files (room - length content) rest)
unfolding rest_of
fits files room named rest content held room_is =
    gathered-cons files room named rest ∙ ap (option_and_then (rest_of files room named rest)) held
    ∙ ap (λ t. if t then (let r : Option ReadList = Some (Err (fault TooLong 0)) in r) else option_map (with_first (entry_of named content))
    (gathered files (room - length content) rest))
    (le-ltb room (length content) room_is)

overflows : (files : Files) (room : ℕ) (named : NamedContent) (rest : List NamedContent) (content : List ℕ)
    → files named.file ≡ Some content → room < length content
    → gathered files room (named ∷ rest) ≡ Some (Err (fault TooLong 0))
unfolding rest_of
overflows files room named rest content held long =
    gathered-cons files room named rest ∙ ap (option_and_then (rest_of files room named rest)) held
    ∙ ap (λ t. if t then (let r : Option ReadList = Some (Err (fault TooLong 0)) in r) else option_map (with_first (entry_of named content))
    (gathered files (room - length content) rest))
    (lt-ltb room (length content) long)

lacks : (files : Files) (room : ℕ) (named : NamedContent) (rest : List NamedContent) → files named.file ≡ None → gathered files room (named ∷ rest) ≡ None
lacks files room named rest missing = gathered-cons files room named rest ∙ ap (option_and_then (rest_of files room named rest)) missing

-- the content that is held
held_content : (o : Option (List ℕ)) (P : List ℕ → Type 0) → IsSomeAnd o P → (content : List ℕ) × (o ≡ Some content) × P content
held_content None P holds = absurd holds
held_content (Some content) P holds = (content, refl, holds)

-- what was read so far, with this room left
abbrev pub SoFar : Option Files → List NamedContent → ℕ → ℕ → List HeldFile → Type 0
SoFar None named i room list = ⊤
SoFar (Some files) named i room list = list_of named files ≡ option_map (behind list) (gathered files room (drop i named))

pub record Gathering (named : List NamedContent) (i room : ℕ) (list : List HeldFile) (start now : Option Files) (before faults : ℕ) : Type 0 where
  pub held : now ≡ start
  pub same : faults ≡ before
  pub most : room ≤ LONGEST_IMAGE
  pub so_far : SoFar start named i room list

-- the next of the named files
next_is : (files : Files) (named : List NamedContent) (i room : ℕ) (n : NamedContent) → i < length named → n ≡ get_or named i n
    → gathered files room (drop i named) ≡ gathered files room (n ∷ drop (i + 1) named)
next_is files named i room n lt is =
    at_drop_more (gathered files room) named i n lt ∙ ap (λ x. gathered files room (x ∷ drop (i + 1) named)) (sym is)

so_far-more : (held : Option Files) (named : List NamedContent) (i room left : ℕ) (list new : List HeldFile) (n : NamedContent)
    → i < length named → n ≡ get_or named i n
    → HoldsFile held n.file (WasRead n room left list new) → SoFar held named i room list → SoFar held named (i + 1) left new
so_far-more None named i room left list new n lt is holds so_far = tt
so_far-more (Some files) named i room left list new n lt is holds so_far =
    let found = held_content (files n.file) (WasRead n room left list new) holds in
    let content : List ℕ = found.0 in
    let was : WasRead n room left list new content = found.2 in
    let rest : List NamedContent = drop (i + 1) named in
    so_far
    ∙ ap (option_map (behind list)) (next_is files named i room n lt is ∙ fits files room n rest content found.1 was.fits)
    ∙ behind-more list (entry_of n content) (gathered files (room - length content) rest)
    ∙ ap (λ k. option_map (behind (list ++ entry_of n content ∷ [])) (gathered files k rest)) (sym was.left_is)
    ∙ ap (λ l. option_map (behind l) (gathered files left rest)) (sym was.entry)

pub gathering-more : (named : List NamedContent) (i room left : ℕ) (list new : List HeldFile) (start now next : Option Files)
    (before faults raised : ℕ) (n : NamedContent)
    → i < length named → n ≡ get_or named i n → Gathering named i room list start now before faults
    → HoldsFile now n.file (WasRead n room left list new) → left ≤ room → next ≡ now → raised ≡ faults
    → Gathering named (i + 1) left new start next before raised
gathering-more named i room left list new start now next before faults raised n lt is g read less kept same =
    let most = g.most in
    record {
      held = kept ∙ g.held;
      same = same ∙ g.same;
      most = omega arith;
      so_far = so_far-more start named i room left list new n lt is (subst (λ h. HoldsFile h n.file (WasRead n room left list new)) g.held read) g.so_far;
    }

nothing : (files : Files) (room : ℕ) → gathered files room [] ≡ Some (Ok [])
unfolding gathered
nothing files room = refl

-- all files were read
all_read : (held : Option Files) (named : List NamedContent) (i room : ℕ) (list : List HeldFile) → length named ≤ i
    → SoFar held named i room list → FindsInFiles (list_of named) held (Ok list)
all_read None named i room list end so_far = tt
all_read (Some files) named i room list end so_far =
    so_far ∙ ap (option_map (behind list)) (at_drop_all (gathered files room) named i end ∙ nothing files room)
    ∙ ap (λ l. let r : Option ReadList = Some (Ok l) in r) (append-nil list)

pub gathered-all : {X : Type 0} (view : X → List HeldFile) (x : X) (named : List NamedContent) (i room : ℕ) (start now : Option Files)
    (before faults : ℕ) → length named ≤ i
    → Gathering named i room (view x) start now before faults → Gathers view named start before faults (Ok x)
gathered-all view x named i room start now before faults end g = (all_read start named i room (view x) end g.so_far, g.same)

-- a file is missing, or there is no room for it
lacks_one : (held : Option Files) (named : List NamedContent) (i room : ℕ) (list : List HeldFile) (n : NamedContent) → i < length named → n ≡ get_or named i n
    → IsMissing held n.file → SoFar held named i room list → LacksFile (list_of named) held
lacks_one None named i room list n lt is missing so_far = missing
lacks_one (Some files) named i room list n lt is missing so_far =
    so_far ∙ ap (option_map (behind list)) (next_is files named i room n lt is ∙ lacks files room n (drop (i + 1) named) missing)

no_room : (held : Option Files) (named : List NamedContent) (i room : ℕ) (list : List HeldFile) (n : NamedContent) (error : SiteError)
    → i < length named → n ≡ get_or named i n
    → error ≡ fault TooLong 0 → HoldsFile held n.file (λ content. room < length content) → SoFar held named i room list
    → FindsInFiles (list_of named) held (Err error)
no_room None named i room list n error lt is e holds so_far = tt
no_room (Some files) named i room list n error lt is e holds so_far =
    let found = held_content (files n.file) (λ content. room < length content) holds in
    so_far ∙ ap (option_map (behind list)) (next_is files named i room n lt is ∙ overflows files room n (drop (i + 1) named) found.0 found.1 found.2)
    ∙ ap (λ x. let r : Option ReadList = Some (Err x) in r) (sym e)

pub gathering-stops : {X : Type 0} (view : X → List HeldFile) (named : List NamedContent) (i room : ℕ) (list : List HeldFile)
    (start now : Option Files) (before faults raised : ℕ)
    (n : NamedContent) (why : LoadFault) (r : Result ℕ LoadFault) → r ≡ Err why → i < length named → n ≡ get_or named i n
    → Gathering named i room list start now before faults
    → IsTooLong now n.file room why → HasLoadCause faults raised now n.file r → Gathers view named start before raised (Err why)
gathering-stops view named i room list start now before faults raised n Shelf r e lt is g long cause =
    let c : HasLoadCause faults raised now n.file (let x : Result ℕ LoadFault = Err Shelf in x) = subst (HasLoadCause faults raised now n.file) e cause in
    let same = g.same in (
      elim c.1 [
        | inl rose ↦ inl (subst (λ b. Rose b raised) g.same rose)
        | inr missing ↦ inr (lacks_one start named i room list n lt is (subst (λ h. IsMissing h n.file) g.held missing) g.so_far)
      ],
      (let later = c.0 in omega arith),
    )
gathering-stops view named i room list start now before faults raised n (Bad error) r e lt is g long cause =
    let c : HasLoadCause faults raised now n.file (let x : Result ℕ LoadFault = Err (Bad error) in x) = subst
    (HasLoadCause faults raised now n.file) e cause in (
      no_room start named i room list n error lt is long.0 (subst (λ h. HoldsFile h n.file (λ content. room < length content)) g.held long.1) g.so_far,
      c ∙ g.same,
    )
gathering-stops view named i room list start now before faults raised n NoMemory r e lt is g long cause =
    let c : HasLoadCause faults raised now n.file (let x : Result ℕ LoadFault = Err NoMemory in x) = subst (HasLoadCause faults raised now n.file) e cause in
    c ∙ g.same
