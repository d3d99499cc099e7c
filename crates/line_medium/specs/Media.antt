-- The specification of a medium: how it decodes bytes, what it does by itself, and how it encodes datagrams.
use Rattle.std.specs.Prelude.{◌≡◌, ◌≤◌, ℕ, List, [], ◌∷◌, ◌++◌, length, ⊤}
use Rattle.uip_wire.specs.declared.sizes.TheConstants.{LARGEST_DATAGRAM}
use Rattle.line_medium.specs.declared.medium.Decoded.{Decoded}
use Rattle.line_medium.specs.declared.medium.Decoded.TheVariants as brought

-- What a byte decodes to: a datagram for the node, a frame that is too long, or an act of the medium itself.
pub data MediumInput (A : Type 0) : Type 0 where
  Datagram : List ℕ → MediumInput A
  Overlong : MediumInput A
  Own : A → MediumInput A

-- A medium whose own acts are in A, specified over whole lists: the bytes before, and the acts before.
pub record MediumSpec (A : Type 0) : Type 0 where
  pub decodes : List ℕ → ℕ → List (MediumInput A)  -- what a byte decodes to after the bytes before it
  pub at_tick : List A  -- its acts at a tick, before the periodic calls
  pub output_at : A → List ℕ  -- the bytes that it writes for an act
  pub text : List A → List ℕ → List ℕ  -- the encoding of a datagram after the acts so far

-- what bytes decode to after others
abbrev pub all_decoded : {A : Type 0} → MediumSpec A → List ℕ → List ℕ → List (MediumInput A)
all_decoded w before [] = []
all_decoded w before (b ∷ bytes) = w.decodes before b ++ all_decoded w (before ++ b ∷ []) bytes

-- the acts among the decoded inputs
abbrev pub acts_among : {A : Type 0} → List (MediumInput A) → List A
acts_among [] = []
acts_among (Own a ∷ cs) = a ∷ acts_among cs
acts_among (Datagram d ∷ cs) = acts_among cs
acts_among (Overlong ∷ cs) = acts_among cs

-- the bytes written for all acts
abbrev pub all_written : {A : Type 0} → MediumSpec A → List A → List ℕ
all_written w [] = []
all_written w (a ∷ acts) = w.output_at a ++ all_written w acts

-- What a result reports, if these bytes can be read from the medium.
abbrev pub ReportsBrought : {A : Type 0} → MediumSpec A → List ℕ → Decoded → List (MediumInput A) → Type 0
ReportsBrought w shown brought.Nothing cs = cs ≡ []
ReportsBrought w shown brought.Overlong cs = cs ≡ Overlong ∷ []
ReportsBrought w shown (brought.Datagram n) cs = cs ≡ Datagram shown ∷ []
ReportsBrought {A = A} w shown (brought.Own n) cs = (a : A) × (cs ≡ Own a ∷ []) × (w.output_at a ≡ shown)

-- what a result leaves to be read
abbrev pub ShowsBrought : (ℕ → Type 0) → List ℕ → Decoded → Type 0
ShowsBrought shows shown brought.Nothing = ⊤
ShowsBrought shows shown brought.Overlong = ⊤
ShowsBrought shows shown (brought.Datagram n) = shows n × (length shown ≤ LARGEST_DATAGRAM)
ShowsBrought shows shown (brought.Own n) = shows n
