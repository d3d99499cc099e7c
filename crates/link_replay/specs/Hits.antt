-- The hits of a file as a count over the events of a node.
use Rattle.std.specs.Prelude.{◌≡◌, ℕ, ◌+◌, ◌==◌, ◌<◌, ◌||◌, Bool, false, List, [], ◌∷◌}
use Rattle.std.specs.Prelude.{length, Option, Some, None, if◌then◌else◌, slice_index}
use Rattle.uip_wire.specs.Prelude.{wrap}
use Rattle.uip_wire.specs.declared.addr.Addr.{Addr}
use Rattle.site_image.specs.Prelude.{File}
use Rattle.tcp_machine.specs.Prelude.{Connection}
use Rattle.uip_node.specs.Prelude.{Event, AbstractNode, initial_node, run, step}
use Rattle.web_pages.specs.Prelude.{place_of, Wanted, wanted, NotYet, Refused, Name, is_served, no_hits, web_spec}

abbrev pub is_place : ℕ → Option ℕ → Bool
is_place place None = false
is_place place (Some found) = found == place

-- An undecided request became a request for the file with this index.
abbrev pub becomes_hit : List File → ℕ → Wanted → Wanted → Bool
becomes_hit files place NotYet (Name name) = is_place place (place_of files name)
becomes_hit files place NotYet NotYet = false
becomes_hit files place NotYet Refused = false
becomes_hit files place Refused after = false
becomes_hit files place (Name name) after = false

-- This happened to the request of one of the connections.
abbrev pub one_hits : List File → ℕ → List Connection → List Connection → Bool
one_hits files place [] after = false
one_hits files place (c ∷ before) [] = false
one_hits files place (c ∷ before) (d ∷ after) =
    becomes_hit files place (wanted c.part.input) (wanted d.part.input) || one_hits files place before after

-- the number of events of a run at which this happened
abbrev pub hits_over : List File → ℕ → List Event → AbstractNode → ℕ
hits_over files place [] n = 0
hits_over files place (e ∷ es) n =
    let after : AbstractNode = (step (web_spec files) is_served n e).node in
    if one_hits files place n.connections after.connections then hits_over files place es after + 1 else hits_over files place es after

-- The hits of a file are the events at which the request of a connection was decided as its name, modulo 2^32.
abbrev pub HitsAreCounted : Type 0
HitsAreCounted =
    (files : List File) (addr : Addr) (events : List Event) (place : ℕ) → place < length files →
    let first : AbstractNode = initial_node addr (no_hits files) in
    slice_index (run (web_spec files) is_served events first).node.numbers place ≡ wrap (hits_over files place events first)
