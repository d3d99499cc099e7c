-- What a burial does to the clients' addresses and ports: nothing.
use Rattle.link_replay.proofs.Prelude.{◌≡◌, ℕ, zero, suc, List, [], ◌∷◌, map, refl, Option, Some, None, slice_get}
use Rattle.link_replay.proofs.Prelude.{Connection, same_sockets}
use Rattle.link_replay.proofs.Prelude.{Side, retires}
use Rattle.link_replay.proofs.Prelude.{retires_in, client_sockets, choose}
use Rattle.link_replay.proofs.Places.{Sames, SamePlaces, same_places}

one_buried : (g : Connection) (side : Side) → side.client.setup ≡ (retires_in g side).client.setup
one_buried g side = choose (λ (x : Side). side.client.setup ≡ x.client.setup) (same_sockets g.sockets (client_sockets side)) _ _ (λ e. refl) (λ e. refl)

all_buried : (g : Connection) (sides : List Side) (i : ℕ) → Sames (slice_get sides i) (slice_get (map (retires_in g) sides) i)
all_buried g [] i = tt
all_buried g (side ∷ sides) zero = one_buried g side
all_buried g (side ∷ sides) (suc i) = all_buried g sides i

-- a burial leaves the clients' addresses and ports
pub buried_places : (gone : Option Connection) (sides : List Side) → SamePlaces sides (retires gone sides)
buried_places None sides = same_places sides
buried_places (Some g) sides = record { each = all_buried g sides }
