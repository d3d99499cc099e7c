-- A world of the code as plain data.
use Rattle.std.specs.Prelude.{ℕ, Bool, List}
use Rattle.uip_node.specs.Prelude.{Node}
use Rattle.link_replay.specs.Plain.{CodeSent, CodeSide}

-- the clients, and every datagram sent, both numbered from 1
pub record Link : Type 0 where
  pub sides : List CodeSide
  pub sent : List CodeSent

abbrev pub link_of : List CodeSide → List CodeSent → Link
link_of sides sent = record { sides = sides; sent = sent }

pub record CodeWorld (A S : Type 0) : Type 0 where
  pub node : Node A S
  pub link : Link
  pub mark : ℕ
  pub spent : Bool
  pub area : List ℕ
