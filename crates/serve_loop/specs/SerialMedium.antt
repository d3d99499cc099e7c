-- The medium of a serial line: SLIP (RFC 1055).
use Rattle.std.specs.Prelude.{List, [], map, ⊤}
use Rattle.uip_slip.specs.Frames.{Frame, Datagram as DatagramFrame, Overlong as OverlongFrame, completed}
use Rattle.uip_slip.specs.Prelude.{slip_text}
use Rattle.line_medium.specs.Prelude.{MediumInput, Datagram, Overlong, MediumSpec}

-- A serial line has no acts of its own.
pub data NoAct : Type 0 where

-- Any acts are possible, since there are none.
abbrev pub any_acts : List NoAct → Type 0
any_acts acts = ⊤

-- what a frame decodes to
abbrev pub came_by : Frame → MediumInput NoAct
came_by (DatagramFrame bytes) = Datagram bytes
came_by OverlongFrame = Overlong

-- A byte decodes the frame that it completes; a datagram is written as SLIP text.
abbrev pub slip_medium : MediumSpec NoAct
slip_medium = record {
  decodes = λ before b. map came_by (completed before b);
  at_tick = [];
  output_at = λ a. [];
  text = λ acts datagram. slip_text datagram;
}
