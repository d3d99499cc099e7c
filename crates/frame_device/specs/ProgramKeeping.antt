-- How the trace of a program's calls conforms.
use Rattle.std.specs.Prelude.{Bool, flat_map, List, ℕ}
use Rattle.app_events.specs.Prelude.{AppSpec}
use Rattle.uip_wire.specs.declared.addr.Addr.{Addr}
use Rattle.frame_device.specs.Newest.{NewestInEachSlot}
use Rattle.node_laws.specs.Prelude.{OutputModel}
use Rattle.serve_loop.specs.Prelude.{initial_station}
use Rattle.frame_device.specs.FrameKeeping.{FramesConform}
use Rattle.frame_device.specs.FrameSpecs.{GuardedLink}
use Rattle.frame_device.specs.ProgramCalls.{AnsweredBy, Program, after_program_calls, program_calls, program_stations, frames_made}

-- Calls of a program on a fresh device with these numbers were answered so. Each writes the frame of what is sent in trace entries of its
-- own events, or of the link's own event, and the trace conforms. The newest incarnation on the sockets of each connection that is not
-- CLOSED is that of this connection.
pub record ProgramConforms {Call C : Type 0} (program : Program Call C) (m : AppSpec) (served : ℕ → Bool) (w : GuardedLink C) (own : Addr)
    (model : ℕ → OutputModel) (numbers : List ℕ) (all : List (AnsweredBy Call)) : Type 0 where
  pub frames : FramesConform w m model served own
      (program_stations program m served w own (program_calls all) (initial_station own numbers)) (frames_made program all)
  pub newest : NewestInEachSlot model (after_program_calls program m served w own (program_calls all) (initial_station own numbers)).node
      (flat_map (λ it. it.turns) frames.moves)
