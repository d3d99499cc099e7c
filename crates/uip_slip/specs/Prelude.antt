-- The names of the definitions of this crate that other files cite, passed on from one place. Declares nothing.
pub use Rattle.uip_slip.specs.Decoding.{EndsFrame, FeedsBytes, FeedsPrefix, IsNoise, Leaves, PartState, State, WasFed, is_free, open_bytes, reported_by, state_in, waits_after}
pub use Rattle.uip_slip.specs.Frames.{Datagram, Frame, IsPlainPrefix, Overlong, all_but_last, completed, frame_of}
pub use Rattle.uip_slip.specs.Frames.{frames, is_mark, is_plain, last_of, meant, open_part, parts, unescaped}
pub use Rattle.uip_slip.specs.Steps.{Closes, joined_parts, pushed, reopened, taken}
pub use Rattle.uip_slip.specs.Text.{escaped, escaped_byte, slip_text}
