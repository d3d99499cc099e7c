-- The names of the definitions of this crate that other files cite, passed on from one place. Declares nothing.
pub use Rattle.frame_device.specs.EtherBytes.{ether_brings_bytes}
pub use Rattle.frame_device.specs.EtherFrames.{AllHome, FramesGoHome, IsHome, SentAsOnLine, ether_frames, guarded_ether, interface_of}
pub use Rattle.frame_device.specs.EtherFrames.{Setup, interface_by, key_by, on_line}
pub use Rattle.frame_device.specs.FrameCalls.{AnsweredFrame, AnswersAllFrames, AnswersFrame, AnswersFrameMove, CallsSlot, ChangesNumbers}
pub use Rattle.frame_device.specs.FrameCalls.{DoesNothing, FrameCall, FrameMove, FromFresh, GainsSecret, Gives, InputsFrame}
pub use Rattle.frame_device.specs.FrameCalls.{IsFreshFrameDevice, Makes, counts_after_moves, counts_by_call, counts_by_inputs}
pub use Rattle.frame_device.specs.FrameCalls.{counts_by_move, guard_with}
pub use Rattle.frame_device.specs.FrameCalls.{RepresentsStation, Writing, frame_moves_of, frame_sent, frames_sent, input_events, handed_of}
pub use Rattle.frame_device.specs.FrameCalls.{output_of_call, station_after_frame_call, station_after_move, station_after_moves}
pub use Rattle.frame_device.specs.FrameCalls.{station_events_by, station_events_of_move, with_secret, with_value}
pub use Rattle.frame_device.specs.FrameKeeping.{FrameTrace, FramesConform, HandsOutFrame, IsFrameOfBytes, KeepsU32, stations_at}
pub use Rattle.frame_device.specs.FrameSpecs.{DecodesBytes, FrameSpec, GuardedLink, IsSilent, acts_before, as_medium, guarded_link, lensed}
pub use Rattle.frame_device.specs.FrameSpecs.{wire_medium}
pub use Rattle.frame_device.specs.NextHop.{Interface, IsOneLink, hop_of, interface_at, is_on_link, masked, next_hop, no_address}
