-- The names of the definitions of this crate that other files cite, passed on from one place. Declares nothing.
pub use Rattle.uip_both_c.specs.BothCalls.{AnsweredCall, OpensAndProtects, BothAtStation, BothCall, Calls, CallsAreExact, CouldWrite}
pub use Rattle.uip_both_c.specs.BothCalls.{DidCall, DidCalls, Gives, IsExact, Listens, OfEachCall, Writes, both_program, call_at, change_by}
pub use Rattle.uip_both_c.specs.BothCalls.{first_station, link_of, ports_after, ports_after_call, station_after_call, station_after_calls, undropped}
pub use Rattle.uip_both_c.specs.BothPromise.{BothCallsConform, BothTraceConforms, Captures, IsCallOfBytes, both_model, connection_after}
pub use Rattle.uip_both_c.specs.BothPromise.{text_in_call}
pub use Rattle.uip_both_c.specs.BothSpec.{HasAbstractNode, OfBoth, both, both_spec, first_both_numbers, is_both_port, own_in, own_port_in}
pub use Rattle.uip_both_c.specs.BothSpec.{site_of}
pub use Rattle.uip_both_c.specs.Handles.{BothAnswers, BothGives, BothWrites, CannotWrite, OpensBothAs, ProtectsBoth, ReadsSlot, both_rules}
pub use Rattle.uip_both_c.specs.Handles.{IsFreshBothEther, ReadsGuard, is_late}
pub use Rattle.uip_both_c.specs.Holding.{DeviceRow, holds}
pub use Rattle.uip_both_c.specs.Kept.{BothApps, BothEther, BothNode, BothShared, Kept}
pub use Rattle.uip_both_c.specs.Opening.{IsOpenedBoth, OpensBoth, OpensBothEther}
pub use Rattle.uip_both_c.specs.Ports.{BothListens, BothInputs, OpensPort, InputsOrDrops, has_no_room, is_dropped, ports_of, with_ports_of}
