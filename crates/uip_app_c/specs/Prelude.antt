-- The names of the definitions of this crate that other files cite, passed on from one place. Declares nothing.
pub use Rattle.uip_app_c.specs.AppCalls.{AnsweredCall, AppCall, OpensAndProtects, Calls, CallsAreExact, CouldWrite, DidCall, DidCalls}
pub use Rattle.uip_app_c.specs.AppCalls.{IsExact, Listens, OfEachCall, OwnAtStation, Writes, app_program, call_at, change_by, first_station, link_of, ports_after}
pub use Rattle.uip_app_c.specs.AppCalls.{ports_after_call, station_after_call, station_after_calls, undropped}
pub use Rattle.uip_app_c.specs.AppPromise.{AppCallsConform, AppTraceConforms, Captures, IsCallOfBytes, connection_after, text_in_call}
pub use Rattle.uip_app_c.specs.Handles.{CannotWrite, IsFreshOwnEther, OpensOwn, OwnAnswers, OwnWrites, ProtectsOwn, ReadsSlot, is_late}
pub use Rattle.uip_app_c.specs.Handles.{ReadsGuard, own_rules}
pub use Rattle.uip_app_c.specs.Holding.{DeviceRow, holds}
pub use Rattle.uip_app_c.specs.Kept.{Kept, OwnEther}
pub use Rattle.uip_app_c.specs.Ports.{OpensPort, OwnListens, OwnInputs, InputsOrDrops, has_no_room, ports_of}
