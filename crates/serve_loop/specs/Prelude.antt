-- The names of the definitions of this crate that other files cite, passed on from one place. Declares nothing.
pub use Rattle.serve_loop.specs.Items.{BringsBytes, CarriesBytes, IsItem}
pub use Rattle.serve_loop.specs.LineEvents.{beat, event_by, events_after, line_events}
pub use Rattle.serve_loop.specs.LineOutput.{initial_station, output_by}
pub use Rattle.serve_loop.specs.LineStationEvents.{beat_on, station_event_by, station_events_after, station_events_of_line, tick_on}
pub use Rattle.serve_loop.specs.Pace.{HasPassed, is_beat}
pub use Rattle.serve_loop.specs.SerialMedium.{NoAct, any_acts, came_by, slip_medium}
pub use Rattle.serve_loop.specs.ServeCalls.{BudgetIsReported, EndIsReported, ServesFresh, ServesPaced, TakesTurn}
pub use Rattle.serve_loop.specs.StationRuns.{AllWritten, OfMedium, OfNode, PrefixWritten, Station, StationEvent, StopsIn}
pub use Rattle.serve_loop.specs.StationRuns.{output, output_of_event, reply_text, station_after, station_after_all}
pub use Rattle.serve_loop.specs.StationServing.{IsStationed, WrittenAtEnd, ServesOver}
pub use Rattle.serve_loop.specs.Texts.{text_for, text_of}
pub use Rattle.serve_loop.specs.TurnCalls.{BreaksBrought, BreaksBytes, BreaksNodeEvent, BreaksSent, BreaksStationEvents, PlaysBrought}
pub use Rattle.serve_loop.specs.TurnCalls.{PlaysBytes, PlaysNodeEvent, PlaysStationEvents, StaysFed, TakesBytes, WritesSent}
pub use Rattle.serve_loop.specs.Turns.{HasTaken, IfLinkEnded, IsHere, IsNode, Turns, place}
