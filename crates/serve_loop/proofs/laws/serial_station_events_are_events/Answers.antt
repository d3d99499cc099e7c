use Rattle.serve_loop.proofs.Prelude.{[]}
use Rattle.serve_loop.proofs.SlipServeLaws.{after_is, station_events_are, sent_text_is}
use Rattle.serve_loop.proofs.laws.serial_station_events_are_events.Goals as goal

pub returns : goal.returns
returns c = record { station_events = λ own pace items. station_events_are own pace [] items; leads = after_is; output = sent_text_is }
