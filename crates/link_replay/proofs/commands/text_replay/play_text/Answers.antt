use Rattle.link_replay.proofs.Prelude.{files_of}
use Rattle.link_replay.proofs.PlayedText.{text_answers, text_refused}
use Rattle.link_replay.proofs.commands.text_replay.play_text.Goals as goal

pub returns-in-Ok : goal.returns-in-Ok
returns-in-Ok g c = text_answers (files_of c.args.site) c.args.text.now c.in-Ok.schedule c.args.show c.in-Ok.ensures _ _ _ c.play_schedule.ensures

pub returns-in-Err : goal.returns-in-Err
returns-in-Err g c = text_refused (files_of c.args.site) c.args.text.now c.args.show c.in-Err.fault c.in-Err.ensures _ _ _ c.refuse.ensures
