-- [add: command] The arm of a command.
use Rattle.uipd.proofs.NeverLaws.{replay_never, serving_never, site_never}
use Rattle.uipd.proofs.run.run.Goals as goal

pub returns-in-Some-Serve-clause-untouched : goal.returns-in-Some-Serve-clause-untouched
returns-in-Some-Serve-clause-untouched g c = λ e. absurd (serving_never _ _ _ _ _ c.serve.ensures.runs e)

pub returns-in-Some-Check-clause-untouched : goal.returns-in-Some-Check-clause-untouched
returns-in-Some-Check-clause-untouched g c = λ e. absurd (site_never _ _ c.check_site.ensures.runs e)

pub returns-in-Some-Pack-clause-untouched : goal.returns-in-Some-Pack-clause-untouched
returns-in-Some-Pack-clause-untouched g c = λ e. absurd (site_never _ _ c.pack_site.ensures.runs e)

pub returns-in-Some-Upgrade-clause-untouched : goal.returns-in-Some-Upgrade-clause-untouched
returns-in-Some-Upgrade-clause-untouched g c = λ e. absurd (site_never _ _ c.upgrade_site.ensures.runs e)

pub returns-in-Some-Page-clause-untouched : goal.returns-in-Some-Page-clause-untouched
returns-in-Some-Page-clause-untouched g c = λ e. absurd (site_never _ _ c.page_site.ensures.runs e)

pub returns-in-Some-Replay-clause-untouched : goal.returns-in-Some-Replay-clause-untouched
returns-in-Some-Replay-clause-untouched g c = λ e. absurd (replay_never _ _ c.replay_site.ensures.runs e)

pub returns-in-Some-Load-clause-untouched : goal.returns-in-Some-Load-clause-untouched
returns-in-Some-Load-clause-untouched g c = λ e. absurd (replay_never _ _ c.load_site.ensures.runs e)
