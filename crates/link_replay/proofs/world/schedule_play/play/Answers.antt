use Rattle.link_replay.proofs.Prelude.{WorldRepresents}
use Rattle.link_replay.proofs.PlayedText.{plays_for_site, reached_keeps, reached_serves}
use Rattle.link_replay.proofs.world.schedule_play.play.Goals as goal

pub returns-clause-plays : goal.returns-clause-plays
returns-clause-plays c =
    plays_for_site (WorldRepresents _) c.args.schedule.now c.play_by.result c.in-Ok.web.site _ c.in-Ok.web.hits c.in-Ok.ensures.site
    c.see_loaded.ensures.loaded c.see_loaded.ensures.bytes c.in-Ok.ensures.hits c.play_by.ensures.plays

pub returns-clause-promises : goal.returns-clause-promises
returns-clause-promises c =
    reached_keeps (WorldRepresents _) c.args.schedule.now c.args.site c.see_loaded.ensures.loaded c.see_loaded.ensures.bytes c.play_by.result
    (plays_for_site (WorldRepresents _) c.args.schedule.now c.play_by.result c.in-Ok.web.site _ c.in-Ok.web.hits c.in-Ok.ensures.site
    c.see_loaded.ensures.loaded c.see_loaded.ensures.bytes c.in-Ok.ensures.hits c.play_by.ensures.plays)

pub returns-clause-honest : goal.returns-clause-honest
returns-clause-honest c =
    reached_serves (WorldRepresents _) c.args.schedule.now c.args.site c.see_loaded.ensures.loaded c.play_by.result c.play_by.ensures.planned
    (plays_for_site (WorldRepresents _) c.args.schedule.now c.play_by.result c.in-Ok.web.site _ c.in-Ok.web.hits c.in-Ok.ensures.site
    c.see_loaded.ensures.loaded c.see_loaded.ensures.bytes c.in-Ok.ensures.hits c.play_by.ensures.plays)
