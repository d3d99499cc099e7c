use Rattle.link_replay.proofs.Prelude.{drop, Follows, FromHere, WorldRepresents}
use Rattle.link_replay.proofs.Reaching.{Gone}
use Rattle.link_replay.proofs.world.WorldOf.run.Given as goal

abbrev pub invariant-loop-act : goal.invariant-loop-act
invariant-loop-act g l = record {
  follows : Follows g.A.App l.fn.self l.self;
  gone : FromHere g.A.App l.fn.self (λ m served w. Gone m served (WorldRepresents g.A.App l.self) w l.acts (drop l.act-index l.acts));
}
