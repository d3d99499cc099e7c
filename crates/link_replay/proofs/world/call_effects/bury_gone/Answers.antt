use Rattle.link_replay.proofs.Prelude.{List, ap, length, sym, ◌∙◌, subst, OnlyEpoch, Matched, SideRepresents, link_of}
use Rattle.link_replay.specs.Plain.{CodeSide as Side}
use Rattle.link_replay.proofs.Answered.{link_buried, none_gone, one_gone}
use Rattle.link_replay.proofs.world.call_effects.bury_gone.Goals as goal

pub returns-in_err-bury-clause-kept : goal.returns-in_err-bury-clause-kept
returns-in_err-bury-clause-kept c = λ addr sent h.
    link_buried addr c.args.sides.now sent c.bury.new.sides (subst (λ (xs : List Side). Matched OnlyEpoch xs c.bury.new.sides)
    c.as_mut_slice.ensures.value c.bury.ensures.kept) h

pub returns-in_ok-bury-clause-kept : goal.returns-in_ok-bury-clause-kept
returns-in_ok-bury-clause-kept c = λ addr sent h.
    link_buried addr c.args.sides.now sent c.bury.new.sides (subst (λ (xs : List Side). Matched OnlyEpoch xs c.bury.new.sides)
    c.as_mut_slice.ensures.value c.bury.ensures.kept) h

pub returns-in_ok-bury-clause-buried : goal.returns-in_ok-bury-clause-buried
returns-in_ok-bury-clause-buried c = λ sent w node gone p e h.
    one_gone c.args.sides.now sent w node gone c.in-Some.pair c.bury.new.sides (ap length (sym c.as_mut_slice.ensures.value)
    ∙ c.bury.ensures.kept.same_length) (sym c.in-Some.is ∙ p) e h
    (λ ss g q m. c.in_ok-bury.ensures.represented ss g q (subst (λ (xs : List Side). Matched SideRepresents xs ss) (sym c.as_mut_slice.ensures.value) m))

pub returns-in_default-clause-buried : goal.returns-in_default-clause-buried
returns-in_default-clause-buried c = λ sent w node gone p e h. none_gone (link_of c.args.sides.now.items sent) w node gone (sym c.in_default.is ∙ p) e h
