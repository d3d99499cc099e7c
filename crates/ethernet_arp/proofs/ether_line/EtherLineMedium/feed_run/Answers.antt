use Rattle.ethernet_arp.proofs.Prelude.{◌++◌, ◌∙◌, [], take, sym, subst, ltb-false, ltb-true, open_from, Holds, shown_of, host_of}
use Rattle.ethernet_arp.proofs.Prelude.{FramePart}
use Rattle.ethernet_arp.proofs.LineLaws.{brings_nothing, did_nothing, did_whole, fed_more, reported_whole, whole_none}
use Rattle.ethernet_arp.proofs.ether_line.EtherLineMedium.feed_run.Goals as goal

pub returns-then-not-is_waiting-clause-fed : goal.returns-then-not-is_waiting-clause-fed
returns-then-not-is_waiting-clause-fed c = λ k before fed. (fed.0, fed_more _ _ before _ c.take_length.ensures.goes_on.holds fed.1)

pub returns-then-not-is_waiting-clause-reported : goal.returns-then-not-is_waiting-clause-reported
returns-then-not-is_waiting-clause-reported c = λ k before fed. brings_nothing k before _ (c.take_length.ensures.goes_on.nothing k (open_from [] before) fed.1)

pub returns-then-not-is_waiting-clause-did : goal.returns-then-not-is_waiting-clause-did
returns-then-not-is_waiting-clause-did c = λ k before acts fed did.
    (did.0, did_nothing c.args.self.now.arp k before _ acts (c.take_length.ensures.goes_on.nothing k (open_from [] before) fed.1) did.1)

pub returns-then-is_waiting-clause-fed : goal.returns-then-is_waiting-clause-fed
returns-then-is_waiting-clause-fed c = λ k before fed. (fed.0, fed_more _ _ before _ c.take_frame.ensures.takes.holds fed.1)

pub returns-then-is_waiting-clause-reported : goal.returns-then-is_waiting-clause-reported
returns-then-is_waiting-clause-reported c = λ k before fed.
    brings_nothing k before _ (c.take_frame.ensures.takes.waits (ltb-true _ _ (sym c.is_waiting-2.ensures ∙ c.if-is_waiting.true)) k
    (open_from [] before) fed.1)

pub returns-then-is_waiting-clause-did : goal.returns-then-is_waiting-clause-did
returns-then-is_waiting-clause-did c = λ k before acts fed did. (
  did.0,
  did_nothing c.args.self.now.arp k before _ acts
      (c.take_frame.ensures.takes.waits (ltb-true _ _ (sym c.is_waiting-2.ensures ∙ c.if-is_waiting.true)) k (open_from [] before) fed.1) did.1,
)

pub returns-then-is_taken-clause-fed : goal.returns-then-is_taken-clause-fed
returns-then-is_taken-clause-fed c = λ k before fed. (
  c.take_whole-run.ensures.host ∙ fed.0,
  subst (λ (p : FramePart). Holds p (open_from [] (before ++ take c.take_frame.result c.args.bytes.now))) (sym c.take_whole-run.ensures.part)
      (fed_more _ _ before _ c.take_frame.ensures.takes.holds fed.1),
)

pub returns-then-is_taken-clause-reported : goal.returns-then-is_taken-clause-reported
returns-then-is_taken-clause-reported c = λ k before fed.
    reported_whole k (host_of c.args.self.now.arp) c.take_frame.new.self before _ (shown_of c.take_whole-run.new.self) c.take_whole-run.result fed.0
    (c.take_frame.ensures.takes.whole (ltb-false _ _ (sym c.is_waiting-2.ensures ∙ c.if-is_waiting.false)) k (open_from [] before) fed.1)
    (sym c.is_taken.ensures ∙ c.if-is_taken.true) c.take_whole-run.ensures.reported

pub returns-then-is_taken-clause-did : goal.returns-then-is_taken-clause-did
returns-then-is_taken-clause-did c = λ k before acts fed did. (
  c.take_whole-run.ensures.host ∙ did.0,
  did_whole k (host_of c.args.self.now.arp) c.take_frame.new.self before _ c.take_whole-run.new.self.arp acts fed.0
      (c.take_frame.ensures.takes.whole (ltb-false _ _ (sym c.is_waiting-2.ensures ∙ c.if-is_waiting.false)) k (open_from [] before) fed.1)
      (sym c.is_taken.ensures ∙ c.if-is_taken.true) (c.take_whole-run.ensures.knows acts did.1),
)

pub returns-else-is_taken-clause-fed : goal.returns-else-is_taken-clause-fed
returns-else-is_taken-clause-fed c = λ k before fed. (fed.0, fed_more _ _ before _ c.take_frame.ensures.takes.holds fed.1)

pub returns-else-is_taken-clause-reported : goal.returns-else-is_taken-clause-reported
returns-else-is_taken-clause-reported c = λ k before fed.
    brings_nothing k before _
    (c.take_frame.ensures.takes.whole (ltb-false _ _ (sym c.is_waiting-2.ensures ∙ c.if-is_waiting.false)) k (open_from [] before) fed.1
    ∙ whole_none k c.take_frame.new.self (sym c.is_taken.ensures ∙ c.if-is_taken.false))

pub returns-else-is_taken-clause-did : goal.returns-else-is_taken-clause-did
returns-else-is_taken-clause-did c = λ k before acts fed did. (
  did.0,
  did_nothing c.args.self.now.arp k before _ acts
      (c.take_frame.ensures.takes.whole (ltb-false _ _ (sym c.is_waiting-2.ensures ∙ c.if-is_waiting.false)) k (open_from [] before) fed.1
      ∙ whole_none k c.take_frame.new.self (sym c.is_taken.ensures ∙ c.if-is_taken.false))
      did.1,
)
