use Rattle.udp_resolver.proofs.Prelude.{◌≡◌, ◌++◌, List, Option, length, drop, Answer, questions, received_now}
use Rattle.udp_resolver.proofs.answers.receive.Given as goal

abbrev pub invariant-loop-at : goal.invariant-loop-at
invariant-loop-at l = record {
  prefix : List (Option Answer);
  size : length prefix ≡ l.at;
  answers : l.answers ≡ prefix ++ drop l.at l.fn.answers;
  heard : received_now l.datagram (questions l.fn.asking l.names) l.fn.answers ≡ prefix ++ received_now l.datagram
      (questions l.asking (drop l.at l.names)) (drop l.at l.fn.answers);
}
