use Rattle.cross_tests.proofs.node.+are_ignored.Given as goal

abbrev pub decreases-are_ignored : goal.decreases-are_ignored
decreases-are_ignored g l = l.end
