use Rattle.own_node.proofs.Prelude.{List, ap, sym, true, ℕ, ◌∙◌, message_of, numbers_of, write_message, pair_numbers, with_own, second_back}
use Rattle.own_node.proofs.Prelude.{second_kept}
use Rattle.own_node.proofs.holding.AppPairOwnAppHoldsOwn.put.Goals as goal

pub returns-clause-numbers : goal.returns-clause-numbers
returns-clause-numbers g c =
    let xs : List ℕ = g.A.App.numbers c.args.shared.now.first in
    let opened : ℕ = c.args.shared.now.second.opened in
    let ys : List ℕ = numbers_of opened (message_of c.args.shared.now.second.message) in
    second_kept (numbers_of opened (message_of c.args.message)) xs ys
    ∙ ap (λ (z : List ℕ). with_own true (write_message (message_of c.args.message) z) (pair_numbers xs ys)) (sym (second_back xs ys))
