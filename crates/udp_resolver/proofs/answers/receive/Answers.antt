use Rattle.udp_resolver.proofs.Prelude.{◌∷◌, [], ◌+◌, ◌++◌, ◌∙◌, None, refl, sym, ap, arith, drop, get_or, length-append, drop_all}
use Rattle.udp_resolver.proofs.Prelude.{drop_more, answer_to, option_or}
use Rattle.udp_resolver.proofs.StepLaws.{get_seam, received_none, received_step, here, set_seam}
use Rattle.udp_resolver.proofs.answers.receive.Goals as goal

pub loop-at-init : goal.loop-at-init
loop-at-init c = record { prefix = []; size = refl; answers = refl; heard = refl }

pub loop-at-preserved : goal.loop-at-preserved
loop-at-preserved c =
    let inv = c.loop-at.invariant in
    let at = c.loop-at.at in
    let olds = c.args.answers.now in
    let name = c.index-names-at.result in
    let a = get_or olds at None in
    let b = c.known_or.result in
    let named = here c.args.names.now at name c.loop-at-test.true c.index-names-at.is in
    let known = drop_more olds at None (omega (arith, c.requires, c.loop-at-test.true)) in
    let now = inv.answers ∙ ap (λ l. inv.prefix ++ l) known in
    let same = get_seam c.loop-at.answers inv.prefix a (drop (at + 1) olds) at None inv.size now in
    record {
      prefix = inv.prefix ++ b ∷ [];
      size = length-append inv.prefix (b ∷ []) ∙ ap (λ n. n + 1) inv.size;
      answers = set_seam c.loop-at.answers inv.prefix a b (drop (at + 1) olds) at inv.size now;
      heard = received_step c.args.datagram.now c.loop-at.asking c.next_asking-asking.result _ _ name _ _ a b _ inv.prefix named known
          c.next_asking-asking.ensures
          (c.known_or.ensures ∙ ap (λ o. option_or o (answer_to c.loop-at.asking name c.args.datagram.now)) same) inv.heard;
    }

pub returns : goal.returns
returns c =
    let inv = c.loop-at.invariant in
    let at = c.loop-at.at in
    let none = drop_all at c.args.names.now c.loop-at-test.false in
    let left = drop_all at c.args.answers.now (omega (arith, c.requires, c.loop-at-test.false)) in
    inv.answers ∙ ap (λ l. inv.prefix ++ l) (left ∙ sym (received_none c.args.datagram.now c.loop-at.asking (drop at c.args.names.now)
    (drop at c.args.answers.now) none)) ∙ sym inv.heard
