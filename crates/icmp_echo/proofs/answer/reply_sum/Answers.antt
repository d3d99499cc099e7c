use Rattle.icmp_echo.proofs.Prelude.{◌≡◌, ◌+◌, ◌-◌, ◌∙◌, ap, arith, word_at}
use Rattle.icmp_echo.proofs.Sums.{passed, sums}
use Rattle.icmp_echo.proofs.answer.reply_sum.Goals as goal

pub returns-then-asked-gt-AMBIGUOUS : goal.returns-then-asked-gt-AMBIGUOUS
returns-then-asked-gt-AMBIGUOUS c =
    let message = c.args.message.now in
    let word : c.get16-asked.result ≡ word_at message 2 = c.get16-asked.ensures in
    ap (λ n. n - 63487) word ∙ (sums message (passed message c.requires) (omega arith) (omega arith)).0 (omega arith)

pub returns-else-asked-gt-AMBIGUOUS : goal.returns-else-asked-gt-AMBIGUOUS
returns-else-asked-gt-AMBIGUOUS c =
    let message = c.args.message.now in
    let word : c.get16-asked.result ≡ word_at message 2 = c.get16-asked.ensures in
    ap (λ n. n + 2048) word ∙ (sums message (passed message c.requires) (omega arith) (omega arith)).1 (omega arith)
