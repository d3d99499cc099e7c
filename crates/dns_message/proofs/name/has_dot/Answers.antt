use Rattle.dns_message.proofs.Prelude.{arith, ◌∙◌, sym, ap, length}
use Rattle.dns_message.proofs.DotLaws.{dots_reported}
use Rattle.dns_message.proofs.name.has_dot.Goals as goal

pub returns : goal.returns
returns c = c.is_some.ensures ∙ dots_reported c.args.text.now c.memchr.result c.memchr.ensures
