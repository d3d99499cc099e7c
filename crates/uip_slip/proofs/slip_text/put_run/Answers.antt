use Rattle.uip_slip.proofs.Prelude.{arith, rules}
use Rattle.uip_slip.proofs.TextLaws.{byte_text, run_text}
use Rattle.uip_slip.proofs.slip_text.put_run.Goals as goal

pub returns-then-plain-piece : goal.returns-then-plain-piece
returns-then-plain-piece c = record {
  long = search rules;
  some = search rules;
  within = search rules;
  bound = omega (arith, c.put_plain-plain.ensures.prefix.within);
  text = run_text _ _ _ _ c.put_plain-plain.ensures.prefix.plain c.put_plain-plain.ensures.text;
}

pub returns : goal.returns
returns c = record {
  long = search rules;
  some = search rules;
  within = omega (arith, c.put_plain-plain.ensures.prefix.within, c.if-plain-piece.false);
  bound = omega (arith, c.put_byte-marked.ensures.bound);
  text = byte_text _ _ _ c.args.piece.now c.put_plain-plain.result (omega (arith, c.put_plain-plain.ensures.prefix.within, c.if-plain-piece.false))
      (run_text _ _ _ _ c.put_plain-plain.ensures.prefix.plain c.put_plain-plain.ensures.text) c.put_byte-marked.ensures.text;
}
