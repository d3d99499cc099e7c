use Rattle.tcp_segment.proofs.Prelude.{List, ℕ, ap, ◌++◌, fixed_bytes}
use Rattle.tcp_segment.proofs.Putting.{fields_over}
use Rattle.tcp_segment.proofs.headers.put_fields.Goals as goal

pub returns : goal.returns
unfolding fixed_bytes
returns c =
    rw (
      c.put32-3.ensures,
      c.put16-4.ensures,
      c.put16-3.ensures,
      c.put32-2.ensures,
      c.put32.ensures,
      c.put16-2.ensures,
      c.put16.ensures,
      c.offset_of.ensures,
      c.from.ensures,
    ) (ap (λ (l : List ℕ). fixed_bytes 0 c.args.out.now ++ l) (fields_over c.args.header.now c.requires))
