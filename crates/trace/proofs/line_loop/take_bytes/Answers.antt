use Rattle.trace.proofs.Prelude.{◌++◌, [], ◌∙◌, take, refl, sym, ap, subst, List, map, append-nil, append_assoc, arith, length-append}
use Rattle.trace.proofs.Prelude.{length-take-le, map-append, moved_on, Item, Byte}
use Rattle.trace.proofs.line_loop.take_bytes.Goals as goal

pub loop-rest-init : goal.loop-rest-init
loop-rest-init g c = record {
  prefix = [];
  pieces = refl;
  ready = c.requires.ready;
  counted = omega arith;
  took = λ k before h. rw append-nil h;
  calm = refl;
}

pub loop-rest-preserved : goal.loop-rest-preserved
loop-rest-preserved g c =
    let inv = c.loop-rest.invariant in
    let rest = c.loop-rest.rest.now in
    let n = c.in_ok-count.count in
    let reported = c.in_ok-count.ensures in
    record {
      prefix = inv.prefix ++ take n rest;
      pieces = moved_on _ inv.prefix rest n inv.pieces;
      ready = reported.ready;
      counted = omega (arith, reported.counted, reported.count.1, inv.counted, length-append inv.prefix (take n rest), length-take-le n rest reported.count.1);
      took = λ k before h.
          subst (λ (l : List Item). g.R.LineReader.took c.take_prefix.new.self k l (g.K.Sink.written c.take_prefix.new.sink))
          (append_assoc before (map Byte inv.prefix) (map Byte (take n rest)) ∙ ap (λ l. before ++ l) (sym (map-append Byte inv.prefix (take n rest))))
          (reported.took k (before ++ map Byte inv.prefix) (inv.took k before h));
      calm = reported.calm ∙ inv.calm;
    }
