use Rattle.udp_resolver.proofs.Prelude.{◌∙◌, ◌++◌, List, map, take, subst, take_all, Item, Byte, questions, RunRepresents}
use Rattle.udp_resolver.proofs.RunLaws.{byte_more, calm_over}
use Rattle.udp_resolver.proofs.run.Run.take.Goals as goal

pub loop-byte-preserved : goal.loop-byte-preserved
loop-byte-preserved c =
    let inv = c.loop-byte.invariant in
    let i = c.loop-byte.byte-index in
    let bytes = c.args.bytes.now in
    record {
      each = c.take_byte.ensures.each;
      clock = c.take_byte.ensures.clock ∙ inv.clock;
      knows = λ items e k.
          subst (λ (l : List Item). RunRepresents (questions c.args.asking c.args.names.now) l c.take_byte.new.self)
          (byte_more items bytes i c.loop-byte-test.true)
          (c.take_byte.ensures.knows (items ++ map Byte (take i bytes)) (calm_over items (take i bytes) e) (inv.knows items e k));
    }

pub returns : goal.returns
returns c =
    let inv = c.loop-byte.invariant in
    let bytes = c.args.bytes.now in
    record {
      each = inv.each;
      clock = inv.clock;
      knows = λ items e k.
          subst (λ (l : _). RunRepresents (questions c.args.asking c.args.names.now) (items ++ map Byte l) c.loop-byte.self)
          (take_all c.loop-byte.byte-index bytes c.loop-byte-test.false)
          (inv.knows items e k);
    }
