use Rattle.udp_resolver.proofs.Prelude.{◌∙◌, ◌∷◌, [], length, refl, ap, sym, questions, received_now, reported_by, Datagram, bytes_among}
use Rattle.udp_resolver.proofs.ItemLaws.{by_reported}
use Rattle.udp_resolver.proofs.RunLaws.{heard-length, knows_byte, knows_came, questions-length, refill_same, reported_none}
use Rattle.udp_resolver.proofs.run.Run.take_byte.Goals as goal

pub returns-in-Datagram-clause-knows : goal.returns-in-Datagram-clause-knows
returns-in-Datagram-clause-knows c = λ items e k.
    let asked = questions c.args.asking c.args.names.now in
    let olds = c.args.self.now.answers.items in
    let reported = c.in-Datagram.ensures.frames (bytes_among items) k.fed in
    let datagram = c.feed.new.self.bytes in
    let lent = c.as_mut_slice.ensures.value in
    let size = ap (λ l. length l) lent ∙ c.requires ∙ sym (questions-length c.args.asking c.args.names.now) in
    let long = ap (λ l. length l) c.receive.ensures ∙ heard-length c.bytes.result.now asked c.as_mut_slice.result.now size ∙ ap (λ l. length l) lent in
    knows_came asked items c.args.byte datagram c.args.self.now _ e k reported.0
    (sym (by_reported (bytes_among items) c.args.byte (Datagram datagram ∷ []) reported.1)) refl refl
    (refill_same olds c.receive.new.answers long ∙ c.receive.ensures ∙ ap (λ l. received_now l asked c.as_mut_slice.result.now)
    c.bytes.ensures ∙ ap (λ l. received_now datagram asked l) lent)

pub returns-in_default : goal.returns-in_default
returns-in_default c = record {
  each = c.requires;
  clock = refl;
  knows = λ items e k.
      let reported = c.feed.ensures.frames (bytes_among items) k.fed in
      knows_byte (questions c.args.asking c.args.names.now) items c.args.byte c.args.self.now _ k reported.0
      (sym (by_reported (bytes_among items) c.args.byte (reported_by c.feed.result c.feed.new.self) reported.1)
      ∙ reported_none c.feed.result c.feed.new.self c.in_default.not-Datagram)
      refl refl refl;
}
