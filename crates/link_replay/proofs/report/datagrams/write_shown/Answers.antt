use Rattle.link_replay.proofs.Prelude.{Bool, Ok, ap, sym, subst, length, refl, ◌∙◌, slice_get_read, err_from_is_err_and, word_if}
use Rattle.link_replay.proofs.Prelude.{AppendsShown, SentRepresents, line_of_datagram, numbered_texts}
use Rattle.link_replay.proofs.Transmission.{wrote_by}
use Rattle.link_replay.proofs.Readable.{read_at, sent_at}
use Rattle.link_replay.proofs.Listing.{texts_end, texts_more, texts_stop}
use Rattle.link_replay.proofs.Shown.{more_shown, not_done}
use Rattle.link_replay.proofs.report.datagrams.write_shown.Goals as goal

pub returns-in_err-write_datagram-clause-wrote : goal.returns-in_err-write_datagram-clause-wrote
returns-in_err-write_datagram-clause-wrote g c = λ m served w same represented home reached.
    let xs = c.args.sent.now in
    let place = c.loop-place.place in
    let p = err_from_is_err_and c.from_residual.result c.from_residual.ensures.1 in
    let matched = represented.sent in
    let at = slice_get_read xs (length xs) place c.index-sent-place.result refl c.loop-place-test.true c.index-sent-place.is in
    let lines = numbered_texts line_of_datagram 1 w.sent in
    wrote_by _ _ c.from_residual.result lines (word_if c.args.show lines) (ap (λ (b : Bool). word_if b lines) (sym c.if-not-show.false))
    (texts_stop (SentRepresents w) xs w.sent line_of_datagram matched place c.index-sent-place.result _ _ _
    c.in_err-write_datagram.field-0.0 p.0 c.from_residual.result p.1 at
    (c.loop-place.invariant.transmitting m served w same represented home reached)
    (λ e here st. c.in_err-write_datagram.ensures.wrote w e c.args.sent.now same represented home st
    (read_at m served w reached place e here) (sent_at m served w reached place e here)))

pub loop-place-preserved : goal.loop-place-preserved
loop-place-preserved g c =
    let xs = c.args.sent.now in
    let place = c.loop-place.place in
    let at = slice_get_read xs (length xs) place c.index-sent-place.result refl c.loop-place-test.true c.index-sent-place.is in
    record {
      transmitting = λ m served w same represented home reached.
          (let matched = represented.sent in
          texts_more (SentRepresents w) xs w.sent line_of_datagram matched place c.index-sent-place.result _ _ _ c.in_ok-write_datagram.field-0 at
          (c.loop-place.invariant.transmitting m served w same represented home reached)
          (λ e here st. c.in_ok-write_datagram.ensures.wrote w e c.args.sent.now same represented home st
          (read_at m served w reached place e here) (sent_at m served w reached place e here)));
      some = more_shown _ _ _ c.loop-place.invariant.some c.in_ok-write_datagram.ensures.some;
      same = c.in_ok-write_datagram.ensures.cause.same ∙ c.loop-place.invariant.same;
    }

pub returns-clause-wrote : goal.returns-clause-wrote
returns-clause-wrote g c = λ m served w same represented home reached.
    let xs = c.args.sent.now in
    let matched = represented.sent in
    let lines = numbered_texts line_of_datagram 1 w.sent in
    wrote_by _ _ (Ok tt) lines (word_if c.args.show lines) (ap (λ (b : Bool). word_if b lines) (sym c.if-not-show.false))
    (texts_end (SentRepresents w) xs w.sent line_of_datagram matched c.loop-place.place _ _ tt c.loop-place-test.false
    (c.loop-place.invariant.transmitting m served w same represented home reached))

pub returns-in_err-write_datagram-clause-some : goal.returns-in_err-write_datagram-clause-some
returns-in_err-write_datagram-clause-some g c =
    let p = err_from_is_err_and c.from_residual.result c.from_residual.ensures.1 in
    not_done c.from_residual.result p.0 _ p.1

pub returns-clause-some : goal.returns-clause-some
returns-clause-some g c = subst (λ (b : Bool). AppendsShown b (g.K.Sink.written c.args.sink.now) (g.K.Sink.written c.loop-place.sink))
    (sym c.if-not-show.false) c.loop-place.invariant.some
