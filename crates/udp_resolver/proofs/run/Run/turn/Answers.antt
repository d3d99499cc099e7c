use Rattle.udp_resolver.proofs.Prelude.{◌≡◌, ◌∷◌, [], refl, arith, map, take, length, inl, inr, Byte, Quiet, Appends-none, counted}
use Rattle.udp_resolver.proofs.Prelude.{query_texts, questions, events, asked_next}
use Rattle.udp_resolver.proofs.FateLaws.{not_given_up}
use Rattle.udp_resolver.proofs.RunLaws.{adds_bytes, adds_quiet}
use Rattle.udp_resolver.proofs.run.Run.turn.Goals as goal

pub returns-in-Ok-clause-turns : goal.returns-in-Ok-clause-turns
returns-in-Ok-clause-turns g c = λ items is_open k.
    let asked = questions c.args.asking c.args.names.now in
    let reported = rw c.in-Ok-Quiet.field-0-is at c.in-Ok-Quiet.ensures in
    let done = c.in-Ok.ensures in
    let e = not_given_up (events items) asked is_open in
    record {
      more = Quiet ∷ [];
      consumed = reported.items;
      within = omega (arith, c.requires.room);
      cause = (refl, record { link = reported.cause.same; sink = done.cause.same });
      by = record {
        knows = done.knows items e k;
        once = inl refl;
        text = query_texts c.args.self.now.sender.ident (asked_next asked (events items));
        adds = adds_quiet asked items c.args.self.now k;
        out = (done.writes items e k).writes.whole;
      };
    }

pub returns-in-Err-tick-clause-turns : goal.returns-in-Err-tick-clause-turns
returns-in-Err-tick-clause-turns g c = λ items is_open k.
    let asked = questions c.args.asking c.args.names.now in
    let reported = rw c.in-Ok-Quiet.field-0-is at c.in-Ok-Quiet.ensures in
    let failed = c.in-Err-tick.ensures in
    let e = not_given_up (events items) asked is_open in
    let written = failed.writes items e k in
    let prefix = written.writes.prefix in
    record {
      more = Quiet ∷ [];
      consumed = reported.items;
      within = omega (arith, c.requires.room);
      cause = (reported.cause.same, failed.cause.failed);
      by = record {
        once = inl refl;
        text = query_texts c.args.self.now.sender.ident (asked_next asked (events items));
        adds = adds_quiet asked items c.args.self.now k;
        broke = record { some = written.some; prefix = prefix.0; rest = prefix.1; cut = prefix.2; written = prefix.3 };
      };
    }

pub returns-in-Ok-Bytes-clause-turns : goal.returns-in-Ok-Bytes-clause-turns
returns-in-Ok-Bytes-clause-turns g c = λ items is_open k.
    let asked = questions c.args.asking c.args.names.now in
    let reported = rw c.in-Ok-Bytes.field-0-is at c.in-Ok-Bytes.ensures in
    let e = not_given_up (events items) asked is_open in
    let n = c.in-Ok-Bytes.count in
    let bytes = take n c.next.new.buf in
    let count : length (map Byte bytes) ≡ n = counted n c.next.new.buf reported.count.1 in
    record {
      more = map Byte bytes;
      consumed = reported.items;
      within = omega (arith, count, reported.count.1, c.next.auto.buf);
      cause = (count, record { link = reported.cause.same; sink = refl });
      by = record {
        knows = c.take.ensures.knows items e k;
        once = inr (bytes, refl);
        text = [];
        adds = adds_bytes asked items bytes;
        out = Appends-none (g.K.Sink.written c.args.out.now);
      };
    }
