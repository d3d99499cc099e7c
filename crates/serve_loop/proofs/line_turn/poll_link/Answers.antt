use Rattle.serve_loop.proofs.Prelude.{◌≡◌, take, length, map, arith, All-map, Byte, counted, bytes_among-map, IsItem}
use Rattle.serve_loop.proofs.line_turn.poll_link.Goals as goal

pub returns-in-Ok-feed_bytes-clause-turns : goal.returns-in-Ok-feed_bytes-clause-turns
returns-in-Ok-feed_bytes-clause-turns g c = λ k pace before h.
    let reported = rw c.in-Ok-Bytes.field-0-is at c.in-Ok-Bytes.ensures in
    let done = c.in-Ok-feed_bytes.ensures in
    let bytes = take c.in-Ok-Bytes.count c.next.new.buf in
    let count : length (map Byte bytes) ≡ c.in-Ok-Bytes.count = counted c.in-Ok-Bytes.count c.next.new.buf reported.count.1 in
    record {
      items = map Byte bytes;
      are = All-map IsItem Byte bytes done.are;
      consumed = reported.items;
      within = omega (arith, count, reported.count.1, c.next.auto.buf);
      cause = (count, record { link = reported.cause.same; sink = done.cause.same });
      on = rw bytes_among-map (done.taken k pace before h);
      wrote = done.ok k pace before h;
    }

pub returns-in-Err-feed_bytes-clause-turns : goal.returns-in-Err-feed_bytes-clause-turns
returns-in-Err-feed_bytes-clause-turns g c = λ k pace before h.
    let reported = rw c.in-Ok-Bytes.field-0-is at c.in-Ok-Bytes.ensures in
    let done = c.in-Err-feed_bytes.ensures in
    let bytes = take c.in-Ok-Bytes.count c.next.new.buf in
    record {
      items = map Byte bytes;
      are = All-map IsItem Byte bytes done.are;
      consumed = reported.items;
      within = (let count : length (map Byte bytes) ≡ c.in-Ok-Bytes.count = counted c.in-Ok-Bytes.count c.next.new.buf reported.count.1 in
          omega (arith, count, reported.count.1, c.next.auto.buf));
      cause = (reported.cause.same, done.cause.failed);
      on = tt;
      wrote = done.err k pace before h;
    }
