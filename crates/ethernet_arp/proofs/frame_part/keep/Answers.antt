use Rattle.ethernet_arp.proofs.Prelude.{◌≡◌, ◌≤◌, ◌∙◌, ◌+◌, ◌++◌, ap, arith, length, sym, take}
use Rattle.ethernet_arp.proofs.PartLaws.{kept_full, kept_more}
use Rattle.ethernet_arp.proofs.frame_part.keep.Goals as goal

pub returns-then-at-lt-LARGEST_FRAME : goal.returns-then-at-lt-LARGEST_FRAME
returns-then-at-lt-LARGEST_FRAME c = λ frame len kept.
    let room = c.split_at_mut-room.ensures in
    kept_more c.args.area.now frame c.args.bytes.now c.split_at_mut-room.result.1.now _ c.args.at c.min-count.result (omega arith) len (omega arith) kept
    room.back c.min-count.ensures (ap (λ l. l ++ c.put_prefix.new.out) room.front ∙ ap (λ l. take c.args.at c.args.area.now ++ l) c.put_prefix.ensures)

pub returns-else-at-lt-LARGEST_FRAME : goal.returns-else-at-lt-LARGEST_FRAME
returns-else-at-lt-LARGEST_FRAME c = λ frame len kept.
    let size : length c.args.area.now ≡ 1514 = omega arith in
    let full : 1514 ≤ length frame = omega (arith, len) in
    ap (λ n. take (n + length c.args.bytes.now) c.args.area.now) (sym len)
    ∙ kept_full c.args.area.now frame c.args.bytes.now size full (ap (λ n. take n c.args.area.now) len ∙ kept)
