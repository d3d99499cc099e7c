use Rattle.ethernet_arp.proofs.Prelude.{◌≡◌, ◌+◌, ◌∙◌, ap, arith, length, sym, refl, take, length-take-le}
use Rattle.ethernet_arp.proofs.PartLaws.{takes_in}
use Rattle.ethernet_arp.proofs.frame_part.FramePart.take_frame.Goals as goal

pub returns-clause-takes : goal.returns-clause-takes
returns-clause-takes c =
    let n = c.min-count.result in
    let run = take n c.args.bytes.now in
    let count : length run ≡ n = length-take-le n c.args.bytes.now (omega (arith, c.min-count.ensures)) in
    takes_in c.args.self.now _ run (let w = c.requires.waiting in omega (arith, count, c.min-count.ensures, c.requires.some))
    c.requires.waiting (ap (λ m. c.args.self.now.len + m) (sym count))
    (let w = c.requires.waiting in omega (arith, c.min-count.ensures)) refl refl
    (λ frame len kept. ap (λ m. take (c.args.self.now.len + m) c.keep.new.area) (sym count) ∙ c.keep.ensures frame len kept)
