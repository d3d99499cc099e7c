use Rattle.tcp_segment.proofs.Prelude.{◌≡◌, ◌+◌, ◌++◌, ◌∙◌, ap, drop, slice_range, arith, List, ℕ, Option, IsSome, is_some, datagram_bytes}
use Rattle.tcp_segment.proofs.Prelude.{offset_of, datagram_len, datagram_of}
use Rattle.tcp_segment.proofs.Putting.{no_option, option_put}
use Rattle.tcp_segment.proofs.sent.put_in.Goals as goal

pub returns-in_default-clause-written : goal.returns-in_default-clause-written
returns-in_default-clause-written c =
    let out = c.args.out.now in
    let area = c.args.area.now in
    let text = slice_range area 40 (40 + out.len) in
    let total : 40 + out.len ≡ datagram_len out = omega (arith, ap offset_of c.in_default.is) in
    c.put_headers.ensures
    ∙ ap (λ (l : List ℕ). l ++ drop (40 + out.len) area) (no_option out text c.in_default.is)
    ∙ ap (λ (n : ℕ). datagram_bytes (datagram_of out text) ++ drop n area) total

pub returns-clause-written : goal.returns-clause-written
returns-clause-written c =
    let out = c.args.out.now in
    let area = c.args.area.now in
    let text = slice_range area 40 (40 + out.len) in
    let some : IsSome out.mss = ap (λ (m : Option ℕ). is_some m) c.in-Some.is in
    let empty = c.requires.no_text some in
    let total : 44 ≡ datagram_len out = omega (arith, empty, ap offset_of c.in-Some.is) in
    option_put out area c.put_option.new.area c.put_headers-2.new.area c.in-Some.mss (omega (arith, ap offset_of c.in-Some.is)) c.in-Some.is
    empty c.put_option.ensures c.put_headers-2.ensures
    ∙ ap (λ (n : ℕ). datagram_bytes (datagram_of out text) ++ drop n area) total
