use Rattle.ethernet_arp.proofs.Prelude.{◌≡◌, ◌||◌, true, if◌then◌else◌, List, ℕ, [], drop, take, length, ◌-◌, subst, ap, sym, ◌∙◌}
use Rattle.ethernet_arp.proofs.Prelude.{take_rest, bytes_eq, word_at, broadcast, mac_at, payload_brings, host_of, came_of}
use Rattle.ethernet_arp.proofs.received.sort.Goals as goal

pub returns-then-is_for-clause-decodes : goal.returns-then-is_for-clause-decodes
returns-then-is_for-clause-decodes c =
    let k = host_of c.args.arp.now in
    let payload = drop 14 c.args.frame.now in
    let rest : take (length c.args.frame.now - 14) payload ≡ payload = take_rest c.args.frame.now 14 in
    let to = mac_at c.args.frame.now 0 in
    let test : (bytes_eq to k.mac || bytes_eq to broadcast) ≡ true =
    ap (λ l. bytes_eq l k.mac || bytes_eq l broadcast) (sym c.get.ensures) ∙ sym c.is_for.ensures ∙ c.if-is_for.true in
    ap (λ v. if v then payload_brings k (word_at c.args.frame.now 12) payload else []) test
    ∙ ap (λ n. payload_brings k n payload) (sym c.get16.ensures)
    ∙ subst (λ (l : List ℕ). payload_brings k c.get16.result l ≡ came_of l c.sort_payload.result) rest (c.sort_payload.ensures.decodes k.mac)
