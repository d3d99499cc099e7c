-- A segment at RCV.NXT that is accepted.
use Rattle.link_client.proofs.Prelude.{◌≡◌, ◌==◌, ◌&&◌, not, Bool, true, false, ap, ◌∙◌, if◌then◌else◌, PlainSegment, has_syn}
use Rattle.link_client.proofs.Prelude.{occupies_sequence_space, AbstractClient, ClientStep, is_receiving, sends_next, takes_in_order}
use Rattle.link_client.proofs.Prelude.{takes_text}

third_of_four : (first second third last : ClientStep) (a b d : Bool) → a ≡ false → b ≡ true → d ≡ true
    → (if a then first else if not b then second else if d then third else last) ≡ third
third_of_four first second third last a b d p q r =
    ap (λ (x : Bool). if x then first else if not b then second else if d then third else last) p
    ∙ ap (λ (x : Bool). if not x then second else if d then third else last) q
    ∙ ap (λ (x : Bool). if x then third else last) r

pub takes_next : (c : AbstractClient) (s : PlainSegment) → has_syn s.flags ≡ false → occupies_sequence_space s ≡ true
    → ((s.seq == c.expected) && is_receiving c.state) ≡ true
    → takes_in_order c s ≡ sends_next true (takes_text c s)
unfolding takes_in_order
takes_next c s no_syn place next =
    third_of_four (sends_next true c) (sends_next false c) (sends_next true (takes_text c s)) (sends_next true c) (has_syn s.flags) (occupies_sequence_space s)
    ((s.seq == c.expected) && is_receiving c.state) no_syn place next
