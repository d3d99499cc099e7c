-- A damaged datagram is delivered, and nothing answers it.
use Rattle.link_replay.proofs.Prelude.{◌≡◌, ℕ, ◌≤◌, ◌<◌, Bool, List, sym, subst, Option, Some, None, AppSpec, event_of, Reply, step}
use Rattle.link_replay.proofs.Prelude.{fault_of, hands_over, sent_bytes, changed, World, Sent, numbered, Act, Who, FromClient, FromNode}
use Rattle.link_replay.proofs.Prelude.{Pinger, act_harmless, damaged, IsAt, AnswersTo, AreTo, pair_at_side}
use Rattle.link_replay.proofs.Handling.{silent}
use Rattle.link_replay.proofs.Readable.{sound_at}

module _ (m : AppSpec) (served : ℕ → Bool) (w : World) where
  loss_answers : (bytes : List ℕ) (who : Who) → (hands_over m served w bytes who).sent ≡ w.sent
      → AnswersTo w who (step m served w.node (event_of w.node.addr bytes)).sent
  loss_answers bytes (FromClient number) h =
      subst (λ (x : Option Reply). AreTo (pair_at_side (numbered w.sides number)) x) (sym (silent w (step m served w.node (event_of w.node.addr bytes)) h)) tt
  loss_answers bytes (FromNode number) h = tt
  loss_answers bytes Pinger h = subst (λ (x : Option Reply). AreTo None x) (sym (silent w (step m served w.node (event_of w.node.addr bytes)) h)) tt

  -- damage to a datagram that was sent is no act that the node answers
  pub damage_answers : (number at mask : ℕ) (e : Sent) → IsAt m served w → 1 ≤ mask → mask < 256 → fault_of w (Act.Damage number at mask)
      ≡ None → numbered w.sent number ≡ Some e →
      AnswersTo w e.who (step m served w.node (event_of w.node.addr (changed (sent_bytes w e) at mask))).sent
  damage_answers number at mask e h low high f g =
      let loss = act_harmless m served w (Act.Damage number at mask) (low, high) f (sound_at m served w h) in
      loss_answers (changed (sent_bytes w e) at mask) e.who (subst (λ (x : Option Sent). (damaged m served w at mask x).sent ≡ w.sent) g loss.sent)
