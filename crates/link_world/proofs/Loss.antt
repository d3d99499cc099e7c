-- Damage is a loss: nothing but the node's history changes.
-- [add: counter] An event that raises the counter.
use Rattle.link_world.proofs.Prelude.{◌≡◌, ℕ, zero, suc, ◌+◌, ◌++◌, ◌<◌, ◌≤◌, ◌==◌, Bool, true, false, if◌then◌else◌, List, ◌∷◌, map}
use Rattle.link_world.proofs.Prelude.{length, refl, sym, ap, ◌∙◌, subst, Option, Some, None, list_any, range_with_len, option_map_or}
use Rattle.link_world.proofs.Prelude.{append-nil, wrap, AppSpec, Event, HistoryEntry, Silent, times, raised_by, raised_by_answer, raises}
use Rattle.link_world.proofs.Prelude.{counters, IpRefused, IcmpRefused, TcpRefused, event_of, client_takes, Setup, World, Side}
use Rattle.link_world.proofs.Prelude.{client_stepped, numbered, node_handles, sent_bytes, changed, received_by, hands_over, handed, Who}
use Rattle.link_world.proofs.Prelude.{FromClient, FromNode, Pinger, is_refused, rise, IsLoss, OneRefusal, CountsBy, IsWholeDatagram}
use Rattle.link_world.proofs.Prelude.{DamageIsLoss, wrap_wrap}
use Rattle.link_world.proofs.Damage.{damage_refused}
use Rattle.link_world.proofs.Doing.{damaged}

pub same_world : (w : World) → IsLoss w w
same_world w = record { sides = refl; sent = refl; mark = refl; addr = refl; numbers = refl; connections = refl; ticks = refl; initial = refl; ident = refl }

node_loses : (m : AppSpec) (served : ℕ → Bool) (w : World) (e : Event) → is_refused e ≡ true → IsLoss w (node_handles m served w e)
node_loses m served w (IpRefused fate) h = record {
  sides = refl;
  sent = refl;
  mark = refl;
  addr = refl;
  numbers = refl;
  connections = refl;
  ticks = refl;
  initial = refl;
  ident = refl;
}
node_loses m served w (IcmpRefused fate) h = record {
  sides = refl;
  sent = refl;
  mark = refl;
  addr = refl;
  numbers = refl;
  connections = refl;
  ticks = refl;
  initial = refl;
  ident = refl;
}
node_loses m served w (TcpRefused fate) h = record {
  sides = refl;
  sent = refl;
  mark = refl;
  addr = refl;
  numbers = refl;
  connections = refl;
  ticks = refl;
  initial = refl;
  ident = refl;
}
node_loses m served w _ h = absurd (cc)

nothing_received : (setup : Setup) (e : Event) → is_refused e ≡ true → received_by setup e ≡ None
nothing_received setup (IpRefused fate) h = refl
nothing_received setup (IcmpRefused fate) h = refl
nothing_received setup (TcpRefused fate) h = refl
nothing_received setup _ h = absurd (cc)

client_loses : (w : World) (number : ℕ) (bytes : List ℕ) (side : Option Side)
    → ((setup : Setup) → is_refused (event_of setup.addr bytes) ≡ true) → IsLoss w (option_map_or (handed w number bytes) side w)
client_loses w number bytes None h = same_world w
client_loses w number bytes (Some side) h =
    subst (λ x. IsLoss w (option_map_or (λ s. client_stepped w number side (client_takes side.client s)) x w))
    (sym (nothing_received side.client.setup (event_of side.client.setup.addr bytes) (h side.client.setup))) (same_world w)

pub loses : (m : AppSpec) (served : ℕ → Bool) (w : World) (who : Who) (bytes : List ℕ) (at mask : ℕ) → IsWholeDatagram bytes
    → at < length bytes → 1 ≤ mask → mask < 256 → IsLoss w (hands_over m served w (changed bytes at mask) who)
loses m served w (FromClient n) bytes at mask h l a b = node_loses m served w (event_of w.node.addr (changed bytes at mask))
    (damage_refused bytes at mask w.node.addr h l a b)
loses m served w Pinger bytes at mask h l a b = node_loses m served w (event_of w.node.addr (changed bytes at mask))
    (damage_refused bytes at mask w.node.addr h l a b)
loses m served w (FromNode n) bytes at mask h l a b = client_loses w n (changed bytes at mask) (numbered w.sides n)
    (λ setup. damage_refused bytes at mask setup.addr h l a b)

-- ---- what the node counts of it

one_more : (b : Bool) (n : ℕ) → wrap (if b then n + 1 else n) ≡ (if b then wrap (wrap n + 1) else wrap n)
one_more true n = sym (wrap_wrap n 1)
one_more false n = refl

-- the counters from number n on rise as the event and its answer define
rises : (numbers : List ℕ) (p : HistoryEntry) (history : List HistoryEntry) (n k : ℕ) → raised_by p.event ++ raised_by_answer p.answer ≡ numbers →
    map (λ j. wrap (times (raises j) (p ∷ history))) (range_with_len n k) ≡ rise numbers n (map (λ j. wrap (times (raises j) history)) (range_with_len n k))
rises numbers p history n zero e = refl
rises numbers p history n (suc k) e =
    let rest = rises numbers p history (n + 1) k e in
    let first : wrap (times (raises n) (p ∷ history))
    ≡ (if list_any (λ j. j == n) numbers then wrap (wrap (times (raises n) history) + 1) else wrap (times (raises n) history)) =
    one_more (raises n p) (times (raises n) history)
    ∙ ap (λ (ns : List ℕ). if list_any (λ j. j == n) ns then wrap (wrap (times (raises n) history) + 1) else wrap (times (raises n) history)) e in
    cc

refusal_counts : (e : Event) (history : List HistoryEntry) → counters (record { event = e; answer = Silent } ∷ history) ≡ rise (raised_by e)
    0 (counters history)
refusal_counts e history = rises (raised_by e) (record { event = e; answer = Silent }) history 0 20 (append-nil (raised_by e))

one_refusal : (m : AppSpec) (served : ℕ → Bool) (w : World) (e : Event) → is_refused e ≡ true → OneRefusal w (node_handles m served w e)
one_refusal m served w (IpRefused fate) h = record {
  event = IpRefused fate;
  refused = refl;
  history = refl;
  counted = refusal_counts (IpRefused fate) w.node.history;
}
one_refusal m served w (IcmpRefused fate) h = record {
  event = IcmpRefused fate;
  refused = refl;
  history = refl;
  counted = refusal_counts (IcmpRefused fate) w.node.history;
}
one_refusal m served w (TcpRefused fate) h = record {
  event = TcpRefused fate;
  refused = refl;
  history = refl;
  counted = refusal_counts (TcpRefused fate) w.node.history;
}
one_refusal m served w _ h = absurd (cc)

client_past : (w : World) (number : ℕ) (bytes : List ℕ) (side : Option Side)
    → ((setup : Setup) → is_refused (event_of setup.addr bytes) ≡ true) → (option_map_or (handed w number bytes) side w).node.history ≡ w.node.history
client_past w number bytes None h = refl
client_past w number bytes (Some side) h =
    subst (λ x. (option_map_or (λ s. client_stepped w number side (client_takes side.client s)) x w).node.history ≡ w.node.history)
    (sym (nothing_received side.client.setup (event_of side.client.setup.addr bytes) (h side.client.setup))) refl

counts : (m : AppSpec) (served : ℕ → Bool) (w : World) (who : Who) (bytes : List ℕ) (at mask : ℕ) → IsWholeDatagram bytes
    → at < length bytes → 1 ≤ mask → mask < 256 → CountsBy who w (hands_over m served w (changed bytes at mask) who)
counts m served w (FromClient n) bytes at mask h l a b = one_refusal m served w (event_of w.node.addr (changed bytes at mask))
    (damage_refused bytes at mask w.node.addr h l a b)
counts m served w Pinger bytes at mask h l a b = one_refusal m served w (event_of w.node.addr (changed bytes at mask))
    (damage_refused bytes at mask w.node.addr h l a b)
counts m served w (FromNode n) bytes at mask h l a b = client_past w n (changed bytes at mask) (numbered w.sides n)
    (λ setup. damage_refused bytes at mask setup.addr h l a b)

pub damage_is_loss : DamageIsLoss
damage_is_loss m served w k at mask e sent h l a b = (
  subst (λ x. IsLoss w (damaged m served w at mask x)) (sym sent) (loses m served w e.who (sent_bytes w e) at mask h l a b),
  subst (λ x. CountsBy e.who w (damaged m served w at mask x)) (sym sent) (counts m served w e.who (sent_bytes w e) at mask h l a b),
)
