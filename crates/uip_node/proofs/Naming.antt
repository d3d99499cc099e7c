-- What all segments of a connection contain, after a step.
-- [add: state] What its segments carry.
use Rattle.uip_node.proofs.Prelude.{ℕ, ◌≡◌, ◌+◌, ◌&&◌, ◌==◌, Bool, true, false, List, inl, inr, ◌⊎◌, refl, sym, ap, ◌∙◌, nat_lt}
use Rattle.uip_node.proofs.Prelude.{if◌then◌else◌, not, REST_TIME, AppSpec, Ghosts, is_live, Want, State, Closed, SynRcvd, Established}
use Rattle.uip_node.proofs.Prelude.{CloseWait, FinWait1, FinWait2, Closing, TimeWait, LastAck, beat_at, Beat, PlainSegment, has_fin}
use Rattle.uip_node.proofs.Prelude.{has_rst, Conn, Outcome, ask_prepared, closes, does_as_wanted, idles, leaves, peer_has_closed}
use Rattle.uip_node.proofs.Prelude.{Connection, rcv_nxt, snd_una, SameNumbers, SameSockets, by_state, fin_acked, fin_waits}
use Rattle.uip_node.proofs.Prelude.{stays_established, has_text, in_established, is_acked, is_out_of_order, on_segment, peer_closes}
use Rattle.uip_node.proofs.Prelude.{by_beat, grows_older, limit_of, on_tick, polls, rests_on, tick_by, ticks_established, waits_for_ack}
use Rattle.uip_node.proofs.Prelude.{ConnRepresents, IsLike, Meets, Step, IsNamed}

-- two abstract connections have the same on their segments
pub record SameNames (a b : Connection) : Type 0 where
  pub sockets : b.sockets ≡ a.sockets
  pub rcv_nxt : rcv_nxt b ≡ rcv_nxt a
  pub snd_nxt : snd_una b ≡ snd_una a

pub like_named : {A : Type 0} (c : Conn A) (a : Connection) → IsLike c a → IsNamed c a
like_named c a l = record { peer = l.peer; peer_port = l.peer_port; own_port = l.own_port; rcv_nxt = l.rcv_nxt; snd_nxt = l.snd_nxt }

pub live_named : {A S : Type 0} (g : Ghosts A S) (k : g.Config) (c : Conn A) (a : Connection) → ConnRepresents g k c a → is_live c.state ≡ true → IsNamed c a
live_named g k c a h live = like_named c a (h.numbers.like (sym (ap is_live h.numbers.state) ∙ live))

pub named_after : {A : Type 0} (c d : Conn A) (a b : Connection) → IsNamed c a → SameSockets c d → SameNumbers c d → SameNames a b → IsNamed d b
named_after c d a b n s m t = record {
  peer = s.peer ∙ (n.peer ∙ sym (ap (λ x. x.peer) t.sockets));
  peer_port = s.peer_port ∙ (n.peer_port ∙ sym (ap (λ x. x.peer_port) t.sockets));
  own_port = s.own_port ∙ (n.own_port ∙ sym (ap (λ x. x.own_port) t.sockets));
  rcv_nxt = ap (λ x. x.0) m.rcv_nxt ∙ (n.rcv_nxt ∙ sym t.rcv_nxt);
  snd_nxt = ap (λ x. x.0) m.snd_nxt ∙ (n.snd_nxt ∙ sym t.snd_nxt);
}

abbrev same : (a : Connection) → SameNames a a
same a = record { sockets = refl; rcv_nxt = refl; snd_nxt = refl }

older : (a : Connection) → SameNames a (grows_older a)
older a = record { sockets = refl; rcv_nxt = refl; snd_nxt = refl }

gone : (a : Connection) → SameNames a (closes a)
gone a = record { sockets = refl; rcv_nxt = refl; snd_nxt = refl }

either : (a : Connection) (b : Bool) (x y : Outcome) → SameNames a x.connection → SameNames a y.connection → SameNames a (if b then x else y).connection
either a true x y p q = p
either a false x y p q = q

idles_same : (fresh : Bool) (a : Connection) (ns : List ℕ) → SameNames a (idles fresh a ns).connection
unfolding idles
idles_same fresh a ns =
    either a (peer_has_closed a.state) (leaves (closes a) ns Step.Reset) (if fresh then leaves a ns Step.Ack else leaves a ns Step.Drop) (gone a)
    (either a fresh (leaves a ns Step.Ack) (leaves a ns Step.Drop) (same a) (same a))

wanted_same : (w : Want) (fresh : Bool) (a : Connection) (ns : List ℕ) → SameNames a (does_as_wanted w fresh a ns).connection
wanted_same Want.Abort fresh a ns = gone a
wanted_same Want.Close fresh a ns = record { sockets = refl; rcv_nxt = refl; snd_nxt = refl }
wanted_same (Want.Send n) fresh a ns = record { sockets = refl; rcv_nxt = refl; snd_nxt = refl }
wanted_same Want.Nothing fresh a ns = idles_same fresh a ns

pub asked_same : (m : AppSpec) (fresh : Bool) (a : Connection) (ns : List ℕ) → SameNames a (ask_prepared m fresh a ns).connection
asked_same m fresh a ns = wanted_same (m.want ns a.part) fresh a ns

beat_same : (m : AppSpec) (b : Beat) (a : Connection) (ns : List ℕ) → SameNames a (by_beat m b a ns).connection
beat_same m Beat.Wait a ns = older a
beat_same m Beat.Again a ns = older a
beat_same m Beat.GiveUp a ns = gone a

waits_same : (m : AppSpec) (a : Connection) (ns : List ℕ) → SameNames a (waits_for_ack m a ns).connection
waits_same m a ns = beat_same m (beat_at (limit_of a.state) (a.age + 1)) a ns

rests_same : (a : Connection) (ns : List ℕ) → SameNames a (rests_on a ns).connection
unfolding rests_on
rests_same a ns = either a (a.age + 1 == REST_TIME) (leaves (closes a) ns Step.Drop) (leaves (grows_older a) ns Step.Drop) (gone a) (older a)

established_same : (m : AppSpec) (a : Connection) (ns : List ℕ) → SameNames a (ticks_established m a ns).connection
unfolding ticks_established
established_same m a ns =
    either a (nat_lt 0 a.len) (waits_for_ack m a ns) (polls m a ns) (waits_same m a ns) (record { sockets = refl; rcv_nxt = refl; snd_nxt = refl })

tick_same : (m : AppSpec) (s : State) (a : Connection) (ns : List ℕ) → SameNames a (tick_by m s a ns).connection
tick_same m Closed a ns = same a
tick_same m SynRcvd a ns = waits_same m a ns
tick_same m Established a ns = established_same m a ns
tick_same m CloseWait a ns = waits_same m a ns
tick_same m FinWait1 a ns = waits_same m a ns
tick_same m FinWait2 a ns = rests_same a ns
tick_same m Closing a ns = waits_same m a ns
tick_same m TimeWait a ns = rests_same a ns
tick_same m LastAck a ns = waits_same m a ns

pub on_tick_same : (m : AppSpec) (a : Connection) (ns : List ℕ) → SameNames a (on_tick m a ns).connection
on_tick_same m a ns = tick_same m a.state a ns

-- after a segment a connection lives, or nothing is asked of the node
abbrev Lives : Outcome → Type 0
Lives o = (o.step ≡ Step.Drop) ⊎ (is_live o.connection.state ≡ true)

one_of : (b : Bool) (x y : Outcome) → (b ≡ true → Lives x) → (b ≡ false → Lives y) → Lives (if b then x else y)
one_of true x y p q = p refl
one_of false x y p q = q refl

either_lives : (b : Bool) (x y : Outcome) → Lives x → Lives y → Lives (if b then x else y)
either_lives true x y p q = p
either_lives false x y p q = q

closes_lives : (m : AppSpec) (a : Connection) (ns : List ℕ) (s : PlainSegment) → Lives (peer_closes m a ns s)
unfolding peer_closes
closes_lives m a ns s = either_lives (nat_lt 0 a.len) _ _ (inr refl) (inr refl)

goes_lives : (m : AppSpec) (acked : Bool) (a : Connection) (ns : List ℕ) (s : PlainSegment) → is_live a.state ≡ true → Lives (stays_established m acked a ns s)
unfolding stays_established
goes_lives m acked a ns s live = either_lives (not acked && not (has_text s)) _ _ (inl refl) (either_lives (nat_lt 0 a.len) _ _ (inr live) (inr live))

established_lives : (m : AppSpec) (acked : Bool) (a : Connection) (ns : List ℕ) (s : PlainSegment) → is_live a.state ≡ true
    → Lives (in_established m acked a ns s)
unfolding in_established
established_lives m acked a ns s live = either_lives (has_fin s.flags) _ _ (closes_lives m a ns s) (goes_lives m acked a ns s live)

acked_lives : (a : Connection) (ns : List ℕ) (s : PlainSegment) → Lives (fin_acked a ns s)
unfolding fin_acked
acked_lives a ns s = either_lives (has_fin s.flags) _ _ (inr refl) (inr refl)

waits_lives : (d a : Connection) (ns : List ℕ) (s : PlainSegment) → is_live d.state ≡ true → is_live a.state ≡ true → Lives (fin_waits d a ns s)
unfolding fin_waits
waits_lives d a ns s there live = either_lives (has_fin s.flags) _ _ (inr there) (either_lives (has_text s) _ _ (inr live) (inr live))

state_lives : (m : AppSpec) (state : State) (acked : Bool) (a : Connection) (ns : List ℕ) (s : PlainSegment) → is_live a.state ≡ true
    → Lives (by_state m state acked a ns s)
state_lives m SynRcvd true a ns s live = inr refl
state_lives m SynRcvd false a ns s live = inl refl
state_lives m Established true a ns s live = established_lives m true _ _ s live
state_lives m Established false a ns s live = established_lives m false a ns s live
state_lives m CloseWait true a ns s live = inr live
state_lives m CloseWait false a ns s live = inl refl
state_lives m FinWait1 true a ns s live = acked_lives a ns s
state_lives m FinWait1 false a ns s live = waits_lives _ a ns s refl live
state_lives m FinWait2 acked a ns s live = waits_lives _ a ns s refl live
state_lives m Closing true a ns s live = inr refl
state_lives m Closing false a ns s live = inl refl
state_lives m LastAck true a ns s live = inl refl
state_lives m LastAck false a ns s live = inl refl
state_lives m TimeWait acked a ns s live = inr live
state_lives m Closed acked a ns s live = inl refl

pub segment_lives : (m : AppSpec) (a : Connection) (ns : List ℕ) (s : PlainSegment) → is_live a.state ≡ true → Lives (on_segment m a ns s)
unfolding on_segment
segment_lives m a ns s live =
    either_lives (has_rst s.flags) _ _ (inl refl) (either_lives (is_out_of_order a s) _ _ (inr live) (state_lives m a.state (is_acked a s) a ns s live))

pub segment_named : {A S : Type 0} (g : Ghosts A S) (k : g.Config) (d : Conn A) (a : Connection) (step : Step) (m : AppSpec) (ns : List ℕ)
    (s : PlainSegment) (after : List ℕ) →
    Meets g k d after step (on_segment m a ns s) → is_live a.state ≡ true → (step ≡ Step.Drop → ⊥) → IsNamed d (on_segment m a ns s).connection
segment_named g k d a step m ns s after h live speaks =
    elim (segment_lives m a ns s live) [
      | inl e ↦ absurd (speaks (h.asked ∙ e))
      | inr l ↦ like_named d (on_segment m a ns s).connection (h.connection.numbers.like l)
    ]
