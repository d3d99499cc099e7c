-- A tick of the timer as a tick of the age.
use Rattle.tcp_machine.proofs.Prelude.{◌≡◌, ◌≢◌, ℕ, ◌+◌, ◌*◌, ◌^◌, ◌<◌, ◌≤◌, ◌==◌, Bool, true, false, List, min, refl, sym, ap, ◌∙◌, subst}
use Rattle.tcp_machine.proofs.Prelude.{arith, nat_lt, if◌then◌else◌, agree_below_at, eq-eqb, ltb-true, list_any, beat_at, give_up_age}
use Rattle.tcp_machine.proofs.Prelude.{IsAtAge, IsBeatOfAge, Beat, Wait, Again, GiveUp, Timer, AppSpec, Ghosts, State, Conn, Connection}
use Rattle.tcp_machine.proofs.Prelude.{is_live, limit_of, outstanding, waits_for_ack, by_beat, grows_older, ConnRepresents, Meets}
use Rattle.tcp_machine.proofs.Prelude.{TimerRepresents, Step}

if_true : (b : Bool) (x y : Beat) → b ≡ true → (if b then x else y) ≡ x
if_true true x y e = refl
if_true false x y e = cc

-- a beat that is no end comes before the end
before_the_end : (limit age : ℕ) (beat : Beat) → beat ≡ beat_at limit age → beat ≢ GiveUp → age ≢ give_up_age limit
before_the_end limit age beat e goes_on at_end =
    goes_on (e ∙ if_true (age == give_up_age limit) GiveUp
    (if list_any (λ n. n == age) (Rattle.std.proofs.Common.take limit Rattle.rexmit_timer.specs.Ages.ages) then Again else Wait)
    (eq-eqb age (give_up_age limit) at_end))

-- what the timer is a tick later
older_timer : (t : Timer) (a : Connection) (limit : ℕ) → limit ≡ limit_of a.state → 0 < a.len → IsAtAge t (a.age + 1)
    → a.age < give_up_age limit → a.age + 1 ≢ give_up_age limit → TimerRepresents t (grows_older a)
older_timer t a limit e out at early not_last = record {
  waits = λ _. at;
  before_the_end = λ _.
      let h : a.age + 1 < give_up_age limit = omega (arith, early, not_last) in
      subst (λ (n : ℕ). a.age + 1 < give_up_age n) e h;
  counts = λ z. absurd (omega (arith, z, out));
  no_tries = λ z. absurd (omega (arith, z, out));
}

older : {A S : Type 0} (g : Ghosts A S) (k : g.Config) (c : Conn A) (t : Timer) (a : Connection) (limit : ℕ) (beat : Beat)
    → ConnRepresents g k c a → is_live c.state ≡ true → 0 < c.len → limit ≡ limit_of c.state →
    ((age : ℕ) → age < give_up_age limit → IsAtAge c.timer age → IsBeatOfAge limit age beat t) → beat ≢ GiveUp
    → (IsBeatOfAge limit a.age beat t → IsAtAge t (a.age + 1)) →
    ConnRepresents g k (record c { timer = t }) (grows_older a)
older g k c t a limit beat h live out e ages goes_on after =
    let incarnations : is_live a.state ≡ true = subst (λ (s : State). is_live s ≡ true) h.numbers.state live in
    let l = h.numbers.like incarnations in
    let some : 0 < a.len = subst (λ (n : ℕ). 0 < n) l.len out in
    let e' : limit ≡ limit_of a.state = e ∙ ap limit_of h.numbers.state in
    let early : a.age < give_up_age limit = subst (λ (n : ℕ). a.age < give_up_age n) (sym e') (l.timer.before_the_end some) in
    let b = ages a.age early (l.timer.waits some) in
    record {
      numbers = record {
        state = h.numbers.state;
        like = λ _. record {
          peer = l.peer;
          peer_port = l.peer_port;
          own_port = l.own_port;
          rcv_nxt = l.rcv_nxt;
          snd_nxt = l.snd_nxt;
          len = l.len;
          mss = l.mss;
          initial_mss = l.initial_mss;
          timer = older_timer t a limit e' some (after b) early (before_the_end limit (a.age + 1) beat b.beat goes_on);
        };
      };
      part = h.part;
    }

beat_of : {A S : Type 0} (g : Ghosts A S) (k : g.Config) (c : Conn A) (t : Timer) (a : Connection) (limit : ℕ) (beat : Beat)
    → ConnRepresents g k c a → is_live c.state ≡ true → 0 < c.len → limit ≡ limit_of c.state →
    ((age : ℕ) → age < give_up_age limit → IsAtAge c.timer age → IsBeatOfAge limit age beat t) → beat ≡ beat_at (limit_of a.state) (a.age + 1)
beat_of g k c t a limit beat h live out e ages =
    let incarnations : is_live a.state ≡ true = subst (λ (s : State). is_live s ≡ true) h.numbers.state live in
    let l = h.numbers.like incarnations in
    let some : 0 < a.len = subst (λ (n : ℕ). 0 < n) l.len out in
    let e' : limit ≡ limit_of a.state = e ∙ ap limit_of h.numbers.state in
    let early : a.age < give_up_age limit = subst (λ (n : ℕ). a.age < give_up_age n) (sym e') (l.timer.before_the_end some) in
    (ages a.age early (l.timer.waits some)).beat ∙ ap (λ (n : ℕ). beat_at n (a.age + 1)) e'

pub wait_meets : {A S : Type 0} (g : Ghosts A S) (k : g.Config) (m : AppSpec) (c : Conn A) (t : Timer) (a : Connection) (ns : List ℕ)
    (limit : ℕ) → ConnRepresents g k c a → is_live c.state ≡ true → 0 < c.len → limit ≡ limit_of c.state →
    ((age : ℕ) → age < give_up_age limit → IsAtAge c.timer age → IsBeatOfAge limit age Wait t) → Meets g k (record c { timer = t }) ns
    Step.Drop (waits_for_ack m a ns)
wait_meets g k m c t a ns limit h live out e ages =
    subst (λ (b : Beat). Meets g k (record c { timer = t }) ns Step.Drop (by_beat m b a ns)) (beat_of g k c t a limit Wait h live out e ages)
    (record { connection = older g k c t a limit Wait h live out e ages (λ x. cc) (λ b. b.goes_on); counted = refl; asked = refl })

pub again_meets : {A S : Type 0} (g : Ghosts A S) (k : g.Config) (m : AppSpec) (c : Conn A) (t : Timer) (a : Connection) (ns : List ℕ)
    (limit : ℕ) (step : Step) → ConnRepresents g k c a → is_live c.state ≡ true → 0 < c.len → limit ≡ limit_of c.state → step ≡ outstanding true c.state →
    ((age : ℕ) → age < give_up_age limit → IsAtAge c.timer age → IsBeatOfAge limit age Again t) → Meets g k (record c { timer = t }) ns step
    (waits_for_ack m a ns)
again_meets g k m c t a ns limit step h live out e asked ages =
    subst (λ (b : Beat). Meets g k (record c { timer = t }) ns step (by_beat m b a ns)) (beat_of g k c t a limit Again h live out e ages)
    (record {
      connection = older g k c t a limit Again h live out e ages (λ x. cc) (λ b. b.goes_on);
      counted = refl;
      asked = asked ∙ ap (outstanding true) h.numbers.state;
    })

-- the longest wait is below the time of a rest
abbrev small_wait : ℕ → Bool
small_wait n = nat_lt (3 * 2 ^ n) 120

pub wait_fits : (tries : ℕ) → 3 * 2 ^ min tries 4 < 120
wait_fits tries = ltb-true (3 * 2 ^ min tries 4) 120 (agree_below_at small_wait (λ _. true) 5 (min tries 4) refl (omega arith))
