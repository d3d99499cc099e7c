-- Every capture ever taken is of a snapshot that a node makes. This holds for all connections, clean or not.
-- [add: counter] The number of counters of a snapshot.
use Rattle.uip_node.proofs.Prelude.{All, range_with_len, ◌≡◌, ℕ, zero, suc, ◌+◌, ◌-◌, ◌<◌, ◌≤◌, Bool, true, false, not, ◌&&◌, List, [], ◌∷◌}
use Rattle.uip_node.proofs.Prelude.{length, set, refl, sym, subst, arith, Some, slice_get, slice_index, count_by, nat_le, eqb, ltb}
use Rattle.uip_node.proofs.Prelude.{length-set, ◌∙◌, All-push, All-map, count_by-le-length, common_steps, wrap, PlainSegment, has_fin}
use Rattle.uip_node.proofs.Prelude.{has_rst, ages, tries_at, Beat, AppState, AppSpec, IsSteady, IsSnapshot, IsNow, IsRow, IsU32, IsAddr}
use Rattle.uip_node.proofs.Prelude.{Ending, Now, Row, State, Closed, SynRcvd, Established, CloseWait, FinWait1, FinWait2, Closing, TimeWait}
use Rattle.uip_node.proofs.Prelude.{LastAck, Want, Nothing, Send, Close, Abort, Sockets, Connection, is_resting, tries_of, count_of, row_of}
use Rattle.uip_node.proofs.Prelude.{rows_from, Outcome, closes, after_own_fin, peer_has_closed, idles, does_as_wanted, ask, asked, accepted}
use Rattle.uip_node.proofs.Prelude.{reported_end, is_out_of_order, is_acked, rests, has_text, delivers_text, takes, with_part, in_state}
use Rattle.uip_node.proofs.Prelude.{with_window, peer_closes, stays_established, in_established, fin_acked, fin_waits, by_state, on_segment}
use Rattle.uip_node.proofs.Prelude.{by_beat, grows_older, on_tick, polls, Event, HistoryEntry, Silent, counters, raises, times}
use Rattle.uip_node.proofs.Prelude.{AbstractNode, snapshot}
use Rattle.tcp_machine.specs.Connection.{is_live}
use Rattle.uip_node.proofs.Cases.{asked_by, by_own_fin, on_tick_by}
use Rattle.uip_node.proofs.Basics.{choose, wrap_low}
use Rattle.uip_node.proofs.Connections.{get_set}
use Rattle.uip_node.proofs.Connections.Written.{here, there}

pub all_nil : {X : Type 0} (P : X → Type 0) → All P []
all_nil P k d l = absurd (omega arith)

pub all_cons : {X : Type 0} (P : X → Type 0) (x : X) (xs : List X) → P x → All P xs → All P (x ∷ xs)
all_cons P x xs a h zero d l = a
all_cons P x xs a h (suc k) d l = h k d (omega arith)

pub record FitConn (c : Connection) : Type 0 where
  pub rest : is_resting c.state ≡ true → c.age < 120
  pub snapshots : All IsSnapshot c.part.snapshots
  pub addr : IsAddr c.sockets.peer
  pub port : c.sockets.peer_port.0 < 65536

pub record FitOut (o : Outcome) : Type 0 where
  pub conn : FitConn o.connection
  pub numbers : All IsU32 o.numbers

-- rows
index_low : (n : ℕ) → slice_index ages n ≤ 249
index_low zero = omega arith
index_low (suc zero) = omega arith
index_low (suc (suc zero)) = omega arith
index_low (suc (suc (suc zero))) = omega arith
index_low (suc (suc (suc (suc zero)))) = omega arith
index_low (suc (suc (suc (suc (suc zero))))) = omega arith
index_low (suc (suc (suc (suc (suc (suc zero)))))) = omega arith
index_low (suc (suc (suc (suc (suc (suc (suc zero))))))) = omega arith
index_low (suc (suc (suc (suc (suc (suc (suc (suc zero)))))))) = omega arith
index_low (suc (suc (suc (suc (suc (suc (suc (suc (suc n))))))))) = omega arith

tries_low : (c : Connection) → tries_of c < 10
tries_low c = choose (λ n. n < 10) (ltb 0 c.len) _ _
    (λ e. (let h : count_by (λ a. nat_le a c.age) ages ≤ 9 = count_by-le-length (λ a. nat_le a c.age) ages in omega (arith, h))) (λ e. omega arith)

count_low : (c : Connection) → FitConn c → count_of c < 256
count_low c f =
    choose (λ n. n < 256) (ltb 0 c.len) _ _ (λ e. omega (arith, index_low (tries_at c.age)))
    (λ e. choose (λ n. n < 256) (is_resting c.state) _ _ (λ r. omega (arith, f.rest r)) (λ r. omega arith))

row_fits : (slot : ℕ) (c : Connection) → slot < 10 → FitConn c → IsRow (row_of slot c)
row_fits slot c l f = record { slot = l; tries = tries_low c; count = count_low c f; port = f.port; peer = f.addr }

rows_fit : (slot : ℕ) (cs : List Connection) → slot + length cs ≤ 10 → ((i : ℕ) (c : Connection) → slice_get cs i ≡ Some c → FitConn c)
    → All IsRow (rows_from slot cs)
rows_fit slot [] l h = all_nil IsRow
rows_fit slot (c ∷ cs) l h =
    let more : All IsRow (rows_from (slot + 1) cs) = rows_fit (slot + 1) cs (omega arith) (λ i x g. h (suc i) x g) in
    choose (λ (r : List Row). All IsRow r) (is_live c.state) _ _ (λ e. all_cons IsRow (row_of slot c) (rows_from (slot + 1) cs)
    (row_fits slot c (omega arith) (h zero c refl)) more) (λ e. more)

rows_few : (slot : ℕ) (cs : List Connection) → length (rows_from slot cs) ≤ length cs
rows_few slot [] = omega arith
rows_few slot (c ∷ cs) =
    let more : length (rows_from (slot + 1) cs) ≤ length cs = rows_few (slot + 1) cs in
    choose (λ (r : List Row). length r ≤ suc (length cs)) (is_live c.state) _ _ (λ e. omega (arith, more)) (λ e. omega (arith, more))

pub set_conns : (table : List Connection) (i : ℕ) (new : Connection) → FitConn new → ((j : ℕ) (c : Connection) → slice_get table j ≡ Some c → FitConn c) →
    (j : ℕ) (c : Connection) → slice_get (set table i new) j ≡ Some c → FitConn c
set_conns table i new f h j c x = elim (get_set table i new j c x) [ here e q ↦ subst (λ z. FitConn z) q f | there n g ↦ h j c g ]

pub counters_fit : (history : List HistoryEntry) → All IsU32 (counters history)
counters_fit history = All-map IsU32 (λ k. wrap (times (raises k) history)) (range_with_len 0 20) (λ k d l. wrap_low _)

pub snapshot_fits : (n : AbstractNode) (event : Event) (slot : ℕ) (c : Connection) → length n.connections ≤ 10
    → ((j : ℕ) (x : Connection) → slice_get n.connections j ≡ Some x → FitConn x) → FitConn c → IsNow (snapshot n event slot c)
snapshot_fits n event slot c l h f =
    let size : length (set n.connections slot c) ≡ length n.connections = length-set n.connections slot c in
    record {
      ticks = wrap_low _;
      twenty = refl;
      counters = counters_fit (record { event = event; answer = Silent } ∷ n.history);
      slots = omega (arith, rows_few 0 (set n.connections slot c), size);
      rows = rows_fit 0 (set n.connections slot c) (omega (arith, size)) (set_conns n.connections slot c f h);
    }

module _ (m : AppSpec) (steady : IsSteady m) where
  fit_like : (c d : Connection) → d.sockets ≡ c.sockets → d.part.snapshots ≡ c.part.snapshots → (is_resting d.state ≡ true → d.age < 120)
      → FitConn c → FitConn d
  fit_like c d s k r f = record {
    rest = r;
    snapshots = subst (λ l. All IsSnapshot l) (sym k) f.snapshots;
    addr = subst (λ (x : Sockets). IsAddr x.peer) (sym s) f.addr;
    port = subst (λ (x : Sockets). x.peer_port.0 < 65536) (sym s) f.port;
  }

  receives_captures : (numbers : List ℕ) (p : AppState) (text : List ℕ) → (delivers_text m numbers p text).part.snapshots ≡ p.snapshots
  receives_captures numbers p [] = refl
  receives_captures numbers p (x ∷ xs) = steady.newdata_snapshots numbers p (x ∷ xs)

  receives_numbers : (numbers : List ℕ) (p : AppState) (text : List ℕ) → All IsU32 numbers → All IsU32 (delivers_text m numbers p text).numbers
  receives_numbers numbers p [] h = h
  receives_numbers numbers p (x ∷ xs) h = steady.newdata_numbers numbers p (x ∷ xs) h

  reported_numbers : (how : Ending) (st : State) (p : AppState) (numbers : List ℕ) → All IsU32 numbers → All IsU32 (reported_end m how st p numbers)
  reported_numbers how Established p numbers h = steady.ended_numbers numbers p how h
  reported_numbers how CloseWait p numbers h = steady.ended_numbers numbers p how h
  reported_numbers how _ p numbers h = h

  fin_rest : (st : State) → is_resting (after_own_fin st) ≡ true → ⊥
  fin_rest st h = by_own_fin (λ x. is_resting x ≡ true → ⊥) (λ q. (let z : false ≡ true = q in cc)) (λ q. (let z : false ≡ true = q in cc)) st h

  closes_fit : (c : Connection) → FitConn c → FitConn (closes c)
  closes_fit c f = fit_like c (closes c) refl refl (λ r. absurd (cc)) f

  -- asking
  wanted_fits : (w : Want) (fresh : Bool) (c : Connection) (numbers : List ℕ) → FitConn c → All IsU32 numbers → FitOut (does_as_wanted w fresh c numbers)
  unfolding idles
  wanted_fits Abort fresh c numbers f n = record { conn = closes_fit c f; numbers = n }
  wanted_fits Close fresh c numbers f n = record { conn = fit_like c _ refl refl (λ r. absurd (fin_rest c.state r)) f; numbers = n }
  wanted_fits (Send k) fresh c numbers f n = record { conn = fit_like c _ refl refl (λ r. omega arith) f; numbers = n }
  wanted_fits Nothing fresh c numbers f n =
      choose (λ (x : Outcome). FitOut x) (peer_has_closed c.state) _ _ (λ e. record { conn = closes_fit c f; numbers = n })
      (λ e. choose (λ (x : Outcome). FitOut x) fresh _ _ (λ g. record { conn = f; numbers = n }) (λ g. record { conn = f; numbers = n }))

  pub prepared_snapshots : (numbers : List ℕ) (p : AppState) (now : Now) → All IsU32 numbers → IsNow now → All IsSnapshot p.snapshots
      → All IsSnapshot (m.prepare numbers p now).snapshots
  prepared_snapshots numbers p now n is f =
      elim (steady.prepare_snapshots numbers p now) [
        | Rattle.std.proofs.Common.inl e ↦ subst (λ l. All IsSnapshot l) (sym e) f
        | Rattle.std.proofs.Common.inr e ↦ subst (λ l. All IsSnapshot l) (sym e)
            (All-push IsSnapshot p.snapshots (record { numbers = numbers; now = now }) f record { numbers = n; now = is })
      ]

  ask_fits : (now : Now) (fresh : Bool) (c : Connection) (numbers : List ℕ) → IsNow now → FitConn c → All IsU32 numbers → FitOut (ask m now fresh c numbers)
  ask_fits now fresh c numbers is f n =
      wanted_fits (m.want numbers (m.prepare numbers c.part now)) fresh (with_part (m.prepare numbers c.part now) c) numbers
      record { rest = f.rest; snapshots = prepared_snapshots numbers c.part now n is f.snapshots; addr = f.addr; port = f.port } n

  pub asked_fits : (at : Connection → Now) → ((c : Connection) → FitConn c → IsNow (at c)) → (o : Outcome) → FitOut o → FitOut (asked m at o)
  asked_fits at is o f = asked_by m FitOut at o (λ a fresh. ask_fits (at o.connection) fresh o.connection o.numbers (is o.connection f.conn) f.conn f.numbers) f

  -- a segment
  pub accepted_fits : (iss : ℕ) (sockets : Sockets) (s : PlainSegment) → IsAddr sockets.peer → sockets.peer_port.0 < 65536 → FitConn (accepted iss sockets s)
  accepted_fits iss sockets s a p = record { rest = λ r. absurd (cc); snapshots = all_nil IsSnapshot; addr = a; port = p }

  closing_fits : (c : Connection) (numbers : List ℕ) (s : PlainSegment) → FitConn c → All IsU32 numbers → FitOut (peer_closes m c numbers s)
  unfolding peer_closes
  closing_fits c numbers s f n =
      let x : (delivers_text m numbers c.part s.text).part.snapshots ≡ c.part.snapshots = receives_captures numbers c.part s.text in
      let d : Connection = in_state CloseWait (with_window s.window (with_part (delivers_text m numbers c.part s.text).part (takes (length s.text + 1) c))) in
      let g : FitConn d = fit_like c d refl x (λ r. absurd (cc)) f in
      let k : All IsU32 (delivers_text m numbers c.part s.text).numbers = receives_numbers numbers c.part s.text n in
      choose (λ (o : Outcome). FitOut o) (ltb 0 c.len) _ _ (λ e. record { conn = g; numbers = k }) (λ e. record { conn = g; numbers = k })

  going_fits : (acked : Bool) (c : Connection) (numbers : List ℕ) (s : PlainSegment) → FitConn c → All IsU32 numbers
      → FitOut (stays_established m acked c numbers s)
  unfolding stays_established
  going_fits acked c numbers s f n =
      let x : (delivers_text m numbers c.part s.text).part.snapshots ≡ c.part.snapshots = receives_captures numbers c.part s.text in
      let d : Connection = with_window s.window (with_part (delivers_text m numbers c.part s.text).part (takes (length s.text) c)) in
      let g : FitConn d = fit_like c d refl x f.rest f in
      let k : All IsU32 (delivers_text m numbers c.part s.text).numbers = receives_numbers numbers c.part s.text n in
      choose (λ (o : Outcome). FitOut o) (not acked && not (has_text s)) _ _ (λ e. record { conn = g; numbers = k })
      (λ e. choose (λ (o : Outcome). FitOut o) (ltb 0 c.len) _ _ (λ i. record { conn = g; numbers = k }) (λ i. record { conn = g; numbers = k }))

  established_fits : (acked : Bool) (c : Connection) (numbers : List ℕ) (s : PlainSegment) → FitConn c → All IsU32 numbers
      → FitOut (in_established m acked c numbers s)
  unfolding in_established
  established_fits acked c numbers s f n = choose (λ (o : Outcome). FitOut o) (has_fin s.flags) _ _ (λ e. closing_fits c numbers s f n)
      (λ e. going_fits acked c numbers s f n)

  acked_fits : (c : Connection) (numbers : List ℕ) → FitConn c → FitConn (with_part (m.acked numbers c.part c.len).part (rests c))
  acked_fits c numbers f = fit_like c _ refl (steady.acked_snapshots numbers c.part c.len) (λ r. omega arith) f

  by_state_fits : (st : State) (acked : Bool) (c : Connection) (numbers : List ℕ) (s : PlainSegment) → FitConn c → All IsU32 numbers
      → FitOut (by_state m st acked c numbers s)
  unfolding fin_acked fin_waits
  by_state_fits Closed acked c numbers s f n = record { conn = f; numbers = n }
  by_state_fits SynRcvd true c numbers s f n =
      let port : ℕ = c.sockets.own_port.0 in
      let x : (delivers_text m (m.connected numbers port).numbers (m.connected numbers port).part s.text).part.snapshots
      ≡ (m.connected numbers port).part.snapshots = receives_captures (m.connected numbers port).numbers (m.connected numbers port).part s.text in
      let none : (delivers_text m (m.connected numbers port).numbers (m.connected numbers port).part s.text).part.snapshots ≡ [] = x
      ∙ steady.connected_snapshots numbers port in
      record {
        conn = record { rest = λ r. absurd (cc); snapshots = subst (λ l. All IsSnapshot l) (sym none) (all_nil IsSnapshot); addr = f.addr; port = f.port };
        numbers = receives_numbers (m.connected numbers port).numbers (m.connected numbers port).part s.text (steady.connected_numbers numbers port n);
      }
  by_state_fits SynRcvd false c numbers s f n = record { conn = f; numbers = n }
  by_state_fits Established true c numbers s f n =
      established_fits true (with_part (m.acked numbers c.part c.len).part (rests c)) (m.acked numbers c.part c.len).numbers s
      (acked_fits c numbers f) (steady.acked_numbers numbers c.part c.len n)
  by_state_fits Established false c numbers s f n = established_fits false c numbers s f n
  by_state_fits CloseWait true c numbers s f n =
      let g = acked_fits c numbers f in
      record { conn = record { rest = g.rest; snapshots = g.snapshots; addr = g.addr; port = g.port }; numbers = steady.acked_numbers numbers c.part c.len n }
  by_state_fits CloseWait false c numbers s f n = record { conn = record { rest = f.rest; snapshots = f.snapshots; addr = f.addr; port = f.port }; numbers = n }
  by_state_fits FinWait1 true c numbers s f n =
      choose (λ (o : Outcome). FitOut o) (has_fin s.flags) _ _
      (λ e. record { conn = fit_like c _ refl refl (λ r. omega arith) f; numbers = n })
      (λ e. record { conn = fit_like c _ refl refl (λ r. omega arith) f; numbers = n })
  by_state_fits FinWait1 false c numbers s f n =
      choose (λ (o : Outcome). FitOut o) (has_fin s.flags) _ _ (λ e. record { conn = fit_like c _ refl refl (λ r. absurd (cc)) f; numbers = n })
      (λ e. choose (λ (o : Outcome). FitOut o) (has_text s) _ _ (λ i. record { conn = fit_like c _ refl refl f.rest f; numbers = n })
      (λ i. record { conn = f; numbers = n }))
  by_state_fits FinWait2 acked c numbers s f n =
      choose (λ (o : Outcome). FitOut o) (has_fin s.flags) _ _ (λ e. record { conn = fit_like c _ refl refl (λ r. omega arith) f; numbers = n })
      (λ e. choose (λ (o : Outcome). FitOut o) (has_text s) _ _ (λ i. record { conn = fit_like c _ refl refl f.rest f; numbers = n })
      (λ i. record { conn = f; numbers = n }))
  by_state_fits Closing true c numbers s f n = record { conn = fit_like c _ refl refl (λ r. omega arith) f; numbers = n }
  by_state_fits Closing false c numbers s f n = record { conn = f; numbers = n }
  by_state_fits LastAck true c numbers s f n = record { conn = fit_like c _ refl refl (λ r. absurd (cc)) f; numbers = n }
  by_state_fits LastAck false c numbers s f n = record { conn = f; numbers = n }
  by_state_fits TimeWait acked c numbers s f n = record { conn = f; numbers = n }

  pub on_segment_fits : (c : Connection) (numbers : List ℕ) (s : PlainSegment) → FitConn c → All IsU32 numbers → FitOut (on_segment m c numbers s)
  unfolding on_segment
  on_segment_fits c numbers s f n =
      choose (λ (o : Outcome). FitOut o) (has_rst s.flags) _ _
      (λ e. record { conn = closes_fit c f; numbers = reported_numbers _ c.state c.part numbers n }) (λ e.
      choose (λ (o : Outcome). FitOut o) (is_out_of_order c s) _ _ (λ i. record { conn = f; numbers = n })
      (λ i. by_state_fits c.state (is_acked c s) c numbers s f n))

  -- a tick
  by_beat_fits : (b : Beat) (c : Connection) (numbers : List ℕ) → is_resting c.state ≡ false → FitConn c → All IsU32 numbers → FitOut (by_beat m b c numbers)
  by_beat_fits Beat.Wait c numbers r f n = record { conn = fit_like c _ refl refl (λ x. absurd (cc)) f; numbers = n }
  by_beat_fits Beat.Again c numbers r f n = record { conn = fit_like c _ refl refl (λ x. absurd (cc)) f; numbers = n }
  by_beat_fits Beat.GiveUp c numbers r f n = record { conn = closes_fit c f; numbers = reported_numbers _ c.state c.part numbers n }

  not_last : (age : ℕ) → age < 120 → eqb (age + 1) 120 ≡ false → age + 1 < 120
  not_last age h e = grind (arith, common_steps)

  pub on_tick_fits : (c : Connection) (numbers : List ℕ) → FitConn c → All IsU32 numbers → FitOut (on_tick m c numbers)
  on_tick_fits c numbers f n = on_tick_by m FitOut c numbers record {
    none = record { conn = f; numbers = n };
    beats = λ r b. by_beat_fits b c numbers r f n;
    rested = λ e. record { conn = fit_like c (grows_older c) refl refl (λ r. not_last c.age (f.rest r) e) f; numbers = n };
    ends = record { conn = closes_fit c f; numbers = n };
    polled = λ e l. record {
      conn = fit_like c (polls m c numbers).connection refl (steady.polled_snapshots numbers c.part) f.rest f;
      numbers = steady.polled_numbers numbers c.part n;
    };
  }
