-- What is delivered to an application is bytes, if bytes are received.
use Rattle.uip_node.proofs.Prelude.{All, ◌≡◌, ℕ, ◌+◌, Bool, true, false, not, ◌&&◌, List, [], ◌∷◌, length, ltb, sym, subst, arith}
use Rattle.uip_node.proofs.Prelude.{PlainSegment, has_fin, has_rst, Beat, IsByte, IsPaged, Pages, AppState, AppSpec, Now, State, Closed}
use Rattle.uip_node.proofs.Prelude.{SynRcvd, Established, CloseWait, FinWait1, FinWait2, Closing, TimeWait, LastAck, Connection, Outcome}
use Rattle.uip_node.proofs.Prelude.{does_as_wanted, prepared, asked, delivers_text, is_out_of_order, is_acked, rests, has_text, with_part}
use Rattle.uip_node.proofs.Prelude.{peer_closes, stays_established, in_established, fin_acked, fin_waits, by_state, on_segment, by_beat}
use Rattle.uip_node.proofs.Prelude.{on_tick, All-append, HasBytes, SendsBytes}
use Rattle.uip_node.proofs.Basics.{choose}
use Rattle.uip_node.proofs.Fits.{all_nil}
use Rattle.uip_node.proofs.Cases.{Unmoved, asked_by, on_tick_by, wanted_unmoved}

-- bytes were delivered to its state
abbrev pub DeliveredBytes : Connection → Type 0
DeliveredBytes c = All IsByte c.part.input

module _ (m : AppSpec) (bytes : SendsBytes m) where
  abbrev Out : Outcome → Type 0
  Out o = DeliveredBytes o.connection

  receives_bytes : (numbers : List ℕ) (p : AppState) (piece : List ℕ) → All IsByte p.input → All IsByte piece
      → All IsByte (delivers_text m numbers p piece).part.input
  receives_bytes numbers p [] h are = h
  receives_bytes numbers p (x ∷ xs) h are = bytes.newdata numbers p (x ∷ xs) h are

  pub asked_bytes : (at : Connection → Now) (o : Outcome) → Out o → Out (asked m at o)
  asked_bytes at o h =
      asked_by m Out at o
      (λ a fresh. (let b : Connection = prepared m (at o.connection) o.connection o.numbers in
      let u : Unmoved b (does_as_wanted (m.want o.numbers b.part) fresh b o.numbers).connection = wanted_unmoved m (m.want o.numbers b.part)
      fresh b o.numbers in
      subst (λ (p : AppState). All IsByte p.input) (sym u.part) (bytes.prepare o.numbers o.connection.part (at o.connection) h)))
      h

  established_bytes : (acked : Bool) (c : Connection) (numbers : List ℕ) (s : PlainSegment) → All IsByte s.text → DeliveredBytes c
      → Out (in_established m acked c numbers s)
  unfolding in_established peer_closes stays_established
  established_bytes acked c numbers s are h =
      let x = receives_bytes numbers c.part s.text h are in
      choose Out (has_fin s.flags) _ _
      (λ e. choose Out (ltb 0 c.len) _ _ (λ f. x) (λ f. x))
      (λ e. choose Out (not acked && not (has_text s)) _ _ (λ f. x) (λ f. choose Out (ltb 0 c.len) _ _ (λ g. x) (λ g. x)))

  by_state_bytes : (st : State) (acked : Bool) (c : Connection) (numbers : List ℕ) (s : PlainSegment) → All IsByte s.text → DeliveredBytes c
      → Out (by_state m st acked c numbers s)
  unfolding fin_acked fin_waits
  by_state_bytes Closed acked c numbers s are h = h
  by_state_bytes SynRcvd true c numbers s are h =
      (let start = m.connected numbers c.sockets.own_port.0 in receives_bytes start.numbers start.part s.text
      (bytes.connected numbers c.sockets.own_port.0) are)
  by_state_bytes SynRcvd false c numbers s are h = h
  by_state_bytes Established true c numbers s are h =
      established_bytes true (with_part (m.acked numbers c.part c.len).part (rests c)) (m.acked numbers c.part c.len).numbers s are
      (bytes.acked numbers c.part c.len h)
  by_state_bytes Established false c numbers s are h = established_bytes false c numbers s are h
  by_state_bytes CloseWait true c numbers s are h = bytes.acked numbers c.part c.len h
  by_state_bytes CloseWait false c numbers s are h = h
  by_state_bytes FinWait1 true c numbers s are h = choose Out (has_fin s.flags) _ _ (λ e. h) (λ e. h)
  by_state_bytes FinWait1 false c numbers s are h = choose Out (has_fin s.flags) _ _ (λ e. h) (λ e. choose Out (has_text s) _ _ (λ f. h) (λ f. h))
  by_state_bytes FinWait2 acked c numbers s are h = choose Out (has_fin s.flags) _ _ (λ e. h) (λ e. choose Out (has_text s) _ _ (λ f. h) (λ f. h))
  by_state_bytes Closing true c numbers s are h = h
  by_state_bytes Closing false c numbers s are h = h
  by_state_bytes LastAck true c numbers s are h = h
  by_state_bytes LastAck false c numbers s are h = h
  by_state_bytes TimeWait acked c numbers s are h = h

  pub on_segment_bytes : (c : Connection) (numbers : List ℕ) (s : PlainSegment) → All IsByte s.text → DeliveredBytes c → Out (on_segment m c numbers s)
  unfolding on_segment
  on_segment_bytes c numbers s are h =
      choose Out (has_rst s.flags) _ _ (λ e. h) (λ e. choose Out (is_out_of_order c s) _ _ (λ f. h)
      (λ f. by_state_bytes c.state (is_acked c s) c numbers s are h))

  by_beat_bytes : (b : Beat) (c : Connection) (numbers : List ℕ) → DeliveredBytes c → Out (by_beat m b c numbers)
  by_beat_bytes Beat.Wait c numbers h = h
  by_beat_bytes Beat.Again c numbers h = h
  by_beat_bytes Beat.GiveUp c numbers h = h

  pub on_tick_bytes : (c : Connection) (numbers : List ℕ) → DeliveredBytes c → Out (on_tick m c numbers)
  on_tick_bytes c numbers h = on_tick_by m Out c numbers record {
    none = h;
    beats = λ r b. by_beat_bytes b c numbers h;
    rested = λ e. h;
    ends = h;
    polled = λ e l. bytes.polled numbers c.part h;
  }

-- an application with pages of bytes sends bytes
module _ (m : AppSpec) (pages : Pages) (lawful : IsPaged m pages) where
  like_received : (p q : AppState) → q.input ≡ p.input → All IsByte p.input → All IsByte q.input
  like_received p q e h = subst (λ (l : List ℕ). All IsByte l) (sym e) h

  pub page_bytes : HasBytes pages → SendsBytes m
  page_bytes bytes = record {
    output = λ p h k. subst (λ (l : List ℕ). All IsByte l) (sym (lawful.output p)) (bytes p.input p.snapshots h k);
    connected = λ numbers port. subst (λ (l : List ℕ). All IsByte l) (sym (lawful.connected_input numbers port)) (all_nil IsByte);
    newdata = λ numbers p piece h are. subst (λ (l : List ℕ). All IsByte l) (sym (lawful.newdata_input numbers p piece))
        (All-append IsByte p.input piece h are);
    prepare = λ numbers p now h. like_received p (m.prepare numbers p now) (lawful.prepare_input numbers p now) h;
    acked = λ numbers p n h. like_received p (m.acked numbers p n).part (lawful.acked_input numbers p n) h;
    polled = λ numbers p h. like_received p (m.polled numbers p).part (lawful.polled_same numbers p).input h;
  }
