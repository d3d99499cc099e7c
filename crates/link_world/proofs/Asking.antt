-- The progress of a client's request: what its steps add to what it sent, and what a step of the connection accepts of it. No
-- premise on the other side.
use Rattle.link_world.proofs.Prelude.{◌≡◌, ℕ, ◌+◌, ◌-◌, ◌<◌, ◌≤◌, min, Bool, true, false, not, ◌&&◌, ◌||◌, ◌⊎◌, inl, inr, List, length}
use Rattle.link_world.proofs.Prelude.{length-append, drop, refl, sym, ap, ◌∙◌, arith, Some, eqb, ltb, length-take, if◌then◌else◌, wrap}
use Rattle.link_world.proofs.Prelude.{PlainSegment, has_syn, has_fin, has_rst, has_ack, Beat, AppState, After, AppSpec, Pages, IsPaged, Now}
use Rattle.link_world.proofs.Prelude.{State, Closed, SynRcvd, Established, CloseWait, FinWait1, FinWait2, Closing, TimeWait, LastAck}
use Rattle.link_world.proofs.Prelude.{Connection, rcv_nxt, occupies_sequence_space, segment_of, Outcome, ask, asked, prepared}
use Rattle.link_world.proofs.Prelude.{is_out_of_order, is_acked, has_text, delivers_text, connects, in_established, peer_closes}
use Rattle.link_world.proofs.Prelude.{stays_established, fin_acked, fin_waits, by_state, on_segment, by_beat, on_tick, Step, AbstractClient}
use Rattle.link_world.proofs.Prelude.{ClientStep, ack_of, client_aborts, client_again, client_closes, client_opens, client_takes, fin_out}
use Rattle.link_world.proofs.Prelude.{fin_sent, has_outstanding, receives_ack, is_receiving, keeps, may_finish, next_own, one_if, opened_by}
use Rattle.link_world.proofs.Prelude.{own_fin, own_first, own_request, own_reset, sends_next, steps_with, syn_of, takes_in_order}
use Rattle.link_world.proofs.Prelude.{takes_text, advertises_window, ClientState, FinAt, choose, and_true, and_false, only_some, eqb-eq}
use Rattle.link_world.proofs.Prelude.{not-false, not-true, ltb-zero, same_place, receives_is, asked_by, on_tick_by, wanted_unmoved}
use Rattle.link_client.specs.declared.client_state.ClientState.TheVariants as Is
use Rattle.link_world.proofs.CleanClientInvariant.{Steady, is_early}
use Rattle.link_world.proofs.ClientCases.{of_aborts, of_again, of_closes, of_opens, of_order, of_sends, of_takes}

-- how many bytes of its request the client has sent
abbrev pub asked_bytes : AbstractClient → ℕ
asked_bytes c = c.acked + c.out

-- how many of its numbers after the SYN the client has used: request bytes, and its FIN
abbrev pub used : AbstractClient → ℕ
used c = asked_bytes c + one_if (fin_sent c.fin)

-- a segment at this place has no more text than the client has sent, and ends where the client has used its numbers
pub record EndsAt (c : AbstractClient) (s : PlainSegment) (at : ℕ) : Type 0 where
  pub text : at + length s.text ≤ asked_bytes c
  pub all : at + length s.text + one_if (has_fin s.flags) ≤ used c

-- request bytes and FIN of a segment end in what the client has sent
abbrev pub EndsIn : AbstractClient → PlainSegment → Type 0
EndsIn c s = has_rst s.flags ≡ false → has_syn s.flags ≡ false → occupies_sequence_space s ≡ true → (at : ℕ) → at < 4294967296
    → s.seq ≡ wrap (own_first c + 1 + at) → EndsAt c s at

-- a step of the client's own
pub record Asks (c : AbstractClient) (t : ClientStep) : Type 0 where
  pub more : used c ≤ used t.client
  pub further : asked_bytes c ≤ asked_bytes t.client
  pub acked : t.client.acked ≡ c.acked
  pub iss : own_first t.client ≡ own_first c
  pub early : is_early t.client.state ≡ true → used t.client ≡ used c
  pub ends : Steady t.client → (x : PlainSegment) → t.sent ≡ Some x → EndsIn t.client x

-- a step on a segment, which may acknowledge what is outstanding
pub record AsksOn (c : AbstractClient) (s : PlainSegment) (t : ClientStep) : Type 0 where
  pub more : used c ≤ used t.client
  pub further : asked_bytes c ≤ asked_bytes t.client
  pub acked : (t.client.acked ≡ c.acked) ⊎ ((has_rst s.flags ≡ false) × (has_ack s.flags ≡ true) × (s.ack ≡ next_own c) × (t.client.acked ≡ c.acked + c.out))
  pub iss : own_first t.client ≡ own_first c
  pub early : is_early t.client.state ≡ true → used t.client ≡ used c
  pub ends : Steady t.client → (x : PlainSegment) → t.sent ≡ Some x → EndsIn t.client x

-- what each segment of a client has
request_ends : (c : AbstractClient) → Steady c → EndsIn c (own_request c)
request_ends c st nr ns p at low e =
    let fits = st.out_fits in
    let short = st.short in
    let here : at ≡ c.acked = same_place (own_first c + 1) at c.acked low (omega (arith, fits, short)) (sym e) in
    let size = length-take c.out (drop c.acked c.request) in
    record { text = omega (arith, here, size); all = omega (arith, here, size) }

fin_ends : (c : AbstractClient) → fin_sent c.fin ≡ true → Steady c → EndsIn c (own_fin c)
fin_ends c f st nr ns p at low e =
    let fits = st.out_fits in
    let short = st.short in
    let here : at ≡ c.acked + c.out = same_place (own_first c + 1) at (c.acked + c.out) low (omega (arith, fits, short))
    (sym e ∙ ap wrap (let z : own_first c + 1 + c.acked + c.out ≡ own_first c + 1 + (c.acked + c.out) = omega arith in z)) in
    record { text = omega (arith, here); all = omega (arith, here, ap one_if f) }

nothing_waits : (c : AbstractClient) → not (has_outstanding c) ≡ true → c.out ≡ 0
nothing_waits c e = none (ltb 0 c.out) (fin_out c.fin) refl (not-true (has_outstanding c) e)
  where
    none : (a b : Bool) → ltb 0 c.out ≡ a → a || b ≡ false → c.out ≡ 0
    none true b q e = absurd (cc)
    none false b q e = ltb-zero c.out q

receiving_late : (st : ClientState) → is_receiving st ≡ true → is_early st ≡ true → ⊥
receiving_late Is.Idle r e = absurd (cc)
receiving_late _ r e = absurd (cc)

finishing_late : (st : ClientState) → may_finish st ≡ true → is_early st ≡ true → ⊥
finishing_late Is.Idle r e = absurd (cc)
finishing_late _ r e = absurd (cc)

quiet_asks : (c d : AbstractClient) → used d ≡ used c → asked_bytes d ≡ asked_bytes c → d.acked ≡ c.acked → own_first d ≡ own_first c → Asks c (keeps d)
quiet_asks c d u b a f = record { more = omega (arith, u); further = omega (arith, b); acked = a; iss = f; early = λ y. u; ends = λ st x p. absurd (cc) }

sends_asks : (c d : AbstractClient) (s : PlainSegment) → used d ≡ used c → asked_bytes d ≡ asked_bytes c → d.acked ≡ c.acked
    → own_first d ≡ own_first c → (Steady d → EndsIn d s) → Asks c (steps_with d s)
sends_asks c d s u b a f e = record {
  more = omega (arith, u);
  further = omega (arith, b);
  acked = a;
  iss = f;
  early = λ y. u;
  ends = λ st x p. only_some (λ (y : PlainSegment). EndsIn d y) s x p (e st);
}

asks_next : (owed : Bool) (c : AbstractClient) → Asks c (sends_next owed c)
asks_next owed c =
    let d : AbstractClient = record c { out = min c.setup.seg (length c.request - c.acked) } in
    let e : AbstractClient = record c { fin = FinAt.Out } in
    of_sends (λ x. Asks c x) c owed (quiet_asks c c refl refl refl refl) (sends_asks c c (ack_of c) refl refl refl refl (λ st nr ns z. absurd (cc)))
    (λ o r. (let none = nothing_waits c o in record {
      more = omega (arith, none);
      further = omega (arith, none);
      acked = refl;
      iss = refl;
      early = λ y. absurd (receiving_late c.state r y);
      ends = λ st x p. only_some (λ (y : PlainSegment). EndsIn d y) (own_request d) x p (request_ends d st);
    }))
    (λ o m n. record {
      more = omega (arith, ap one_if n);
      further = omega arith;
      acked = refl;
      iss = refl;
      early = λ y. absurd (finishing_late c.state m y);
      ends = λ st x p. only_some (λ (y : PlainSegment). EndsIn e y) (own_fin c) x p (fin_ends e refl st);
    })

-- from a client that has used the same
as_asked : (c d : AbstractClient) (s : PlainSegment) (t : ClientStep) → used d ≡ used c → asked_bytes d ≡ asked_bytes c → own_first d ≡ own_first c →
    (d.acked ≡ c.acked) ⊎ ((has_rst s.flags ≡ false) × (has_ack s.flags ≡ true) × (s.ack ≡ next_own c) × (d.acked ≡ c.acked + c.out)) → Asks d t → AsksOn c s t
as_asked c d s t u b f a g = record {
  more = omega (arith, u, g.more);
  further = omega (arith, b, g.further);
  early = λ y. g.early y ∙ u;
  acked = elim a [ inl e ↦ inl (g.acked ∙ e) | inr e ↦ inr (e.0, e.1, e.2, g.acked ∙ e.3) ];
  iss = g.iss ∙ f;
  ends = g.ends;
}

keeps_asked : (c d : AbstractClient) (s : PlainSegment) → used d ≡ used c → asked_bytes d ≡ asked_bytes c → own_first d ≡ own_first c
    → d.acked ≡ c.acked → AsksOn c s (keeps d)
keeps_asked c d s u b f a = record { more = omega (arith, u); further = omega (arith, b); acked = inl a; iss = f; early = λ y. u; ends = λ st x p. absurd (cc) }

fin_stays : (f : FinAt) → fin_sent (if fin_out f then FinAt.Acked else f) ≡ fin_sent f
fin_stays FinAt.NotSent = refl
fin_stays FinAt.Out = refl
fin_stays FinAt.Acked = refl

record HasDelivered (c : AbstractClient) (s : PlainSegment) (d : AbstractClient) : Type 0 where
  used_is : used d ≡ used c
  asked_is : asked_bytes d ≡ asked_bytes c
  iss : own_first d ≡ own_first c
  acked : (d.acked ≡ c.acked) ⊎ ((has_ack s.flags ≡ true) × (s.ack ≡ next_own c) × (d.acked ≡ c.acked + c.out))

has_received : (c : AbstractClient) (s : PlainSegment) → HasDelivered c s (receives_ack c s)
has_received c s =
    choose (λ d. HasDelivered c s d) (has_ack s.flags && (has_outstanding c && eqb s.ack (next_own c))) _ _
    (λ e. (let a = and_true (has_ack s.flags) (has_outstanding c && eqb s.ack (next_own c)) e in
    let b = and_true (has_outstanding c) (eqb s.ack (next_own c)) a.1 in
    record {
      used_is = omega (arith, ap one_if (fin_stays c.fin));
      asked_is = omega arith;
      iss = refl;
      acked = inr (a.0, eqb-eq s.ack (next_own c) b.1, refl);
    }))
    (λ e. record { used_is = refl; asked_is = refl; iss = refl; acked = inl refl })

in_order_asks : (c : AbstractClient) (s : PlainSegment) → has_rst s.flags ≡ false → AsksOn c s (takes_in_order (receives_ack c s) s)
in_order_asks c s nr =
    let d : AbstractClient = receives_ack c s in
    let h = has_received c s in
    let acked = elim h.acked as (λ _. (d.acked ≡ c.acked) ⊎ ((has_rst s.flags ≡ false) × (has_ack s.flags ≡ true) × (s.ack ≡ next_own c)
    × (d.acked ≡ c.acked + c.out))) [ inl e ↦ inl e | inr e ↦ inr (nr, e.0, e.1, e.2) ] in
    let same : used d ≡ used c = h.used_is in
    of_order (λ x. AsksOn c s x) d s (as_asked c d s (sends_next true d) same h.asked_is h.iss acked (asks_next true d))
    (as_asked c d s (sends_next false d) same h.asked_is h.iss acked (asks_next false d))
    (λ g. as_asked c (takes_text d s) s (sends_next true (takes_text d s)) same h.asked_is h.iss acked (asks_next true (takes_text d s)))

pub client_asks : (c : AbstractClient) (s : PlainSegment) → AsksOn c s (client_takes c s)
client_asks c s =
    of_takes (λ x. AsksOn c s x) c s (keeps_asked c c s refl refl refl refl) (λ b. keeps_asked c (record c { state = Is.Reset }) s refl refl refl refl)
    (λ e r f. as_asked c (opened_by c s) s (sends_next true (opened_by c s)) refl refl refl (inl refl) (asks_next true (opened_by c s)))
    (λ r. in_order_asks c s r)

-- its own acts
pub opens_asks : (c : AbstractClient) → Asks c (client_opens c)
opens_asks c =
    let d : AbstractClient = record c { state = Is.Opening } in
    of_opens (λ x. Asks c x) c (quiet_asks c c refl refl refl refl) (λ e. sends_asks c d (syn_of d) refl refl refl refl (λ st nr ns. absurd (cc)))

out_is_sent : (f : FinAt) → fin_out f ≡ true → fin_sent f ≡ true
out_is_sent FinAt.NotSent e = absurd (cc)
out_is_sent FinAt.Out e = refl
out_is_sent FinAt.Acked e = refl

pub again_asks : (c : AbstractClient) → Asks c (client_again c)
again_asks c =
    of_again (λ x. Asks c x) c (quiet_asks c c refl refl refl refl) (sends_asks c c (syn_of c) refl refl refl refl
    (λ st nr ns. absurd (cc))) (sends_asks c c (own_request c) refl refl refl refl (request_ends c))
    (λ f. sends_asks c c (own_fin c) refl refl refl refl (fin_ends c (out_is_sent c.fin f))) (sends_asks c c (ack_of c) refl refl refl refl
    (λ st nr ns z. absurd (cc)))

pub closes_asks : (c : AbstractClient) → Asks c (client_closes c)
closes_asks c =
    of_closes (λ x. Asks c x) c (quiet_asks c c refl refl refl refl)
    (λ e. (let g = asks_next false (record c { state = Is.Closing }) in
    record { more = g.more; further = g.further; acked = g.acked; iss = g.iss; early = g.early; ends = g.ends }))

pub aborts_asks : (c : AbstractClient) → Asks c (client_aborts c)
aborts_asks c = of_aborts (λ x. Asks c x) c (quiet_asks c c refl refl refl refl) (λ e. sends_asks c (record c { state = Is.Reset })
    (own_reset c) refl refl refl refl (λ st nr. absurd (cc)))

pub window_asks : (x : ℕ) (c : AbstractClient) → Asks c (advertises_window x c)
window_asks x c = quiet_asks c (record c { window = x }) refl refl refl refl

-- What a row of the step table takes of a segment: at most its text and its FIN. What it hands to the application is text that it
-- takes.
pub record Row (c d : Connection) (s : PlainSegment) : Type 0 where
  pub peer : d.irs ≡ c.irs
  pub count : ℕ
  pub more : d.taken ≡ c.taken + count
  pub most : count ≤ length s.text + one_if (has_fin s.flags)
  pub handed : ℕ
  pub input : length d.part.input ≤ length c.part.input + handed
  pub handed_text : handed ≤ length s.text
  pub handed_taken : handed ≤ count

-- What a step of a connection takes of a segment: what a row takes, and only at the expected number.
pub record Refines (c d : Connection) (s : PlainSegment) : Type 0 where
  pub row : Row c d s
  pub place : 0 < row.count → (s.seq ≡ rcv_nxt c) × (has_rst s.flags ≡ false)

-- what was accepted and delivered stays the same
record Stays (c d : Connection) : Type 0 where
  peer : d.irs ≡ c.irs
  taken : d.taken ≡ c.taken
  input : d.part.input ≡ c.part.input

as_long : (p q : AppState) → q.input ≡ p.input → length q.input ≡ length p.input
as_long p q e = ap (λ (x : List ℕ). length x) e

abbrev row_none : (c d : Connection) (s : PlainSegment) → Stays c d → Row c d s
row_none c d s g = record {
  peer = g.peer;
  count = 0;
  more = (let z = g.taken in omega (arith, z));
  most = omega arith;
  handed = 0;
  input = omega (arith, as_long c.part d.part g.input);
  handed_text = omega arith;
  handed_taken = omega arith;
}

takes_none : (c d : Connection) (s : PlainSegment) → Stays c d → Refines c d s
takes_none c d s g = record { row = row_none c d s g; place = λ l. absurd (let z : 0 < 0 = l in omega (arith, z)) }

row_text : (c d : Connection) (s : PlainSegment) → d.irs ≡ c.irs → d.taken ≡ c.taken + length s.text
    → length d.part.input ≤ length c.part.input + length s.text → Row c d s
row_text c d s p t h = record {
  peer = p;
  count = length s.text;
  more = t;
  most = omega arith;
  handed = length s.text;
  input = h;
  handed_text = omega arith;
  handed_taken = omega arith;
}

row_fin : (c d : Connection) (s : PlainSegment) → has_fin s.flags ≡ true → d.irs ≡ c.irs → d.taken ≡ c.taken + (length s.text + 1)
    → length d.part.input ≤ length c.part.input + length s.text → Row c d s
row_fin c d s f p t h = record {
  peer = p;
  count = length s.text + 1;
  more = t;
  most = omega (arith, ap one_if f);
  handed = length s.text;
  input = h;
  handed_text = omega arith;
  handed_taken = omega arith;
}

module _ (m : AppSpec) (pages : Pages) (lawful : IsPaged m pages) where
  receives_at_most : (numbers : List ℕ) (p : AppState) (text : List ℕ) → length (delivers_text m numbers p text).part.input ≤ length p.input + length text
  receives_at_most numbers p text = omega (arith, ap (λ (y : List ℕ). length y) (receives_is m pages lawful numbers p text).input, length-append p.input text)

  pub asked_takes : (now : Connection → Now) (c : Connection) (s : PlainSegment) (o : Outcome) → Refines c o.connection s
      → Refines c (asked m now o).connection s
  asked_takes now c s o t =
      asked_by m (λ x. Refines c x.connection s) now o
      (λ a fresh. (let b : Connection = prepared m (now o.connection) o.connection o.numbers in
      let d : Connection = (ask m (now o.connection) fresh o.connection o.numbers).connection in
      let u = wanted_unmoved m (m.want o.numbers b.part) fresh b o.numbers in
      let delivered : d.part.input ≡ o.connection.part.input = ap (λ (p : AppState). p.input) u.part ∙ lawful.prepare_input o.numbers
      o.connection.part (now o.connection) in
      let r = t.row in
      let h = r.input in
      record {
        row = record {
          peer = u.irs ∙ r.peer;
          count = r.count;
          more = u.taken ∙ r.more;
          most = r.most;
          handed = r.handed;
          input = omega (arith, as_long o.connection.part d.part delivered, h);
          handed_text = r.handed_text;
          handed_taken = r.handed_taken;
        };
        place = t.place;
      }))
      t

  established_row : (acked : Bool) (b c : Connection) (numbers : List ℕ) (s : PlainSegment) → Stays b c
      → Row b (in_established m acked c numbers s).connection s
  unfolding in_established peer_closes stays_established
  established_row acked b c numbers s g =
      let with_fin = ap (λ n. n + (length s.text + 1)) g.taken in
      let with_text = ap (λ n. n + length s.text) g.taken in
      let output : length (delivers_text m numbers c.part s.text).part.input ≤ length b.part.input + length s.text = omega
      (arith, as_long b.part c.part g.input, receives_at_most numbers c.part s.text) in
      choose (λ (o : Outcome). Row b o.connection s) (has_fin s.flags) _ _
      (λ f. choose (λ (o : Outcome). Row b o.connection s) (ltb 0 c.len) _ _ (λ l. row_fin b _ s f g.peer with_fin output)
      (λ l. row_fin b _ s f g.peer with_fin output))
      (λ f. choose (λ (o : Outcome). Row b o.connection s) (not acked && not (has_text s)) _ _ (λ l. row_text b _ s g.peer with_text output)
      (λ l. choose (λ (o : Outcome). Row b o.connection s) (ltb 0 c.len) _ _ (λ i. row_text b _ s g.peer with_text output)
      (λ i. row_text b _ s g.peer with_text output)))

  connects_at_most : (c : Connection) (numbers : List ℕ) (s : PlainSegment) → length (connects m c numbers s).connection.part.input ≤ length
      c.part.input + length s.text
  connects_at_most c numbers s =
      let start : After = m.connected numbers c.sockets.own_port.0 in
      let none : length start.part.input ≡ 0 = ap (λ (x : List ℕ). length x) (lawful.connected_input numbers c.sockets.own_port.0) in
      omega (arith, none, receives_at_most start.numbers start.part s.text)

  -- text is discarded
  let_go_fin : (c d : Connection) (s : PlainSegment) → has_fin s.flags ≡ true → d.irs ≡ c.irs → d.taken ≡ c.taken + (length s.text + 1)
      → d.part.input ≡ c.part.input → Row c d s
  let_go_fin c d s f p t h = row_fin c d s f p t (omega (arith, as_long c.part d.part h))

  let_go_text : (c d : Connection) (s : PlainSegment) → d.irs ≡ c.irs → d.taken ≡ c.taken + length s.text → d.part.input ≡ c.part.input → Row c d s
  let_go_text c d s p t h = row_text c d s p t (omega (arith, as_long c.part d.part h))

  by_state_row : (st : State) (acked : Bool) (c : Connection) (numbers : List ℕ) (s : PlainSegment) → Row c (by_state m st acked c numbers s).connection s
  unfolding fin_acked fin_waits
  by_state_row SynRcvd true c numbers s = row_text c _ s refl refl (connects_at_most c numbers s)
  by_state_row SynRcvd false c numbers s = row_none c _ s record { peer = refl; taken = refl; input = refl }
  by_state_row Established true c numbers s = established_row true c _ (m.acked numbers c.part c.len).numbers s
      record { peer = refl; taken = refl; input = lawful.acked_input numbers c.part c.len }
  by_state_row Established false c numbers s = established_row false c c numbers s record { peer = refl; taken = refl; input = refl }
  by_state_row CloseWait true c numbers s = row_none c _ s record { peer = refl; taken = refl; input = lawful.acked_input numbers c.part c.len }
  by_state_row CloseWait false c numbers s = row_none c _ s record { peer = refl; taken = refl; input = refl }
  by_state_row FinWait1 true c numbers s = choose (λ (o : Outcome). Row c o.connection s) (has_fin s.flags) _ _
      (λ f. let_go_fin c _ s f refl refl refl) (λ f. let_go_text c _ s refl refl refl)
  by_state_row FinWait1 false c numbers s =
      choose (λ (o : Outcome). Row c o.connection s) (has_fin s.flags) _ _ (λ f. let_go_fin c _ s f refl refl refl)
      (λ f. choose (λ (o : Outcome). Row c o.connection s) (has_text s) _ _ (λ l. let_go_text c _ s refl refl refl)
      (λ l. row_none c _ s record { peer = refl; taken = refl; input = refl }))
  by_state_row FinWait2 acked c numbers s =
      choose (λ (o : Outcome). Row c o.connection s) (has_fin s.flags) _ _ (λ f. let_go_fin c _ s f refl refl refl)
      (λ f. choose (λ (o : Outcome). Row c o.connection s) (has_text s) _ _ (λ l. let_go_text c _ s refl refl refl)
      (λ l. row_none c _ s record { peer = refl; taken = refl; input = refl }))
  by_state_row Closing true c numbers s = row_none c _ s record { peer = refl; taken = refl; input = refl }
  by_state_row Closing false c numbers s = row_none c _ s record { peer = refl; taken = refl; input = refl }
  by_state_row LastAck true c numbers s = row_none c _ s record { peer = refl; taken = refl; input = refl }
  by_state_row LastAck false c numbers s = row_none c _ s record { peer = refl; taken = refl; input = refl }
  by_state_row TimeWait acked c numbers s = row_none c _ s record { peer = refl; taken = refl; input = refl }
  by_state_row Closed acked c numbers s = row_none c _ s record { peer = refl; taken = refl; input = refl }

  pub some_place : (s : PlainSegment) (n : ℕ) → n ≤ length s.text + one_if (has_fin s.flags) → 0 < n → occupies_sequence_space s ≡ true
  some_place s n h l = placed (ltb 0 (length s.text)) (has_syn s.flags) (has_fin s.flags) refl refl
    where
      placed : (a b f : Bool) → ltb 0 (length s.text) ≡ a → has_fin s.flags ≡ f → a || (b || f) ≡ true
      placed true b f p q = refl
      placed false true f p q = refl
      placed false false true p q = refl
      placed false false false p q = absurd (let z : ⊥ = omega (arith, h, l, ltb-zero (length s.text) p, ap one_if q) in z)

  pub segment_takes : (c : Connection) (numbers : List ℕ) (s : PlainSegment) → Refines c (on_segment m c numbers s).connection s
  unfolding on_segment
  segment_takes c numbers s =
      choose (λ (o : Outcome). Refines c o.connection s) (has_rst s.flags) _ _ (λ r. takes_none c _ s record { peer = refl; taken = refl; input = refl })
      (λ r. choose (λ (o : Outcome). Refines c o.connection s) (is_out_of_order c s) _ _
      (λ i. takes_none c _ s record { peer = refl; taken = refl; input = refl })
      (λ i. let g = by_state_row c.state (is_acked c s) c numbers s in
      record {
        row = g;
        place = λ l. (
          elim (and_false (occupies_sequence_space s) (not (eqb s.seq (rcv_nxt c))) i) [
            | inl x ↦ absurd (let y : occupies_sequence_space s ≡ true = some_place s g.count g.most l in cc)
            | inr x ↦ eqb-eq s.seq (rcv_nxt c) (not-false (eqb s.seq (rcv_nxt c)) x)
          ],
          r,
        );
      }))

  beat_stays : (b : Beat) (c : Connection) (numbers : List ℕ) → Stays c (by_beat m b c numbers).connection
  beat_stays Beat.Wait c numbers = record { peer = refl; taken = refl; input = refl }
  beat_stays Beat.Again c numbers = record { peer = refl; taken = refl; input = refl }
  beat_stays Beat.GiveUp c numbers = record { peer = refl; taken = refl; input = refl }

  pub tick_takes : (c : Connection) (numbers : List ℕ) (s : PlainSegment) → Refines c (on_tick m c numbers).connection s
  tick_takes c numbers s =
      takes_none c (on_tick m c numbers).connection s
      (on_tick_by m (λ o. Stays c o.connection) c numbers record {
        none = record { peer = refl; taken = refl; input = refl };
        beats = λ r b. beat_stays b c numbers;
        rested = λ e. record { peer = refl; taken = refl; input = refl };
        ends = record { peer = refl; taken = refl; input = refl };
        polled = λ e l. record { peer = refl; taken = refl; input = (lawful.polled_same numbers c.part).input };
      })

  -- what a connection sends acknowledges all that it accepted
  pub sends_taken : (d : Connection) (step : Step) (x : PlainSegment) → segment_of m d step ≡ Some x → has_rst x.flags ≡ false → x.ack ≡ rcv_nxt d
  sends_taken d Step.Drop x e n = absurd (cc)
  sends_taken d Step.Ack x e n = only_some (λ (y : PlainSegment). y.ack ≡ rcv_nxt d) _ x e refl
  sends_taken d (Step.SynAck again) x e n = only_some (λ (y : PlainSegment). y.ack ≡ rcv_nxt d) _ x e refl
  sends_taken d (Step.Text again) x e n = only_some (λ (y : PlainSegment). y.ack ≡ rcv_nxt d) _ x e refl
  sends_taken d (Step.Fin again) x e n = only_some (λ (y : PlainSegment). y.ack ≡ rcv_nxt d) _ x e refl
  sends_taken d Step.Reset x e n = only_some (λ (y : PlainSegment). y.ack ≡ rcv_nxt d) _ x e refl
  sends_taken d (Step.Ask fresh) x e n = absurd (cc)
