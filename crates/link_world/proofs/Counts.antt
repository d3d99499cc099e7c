-- The progress of a client: what its step does to what it accepted and to RCV.NXT. No premise on the server.
use Rattle.link_world.proofs.Prelude.{◌≡◌, ℕ, ◌+◌, Bool, true, false, not, ◌&&◌, ◌++◌, length, refl, sym, ap, ◌∙◌, Some, eqb, if◌then◌else◌}
use Rattle.link_world.proofs.Prelude.{wrap, PlainSegment, has_syn, has_fin, has_rst, has_ack, occupies_sequence_space, AbstractClient}
use Rattle.link_world.proofs.Prelude.{ClientStep, ack_of, after_fin, client_aborts, client_again, client_closes, client_opens, client_takes}
use Rattle.link_world.proofs.Prelude.{has_closed, has_outstanding, receives_ack, is_receiving, is_reset_by, keeps, next_own, one_if}
use Rattle.link_world.proofs.Prelude.{opened_by, own_fin, own_first, own_request, own_reset, sends_next, steps_with, syn_of, takes_by}
use Rattle.link_world.proofs.Prelude.{takes_in_order, takes_text, ClientState, becomes_opened, choose, and_true, only_some, eqb-eq}
use Rattle.link_world.proofs.Prelude.{not-false}
use Rattle.link_client.specs.declared.client_state.ClientState.TheVariants as Is
use Rattle.link_world.proofs.ClientCases.{of_aborts, of_again, of_closes, of_opens, of_sends}

-- how many numbers after the server's SYN it took: the text, and the FIN
abbrev pub count : AbstractClient → ℕ
count c = length c.received + one_if (has_closed c.state)

abbrev pub Acks : ClientStep → Type 0
Acks t = (x : PlainSegment) → t.sent ≡ Some x → has_rst x.flags ≡ false → has_ack x.flags ≡ true → x.ack ≡ t.client.expected

record Sends (c : AbstractClient) (t : ClientStep) : Type 0 where
  received : t.client.received ≡ c.received
  expected : t.client.expected ≡ c.expected
  state : t.client.state ≡ c.state
  acks : Acks t

sends_counts : (owed : Bool) (c : AbstractClient) → Sends c (sends_next owed c)
sends_counts owed c =
    of_sends (λ x. Sends c x) c owed record { received = refl; expected = refl; state = refl; acks = λ x p n a. absurd (cc) }
    record { received = refl; expected = refl; state = refl; acks = λ x p n a. only_some (λ (y : PlainSegment). y.ack ≡ c.expected) (ack_of c) x p refl }
    (λ o r. record { received = refl; expected = refl; state = refl; acks = λ x p n a. only_some (λ (y : PlainSegment). y.ack ≡ c.expected) _ x p refl })
    (λ o m n. record {
      received = refl;
      expected = refl;
      state = refl;
      acks = λ x p n a. only_some (λ (y : PlainSegment). y.ack ≡ c.expected) (own_fin c) x p refl;
    })

pub same_becomes : (st : ClientState) → becomes_opened st st ≡ false
same_becomes Is.Idle = refl
same_becomes _ = refl

pub reset_becomes : (st : ClientState) → becomes_opened st Is.Reset ≡ false
reset_becomes Is.Idle = refl
reset_becomes _ = refl

-- what a segment does to the counts
pub data Kind (client : AbstractClient) (s : PlainSegment) (d : AbstractClient) : Type 0 where
  kept : d.received ≡ client.received → d.expected ≡ client.expected → has_closed d.state ≡ has_closed client.state
      → becomes_opened client.state d.state ≡ false → Kind client s d
  took_text : s.seq ≡ client.expected → is_receiving client.state ≡ true → has_rst s.flags ≡ false → occupies_sequence_space s ≡ true
      → d.received ≡ client.received ++ s.text →
      d.expected ≡ wrap (client.expected + length s.text + one_if (has_fin s.flags)) → has_closed d.state ≡ has_fin s.flags → Kind client s d
  took_open : client.state ≡ Is.Opening → has_rst s.flags ≡ false → has_syn s.flags ≡ true → d.received ≡ client.received
      → d.expected ≡ wrap (s.seq + 1) → has_closed d.state ≡ false → Kind client s d

pub record Counted (client : AbstractClient) (s : PlainSegment) (t : ClientStep) : Type 0 where
  pub kind : Kind client s t.client
  pub acks : Acks t

done_after : (st : ClientState) (fin : Bool) → is_receiving st ≡ true → has_closed (if fin then after_fin st else st) ≡ fin
done_after Is.Idle fin h = absurd (cc)
done_after Is.Opening fin h = absurd (cc)
done_after Is.Opened true h = refl
done_after Is.Opened false h = refl
done_after Is.Closing true h = refl
done_after Is.Closing false h = refl
done_after _ fin h = absurd (cc)

keeps_counted : (client d : AbstractClient) (s : PlainSegment) → d.received ≡ client.received → d.expected ≡ client.expected
    → has_closed d.state ≡ has_closed client.state → becomes_opened client.state d.state ≡ false → Counted client s (keeps d)
keeps_counted client d s r e k b = record { kind = kept r e k b; acks = λ x p n a. absurd (cc) }

on_counted : (owed : Bool) (client c : AbstractClient) (s : PlainSegment) → Kind client s c → Counted client s (sends_next owed c)
on_counted owed client c s k =
    let g = sends_counts owed c in
    record { acks = g.acks; kind = go k g }
  where
    go : Kind client s c → Sends c (sends_next owed c) → Kind client s (sends_next owed c).client
    go (kept r e d b) g = kept (g.received ∙ r) (g.expected ∙ e) (ap has_closed g.state ∙ d) (ap (λ x. becomes_opened client.state x) g.state ∙ b)
    go (took_text q i n p r e d) g = took_text q i n p (g.received ∙ r) (g.expected ∙ e) (ap has_closed g.state ∙ d)
    go (took_open q n y r e d) g = took_open q n y (g.received ∙ r) (g.expected ∙ e) (ap has_closed g.state ∙ d)

record Same (c d : AbstractClient) : Type 0 where
  received : d.received ≡ c.received
  expected : d.expected ≡ c.expected
  state : d.state ≡ c.state

receives_same : (c : AbstractClient) (s : PlainSegment) → Same c (receives_ack c s)
receives_same c s = choose (λ x. Same c x) (has_ack s.flags && (has_outstanding c && eqb s.ack (next_own c))) _ _
    (λ e. record { received = refl; expected = refl; state = refl }) (λ e. record { received = refl; expected = refl; state = refl })

in_order_counted : (client : AbstractClient) (s : PlainSegment) → has_rst s.flags ≡ false → Counted client s (takes_in_order (receives_ack client s) s)
unfolding takes_in_order
in_order_counted client s nr =
    let c : AbstractClient = receives_ack client s in
    let h : Same client c = receives_same client s in
    let k : Kind client s c = kept h.received h.expected (ap has_closed h.state) (ap (λ x. becomes_opened client.state x) h.state
    ∙ same_becomes client.state) in
    choose (λ x. Counted client s x) (has_syn s.flags) _ _ (λ e. on_counted true client c s k)
    (λ e. choose (λ x. Counted client s x) (not (occupies_sequence_space s)) _ _ (λ f. on_counted false client c s k)
    (λ f. choose (λ x. Counted client s x) (eqb s.seq c.expected && is_receiving c.state) _ _
    (λ g. let a = and_true (eqb s.seq c.expected) (is_receiving c.state) g in
    on_counted true client (takes_text c s) s
    (took_text (eqb-eq s.seq c.expected a.0 ∙ h.expected) (ap is_receiving (sym h.state) ∙ a.1) nr (not-false (occupies_sequence_space s) f)
    (ap (λ l. l ++ s.text) h.received)
    (ap (λ n. wrap (n + length s.text + one_if (has_fin s.flags))) h.expected) (done_after c.state (has_fin s.flags) a.1)))
    (λ g. on_counted true client c s k)))

takes_counted : (st : ClientState) (client : AbstractClient) (s : PlainSegment) → client.state ≡ st → has_rst s.flags ≡ false
    → Counted client s (takes_by st client s)
unfolding takes_by
takes_counted Is.Idle client s st nr = keeps_counted client client s refl refl refl (same_becomes client.state)
takes_counted Is.Reset client s st nr = keeps_counted client client s refl refl refl (same_becomes client.state)
takes_counted Is.Opening client s st nr =
    choose (λ x. Counted client s x) (has_syn s.flags && (has_ack s.flags && eqb s.ack (wrap (own_first client + 1)))) _ _
    (λ e. on_counted true client (opened_by client s) s
    (took_open st nr (and_true (has_syn s.flags) (has_ack s.flags && eqb s.ack (wrap (own_first client + 1))) e).0 refl refl refl))
    (λ e. keeps_counted client client s refl refl refl (same_becomes client.state))
takes_counted Is.Opened client s st nr = in_order_counted client s nr
takes_counted _ client s st nr = in_order_counted client s nr

reset_done : (c : AbstractClient) (s : PlainSegment) (st : ClientState) → is_reset_by st c s ≡ true → false ≡ has_closed st
reset_done c s Is.Idle h = refl
reset_done c s Is.Opening h = refl
reset_done c s Is.Opened h = refl
reset_done c s Is.Closing h = refl
reset_done c s Is.Closed h = absurd (cc)
reset_done c s Is.Ended h = absurd (cc)
reset_done c s Is.Reset h = refl

pub client_counted : (client : AbstractClient) (s : PlainSegment) → Counted client s (client_takes client s)
unfolding client_takes
client_counted client s =
    choose (λ x. Counted client s x) (has_rst s.flags) _ _
    (λ r. choose (λ x. Counted client s (keeps x)) (is_reset_by client.state client s) _ _
    (λ b. keeps_counted client (record client { state = Is.Reset }) s refl refl (reset_done client s client.state b) (reset_becomes client.state))
    (λ b. keeps_counted client client s refl refl refl (same_becomes client.state)))
    (λ r. takes_counted client.state client s refl r)

-- its own acts leave the counts
pub record Idles (client : AbstractClient) (t : ClientStep) : Type 0 where
  pub received : t.client.received ≡ client.received
  pub expected : t.client.expected ≡ client.expected
  pub done : has_closed t.client.state ≡ has_closed client.state
  pub same : becomes_opened client.state t.client.state ≡ false
  pub acks : Acks t

idles_with : (client : AbstractClient) (s : PlainSegment) → s.ack ≡ client.expected → Idles client (steps_with client s)
idles_with client s e = record {
  received = refl;
  expected = refl;
  done = refl;
  same = same_becomes client.state;
  acks = λ x p n a. only_some (λ (y : PlainSegment). y.ack ≡ client.expected) s x p e;
}

pub idles_quiet : (client d : AbstractClient) → d.received ≡ client.received → d.expected ≡ client.expected
    → has_closed d.state ≡ has_closed client.state → becomes_opened client.state d.state ≡ false → Idles client (keeps d)
idles_quiet client d r e k b = record { received = r; expected = e; done = k; same = b; acks = λ x p n a. absurd (cc) }

stays_quiet : (client : AbstractClient) → Idles client (keeps client)
stays_quiet client = idles_quiet client client refl refl refl (same_becomes client.state)

syn_idles : (client d : AbstractClient) → d.received ≡ client.received → d.expected ≡ client.expected
    → has_closed d.state ≡ has_closed client.state → becomes_opened client.state d.state ≡ false → Idles client (steps_with d (syn_of d))
syn_idles client d r e k b = record {
  received = r;
  expected = e;
  done = k;
  same = b;
  acks = λ x p n a. absurd (only_some (λ (y : PlainSegment). has_ack y.flags ≡ true → ⊥) (syn_of d) x p (λ z. absurd (cc)) a);
}

reset_idles : (client : AbstractClient) → false ≡ has_closed client.state → Idles client (steps_with (record client { state = Is.Reset }) (own_reset client))
reset_idles client k = record {
  received = refl;
  expected = refl;
  done = k;
  same = reset_becomes client.state;
  acks = λ x p n a. absurd (only_some (λ (y : PlainSegment). has_rst y.flags ≡ false → ⊥) (own_reset client) x p (λ z. absurd (cc)) n);
}

pub opens_idles : (client : AbstractClient) → Idles client (client_opens client)
opens_idles client =
    of_opens (λ x. Idles client x) client (stays_quiet client)
    (λ e. syn_idles client (record client { state = Is.Opening }) refl refl (ap has_closed (sym e)) (ap (λ x. becomes_opened x Is.Opening) e))

pub again_idles : (client : AbstractClient) → Idles client (client_again client)
again_idles client =
    of_again (λ x. Idles client x) client (stays_quiet client) (syn_idles client client refl refl refl (same_becomes client.state))
    (idles_with client (own_request client) refl) (λ f. idles_with client (own_fin client) refl)
    (idles_with client (ack_of client) refl)

pub closes_idles : (client : AbstractClient) → Idles client (client_closes client)
closes_idles client =
    of_closes (λ x. Idles client x) client (stays_quiet client)
    (λ e. (let c : AbstractClient = record client { state = Is.Closing } in
    let g = sends_counts false c in
    record {
      received = g.received;
      expected = g.expected;
      done = ap has_closed g.state ∙ ap has_closed (sym e);
      same = ap (λ x. becomes_opened client.state x) g.state ∙ ap (λ x. becomes_opened x Is.Closing) e;
      acks = g.acks;
    }))

pub aborts_idles : (client : AbstractClient) → Idles client (client_aborts client)
aborts_idles client = of_aborts (λ x. Idles client x) client (stays_quiet client) (λ e. reset_idles client (sym e))
