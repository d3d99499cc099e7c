-- A fact about a step of a client by its cases: each walk is made once, for every law.
use Rattle.link_world.proofs.Prelude.{◌≡◌, ◌+◌, ◌-◌, min, Bool, true, false, not, ◌&&◌, length, refl, ap, eqb, ltb, wrap, PlainSegment}
use Rattle.link_world.proofs.Prelude.{has_syn, has_rst, has_ack, occupies_sequence_space, AbstractClient, ClientStep, ack_of, again_by}
use Rattle.link_world.proofs.Prelude.{aborts_by, client_again, client_aborts, client_closes, client_opens, client_takes, closes_by, fin_out}
use Rattle.link_world.proofs.Prelude.{fin_sent, has_closed, has_outstanding, receives_ack, is_receiving, is_reset_by, keeps, may_finish}
use Rattle.link_world.proofs.Prelude.{opened_by, opens_by, own_fin, own_first, own_request, own_reset, sends_next, steps_with, syn_of}
use Rattle.link_world.proofs.Prelude.{takes_by, takes_in_order, takes_text, ClientState, FinAt, and_true, choose, not-true}
use Rattle.link_client.specs.declared.client_state.ClientState.TheVariants as Is

module _ (P : ClientStep → Type 0) (c : AbstractClient) where
  -- what it sends next: request bytes, its FIN, a bare ACK, or nothing
  pub of_sends : (owed : Bool) → P (keeps c) → P (steps_with c (ack_of c))
      → (let d : AbstractClient = record c { out = min c.setup.seg (length c.request - c.acked) } in not (has_outstanding c) ≡ true
      → is_receiving c.state ≡ true → P (steps_with d (own_request d)))
      → (not (has_outstanding c) ≡ true → may_finish c.state ≡ true → fin_sent c.fin ≡ false
      → P (steps_with (record c { fin = FinAt.Out }) (own_fin c))) → P (sends_next owed c)
  unfolding sends_next
  of_sends owed kept ack request fin =
      choose P (not (has_outstanding c) && (is_receiving c.state && ltb c.acked (length c.request))) _ _
      (λ e. (let x = and_true (not (has_outstanding c)) (is_receiving c.state && ltb c.acked (length c.request)) e in
      request x.0 (and_true (is_receiving c.state) (ltb c.acked (length c.request)) x.1).0))
      (λ e. choose P (not (has_outstanding c) && (may_finish c.state && not (fin_sent c.fin))) _ _
      (λ f. (let x = and_true (not (has_outstanding c)) (may_finish c.state && not (fin_sent c.fin)) f in
      let y = and_true (may_finish c.state) (not (fin_sent c.fin)) x.1 in
      fin x.0 y.0 (not-true (fin_sent c.fin) y.1)))
      (λ f. choose P owed _ _ (λ g. ack) (λ g. kept)))

  -- a segment in its order: its text is accepted, or it is answered, or nothing is sent
  pub of_order : (s : PlainSegment) → P (sends_next true c) → P (sends_next false c) → (eqb s.seq c.expected && is_receiving c.state ≡ true
      → P (sends_next true (takes_text c s))) → P (takes_in_order c s)
  unfolding takes_in_order
  of_order s answers sends_on takes =
      choose P (has_syn s.flags) _ _ (λ e. answers)
      (λ e. choose P (not (occupies_sequence_space s)) _ _ (λ f. sends_on) (λ f. choose P (eqb s.seq c.expected && is_receiving c.state) _ _
      takes (λ g. answers)))

  by_takes : (st : ClientState) (s : PlainSegment) → c.state ≡ st → P (keeps c)
      → (c.state ≡ Is.Opening → has_syn s.flags && (has_ack s.flags && eqb s.ack (wrap (own_first c + 1))) ≡ true → P (sends_next true (opened_by c s)))
      → P (takes_in_order (receives_ack c s) s) → P (takes_by st c s)
  unfolding takes_by
  by_takes Is.Idle s e kept opens delivers_text = kept
  by_takes Is.Reset s e kept opens delivers_text = kept
  by_takes Is.Opening s e kept opens delivers_text = choose P (has_syn s.flags && (has_ack s.flags && eqb s.ack (wrap (own_first c + 1)))) _
      _ (λ f. opens e f) (λ f. kept)
  by_takes _ s e kept opens delivers_text = delivers_text

  -- a segment: it resets the client, or opens it, or the client receives it
  pub of_takes : (s : PlainSegment) → P (keeps c) → (is_reset_by c.state c s ≡ true → P (keeps (record c { state = Is.Reset })))
      → (c.state ≡ Is.Opening → has_rst s.flags ≡ false → has_syn s.flags && (has_ack s.flags && eqb s.ack (wrap (own_first c + 1))) ≡ true
      → P (sends_next true (opened_by c s)))
      → (has_rst s.flags ≡ false → P (takes_in_order (receives_ack c s) s)) → P (client_takes c s)
  unfolding client_takes
  of_takes s kept reset opens delivers_text =
      choose P (has_rst s.flags) _ _ (λ r. choose (λ x. P (keeps x)) (is_reset_by c.state c s) _ _ reset (λ b. kept))
      (λ r. by_takes c.state s refl kept (λ e f. opens e r f) (delivers_text r))

  -- ---- its own acts

  by_opens : (st : ClientState) → c.state ≡ st → P (keeps c)
      → (c.state ≡ Is.Idle → (let d : AbstractClient = record c { state = Is.Opening } in P (steps_with d (syn_of d)))) → P (opens_by st c)
  unfolding opens_by
  by_opens Is.Idle e kept syn = syn e
  by_opens _ e kept syn = kept

  pub of_opens : P (keeps c) → (c.state ≡ Is.Idle → (let d : AbstractClient = record c { state = Is.Opening } in
      P (steps_with d (syn_of d)))) → P (client_opens c)
  of_opens kept syn = by_opens c.state refl kept syn

  data_again : P (steps_with c (own_request c)) → (fin_out c.fin ≡ true → P (steps_with c (own_fin c))) → P (steps_with c (ack_of c)) → P (again_by Is.Opened c)
  unfolding again_by
  data_again request fin ack = choose P (ltb 0 c.out) _ _ (λ e. request) (λ e. choose P (fin_out c.fin) _ _ fin (λ f. ack))

  by_again : (st : ClientState) → P (keeps c) → P (steps_with c (syn_of c)) → P (again_by Is.Opened c) → P (again_by st c)
  unfolding again_by
  by_again Is.Idle kept syn more = kept
  by_again Is.Reset kept syn more = kept
  by_again Is.Opening kept syn more = syn
  by_again _ kept syn more = more

  pub of_again : P (keeps c) → P (steps_with c (syn_of c)) → P (steps_with c (own_request c))
      → (fin_out c.fin ≡ true → P (steps_with c (own_fin c))) → P (steps_with c (ack_of c)) → P (client_again c)
  of_again kept syn request fin ack = by_again c.state kept syn (data_again request fin ack)

  by_closes : (st : ClientState) → c.state ≡ st → P (keeps c)
      → (c.state ≡ Is.Opened → P (sends_next false (record c { state = Is.Closing }))) → P (closes_by st c)
  unfolding closes_by
  by_closes Is.Opened e kept next = next e
  by_closes _ e kept next = kept

  pub of_closes : P (keeps c) → (c.state ≡ Is.Opened → P (sends_next false (record c { state = Is.Closing }))) → P (client_closes c)
  of_closes kept next = by_closes c.state refl kept next

  by_aborts : (st : ClientState) → c.state ≡ st → P (keeps c)
      → (has_closed c.state ≡ false → P (steps_with (record c { state = Is.Reset }) (own_reset c))) → P (aborts_by st c)
  unfolding aborts_by
  by_aborts Is.Opening e kept reset = reset (ap has_closed e)
  by_aborts Is.Opened e kept reset = reset (ap has_closed e)
  by_aborts Is.Closing e kept reset = reset (ap has_closed e)
  by_aborts _ e kept reset = kept

  pub of_aborts : P (keeps c) → (has_closed c.state ≡ false → P (steps_with (record c { state = Is.Reset }) (own_reset c))) → P (client_aborts c)
  of_aborts kept reset = by_aborts c.state refl kept reset
