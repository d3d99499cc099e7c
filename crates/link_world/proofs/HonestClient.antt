-- A client at the other end of a link that loses nothing: what it does at each segment of the node.
use Rattle.link_world.proofs.Prelude.{◌≡◌, ℕ, ◌+◌, ◌-◌, ◌<◌, ◌≤◌, min, Bool, true, false, if◌then◌else◌, not, ◌&&◌, ◌||◌, inl, inr, List}
use Rattle.link_world.proofs.Prelude.{[], ◌++◌, length, take, drop, refl, sym, ap, ◌∙◌, subst, arith, Some, None, eqb, ltb, le-ltb, lt-ltb}
use Rattle.link_world.proofs.Prelude.{cases_lt, eq-eqb, wrap, FIN, SYN, PSH, ACK, PlainSegment, has_fin, has_rst, has_ack}
use Rattle.link_world.proofs.Prelude.{occupies_sequence_space, AbstractClient, ClientStep, sends_next, receives_ack, takes_text}
use Rattle.link_world.proofs.Prelude.{takes_in_order, takes_by, client_takes, own_request, ack_of, own_fin, next_own, has_outstanding}
use Rattle.link_world.proofs.Prelude.{keeps, ClientState, Opening, Opened, FinAt, Setup, zero_or_more, ltb-yes, choose}
use Rattle.link_client.specs.Client as client
use Rattle.link_client.specs.declared.client_state.ClientState.TheVariants.{Closed}

module _ (setup : Setup) (request : List ℕ) where
  -- a client of the plan, at some point of its life
  abbrev pub client_at : ClientState → List ℕ → ℕ → ℕ → FinAt → ℕ → AbstractClient
  client_at state received acked out fin expected = record {
    setup = setup;
    request = request;
    state = state;
    received = received;
    acked = acked;
    out = out;
    fin = fin;
    expected = expected;
    window = 65535;
  }

  -- the part of its request that it sends next
  abbrev pub next_out : ℕ → ℕ
  next_out acked = min setup.seg (length request - acked)

  -- A segment of an open client: it acknowledges x, and brings the next part of the request, or nothing where none is left.
  pub record Brings (acked x : ℕ) (s : PlainSegment) : Type 0 where
    pub no_rst : has_rst s.flags ≡ false
    pub no_fin : has_fin s.flags ≡ false
    pub is_ack : has_ack s.flags ≡ true
    pub window : s.window ≡ 65535
    pub ack : s.ack ≡ x
    pub text : s.text ≡ take (next_out acked) (drop acked request)
    pub seq : occupies_sequence_space s ≡ true → s.seq ≡ wrap (setup.iss.0 + 1 + acked)

  pub record SendsNext (step : ClientStep) (received : List ℕ) (acked x : ℕ) : Type 0 where
    pub segment : PlainSegment
    pub is : step ≡ record { client = client_at Opened received acked (next_out acked) FinAt.NotSent x; sent = Some segment }
    pub decodes : Brings acked x segment

  next_none : (a : ℕ) → length request ≤ a → next_out a ≡ 0
  next_none a h = omega (arith, h)

  abbrev pub open_with : List ℕ → ℕ → ℕ → ℕ → AbstractClient
  open_with received a out x = client_at Opened received a out FinAt.NotSent x

  abbrev part_step : List ℕ → ℕ → ℕ → ClientStep
  part_step received a x = client.steps_with (open_with received a (next_out a) x) (own_request (open_with received a (next_out a) x))

  abbrev owed_step : Bool → List ℕ → ℕ → ℕ → ClientStep
  owed_step owed received a x = if owed then client.steps_with (open_with received a 0 x) (ack_of (open_with received a 0 x)) else keeps
      (open_with received a 0 x)

  by_rest : (owed : Bool) (received : List ℕ) (a x : ℕ) → sends_next owed (open_with received a 0 x)
      ≡ (if ltb a (length request) then part_step received a x else owed_step owed received a x)
  unfolding sends_next
  by_rest owed received a x = refl

  pub sends_part : (owed : Bool) (received : List ℕ) (a x : ℕ) → a < length request → SendsNext (sends_next owed (open_with received a 0 x)) received a x
  sends_part owed received a x h = record {
    segment = own_request (open_with received a (next_out a) x);
    is = by_rest owed received a x ∙ ap (λ b. if b then part_step received a x else owed_step owed received a x) (lt-ltb a (length request) h);
    decodes = record { no_rst = refl; no_fin = refl; is_ack = refl; window = refl; ack = refl; text = refl; seq = λ p. refl };
  }

  sends_ack : (received : List ℕ) (a x : ℕ) → length request ≤ a → SendsNext (sends_next true (open_with received a 0 x)) received a x
  sends_ack received a x h = record {
    segment = ack_of (open_with received a 0 x);
    is = by_rest true received a x
        ∙ ap (λ b. if b then part_step received a x else owed_step true received a x) (le-ltb a (length request) h)
        ∙ ap (λ n. client.steps_with (open_with received a n x) (ack_of (open_with received a 0 x))) (sym (next_none a h));
    decodes = record {
      no_rst = refl;
      no_fin = refl;
      is_ack = refl;
      window = refl;
      ack = refl;
      text = sym (ap (λ n. take n (drop a request)) (next_none a h));
      seq = λ p. absurd (cc);
    };
  }

  pub sends_something : (received : List ℕ) (a x : ℕ) → SendsNext (sends_next true (open_with received a 0 x)) received a x
  sends_something received a x = elim (cases_lt a (length request)) [ inl h ↦ sends_part true received a x h | inr h ↦ sends_ack received a x h ]

  -- The segments of the node. Its SYN-ACK opens the client.
  abbrev pub node_syn_ack : ℕ → ℕ → PlainSegment
  node_syn_ack seq ack = record { seq = seq; ack = ack; flags = SYN + ACK; window = 1460; mss = Some 1460; text = [] }

  abbrev pub node_sends : ℕ → ℕ → ℕ → List ℕ → PlainSegment
  node_sends flags seq ack text = record { seq = seq; ack = ack; flags = flags; window = 1460; mss = None; text = text }

  pub opens_at_syn_ack : (seq ack : ℕ) → ack ≡ wrap (setup.iss.0 + 1) →
      client_takes (client_at Opening [] 0 0 FinAt.NotSent 0) (node_syn_ack seq ack) ≡ sends_next true (open_with [] 0 0 (wrap (seq + 1)))
  unfolding client_takes takes_by
  opens_at_syn_ack seq ack e = ap (λ b. if b then sends_next true (open_with [] 0 0 (wrap (seq + 1))) else keeps
      (client_at Opening [] 0 0 FinAt.NotSent 0)) (eq-eqb ack (wrap (setup.iss.0 + 1)) e)

  all_three : (a b c : Bool) → a ≡ true → b ≡ true → c ≡ true → a && ((b || false) && c) ≡ true
  all_three true true c e f g = g
  all_three true false c e f g = absurd (cc)
  all_three false b c e f g = absurd (cc)

  -- all that is outstanding is acknowledged
  accepts_all : (received : List ℕ) (a o x : ℕ) (s : PlainSegment) → has_ack s.flags ≡ true → s.ack ≡ wrap (setup.iss.0 + 1 + (a + o))
      → receives_ack (open_with received a o x) s ≡ open_with received (a + o) 0 x
  accepts_all received a o x s h e =
      let c : AbstractClient = open_with received a o x in
      let after : AbstractClient = open_with received (a + o) 0 x in
      let all : Bool = has_ack s.flags && (has_outstanding c && eqb s.ack (next_own c)) in
      elim (zero_or_more o) [
        | inl z ↦ choose (λ (d : AbstractClient). d ≡ after) all after c (λ y. refl)
            (λ n. ap (λ k. open_with received a k x) z ∙ ap (λ k. open_with received k 0 x) (let y : a ≡ a + o = omega (arith, z) in y))
        | inr p ↦ ap (λ b. if b then after else c)
            (all_three (has_ack s.flags) (ltb 0 o) (eqb s.ack (next_own c)) h (ltb-yes o p) (eq-eqb s.ack (next_own c) (e ∙ ap wrap (omega arith))))
      ]

  -- a bare ACK, while parts of the request are left
  pub goes_on_at_ack : (received : List ℕ) (a o x seq ack : ℕ) → ack ≡ wrap (setup.iss.0 + 1 + (a + o)) → a + o < length request →
      SendsNext (client_takes (open_with received a o x) (node_sends ACK seq ack [])) received (a + o) x
  unfolding client_takes takes_by takes_in_order
  goes_on_at_ack received a o x seq ack e h =
      subst (λ (c : AbstractClient). SendsNext (sends_next false c) received (a + o) x)
      (sym (accepts_all received a o x (node_sends ACK seq ack []) refl e)) (sends_part false received (a + o) x h)

  -- text at the expected number
  pub takes_a_text : (received : List ℕ) (a o x seq ack : ℕ) (text : List ℕ) → ack ≡ wrap (setup.iss.0 + 1 + (a + o)) → seq ≡ x → 0 < length text →
      SendsNext (client_takes (open_with received a o x) (node_sends (ACK + PSH) seq ack text)) (received ++ text) (a + o) (wrap (x + length text + 0))
  unfolding client_takes takes_by takes_in_order
  takes_a_text received a o x seq ack text e f h =
      let s : PlainSegment = node_sends (ACK + PSH) seq ack text in
      let placed : not (occupies_sequence_space s) ≡ false = ap (λ b. not (b || false)) (ltb-yes (length text) h) in
      let in_order : eqb seq x && true ≡ true = ap (λ b. b && true) (eq-eqb seq x f) in
      let P : ClientStep → Type 0 = λ r. SendsNext r (received ++ text) (a + o) (wrap (x + length text + 0)) in
      subst (λ (c : AbstractClient). P (if not (occupies_sequence_space s) then sends_next false c else
      (if eqb seq c.expected && client.is_receiving c.state then sends_next true (takes_text c s) else sends_next true c)))
      (sym (accepts_all received a o x s refl e))
      (choose P (not (occupies_sequence_space s)) _ _ (λ y. absurd (cc))
      (λ n. choose P (eqb seq x && true) _ _ (λ y. sends_something (received ++ text) (a + o) (wrap (x + length text + 0))) (λ y. absurd (cc))))

  -- the FIN at the expected number
  abbrev pub closed_with : List ℕ → ℕ → ℕ → AbstractClient
  closed_with received a x = client_at Closed received a 0 FinAt.Out x

  pub takes_the_fin : (received : List ℕ) (a o x seq ack : ℕ) → ack ≡ wrap (setup.iss.0 + 1 + (a + o)) → seq ≡ x →
      client_takes (open_with received a o x) (node_sends (FIN + ACK) seq ack [])
      ≡ client.steps_with (closed_with (received ++ []) (a + o) (wrap (x + 0 + 1))) (own_fin (closed_with (received ++ []) (a + o) (wrap (x + 0 + 1))))
  unfolding client_takes takes_by takes_in_order sends_next
  takes_the_fin received a o x seq ack e f =
      let s : PlainSegment = node_sends (FIN + ACK) seq ack [] in
      let d : AbstractClient = open_with received (a + o) 0 x in
      ap (λ (c : AbstractClient). if eqb seq c.expected && client.is_receiving c.state then sends_next true (takes_text c s) else sends_next
      true c) (accepts_all received a o x s refl e)
      ∙ ap (λ b. if b && true then sends_next true (takes_text d s) else sends_next true d) (eq-eqb seq x f)

  -- the ACK of its own FIN
  pub record Rests (step : ClientStep) : Type 0 where
    pub client : AbstractClient
    pub is : step ≡ record { client = client; sent = None }
    pub closed : client.state ≡ Closed

  pub rests_at_ack : (received : List ℕ) (a x seq ack : ℕ) → Rests (client_takes (closed_with received a x) (node_sends ACK seq ack []))
  unfolding client_takes takes_by takes_in_order sends_next
  rests_at_ack received a x seq ack =
      let c : AbstractClient = closed_with received a x in
      choose (λ (d : AbstractClient). Rests (sends_next false d)) (has_ack ACK && (has_outstanding c && eqb ack (next_own c)))
      (client_at Closed received (a + 0) 0 FinAt.Acked x) c
      (λ y. record { client = client_at Closed received (a + 0) 0 FinAt.Acked x; is = refl; closed = refl })
      (λ n. record { client = c; is = refl; closed = refl })
