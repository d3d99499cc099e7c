-- Every segment that a client sends fits its fields, and its text is bytes that fit a datagram.
use Rattle.link_world.proofs.Prelude.{All, ◌≡◌, ℕ, ◌+◌, ◌-◌, ◌<◌, ◌≤◌, min, Bool, true, false, ◌&&◌, inl, inr, [], length, take, drop, refl}
use Rattle.link_world.proofs.Prelude.{arith, Option, Some, None, IfSome, eqb, length-take, common_steps, All-take, All-drop, wrap}
use Rattle.link_world.proofs.Prelude.{PlainSegment, has_ack, IsByte, IsAddr, ClientState, choose, only_some, wrap_low, all_nil}
use Rattle.link_world.proofs.Prelude.{IsSoundSegment}
use Rattle.link_client.specs.Client.{AbstractClient, ClientStep, ack_of, client_aborts, client_again, client_closes, client_opens}
use Rattle.link_client.specs.Client.{client_takes, has_outstanding as client_waits, receives_ack, keeps, next_own, offered, opened_by}
use Rattle.link_client.specs.Client.{own_first, own_request, sends_next, syn_of, takes_in_order, takes_text}
use Rattle.link_client.specs.Client as client
use Rattle.link_client.specs.declared.client_state.ClientState.TheVariants as Is
use Rattle.link_world.proofs.ClientCases.{of_aborts, of_again, of_closes, of_opens, of_order, of_sends, of_takes}

-- A client whose numbers fit their fields.
pub record IsSoundClient (c : AbstractClient) : Type 0 where
  pub addr : IsAddr c.setup.addr
  pub port : c.setup.port.0 < 65536
  pub server : IsAddr c.setup.server
  pub server_port : c.setup.server_port.0 < 65536
  pub iss : own_first c < 4294967296
  pub offered : c.setup.mss < 65536
  pub seg : c.setup.seg ≤ 1460
  pub request : All IsByte c.request
  pub expected : c.expected < 4294967296
  pub window : c.window < 65536
  pub out : c.out ≤ 1460

pub record SoundStep (x : ClientStep) : Type 0 where
  pub client : IsSoundClient x.client
  pub output : (s : PlainSegment) → x.sent ≡ Some s → IsSoundSegment s

kept : (c : AbstractClient) → IsSoundClient c → SoundStep (keeps c)
kept c h = record { client = h; output = λ s e. absurd (cc) }

given : (c : AbstractClient) (s : PlainSegment) → IsSoundClient c → IsSoundSegment s → SoundStep (client.steps_with c s)
given c s h g = record { client = h; output = λ x e. only_some (λ y. IsSoundSegment y) s x e g }

plain : (seq ack flags window : ℕ) → seq < 4294967296 → ack < 4294967296 → flags < 64 → window < 65536
    → IsSoundSegment (record { seq = seq; ack = ack; flags = flags; window = window; mss = None; text = [] })
plain seq ack flags window a b f w = record { seq = a; ack = b; flags = f; window = w; mss = tt; short = omega arith; alone = inr refl; text = all_nil IsByte }

request_sound : (c : AbstractClient) → IsSoundClient c → IsSoundSegment (own_request c)
request_sound c h = record {
  seq = wrap_low _;
  ack = h.expected;
  flags = omega arith;
  window = h.window;
  mss = tt;
  short = (let e : length (take c.out (drop c.acked c.request)) ≤ c.out = simp length-take (omega arith) in omega (arith, e, h.out));
  alone = inl refl;
  text = All-take IsByte c.out (drop c.acked c.request) (All-drop IsByte c.acked c.request h.request);
}

not_zero : (w : ℕ) → eqb w 0 ≡ false → 0 < w
not_zero w h = grind (arith, common_steps)

syn_sound : (c : AbstractClient) → IsSoundClient c → IsSoundSegment (syn_of c)
syn_sound c h = record {
  seq = h.iss;
  ack = omega arith;
  flags = omega arith;
  window = h.window;
  mss = choose (λ (x : Option ℕ). IfSome x (λ n. (0 < n) × (n < 65536))) (eqb c.setup.mss 0) _ _ (λ e. tt) (λ e. (not_zero c.setup.mss e, h.offered));
  short = omega arith;
  alone = inr refl;
  text = all_nil IsByte;
}

ack_sound : (c : AbstractClient) → IsSoundClient c → IsSoundSegment (ack_of c)
ack_sound c h = plain (next_own c) c.expected 16 c.window (wrap_low _) h.expected (omega arith) h.window

end_sound : (c : AbstractClient) → IsSoundClient c → IsSoundSegment (client.own_fin c)
end_sound c h = plain (wrap (own_first c + 1 + c.acked + c.out)) c.expected 17 c.window (wrap_low _) h.expected (omega arith) h.window

abort_sound : (c d : AbstractClient) → IsSoundClient c → IsSoundSegment (client.own_reset c)
abort_sound c d h = plain (next_own c) c.expected 20 c.window (wrap_low _) h.expected (omega arith) h.window

sends_sound : (owed : Bool) (c : AbstractClient) → IsSoundClient c → SoundStep (sends_next owed c)
sends_sound owed c h =
    let d : AbstractClient = record c { out = min c.setup.seg (length c.request - c.acked) } in
    let g : IsSoundClient d = record {
      addr = h.addr;
      port = h.port;
      server = h.server;
      server_port = h.server_port;
      iss = h.iss;
      offered = h.offered;
      seg = h.seg;
      request = h.request;
      expected = h.expected;
      window = h.window;
      out = omega (arith, h.seg);
    } in
    of_sends SoundStep c owed (kept c h) (given c (ack_of c) h (ack_sound c h)) (λ o r. given d (own_request d) g (request_sound d g))
    (λ o m n. given _ (client.own_fin c) record {
      addr = h.addr;
      port = h.port;
      server = h.server;
      server_port = h.server_port;
      iss = h.iss;
      offered = h.offered;
      seg = h.seg;
      request = h.request;
      expected = h.expected;
      window = h.window;
      out = h.out;
    } (end_sound c h))

receives_sound : (c : AbstractClient) (s : PlainSegment) → IsSoundClient c → IsSoundClient (receives_ack c s)
receives_sound c s h =
    choose (λ x. IsSoundClient x) (has_ack s.flags && (client_waits c && eqb s.ack (next_own c))) _ _
    (λ e. record {
      addr = h.addr;
      port = h.port;
      server = h.server;
      server_port = h.server_port;
      iss = h.iss;
      offered = h.offered;
      seg = h.seg;
      request = h.request;
      expected = h.expected;
      window = h.window;
      out = omega arith;
    })
    (λ e. h)

text_taken : (c : AbstractClient) (s : PlainSegment) → IsSoundClient c → IsSoundClient (takes_text c s)
text_taken c s h = record {
  addr = h.addr;
  port = h.port;
  server = h.server;
  server_port = h.server_port;
  iss = h.iss;
  offered = h.offered;
  seg = h.seg;
  request = h.request;
  expected = wrap_low _;
  window = h.window;
  out = h.out;
}

order_sound : (c : AbstractClient) (s : PlainSegment) → IsSoundClient c → SoundStep (takes_in_order c s)
order_sound c s h = of_order SoundStep c s (sends_sound true c h) (sends_sound false c h) (λ g. sends_sound true (takes_text c s) (text_taken c s h))

in_other_state : (c : AbstractClient) (st : ClientState) → IsSoundClient c → IsSoundClient (record c { state = st })
in_other_state c st h = record {
  addr = h.addr;
  port = h.port;
  server = h.server;
  server_port = h.server_port;
  iss = h.iss;
  offered = h.offered;
  seg = h.seg;
  request = h.request;
  expected = h.expected;
  window = h.window;
  out = h.out;
}

pub takes_sound : (c : AbstractClient) (s : PlainSegment) → IsSoundClient c → SoundStep (client_takes c s)
takes_sound c s h =
    of_takes SoundStep c s (kept c h) (λ b. kept _ (in_other_state c Is.Reset h))
    (λ e r f. sends_sound true (opened_by c s) record {
      addr = h.addr;
      port = h.port;
      server = h.server;
      server_port = h.server_port;
      iss = h.iss;
      offered = h.offered;
      seg = h.seg;
      request = h.request;
      expected = wrap_low _;
      window = h.window;
      out = h.out;
    })
    (λ r. order_sound (receives_ack c s) s (receives_sound c s h))

pub opens_sound : (c : AbstractClient) → IsSoundClient c → SoundStep (client_opens c)
opens_sound c h = of_opens SoundStep c (kept c h) (λ e. given _ _ (in_other_state c Is.Opening h)
    (syn_sound (record c { state = Is.Opening }) (in_other_state c Is.Opening h)))

pub again_sound : (c : AbstractClient) → IsSoundClient c → SoundStep (client_again c)
again_sound c h =
    of_again SoundStep c (kept c h) (given c (syn_of c) h (syn_sound c h)) (given c (own_request c) h (request_sound c h))
    (λ f. given c (client.own_fin c) h (end_sound c h)) (given c (ack_of c) h (ack_sound c h))

pub closes_sound : (c : AbstractClient) → IsSoundClient c → SoundStep (client_closes c)
closes_sound c h = of_closes SoundStep c (kept c h) (λ e. sends_sound false (record c { state = Is.Closing }) (in_other_state c Is.Closing h))

pub aborts_sound : (c : AbstractClient) → IsSoundClient c → SoundStep (client_aborts c)
aborts_sound c h = of_aborts SoundStep c (kept c h) (λ e. given _ (client.own_reset c) (in_other_state c Is.Reset h) (abort_sound c c h))

pub window_sound : (w : ℕ) (c : AbstractClient) → w < 65536 → IsSoundClient c → SoundStep (client.advertises_window w c)
window_sound w c l h = kept _ record {
  addr = h.addr;
  port = h.port;
  server = h.server;
  server_port = h.server_port;
  iss = h.iss;
  offered = h.offered;
  seg = h.seg;
  request = h.request;
  expected = h.expected;
  window = l;
  out = h.out;
}
