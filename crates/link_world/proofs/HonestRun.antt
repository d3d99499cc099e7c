-- The run over a link that loses nothing. One datagram is under way at a time. Each time a datagram of the client arrives at the
-- node, the node accepts a part of the request or a text is acknowledged, so the run ends with the FINs of both.
use Rattle.link_world.proofs.Prelude.{All, ◌≡◌, ℕ, zero, suc, ◌+◌, ◌-◌, ◌*◌, ◌<◌, ◌≤◌, Bool, false, if◌then◌else◌, ◌⊎◌, inl, inr, List, []}
use Rattle.link_world.proofs.Prelude.{◌∷◌, ◌++◌, length, replicate, refl, sym, ap, ◌∙◌, subst, arith, Option, Some, None, Result, Ok}
use Rattle.link_world.proofs.Prelude.{suc-mul, wrap, Addr, FIN, PSH, ACK, PlainSegment, AppState, AppSpec, Pages, IsPaged, IsU32}
use Rattle.link_world.proofs.Prelude.{Established, FinWait1, Connection, HistoryEntry, TcpReply, ticks_of, AbstractNode, arrives}
use Rattle.link_world.proofs.Prelude.{AbstractClient, own_fin, client_takes, Setup, World, Sent, client_sockets, becomes_opened, plays_line}
use Rattle.link_world.proofs.Prelude.{plays_from, BadLine, Round, FromClient, FromNode, AnswersIn, wrap_wrap, FitConn}
use Rattle.link_client.specs.declared.client_state.ClientState.TheVariants as Is
use Rattle.link_world.proofs.Doing.{goes_on_with}
use Rattle.link_world.proofs.Rounds.{only_side, under_way, at_rest, sent_by, one_longer, round_of_none, node_answers, client_answers}
use Rattle.link_world.proofs.Rounds.{client_is_silent}
use Rattle.link_world.proofs.HonestClient.{open_with, closed_with, next_out, node_sends, Brings, SendsNext, goes_on_at_ack, takes_a_text}
use Rattle.link_world.proofs.HonestClient.{takes_the_fin, rests_at_ack}
use Rattle.link_world.proofs.HonestNode.{mss, sockets, conn_at, node_at, takes_fin, Awaits, Says, visits}
use Rattle.link_world.proofs.HonestNode.Says.{sends_fin, sends_text, outputs_ack}
use Rattle.link_world.proofs.HonestNode.Awaits.{awaits_text, awaits_none}

-- what is under way
abbrev pub by_client : ℕ → ℕ → PlainSegment → Sent
by_client tick id s = sent_by (FromClient 1) tick false id s

abbrev pub by_node : ℕ → ℕ → PlainSegment → Sent
by_node tick id s = sent_by (FromNode 1) tick false id s

-- the world that is reached, where its one client has closed, and no stale datagram came
pub record Ended (r : Result World BadLine) : Type 0 where
  pub world : World
  pub is : r ≡ Ok world
  pub client : AbstractClient
  pub opened : Option ℕ
  pub sides : world.sides ≡ only_side client opened ∷ []
  pub closed : client.state ≡ Is.Closed

module _ (m : AppSpec) (served : ℕ → Bool) where
  -- a round, and what follows it
  pub one_round : (n place : ℕ) (w v : World) → plays_line m served w Round ≡ Ok v
      → Ended (plays_from m served (place + 1) (replicate n Round) v) → Ended (plays_from m served place (replicate (suc n) Round) w)
  one_round n place w v e h =
      subst Ended (sym (ap (λ r. goes_on_with place (plays_from m served (place + 1) (replicate n Round)) r) e)) h

  pub rests_ended : (n place : ℕ) (node : AbstractNode) (c : AbstractClient) (opened : Option ℕ) (sent : List Sent) → c.state ≡ Is.Closed
      → Ended (plays_from m served place (replicate n Round) (at_rest node (only_side c opened) sent))
  rests_ended zero place node c opened sent e = record {
    world = at_rest node (only_side c opened) sent;
    is = refl;
    client = c;
    opened = opened;
    sides = refl;
    closed = e;
  }
  rests_ended (suc n) place node c opened sent e =
      one_round n place (at_rest node (only_side c opened) sent) (at_rest node (only_side c opened) sent)
      (round_of_none m served node (only_side c opened) sent) (rests_ended n (place + 1) node c opened sent e)

  -- a round in which the node answers, in which the client answers, and in which it is silent
  pub node_round : (n place : ℕ) (node next : AbstractNode) (c : AbstractClient) (opened : Option ℕ) (before : List Sent)
      (tick id number : ℕ) (s t : PlainSegment) → suc (length before) + 1 ≤ 65535 →
      arrives m served node (client_sockets (only_side c opened)) s
      ≡ record { node = next; sent = Some (TcpReply (client_sockets (only_side c opened)) number false t); gone = None } →
      Ended (plays_from m served (place + 1) (replicate n Round) (under_way next (only_side c opened) (before ++ by_client tick id s ∷ [])
      (by_node (ticks_of next.history) number t))) →
      Ended (plays_from m served place (replicate (suc n) Round) (under_way node (only_side c opened) before (by_client tick id s)))
  node_round n place node next c opened before tick id number s t room e h =
      one_round n place (under_way node (only_side c opened) before (by_client tick id s))
      (under_way next (only_side c opened) (before ++ by_client tick id s ∷ []) (by_node (ticks_of next.history) number t))
      (node_answers m served node next c opened before tick id number false s t room e) h

  pub client_round : (n place : ℕ) (node : AbstractNode) (c d : AbstractClient) (opened : Option ℕ) (before : List Sent) (tick id : ℕ)
      (s t : PlainSegment) → suc (length before) + 1 ≤ 65535 →
      client_takes c s ≡ record { client = d; sent = Some t } →
      Ended (plays_from m served (place + 1) (replicate n Round)
      (under_way node (only_side d (if becomes_opened c.state d.state then Some 0 else opened)) (before ++ by_node tick id s ∷ [])
      (by_client (ticks_of node.history) 0 t))) →
      Ended (plays_from m served place (replicate (suc n) Round) (under_way node (only_side c opened) before (by_node tick id s)))
  client_round n place node c d opened before tick id s t room e h =
      one_round n place (under_way node (only_side c opened) before (by_node tick id s))
      (under_way node (only_side d (if becomes_opened c.state d.state then Some 0 else opened)) (before ++ by_node tick id s ∷ [])
      (by_client (ticks_of node.history) 0 t))
      (client_answers m served node c d opened before tick id false s t room e) h

  pub silent_round : (n place : ℕ) (node : AbstractNode) (c d : AbstractClient) (opened : Option ℕ) (before : List Sent) (tick id : ℕ)
      (s : PlainSegment) → suc (length before) + 1 ≤ 65535 →
      client_takes c s ≡ record { client = d; sent = None } → d.state ≡ Is.Closed →
      Ended (plays_from m served place (replicate (suc n) Round) (under_way node (only_side c opened) before (by_node tick id s)))
  silent_round n place node c d opened before tick id s room e closed =
      let after : Option ℕ = if becomes_opened c.state d.state then Some 0 else opened in
      let all : List Sent = before ++ by_node tick id s ∷ [] in
      one_round n place (under_way node (only_side c opened) before (by_node tick id s)) (at_rest node (only_side d after) all)
      (client_is_silent m served node c d opened before tick id false s room e) (rests_ended n (place + 1) node d after all closed)

module _ (m : AppSpec) (pages : Pages) (lawful : IsPaged m pages) (served : ℕ → Bool) (addr : Addr) (setup : Setup) (request : List ℕ)
    (fine : AppState → Bool) (left : AppState → ℕ) (texts : ℕ) (answers : AnswersIn m request (mss m pages lawful served addr setup request)
    fine left texts) (seg : 1 ≤ setup.seg) where
  -- a segment of the client is under way to its connection
  pub record AtNode (w : World) (taken iss acked len most count : ℕ) : Type 0 where
    pub numbers : List ℕ
    pub history : List HistoryEntry
    pub part : AppState
    pub received : List ℕ
    pub x : ℕ
    pub before : List Sent
    pub tick : ℕ
    pub id : ℕ
    pub segment : PlainSegment
    pub is : w ≡ under_way (node_at m pages lawful served addr setup request numbers history
        (conn_at m pages lawful served addr setup request Established taken iss acked len part))
        (only_side (open_with setup request received taken (next_out setup request taken) x) (Some 0)) before (by_client tick id segment)
    pub count_is : length before ≡ count
    pub decodes : Brings setup request taken x segment
    pub expected : x ≡ wrap (iss + (acked + len))
    pub within : taken ≤ length request
    pub awaits : Awaits m pages lawful served addr setup request fine left texts answers part taken most len
    pub words : All IsU32 numbers
    pub fits : FitConn (conn_at m pages lawful served addr setup request Established taken iss acked len part)

  abbrev pub EndsIn : ℕ → World → Type 0
  EndsIn n w = (place : ℕ) → Ended (plays_from m served place (replicate n Round) w)

  -- what is proved of fewer texts and parts
  abbrev pub Below : ℕ → Type 0
  Below fuel =
      (n parts taken iss acked len most count : ℕ) (w : World) → parts + most ≤ fuel → 2 * fuel + 2 ≤ n → length request ≤ taken + parts * setup.seg →
      AtNode w taken iss acked len most count → count + 1 + n ≤ 65535 → EndsIn n w

  -- the node's FIN is under way, then the client's, then the last ACK
  ends_by_fin : (n : ℕ) (numbers : List ℕ) (history : List HistoryEntry) (iss acked a o x tick id : ℕ) (received : List ℕ) (p : AppState) (before : List Sent) →
      x ≡ wrap (iss + acked) → length before + 1 + suc (suc (suc n)) ≤ 65535 →
      EndsIn (suc (suc (suc n))) (under_way (node_at m pages lawful served addr setup request numbers history
      (conn_at m pages lawful served addr setup request FinWait1 (a + o) iss acked 1 p))
      (only_side (open_with setup request received a o x) (Some 0)) before
      (by_node tick id (node_sends setup request (FIN + ACK) (wrap (iss + acked)) (wrap (setup.iss.0 + 1 + (a + o))) [])))
  ends_by_fin n numbers history iss acked a o x tick id received p before e room place =
      let node : AbstractNode = node_at m pages lawful served addr setup request numbers history
      (conn_at m pages lawful served addr setup request FinWait1 (a + o) iss acked 1 p) in
      let asking : AbstractClient = open_with setup request received a o x in
      let s : PlainSegment = node_sends setup request (FIN + ACK) (wrap (iss + acked)) (wrap (setup.iss.0 + 1 + (a + o))) [] in
      let c : AbstractClient = closed_with setup request (received ++ []) (a + o) (wrap (x + 0 + 1)) in
      let t : PlainSegment = own_fin c in
      let one : List Sent = before ++ by_node tick id s ∷ [] in
      let long : length one ≡ suc (length before) = one_longer before (by_node tick id s) in
      let own : t.seq ≡ wrap (setup.iss.0 + 1 + (a + o)) = ap wrap (let z : setup.iss.0 + 1 + (a + o) + 0 ≡ setup.iss.0 + 1 + (a + o) = omega arith in z) in
      let its : t.ack ≡ wrap (iss + (acked + 1)) =
      ap (λ k. wrap (k + 0 + 1)) e ∙ ap wrap (let z : wrap (iss + acked) + 0 + 1 ≡ wrap (iss + acked) + 1 = omega arith in z)
      ∙ wrap_wrap (iss + acked) 1 ∙ ap wrap (let z : iss + acked + 1 ≡ iss + (acked + 1) = omega arith in z) in
      let f = takes_fin m pages lawful served addr setup request numbers history (a + o) iss acked p t refl refl own its in
      let u : PlainSegment = node_sends setup request ACK f.seq f.ack [] in
      let two : List Sent = one ++ by_client (ticks_of node.history) 0 t ∷ [] in
      let longer : length two ≡ suc (length one) = one_longer one (by_client (ticks_of node.history) 0 t) in
      let r = rests_at_ack setup request (received ++ []) (a + o) (wrap (x + 0 + 1)) f.seq f.ack in
      client_round m served (suc (suc n)) place node asking c (Some 0) before tick id s t (omega (arith, room))
      (takes_the_fin setup request received a o x (wrap (iss + acked)) (wrap (setup.iss.0 + 1 + (a + o))) refl (sym e))
      (node_round m served (suc n) (place + 1) node f.node c (Some 0) one (ticks_of node.history) 0 f.id t u (omega (arith, room, long)) f.is
      (silent_round m served n (place + 1 + 1) f.node c r.client (Some 0) two (ticks_of f.node.history) f.id u
      (omega (arith, room, long, longer)) r.is r.closed))

  -- the client sends what comes next, and that is under way to the node
  pub goes_on_from : (fuel n parts iss acked most : ℕ) → Below fuel → (numbers : List ℕ) (history : List HistoryEntry)
      (a o len x y tick id : ℕ) (received got : List ℕ) (p : AppState) (before : List Sent) (s : PlainSegment) →
      SendsNext setup request (client_takes (open_with setup request received a o x) s) got (a + o) y → y ≡ wrap (iss + (acked + len))
      → a + o ≤ length request →
      Awaits m pages lawful served addr setup request fine left texts answers p (a + o) most len → All IsU32 numbers
      → FitConn (conn_at m pages lawful served addr setup request Established (a + o) iss acked len p) →
      parts + most ≤ fuel → 2 * fuel + 2 ≤ n → length request ≤ a + o + parts * setup.seg → length before + 1 + suc n ≤ 65535 →
      EndsIn (suc n) (under_way (node_at m pages lawful served addr setup request numbers history
      (conn_at m pages lawful served addr setup request Established (a + o) iss acked len p))
      (only_side (open_with setup request received a o x) (Some 0)) before (by_node tick id s))
  goes_on_from fuel n parts iss acked most below numbers history a o len x y tick id received got p before s next e within awaits words fits
      f g parts_left room place =
      let k : Connection = conn_at m pages lawful served addr setup request Established (a + o) iss acked len p in
      let node : AbstractNode = node_at m pages lawful served addr setup request numbers history k in
      let all : List Sent = before ++ by_node tick id s ∷ [] in
      let long : length all ≡ suc (length before) = one_longer before (by_node tick id s) in
      let c : AbstractClient = open_with setup request got (a + o) (next_out setup request (a + o)) y in
      client_round m served n place node (open_with setup request received a o x) c (Some 0) before tick id s next.segment (omega (arith, room)) next.is
      (below n parts (a + o) iss acked len most (length all)
      (under_way node (only_side c (Some 0)) all (by_client (ticks_of node.history) 0 next.segment)) f g parts_left
      record {
        numbers = numbers;
        history = history;
        part = p;
        received = got;
        x = y;
        before = all;
        tick = ticks_of node.history;
        id = 0;
        segment = next.segment;
        is = refl;
        count_is = refl;
        decodes = next.decodes;
        expected = e;
        within = within;
        awaits = awaits;
        words = words;
        fits = fits;
      } (omega (arith, long, room)) (place + 1))

  -- the node sends something, and the client answers
  pub after_visit : (fuel n parts iss acked fewer : ℕ) → Below fuel → (node : AbstractNode) (a o x tick id : ℕ) (received : List ℕ)
      (before : List Sent) (s : PlainSegment) →
      Says m pages lawful served addr setup request fine left texts answers
      (arrives m served node (sockets m pages lawful served addr setup request) s) (a + o) iss acked fewer →
      x ≡ wrap (iss + acked) → a + o ≤ length request → parts + fewer ≤ fuel → 2 * fuel + 3 ≤ n → length request ≤ a + o + parts * setup.seg
      → length before + 1 + suc n ≤ 65535 →
      EndsIn (suc n) (under_way node (only_side (open_with setup request received a o x) (Some 0)) before (by_client tick id s))
  after_visit fuel n parts iss acked fewer below node a o x tick id received before s (sends_fin numbers history number p e) ex within f g
      parts_left room place =
      let all : List Sent = before ++ by_client tick id s ∷ [] in
      let long : length all ≡ suc (length before) = one_longer before (by_client tick id s) in
      let k : Connection = conn_at m pages lawful served addr setup request FinWait1 (a + o) iss acked 1 p in
      let next : AbstractNode = node_at m pages lawful served addr setup request numbers history k in
      let t : PlainSegment = node_sends setup request (FIN + ACK) (wrap (iss + acked)) (wrap (setup.iss.0 + 1 + (a + o))) [] in
      let three : n ≡ suc (suc (suc (n - 3))) = omega (arith, g) in
      node_round m served n place node next (open_with setup request received a o x) (Some 0) before tick id number s t (omega (arith, room)) e
      (subst (λ j. Ended (plays_from m served (place + 1) (replicate j Round)
      (under_way next (only_side (open_with setup request received a o x) (Some 0)) all (by_node (ticks_of history) number t)))) (sym three)
      (ends_by_fin (n - 3) numbers history iss acked a o x (ticks_of history) number received p all ex (omega (arith, long, room, g)) (place + 1)))
  after_visit fuel n parts iss acked fewer below node a o x tick id received before s (sends_text numbers history number p text len size
      some awaits words fits again e) ex within f g parts_left room place =
      let all : List Sent = before ++ by_client tick id s ∷ [] in
      let long : length all ≡ suc (length before) = one_longer before (by_client tick id s) in
      let next : AbstractNode = node_at m pages lawful served addr setup request numbers history
      (conn_at m pages lawful served addr setup request Established (a + o) iss acked len p) in
      let t : PlainSegment = node_sends setup request (ACK + PSH) (wrap (iss + acked)) (wrap (setup.iss.0 + 1 + (a + o))) text in
      let one : n ≡ suc (n - 1) = omega (arith, g) in
      let expected : wrap (x + length text + 0) ≡ wrap (iss + (acked + len)) =
      ap (λ j. wrap (j + length text + 0)) ex ∙ ap wrap (let z : wrap (iss + acked) + length text + 0 ≡ wrap (iss + acked) + len = omega
      (arith, size) in z) ∙ wrap_wrap (iss + acked) len ∙ ap wrap (let z : iss + acked + len ≡ iss + (acked + len) = omega arith in z) in
      node_round m served n place node next (open_with setup request received a o x) (Some 0) before tick id number s t (omega (arith, room)) e
      (subst (λ j. Ended (plays_from m served (place + 1) (replicate j Round)
      (under_way next (only_side (open_with setup request received a o x) (Some 0)) all (by_node (ticks_of history) number t)))) (sym one)
      (goes_on_from fuel (n - 1) parts iss acked fewer below numbers history a o len x (wrap (x + length text + 0)) (ticks_of history)
      number received (received ++ text) p all t
      (takes_a_text setup request received a o x (wrap (iss + acked)) (wrap (setup.iss.0 + 1 + (a + o))) text refl (sym ex)
      (omega (arith, size, some))) expected within awaits words fits f (omega (arith, g)) parts_left (omega (arith, long, room, g)) (place + 1)))
  after_visit fuel n parts iss acked fewer below node a o x tick id received before s (outputs_ack numbers history number p l ready words
      fits e) ex within f g parts_left room place =
      let all : List Sent = before ++ by_client tick id s ∷ [] in
      let long : length all ≡ suc (length before) = one_longer before (by_client tick id s) in
      let next : AbstractNode = node_at m pages lawful served addr setup request numbers history
      (conn_at m pages lawful served addr setup request Established (a + o) iss acked 0 p) in
      let t : PlainSegment = node_sends setup request ACK (wrap (iss + acked)) (wrap (setup.iss.0 + 1 + (a + o))) [] in
      let one : n ≡ suc (n - 1) = omega (arith, g) in
      node_round m served n place node next (open_with setup request received a o x) (Some 0) before tick id number s t (omega (arith, room)) e
      (subst (λ j. Ended (plays_from m served (place + 1) (replicate j Round)
      (under_way next (only_side (open_with setup request received a o x) (Some 0)) all (by_node (ticks_of history) number t)))) (sym one)
      (goes_on_from fuel (n - 1) parts iss acked fewer below numbers history a o 0 x x (ticks_of history) number received received p all t
      (goes_on_at_ack setup request received a o x (wrap (iss + acked)) (wrap (setup.iss.0 + 1 + (a + o))) refl l)
      (ex ∙ ap wrap (let z : iss + acked ≡ iss + (acked + 0) = omega arith in z)) within
      (awaits_none (omega (arith, seg, l)) ready) words fits f (omega (arith, g)) parts_left (omega (arith, long, room, g)) (place + 1)))

  none_left : (taken parts : ℕ) → parts ≡ 0 → length request ≤ taken + parts * setup.seg → 0 < next_out setup request taken → ⊥
  none_left taken parts z h l = let e : parts * setup.seg ≡ 0 * setup.seg = ap (λ k. k * setup.seg) z in omega (arith, e, h, l)

  -- one part less is left
  part_sent : (taken parts : ℕ) → length request ≤ taken + suc parts * setup.seg → length request ≤ taken + next_out setup request taken + parts * setup.seg
  part_sent taken parts h = omega (arith, h, suc-mul parts setup.seg)

  -- how many parts are left after a visit
  record Left (taken parts fewer most fuel : ℕ) : Type 0 where
    after : ℕ
    few : after + fewer ≤ fuel
    enough : length request ≤ taken + next_out setup request taken + after * setup.seg

  left_after : (taken parts fewer most fuel : ℕ) → length request ≤ taken + parts * setup.seg → parts + most ≤ suc fuel → fewer ≤ most
      → (0 < next_out setup request taken) ⊎ (fewer < most) → Left taken parts fewer most fuel
  left_after taken zero fewer most fuel h f g less =
      let fewer_is : fewer < most = elim less [ inl l ↦ absurd (none_left taken 0 refl h l) | inr l ↦ l ] in
      record { after = 0; few = omega (arith, f, fewer_is); enough = omega (arith, h) }
  left_after taken (suc parts) fewer most fuel h f g less = record { after = parts; few = omega (arith, f, g); enough = part_sent taken parts h }

  none_awaited : (numbers : List ℕ) (p : AppState) (taken parts most len : ℕ) → parts + most ≤ 0 → length request ≤ taken + parts *
      setup.seg → Awaits m pages lawful served addr setup request fine left texts answers p taken most len → ⊥
  none_awaited numbers p taken parts most _ f h (awaits_text len some delivered rest) = let r = (rest numbers).1 in omega (arith, r, f)
  none_awaited numbers p taken parts most _ f h (awaits_none l r) = none_left taken parts (omega (arith, f)) h l

  pub ends : (fuel : ℕ) → Below fuel
  ends zero n parts taken iss acked len most count w f g h at room place = absurd (none_awaited at.numbers at.part taken parts most len f h at.awaits)
  ends (suc fuel) n parts taken iss acked len most count w f g h at room place =
      let v = visits m pages lawful served addr setup request fine left texts answers at.numbers at.history taken iss acked len at.x most
      at.part at.segment seg at.decodes at.expected at.within at.awaits at.words at.fits in
      let l = left_after taken parts v.fewer most fuel h f v.at_most v.less in
      let one : n ≡ suc (n - 1) = omega (arith, g) in
      subst (λ (u : World). Ended (plays_from m served place (replicate n Round) u)) (sym at.is)
      (subst (λ j. Ended (plays_from m served place (replicate j Round)
      (under_way (node_at m pages lawful served addr setup request at.numbers at.history (conn_at m pages lawful served addr setup request
      Established taken iss acked len at.part))
      (only_side (open_with setup request at.received taken (next_out setup request taken) at.x) (Some 0)) at.before
      (by_client at.tick at.id at.segment)))) (sym one)
      (after_visit fuel (n - 1) l.after iss (acked + len) v.fewer (ends fuel) (node_at m pages lawful served addr setup request at.numbers
      at.history (conn_at m pages lawful served addr setup request Established taken iss acked len at.part)) taken
      (next_out setup request taken) at.x at.tick at.id at.received at.before at.segment v.says at.expected
      (omega (arith, at.within)) l.few (omega (arith, g)) l.enough (omega (arith, at.count_is, room, g)) place))
