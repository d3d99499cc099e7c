-- No act reads the mark, so a list of acts reaches what the lines of a schedule reach.
-- [add: schedule-line] The list of its acts.
use Rattle.link_world.proofs.Prelude.{All, ◌≡◌, ℕ, zero, suc, ◌+◌, inl, inr, Bool, false, List, [], ◌∷◌, ◌++◌, length, map, flat_map}
use Rattle.link_world.proofs.Prelude.{replicate, reverse, refl, sym, ap, ◌∙◌, arith, Option, Some, None, Result, Ok, Err, ltb}
use Rattle.link_world.proofs.Prelude.{if◌then◌else◌, All-append, option_map_or, option_or, ◌>>=◌, AppSpec, EchoAsked, Arrived, Echo}
use Rattle.link_world.proofs.Prelude.{TcpReply, event_of, NodeStep, step, AbstractClient, ClientStep, client_takes, client_opens}
use Rattle.link_world.proofs.Prelude.{client_again, client_closes, client_aborts, advertises_window, World, Side, Sent, Content, numbered}
use Rattle.link_world.proofs.Prelude.{retires, posts, posts_reply, node_handles, with_client, with_side, client_stepped, marked}
use Rattle.link_world.proofs.Prelude.{client_sockets, delivers, OfSegment, OfPing, OfEcho, bytes_by, sent_bytes, changed, receives_datagram}
use Rattle.link_world.proofs.Prelude.{acts, client_acts, does, fault_of, handed, handles_all, hands_over, named_fault, needs, runs}
use Rattle.link_world.proofs.Prelude.{past_mark, acts_of, mark_after, plays_from, Act, StepFault, Full, NoByte, NoDatagram, Who, FromClient}
use Rattle.link_world.proofs.Prelude.{FromNode, Pinger, IsAct, IsPlainAct, OfLine, LinesAreActs, all_nil, all_cons}
use Rattle.uip_node.specs.Events.{Event as NodeEvent, Reply, tick}
use Rattle.link_schedule.specs.declared.event.Event.{Event}
use Rattle.link_world.proofs.Doing.{goes_on_with, with_mark}

abbrev at_mark : ℕ → World → World
at_mark x w = record w { mark = x }

module _ (m : AppSpec) (served : ℕ → Bool) (x : ℕ) where
  reply_mark : (w : World) (r : Option Reply) → posts_reply (at_mark x w) r ≡ at_mark x (posts_reply w r)
  reply_mark w None = refl
  reply_mark w (Some (Echo request)) = refl
  reply_mark w (Some (TcpReply sockets id again s)) = refl

  handles_mark : (w : World) (e : NodeEvent) → node_handles m served (at_mark x w) e ≡ at_mark x (node_handles m served w e)
  handles_mark w e = let r : NodeStep = step m served w.node e in reply_mark (record w { node = r.node; sides = retires r.gone w.sides }) r.sent

  all_mark : (es : List NodeEvent) (w : World) → handles_all m served es (at_mark x w) ≡ at_mark x (handles_all m served es w)
  all_mark [] w = refl
  all_mark (e ∷ es) w = ap (λ (v : World). handles_all m served es v) (handles_mark w e) ∙ all_mark es (node_handles m served w e)

  -- what is done with a value that may not exist
  some_mark : {X : Type 0} (act marked_act : X → World) (o : Option X) (w : World) → ((y : X) → marked_act y ≡ at_mark x (act y))
      → option_map_or marked_act o (at_mark x w) ≡ at_mark x (option_map_or act o w)
  some_mark act marked_act None w h = refl
  some_mark act marked_act (Some y) w h = h y

  stepped_mark : (w : World) (n : ℕ) (side : Side) (took : ClientStep) → client_stepped (at_mark x w) n side took ≡ at_mark x (client_stepped w n side took)
  stepped_mark w n side took =
      let v : World = with_side w n (with_client side took.client) in
      some_mark (λ s. posts v (FromClient n) false (OfSegment 0 s)) (λ s. posts (at_mark x v) (FromClient n) false (OfSegment 0 s)) took.sent v (λ s. refl)

  client_mark : (w : World) (n : ℕ) (act : AbstractClient → ClientStep) → client_acts (at_mark x w) n act ≡ at_mark x (client_acts w n act)
  client_mark w n act =
      some_mark (λ side. client_stepped w n side (act side.client)) (λ side. client_stepped (at_mark x w) n side (act side.client)) (numbered w.sides n) w
      (λ side. stepped_mark w n side (act side.client))

  delivers_mark : (w : World) (k : ℕ) (e : Sent) (who : Who) (content : Content) → delivers m served (at_mark x w) k e who content
      ≡ at_mark x (delivers m served w k e who content)
  delivers_mark w k e (FromClient n) (OfSegment id s) =
      some_mark (λ side. node_handles m served (with_side w n (marked side k e)) (Arrived (client_sockets side) s))
      (λ side. node_handles m served (with_side (at_mark x w) n (marked side k e)) (Arrived (client_sockets side) s)) (numbered w.sides n) w
      (λ side. handles_mark (with_side w n (marked side k e)) (Arrived (client_sockets side) s))
  delivers_mark w k e (FromNode n) (OfSegment id s) =
      some_mark (λ side. client_stepped w n (marked side k e) (client_takes side.client s))
      (λ side. client_stepped (at_mark x w) n (marked side k e) (client_takes side.client s)) (numbered w.sides n) w
      (λ side. stepped_mark w n (marked side k e) (client_takes side.client s))
  delivers_mark w k e Pinger (OfPing datagram) = handles_mark w (EchoAsked datagram)
  delivers_mark w k e (FromClient n) (OfPing datagram) = refl
  delivers_mark w k e (FromClient n) (OfEcho request) = refl
  delivers_mark w k e (FromNode n) (OfPing datagram) = refl
  delivers_mark w k e (FromNode n) (OfEcho request) = refl
  delivers_mark w k e Pinger (OfSegment id s) = refl
  delivers_mark w k e Pinger (OfEcho request) = refl

  bytes_mark : (w : World) (who : Who) (content : Content) → bytes_by (at_mark x w) who content ≡ bytes_by w who content
  bytes_mark w (FromClient n) (OfSegment id s) = refl
  bytes_mark w (FromNode n) (OfSegment id s) = refl
  bytes_mark w Pinger (OfSegment id s) = refl
  bytes_mark w (FromClient n) (OfPing datagram) = refl
  bytes_mark w (FromNode n) (OfPing datagram) = refl
  bytes_mark w Pinger (OfPing datagram) = refl
  bytes_mark w (FromClient n) (OfEcho request) = refl
  bytes_mark w (FromNode n) (OfEcho request) = refl
  bytes_mark w Pinger (OfEcho request) = refl

  handed_mark : (w : World) (n : ℕ) (bytes : List ℕ) (side : Side) → handed (at_mark x w) n bytes side ≡ at_mark x (handed w n bytes side)
  handed_mark w n bytes side =
      some_mark (λ s. client_stepped w n side (client_takes side.client s))
      (λ s. client_stepped (at_mark x w) n side (client_takes side.client s)) (receives_datagram side.client.setup bytes) w
      (λ s. stepped_mark w n side (client_takes side.client s))

  over_mark : (w : World) (bytes : List ℕ) (who : Who) → hands_over m served (at_mark x w) bytes who ≡ at_mark x (hands_over m served w bytes who)
  over_mark w bytes (FromClient n) = handles_mark w (event_of w.node.addr bytes)
  over_mark w bytes Pinger = handles_mark w (event_of w.node.addr bytes)
  over_mark w bytes (FromNode n) = some_mark (handed w n bytes) (handed (at_mark x w) n bytes) (numbered w.sides n) w (λ side. handed_mark w n bytes side)

  damages_mark : (w : World) (at mask : ℕ) (e : Sent) → hands_over m served (at_mark x w) (changed (sent_bytes (at_mark x w) e) at mask)
      e.who ≡ at_mark x (hands_over m served w (changed (sent_bytes w e) at mask) e.who)
  damages_mark w at mask e =
      ap (λ (b : List ℕ). hands_over m served (at_mark x w) (changed b at mask) e.who) (bytes_mark w e.who e.content)
      ∙ over_mark w (changed (sent_bytes w e) at mask) e.who

  does_mark : (w : World) (act : Act) → does m served (at_mark x w) act ≡ at_mark x (does m served w act)
  does_mark w (Act.Opens n) = client_mark w n client_opens
  does_mark w (Act.Again n) = client_mark w n client_again
  does_mark w (Act.Closes n) = client_mark w n client_closes
  does_mark w (Act.Aborts n) = client_mark w n client_aborts
  does_mark w (Act.Window n y) = client_mark w n (advertises_window y)
  does_mark w (Act.Ping source) = refl
  does_mark w (Act.Give k) =
      some_mark (λ e. delivers m served w k e e.who e.content) (λ e. delivers m served (at_mark x w) k e e.who e.content)
      (numbered w.sent k) w (λ e. delivers_mark w k e e.who e.content)
  does_mark w (Act.Damage k at mask) =
      some_mark (λ e. hands_over m served w (changed (sent_bytes w e) at mask) e.who)
      (λ e. hands_over m served (at_mark x w) (changed (sent_bytes (at_mark x w) e) at mask) e.who)
      (numbered w.sent k) w (λ e. damages_mark w at mask e)
  does_mark w Act.Tick = all_mark tick w

  byte_mark : (w : World) (at : ℕ) (e : Option Sent) → option_map_or (λ d. if ltb at (length (sent_bytes (at_mark x w) d)) then None else
      Some NoByte) e (Some NoDatagram)
      ≡ option_map_or (λ d. if ltb at (length (sent_bytes w d)) then None else Some NoByte) e (Some NoDatagram)
  byte_mark w at None = refl
  byte_mark w at (Some e) = ap (λ (b : List ℕ). if ltb at (length b) then None else Some NoByte) (bytes_mark w e.who e.content)

  named_mark : (w : World) (act : Act) → named_fault (at_mark x w) act ≡ named_fault w act
  named_mark w (Act.Opens n) = refl
  named_mark w (Act.Again n) = refl
  named_mark w (Act.Closes n) = refl
  named_mark w (Act.Aborts n) = refl
  named_mark w (Act.Window n y) = refl
  named_mark w (Act.Ping source) = refl
  named_mark w (Act.Give k) = refl
  named_mark w (Act.Damage k at mask) = byte_mark w at (numbered w.sent k)
  named_mark w Act.Tick = refl

  fault_mark : (w : World) (act : Act) → fault_of (at_mark x w) act ≡ fault_of w act
  fault_mark w act = ap (λ (f : Option StepFault). option_or f (if ltb 65535 (length w.sent + needs act) then Some Full else None)) (named_mark w act)

  done_mark : (w : World) (f : Option StepFault) → option_map_or Err f (Ok (at_mark x w)) ≡ with_mark x (option_map_or Err f (Ok w))
  done_mark w None = refl
  done_mark w (Some f) = refl

  pub acts_mark : (w : World) (act : Act) → acts m served (at_mark x w) act ≡ with_mark x (acts m served w act)
  acts_mark w act =
      ap (λ (v : World). option_map_or {U = Result World StepFault} Err (fault_of (at_mark x w) act) (Ok v)) (does_mark w act)
      ∙ ap (λ (f : Option StepFault). option_map_or Err f (Ok (at_mark x (does m served w act)))) (fault_mark w act)
      ∙ done_mark (does m served w act) (fault_of w act)

  then_mark : (more : List Act) → ((w : World) → runs m served more (at_mark x w) ≡ with_mark x (runs m served more w)) → (r : Result World StepFault) →
      (with_mark x r >>= runs m served more) ≡ with_mark x (r >>= runs m served more)
  then_mark more h (Ok v) = h v
  then_mark more h (Err f) = refl

  pub runs_mark : (schedule : List Act) (w : World) → runs m served schedule (at_mark x w) ≡ with_mark x (runs m served schedule w)
  runs_mark [] w = refl
  runs_mark (act ∷ more) w = ap (λ (r : Result World StepFault). r >>= runs m served more) (acts_mark w act)
      ∙ then_mark more (λ v. runs_mark more v) (acts m served w act)

module _ (m : AppSpec) (served : ℕ → Bool) where
  same_mark : (w u : World) (r : Result World StepFault) → r ≡ with_mark w.mark r → r ≡ Ok u → u.mark ≡ w.mark
  same_mark w u (Ok v) h e = let q : v ≡ u = cc in let z : v ≡ at_mark w.mark v = cc in ap (λ (y : World). y.mark) (sym q) ∙ ap (λ (y : World). y.mark) z
  same_mark w u (Err f) h e = absurd (cc)

  pub keeps_mark : (schedule : List Act) (w u : World) → runs m served schedule w ≡ Ok u → u.mark ≡ w.mark
  keeps_mark schedule w u e = same_mark w u (runs m served schedule w) (runs_mark m served w.mark schedule w) e

  then_joined : (prefix back : List Act) → ((w : World) → runs m served (prefix ++ back) w
      ≡ (runs m served prefix w >>= runs m served back)) → (r : Result World StepFault) →
      (r >>= runs m served (prefix ++ back)) ≡ ((r >>= runs m served prefix) >>= runs m served back)
  then_joined prefix back h (Ok v) = h v
  then_joined prefix back h (Err f) = refl

  pub runs_joined : (prefix back : List Act) (w : World) → runs m served (prefix ++ back) w ≡ (runs m served prefix w >>= runs m served back)
  runs_joined [] back w = refl
  runs_joined (act ∷ prefix) back w = then_joined prefix back (λ v. runs_joined prefix back v) (acts m served w act)

  back_at : (k : ℕ) (u v : World) (r : Result World StepFault) → with_mark k r ≡ Ok (at_mark k v)
      → ((z : World) → r ≡ Ok z → z.mark ≡ u.mark) → r ≡ Ok (at_mark u.mark v)
  back_at k u v (Ok z) e same =
      let q : at_mark k z ≡ at_mark k v = cc in
      let p : at_mark u.mark z ≡ at_mark u.mark v = ap (λ (y : World). at_mark u.mark y) q in
      let s : z ≡ at_mark u.mark z = ap (λ n. at_mark n z) (same z refl) in
      ap Ok (s ∙ p)
  back_at k u v (Err f) e same = absurd (cc)

  -- a schedule of acts for lines
  record Acted (P Q : Act → Type 0) (w v : World) : Type 0 where
    schedule : List Act
    all : All P schedule
    other : All Q schedule
    runs_to : runs m served schedule w ≡ Ok (at_mark w.mark v)

  given : (P : Act → Type 0) (ks : List ℕ) → ((k : ℕ) → P (Act.Give k)) → All P (map Act.Give ks)
  given P [] h = all_nil P
  given P (k ∷ ks) h = all_cons P (Act.Give k) (map Act.Give ks) (h k) (given P ks h)

  twice : (P : Act → Type 0) (ks : List ℕ) → ((k : ℕ) → P (Act.Give k)) → All P (flat_map (λ k. Act.Give k ∷ Act.Give k ∷ []) ks)
  twice P [] h = all_nil P
  twice P (k ∷ ks) h = All-append P (Act.Give k ∷ Act.Give k ∷ []) (flat_map (λ k. Act.Give k ∷ Act.Give k ∷ []) ks)
      (all_cons P (Act.Give k) (Act.Give k ∷ []) (h k) (all_cons P (Act.Give k) [] (h k) (all_nil P))) (twice P ks h)

  ticked : (P : Act → Type 0) (n : ℕ) → P Act.Tick → All P (replicate n Act.Tick)
  ticked P zero h = all_nil P
  ticked P (suc n) h = all_cons P Act.Tick (replicate n Act.Tick) h (ticked P n h)

  one : (P : Act → Type 0) (act : Act) → P act → All P (act ∷ [])
  one P act h = all_cons P act [] h (all_nil P)

  pub line_acts : (P : Act → Type 0) (w : World) (e : Event) → OfLine P e → All P (acts_of w e)
  line_acts P w (Event.Opens n) h = one P (Act.Opens n) h
  line_acts P w (Event.Again n) h = one P (Act.Again n) h
  line_acts P w (Event.Closes n) h = one P (Act.Closes n) h
  line_acts P w (Event.Aborts n) h = one P (Act.Aborts n) h
  line_acts P w (Event.Window n y) h = one P (Act.Window n y) h
  line_acts P w (Event.Ping source) h = one P (Act.Ping source) h
  line_acts P w (Event.Give k) h = one P (Act.Give k) h
  line_acts P w (Event.Damage k at mask) h = one P (Act.Damage k at mask) h
  line_acts P w (Event.Tick n) h = ticked P n h
  line_acts P w Event.Round h = given P (past_mark w) h
  line_acts P w Event.Twice h = twice P (past_mark w) h
  line_acts P w Event.Reverse h = given P (reverse (past_mark w)) h
  line_acts P w Event.Half h = given P _ h
  line_acts P w Event.Lose h = all_nil P

  line_acted : (P Q : Act → Type 0) (place : ℕ) (e : Event) (more : List Event) (w v : World) (r : Result World StepFault)
      → All P (acts_of w e) → All Q (acts_of w e) →
      ((u : World) → plays_from m served (place + 1) more u ≡ Ok v → Acted P Q u v) → runs m served (acts_of w e) w ≡ r →
      goes_on_with place (plays_from m served (place + 1) more) (with_mark (mark_after w e) r) ≡ Ok v → Acted P Q w v
  line_acted P Q place e more w v (Err f) a b next q h = absurd (cc)
  line_acted P Q place e more w v (Ok u) a b next q h =
      let k : ℕ = mark_after w e in
      let rest : Acted P Q (at_mark k u) v = next (at_mark k u) h in
      let kept : u.mark ≡ w.mark = keeps_mark (acts_of w e) w u q in
      let ran : runs m served rest.schedule u ≡ Ok (at_mark u.mark v) = back_at k u v (runs m served rest.schedule u)
      (sym (runs_mark m served k rest.schedule u) ∙ rest.runs_to) (λ z y. keeps_mark rest.schedule u z y) in
      record {
        schedule = acts_of w e ++ rest.schedule;
        all = All-append P (acts_of w e) rest.schedule a rest.all;
        other = All-append Q (acts_of w e) rest.schedule b rest.other;
        runs_to = runs_joined (acts_of w e) rest.schedule w ∙ ap (λ (r : Result World StepFault). r >>= runs m served rest.schedule) q ∙ ran
            ∙ ap (λ n. Ok (at_mark n v)) kept;
      }

  lines_acted : (P Q : Act → Type 0) (place : ℕ) (lines : List Event) (w v : World) → All (OfLine P) lines → All (OfLine Q) lines
      → plays_from m served place lines w ≡ Ok v → Acted P Q w v
  lines_acted P Q place [] w v a b e = record {
    schedule = [];
    all = all_nil P;
    other = all_nil Q;
    runs_to = (let q : w ≡ v = cc in ap (λ (y : World). Ok (at_mark w.mark y)) q);
  }
  lines_acted P Q place (e ∷ more) w v a b h =
      line_acted P Q place e more w v (runs m served (acts_of w e) w) (line_acts P w e (a zero e (omega arith))) (line_acts Q w e (b zero e (omega arith)))
      (λ u g. lines_acted P Q (place + 1) more u v (λ n d l. a (suc n) d (omega (arith, l))) (λ n d l. b (suc n) d (omega (arith, l))) g) refl h

pub lines_are_acts : LinesAreActs
lines_are_acts m pages w r =
    elim r.bytes [
      | inl page ↦ (let s = lines_acted m r.served IsAct IsAct 0 r.lines _ w r.are_acts r.are_acts r.accepted in
          record { served = r.served; start = r.start; schedule = s.schedule; are_acts = s.all; bytes = inl page; accepted = s.runs_to })
      | inr plain ↦ (let s = lines_acted m r.served IsAct IsPlainAct 0 r.lines _ w r.are_acts plain r.accepted in
          record { served = r.served; start = r.start; schedule = s.schedule; are_acts = s.all; bytes = inr s.other; accepted = s.runs_to })
    ]
