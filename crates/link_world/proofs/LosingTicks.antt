-- A link that loses copies of what the node sends: the ticks until the next copy, and the lines until one is delivered.
use Rattle.link_world.proofs.Prelude.{◌≡◌, ℕ, zero, suc, ◌+◌, ◌≤◌, max, Bool, true, false, not, ◌&&◌, if◌then◌else◌, List, [], ◌∷◌, ◌++◌}
use Rattle.link_world.proofs.Prelude.{length}
use Rattle.link_world.proofs.Prelude.{replicate, refl, sym, ap, ◌∙◌, subst, arith, Some, None, Ok, Err, option_map_or, ◌>>=◌, le-ltb}
use Rattle.link_world.proofs.Prelude.{Addr, PlainSegment, AppSpec, Pages, IsPaged, Connection, is_live, segment_of, is_again, leaves}
use Rattle.link_world.proofs.Prelude.{asked, Outcome, on_tick, outstanding, by_beat, beat_at, Beat, Step, Event, Periodic, HistoryEntry}
use Rattle.link_world.proofs.Prelude.{Silent, Now}
use Rattle.link_world.proofs.Prelude.{AbstractNode, NodeStep, snapshot, happened, same_sockets, ident_of, ticks_of, Setup, Sockets, World}
use Rattle.link_world.proofs.Prelude.{Side, Sent}
use Rattle.link_world.proofs.Prelude.{client_sockets, node_stepped, handles_all, does, acts, runs, plays_line, plays_from, Act, Full}
use Rattle.link_world.proofs.Prelude.{FromNode, Lose, Tick, Round, same_self, and_true, posts, OfSegment}
use Rattle.link_world.proofs.Doing.{goes_on_with, with_mark}
use Rattle.link_world.proofs.Rounds.{under_way, at_rest, sent_by, one_longer}
use Rattle.link_world.proofs.HonestNode.{and_no, answered, node_at, remembered, sockets}
use Rattle.link_world.proofs.HonestRun.{Ended}
use Rattle.link_world.specs.Losing.{lost_copies}
use Rattle.link_schedule.specs.declared.event.Event.{Event as Line}

abbrev is_wait : Beat → Bool
is_wait Beat.Wait = true
is_wait _ = false

abbrev sends_again : Beat → Bool
sends_again Beat.Again = true
sends_again _ = false

wait_is : (b : Beat) → is_wait b ≡ true → b ≡ Beat.Wait
wait_is Beat.Wait e = refl
wait_is Beat.Again e = absurd (cc)
wait_is Beat.GiveUp e = absurd (cc)

again_is : (b : Beat) → sends_again b ≡ true → b ≡ Beat.Again
again_is Beat.Again e = refl
again_is Beat.Wait e = absurd (cc)
again_is Beat.GiveUp e = absurd (cc)

-- from this age on the timer waits in this number of ticks, and expires in the next one
abbrev pub expires : ℕ → ℕ → ℕ → Bool
expires limit age zero = sends_again (beat_at limit (age + 1))
expires limit age (suc n) = is_wait (beat_at limit (age + 1)) && expires limit (age + 1) n

-- so it does for each of these numbers of ticks in turn
abbrev pub all_expire : ℕ → ℕ → List ℕ → Bool
all_expire limit age [] = true
all_expire limit age (zero ∷ more) = false
all_expire limit age (suc n ∷ more) = expires limit age n && all_expire limit (age + suc n) more

module _ (m : AppSpec) (pages : Pages) (lawful : IsPaged m pages) (served : ℕ → Bool) (addr : Addr) (setup : Setup) (request : List ℕ) where
  abbrev pub node : List ℕ → List HistoryEntry → Connection → AbstractNode
  node numbers history k = node_at m pages lawful served addr setup request numbers history k

  abbrev pub aged : ℕ → Connection → Connection
  aged age k = record k { age = age }

  abbrev own : Sockets
  own = sockets m pages lawful served addr setup request

  -- a line, and what follows it
  abbrev pub EndsBy : List Line → World → Type 0
  EndsBy lines w = (place : ℕ) → Ended (plays_from m served place lines w)

  pub one_line : (line : Line) (more : List Line) (w v : World) → plays_line m served w line ≡ Ok v → EndsBy more v → EndsBy (line ∷ more) w
  one_line line more w v e h place =
      subst Ended (sym (ap (λ r. goes_on_with place (plays_from m served (place + 1) more) r) e)) (h (place + 1))

  -- the datagram under way is lost
  loses : (n : AbstractNode) (side : Side) (before : List Sent) (e : Sent)
      → plays_line m served (under_way n side before e) Lose ≡ Ok (at_rest n side (before ++ e ∷ []))
  loses n side before e =
      let more : length (before ++ e ∷ []) ≡ suc (length before) = one_longer before e in
      let mark : max (length before) (length (before ++ e ∷ [])) ≡ length (before ++ e ∷ []) = omega (arith, more) in
      ap (λ k. Ok (record (under_way n side before e) { mark = k })) mark

  -- ---- a tick

  abbrev silent : Event → HistoryEntry
  silent event = record { event = event; answer = Silent }

  abbrev others : List Event
  others = Periodic 1 ∷ Periodic 2 ∷ Periodic 3 ∷ Periodic 4 ∷ Periodic 5 ∷ Periodic 6 ∷ Periodic 7 ∷ Periodic 8 ∷ Periodic 9 ∷ []

  -- after the calls of the other slots
  abbrev called : List HistoryEntry → List HistoryEntry
  called history = silent (Periodic 9) ∷ silent (Periodic 8) ∷ silent (Periodic 7) ∷ silent (Periodic 6) ∷ silent (Periodic 5)
      ∷ silent (Periodic 4) ∷ silent (Periodic 3) ∷ silent (Periodic 2) ∷ silent (Periodic 1) ∷ history

  abbrev world : List ℕ → List HistoryEntry → Connection → Side → List Sent → ℕ → World
  world numbers history k side sent mark = record { node = node numbers history k; sides = side ∷ []; sent = sent; mark = mark }

  others_silent : (numbers : List ℕ) (history : List HistoryEntry) (k : Connection) (side : Side) (sent : List Sent) (mark : ℕ)
      → handles_all m served others (world numbers history k side sent mark) ≡ world numbers (called history) k side sent mark
  unfolding happened
  others_silent numbers history k side sent mark = refl

  silent_call : (c d : Connection) (numbers : List ℕ) (history : List HistoryEntry) (event : Event) → is_live d.state ≡ true
      → happened m (node numbers history c) event 0 c (leaves d numbers Step.Drop)
      ≡ record { node = node numbers (silent event ∷ history) d; sent = None; gone = None }
  unfolding happened
  silent_call c d numbers history event l =
      ap (λ b. record { node = node numbers (silent event ∷ history) d; sent = None; gone = (if is_live c.state && not b then Some d else None) }) l
      ∙ ap (λ b. record { node = node numbers (silent event ∷ history) d; sent = None; gone = (if b then Some d else None) }) (and_no (is_live c.state))

  -- something is outstanding, which is sent again with the same segment
  pub record Awaited (k : Connection) (s : PlainSegment) (limit : ℕ) : Type 0 where
    pub live : is_live k.state ≡ true
    pub sockets : k.sockets ≡ own
    pub ticks : (age : ℕ) (numbers : List ℕ) → on_tick m (aged age k) numbers ≡ by_beat m (beat_at limit (age + 1)) (aged age k) numbers
    pub segment : (age : ℕ) → segment_of m (aged age k) (outstanding true k.state) ≡ Some s
    pub again : is_again (outstanding true k.state) ≡ true
    pub unasked : (at : Connection → Now) (age : ℕ) (numbers : List ℕ)
        → asked m at (leaves (aged age k) numbers (outstanding true k.state)) ≡ leaves (aged age k) numbers (outstanding true k.state)

  module _ (numbers : List ℕ) (side : Side) (mine : client_sockets side ≡ own) (fresh : side.history ≡ []) (k : Connection) (s : PlainSegment)
      (limit : ℕ) (is : Awaited k s limit) where
    abbrev pub copy : ℕ → Bool → ℕ → Sent
    copy tick_of again id = sent_by (FromNode 1) tick_of again id s

    abbrev pub resting : List HistoryEntry → ℕ → List Sent → World
    resting history age sent = at_rest (node numbers history (aged age k)) side sent

    abbrev pub sending : List HistoryEntry → ℕ → List Sent → Sent → World
    sending history age before e = under_way (node numbers history (aged age k)) side before e

    abbrev after : NodeStep → World → World
    after r w = handles_all m served others (node_stepped w r)

    has_room : (w : World) → length w.sent + 10 ≤ 65535 → acts m served w Act.Tick ≡ Ok (does m served w Act.Tick)
    has_room w room = ap (λ b. option_map_or Err (if b then Some Full else None) (Ok (does m served w Act.Tick))) (le-ltb 65535 (length w.sent + 10) room)

    waits : (age : ℕ) (history : List HistoryEntry) (sent : List Sent) → beat_at limit (age + 1) ≡ Beat.Wait → length sent + 10 ≤ 65535
        → acts m served (resting history age sent) Act.Tick ≡ Ok (resting (called (silent (Periodic 0) ∷ history)) (age + 1) sent)
    waits age history sent beat room =
        let c : Connection = aged age k in
        let w : World = resting history age sent in
        let at : Connection → Now = snapshot (node numbers history c) (Periodic 0) 0 in
        has_room w room
        ∙ ap (λ (o : Outcome). Ok (after (happened m (node numbers history c) (Periodic 0) 0 c (asked m at o)) w))
        (is.ticks age numbers ∙ ap (λ b. by_beat m b c numbers) beat)
        ∙ ap (λ (r : NodeStep). Ok (after r w)) (silent_call c (aged (age + 1) k) numbers history (Periodic 0) is.live)
        ∙ ap (λ (v : World). Ok v) (others_silent numbers (silent (Periodic 0) ∷ history) (aged (age + 1) k) side sent (length sent))

    -- the next copy is under way
    record Again (age : ℕ) (history : List HistoryEntry) (sent : List Sent) : Type 0 where
      later : List HistoryEntry
      id : ℕ
      tick_of : ℕ
      is_sent : acts m served (resting history age sent) Act.Tick ≡ Ok (sending later (age + 1) sent (copy tick_of true id))

    again : (age : ℕ) (history : List HistoryEntry) (sent : List Sent) → beat_at limit (age + 1) ≡ Beat.Again → length sent + 10 ≤ 65535
        → Again age history sent
    again age history sent beat room =
        let c : Connection = aged age k in
        let d : Connection = aged (age + 1) k in
        let w : World = resting history age sent in
        let st : Step = outstanding true k.state in
        let at : Connection → Now = snapshot (node numbers history c) (Periodic 0) 0 in
        let now : List HistoryEntry = remembered m pages lawful served addr setup request (Periodic 0) st history in
        let id : ℕ = ident_of now in
        let number : (if same_sockets own (client_sockets side) then 1 else 0) ≡ 1 =
        ap (λ (z : Sockets). if same_sockets own z then 1 else 0) mine ∙ ap (λ (b : Bool). if b then 1 else 0) (same_self own) in
        let w' : World = record w { node = node numbers now d } in
        record {
          later = called now;
          id = id;
          tick_of = ticks_of now;
          is_sent = has_room w room
              ∙ ap (λ (o : Outcome). Ok (after (happened m (node numbers history c) (Periodic 0) 0 c (asked m at o)) w))
              (is.ticks age numbers ∙ ap (λ b. by_beat m b c numbers) beat)
              ∙ ap (λ (o : Outcome). Ok (after (happened m (node numbers history c) (Periodic 0) 0 c o) w)) (is.unasked at (age + 1) numbers)
              ∙ ap (λ (r : NodeStep). Ok (after r w)) (answered m pages lawful served addr setup request c d numbers numbers history (Periodic 0)
              st s is.sockets (is.segment (age + 1)) is.live)
              ∙ ap (λ (b : Bool). Ok (handles_all m served others (posts w' (FromNode (if same_sockets own (client_sockets side) then 1 else 0)) b
              (OfSegment id s)))) is.again
              ∙ ap (λ j. Ok (handles_all m served others (posts w' (FromNode j) true (OfSegment id s)))) number
              ∙ ap (λ j. Ok (handles_all m served others (record w' {
                sent = sent ++ record { who = FromNode 1; tick = ticks_of now; epoch = length j; again = true; content = OfSegment id s } ∷ [];
              }))) fresh
              ∙ ap (λ (v : World). Ok v) (others_silent numbers now d side (sent ++ copy (ticks_of now) true id ∷ []) (length sent));
        }

    -- ---- the ticks of a line

    record Until (n age : ℕ) (history : List HistoryEntry) (sent : List Sent) : Type 0 where
      later : List HistoryEntry
      id : ℕ
      tick_of : ℕ
      is_sent : runs m served (replicate (suc n) Act.Tick) (resting history age sent) ≡ Ok (sending later (age + suc n) sent (copy tick_of true id))

    until : (n age : ℕ) (history : List HistoryEntry) (sent : List Sent) → expires limit age n ≡ true → length sent + 10 ≤ 65535 → Until n age history sent
    until zero age history sent f room =
        let a = again age history sent (again_is (beat_at limit (age + 1)) f) room in
        record { later = a.later; id = a.id; tick_of = a.tick_of; is_sent = ap (λ r. r >>= runs m served []) a.is_sent }
    until (suc n) age history sent f room =
        let both = and_true (is_wait (beat_at limit (age + 1))) (expires limit (age + 1) n) f in
        let rest = until n (age + 1) (called (silent (Periodic 0) ∷ history)) sent both.1 room in
        let same : age + 1 + suc n ≡ age + suc (suc n) = omega arith in
        record {
          later = rest.later;
          id = rest.id;
          tick_of = rest.tick_of;
          is_sent = ap (λ r. r >>= runs m served (replicate (suc n) Act.Tick)) (waits age history sent (wait_is (beat_at limit (age + 1)) both.0) room)
              ∙ rest.is_sent ∙ ap (λ j. Ok (sending rest.later j sent (copy rest.tick_of true rest.id))) same;
        }

    -- copies are lost, and the next one is under way
    pub record Lost (ticks : List ℕ) (before : List Sent) (w : World) : Type 0 where
      pub later : List HistoryEntry
      pub age : ℕ
      pub so_far : List Sent
      pub tick_of : ℕ
      pub id : ℕ
      pub repeated : Bool
      pub few : length so_far ≤ length before + length ticks
      pub ends : (more : List Line) → EndsBy (Round ∷ more) (sending later age so_far (copy tick_of repeated id)) → EndsBy (lost_copies ticks ++ more) w

    pub loses_all : (ticks : List ℕ) (age : ℕ) (history : List HistoryEntry) (before : List Sent) (tick_of id : ℕ) (repeated : Bool)
        → all_expire limit age ticks ≡ true → length before + length ticks + 11 ≤ 65535
        → Lost ticks before (sending history age before (copy tick_of repeated id))
    loses_all [] age history before tick_of id repeated f room = record {
      later = history;
      age = age;
      so_far = before;
      tick_of = tick_of;
      id = id;
      repeated = repeated;
      few = omega arith;
      ends = λ more h. h;
    }
    loses_all (zero ∷ ticks) age history before tick_of id repeated f room = absurd (cc)
    loses_all (suc n ∷ ticks) age history before tick_of id repeated f room =
        let both = and_true (expires limit age n) (all_expire limit (age + suc n) ticks) f in
        let e : Sent = copy tick_of repeated id in
        let all : List Sent = before ++ e ∷ [] in
        let long : length all ≡ suc (length before) = one_longer before e in
        let u = until n age history all both.0 (omega (arith, long, room)) in
        let rest = loses_all ticks (age + suc n) u.later all u.tick_of u.id true both.1 (omega (arith, long, room)) in
        record {
          later = rest.later;
          age = rest.age;
          so_far = rest.so_far;
          tick_of = rest.tick_of;
          id = rest.id;
          repeated = rest.repeated;
          few = (let l = rest.few in omega (arith, l, long));
          ends = λ more h. one_line Lose (Tick (suc n) ∷ (lost_copies ticks ++ more)) (sending history age before e) (resting history age all)
              (loses (node numbers history (aged age k)) side before e)
              (one_line (Tick (suc n)) (lost_copies ticks ++ more) (resting history age all)
              (sending u.later (age + suc n) all (copy u.tick_of true u.id)) (ap (λ r. with_mark (length all) r) u.is_sent) (rest.ends more h));
        }
