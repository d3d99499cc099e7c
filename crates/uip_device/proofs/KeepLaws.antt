-- A device satisfies the guarantee of its node, move by move.
use Rattle.uip_device.proofs.Prelude.{All, flat_map, ◌≡◌, ℕ, List, [], ◌∷◌, ◌++◌, map, refl, sym, ap, ◌∙◌, subst, Guard, IsAddr, IsPaged}
use Rattle.uip_device.proofs.Prelude.{IsU32, Pages, AppSpec, Ghosts, Addr, Event, Reply, HasBytes, AbstractNode, Rules, initial_node}
use Rattle.uip_device.proofs.Prelude.{IsNode, TraceConforms, at_every_port, TraceEntry, trace_of, IsDecoded, every_step_of_pages, LineStep}
use Rattle.uip_device.proofs.Prelude.{trace_over, turns_then, sends, turn_events, Answered, AnswersAll, HasDelivered, IsFreshDevice}
use Rattle.uip_device.proofs.Prelude.{left_text_of, lefts_of, moves_of, AllHandOutSent, IsOfBytes, OutputIsSent, CallsConform, KeepsU32}
use Rattle.uip_device.proofs.Prelude.{MoveTrace, Gives, Makes, Move, Writing, arrivals_by, bytes_of_move, events_of_move, goes_by_datagram}
use Rattle.uip_device.proofs.Prelude.{guarded_events, run_move, with_value, HandsOut, Device}
use Rattle.node_laws.proofs.HonestPeers.{arrives_over_steps}
use Rattle.node_laws.specs.LossyPeers.{ArrivesIn}
use Rattle.uip_node.proofs.DeliveredBytes.{page_bytes}
use Rattle.uip_node.proofs.Steadiness.{steady_of}
use Rattle.uip_device.proofs.AnswerLaws.{MovesOn, moves_on, none_left}
use Rattle.uip_device.proofs.BringLaws.{steps_are, steps_of, steps_of_move}

module _ {A S : Type 0} (g : Ghosts A S) where
  module _ (m : AppSpec) (pages : Pages) (lawful : IsPaged m pages) (page : HasBytes pages) (own : Addr) (is : IsAddr own) (gives : Writing)
      (rules : Rules) where
    -- the steps of moves, and of one
    abbrev moves_steps : List ℕ → List Move → AbstractNode → List LineStep
    moves_steps before moves n = steps_of m (steady_of m pages lawful) (page_bytes m pages lawful page) g.served own is rules gives before moves n

    abbrev move_steps : List ℕ → Move → AbstractNode → List LineStep
    move_steps before move n = steps_of_move m (steady_of m pages lawful) (page_bytes m pages lawful page) g.served own is rules gives before move n

    -- the turns of what a move brings
    abbrev turns_by : List ℕ → Move → AbstractNode → List TraceEntry
    turns_by before move n = trace_of m g.served (events_of_move m g.served gives rules own before move n) (with_value gives move n)

    -- moves hand out what is sent in the turns of the node
    record InTurns (before : List ℕ) (all : List Answered) (a c : Device A S) (n : AbstractNode) (more : AnswersAll g gives all a c) : Type 0 where
      moves : List MoveTrace
      answered : map (λ it. it.answered) moves ≡ all
      left : map (λ it. it.left) moves ≡ lefts_of g gives all a c more
      each : AllHandOutSent m g.served gives rules own before (left_text_of a) n moves
      turns : flat_map (λ it. it.turns) moves ≡ trace_over m g.served (moves_steps before (moves_of all) n) n

    hands_out_sent : (before : List ℕ) (it : Answered) (a b : Device A S) (n : AbstractNode) → MovesOn g m own gives rules before it.move a b it.handed n
        → OutputIsSent rules.key own (left_text_of a) (events_of_move m g.served gives rules own before it.move n)
        (record { answered = it; left = left_text_of b; turns = turns_by before it.move n })
    hands_out_sent before it a b n first =
        let events : List Event = events_of_move m g.served gives rules own before it.move n in
        let here : AbstractNode = with_value gives it.move n in
        record {
          over = turn_events m g.served events here;
          hands = subst (λ (replies : List Reply). HandsOut (goes_by_datagram it.move) rules.key own (left_text_of a) it.handed
              (left_text_of b) replies) (sym (sends m g.served events here)) first.hands;
        }

    -- the trace of a move, and of the steps after it
    move_turns : (before : List ℕ) (move : Move) (steps : List LineStep) (n : AbstractNode)
        → turns_by before move n ++ trace_over m g.served steps (run_move m g.served gives rules before move n).node ≡ trace_over m g.served
        (move_steps before move n ++ steps) n
    move_turns before (Makes call) steps n = sym (turns_then m g.served (guarded_events rules m g.served (arrivals_by before call) n) steps n)
    move_turns before (Gives number text) steps n = refl

    in_turns : (before : List ℕ) (all : List Answered) (a c : Device A S) (n : AbstractNode) → a.guard.rules ≡ rules
        → IsNode g m own a.node n → HasDelivered before a
        → (more : AnswersAll g gives all a c) → InTurns before all a c n more
    in_turns before [] a c n ruled represented delivered more = record { moves = []; answered = refl; left = refl; each = tt; turns = refl }
    in_turns before (it ∷ all) a c n ruled represented delivered more =
        let b : Device A S = more.0 in
        let first : MovesOn g m own gives rules before it.move a b it.handed n = moves_on g m own gives rules before it.move a b it.handed n
        ruled represented delivered more.1 in
        let these : List TraceEntry = turns_by before it.move n in
        let behind : List ℕ = before ++ bytes_of_move it.move in
        let next : AbstractNode = (run_move m g.served gives rules before it.move n).node in
        let rest = in_turns behind all b c next first.rules_are first.represented first.input more.2 in
        record {
          moves = record { answered = it; left = left_text_of b; turns = these } ∷ rest.moves;
          answered = ap (λ l. it ∷ l) rest.answered;
          left = ap (λ l. left_text_of b ∷ l) rest.left;
          each = (hands_out_sent before it a b n first, rest.each);
          turns = ap (λ l. these ++ l) rest.turns ∙ move_turns before it.move (moves_steps behind (moves_of all) next) n;
        }

  module _ (m : AppSpec) (pages : Pages) (lawful : IsPaged m pages) (page : HasBytes pages) (gives : Writing) (low : KeepsU32 gives)
      (numbers : List ℕ) (words : All IsU32 numbers) (own : Addr) (is : IsAddr own) (rules : Rules) where
    pub keeps_calls : (all : List Answered) → All IsOfBytes (moves_of all) → (old new : Device A S) → IsFreshDevice g m numbers own rules old
        → (answered : AnswersAll g gives all old new) → CallsConform m pages g.served gives numbers rules own all (lefts_of g gives all old new answered)
    keeps_calls all bytes old new fresh answered =
        let node : AbstractNode = initial_node own numbers in
        let steps : List LineStep = moves_steps m pages lawful page own is gives rules [] (moves_of all) node in
        let are = steps_are m (steady_of m pages lawful) (page_bytes m pages lawful page) g.served own is rules gives low numbers words (moves_of all) bytes in
        let t = in_turns m pages lawful page own is gives rules [] all old new node (ap (λ (x : Guard). x.rules) fresh.guard)
        fresh.represented fresh.input answered in
        let kept = every_step_of_pages m pages lawful page g.served own is numbers words steps are in
        record {
          moves = t.moves;
          answered = t.answered;
          left = t.left;
          each = subst (λ (l : List ℕ). AllHandOutSent m g.served gives rules own [] l node t.moves) (none_left old fresh.none) t.each;
          keeps = subst (λ (l : List TraceEntry). TraceConforms (at_every_port pages) g.served l) (sym t.turns) kept.0;
          read = subst (λ (l : List TraceEntry). All (IsDecoded own) l) (sym t.turns) kept.1;
          arrives = subst (λ (l : List TraceEntry). ArrivesIn m pages l) (sym t.turns) (arrives_over_steps m pages lawful g.served own numbers words steps are);
        }
