-- The output of moves, one after the other.
use Rattle.uip_device.proofs.Prelude.{◌≡◌, ℕ, Bool, true, false, List, [], ◌∷◌, ◌++◌, Option, None, if◌then◌else◌, refl, sym, ap, ◌∙◌}
use Rattle.uip_device.proofs.Prelude.{append-nil, append_assoc, subst, AppSpec, Ghosts, datagram_in, Event, Item, ◌⊎◌, inl, inr, true≢false}
use Rattle.uip_device.proofs.Prelude.{AnswersOver, Buffer, Byte, map, IsNoise, PartState, Spoils, WasFed, is_free, state_in, arrivals_after}
use Rattle.uip_device.proofs.Prelude.{Calls, Reply, AbstractNode, initial_node, Addr, initial_station, run, text_of, IsNode}
use Rattle.uip_device.proofs.Prelude.{sent_text_on_line, Call, DoesNothing, Drains, bytes_of_call, arrivals_by, is_by_datagram, Due, Guard}
use Rattle.uip_device.proofs.Prelude.{GuardCounts, Key, LineIsServed, Rules, counts_of_move, counts_reached, guard_reached, guarded_run}
use Rattle.uip_device.proofs.Prelude.{reply_bytes, slip_text, text_sent, Answered, Answers, AnswersAll, AnswersMove, HasDelivered}
use Rattle.uip_device.proofs.Prelude.{IsFreshDevice, datagrams_handed, left_text_of, line_handed, moves_of, text_to_come, Bring, Gives}
use Rattle.uip_device.proofs.Prelude.{Makes, Move, Writing, bytes_of_move, goes_by_datagram, run_move, datagrams_sent, line_sent}
use Rattle.uip_device.proofs.Prelude.{node_reached, HandsOut, SendsOver, datagram_sent, Device}
use Rattle.uip_node.specs.declared.node.Node.{Node}
unfoldable use Rattle.guarded_node.specs.Wire.{leaving}
use Rattle.uip_device.proofs.CallLaws.{line_text}
use Rattle.uip_device.proofs.FrameLaws.{reported_arrivals}
use Rattle.uip_slip.proofs.PartLaws.{frames-plain}
use Rattle.uip_slip.proofs.PlainLaws.{parts-plain}
use Rattle.uip_device.proofs.SendLaws.{by_datagram, on_line, sends_by, sends_none}
use Rattle.uip_device.proofs.PartLaws.{fed_anywhere}

-- the output of one call over the line, and then of the others
line_step : (v : Bool) (key : Option Key) (own : Addr) (replies : List Reply) (before handed left rest more last : List ℕ)
    → HandsOut v key own before handed left replies → left ++ rest ≡ more ++ last
    → before ++ ((if v then [] else text_sent key own replies) ++ rest) ≡ ((if v then [] else handed) ++ more) ++ last
line_step true key own replies before handed left rest more last h e = ap (λ l. l ++ rest) (sym h.1) ∙ e
line_step false key own replies before handed left rest more last h e =
    sym (append_assoc before (text_sent key own replies) rest) ∙ ap (λ l. l ++ rest) h ∙ append_assoc handed left rest
    ∙ ap (λ l. handed ++ l) e ∙ sym (append_assoc handed more last)

-- and over the other link
datagram_step : (v : Bool) (key : Option Key) (own : Addr) (replies : List Reply) (before handed left : List ℕ)
    (more others : List (List ℕ)) → HandsOut v key own before handed left replies → more ≡ others
    → (if v then handed ∷ [] else []) ++ more ≡ (if v then datagram_sent key own replies ∷ [] else []) ++ others
datagram_step true key own replies before handed left more others h e = ap (λ d. d ∷ more) h.0 ∙ ap (λ l. datagram_sent key own replies ∷ l) e
datagram_step false key own replies before handed left more others h e = e

-- nothing is left of a text
pub none_left : {A S : Type 0} (d : Device A S) → d.left ≡ None → left_text_of d ≡ []
none_left d none = ap (λ l. text_to_come (datagram_in d.node.packet) l) none

module _ {A S : Type 0} (g : Ghosts A S) where
  -- a call that does nothing
  pub answers_nothing : (d : Device A S) → Answers g DoesNothing d d []
  answers_nothing d = record {
    input = λ before h. subst (λ (l : List ℕ). HasDelivered l d) (sym (append-nil before)) h;
    sends = λ before h. sends_none g d.guard d.node (λ own replies. HandsOut false d.guard.rules.key own (left_text_of d) []
        (left_text_of d) replies) (λ own. append-nil (left_text_of d));
  }

  -- pending output is written
  pub answers_on : (d : Device A S) (left : Option ℕ) (handed : List ℕ) → left_text_of d ≡ handed ++ text_to_come (datagram_in d.node.packet) left
      → Answers g Drains d (record d { left = left }) handed
  answers_on d left handed e = record {
    input = λ before h. subst (λ (l : List ℕ). HasDelivered l d) (sym (append-nil before)) h;
    sends = λ before h.
        sends_none g d.guard d.node (λ own replies. HandsOut false d.guard.rules.key own (left_text_of d) handed
        (text_to_come (datagram_in d.node.packet) left) replies)
        (λ own. append-nil (left_text_of d) ∙ e);
  }

  -- a call with a datagram, with no output pending: what its node sends is written whole
  pub answers_whole : (call : Call) (old : Device A S) (guard : Guard) (new : Node A S) (handed : List ℕ) → is_free old.part ≡ true
      → old.left ≡ None → is_by_datagram call ≡ true → bytes_of_call call ≡ []
      → ((before : List ℕ) → SendsOver g (arrivals_by before call) old.guard guard old.node new
      (λ own replies. handed ≡ datagram_sent old.guard.rules.key own replies))
      → Answers g call old (record old { guard = guard; node = new }) handed
  answers_whole call old guard new handed free none whole nothing sends = record {
    input = λ before h.
        subst (λ (l : List ℕ). WasFed l (state_in new.packet.area old.part)) (sym (ap (λ (l : List ℕ). before ++ l) nothing ∙ append-nil before))
        (fed_anywhere old.part old.node.packet.area new.packet.area before free h);
    sends = λ before h.
        subst (λ (b : Bool). SendsOver g (arrivals_by before call) old.guard guard old.node new
        (λ own replies. HandsOut b old.guard.rules.key own (left_text_of old) handed (left_text_of (record old { node = new })) replies)) (sym whole)
        (by_datagram g (arrivals_by before call) old.guard guard old.node new (left_text_of old) handed (left_text_of (record old { node = new }))
        (none_left (record old { node = new }) none ∙ sym (none_left old none)) (sends before));
  }

  -- the text of what a slot sends is written, or its start
  pub answers_slot : (slot : ℕ) (old : Device A S) (new : Node A S) (left : Option ℕ) (handed : List ℕ) → is_free old.part ≡ true → old.left ≡ None
      → SendsOver g (Due slot ∷ []) old.guard old.guard old.node new (λ own replies. text_sent old.guard.rules.key own replies ≡ handed
      ++ text_to_come (datagram_in new.packet) left)
      → Answers g (Calls slot) old (record old { node = new; left = left }) handed
  answers_slot slot old new left handed free none sends = record {
    input = λ before h.
        subst (λ (l : List ℕ). WasFed l (state_in new.packet.area old.part)) (sym (append-nil before))
        (fed_anywhere old.part old.node.packet.area new.packet.area before free h);
    sends = λ before h.
        on_line g (Due slot ∷ []) old.guard old.guard old.node new (left_text_of old) handed (text_to_come (datagram_in new.packet) left)
        (none_left old none) sends;
  }

  -- a slot that sends nothing changes no packet
  pub answers_silent : (call : Call) (old : Device A S) (new : Node A S) → bytes_of_call call ≡ [] → new.packet ≡ old.node.packet
      → ((before : List ℕ) → SendsOver g (arrivals_by before call) old.guard old.guard old.node new
      (λ own replies. HandsOut (is_by_datagram call) old.guard.rules.key own (left_text_of old) [] (left_text_of (record old { node = new })) replies))
      → Answers g call old (record old { node = new }) []
  answers_silent call old new nothing same sends = record {
    input = λ before h.
        subst (λ (l : List ℕ). WasFed l (state_in new.packet.area old.part)) (sym (ap (λ (l : List ℕ). before ++ l) nothing ∙ append-nil before))
        (subst (λ (b : Buffer). WasFed before (state_in b.area old.part)) (sym same) h);
    sends = λ before h. sends before;
  }

  -- noise comes, and then the call is made
  pub spoils : (call : Call) (old new : Device A S) (part : PartState) (handed : List ℕ)
      → ((bytes noise area : List ℕ) → IsNoise noise → WasFed bytes (state_in area old.part) → WasFed (bytes ++ noise) (state_in area part))
      → Answers g call (record old { part = part }) new handed → Spoils g call old new handed
  spoils call old new part handed lost answers = λ noise is. (
    record old { part = part },
    record {
      input = λ before h. lost before noise old.node.packet.area is h;
      sends = λ before h.
          sends_by g [] (arrivals_after 0 before (map Byte noise)) old.guard old.guard old.node old.node
          (λ own replies. HandsOut false old.guard.rules.key own (left_text_of old) [] (left_text_of old) replies)
          (reported_arrivals before noise [] (frames-plain before noise (parts-plain noise is.plain)))
          (sends_none g old.guard old.node (λ own replies. HandsOut false old.guard.rules.key own (left_text_of old) [] (left_text_of old)
          replies) (λ own. append-nil (left_text_of old)));
    },
    answers,
  )

  -- a call that writes the packet, after it was given up
  exact : (call : Call) (old : Device A S) (part : PartState) (final : Device A S) (handed : List ℕ) (writes : Bool) → writes ≡ true
      → (is_free old.part ≡ true → part ≡ old.part) → Answers g call (record old { part = part }) final handed
      → (is_free old.part ≡ true) ⊎ (writes ≡ false) → Answers g call old final handed
  exact call old part final handed writes sure kept told (inl free) =
      subst (λ (p : PartState). Answers g call (record old { part = p }) final handed) (kept free) told
  exact call old part final handed writes sure kept told (inr quiet) = absurd (true≢false (sym sure ∙ quiet))

  pub over_part : (call : Call) (old : Device A S) (part : PartState) (final : Device A S) (handed : List ℕ) (writes : Bool) → writes ≡ true
      → (is_free old.part ≡ true → part ≡ old.part)
      → (is_free old.part ≡ false → (bytes noise area : List ℕ) → IsNoise noise → WasFed bytes (state_in area old.part)
      → WasFed (bytes ++ noise) (state_in area part))
      → Answers g call (record old { part = part }) final handed → AnswersOver g call writes old final handed
  over_part call old part final handed writes sure kept lost told = record {
    answers = λ w. exact call old part final handed writes sure kept told w;
    spoils = λ busy _. spoils call old final part handed (lost busy) told;
  }

  module _ (m : AppSpec) (own : Addr) (gives : Writing) (rules : Rules) where
    -- one move: the device was fed its bytes, its guarded node took what it brings, and this part of what is sent is written
    pub record MovesOn (before : List ℕ) (move : Move) (a b : Device A S) (handed : List ℕ) (n : AbstractNode) : Type 0 where
      pub kept : g.config b.node.shared ≡ g.config a.node.shared
      pub rules_are : b.guard.rules ≡ rules
      pub counts : b.guard.counts ≡ counts_of_move m g.served gives rules before move n a.guard.counts
      pub input : HasDelivered (before ++ bytes_of_move move) b
      pub represented : IsNode g m own b.node (run_move m g.served gives rules before move n).node
      pub hands : HandsOut (goes_by_datagram move) rules.key own (left_text_of a) handed (left_text_of b) (run_move m g.served gives rules before move n).sent

    pub moves_on : (before : List ℕ) (move : Move) (a b : Device A S) (handed : List ℕ) (n : AbstractNode) → a.guard.rules ≡ rules
        → IsNode g m own a.node n → HasDelivered before a
        → AnswersMove g gives move a b handed → MovesOn before move a b handed n
    moves_on before (Makes call) a b handed n same represented delivered answers =
        let sends = answers.sends before delivered in
        let took = sends.each m own n represented in
        record {
          kept = sends.kept;
          rules_are = sends.rules ∙ same;
          counts = subst (λ (r : Rules). b.guard.counts ≡ counts_of_move m g.served gives r before (Makes call) n a.guard.counts) same took.counts;
          input = answers.input before delivered;
          represented = subst (λ (r : Rules). IsNode g m own b.node (run_move m g.served gives r before (Makes call) n).node) same took.represented;
          hands = subst (λ (r : Rules). HandsOut (is_by_datagram call) r.key own (left_text_of a) handed (left_text_of b)
              (run_move m g.served gives r before (Makes call) n).sent) same took.sent;
        }
    moves_on before (Gives number text) a b handed n same represented delivered changes = record {
      kept = changes.0.kept;
      rules_are = ap (λ (x : Guard). x.rules) changes.0.guard ∙ same;
      counts = ap (λ (x : Guard). x.counts) changes.0.guard;
      input = subst (λ (l : List ℕ). HasDelivered l b) (sym (append-nil before)) (changes.0.input before delivered);
      represented = changes.0.represented m own n represented;
      hands = append-nil (left_text_of a) ∙ sym changes.0.left ∙ ap (λ l. l ++ left_text_of b) (sym changes.1);
    }

    record Goes (before : List ℕ) (all : List Answered) (a c : Device A S) (n : AbstractNode) : Type 0 where
      line : left_text_of a ++ line_sent m g.served gives rules own before (moves_of all) n ≡ line_handed all ++ left_text_of c
      datagrams : datagrams_handed all ≡ datagrams_sent m g.served gives rules own before (moves_of all) n
      represented : IsNode g m own c.node (node_reached m g.served gives rules before (moves_of all) n)
      guard : c.guard ≡ record { rules = rules; counts = counts_reached m g.served gives rules before (moves_of all) n a.guard.counts }
      kept : g.config c.node.shared ≡ g.config a.node.shared

    with_rules : (x : Guard) (r : Rules) → x.rules ≡ r → x ≡ record { rules = r; counts = x.counts }
    with_rules x r e = ap (λ (y : Rules). record x { rules = y }) e

    goes : (before : List ℕ) (all : List Answered) (a c : Device A S) (n : AbstractNode) → a.guard.rules ≡ rules → IsNode g m own a.node n
        → HasDelivered before a → AnswersAll g gives all a c → Goes before all a c n
    goes before [] a c n ruled represented delivered same = record {
      line = append-nil (left_text_of a) ∙ ap (λ (d : Device A S). left_text_of d) same;
      datagrams = refl;
      represented = subst (λ (d : Device A S). IsNode g m own d.node n) same represented;
      guard = ap (λ (d : Device A S). d.guard) (sym same) ∙ with_rules a.guard rules ruled;
      kept = ap (λ (d : Device A S). g.config d.node.shared) (sym same);
    }
    goes before (it ∷ all) a c n ruled represented delivered more =
        let b = more.0 in
        let v = goes_by_datagram it.move in
        let first : MovesOn before it.move a b it.handed n = moves_on before it.move a b it.handed n ruled represented delivered more.1 in
        let behind = before ++ bytes_of_move it.move in
        let here : AbstractNode = (run_move m g.served gives rules before it.move n).node in
        let replies = (run_move m g.served gives rules before it.move n).sent in
        let rest = goes behind all b c here first.rules_are first.represented first.input more.2 in
        record {
          line = line_step v rules.key own replies (left_text_of a) it.handed (left_text_of b) (line_sent m g.served gives rules own behind
              (moves_of all) here) (line_handed all) (left_text_of c) first.hands rest.line;
          datagrams = datagram_step v rules.key own replies (left_text_of a) it.handed (left_text_of b) (datagrams_handed all)
              (datagrams_sent m g.served gives rules own behind (moves_of all) here) first.hands rest.datagrams;
          represented = rest.represented;
          guard = rest.guard ∙ ap (λ (x : GuardCounts).
              record { rules = rules; counts = counts_reached m g.served gives rules behind (moves_of all) here x }) first.counts;
          kept = rest.kept ∙ first.kept;
        }

  -- without a secret the text is that of the serial line
  plain_text : (own : Addr) (replies : List Reply) → text_sent None own replies ≡ text_of own replies
  unfolding leaving
  plain_text own [] = refl
  plain_text own (reply ∷ replies) = ap (λ l. slip_text (reply_bytes own reply) ++ l) (plain_text own replies)

  module _ (m : AppSpec) (gives : Writing) (numbers : List ℕ) (own : Addr) (rules : Rules) (all : List Answered) (old new : Device A S)
      (fresh : IsFreshDevice g m numbers own rules old) (answered : AnswersAll g gives all old new) where
    whole : Goes m own gives rules [] all old new (initial_node own numbers)
    whole = goes m own gives rules [] all old new (initial_node own numbers) (ap (λ (x : Guard). x.rules) fresh.guard) fresh.represented fresh.input answered

    pub line_view : line_handed all ++ left_text_of new ≡ line_sent m g.served gives rules own [] (moves_of all) (initial_node own numbers)
    line_view = sym whole.line ∙ ap (λ l. l ++ line_sent m g.served gives rules own [] (moves_of all) (initial_node own numbers)) (none_left old fresh.none)

    pub datagrams_reported : datagrams_handed all ≡ datagrams_sent m g.served gives rules own [] (moves_of all) (initial_node own numbers)
    datagrams_reported = whole.datagrams

    pub node_represents : IsNode g m own new.node (node_reached m g.served gives rules [] (moves_of all) (initial_node own numbers))
    node_represents = whole.represented

    pub guard_counted : new.guard ≡ guard_reached m g.served gives rules (moves_of all) (initial_node own numbers)
    guard_counted =
        whole.guard ∙ ap (λ (x : Guard). record {
          rules = rules;
          counts = counts_reached m g.served gives rules [] (moves_of all)
              (initial_node own numbers) x.counts;
        }) fresh.guard

    pub same_kept : g.config new.node.shared ≡ g.config old.node.shared
    same_kept = whole.kept

    pub line_served : (pace : ℕ) (items : List Item) → Bring pace items (moves_of all) → new.left ≡ None
        → LineIsServed m g.served numbers own rules pace items (line_handed all)
    line_served pace items bring none =
        let first : AbstractNode = initial_node own numbers in
        let handed : line_handed all ≡ text_sent rules.key own (guarded_run rules m g.served (arrivals_after pace [] items) first).sent =
        sym (append-nil (line_handed all)) ∙ ap (λ l. line_handed all ++ l) (sym (none_left new none))
        ∙ line_view
        ∙ line_text m g.served gives rules own pace items (moves_of all) first bring in
        record {
          sent = handed;
          same = λ no_key untouched.
              handed
              ∙ ap (λ (k : Option Key). text_sent k own (guarded_run rules m g.served (arrivals_after pace [] items) first).sent) no_key
              ∙ plain_text own (guarded_run rules m g.served (arrivals_after pace [] items) first).sent
              ∙ ap (λ (l : List Event). text_of own (run m g.served l first).sent) untouched
              ∙ sym (sent_text_on_line m g.served own pace items (initial_station own numbers));
        }
