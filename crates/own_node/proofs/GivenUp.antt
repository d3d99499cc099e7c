-- A call that first brings the RST of a connection that is given up: by the RST nothing is captured, and no connection opens.
use Rattle.own_node.proofs.Prelude.{◌≡◌, ◌∙◌, ℕ, ◌+◌, ◌<◌, ◌&&◌, ◌⊎◌, inl, inr, Bool, true, false, List, [], ◌∷◌, ◌++◌, append-nil}
use Rattle.own_node.proofs.Prelude.{if◌then◌else◌, Option, Some, None, refl, sym, ap, subst, arith, both_ways, position, PlainSegment}
use Rattle.own_node.proofs.Prelude.{has_rst, AppSpec, AppState, Snapshot, State, Closed, SynRcvd, Established, CloseWait, Connection}
use Rattle.own_node.proofs.Prelude.{Outcome, Sockets, asked, is_plain_syn, on_segment, reported_end, serves, AbstractNode, Event, NodeStep}
use Rattle.own_node.proofs.Prelude.{Arrived, arrives_at, connection_in, happened, run, snapshot, step, is_accepted}
use Rattle.app_events.specs.declared.ending.Ending.TheVariants.{Reset}
use Rattle.own_app.specs.Prelude.{messages_text, opened_in}
use Rattle.own_node.proofs.Containing.{Contains, view_accepted}
use Rattle.own_node.proofs.Slots.{index_set}
use Rattle.own_node.proofs.Slots.IndexSet.{new_at, old_at}
use Rattle.own_node.proofs.WrittenLaws.{Follows, HasWrittenText, Holds, HoldsAfter, accepted_is, events_leave, step_follows, view_at}
use Rattle.tcp_machine.specs.Ask.{closes, leaves}
use Rattle.tcp_machine.specs.declared.step.Step.{Step}
use Rattle.uip_node.proofs.Stepping.{stranger_passes}

resets : (m : AppSpec) (c : Connection) (numbers : List ℕ) (s : PlainSegment) → has_rst s.flags ≡ true → on_segment m c numbers s
    ≡ leaves (closes c) (reported_end m Reset c.state c.part numbers) Step.Drop
unfolding on_segment
resets m c numbers s h = cc

-- At most one event; or it comes after a RST.
abbrev pub IsFew : List Event → Type 0
IsFew events =
    (events ≡ []) ⊎ (((e : Event) × (events ≡ e ∷ []))
    ⊎ ((p : Sockets) × (s : PlainSegment) × (e : Event) × (is_plain_syn s ≡ false) × (has_rst s.flags ≡ true) × (events ≡ Arrived p s ∷ e ∷ [])))

module _ (mine : ℕ → Bool) (seen : AppState → AppState) (own : List ℕ → List ℕ) (m : AppSpec) (contains : Contains mine seen own m) where
  own_reported : (st : State) (p : AppState) (numbers : List ℕ) → own (reported_end m Reset st p numbers) ≡ own numbers
  own_reported Established p numbers = contains.ended numbers p Reset
  own_reported CloseWait p numbers = contains.ended numbers p Reset
  own_reported _ p numbers = refl

  module _ (n : AbstractNode) where
    -- the numbers of the application stay, and no connection is accepted
    abbrev Quiet : NodeStep → Type 0
    Quiet r = (own r.node.numbers ≡ own n.numbers) × ((slot : ℕ) → (connection_in slot r.node).state ≡ SynRcvd → (connection_in slot n).state ≡ SynRcvd)

    shut : (event : Event) (slot : ℕ) (c : Connection) (numbers : List ℕ) → own numbers ≡ own n.numbers
        → Quiet (happened m n event slot c (leaves (closes c) numbers Step.Drop))
    unfolding happened
    shut event slot c numbers same = (
      same,
      λ at e. elim (index_set n.connections slot (closes c) at) [
        | new_at f v ↦ absurd (let z : Closed ≡ SynRcvd = sym (ap (λ (x : Connection). x.state) v) ∙ e in cc)
        | old_at h v ↦ ap (λ (x : Connection). x.state) (sym v) ∙ e
      ],
    )

    reset_at : (served : ℕ → Bool) (p : Sockets) (s : PlainSegment) (o : Option ℕ) → is_plain_syn s ≡ false → has_rst s.flags ≡ true
        → Quiet (arrives_at m served n p s o)
    reset_at served p s None plain rst =
        subst (λ (r : NodeStep). Quiet r) (stranger_passes m served n p s (ap (λ (b : Bool). b && served p.own_port.0) plain) rst) (refl, λ at e. e)
    reset_at served p s (Some slot) plain rst =
        let c : Connection = connection_in slot n in
        subst (λ (o : Outcome). Quiet (happened m n (Arrived p s) slot c (asked m (snapshot n (Arrived p s) slot) o))) (sym (resets m c n.numbers s rst))
        (shut (Arrived p s) slot c (reported_end m Reset c.state c.part n.numbers) (own_reported c.state c.part n.numbers))

    quiet_after : (served : ℕ → Bool) (p : Sockets) (s : PlainSegment) → is_plain_syn s ≡ false → has_rst s.flags ≡ true → Quiet (step m served n (Arrived p s))
    quiet_after served p s plain rst = reset_at served p s (position (serves p) n.connections) plain rst

  abbrev HoldsAt : AbstractNode → ℕ → ℕ → List ℕ → Type 0
  HoldsAt n count slot text = Holds mine seen own m contains n count slot text

  abbrev HoldsNext : AbstractNode → ℕ → ℕ → List ℕ → Type 0
  HoldsNext n count slot text = HoldsAfter mine seen own m contains n count slot text

  abbrev seen_at : ℕ → AbstractNode → Connection
  seen_at slot n = view_at mine seen own m contains slot n

  -- nothing was written to a connection that was only accepted
  none_written : (n : AbstractNode) (slot : ℕ) (text : List ℕ) → (connection_in slot n).state ≡ SynRcvd → HasWrittenText (seen_at slot n) text → text ≡ []
  none_written n slot text accepted h =
      let b : is_accepted (seen_at slot n).state ≡ true = view_accepted mine seen own (connection_in slot n) ∙ ap (λ (v : State). is_accepted v) accepted in
      sym h.text_is ∙ ap (λ (l : List Snapshot). messages_text l) (h.none (accepted_is (seen_at slot n).state b))

  -- after the RST as before it
  holds_after : (n after : AbstractNode) (count slot : ℕ) (text : List ℕ) → own after.numbers ≡ own n.numbers
      → ((connection_in slot after).state ≡ SynRcvd → (connection_in slot n).state ≡ SynRcvd) → HoldsAt n count slot text
      → HoldsNext after count slot (text ++ []) → HoldsAt after count slot text
  holds_after n after count slot text same accepted h next =
      let settled = next.settled in
      let few = h.settled.few in
      record {
        settled = record {
          few = omega (arith, few, ap (λ (l : List ℕ). opened_in l) same);
          tickets = settled.tickets;
          newest = settled.newest;
          apart = settled.apart;
          spent = settled.spent;
        };
        has = both_ways (is_accepted (connection_in slot after).state)
            (λ e. (let none : text ≡ [] = none_written n slot text (accepted (accepted_is (connection_in slot after).state e)) h.has in
            subst (λ (l : List ℕ). HasWrittenText (seen_at slot after) l) (ap (λ (b : Bool). if b then [] else text ++ []) e ∙ sym none) next.has))
            (λ e. subst (λ (l : List ℕ). HasWrittenText (seen_at slot after) l) (ap (λ (b : Bool). if b then [] else text ++ []) e ∙ append-nil text) next.has);
      }

  pub few_leave : (served : ℕ → Bool) (events : List Event) → IsFew events → (n : AbstractNode) → Follows mine seen own m contains n
      → (count slot : ℕ) (text : List ℕ) → count + 1 < 4294967296
      → HoldsAt n count slot text → HoldsNext (run m served events n).node count slot (text ++ [])
  few_leave served events (inl none) n f count slot text low h = events_leave mine seen own m contains served events (inl none) n f count slot text low h
  few_leave served events (inr (inl one)) n f count slot text low h = events_leave mine seen own m contains served events (inr one) n f count slot text low h
  few_leave served events (inr (inr it)) n f count slot text low h =
      let p : Sockets = it.0 in
      let s : PlainSegment = it.1 in
      let e : Event = it.2 in
      let after : AbstractNode = (step m served n (Arrived p s)).node in
      let quiet : Quiet n (step m served n (Arrived p s)) = quiet_after n served p s it.3 it.4 in
      let first : HoldsNext after count slot (text ++ []) = events_leave mine seen own m contains served (Arrived p s ∷ [])
      (inr (Arrived p s, refl)) n f count slot text low h in
      let between : HoldsAt after count slot text = holds_after n after count slot text quiet.0 (quiet.1 slot) h first in
      subst (λ (l : List Event). HoldsNext (run m served l n).node count slot (text ++ [])) (sym it.5)
      (events_leave mine seen own m contains served (e ∷ []) (inr (e, refl)) after (step_follows mine seen own m contains served
      (Arrived p s) n f) count slot text low between)
