-- One call of the node, for a station that represents it.
use Rattle.serve_loop.proofs.Prelude.{◌≡◌, ℕ, ◌≤◌, ◌<◌, ◌+◌, ◌-◌, Bool, List, [], ◌∷◌, ◌++◌, Option, Result, OnErr, OnOk, suc, zero, map}
use Rattle.serve_loop.proofs.Prelude.{refl, sym, ap, ◌∙◌, subst, add-one, add-suc, add-zero, append-nil, append_assoc, arith, Appends}
use Rattle.serve_loop.proofs.Prelude.{on_err_weaker, on_ok_weaker, Addr, AppSpec, Ghosts, appends_by, Appends-none, Node, Event, Reply}
use Rattle.serve_loop.proofs.Prelude.{tick, Periodic, AbstractNode, step, IsSent, Represents, Steps, BreaksOff, PrefixWritten, StationEvent}
use Rattle.serve_loop.proofs.Prelude.{OfMedium, OfNode, Station, AllWritten, station_after_all, station_after, output, reply_text}
use Rattle.serve_loop.proofs.Prelude.{MediumSpec, all_written, IsHere, IsNode}
use Rattle.serve_loop.proofs.AddrLaws.{step-addr}
use Rattle.serve_loop.proofs.RunLaws.{broke_by, broke_more, broke_one, broke_then, wrote_one}

module _ {A S : Type 0} (g : Ghosts A S) where
  abbrev At : AppSpec → Addr → Node A S → AbstractNode → Type 0
  At m own node n = IsNode g m own node n

  -- a step of the node is the step of each abstract node that it represents
  pub node_on : (m : AppSpec) (own : Addr) (old new : Node A S) (event : Event) (n : AbstractNode) → g.config new.shared ≡ g.config old.shared
      → Represents g new (step m g.served n event).node (step m g.served n event).node.history → At m own old n
      → At m own new (step m g.served n event).node
  node_on m own old new event n same s p =
      record { meant = ap (λ k. g.app_spec k) same ∙ p.meant; address = step-addr m g.served n event ∙ p.address; represented = s }

  pub node_step : (m : AppSpec) (own : Addr) (old new : Node A S) (result : Option ℕ) (event : Event) (n : AbstractNode)
      → g.config new.shared ≡ g.config old.shared
      → Steps g new result (step (g.app_spec (g.config old.shared)) g.served n event) → At m own old n
      → At m own new (step m g.served n event).node × IsSent own (step m g.served n event).sent result new.packet
  node_step m own old new result event n same s p =
      let t : Steps g new result (step m g.served n event) =
      subst (λ (k : AppSpec). Steps g new result (step k g.served n event)) p.meant s in
      let kept_addr : (step m g.served n event).node.addr ≡ own = step-addr m g.served n event ∙ p.address in (
        node_on m own old new event n same t.represented p,
        subst (λ (a : Addr). IsSent a (step m g.served n event).sent result new.packet) (t.represented.addr ∙ kept_addr) t.sent,
      )

  module _ {C : Type 0} (w : MediumSpec C) (did did' : List C → Type 0) where
    abbrev pub Here : (List C → Type 0) → AppSpec → Addr → Node A S → Station C → Type 0
    Here d m own node s = IsHere g d m own node s

    pub call_wrote : (m : AppSpec) (own : Addr) (old new : Node A S) (result : Option ℕ) (event : Event) (a b : Option (List ℕ))
        → g.config new.shared ≡ g.config old.shared
        → ((n : AbstractNode) → At m own old n → Steps g new result (step (g.app_spec (g.config old.shared)) g.served n event))
        → ((acts : List C) → did acts → did' acts)
        → ((acts : List C) (own : Addr) (reply : Option Reply) → did acts → IsSent own reply result new.packet → Appends a b (reply_text w acts own reply))
        → AllWritten m g.served w own (OfNode event ∷ []) (Here did m own old) (Here did' m own new) a b
    call_wrote m own old new result event a b same steps on wrote =
        wrote_one m g.served w own (OfNode event) (Here did m own old) (Here did' m own new) a b
        (λ s p. let both = node_step m own old new result event s.node same (steps s.node p.represented) p.represented in
        (record { represented = both.0; acted = on s.acts p.acted }, wrote s.acts own (step m g.served s.node event).sent p.acted both.1))

    pub call_broke : (m : AppSpec) (own : Addr) (old new : Node A S) (result : Option ℕ) (event : Event) (a b : Option (List ℕ))
        → g.config new.shared ≡ g.config old.shared
        → ((n : AbstractNode) → At m own old n → Steps g new result (step (g.app_spec (g.config old.shared)) g.served n event))
        → ((acts : List C) → did acts → did' acts)
        → ((acts : List C) (own : Addr) (reply : Option Reply) → did acts → IsSent own reply result new.packet → BreaksOff [] (reply_text w acts own reply) a b)
        → PrefixWritten m g.served w own (OfNode event ∷ []) (Here did m own old) (Here did' m own new) a b
    call_broke m own old new result event a b same steps on wrote =
        broke_one m g.served w own (OfNode event) (Here did m own old) (Here did' m own new) a b
        (λ s p. let both = node_step m own old new result event s.node same (steps s.node p.represented) p.represented in
        (record { represented = both.0; acted = on s.acts p.acted }, wrote s.acts own (step m g.served s.node event).sent p.acted both.1))

  -- a call and the writing of what it sends, whose answer this is
  module _ {T E Set C : Type 0} (r : Result T E) (spec : Set → MediumSpec C) (did did' : Set → List C → Type 0) (old new : Node A S)
      (result : Option ℕ) (event : Addr → Event) (a b : Option (List ℕ)) where
    abbrev Writes : (Option (List ℕ) → Option (List ℕ) → List ℕ → Type 0) → Type 0
    Writes P = (k : Set) (acts : List C) (own : Addr) (reply : Option Reply) → did k acts → IsSent own reply result new.packet
        → P a b (reply_text (spec k) acts own reply)

    pub call_reported : g.config new.shared ≡ g.config old.shared
        → ((m : AppSpec) (own : Addr) (n : AbstractNode) → At m own old n → Steps g new result (step (g.app_spec (g.config old.shared)) g.served n (event own)))
        → ((k : Set) (acts : List C) → did k acts → did' k acts)
        → OnOk r (Writes (λ a b text. Appends a b text)) → OnErr r (Writes (λ a b text. BreaksOff [] text a b))
        → OnOk r ((k : Set) (m : AppSpec) (own : Addr) → AllWritten m g.served (spec k) own (OfNode (event own) ∷ [])
        (λ s. IsHere g (did k) m own old s) (λ s. IsHere g (did' k) m own new s) a b)
        × OnErr r ((k : Set) (m : AppSpec) (own : Addr) → PrefixWritten m g.served (spec k) own (OfNode (event own) ∷ [])
        (λ s. IsHere g (did k) m own old s) (λ s. IsHere g (did' k) m own new s) a b)
    call_reported same steps on ok err = (
      on_ok_weaker r (λ wrote k m own. call_wrote (spec k) (did k) (did' k) m own old new result (event own) a b same (steps m own) (on k) (wrote k)) ok,
      on_err_weaker r (λ wrote k m own. call_broke (spec k) (did k) (did' k) m own old new result (event own) a b same (steps m own) (on k) (wrote k)) err,
    )

-- the medium's own acts
module _ {C : Type 0} (m : AppSpec) (served : ℕ → Bool) (w : MediumSpec C) (own : Addr) where
  acts_after : (acts : List C) (s : Station C) → station_after_all m served (map OfMedium acts) s ≡ record { acts = s.acts ++ acts; node = s.node }
  acts_after [] s = ap (λ (l : List C). record { acts = l; node = s.node }) (sym (append-nil s.acts))
  acts_after (a ∷ acts) s =
      acts_after acts (station_after m served s (OfMedium a)) ∙ ap (λ (l : List C). record { acts = l; node = s.node }) (append_assoc s.acts (a ∷ []) acts)

  acts_sent : (acts : List C) (s : Station C) → output m served w own (map OfMedium acts) s ≡ all_written w acts
  acts_sent [] s = refl
  acts_sent (a ∷ acts) s = ap (λ l. w.output_at a ++ l) (acts_sent acts (station_after m served s (OfMedium a)))

  -- events of the medium without output
  pub acts_wrote : (acts : List C) (P Q : Station C → Type 0) (a : Option (List ℕ)) → all_written w acts ≡ []
      → ((s : Station C) → P s → Q (record { acts = s.acts ++ acts; node = s.node }))
      → AllWritten m served w own (map OfMedium acts) P Q a a
  acts_wrote acts P Q a hushed on = record {
    each = λ s p. (
      subst (λ (k : Station C). Q k) (sym (acts_after acts s)) (on s p),
      appends_by a a [] _ (acts_sent acts s ∙ hushed) (Appends-none a),
    );
  }

-- the periodic calls of the first slots
abbrev pub calls : {C : Type 0} → ℕ → List (StationEvent C)
calls zero = []
calls (suc k) = calls k ++ OfNode (Periodic k) ∷ []

pub calls-tick : {C : Type 0} → calls {C = C} 10 ≡ map OfNode tick
calls-tick = refl

pub calls-next : {C : Type 0} (k : ℕ) → calls {C = C} (k + 1) ≡ calls k ++ OfNode (Periodic k) ∷ []
calls-next {C = C} k = ap (λ j. calls {C = C} j) (add-one k)

calls_from : {C : Type 0} (j k : ℕ) → (rest : List (StationEvent C)) × (calls {C = C} (k + j) ≡ calls k ++ rest)
calls_from {C = C} zero k = ([], ap (λ i. calls {C = C} i) (add-zero k) ∙ sym (append-nil (calls {C = C} k)))
calls_from {C = C} (suc j) k =
    let more = calls_from {C = C} j k in (
      more.0 ++ OfNode (Periodic (k + j)) ∷ [],
      ap (λ i. calls {C = C} i) (add-suc k j) ∙ ap (λ l. l ++ OfNode (Periodic (k + j)) ∷ []) more.1 ∙ append_assoc (calls {C = C} k) more.0
          (OfNode (Periodic (k + j)) ∷ []),
    )

-- the calls of a tick after the first
pub calls-within : {C : Type 0} (k : ℕ) → k ≤ 10 → (rest : List (StationEvent C)) × (map OfNode tick ≡ calls k ++ rest)
calls-within {C = C} k within =
    let more = calls_from {C = C} (10 - k) k in
    let all : 10 ≡ k + (10 - k) = omega arith in
    (more.0, ap (λ i. calls {C = C} i) all ∙ more.1)

-- the same after others
pub calls_after : {C : Type 0} (prefix : List (StationEvent C)) (k : ℕ) → prefix ++ calls {C = C} (k + 1) ≡ (prefix ++ calls k) ++ OfNode (Periodic k) ∷ []
calls_after {C} prefix k = ap (λ l. prefix ++ l) (calls-next {C = C} k) ∙ sym (append_assoc prefix (calls k) (OfNode (Periodic k) ∷ []))

-- a tick in which the call of a slot broke off, after others
pub slots_broke : {Set C : Type 0} (served : ℕ → Bool) (spec : Set → MediumSpec C) (prefix : Set → List (StationEvent C)) (P Q R : Set
    → AppSpec → Addr → Station C → Type 0) (a b c : Option (List ℕ)) (slot : ℕ) → slot < 10
    → ((k : Set) (m : AppSpec) (own : Addr) → AllWritten m served (spec k) own (prefix k ++ calls slot) (P k m own) (Q k m own) a b)
    → ((k : Set) (m : AppSpec) (own : Addr) → PrefixWritten m served (spec k) own (OfNode (Periodic slot) ∷ []) (Q k m own) (R k m own) b c)
    → (k : Set) (m : AppSpec) (own : Addr) → PrefixWritten m served (spec k) own (prefix k ++ map OfNode tick) (P k m own) (R k m own) a c
slots_broke served spec prefix P Q R a b c slot within wrote broke k m own =
    let w = spec k in
    let rest = calls-within (slot + 1) (omega arith) in
    broke_by m served w own _ _ _ _ _ _
    (ap (λ l. prefix k ++ l) rest.1 ∙ sym (append_assoc (prefix k) (calls (slot + 1)) rest.0) ∙ ap (λ l. l ++ rest.0) (calls_after (prefix k) slot))
    (broke_more m served w own _ rest.0 _ _ _ _
    (broke_then m served w own (prefix k ++ calls slot) (OfNode (Periodic slot) ∷ []) _ (Q k m own) _ _ b _ (wrote k m own) (broke k m own)))
