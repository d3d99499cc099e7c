-- What was done for a run whose last byte completed a frame.
use Rattle.serve_loop.proofs.Prelude.{◌≡◌, ℕ, ◌<◌, ◌≤◌, List, [], ◌∷◌, ◌++◌, Option, length, map, take, ap, ◌∙◌, append-nil, subst, refl}
use Rattle.serve_loop.proofs.Prelude.{Appends, Addr, AppSpec, Ghosts, appends_by, Appends-none, Node, event_of, seen, AbstractNode, step}
use Rattle.serve_loop.proofs.Prelude.{Represents, BreaksOff, station_event_by, PrefixWritten, OfMedium, OfNode, Station, AllWritten, IsHere}
use Rattle.serve_loop.proofs.Prelude.{MediumInput, Own, MediumSpec, acts_among, all_decoded, breaks_by}
use Rattle.uip_node.specs.Events.Event.{Overlong as OverlongFrame}
use Rattle.line_medium.specs.Media.{Datagram, Overlong}
use Rattle.serve_loop.proofs.NodeLaws.{node_on}
use Rattle.serve_loop.proofs.RunLaws.{broke_by, broke_from, broke_one, wrote_by, wrote_from, wrote_none, wrote_one}

module _ {A S Set C : Type 0} (g : Ghosts A S)
    (spec : Set → MediumSpec C) (fed : Set → List ℕ → Type 0) (did did' : Set → List C → Type 0) (bytes : List ℕ) (n : ℕ) (shown : List ℕ) (node : Node A S)
    (on : (k : Set) (before : List ℕ) (acts : List C) → fed k before → did k acts
    → did' k (acts ++ acts_among (all_decoded (spec k) before (take n bytes)))) where
  abbrev Came_of : Set → List ℕ → List (MediumInput C)
  Came_of k before = all_decoded (spec k) before (take n bytes)

  abbrev Here : (Set → List C → Type 0) → Set → AppSpec → Addr → Station C → Type 0
  Here d k m own s = IsHere g (d k) m own node s

  -- what came holds no act
  moved : (k : Set) (m : AppSpec) (own : Addr) (before : List ℕ) (ds : List (MediumInput C)) → fed k before → Came_of k before ≡ ds → acts_among ds ≡ []
      → (s : Station C) → Here did k m own s → Here did' k m own s
  moved k m own before ds h e none s p = record {
    represented = p.represented;
    acted = subst (λ (l : List C). did' k l) (ap (λ l. s.acts ++ acts_among l) e ∙ ap (λ l. s.acts ++ l) none ∙ append-nil s.acts)
        (on k before s.acts h p.acted);
  }

  -- the last act
  acted_on : (k : Set) (m : AppSpec) (own : Addr) (before : List ℕ) (act : C) → fed k before → Came_of k before ≡ Own act ∷ []
      → (s : Station C) → Here did k m own s → Here did' k m own (record { acts = s.acts ++ act ∷ []; node = s.node })
  acted_on k m own before act h e s p = record {
    represented = p.represented;
    acted = subst (λ (l : List C). did' k l) (ap (λ l. s.acts ++ acts_among l) e) (on k before s.acts h p.acted);
  }

  pub nothing_wrote : ((k : Set) (before : List ℕ) → fed k before → Came_of k before ≡ []) → (a : Option (List ℕ))
      → (k : Set) (before : List ℕ) → fed k before → (m : AppSpec) (own : Addr) → AllWritten m g.served (spec k) own
      (map (station_event_by own) (Came_of k before)) (Here did k m own) (Here did' k m own) a a
  nothing_wrote reported a k before h m own =
      wrote_by m g.served (spec k) own _ [] _ _ _ _ (ap (λ l. map (station_event_by own) l) (reported k before h))
      (wrote_none m g.served (spec k) own _ _ a (moved k m own before [] h (reported k before h) refl))

  pub overlong_wrote : (after : Node A S) (a : Option (List ℕ)) → ((k : Set) (before : List ℕ) → fed k before → Came_of k before ≡ Overlong ∷ [])
      → g.config after.shared ≡ g.config node.shared
      → ((n : AbstractNode) → Represents g node n n.history
      → Represents g after (step (g.app_spec (g.config node.shared)) g.served n OverlongFrame).node (seen OverlongFrame n.history))
      → (k : Set) (before : List ℕ) → fed k before
      → (m : AppSpec) (own : Addr) → AllWritten m g.served (spec k) own (map (station_event_by own) (Came_of k before)) (Here did k m own)
      (λ s. IsHere g (did' k) m own after s) a a
  overlong_wrote after a reported same steps k before h m own =
      wrote_by m g.served (spec k) own _ _ _ _ _ _ (ap (λ l. map (station_event_by own) l) (reported k before h))
      (wrote_one m g.served (spec k) own (OfNode OverlongFrame) (Here did k m own) (λ s. IsHere g (did' k) m own after s) a a
      (λ s p. (
        record {
          represented = node_on g m own node after OverlongFrame s.node same
              (subst (λ (x : AppSpec). Represents g after (step x g.served s.node OverlongFrame).node (seen OverlongFrame s.node.history))
              p.represented.meant (steps s.node p.represented.represented))
              p.represented;
          acted = (moved k m own before _ h (reported k before h) refl s p).acted;
        },
        Appends-none a,
      )))

  module _ (Q : Set → AppSpec → Addr → Station C → Type 0) (a b : Option (List ℕ)) where
    pub datagram_wrote : ((k : Set) (before : List ℕ) → fed k before → Came_of k before ≡ Datagram shown ∷ [])
        → ((k : Set) (m : AppSpec) (own : Addr) → AllWritten m g.served (spec k) own (OfNode (event_of own shown) ∷ []) (Here did' k m own) (Q k m own) a b)
        → (k : Set) (before : List ℕ) → fed k before → (m : AppSpec) (own : Addr) → AllWritten m g.served (spec k) own
        (map (station_event_by own) (Came_of k before)) (Here did k m own) (Q k m own) a b
    datagram_wrote reported wrote k before h m own =
        wrote_by m g.served (spec k) own _ _ _ _ _ _ (ap (λ l. map (station_event_by own) l) (reported k before h))
        (wrote_from m g.served (spec k) own _ _ _ _ a b (moved k m own before _ h (reported k before h) refl) (wrote k m own))

    pub datagram_broke : 0 < n → n ≤ length bytes → ((k : Set) (before : List ℕ) → fed k before → Came_of k before ≡ Datagram shown ∷ [])
        → ((k : Set) (m : AppSpec) (own : Addr) → PrefixWritten m g.served (spec k) own (OfNode (event_of own shown) ∷ []) (Here did' k m own) (Q k m own) a b)
        → (k : Set) (before : List ℕ) → fed k before
        → (x : ℕ) × (0 < x) × (x ≤ length bytes) × ((m : AppSpec) (own : Addr) → PrefixWritten m g.served (spec k) own
        (map (station_event_by own) (all_decoded (spec k) before (take x bytes))) (Here did k m own) (Q k m own) a b)
    datagram_broke some within reported broke k before h = (
      n,
      some,
      within,
      λ m own. broke_by m g.served (spec k) own _ _ _ _ _ _ (ap (λ l. map (station_event_by own) l) (reported k before h))
          (broke_from m g.served (spec k) own _ _ _ _ a b (moved k m own before _ h (reported k before h) refl) (broke k m own)),
    )

  module _ (a b : Option (List ℕ)) (reported : (k : Set) (before : List ℕ) → fed k before → (act : C) × (Came_of k before ≡ Own act ∷ [])
      × ((spec k).output_at act ≡ shown)) where
    pub own_wrote : Appends a b shown
        → (k : Set) (before : List ℕ) → fed k before → (m : AppSpec) (own : Addr) → AllWritten m g.served (spec k) own
        (map (station_event_by own) (Came_of k before)) (Here did k m own) (Here did' k m own) a b
    own_wrote wrote k before h m own =
        let it = reported k before h in
        wrote_by m g.served (spec k) own _ _ _ _ _ _ (ap (λ l. map (station_event_by own) l) it.1)
        (wrote_one m g.served (spec k) own (OfMedium it.0) (Here did k m own) (Here did' k m own) a b
        (λ s p. (acted_on k m own before it.0 h it.1 s p, appends_by a b shown _ it.2 wrote)))

    pub own_broke : 0 < n → n ≤ length bytes → BreaksOff [] shown a b
        → (k : Set) (before : List ℕ) → fed k before
        → (x : ℕ) × (0 < x) × (x ≤ length bytes) × ((m : AppSpec) (own : Addr) → PrefixWritten m g.served (spec k) own
        (map (station_event_by own) (all_decoded (spec k) before (take x bytes))) (Here did k m own) (Here did' k m own) a b)
    own_broke some within wrote k before h =
        let it = reported k before h in (
          n,
          some,
          within,
          λ m own. broke_by m g.served (spec k) own _ _ _ _ _ _ (ap (λ l. map (station_event_by own) l) it.1)
              (broke_one m g.served (spec k) own (OfMedium it.0) (Here did k m own) (Here did' k m own) a b
              (λ s p. (acted_on k m own before it.0 h it.1 s p, breaks_by [] [] _ _ a b refl it.2 wrote))),
        )
