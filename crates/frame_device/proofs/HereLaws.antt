-- A call, at a station that the device represents.
use Rattle.frame_device.proofs.Prelude.{◌≡◌, ℕ, Bool, true, List, [], ◌∷◌, ◌++◌, Option, None, Some, flat_map, map, refl, sym, ap, ◌∙◌}
use Rattle.frame_device.proofs.Prelude.{subst, append-nil, append_assoc, inl, inr, false≢true, is_some, AppSpec, Ghosts, Buffer}
use Rattle.frame_device.proofs.Prelude.{datagram_in, Addr, Node, Event, Reply, AbstractNode, reply_bytes, run, step, MediumInput, Datagram}
use Rattle.frame_device.proofs.Prelude.{Own, MediumSpec, acts_among, all_written, StationEvent, OfMedium, OfNode, Station, station_after}
use Rattle.frame_device.proofs.Prelude.{station_after_all, output, reply_text, IsHere, IsNode, FrameSpec, GuardedLink, IsSilent, as_medium}
use Rattle.frame_device.proofs.Prelude.{input_events, lensed, wire_medium, HasRun, IsSentOver, TakesEvents, guarded, leaving, Key}
use Rattle.frame_device.proofs.Prelude.{GuardCounts, Rules, counts_by_inputs}
use Rattle.serve_loop.proofs.AddrLaws.{step-addr}
use Rattle.uip_node.specs.Prelude.{Ran, joined}

-- what is written for replies that go to the wire
abbrev pub replies_text : {C : Type 0} → FrameSpec C → List C → (List ℕ → List ℕ) → Addr → List Reply → List ℕ
replies_text w acts wire own replies = flat_map (λ reply. w.text acts (wire (reply_bytes own reply))) replies

module _ {C : Type 0} (w : FrameSpec C) (acts : List C) (wire : List ℕ → List ℕ) (own : Addr) where
  pub none_sent : (replies : List Reply) (sent : Option ℕ) (packet : Buffer) → sent ≡ None → IsSentOver wire own replies sent packet
      → [] ≡ replies_text w acts wire own replies
  none_sent [] sent packet none is = refl
  none_sent (reply ∷ []) sent packet none is = absurd (false≢true (ap (λ o. is_some o) (sym none ∙ is.answer)))
  none_sent (reply ∷ another ∷ more) sent packet none is = absurd is

  pub some_sent : (replies : List Reply) (sent : Option ℕ) (packet : Buffer) (text : List ℕ) → is_some sent ≡ true → text ≡ w.text acts (datagram_in packet)
      → IsSentOver wire own replies sent packet → text ≡ replies_text w acts wire own replies
  some_sent [] sent packet text some e is = absurd (false≢true (sym (ap (λ o. is_some o) is) ∙ some))
  some_sent (reply ∷ []) sent packet text some e is = e ∙ ap (λ d. w.text acts d) is.datagram ∙ sym (append-nil (w.text acts (wire (reply_bytes own reply))))
  some_sent (reply ∷ another ∷ more) sent packet text some e is = absurd is

-- the guard counts nothing at an event of the link's own
pub silent_counts : {C : Type 0} (w : FrameSpec C) (rules : Rules) (served : ℕ → Bool) (n : AbstractNode) (cs : List (MediumInput C))
    (counts : GuardCounts) → IsSilent w cs → counts ≡ counts_by_inputs rules served n cs counts
silent_counts w rules served n cs counts (inl e) = ap (λ l. counts_by_inputs rules served n l counts) (sym e)
silent_counts w rules served n cs counts (inr quiet) = ap (λ l. counts_by_inputs rules served n l counts) (sym quiet.1)

-- the address stays
pub run_addr : (m : AppSpec) (served : ℕ → Bool) (events : List Event) (n : AbstractNode) → (run m served events n).node.addr ≡ n.addr
run_addr m served [] n = refl
run_addr m served (e ∷ events) n = run_addr m served events (step m served n e).node ∙ step-addr m served n e

-- acts of the link, and then events of the node
module _ {C : Type 0} (m : AppSpec) (served : ℕ → Bool) where
  after_node : (events : List Event) (s : Station C) → station_after_all m served (map OfNode events) s
      ≡ record { acts = s.acts; node = (run m served events s.node).node }
  after_node [] s = refl
  after_node (e ∷ events) s = after_node events (station_after m served s (OfNode e))

  pub after_events : (events : List Event) (acts : List C) (s : Station C)
      → station_after_all m served (map OfMedium acts ++ map OfNode events) s ≡ record { acts = s.acts ++ acts; node = (run m served events s.node).node }
  after_events events [] s = after_node events s ∙ ap (λ (l : List C). record { acts = l; node = (run m served events s.node).node }) (sym (append-nil s.acts))
  after_events events (a ∷ acts) s =
      after_events events acts (station_after m served s (OfMedium a))
      ∙ ap (λ (l : List C). record { acts = l; node = (run m served events s.node).node }) (append_assoc s.acts (a ∷ []) acts)

  module _ (w : MediumSpec C) (own : Addr) where
    abbrev texts_of : List C → List Reply → List ℕ
    texts_of acts replies = flat_map (λ reply. w.text acts (reply_bytes own reply)) replies

    joined_text : (acts : List C) (o : Option Reply) (more : List Reply) → reply_text w acts own o ++ texts_of acts more ≡ texts_of acts (joined o more)
    joined_text acts None more = refl
    joined_text acts (Some reply) more = refl

    sent_node : (events : List Event) (s : Station C) → output m served w own (map OfNode events) s ≡ texts_of s.acts (run m served events s.node).sent
    sent_node [] s = refl
    sent_node (e ∷ events) s =
        ap (λ l. reply_text w s.acts own (step m served s.node e).sent ++ l) (sent_node events (station_after m served s (OfNode e)))
        ∙ joined_text s.acts (step m served s.node e).sent (run m served events (step m served s.node e).node).sent

    pub sent_events : (events : List Event) (acts : List C) (s : Station C)
        → output m served w own (map OfMedium acts ++ map OfNode events) s ≡ all_written w acts ++ texts_of (s.acts ++ acts) (run m served events s.node).sent
    sent_events events [] s = sent_node events s ∙ ap (λ l. texts_of l (run m served events s.node).sent) (sym (append-nil s.acts))
    sent_events events (a ∷ acts) s =
        ap (λ l. w.output_at a ++ l) (sent_events events acts (station_after m served s (OfMedium a)))
        ∙ ap (λ l. w.output_at a ++ (all_written w acts ++ texts_of l (run m served events s.node).sent)) (append_assoc s.acts (a ∷ []) acts)
        ∙ sym (append_assoc (w.output_at a) (all_written w acts) (texts_of (s.acts ++ a ∷ acts) (run m served events s.node).sent))

-- the lens does not see what the link sends by itself
same_written : {C : Type 0} (key : Option Key) (w : MediumSpec C) (acts : List C) → all_written (lensed key w) acts ≡ all_written w acts
same_written key w [] = refl
same_written key w (a ∷ acts) = ap (λ l. w.output_at a ++ l) (same_written key w acts)

module _ {A S : Type 0} (g : Ghosts A S) {C : Type 0} (w : GuardedLink C) (m : AppSpec) (own : Addr) (s : Station C) where
  -- what a call of the guarded node leads to
  takes_here : (events : AbstractNode → List Event) (old new : Node A S) (result : Option ℕ) → TakesEvents g (leaving w.rules.key) events
      old new result → IsNode g m own old s.node
      → IsNode g m own new (run m g.served (events s.node) s.node).node × IsSentOver (leaving w.rules.key) own
      (run m g.served (events s.node) s.node).sent result new.packet
  takes_here events old new result took p =
      let ran : Ran = run m g.served (events s.node) s.node in
      let is : HasRun g (leaving w.rules.key) new result ran =
      subst (λ (k : AppSpec). HasRun g (leaving w.rules.key) new result (run k g.served (events s.node) s.node)) p.meant (took.run s.node p.represented) in
      let addr : ran.node.addr ≡ own = run_addr m g.served (events s.node) s.node ∙ p.address in (
        record { meant = ap (λ k. g.app_spec k) took.same ∙ p.meant; address = addr; represented = is.represented },
        subst (λ (a : Addr). IsSentOver (leaving w.rules.key) a ran.sent result new.packet) (is.represented.addr ∙ addr) is.sent,
      )

  -- the node represents the one after these events, the link had its own, and this is the output
  abbrev pub Done : (List C → Type 0) → Node A S → List (StationEvent C) → List ℕ → Type 0
  Done D node station_events handed = IsHere g D m own node (station_after_all m g.served station_events s)
      × (handed ≡ output m g.served (wire_medium w) own station_events s)

  abbrev Wrote : (List C → Type 0) → Option ℕ → Buffer → List ℕ → Type 0
  Wrote D result packet handed = (acts : List C) (replies : List Reply) → D acts → IsSentOver (leaving w.rules.key) own replies result packet
      → handed ≡ replies_text w.link acts (leaving w.rules.key) own replies

  -- acts of the link at which nothing is sent, and then a call of the guarded node
  pub calls_events : (D : List C → Type 0) (old new : Node A S) (result : Option ℕ) (acts : List C) (events : AbstractNode → List Event) (handed : List ℕ)
      → all_written (as_medium w.link) acts ≡ [] → TakesEvents g (leaving w.rules.key) events old new result → Wrote D result new.packet handed
      → IsNode g m own old s.node → D (s.acts ++ acts) → Done D new (map OfMedium acts ++ map OfNode (events s.node)) handed
  calls_events D old new result acts events handed quiet took wrote represented did =
      let both = takes_here events old new result took represented in
      let replies : List Reply = (run m g.served (events s.node) s.node).sent in (
        subst (λ (t : Station C). IsHere g D m own new t) (sym (after_events m g.served (events s.node) acts s)) (record { represented = both.0; acted = did }),
        wrote (s.acts ++ acts) replies did both.1
            ∙ sym (sent_events m g.served (wire_medium w) own (events s.node) acts s
            ∙ ap (λ l. l ++ replies_text w.link (s.acts ++ acts) (leaving w.rules.key) own replies) (same_written w.rules.key (as_medium w.link) acts ∙ quiet)),
      )

  abbrev Brings : (List C → Type 0) → Node A S → List (MediumInput C) → List ℕ → Type 0
  Brings D node cs handed = Done D node (flat_map (input_events w.rules g.served s.node) cs) handed

  brings_by : (D : List C → Type 0) (node : Node A S) (cs ds : List (MediumInput C)) (handed : List ℕ) → cs ≡ ds → D (s.acts ++ acts_among cs)
      → (D (s.acts ++ acts_among ds) → Brings D node ds handed) → Brings D node cs handed
  brings_by D node cs ds handed e did f =
      subst (λ (l : List (MediumInput C)). Brings D node l handed) (sym e) (f (subst (λ (l : List (MediumInput C)). D (s.acts ++ acts_among l)) e did))

  -- the link did something by itself
  pub brings_own : (D : List C → Type 0) (node : Node A S) (cs : List (MediumInput C)) (a : C) (handed : List ℕ) → cs ≡ Own a ∷ [] → handed ≡ w.link.output_at a
      → IsNode g m own node s.node → D (s.acts ++ acts_among cs) → Brings D node cs handed
  brings_own D node cs a handed e output_at represented did =
      brings_by D node cs (Own a ∷ []) handed e did
      (λ did. (record { represented = represented; acted = did }, output_at ∙ sym (append-nil (w.link.output_at a))))

  pub brings_silent : (D : List C → Type 0) (node : Node A S) (cs : List (MediumInput C)) → IsSilent w.link cs → IsNode g m own node s.node
      → D (s.acts ++ acts_among cs)
      → Brings D node cs []
  brings_silent D node cs (inl e) represented did =
      brings_by D node cs [] [] e did (λ did. (record { represented = represented; acted = subst D (append-nil s.acts) did }, refl))
  brings_silent D node cs (inr quiet) represented did = brings_own D node cs quiet.0 [] quiet.1 (sym quiet.2) represented did

  -- a datagram came to the guarded node
  pub brings_datagram : (D : List C → Type 0) (old new : Node A S) (result : Option ℕ) (cs : List (MediumInput C)) (d handed : List ℕ) → cs ≡ Datagram d ∷ []
      → TakesEvents g (leaving w.rules.key) (λ n. guarded w.rules g.served n d) old new result → Wrote D result new.packet handed
      → IsNode g m own old s.node → D (s.acts ++ acts_among cs) → Brings D new cs handed
  brings_datagram D old new result cs d handed e took wrote represented did =
      brings_by D new cs (Datagram d ∷ []) handed e did (λ did.
      subst (λ (l : List (StationEvent C)). Done D new l handed) (sym (append-nil (map OfNode (guarded w.rules g.served s.node d))))
      (calls_events D old new result [] (λ n. guarded w.rules g.served n d) handed refl took wrote represented did))
