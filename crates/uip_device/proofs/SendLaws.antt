-- What a guarded node sends for what arrives.
use Rattle.uip_device.proofs.Prelude.{◌≡◌, ℕ, Bool, Buffer, List, [], ◌∷◌, ◌++◌, None, Option, true, false, refl, sym, ap, ◌∙◌, append-nil}
use Rattle.uip_device.proofs.Prelude.{subst, Ghosts, Addr, Node, seen, Event, Reply, AbstractNode, AppSpec, Ran, run, step, Represents}
use Rattle.uip_device.proofs.Prelude.{IsNode, node_on, HandsOut, SendsOver, TookArrivals, datagram_sent, text_sent, Arrival, TooLong, Guard}
use Rattle.uip_device.proofs.Prelude.{GuardCounts, Key, counted_at, events_at, guarded_run, IsSentOver, HasRun, TakesEvents, leaving}
use Rattle.uip_node.proofs.Addresses.{run_addr}
use Rattle.uip_node.specs.Events.Event.{Overlong}

-- nothing is sent
pub silent_text : (key : Option Key) (own : Addr) (replies : List Reply) (sent : Option ℕ) (packet : Buffer) → sent ≡ None
    → IsSentOver (leaving key) own replies sent packet
    → text_sent key own replies ≡ []
silent_text key own [] sent packet none is = refl
silent_text key own (reply ∷ []) sent packet none is = absurd (cc (sym none ∙ is.answer))
silent_text key own (reply ∷ other ∷ more) sent packet none is = absurd is

module _ {A S : Type 0} (g : Ghosts A S) where
  -- nothing came
  pub sends_none : (guard : Guard) (a : Node A S) (P : Addr → List Reply → Type 0) → ((own : Addr) → P own []) → SendsOver g [] guard guard a a P
  sends_none guard a P q = record { kept = refl; rules = refl; each = λ m own n p. record { represented = p; sent = q own; counts = refl } }

  pub sends_by : (arrivals others : List Arrival) (guard guarded : Guard) (a b : Node A S) (P : Addr → List Reply → Type 0) → others ≡ arrivals
      → SendsOver g arrivals guard guarded a b P → SendsOver g others guard guarded a b P
  sends_by arrivals others guard guarded a b P same v = subst (λ (l : List Arrival). SendsOver g l guard guarded a b P) (sym same) v

  pub sends_so : (arrivals : List Arrival) (guard guarded : Guard) (a b : Node A S) (P Q : Addr → List Reply → Type 0)
      → ((own : Addr) (replies : List Reply) → P own replies → Q own replies)
      → SendsOver g arrivals guard guarded a b P → SendsOver g arrivals guard guarded a b Q
  sends_so arrivals guard guarded a b P Q on v = record {
    kept = v.kept;
    rules = v.rules;
    each = λ m own n p.
        let took = v.each m own n p in
        record { represented = took.represented; sent = on own (guarded_run guard.rules m g.served arrivals n).sent took.sent; counts = took.counts };
  }

  -- a frame was received in the packet before
  pub sends_from : (arrivals : List Arrival) (guard guarded : Guard) (a mid b : Node A S) (q : Buffer) (P : Addr → List Reply → Type 0)
      → mid ≡ record a { packet = q }
      → SendsOver g arrivals guard guarded mid b P → SendsOver g arrivals guard guarded a b P
  sends_from arrivals guard guarded a mid b q P is v = record {
    kept = v.kept ∙ ap (λ (x : Node A S). g.config x.shared) is;
    rules = v.rules;
    each = λ m own n p.
        let r = p.represented in
        v.each m own n (subst (λ (x : Node A S). IsNode g m own x n) (sym is) (record {
          meant = p.meant;
          address = p.address;
          represented = record { addr = r.addr; slots = r.slots; iss = r.iss; numbers_represented = r.numbers_represented; counts = r.counts };
        }));
  }

  -- a frame that was too long
  pub sends_overlong : (guard : Guard) (a b : Node A S) (P : Addr → List Reply → Type 0) → g.config b.shared ≡ g.config a.shared
      → ((n : AbstractNode) → Represents g a n n.history → Represents g b (step (g.app_spec (g.config a.shared)) g.served n Overlong).node
      (seen Overlong n.history))
      → ((own : Addr) → P own []) → SendsOver g (TooLong ∷ []) guard guard a b P
  sends_overlong guard a b P same steps q = record {
    kept = same;
    rules = refl;
    each = λ m own n p. record { represented = node_on g m own a b Overlong n same (steps n p.represented) p; sent = q own; counts = refl };
  }

  -- a datagram, or the call of a slot
  pub sends_taken : (arrival : Arrival) (guard guarded : Guard) (a b : Node A S) (result : Option ℕ) (P : Addr → List Reply → Type 0)
      → TakesEvents g (leaving guard.rules.key) (λ n. events_at guard.rules g.served n arrival) a b result → guarded.rules ≡ guard.rules
      → ((n : AbstractNode) → Represents g a n n.history → guarded.counts ≡ counted_at guard.rules g.served n arrival guard.counts)
      → ((own : Addr) (replies : List Reply) → IsSentOver (leaving guard.rules.key) own replies result b.packet → P own replies)
      → SendsOver g (arrival ∷ []) guard guarded a b P
  sends_taken arrival guard guarded a b result P took rules counts sent = record {
    kept = took.same;
    rules = rules;
    each = λ m own n p.
        let events : List Event = events_at guard.rules g.served n arrival in
        let ran : Ran = run m g.served events n in
        let counted : GuardCounts = counted_at guard.rules g.served n arrival guard.counts in
        let has : HasRun g (leaving guard.rules.key) b result ran =
        subst (λ (k : AppSpec). HasRun g (leaving guard.rules.key) b result (run k g.served events n)) p.meant (took.run n p.represented) in
        let at : ran.node.addr ≡ own = run_addr m g.served events n ∙ p.address in
        let all : TookArrivals g m own b guarded.counts P ran counted = record {
          represented = record { meant = ap (λ k. g.app_spec k) took.same ∙ p.meant; address = at; represented = has.represented };
          sent = sent own ran.sent (subst (λ (x : Addr). IsSentOver (leaving guard.rules.key) x ran.sent result b.packet) (has.represented.addr ∙ at) has.sent);
          counts = counts n p.represented;
        } in
        subst (λ (l : List Event). TookArrivals g m own b guarded.counts P (run m g.served l n) counted) (sym (append-nil events)) all;
  }

  -- if nothing was pending, the text of what is sent is written, and the rest is pending
  pub on_line : (arrivals : List Arrival) (guard guarded : Guard) (a b : Node A S) (before handed left : List ℕ) → before ≡ []
      → SendsOver g arrivals guard guarded a b (λ own replies. text_sent guard.rules.key own replies ≡ handed ++ left)
      → SendsOver g arrivals guard guarded a b (λ own replies. HandsOut false guard.rules.key own before handed left replies)
  on_line arrivals guard guarded a b before handed left none v =
      sends_so arrivals guard guarded a b _ (λ own replies. HandsOut false guard.rules.key own before handed left replies)
      (λ own replies e. ap (λ l. l ++ text_sent guard.rules.key own replies) none ∙ e) v

  -- and a datagram is written whole
  pub by_datagram : (arrivals : List Arrival) (guard guarded : Guard) (a b : Node A S) (before handed left : List ℕ) → left ≡ before
      → SendsOver g arrivals guard guarded a b (λ own replies. handed ≡ datagram_sent guard.rules.key own replies)
      → SendsOver g arrivals guard guarded a b (λ own replies. HandsOut true guard.rules.key own before handed left replies)
  by_datagram arrivals guard guarded a b before handed left same v =
      sends_so arrivals guard guarded a b _ (λ own replies. HandsOut true guard.rules.key own before handed left replies) (λ own replies e. (e, same)) v
