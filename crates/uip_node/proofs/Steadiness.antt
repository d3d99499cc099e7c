-- An application whose text is a page never retracts text.
use Rattle.uip_node.proofs.Prelude.{All, ◌≡◌, ℕ, ◌<◌, inl, inr, List, [], ◌∷◌, ◌++◌, length, drop, sym, ap, ◌∙◌, subst, arith, length-drop}
use Rattle.uip_node.proofs.Prelude.{AppState, Snapshot, AppSpec, IsPrefixOf, Grows, CanSend, Pages, IsPaged, IsSnapshot, MayWant, Now, Want}
use Rattle.uip_node.proofs.Prelude.{Nothing, Send, Close, Abort, IsSteady}
use Rattle.uip_node.proofs.Basics.{append_nothing}

can_send : (pages : Pages) (p : AppState) (output : List ℕ) → output ≡ pages.page p.input p.snapshots → (w : Want) → MayWant pages p w
    → CanSend w (length (drop p.acked output))
can_send pages p output e Nothing h = tt
can_send pages p output e Close h = tt
can_send pages p output e Abort h = tt
can_send pages p output e (Send n) h =
    let size : length output ≡ length (pages.page p.input p.snapshots) = ap length e in
    (h.0, omega (arith, h.1, size, length-drop p.acked output))

module _ (m : AppSpec) (pages : Pages) (lawful : IsPaged m pages) where
  -- the page of more bytes and more captures
  more_sent_text : (p q : AppState) (more : List ℕ) (later : List Snapshot) → q.input ≡ p.input ++ more → q.snapshots ≡ p.snapshots ++ later
      → IsPrefixOf (m.output p) (m.output q)
  more_sent_text p q more later h k =
      let g : IsPrefixOf (pages.page p.input p.snapshots) (pages.page (p.input ++ more) (p.snapshots ++ later)) = lawful.grows p.input more p.snapshots later in
      let to : pages.page (p.input ++ more) (p.snapshots ++ later) ≡ m.output q =
      ap (λ (x : List ℕ). pages.page x (p.snapshots ++ later)) (sym h) ∙ ap (λ (x : List Snapshot). pages.page q.input x) (sym k) ∙ sym (lawful.output q) in
      record { rest = g.rest; joined = ap (λ (t : List ℕ). t ++ g.rest) (lawful.output p) ∙ g.joined ∙ to }

  same_sent : (p q : AppState) → q.input ≡ p.input → q.snapshots ≡ p.snapshots → m.output q ≡ m.output p
  same_sent p q h k = lawful.output q ∙ ap (λ (x : List ℕ). pages.page x q.snapshots) h ∙ ap (λ (x : List Snapshot). pages.page p.input x) k
      ∙ sym (lawful.output p)

  prepared : (numbers : List ℕ) (p : AppState) (now : Now) → Grows m p (m.prepare numbers p now)
  prepared numbers p now = record {
    text = elim (lawful.prepare_snapshots numbers p now) [
      | inl e ↦ more_sent_text p (m.prepare numbers p now) [] [] (lawful.prepare_input numbers p now ∙ sym (append_nothing p.input))
          (e ∙ sym (append_nothing p.snapshots))
      | inr e ↦ more_sent_text p (m.prepare numbers p now) [] (record { numbers = numbers; now = now } ∷ [])
          (lawful.prepare_input numbers p now ∙ sym (append_nothing p.input)) e
    ];
    offset = lawful.prepare_acked numbers p now;
  }

  pub steady_of : IsSteady m
  steady_of = record {
    lawful = record {
      newdata_grows = λ numbers p piece s. record {
        text = more_sent_text p (m.newdata numbers p piece).part piece [] (lawful.newdata_input numbers p piece)
            (lawful.newdata_snapshots numbers p piece ∙ sym (append_nothing p.snapshots));
        offset = lawful.newdata_acked numbers p piece;
      };
      prepare_grows = λ numbers p now s. prepared numbers p now;
      acked_moves = λ numbers p n s h. (
        same_sent p (m.acked numbers p n).part (lawful.acked_input numbers p n)
            (lawful.acked_snapshots numbers p n),
        lawful.acked_moves numbers p n,
      );
      polled_keeps = λ numbers p s. (let x = lawful.polled_same numbers p in (same_sent p (m.polled numbers p).part x.input x.snapshots, x.acked));
      sends = λ numbers p s. can_send pages p (m.output p) (lawful.output p) (m.want numbers p) (lawful.wants numbers p);
    };
    connected_acked = lawful.connected_acked;
    connected_snapshots = lawful.connected_snapshots;
    newdata_snapshots = lawful.newdata_snapshots;
    prepare_snapshots = lawful.prepare_snapshots;
    acked_snapshots = lawful.acked_snapshots;
    polled_snapshots = λ numbers p. (lawful.polled_same numbers p).snapshots;
    connected_numbers = lawful.connected_numbers;
    newdata_numbers = lawful.newdata_numbers;
    acked_numbers = lawful.acked_numbers;
    polled_numbers = lawful.polled_numbers;
    ended_numbers = lawful.ended_numbers;
  }
