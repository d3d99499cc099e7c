-- An application's state after text is delivered, and after captures are taken.
use Rattle.uip_node.proofs.Prelude.{◌≡◌, ℕ, inl, inr, List, [], ◌∷◌, ◌++◌, refl, sym, ◌∙◌, AppState, Snapshot, AppSpec, Pages, IsPaged, Now}
use Rattle.uip_node.proofs.Prelude.{delivers_text}
use Rattle.uip_node.proofs.Basics.{append_nothing}

module _ (m : AppSpec) (pages : Pages) (lawful : IsPaged m pages) where
  -- what a delivery does to a state
  pub record Received (p q : AppState) (text : List ℕ) : Type 0 where
    pub input : q.input ≡ p.input ++ text
    pub snapshots : q.snapshots ≡ p.snapshots
    pub acked : q.acked ≡ p.acked

  pub receives_is : (numbers : List ℕ) (p : AppState) (text : List ℕ) → Received p (delivers_text m numbers p text).part text
  receives_is numbers p [] = record { input = sym (append_nothing p.input); snapshots = refl; acked = refl }
  receives_is numbers p (x ∷ xs) = record {
    input = lawful.newdata_input numbers p (x ∷ xs);
    snapshots = lawful.newdata_snapshots numbers p (x ∷ xs);
    acked = lawful.newdata_acked numbers p (x ∷ xs);
  }

  -- taking captures
  pub record Prepared (p q : AppState) : Type 0 where
    pub input : q.input ≡ p.input
    pub more : List Snapshot
    pub snapshots : q.snapshots ≡ p.snapshots ++ more
    pub acked : q.acked ≡ p.acked

  pub prepare_is : (numbers : List ℕ) (p : AppState) (now : Now) → Prepared p (m.prepare numbers p now)
  prepare_is numbers p now =
      elim (lawful.prepare_snapshots numbers p now) [
        | inl e ↦ record {
          input = lawful.prepare_input numbers p now;
          more = [];
          snapshots = e ∙ sym (append_nothing p.snapshots);
          acked = lawful.prepare_acked numbers p now;
        }
        | inr e ↦ record {
          input = lawful.prepare_input numbers p now;
          more = record { numbers = numbers; now = now } ∷ [];
          snapshots = e;
          acked = lawful.prepare_acked numbers p now;
        }
      ]
