-- What a host knows after a frame.
use Rattle.ethernet_arp.proofs.Prelude.{◌≡◌, ◌++◌, ◌∷◌, [], List, ℕ, append-nil, sym, subst, MediumInput, Datagram, Own, acts_among, Act}
use Rattle.ethernet_arp.proofs.Prelude.{Knows, Arp}

module _ (old new : Arp) where
  -- a frame that brings no act
  pub brings_none : (cs : List (MediumInput Act)) → cs ≡ [] → ((acts : List Act) → Knows old acts → Knows new acts) → (acts : List Act)
      → Knows old acts → Knows new (acts ++ acts_among cs)
  brings_none cs e on acts k =
      subst (λ (l : List (MediumInput Act)). Knows new (acts ++ acts_among l)) (sym e)
      (subst (λ (l : List Act). Knows new l) (sym (append-nil acts)) (on acts k))

  pub brings_datagram : (cs : List (MediumInput Act)) (d : List ℕ) → cs ≡ Datagram d ∷ [] → ((acts : List Act) → Knows old acts → Knows new acts)
      → (acts : List Act) → Knows old acts → Knows new (acts ++ acts_among cs)
  brings_datagram cs d e on acts k =
      subst (λ (l : List (MediumInput Act)). Knows new (acts ++ acts_among l)) (sym e)
      (subst (λ (l : List Act). Knows new l) (sym (append-nil acts)) (on acts k))

  -- and one that brings one
  pub brings_act : (cs : List (MediumInput Act)) (act : Act) → cs ≡ Own act ∷ [] → ((acts : List Act) → Knows old acts → Knows new (acts ++ act ∷ []))
      → (acts : List Act) → Knows old acts → Knows new (acts ++ acts_among cs)
  brings_act cs act e on acts k = subst (λ (l : List (MediumInput Act)). Knows new (acts ++ acts_among l)) (sym e) (on acts k)
