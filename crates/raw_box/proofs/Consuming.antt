-- A function that consumes its one parameter. Assumes `Logic`.
use Rattle.raw_box.proofs.Prelude.{List, [], ◌∷◌, ◌++◌, proved_at, leaves}
use seplogic.Ra.Ura.{Ura}
use mir.Syntax.{Fn, Callee}
use mir.Val.{Val}
use base.Logic.{SProp}
use base.Fml.{ftrue}
use prog.Wp.{WpFn, Closed}
use prog.Model.{Model}
use types.Logic.{Logic}
use types.Kit.{Item, Seq, prop, ‵, raw, ◌⊛◌, ◌$◌, ◌∵◌, !, qed, by, move, keep, split, join, fsplit, fjoin}
use contract.Running.{Running, MachineTables, tables}
use denote.RattleType.{RattleType, owns}
use denote.Exit.{Kept, Last}
use denote.Signature.{plain}
use denote.Steps.{nothing}
use denote.Triple.Clauses.{Ended, Clauses, closing, at_exit}
use denote.Triple.Spec.{Meets}
use denote.Triple.Walked.{Stays, Goes, stay_dropped}

-- its parameter's type and its result's
abbrev pub consumer : RattleType → RattleType → Kept → Ended
consumer P Q k =
    record { signature = record { lifetimes = 0; outlives = []; params = plain (λ _. P) ∷ []; result = plain (λ _. Q) }; kept = (k, tt) }

module _ {M : Type 1} {𝓤 : Ura M} (𝓛 : Logic 𝓤) (𝓜 : Model 𝓤 𝓛.H) (𝓡 : Running 𝓤 𝓛.H 𝓜) where
  abbrev pub 𝓣 : MachineTables 𝓤 𝓛.H 𝓜
  𝓣 = tables 𝓤 𝓛.H 𝓜 𝓡 𝓡.env

  -- the function of this name has this code
  abbrev pub HasCode : Callee → Fn → Type 2
  HasCode = Closed 𝓤 𝓛.H 𝓣.C 𝓣.Λ

  module _ (P Q : RattleType) (k : Kept) (c : Clauses 𝓤 (consumer P Q k)) (last : (v : P.Denot) → Last (P.exit k) v) where
    -- the function of this name meets these clauses
    abbrev pub Proved : Callee → Type 1
    Proved name = Meets 𝓛 (consumer P Q k).signature (𝓣.C name) (closing 𝓛 (consumer P Q k) c)

    -- what is required of a value, and what is ensured of a result
    abbrev pub required : (v : P.Denot) → (c tt (v, tt)).ghost → SProp 𝓤
    required v g = (c tt (v, tt)).requires g

    abbrev pub ensured : (v : P.Denot) → (c tt (v, tt)).ghost → Q.Denot → SProp 𝓤
    ensured v g r = (c tt (v, tt)).ensures g r (at_exit (consumer P Q k) tt (v, tt) (last v, tt))

    -- Its code, given what a value owns, ends at a result with what the result owns and what is ensured. X is any other thing that is owned.
    abbrev pub Walk : Fn → Type 2
    Walk f =
        (K : Type 0) → K → (v : P.Denot) (words : List Val) (g : (c tt (v, tt)).ghost) (X : Item 𝓤) (Kf : Val → SProp 𝓤)
        → ((w : Val) (r : Q.Denot) → Seq K 𝓛 (‵ (Q.own_val r (w ∷ [])) ∷ raw (ensured v g r) ∷ X ∷ []) (prop (Kf w)))
        → Seq K 𝓛 (‵ (P.own_val v words) ∷ raw (required v g) ∷ X ∷ []) (prop (WpFn 𝓤 𝓛.H 𝓣.C 𝓣.Λ f (words ++ []) Kf))

    pub consumes : Goes 𝓛 0 (plain (λ _. P)) k (stay_dropped (plain (λ _. P)) k) → (name : Callee) (f : Fn) → HasCode name f → Walk f → Proved name
    consumes goes name f closed walk =
        let stays : Stays (consumer P Q k).signature.params (consumer P Q k).kept = (stay_dropped (plain (λ _. P)) k, tt) in
        proved_at 𝓛 (consumer P Q k) stays c 𝓜 𝓡 (goes, tt) name f closed (λ z are.
        qed 𝓛 ((‵ ftrue ⊛ ‵ (owns (P ∷ []) z.0.3 z.0.4)) ∷ raw ((c z.0.0 z.0.3).requires z.1) ∷ []) ∵ split ! $ move ! (1 ∷ []) $ fsplit ! $
        move ! (1 ∷ 2 ∷ []) $ join ! $ move ! (1 ∷ 2 ∷ []) $
        walk _ ! z.0.3.0 z.0.4.0 z.1 _ _ (λ w r.
        move ! (2 ∷ []) $ split ! $ nothing ! $ nothing ! $ fjoin ! $ keep ! (2 ∷ 0 ∷ 3 ∷ 4 ∷ []) $
        by ! (leaves 𝓛 (consumer P Q k) stays c z w r (last z.0.3.0, tt) (tt, tt))))
