-- Functions that make, convert or open a struct of a pointer and `Global`, by their words. Assumes `Logic`.
use Rattle.raw_box.proofs.Prelude.{◌≡◌, List, [], ◌∷◌, ◌++◌, refl, ap, Goes-blank, handle_tells, Global, ghosts}
use lib.Dec.{T}
use seplogic.Ra.Ura.{Ura}
use mir.Syntax.{Fn, Callee, Sym, Body, Local, seq, assign, return, place, field, copy, int, w64, rv_opd, aggregate, local, value_local}
use mir.Syntax.{ty_ptr}
use mir.Val.{Val}
use base.Logic.{SProp, ent, emp}
use base.Fml.{Fml, ftrue, fsep}
use prog.Wp.{Calls, Loops, WpFn}
use prog.Model.{Model}
use types.Logic.{Logic}
use types.Kit.{Item, Goal, Seq, prop, ‵, raw, ◌$◌, move, drop, split, join, fsplit, fjoin, use0, use1, rewrite}
use types.Run.{stop, fld, lit, of_opd, no_more, and_then, returns}
use types.ByLocal.{alloc_all, pass_all, free_all, look_at, get, get_in, sets}
use types.Part.{agg, sub, whole}
use contract.Monad.{fact}
use contract.Running.{Running}
use denote.RattleType.{RattleType}
use denote.Exit.{Kept, Last, left}
use denote.Signature.{plain}
use denote.RawPtr.{Ptr, null_ptr, ptr_val}
use denote.Steps.{nothing, heard}
use denote.Param.{layout}
use denote.Param.Mute.{blank}
use denote.Triple.Clauses.{Clauses}
use denote.Triple.Walked.{Goes, stay_dropped}
use Rattle.std.specs.contracts.alloc.Global as heap
use Rattle.std.proofs.alloc.Global.TheLaws as heap_laws
use Rattle.raw_box.proofs.Consuming.{HasCode, Proved, consumer, consumes, ensured, required}
use Rattle.raw_box.proofs.Words.{Owned, Parts, allocator, entered, fields_in, fields_out, pair_of, pair_typed, pointer_typed, two_fields}
use Rattle.raw_box.proofs.Words.{two_words}

-- the row of the allocator, and that of the parts of a box
abbrev pub HeapRow : RattleType
HeapRow = heap.the_row

abbrev pub PartsRow : RattleType → RattleType
PartsRow R = Parts R HeapRow heap_laws.the_row_laws ghosts

-- what the fields own
abbrev pub fields_own : Ptr → Global → List Val → Fml
fields_own = two_fields HeapRow

-- ---- the code

abbrev with_one : List Local → Body → Fn
with_one locals body =
    record { lifetimes = 0; outlives = []; ty_params = []; givens = 0; params = 1; locals = locals; body = body }

-- both fields are read
abbrev fields_read : Body → Body
fields_read body =
    seq (assign (place 2 []) (rv_opd (copy (place 1 (field 0 ∷ []))))) (seq (assign (place 3 []) (rv_opd (copy (place 1 (field 1 ∷ []))))) body)

-- A struct is converted into another. One is made of null and an allocator. One is opened for its allocator.
abbrev pub converts : Sym → Sym → Fn
converts from to =
    with_one (local (pair_of HeapRow to) value_local ∷ local (pair_of HeapRow from) value_local ∷ local ty_ptr value_local
    ∷ local (layout HeapRow) value_local ∷ local ty_ptr value_local ∷ [])
    (fields_read (seq (assign (place 4 []) (rv_opd (copy (place 2 []))))
    (seq (assign (place 0 []) (aggregate (copy (place 4 []) ∷ copy (place 3 []) ∷ []))) return)))

abbrev pub makes_null : Sym → Fn
makes_null to =
    with_one (local (pair_of HeapRow to) value_local ∷ local (layout HeapRow) value_local ∷ [])
    (seq (assign (place 0 []) (aggregate (int w64 0 ∷ copy (place 1 []) ∷ []))) return)

abbrev pub opens : Sym → Fn
opens from =
    with_one (local (layout HeapRow) value_local ∷ local (pair_of HeapRow from) value_local ∷ local ty_ptr value_local
    ∷ local (layout HeapRow) value_local ∷ [])
    (fields_read (seq (assign (place 0 []) (rv_opd (copy (place 3 [])))) return))

-- ---- its runs

module _ {M : Type 1} {𝓤 : Ura M} {𝓛 : Logic 𝓤} (C : Calls 𝓤 𝓛.H) (Λ : Loops 𝓤 𝓛.H) {K : Type 0} (k : K) (a : Global) (words : List Val)
    (X : Item 𝓤) (Kf : Val → SProp 𝓤) where
  converted : (from to : Sym) (p : Ptr) → ((w : Val) → Seq K 𝓛 (‵ (fields_own p a (w ∷ [])) ∷ X ∷ []) (prop (Kf w)))
      → Seq K 𝓛 (‵ (fields_own p a words) ∷ X ∷ []) (prop (WpFn 𝓤 𝓛.H C Λ (converts from to) (words ++ []) Kf))
  converted from to p next =
      fields_out HeapRow heap_laws.the_row_laws ghosts k p a words (λ h is good.
      entered k (converts from to) (two_words (ptr_val p) h) is $ alloc_all k (λ l. pass_all k refl (pair_typed HeapRow p h good, tt) $
      sets k (of_opd k (get_in k (fld k refl (stop k)) (sub k 0 refl (whole k)))) refl (pointer_typed p) $
      sets k (of_opd k (get_in k (fld k refl (stop k)) (sub k 1 refl (whole k)))) refl good $
      sets k (of_opd k (get k refl)) refl (pointer_typed p) $
      sets k (agg k (and_then k (get k refl) (and_then k (get k refl) (no_more k)))) refl (pair_typed HeapRow p h good) $
      returns k (look_at k 0 refl) $ free_all k refl $
      fields_in HeapRow heap_laws.the_row_laws ghosts k p h a $ next (two_words (ptr_val p) h)))

  made_of_null : (to : Sym) → ((w : Val) → Seq K 𝓛 (‵ (fields_own null_ptr a (w ∷ [])) ∷ X ∷ []) (prop (Kf w)))
      → Seq K 𝓛 (‵ (HeapRow.own_val a words) ∷ X ∷ []) (prop (WpFn 𝓤 𝓛.H C Λ (makes_null to) (words ++ []) Kf))
  made_of_null to next =
      handle_tells (allocator HeapRow heap_laws.the_row_laws ghosts) k a words (λ h is good.
      entered k (makes_null to) h is $ alloc_all k (λ l. pass_all k refl (good, tt) $
      sets k (agg k (and_then k (lit k tt) (and_then k (get k refl) (no_more k)))) refl (pair_typed HeapRow null_ptr h good) $
      returns k (look_at k 0 refl) $ free_all k refl $
      fields_in HeapRow heap_laws.the_row_laws ghosts k null_ptr h a $ next (two_words (ptr_val null_ptr) h)))

  opened_for_alloc : (from : Sym) (p : Ptr) → ((w : Val) → Seq K 𝓛 (‵ (HeapRow.own_val a (w ∷ [])) ∷ X ∷ []) (prop (Kf w)))
      → Seq K 𝓛 (‵ (fields_own p a words) ∷ X ∷ []) (prop (WpFn 𝓤 𝓛.H C Λ (opens from) (words ++ []) Kf))
  opened_for_alloc from p next =
      fields_out HeapRow heap_laws.the_row_laws ghosts k p a words (λ h is good.
      entered k (opens from) (two_words (ptr_val p) h) is $ alloc_all k (λ l. pass_all k refl (pair_typed HeapRow p h good, tt) $
      sets k (of_opd k (get_in k (fld k refl (stop k)) (sub k 0 refl (whole k)))) refl (pointer_typed p) $
      sets k (of_opd k (get_in k (fld k refl (stop k)) (sub k 1 refl (whole k)))) refl good $
      sets k (of_opd k (get k refl)) refl good $
      returns k (look_at k 0 refl) $ free_all k refl $ next h))

-- ---- its contracts

-- a value's fields, and what it owns beside them
pub record Opened (P : RattleType) (v : P.Denot) : Type 2 where
  pub at : Ptr
  pub alloc : Global
  pub heap : Fml
  pub owned : (words : List Val) → P.own_val v words ≡ fsep (fields_own at alloc words) heap

abbrev pub parts_opened : (R : RattleType) (v : (PartsRow R).Denot) → Opened (PartsRow R) v
parts_opened R v = record { at = v.at; alloc = v.alloc; heap = Owned R HeapRow heap_laws.the_row_laws ghosts v.alloc v.value v.at; owned = λ words. refl }

-- The struct owns the box of this value; the parts of that box.
abbrev pub OwnsBox : (R : RattleType) {P : RattleType} {v : P.Denot} → Opened P v → Type 1
OwnsBox R o = (x : R.Denot) × (o.heap ≡ Owned R HeapRow heap_laws.the_row_laws ghosts o.alloc x o.at)

abbrev pub box_parts : (R : RattleType) {P : RattleType} {v : P.Denot} (o : Opened P v) → OwnsBox R o → (PartsRow R).Denot
box_parts R o box = record { at = o.at; alloc = o.alloc; value = box.0 }

-- that nothing is left of a value that was consumed
abbrev pub LeavesNothing : RattleType → Kept → Type 0
LeavesNothing P k = (v : P.Denot) (f : Last (P.exit k) v) → T (blank (left (P.exit k) v f))

module _ {M : Type 1} {𝓤 : Ura M} (𝓛 : Logic 𝓤) (𝓜 : Model 𝓤 𝓛.H) (𝓡 : Running 𝓤 𝓛.H 𝓜) (k : Kept) where
  module _ (P Q : RattleType) (c : Clauses 𝓤 (consumer P Q k)) (last : (v : P.Denot) → Last (P.exit k) v) (nothing_left : LeavesNothing P k) where
    -- A function that converts a struct meets its contract, if the result owns the fields and `heap`. What the struct owned beside its fields
    -- and what is required show φ and give `heap`.
    pub converts_well : (opened : (v : P.Denot) → Opened P v) (φ : P.Denot → Type 0) (heap : (v : P.Denot) → φ v → Fml)
        → ((K : Type 0) → K → (v : P.Denot) (g : (c tt (v, tt)).ghost) (Γ : List (Item 𝓤)) (G : Goal 𝓤 𝓛.H)
        → ((x : φ v) → Seq K 𝓛 (‵ (heap v x) ∷ Γ) G) → Seq K 𝓛 (raw (required 𝓛 𝓜 𝓡 P Q k c last v g) ∷ ‵ (opened v).heap ∷ Γ) G)
        → (result : (v : P.Denot) → φ v → Q.Denot)
        → ((v : P.Denot) (x : φ v) (words : List Val) → fsep (fields_own (opened v).at (opened v).alloc words) (heap v x) ≡ Q.own_val (result v x) words)
        → ((v : P.Denot) (g : (c tt (v, tt)).ghost) (x : φ v) → ent 𝓤 (emp 𝓤) (ensured 𝓛 𝓜 𝓡 P Q k c last v g (result v x)))
        → (name : Callee) (from to : Sym) → HasCode 𝓛 𝓜 𝓡 name (converts from to) → Proved 𝓛 𝓜 𝓡 P Q k c last name
    converts_well opened φ heap learns result owned fine name from to closed =
        consumes 𝓛 𝓜 𝓡 P Q k c last (Goes-blank 𝓛 0 (plain (λ _. P)) k (λ κs x f. nothing_left x f)) name (converts from to) closed
        (λ K t v words g X Kf finish.
        let o = opened v in
        rewrite t 0 (λ (F : Fml). ‵ F) (o.owned words) refl $ fsplit t $ move t (2 ∷ 1 ∷ []) $ learns K t v g _ _ (λ x.
        move t (0 ∷ 2 ∷ []) $ join t $ move t (1 ∷ []) $
        converted _ _ t o.alloc words _ Kf from to o.at (λ w. move t (1 ∷ []) $ split t $ move t (2 ∷ 0 ∷ []) $ fjoin t $
        rewrite t 0 (λ (F : Fml). ‵ F) (owned v x (w ∷ [])) refl $
        use0 𝓛 (raw (ensured 𝓛 𝓜 𝓡 P Q k c last v g (result v x))) (fine v g x) $ move t (1 ∷ []) $
        finish w (result v x))))

  module _ (R Q : RattleType) (c : Clauses 𝓤 (consumer (PartsRow R) Q k)) (last : (v : (PartsRow R).Denot) → Last ((PartsRow R).exit k) v)
      (nothing_left : LeavesNothing (PartsRow R) k) where
    -- So does one that converts the parts of a box, if the result owns the same.
    pub takes_parts_well : (result : (PartsRow R).Denot → Q.Denot) → ((v : (PartsRow R).Denot) (words : List Val)
        → (PartsRow R).own_val v words ≡ Q.own_val (result v) words)
        → ((v : (PartsRow R).Denot) (g : (c tt (v, tt)).ghost) → ent 𝓤 (emp 𝓤) (ensured 𝓛 𝓜 𝓡 (PartsRow R) Q k c last v g (result v)))
        → (name : Callee) (from to : Sym) → HasCode 𝓛 𝓜 𝓡 name (converts from to) → Proved 𝓛 𝓜 𝓡 (PartsRow R) Q k c last name
    takes_parts_well result owned fine =
        converts_well (PartsRow R) Q c last nothing_left (parts_opened R) (λ v. Unit {0}) (λ v _. (parts_opened R v).heap)
        (λ K t v g Γ G next. drop t $ next tt)
        (λ v _. result v) (λ v _. owned v) (λ v g _. fine v g)

  module _ (P R : RattleType) (c : Clauses 𝓤 (consumer P (PartsRow R) k)) (last : (v : P.Denot) → Last (P.exit k) v) (nothing_left : LeavesNothing P k) where
    -- So does one that converts a struct into the parts of a box. What is required shows whose box the struct owns.
    pub gives_parts_well : (opened : (v : P.Denot) → Opened P v) (φ : P.Denot → Type 0)
        → ((v : P.Denot) (g : (c tt (v, tt)).ghost) → ent 𝓤 (required 𝓛 𝓜 𝓡 P (PartsRow R) k c last v g) (fact 𝓤 (φ v)))
        → (box : (v : P.Denot) → φ v → OwnsBox R (opened v))
        → ((v : P.Denot) (g : (c tt (v, tt)).ghost) (x : φ v) → ent 𝓤 (emp 𝓤) (ensured 𝓛 𝓜 𝓡 P (PartsRow R) k c last v g (box_parts R (opened v) (box v x))))
        → (name : Callee) (from to : Sym) → HasCode 𝓛 𝓜 𝓡 name (converts from to) → Proved 𝓛 𝓜 𝓡 P (PartsRow R) k c last name
    gives_parts_well opened φ asks box fine =
        converts_well P (PartsRow R) c last nothing_left opened φ (λ v x. (opened v).heap)
        (λ K t v g Γ G next. use1 𝓛 (raw (fact 𝓤 (φ v))) (asks v g) $ heard t (φ v) next)
        (λ v x. box_parts R (opened v) (box v x)) (λ v x words. ap (λ (F : Fml). fsep (fields_own (opened v).at (opened v).alloc words) F) (box v x).1) fine

  module _ (Q : RattleType) (c : Clauses 𝓤 (consumer HeapRow Q k)) (last : (a : Global) → Last (HeapRow.exit k) a)
      (goes : Goes 𝓛 0 (plain (λ _. HeapRow)) k (stay_dropped (plain (λ _. HeapRow)) k)) where
    -- So does one that makes a struct of null and an allocator, if the struct owns nothing more.
    pub makes_null_well : (result : Global → Q.Denot) → ((a : Global) (words : List Val) → fsep (fields_own null_ptr a words) ftrue
        ≡ Q.own_val (result a) words)
        → ((a : Global) (g : (c tt (a, tt)).ghost) → ent 𝓤 (emp 𝓤) (ensured 𝓛 𝓜 𝓡 HeapRow Q k c last a g (result a)))
        → (name : Callee) (to : Sym) → HasCode 𝓛 𝓜 𝓡 name (makes_null to) → Proved 𝓛 𝓜 𝓡 HeapRow Q k c last name
    makes_null_well result owned fine name to closed =
        consumes 𝓛 𝓜 𝓡 HeapRow Q k c last goes name (makes_null to) closed (λ K t a words g X Kf finish.
        move t (1 ∷ []) $ drop t $ made_of_null _ _ t a words X Kf to (λ w. nothing t $ move t (1 ∷ 0 ∷ []) $ fjoin t $
        rewrite t 0 (λ (F : Fml). ‵ F) (owned a (w ∷ [])) refl $
        use0 𝓛 (raw (ensured 𝓛 𝓜 𝓡 HeapRow Q k c last a g (result a))) (fine a g) $ move t (1 ∷ []) $
        finish w (result a)))

  module _ (P : RattleType) (c : Clauses 𝓤 (consumer P HeapRow k)) (last : (v : P.Denot) → Last (P.exit k) v) (nothing_left : LeavesNothing P k) where
    -- So does one that opens a struct for its allocator. What the struct owned beside its fields is lost.
    pub opens_well : (opened : (v : P.Denot) → Opened P v)
        → ((v : P.Denot) (g : (c tt (v, tt)).ghost) → ent 𝓤 (emp 𝓤) (ensured 𝓛 𝓜 𝓡 P HeapRow k c last v g (opened v).alloc))
        → (name : Callee) (from : Sym) → HasCode 𝓛 𝓜 𝓡 name (opens from) → Proved 𝓛 𝓜 𝓡 P HeapRow k c last name
    opens_well opened fine name from closed =
        consumes 𝓛 𝓜 𝓡 P HeapRow k c last (Goes-blank 𝓛 0 (plain (λ _. P)) k (λ κs x f. nothing_left x f)) name (opens from) closed
        (λ K t v words g X Kf finish.
        let o = opened v in
        move t (1 ∷ []) $ drop t $ rewrite t 0 (λ (F : Fml). ‵ F) (o.owned words) refl $ fsplit t $ move t (1 ∷ []) $ drop t $
        opened_for_alloc _ _ t o.alloc words X Kf from o.at (λ w.
        use0 𝓛 (raw (ensured 𝓛 𝓜 𝓡 P HeapRow k c last v g o.alloc)) (fine v g) $ move t (1 ∷ []) $
        finish w o.alloc))
