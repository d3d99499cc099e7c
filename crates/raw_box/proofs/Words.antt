-- The machine words of a struct of a pointer and an allocator, as `BoxParts` is. Assumes `Logic`.
use Rattle.raw_box.proofs.Prelude.{◌≡◌, ℕ, List, [], ◌∷◌, ◌++◌, refl, sym, subst, lit<, Ghosts, Al, handle_tells, Good, box_owns, and_tt}
use mathlib.Core.Bool.{true, ◌&&◌}
use lib.Dec.{T}
use seplogic.Ra.Ura.{Ura}
use mir.Syntax.{Fn, Sym, Ty, ty_ptr, ty_struct, tcons, impl, tnil, dnil}
use mir.Raw.{raw as bare}
use mir.Val.{Val, vptr, vstruct, vcons, vnil, of_list, has_ty, WT}
use base.Logic.{SProp, ent, never, id⊢, fst∗}
use base.Fml.{Fml, fex, fsep, feq}
use prog.Wp.{Calls, Loops, WpFn}
use types.Logic.{Logic, sem}
use types.Kit.{Item, Goal, Seq, Step, step, prop, allocs, params', runs, at_ret, ‵, ◌$◌, move, drop, suffices, fsplit, fjoin, fpick, fpack}
use types.Kit.{feq_i, feq_l}
use types.Run.{enter}
use denote.RattleType.{RattleType, Valss, flat, owns}
use denote.Builtin.{RawPtr}
use denote.Memory.{lone}
use denote.RawPtr.{Ptr, block_ptr, null_ptr, ptr_val, in_a_block}
use denote.Steps.{nothing}
use denote.Param.{layout}
use denote.Param.Laws.{Laws}
use Rattle.raw_box.specs.contracts.parts.BoxParts as parts

-- a struct of two words
abbrev pub two_words : Val → Val → Val
two_words first second = vstruct (vcons first (vcons second vnil))

-- A function is entered with the one word that it is given.
pub entered : {M : Type 1} {𝓤 : Ura M} {𝓛 : Logic 𝓤} {K : Type 0} {Γ : List (Item 𝓤)} {C : Calls 𝓤 𝓛.H} {Λ : Loops 𝓤 𝓛.H}
    {Kf : Val → SProp 𝓤} → K → (f : Fn) {us : List Val} (w : Val) → us ≡ w ∷ []
    → Step K 𝓛 Γ (allocs f.locals (λ E. params' E (w ∷ []) (runs C Λ E f.body (at_ret E Kf)))) Γ (prop (WpFn 𝓤 𝓛.H C Λ f (us ++ []) Kf))
entered {𝓤 = 𝓤} {𝓛 = 𝓛} {C = C} {Λ = Λ} {Kf = Kf} k f w is = step (λ rest.
    let Run : List Val → SProp 𝓤 = λ words. WpFn 𝓤 𝓛.H C Λ f words Kf in
    suffices k (Run (w ∷ [])) (subst (λ (us : List Val). ent 𝓤 (Run (w ∷ [])) (Run us)) (sym (λ i. is i ++ [])) (id⊢ 𝓤 (Run (w ∷ [])))) $
    enter k C Λ f (w ∷ []) Kf $ rest)

-- a pointer is of its type
pub pointer_typed : (p : Ptr) → T (has_ty ty_ptr (ptr_val p)) × WT (ptr_val p)
pointer_typed (block_ptr b o) = (tt, tt)
pointer_typed null_ptr = (tt, record { fits = lit< tt })

module _ (Z : RattleType) where
  -- the type of a struct of a pointer and an allocator, by its name
  abbrev pub pair_of : Sym → Ty
  pair_of name = ty_struct name (tcons ty_ptr (tcons (layout Z) tnil))

  -- such words are of that type
  pub pair_typed : (p : Ptr) (h : Val) → Good (layout Z) h → T (has_ty ty_ptr (ptr_val p) && (has_ty (layout Z) h && true)) × WT (two_words (ptr_val p) h)
  pair_typed (block_ptr b o) h good = (and_tt (has_ty (layout Z) h) good.0, (tt, (good.1, tt)))
  pair_typed null_ptr h good = (and_tt (has_ty (layout Z) h) good.0, (record { fits = lit< tt }, (good.1, tt)))

  -- what the two fields of a struct own under the ∃, and what they own
  abbrev fields_at : Ptr → Z.Denot → List Val → Valss (RawPtr ∷ Z ∷ []) → Fml
  fields_at p a words vss =
      fsep (feq (List Val) words (vstruct (of_list (flat (RawPtr ∷ Z ∷ []) vss)) ∷ [])) (owns (RawPtr ∷ Z ∷ []) (p, (a, tt)) vss)

  abbrev pub two_fields : Ptr → Z.Denot → List Val → Fml
  two_fields p a words = fex (Valss (RawPtr ∷ Z ∷ [])) (fields_at p a words)

module _ (Z : RattleType) (laws : Laws Z) (g : Ghosts Z.Denot) where
  abbrev pub allocator : Al
  allocator = record { row = Z; laws = laws; g = g; d = impl [] tnil dnil; drops = impl [] tnil dnil }

  module _ {M : Type 1} {𝓤 : Ura M} {𝓛 : Logic 𝓤} {K : Type 0} {Γ : List (Item 𝓤)} {G : Goal 𝓤 𝓛.H} where
    -- The fields are opened.
    pub fields_out : K → (p : Ptr) (a : Z.Denot) (words : List Val)
        → ((h : Val) → words ≡ two_words (ptr_val p) h ∷ [] → Good (layout Z) h → Seq K 𝓛 (‵ (Z.own_val a (h ∷ [])) ∷ Γ) G)
        → Seq K 𝓛 (‵ (two_fields Z p a words) ∷ Γ) G
    fields_out k p a words next =
        fpick k (λ fields. fsplit k $ feq_l k (λ whole. fsplit k $ feq_l k (λ pointer. fsplit k $
        handle_tells allocator k a fields.1.0 (λ h handle good.
        let by_pointer = subst (λ (ps : List Val). words ≡ vstruct (of_list (ps ++ (fields.1.0 ++ []))) ∷ []) pointer whole in
        move k (1 ∷ []) $ drop k $
        next h (subst (λ (hs : List Val). words ≡ vstruct (of_list (ptr_val p ∷ (hs ++ []))) ∷ []) handle by_pointer) good))))

    -- The fields are made.
    pub fields_in : K → (p : Ptr) (h : Val) (a : Z.Denot)
        → Step K 𝓛 (‵ (two_fields Z p a (two_words (ptr_val p) h ∷ [])) ∷ Γ) G (‵ (Z.own_val a (h ∷ [])) ∷ Γ) G
    fields_in k p h a = step (λ rest.
        let pointer = ptr_val p ∷ [] in
        let words = two_words (ptr_val p) h ∷ [] in
        nothing k $ move k (1 ∷ 0 ∷ []) $ fjoin k $ feq_i k (List Val) pointer pointer refl $ fjoin k $ feq_i k (List Val) words words refl $ fjoin k $
        fpack k (Valss (RawPtr ∷ Z ∷ [])) (fields_at Z p a words) (pointer, (h ∷ [], tt)) $ rest)

module _ (R Z : RattleType) (laws : Laws Z) (g : Ghosts Z.Denot) where
  abbrev pub Parts : RattleType
  Parts = parts.the_row R Z g

  -- what the parts own of memory, at an address
  abbrev pub Owned : Z.Denot → R.Denot → Ptr → Fml
  Owned a x p = box_owns (g.dealloc_token a) R p x

  module _ {M : Type 1} {𝓤 : Ura M} {𝓛 : Logic 𝓤} {K : Type 0} {Γ : List (Item 𝓤)} {G : Goal 𝓤 𝓛.H} where
    -- The parts are opened: nothing is owned at null, so the pointer leads into a block.
    pub parts_out : K → (d : Parts.Denot) (words : List Val)
        → ((b o : ℕ) (h : Val) → d.at ≡ block_ptr b o → words ≡ two_words (vptr b o) h ∷ [] → Good (layout Z) h
        → Seq K 𝓛 (‵ (Owned d.alloc d.value (block_ptr b o)) ∷ ‵ (Z.own_val d.alloc (h ∷ [])) ∷ Γ) G)
        → Seq K 𝓛 (‵ (Parts.own_val d words) ∷ Γ) G
    parts_out k d words next =
        let null_owns = fst∗ 𝓤 (never 𝓤) (sem 𝓛 (g.dealloc_token d.alloc (bare (lone R.mir)) null_ptr)) in
        fsplit k $ fields_out Z laws g k d.at d.alloc words (λ h whole good. move k (1 ∷ []) $
        in_a_block k d.at (Owned d.alloc d.value) null_owns (λ b o at.
        next b o h at (subst (λ (p : Ptr). words ≡ two_words (ptr_val p) h ∷ []) at whole) good))

    -- The parts are made.
    pub parts_in : K → (b o : ℕ) (h : Val) (a : Z.Denot) (x : R.Denot)
        → Step K 𝓛 (‵ (Parts.own_val (record { at = block_ptr b o; alloc = a; value = x }) (two_words (vptr b o) h ∷ [])) ∷ Γ) G
        (‵ (Owned a x (block_ptr b o)) ∷ ‵ (Z.own_val a (h ∷ [])) ∷ Γ) G
    parts_in k b o h a x = step (λ rest. move k (1 ∷ 0 ∷ []) $ fields_in Z laws g k (block_ptr b o) h a $ fjoin k $ rest)
