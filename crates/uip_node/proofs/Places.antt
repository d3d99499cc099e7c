-- A write to one slot preserves what holds for the others.
use Rattle.uip_node.proofs.Prelude.{ℕ, ◌≡◌, List, Some, inl, inr, ap, sym, ◌∙◌, subst, length, length-set, slice_get, slice_set, Ghosts}
use Rattle.uip_node.proofs.Prelude.{Connections, Conn, Outcome, Connection, Rests, StepFits, IsSound, ConnRepresents, Meets, Step}
use Rattle.uip_node.proofs.Prelude.{AllWellFormed, AllSound, IsIn, IsNamed, MeetsAt, OthersStay, SlotsRepresent, TookStep}
use Rattle.uip_node.proofs.Tables.{get_after_set, get_set_same}

all_sound : {A S : Type 0} (g : Ghosts A S) (k : g.Config) (cs : List (Conn A)) → AllWellFormed g k cs → AllSound g k cs
all_sound g k cs kept i c h = (kept i c h).sound

pub sound_after : {A S : Type 0} (g : Ghosts A S) (k : g.Config) (cs : List (Conn A)) (i : ℕ) (d : Conn A) → AllSound g k cs → IsSound g k d
    → AllSound g k (slice_set cs i d)
sound_after {A} g k cs i d all here j c h =
    elim (get_after_set cs i j d c h) [ inl e ↦ subst (λ (x : Conn A). IsSound g k x) (sym e.1) here | inr old ↦ all j c old ]

pub others_stay : {A : Type 0} (cs : List (Conn A)) (i : ℕ) (d : Conn A) → OthersStay i cs (slice_set cs i d)
others_stay cs i d j c other h =
    elim (get_after_set cs i j d c h) [ inl e ↦ absurd (other (sym e.0)) | inr old ↦ old ]

pub is_in_after : {A : Type 0} (P : Conn A → Type 0) (cs : List (Conn A)) (i : ℕ) (d : Conn A) → P d → IsIn (slice_set cs i d) i P
is_in_after P cs i d here c h = subst P (sym (get_set_same cs i d c h)) here

pub represents_after : {A S : Type 0} (g : Ghosts A S) (k : g.Config) (cs : List (Conn A)) (abstracts : List Connection) (i : ℕ)
    (d : Conn A) (b : Connection) → SlotsRepresent g k cs abstracts → ConnRepresents g k d b → SlotsRepresent g k (slice_set cs i d) (slice_set abstracts i b)
represents_after {A} g k cs abstracts i d b all here = record {
  same_length = length-set abstracts i b ∙ (all.same_length ∙ sym (length-set cs i d));
  each = λ j c a hc ha.
      elim (get_after_set cs i j d c hc) [
        | inl p ↦
            let same : a ≡ b = get_set_same abstracts j b a (subst (λ (n : ℕ). slice_get (slice_set abstracts n b) j ≡ Some a) p.0 ha) in
            subst (λ (x : Conn A). ConnRepresents g k x a) (sym p.1) (subst (λ (x : Connection). ConnRepresents g k d x) (sym same) here)
        | inr p ↦ elim (get_after_set abstracts i j b a ha) [
          | inl q ↦
              let same : c ≡ d = get_set_same cs j d c (subst (λ (n : ℕ). slice_get (slice_set cs n d) j ≡ Some c) q.0 hc) in
              subst (λ (x : Conn A). ConnRepresents g k x a) (sym same) (subst (λ (x : Connection). ConnRepresents g k d x) (sym q.1) here)
          | inr q ↦ all.each j c a p q
        ]
      ];
}

pub meets_after : {A S : Type 0} (g : Ghosts A S) (k : g.Config) (cs : List (Conn A)) (abstracts : List Connection) (i : ℕ) (d : Conn A)
    (ns : List ℕ) (step : Step) (o : Outcome) → SlotsRepresent g k cs abstracts → Meets g k d ns step o
    → ((step ≡ Step.Drop → ⊥) → IsNamed d o.connection) → MeetsAt g k (slice_set cs i d) ns step abstracts i o
meets_after g k cs abstracts i d ns step o all here name = record {
  slots = represents_after g k cs abstracts i d o.connection all here.connection;
  counted = here.counted;
  asked = here.asked;
  named = λ speaks. is_in_after (λ c. IsNamed c o.connection) cs i d (name speaks);
}

-- the connection in a slot did what the outcome has, if the table is seen as other lists than its own
pub meets_viewed : {A S : Type 0} (g : Ghosts A S) (k : g.Config) (inside view : Connections A) (slot : ℕ) (c d : Conn A) (ns : List ℕ)
    (step : Step) (f : Connection → Outcome) →
    inside ≡ view → slice_get view.conns slot ≡ Some c → ((a : Connection) → ConnRepresents g k c a → Meets g k d ns step (f a))
    → ((a : Connection) → ConnRepresents g k c a → (step ≡ Step.Drop → ⊥) → IsNamed d (f a).connection) →
    (abstracts : List Connection) (a : Connection) → SlotsRepresent g k view.conns abstracts → slice_get abstracts slot ≡ Some a
    → MeetsAt g k (slice_set inside.conns slot d) ns step abstracts slot (f a)
meets_viewed {A} g k inside view slot c d ns step f e at meets named abstracts a stand there =
    meets_after g k inside.conns abstracts slot d ns step (f a) (subst (λ (t : Connections A). SlotsRepresent g k t.conns abstracts) (sym e) stand)
    (meets a (stand.each slot c a at there)) (named a (stand.each slot c a at there))

-- the connection in a slot takes a step, where the table is seen as other lists than its own
pub took_step : {A S : Type 0} (g : Ghosts A S) (k : g.Config) (inside old : Connections A) (slot : ℕ) (c d : Conn A) (step : Step) →
    inside ≡ old → slice_get old.conns slot ≡ Some c → AllWellFormed g k old.conns → IsSound g k d → (Rests c → StepFits d step)
    → TookStep g k slot old (record { conns = slice_set inside.conns slot d; iss = inside.iss }) step
took_step {A} g k inside old slot c d step e at kept sound fits = record {
  long = length-set inside.conns slot d ∙ ap (λ (t : Connections A). length t.conns) e;
  iss = ap (λ (t : Connections A). t.iss) e;
  sound = sound_after g k inside.conns slot d (subst (λ (t : Connections A). AllSound g k t.conns) (sym e) (all_sound g k old.conns kept)) sound;
  fits = is_in_after (λ c. StepFits c step) inside.conns slot d (fits (kept slot c at).busy);
  others = λ j c other h. subst (λ (t : Connections A). slice_get t.conns j ≡ Some c) e (others_stay inside.conns slot d j c other h);
}
