-- The exchanges with an honest peer, one longer: what the simplest receiver has then.
use Rattle.node_laws.proofs.Prelude.{option_map_or, ◌≡◌, ℕ, suc, ◌+◌, List, [], ◌∷◌, ◌++◌, length, map, refl, ap, ◌∙◌, if◌then◌else◌, eqb}
use Rattle.node_laws.proofs.Prelude.{eq-eqb, wrap, PlainSegment, choose, eqb-eq, append_nothing, Exchange, TraceEntry, sent_at}
use Rattle.node_laws.proofs.Prelude.{exchanges_onto, receives, takes_next, Asker, in_turn, IsHonest, Sockets}

joins : (iss : ℕ) (incarnation : List Exchange) (places more : List ℕ) (got : List ℕ) → receives iss incarnation (places ++ more) got
    ≡ receives iss incarnation more (receives iss incarnation places got)
joins iss incarnation [] more got = refl
joins iss incarnation (k ∷ places) more got = joins iss incarnation places more (option_map_or (λ s. takes_next iss got s) (sent_at incarnation k) got)

shifted : (iss : ℕ) (x : Exchange) (older : List Exchange) (places got : List ℕ) → receives iss (x ∷ older) (map suc places) got ≡ receives iss older places got
shifted iss x older [] got = refl
shifted iss x older (k ∷ places) got = shifted iss x older places (option_map_or (λ s. takes_next iss got s) (sent_at older k) got)

-- what the receiver has of these exchanges, in their order
abbrev pub has_of : ℕ → List Exchange → List ℕ
has_of iss incarnation = receives iss incarnation (in_turn incarnation) []

pub has_on : (iss : ℕ) (x : Exchange) (older : List Exchange) → has_of iss (x ∷ older) ≡ option_map_or
    (λ s. takes_next iss (has_of iss older) s) x.output (has_of iss older)
has_on iss x older =
    joins iss (x ∷ older) (map suc (in_turn older)) (0 ∷ []) []
    ∙ ap (λ got. option_map_or (λ s. takes_next iss got s) x.output got) (shifted iss x older (in_turn older) [])

-- a segment without text adds nothing
pub nothing_more : (iss : ℕ) (got : List ℕ) (s : PlainSegment) → s.text ≡ [] → takes_next iss got s ≡ got
nothing_more iss got s e =
    choose (λ l. l ≡ got) (eqb s.seq (wrap (iss + 1 + length got))) (got ++ s.text) got (λ y. ap (λ t. got ++ t) e ∙ append_nothing got) (λ y. refl)

-- text at its number is taken
pub takes_at : (iss : ℕ) (got : List ℕ) (s : PlainSegment) → s.seq ≡ wrap (iss + 1 + length got) → takes_next iss got s ≡ got ++ s.text
takes_at iss got s e = ap (λ b. if b then got ++ s.text else got) (eq-eqb s.seq (wrap (iss + 1 + length got)) e)

-- at another number it is discarded
pub lets_go : (iss : ℕ) (got : List ℕ) (s : PlainSegment) → (s.seq ≡ wrap (iss + 1 + length got) → ⊥) → takes_next iss got s ≡ got
lets_go iss got s n = choose (λ l. l ≡ got) (eqb s.seq (wrap (iss + 1 + length got))) (got ++ s.text) got
    (λ y. absurd (n (eqb-eq s.seq (wrap (iss + 1 + length got)) y))) (λ y. refl)

-- the exchanges before are honest too
pub honest_before : (a : Asker) (p : Sockets) (turns : List TraceEntry) (y : Exchange) (older : List Exchange)
    → IsHonest a (exchanges_onto p turns (y ∷ older)) → IsHonest a (y ∷ older)
honest_before a p [] y older h = h
honest_before a p (t ∷ turns) y older h = (honest_before a p turns _ (y ∷ older) h).1
