-- A run over events, put together from its parts.
use Rattle.serve_loop.proofs.Prelude.{◌≡◌, ℕ, Bool, List, [], ◌∷◌, ◌++◌, Option, None, Some, refl, sym, ap, ◌∙◌, append-nil, append_assoc}
use Rattle.serve_loop.proofs.Prelude.{subst, Appends, Addr, AppSpec, BreaksOff, breaks_by, breaks_then, Appends-then, appends_by}
use Rattle.serve_loop.proofs.Prelude.{Appends-none, Event, Reply, AbstractNode, NodeStep, Ran, joined, run, step, text_for, text_of}
use Rattle.serve_loop.proofs.Prelude.{PrefixWritten, StationEvent, Station, StopsIn, AllWritten, station_after_all, station_after, output}
use Rattle.serve_loop.proofs.Prelude.{output_of_event, MediumSpec}

module _ {A : Type 0} (m : AppSpec) (served : ℕ → Bool) (w : MediumSpec A) (own : Addr) where
  after-append : (xs ys : List (StationEvent A)) (s : Station A) → station_after_all m served (xs ++ ys) s ≡ station_after_all m served ys
      (station_after_all m served xs s)
  after-append [] ys s = refl
  after-append (x ∷ xs) ys s = after-append xs ys (station_after m served s x)

  pub output-append : (xs ys : List (StationEvent A)) (s : Station A)
      → output m served w own (xs ++ ys) s ≡ output m served w own xs s ++ output m served w own ys (station_after_all m served xs s)
  output-append [] ys s = refl
  output-append (x ∷ xs) ys s =
      let next = station_after m served s x in
      ap (λ l. output_of_event m served w own s x ++ l) (output-append xs ys next)
      ∙ sym (append_assoc (output_of_event m served w own s x) (output m served w own xs next) (output m served w own ys (station_after_all m served xs next)))

  pub wrote_by : (xs ys : List (StationEvent A)) (P Q : Station A → Type 0) (a b : Option (List ℕ)) → xs ≡ ys
      → AllWritten m served w own ys P Q a b → AllWritten m served w own xs P Q a b
  wrote_by xs ys P Q a b e v = subst (λ (l : List (StationEvent A)). AllWritten m served w own l P Q a b) (sym e) v

  pub broke_by : (xs ys : List (StationEvent A)) (P Q : Station A → Type 0) (a b : Option (List ℕ)) → xs ≡ ys
      → PrefixWritten m served w own ys P Q a b → PrefixWritten m served w own xs P Q a b
  broke_by xs ys P Q a b e v = subst (λ (l : List (StationEvent A)). PrefixWritten m served w own l P Q a b) (sym e) v

  -- nothing happened
  pub wrote_none : (P Q : Station A → Type 0) (a : Option (List ℕ)) → ((s : Station A) → P s → Q s) → AllWritten m served w own [] P Q a a
  wrote_none P Q a on = record { each = λ s p. (on s p, Appends-none a) }

  -- one deed
  one_text : (x : StationEvent A) (s : Station A) → output m served w own (x ∷ []) s ≡ output_of_event m served w own s x
  one_text x s = append-nil (output_of_event m served w own s x)

  pub wrote_one : (x : StationEvent A) (P Q : Station A → Type 0) (a b : Option (List ℕ))
      → ((s : Station A) → P s → Q (station_after m served s x) × Appends a b (output_of_event m served w own s x))
      → AllWritten m served w own (x ∷ []) P Q a b
  wrote_one x P Q a b f = record { each = λ s p. ((f s p).0, appends_by a b _ _ (one_text x s) (f s p).1) }

  pub broke_one : (x : StationEvent A) (P Q : Station A → Type 0) (a b : Option (List ℕ))
      → ((s : Station A) → P s → Q (station_after m served s x) × BreaksOff [] (output_of_event m served w own s x) a b)
      → PrefixWritten m served w own (x ∷ []) P Q a b
  broke_one x P Q a b f =
      record { each = λ s p. record { done = []; last = x; later = []; split = refl; after = (f s p).0; broke = (f s p).1 } }

  -- deeds, and then others
  pub wrote_then : (xs ys : List (StationEvent A)) (P Q R : Station A → Type 0) (a b c : Option (List ℕ))
      → AllWritten m served w own xs P Q a b → AllWritten m served w own ys Q R b c
      → AllWritten m served w own (xs ++ ys) P R a c
  wrote_then xs ys P Q R a b c u v = record {
    each = λ s p.
        let mid : Station A = station_after_all m served xs s in
        let first = u.each s p in
        let more = v.each mid first.0 in (
          subst (λ (k : Station A). R k) (sym (after-append xs ys s)) more.0,
          appends_by a c _ _ (output-append xs ys s) (Appends-then a b c _ _ first.1 more.1),
        );
  }

  stops_then : (xs ys : List (StationEvent A)) (R : Station A → Type 0) (a b c : Option (List ℕ)) (s : Station A) → Appends a b (output m served w own xs s)
      → StopsIn m served w own ys R b c (station_after_all m served xs s) → StopsIn m served w own (xs ++ ys) R a c s
  stops_then xs ys R a b c s first more = record {
    done = xs ++ more.done;
    last = more.last;
    later = more.later;
    split = ap (λ l. xs ++ l) more.split ∙ sym (append_assoc xs more.done (more.last ∷ more.later));
    after = subst (λ (k : Station A). R k)
        (sym (ap (λ (l : List (StationEvent A)). station_after_all m served l s) (append_assoc xs more.done (more.last ∷ []))
        ∙ after-append xs (more.done ++ more.last ∷ []) s))
        more.after;
    broke = breaks_by _ _ _ _ a c (output-append xs more.done s)
        (ap (λ (k : Station A). output_of_event m served w own k more.last) (after-append xs more.done s))
        (breaks_then (output m served w own xs s) _ _ a b c first more.broke);
  }

  pub broke_then : (xs ys : List (StationEvent A)) (P Q R : Station A → Type 0) (a b c : Option (List ℕ))
      → AllWritten m served w own xs P Q a b → PrefixWritten m served w own ys Q R b c
      → PrefixWritten m served w own (xs ++ ys) P R a c
  broke_then xs ys P Q R a b c u v = record {
    each = λ s p. let first = u.each s p in stops_then xs ys R a b c s first.1 (v.each (station_after_all m served xs s) first.0);
  }

  -- further deeds that are not reached
  stops_more : (xs ys : List (StationEvent A)) (Q : Station A → Type 0) (a b : Option (List ℕ)) (s : Station A)
      → StopsIn m served w own xs Q a b s → StopsIn m served w own (xs ++ ys) Q a b s
  stops_more xs ys Q a b s it =
      let split = ap (λ l. l ++ ys) it.split ∙ append_assoc it.done (it.last ∷ it.later) ys in
      record { done = it.done; last = it.last; later = it.later ++ ys; split = split; after = it.after; broke = it.broke }

  pub broke_more : (xs ys : List (StationEvent A)) (P Q : Station A → Type 0) (a b : Option (List ℕ)) → PrefixWritten m served w own xs P Q
      a b → PrefixWritten m served w own (xs ++ ys) P Q a b
  broke_more xs ys P Q a b v = record { each = λ s p. stops_more xs ys Q a b s (v.each s p) }

  -- a stronger property before
  pub wrote_from : (xs : List (StationEvent A)) (O P Q : Station A → Type 0) (a b : Option (List ℕ)) → ((s : Station A) → O s → P s)
      → AllWritten m served w own xs P Q a b → AllWritten m served w own xs O Q a b
  wrote_from xs O P Q a b on v = record { each = λ s p. v.each s (on s p) }

  pub broke_from : (xs : List (StationEvent A)) (O P Q : Station A → Type 0) (a b : Option (List ℕ)) → ((s : Station A) → O s → P s)
      → PrefixWritten m served w own xs P Q a b → PrefixWritten m served w own xs O Q a b
  broke_from xs O P Q a b on v = record { each = λ s p. v.each s (on s p) }

-- the same of a serial line's texts
pub text_of-joined : (own : Addr) (o : Option Reply) (rest : List Reply) → text_of own (joined o rest) ≡ text_for own o ++ text_of own rest
text_of-joined own None rest = refl
text_of-joined own (Some reply) rest = refl

module _ (m : AppSpec) (served : ℕ → Bool) (own : Addr) where
  pub run-text-append : (xs ys : List Event) (n : AbstractNode)
      → text_of own (run m served (xs ++ ys) n).sent ≡ text_of own (run m served xs n).sent ++ text_of own (run m served ys (run m served xs n).node).sent
  run-text-append [] ys n = refl
  run-text-append (x ∷ xs) ys n =
      let s : NodeStep = step m served n x in
      let first : Ran = run m served xs s.node in
      text_of-joined own s.sent (run m served (xs ++ ys) s.node).sent
      ∙ ap (λ l. text_for own s.sent ++ l) (run-text-append xs ys s.node)
      ∙ sym (append_assoc (text_for own s.sent) (text_of own first.sent) (text_of own (run m served ys first.node).sent))
      ∙ ap (λ l. l ++ text_of own (run m served ys first.node).sent) (sym (text_of-joined own s.sent first.sent))
