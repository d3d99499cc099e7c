-- If a line conforms, so does each prefix of it.
use Rattle.line_laws.proofs.Prelude.{All, ◌≡◌, ℕ, Bool, ◌∙◌, ap, List, [], ◌∷◌, ◌++◌, map, refl, sym, subst, append_assoc, All-cons}
use Rattle.line_laws.proofs.Prelude.{All-head, All-nil, All-tail, Addr, OutputModel, Sockets, MediumSpec, StationEvent, OfMedium, OfNode}
use Rattle.line_laws.proofs.Prelude.{reply_text, IsEchoed, TraceConforms, Exchange, TraceEntry, exchange, exchanges_onto, exchanges_with}
use Rattle.line_laws.proofs.Prelude.{PrefixConforms, events_among, text_in}

-- ---- of turns

-- later exchanges come first
record Later (newer older : List Exchange) : Type 0 where
  more : List Exchange
  split : newer ≡ more ++ older

later : (p : Sockets) (turns : List TraceEntry) (before : List Exchange) → Later (exchanges_onto p turns before) before
later p [] before = record { more = []; split = refl }
later p (t ∷ turns) before =
    let one : Exchange = exchange p t.event t.sent in
    let rest = later p turns (one ∷ before) in
    record { more = rest.more ++ one ∷ []; split = rest.split ∙ sym (append_assoc rest.more (one ∷ []) before) }

session_on : (p : Sockets) (turns more : List TraceEntry) (before : List Exchange) → exchanges_onto p (turns ++ more) before
    ≡ exchanges_onto p more (exchanges_onto p turns before)
session_on p [] more before = refl
session_on p (t ∷ turns) more before = session_on p turns more (exchange p t.event t.sent ∷ before)

prefix_all : {X : Type 0} (P : X → Type 0) (xs ys : List X) → All P (xs ++ ys) → All P xs
prefix_all P [] ys h = All-nil P
prefix_all P (x ∷ xs) ys h = All-cons P x xs (All-head P x (xs ++ ys) h) (prefix_all P xs ys (All-tail P x (xs ++ ys) h))

module _ (model : ℕ → OutputModel) (served : ℕ → Bool) (turns more : List TraceEntry) where
  session_later : (p : Sockets) → Later (exchanges_with p (turns ++ more)) (exchanges_with p turns)
  session_later p =
      let rest = later p more (exchanges_with p turns) in
      record { more = rest.more; split = session_on p turns more [] ∙ rest.split }

  within : (p : Sockets) (newer rest : List Exchange) → exchanges_with p turns ≡ newer ++ rest → exchanges_with p (turns ++ more)
      ≡ ((session_later p).more ++ newer) ++ rest
  within p newer rest e =
      (session_later p).split ∙ ap (λ l. (session_later p).more ++ l) e ∙ sym (append_assoc (session_later p).more newer rest)

  turns_prefix : TraceConforms model served (turns ++ more) → TraceConforms model served turns
  turns_prefix k = record {
    incarnations = λ p incarnation is. k.incarnations p incarnation
        (record { later = (session_later p).more ++ is.later; before = is.before; split = within p is.later (incarnation ++ is.before) is.split; is = is.is });
    asked = λ p newer x before e. k.asked p ((session_later p).more ++ newer) x before (within p newer (x ∷ before) e);
    ports = λ p newer x before e o. k.ports p ((session_later p).more ++ newer) x before (within p newer (x ∷ before) e) o;
    echoes = prefix_all IsEchoed turns more k.echoes;
    retries = λ p s before waiting later split. k.retries p s before waiting (later ++ more) (ap (λ (l : List TraceEntry). l ++ more) split
        ∙ append_assoc before (waiting ++ later) more ∙ ap (λ (l : List TraceEntry). before ++ l) (append_assoc waiting later more));
  }

-- ---- of a line

module _ {A : Type 0} (w : MediumSpec A) (own : Addr) where
  -- the trace of a prefix of the events, and its output
  record Cut (acts : List A) (xs ys : List (StationEvent A)) (turns : List TraceEntry) : Type 0 where
    first : List TraceEntry
    rest : List TraceEntry
    split : turns ≡ first ++ rest
    over : map (λ t. t.event) first ≡ events_among xs
    text : List ℕ
    written : text_in w own acts (xs ++ ys) turns ≡ text_in w own acts xs first ++ text

  cut : (acts : List A) (xs ys : List (StationEvent A)) (turns : List TraceEntry) → map (λ t. t.event) turns ≡ events_among (xs ++ ys) → Cut acts xs ys turns
  cut acts [] ys turns e = record { first = []; rest = turns; split = refl; over = refl; text = text_in w own acts ys turns; written = refl }
  cut acts (OfMedium a ∷ xs) ys turns e =
      let c = cut (acts ++ a ∷ []) xs ys turns e in
      record {
        first = c.first;
        rest = c.rest;
        split = c.split;
        over = c.over;
        text = c.text;
        written = ap (λ l. w.output_at a ++ l) c.written ∙ sym (append_assoc (w.output_at a) (text_in w own (acts ++ a ∷ []) xs c.first) c.text);
      }
  cut acts (OfNode x ∷ xs) ys [] e = absurd (cc e)
  cut acts (OfNode x ∷ xs) ys (t ∷ turns) e =
      let heads : t.event ≡ x = cc e in
      let tails : map (λ t. t.event) turns ≡ events_among (xs ++ ys) = cc e in
      let c = cut acts xs ys turns tails in
      let output : List ℕ = reply_text w acts own t.sent in
      record {
        first = t ∷ c.first;
        rest = c.rest;
        split = ap (λ l. t ∷ l) c.split;
        over = ap (λ y. y ∷ map (λ t. t.event) c.first) heads ∙ ap (λ l. x ∷ l) c.over;
        text = c.text;
        written = ap (λ l. output ++ l) c.written ∙ sym (append_assoc output (text_in w own acts xs c.first) c.text);
      }

pub prefix_kept : {A : Type 0} (w : MediumSpec A) → PrefixConforms w
prefix_kept w model served own xs ys output k =
    let c = cut w own [] xs ys k.turns k.over in (
      text_in w own [] xs c.first,
      c.text,
      sym k.written ∙ c.written,
      record {
        turns = c.first;
        over = c.over;
        written = refl;
        keeps = turns_prefix model served c.first c.rest (subst (λ (l : List TraceEntry). TraceConforms model served l) c.split k.keeps);
      },
    )
