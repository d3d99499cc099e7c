-- The loops over names and answers, one step at a time.
use Rattle.udp_resolver.proofs.Prelude.{◌≡◌, ℕ, ◌+◌, ◌<◌, Bool, List, [], ◌∷◌, ◌++◌, length, drop, get_or, refl, sym, ap, ◌∙◌, append_assoc}
use Rattle.udp_resolver.proofs.Prelude.{arith, length-append, None, Option, Result, Ok, Err, OnErr, set, set-append_seam, drop_more}
use Rattle.udp_resolver.proofs.Prelude.{AppendsPrefix, prefix_by, slip_text, answer_to, query_datagram, Answer, Asking, last_ident}
use Rattle.udp_resolver.proofs.Prelude.{next_ident, query_texts, Question, fate_by, next_asking, questions, fate_text, line_of, Fate}
use Rattle.udp_resolver.proofs.Prelude.{received_now, lines_by, unanswered, unless_answered, option_or, codes}

pub query_texts-append : (ident : ℕ) (xs ys : List Question) → query_texts ident (xs ++ ys) ≡ query_texts ident xs ++ query_texts (last_ident ident xs) ys
query_texts-append ident [] ys = refl
query_texts-append ident (x ∷ xs) ys =
    let next = next_ident ident in
    let first : List ℕ = slip_text (query_datagram x.asking x.text next) in
    ap (λ l. first ++ l) (query_texts-append next xs ys) ∙ sym (append_assoc first (query_texts next xs) (query_texts (last_ident next xs) ys))

pub last_ident-append : (ident : ℕ) (xs ys : List Question) → last_ident ident (xs ++ ys) ≡ last_ident (last_ident ident xs) ys
last_ident-append ident [] ys = refl
last_ident-append ident (x ∷ xs) ys = last_ident-append (next_ident ident) xs ys

-- from the number that is reached after a prefix
pub query_texts-moves : (start now : ℕ) (prefix one : List Question) → now ≡ last_ident start prefix
    → query_texts start (prefix ++ one) ≡ query_texts start prefix ++ query_texts now one
query_texts-moves start now prefix one is = query_texts-append start prefix one ∙ ap (λ k. query_texts start prefix ++ query_texts k one) (sym is)

-- the element at an index, and those after it
pub here : {X : Type 0} (xs : List X) (at : ℕ) (x : X) → at < length xs → x ≡ get_or xs at x → drop at xs ≡ x ∷ drop (at + 1) xs
here xs at x h is = drop_more xs at x h ∙ ap (λ y. y ∷ drop (at + 1) xs) (sym is)

module _ {X : Type 0} where
  get_seam_at : (prefix : List X) (a : X) (rest : List X) (d : X) → get_or (prefix ++ a ∷ rest) (length prefix) d ≡ a
  get_seam_at [] a rest d = refl
  get_seam_at (x ∷ prefix) a rest d = get_seam_at prefix a rest d

  -- the element where two parts meet
  pub get_seam : (now prefix : List X) (a : X) (rest : List X) (at : ℕ) (d : X) → length prefix ≡ at → now ≡ prefix ++ a ∷ rest → get_or now at d ≡ a
  get_seam now prefix a rest at d size e =
      ap (λ l. get_or l at d) e ∙ ap (λ n. get_or (prefix ++ a ∷ rest) n d) (sym size) ∙ get_seam_at prefix a rest d

  pub set_seam : (now prefix : List X) (a b : X) (rest : List X) (at : ℕ) → length prefix ≡ at → now ≡ prefix ++ a ∷ rest
      → set now at b ≡ (prefix ++ b ∷ []) ++ rest
  set_seam now prefix a b rest at size e =
      ap (λ l. set l at b) e ∙ ap (λ n. set (prefix ++ a ∷ rest) n b) (sym size) ∙ set-append_seam prefix a rest b ∙ sym (append_assoc prefix (b ∷ []) rest)

pub received_step : (datagram : List ℕ) (asking after : Asking) (names later : List (List ℕ)) (name : List ℕ)
    (olds rest : List (Option Answer)) (a b : Option Answer) (whole prefix : List (Option Answer))
    → names ≡ name ∷ later → olds ≡ a ∷ rest → after ≡ next_asking asking → b ≡ option_or a (answer_to asking name datagram)
    → whole ≡ prefix ++ received_now datagram (questions asking names) olds
    → whole ≡ (prefix ++ b ∷ []) ++ received_now datagram (questions after later) rest
received_step datagram asking after names later name olds rest a b whole prefix n o k is e =
    e ∙ ap (λ l. prefix ++ received_now datagram (questions asking l) olds) n
    ∙ ap (λ l. prefix ++ received_now datagram (questions asking (name ∷ later)) l) o
    ∙ ap (λ x. prefix ++ x ∷ received_now datagram (questions (next_asking asking) later) rest) (sym is)
    ∙ ap (λ x. prefix ++ b ∷ received_now datagram (questions x later) rest) (sym k)
    ∙ sym (append_assoc prefix (b ∷ []) (received_now datagram (questions after later) rest))

pub unanswered_step : (asking after : Asking) (names later : List (List ℕ)) (name : List ℕ) (olds rest : List (Option Answer))
    (a : Option Answer) (whole prefix : List Question)
    → names ≡ name ∷ later → olds ≡ a ∷ rest → after ≡ next_asking asking
    → whole ≡ prefix ++ unanswered (questions asking names) olds
    → whole ≡ (prefix ++ unless_answered (record { asking = asking; text = name }) a) ++ unanswered (questions after later) rest
unanswered_step asking after names later name olds rest a whole prefix n o k e =
    let one : List Question = unless_answered (record { asking = asking; text = name }) a in
    e ∙ ap (λ l. prefix ++ unanswered (questions asking l) olds) n
    ∙ ap (λ l. prefix ++ unanswered (questions asking (name ∷ later)) l) o
    ∙ ap (λ x. prefix ++ (one ++ unanswered (questions x later) rest)) (sym k)
    ∙ sym (append_assoc prefix one (unanswered (questions after later) rest))

pub lines_step : (names later : List (List ℕ)) (name : List ℕ) (olds rest : List (Option Answer)) (a : Option Answer) (is_over : Bool) (whole prefix : List ℕ)
    → names ≡ name ∷ later → olds ≡ a ∷ rest
    → whole ≡ prefix ++ lines_by names olds is_over
    → whole ≡ (prefix ++ line_of name (fate_by a is_over)) ++ lines_by later rest is_over
lines_step names later name olds rest a is_over whole prefix n o e =
    e ∙ ap (λ l. prefix ++ lines_by l olds is_over) n ∙ ap (λ l. prefix ++ lines_by (name ∷ later) l is_over) o
    ∙ sym (append_assoc prefix (line_of name (fate_by a is_over)) (lines_by later rest is_over))

-- the line of the name at an index moves to the prefix
pub line_moves : (names : List (List ℕ)) (answers : List (Option Answer)) (name : List ℕ) (at : ℕ) (is_over : Bool) (whole prefix : List ℕ)
    → length answers ≡ length names → at < length names → name ≡ get_or names at name
    → whole ≡ prefix ++ lines_by (drop at names) (drop at answers) is_over
    → whole ≡ (prefix ++ line_of name (fate_by (get_or answers at None) is_over)) ++ lines_by (drop (at + 1) names) (drop (at + 1) answers) is_over
line_moves names answers name at is_over whole prefix size within is e =
    lines_step (drop at names) (drop (at + 1) names) name (drop at answers) (drop (at + 1) answers) (get_or answers at None) is_over whole prefix
    (here names at name within is) (drop_more answers at None (omega (arith, size, within))) e

-- and so does what is asked of it
pub question_moves : (asking after : Asking) (names : List (List ℕ)) (answers : List (Option Answer)) (name : List ℕ) (at : ℕ) (whole prefix : List Question)
    → length answers ≡ length names → at < length names → name ≡ get_or names at name → after ≡ next_asking asking
    → whole ≡ prefix ++ unanswered (questions asking (drop at names)) (drop at answers)
    → whole ≡ (prefix ++ unless_answered (record { asking = asking; text = name }) (get_or answers at None))
    ++ unanswered (questions after (drop (at + 1) names)) (drop (at + 1) answers)
question_moves asking after names answers name at whole prefix size within is next e =
    unanswered_step asking after (drop at names) (drop (at + 1) names) name (drop at answers) (drop (at + 1) answers) (get_or answers at None) whole prefix
    (here names at name within is) (drop_more answers at None (omega (arith, size, within))) next e

-- nothing is left after the last name
pub received_none : (datagram : List ℕ) (asking : Asking) (names : List (List ℕ)) (olds : List (Option Answer)) → names ≡ []
    → received_now datagram (questions asking names) olds ≡ []
received_none datagram asking names olds e = ap (λ l. received_now datagram (questions asking l) olds) e

-- what has something in its middle has something
pub some_moves : (prefix one later whole : List ℕ) → whole ≡ (prefix ++ one) ++ later → 0 < length one → 0 < length whole
some_moves prefix one later whole e some =
    omega (arith, some, ap (λ l. length l) e, length-append (prefix ++ one) later, length-append prefix one)

some_after : (xs ys : List ℕ) → 0 < length ys → 0 < length (xs ++ ys)
some_after xs ys some = omega (arith, some, length-append xs ys)

-- no line is empty
pub line_some : (text : List ℕ) (fate : Fate) → 0 < length (line_of text fate)
line_some text fate = some_after (text ++ codes " " ++ fate_text fate) (codes "\n") (omega arith)
