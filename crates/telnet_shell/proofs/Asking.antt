-- When a capture is taken, and what the shell requests.
use Rattle.telnet_shell.proofs.Prelude.{◌≡◌, ℕ, suc, ◌+◌, ◌-◌, ◌==◌, ◌<◌, Bool, true, false, ◌&&◌, ◌||◌, not, min, nat_lt, List, [], ◌∷◌}
use Rattle.telnet_shell.proofs.Prelude.{◌++◌, length, take, get_or, if◌then◌else◌, refl, sym, ap, subst, ◌∙◌, arith, append-nil}
use Rattle.telnet_shell.proofs.Prelude.{length-append, true≢false, Option, None, Some, is_some, eqb-true, eqb-false, and_parts, take-suc}
use Rattle.telnet_shell.proofs.Prelude.{AppState, Snapshot, Now, Want, Nothing, Send, Close, Abort, capture_of, Capture, Function, Command}
use Rattle.telnet_shell.proofs.Prelude.{Shell, function_of, needs_capture, reply_with, transcript, IsTrailing, IsLeading, Shows, stops_at}
use Rattle.telnet_shell.proofs.Prelude.{is_captured, replies_left, due, session_is, waiting_is, reply_is_not_empty, held_goes, session}
use Rattle.telnet_shell.proofs.Prelude.{is_settled, is_stopped, session_has_ended, left_of_session, shell_want, take_capture, receive_byte}
use Rattle.telnet_shell.proofs.Prelude.{receive_all, ShellRepresents}
use Rattle.telnet_shell.proofs.Representing.{own_is}

eq_yes : (a b : ℕ) → a ≡ b → (a == b) ≡ true
eq_yes a b h = elim (a == b) as (λ t. (a == b) ≡ t → t ≡ true) [
  | true ↦ λ e. refl
  | false ↦ λ e. absurd (eqb-false a b e h)
] refl

pub eq_no : (a b : ℕ) → (a ≡ b → ⊥) → (a == b) ≡ false
eq_no a b h = elim (a == b) as (λ t. (a == b) ≡ t → t ≡ false) [
  | true ↦ λ e. absurd (h (eqb-true a b e))
  | false ↦ λ e. refl
] refl

session_size : (q : List Command) (capture : Capture) (at : ℕ) (p : AppState) (b : IsTrailing q capture at p)
    → length (session p) ≡ length (transcript b.before b.spoken) + length (replies_left q capture)
session_size q capture at p b = ap (λ (xs : List ℕ). length xs) (session_is q capture at p b) ∙ length-append (transcript b.before b.spoken)
    (replies_left q capture)

acknowledged : (q : List Command) (capture : Capture) (at : ℕ) (p : AppState) → IsTrailing q capture at p
    → at ≡ length (replies_left q capture) → (p.acked == length (session p)) ≡ true
acknowledged q capture at p b e =
    let size = session_size q capture at p b in let at_is = b.acked in
    eq_yes p.acked (length (session p)) (omega (arith, e, size, at_is))

unacknowledged : (q : List Command) (capture : Capture) (at : ℕ) (p : AppState) → IsTrailing q capture at p
    → at < length (replies_left q capture) → (p.acked == length (session p)) ≡ false
unacknowledged q capture at p b l =
    let size = session_size q capture at p b in let at_is = b.acked in
    eq_no p.acked (length (session p)) (λ f. omega (arith, l, size, at_is, f))

stopped_yes : (c : Command) (cs : List Command) (capture : Capture) (at : ℕ) (p : AppState) → IsTrailing (c ∷ cs) capture at p
    → IsLeading (c ∷ cs) capture at → stops_at c capture ≡ true → is_stopped p ≡ true
stopped_yes c cs capture at p b i stops =
    let none : length (replies_left (c ∷ cs) capture) ≡ 0 = ap (λ (s : Bool). length (if s then [] else reply_with c capture ++ transcript cs [])) stops in
    let start : at ≡ 0 = i.0 stops in
    let some : is_settled p ≡ false = ap (λ (ds : List Command). length ds == 0) (waiting_is (c ∷ cs) capture at p b i)
    ∙ eq_no (length (c ∷ cs)) 0 (λ f. omega (arith, f)) in
    ap (λ (x : Bool). x && not (is_settled p)) (acknowledged (c ∷ cs) capture at p b (omega (arith, none, start))) ∙ ap (λ (x : Bool). not x) some

no_and : (b : Bool) → (b && false) ≡ false
no_and true = refl
no_and false = refl

goes_on_not : (c : Command) (cs : List Command) (capture : Capture) (at : ℕ) (p : AppState) → IsTrailing (c ∷ cs) capture at p
    → IsLeading (c ∷ cs) capture at → stops_at c capture ≡ false → is_stopped p ≡ false
goes_on_not c cs capture at p b i goes =
    let left : length (replies_left (c ∷ cs) capture) ≡ length (reply_with c capture) + length (transcript cs []) =
    ap (λ (s : Bool). length (if s then [] else reply_with c capture ++ transcript cs [])) goes ∙ length-append (reply_with c capture) (transcript cs []) in
    let short = i.1 goes in
    ap (λ (x : Bool). x && not (is_settled p)) (unacknowledged (c ∷ cs) capture at p b (omega (arith, left, short)))

due_some : (b : Bool) (g f : Function) → (if b then Some g else None) ≡ Some f → (b ≡ true) × (g ≡ f)
due_some true g f e = (refl, cc)
due_some false g f e = absurd cc

due_none : (b : Bool) (g : Function) → (if b then Some g else None) ≡ None → b ≡ false
due_none true g e = absurd cc
due_none false g e = refl

shows_none : (c : Command) (cs : List Command) (capture : Capture) (prefix : List Snapshot) → Shows (c ∷ cs) capture prefix
    → stops_at c capture ≡ true → prefix ≡ []
shows_none c cs capture [] s stops = refl
shows_none c cs capture (k ∷ ks) s stops = elim (true≢false (sym stops ∙ held_goes c k capture s.1 s.2)) [ ]

pub record IsPrepared (q : List Command) (capture : Capture) (at : ℕ) (before after : AppState) : Type 0 where
  pub stopped : is_stopped before ≡ true
  pub trailing : IsTrailing q capture at after
  pub place : IsLeading q capture at

pub taken : (q : List Command) (capture held : Capture) (at : ℕ) (p : AppState) (numbers : List ℕ) (function : Function) (now : Now)
    → due q capture ≡ Some function → held ≡ capture_of function 0 now
    → IsTrailing q capture at p → IsLeading q capture at → IsPrepared q held at p (take_capture numbers p now)
taken [] capture held at p numbers function now d e b i = absurd cc
taken (c ∷ cs) capture held at p numbers function now d e b i =
    let both = due_some (stops_at c capture) (function_of c) function d in
    let none : b.prefix ≡ [] = shows_none c cs capture b.prefix b.shows both.0 in
    let start : at ≡ 0 = i.0 both.0 in
    record {
      stopped = stopped_yes c cs capture at p b i both.0;
      trailing = record {
        before = b.before;
        spoken = b.spoken;
        prefix = record { numbers = numbers; now = now } ∷ [];
        commands = b.commands;
        snapshots = ap (λ (ks : List Snapshot). ks ++ record { numbers = numbers; now = now } ∷ [])
            (b.snapshots ∙ ap (λ (ks : List Snapshot). b.spoken ++ ks) none ∙ append-nil b.spoken);
        took = b.took;
        acked = b.acked;
        shows = (refl, (and_parts (needs_capture c) (not (is_captured capture)) both.0).0, e ∙ ap (λ (f : Function). capture_of f 0 now) (sym both.1));
      };
      place = ((λ s. start), (λ g. omega (arith, start, reply_is_not_empty c held)));
    }

pub not_taken : (q : List Command) (capture : Capture) (at : ℕ) (p : AppState) → due q capture ≡ None → IsTrailing q capture at p
    → IsLeading q capture at → is_stopped p ≡ false
not_taken [] capture at p d b i =
    ap (λ (ds : List Command). (p.acked == length (session p)) && not (length ds == 0)) (waiting_is [] capture at p b i)
    ∙ no_and (p.acked == length (session p))
not_taken (c ∷ cs) capture at p d b i = goes_on_not c cs capture at p b i (due_none (stops_at c capture) (function_of c) d)

pub prepared : (a : Shell) (p : AppState) (held : Capture) (numbers : List ℕ) (function : Function) (now : Now) → due a.queue a.capture
    ≡ Some function → held ≡ capture_of function 0 now
    → ShellRepresents a p → ShellRepresents (record a { capture = held }) (if is_stopped p then take_capture numbers p now else p)
prepared a p held numbers function now d e s =
    let t : IsPrepared a.queue held a.at p (take_capture numbers p now) = taken a.queue a.capture held a.at p numbers function now d e s.trailing s.place in
    subst (λ (q : AppState). ShellRepresents (record a { capture = held }) q) (sym (ap (λ (b : Bool). if b then take_capture numbers p now else p) t.stopped))
    (record { polls = s.polls; lost = s.lost; done = s.done; delivers_text = s.delivers_text; trailing = t.trailing; place = t.place })

pub none_of : {X : Type 0} (o : Option X) → is_some o ≡ false → o ≡ None
none_of (Some x) e = absurd cc
none_of None e = refl

pub stays : (a : Shell) (p : AppState) (numbers : List ℕ) (now : Now) → due a.queue a.capture ≡ None → ShellRepresents a p
    → (if is_stopped p then take_capture numbers p now else p) ≡ p
stays a p numbers now d s = ap (λ (b : Bool). if b then take_capture numbers p now else p) (not_taken a.queue a.capture a.at p d s.trailing s.place)

pub unprepared : (a : Shell) (p : AppState) (numbers : List ℕ) (now : Now) → due a.queue a.capture ≡ None → ShellRepresents a p
    → ShellRepresents a (if is_stopped p then take_capture numbers p now else p)
unprepared a p numbers now d s = subst (λ (q : AppState). ShellRepresents a q) (sym (stays a p numbers now d s)) s

-- ---- what the shell requests

abbrev pub want_from : Bool → ℕ → Want
want_from ended left = if ended then Close else if nat_lt 0 left then Send (min 1460 left) else Nothing

pub wanted : (a : Shell) (p : AppState) → a.lost ≡ false → (a.polls ≡ 1200 → ⊥) → ShellRepresents a p
    → want_from (a.done && (length a.queue == 0)) (length (replies_left a.queue a.capture) - a.at) ≡ shell_want p
wanted a p lost polls s =
    let stays : ((p.own == 1) || (p.polls == 1200)) ≡ false =
    ap (λ (b : Bool). b || (p.polls == 1200)) (own_is a p s ∙ lost) ∙ ap (λ (n : ℕ). n == 1200) (sym s.polls) ∙ eq_no a.polls 1200 polls in
    let ended : session_has_ended p ≡ (a.done && (length a.queue == 0)) =
    ap (λ (b : Bool). b && is_settled p) (sym s.done) ∙ ap (λ (ds : List Command). a.done && (length ds == 0))
    (waiting_is a.queue a.capture a.at p s.trailing s.place) in
    let left : left_of_session p ≡ length (replies_left a.queue a.capture) - a.at =
    (let size = session_size a.queue a.capture a.at p s.trailing in let at_is = s.trailing.acked in omega (arith, size, at_is)) in
    sym (ap (λ (b : Bool). if b then Abort else want_from (session_has_ended p) (left_of_session p)) stays
    ∙ ap (λ (b : Bool). want_from b (left_of_session p)) ended
    ∙ ap (λ (n : ℕ). want_from (a.done && (length a.queue == 0)) n) left)

-- ---- a piece

receive_all_joined : (p : AppState) (xs ys : List ℕ) → receive_all p (xs ++ ys) ≡ receive_all (receive_all p xs) ys
receive_all_joined p [] ys = refl
receive_all_joined p (x ∷ xs) ys = receive_all_joined (receive_byte p x) xs ys

pub next_byte : (p : AppState) (piece : List ℕ) (i : ℕ) → i < length piece → receive_all p (take (i + 1) piece) ≡ receive_byte
    (receive_all p (take i piece)) (get_or piece i 0)
next_byte p piece i h =
    ap (λ (xs : List ℕ). receive_all p xs) (ap (λ (n : ℕ). take n piece) (let e : i + 1 ≡ suc i = omega arith in e) ∙ take-suc piece i 0 h)
    ∙ receive_all_joined p (take i piece) (get_or piece i 0 ∷ [])
