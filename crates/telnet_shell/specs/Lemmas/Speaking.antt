-- What was sent before the queue, and the text of the queue.
use Rattle.std.proofs.Common.{◌≡◌, ℕ, ◌+◌, ◌-◌, ◌≤◌, ◌<◌, Bool, true, false, ◌&&◌, not, List, [], ◌∷◌}
use Rattle.std.proofs.Common.{◌++◌, codes, length, if◌then◌else◌, refl, sym, ap, subst, ◌∙◌, arith}
use Rattle.std.proofs.Common.{append_assoc, append-nil, length-append, true≢false, drop, take, min, inl, inr}
use Rattle.std.proofs.lemmas.List.{drop-append-le, take-append-le, take_all}
use Rattle.std.proofs.Math.Seq.{take-append-add}
use Rattle.std.proofs.lemmas.Bool.{le-leb, lt-leb, cases_lt}
use Rattle.generators.specs.Prelude.{capture_of, capture_text}
use Rattle.generators.specs.declared.capture.Capture.{Capture}
use Rattle.generators.specs.declared.capture.Capture.TheVariants.{Empty}
use Rattle.app_events.specs.Prelude.{AppState, Snapshot}
use Rattle.telnet_shell.specs.declared.command.Command.{Command}
use Rattle.telnet_shell.specs.declared.command.Command.TheVariants.{Refuse, Help, Stats, Conns, Ticks, Quit, Blank, Other}
use Rattle.telnet_shell.specs.Transcript.{past_text, function_of, needs_capture, reply_with, plain_reply, sent_at, transcript, unfinished}
use Rattle.telnet_shell.specs.Transmission.{is_captured, stops_at, replies_left, IsLeading, Shows, needed, IsTrailing}
use Rattle.telnet_shell.specs.ShellSpec.{session, waiting}

none_split : (b : Bool) (s u x y w : List ℕ) (n : ℕ) → 0 ≡ (if b then n + 1 else n) → (0 ≡ n → u ≡ x ++ y)
    → (if b then w else s ++ u) ≡ (if b then [] else s ++ x) ++ y
none_split true s u x y w n e f = absurd (omega (arith, e))
none_split false s u x y w n e f = ap (λ (z : List ℕ). s ++ z) (f e) ∙ sym (append_assoc s x y)

each_split : (b : Bool) (r u x s v z y : List ℕ) (len l n : ℕ) → l ≡ len + 1 → l ≡ (if b then n + 1 else n) → (len ≡ n → u ≡ x ++ y)
    → (l ≡ n → v ≡ z ++ y)
    → (if b then r ++ u else s ++ v) ≡ (if b then r ++ x else s ++ z) ++ y
each_split true r u x s v z y len l n d e f g = ap (λ (t : List ℕ). r ++ t) (f (omega (arith, d, e))) ∙ sym (append_assoc r x y)
each_split false r u x s v z y len l n d e f g = ap (λ (t : List ℕ). s ++ t) (g e) ∙ sym (append_assoc s z y)

one_longer : (k : Snapshot) (ks : List Snapshot) → length (k ∷ ks) ≡ length ks + 1
one_longer k ks = omega arith

pub split : (before q : List Command) (spoken later : List Snapshot) → length spoken ≡ needed before
    → transcript (before ++ q) (spoken ++ later) ≡ transcript before spoken ++ transcript q later
split [] q [] later e = refl
split [] q (k ∷ ks) later e = absurd (omega (arith, e))
split (c ∷ cs) q [] [] e =
    none_split (needs_capture c) (plain_reply c) (transcript (cs ++ q) []) (transcript cs []) (transcript q []) [] (needed cs) e
    (λ f. split cs q [] [] f)
split (c ∷ cs) q [] (l ∷ ls) e =
    none_split (needs_capture c) (plain_reply c) (transcript (cs ++ q) (l ∷ ls)) (transcript cs []) (transcript q (l ∷ ls))
    (sent_at c l ++ transcript (cs ++ q) ls) (needed cs) e
    (λ f. split cs q [] (l ∷ ls) f)
split (c ∷ cs) q (k ∷ ks) later e =
    each_split (needs_capture c) (sent_at c k) (transcript (cs ++ q) (ks ++ later)) (transcript cs ks) (plain_reply c)
    (transcript (cs ++ q) (k ∷ (ks ++ later))) (transcript cs (k ∷ ks)) (transcript q later)
    (length ks) (length (k ∷ ks)) (needed cs) (one_longer k ks) e (λ f. split cs q ks later f) (λ f. split cs q (k ∷ ks) later f)

-- a command whose text is among the first bytes is passed
pub past_reply : (s x : List ℕ) (at : ℕ) (go : ℕ → List Command) (stay : List Command)
    → past_text s (length (s ++ x) + at) go stay ≡ go (length x + at)
past_reply s x at go stay =
    let size : length (s ++ x) ≡ length s + length x = length-append s x in
    ap (λ (b : Bool). if b then go (length (s ++ x) + at - length s) else stay)
    (le-leb (length s) (length (s ++ x) + at) (omega (arith, size)))
    ∙ ap (λ (n : ℕ). go n) (let e : length (s ++ x) + at - length s ≡ length x + at = omega (arith, size) in e)

none_past : (b : Bool) (s x : List ℕ) (at n : ℕ) (go : ℕ → List Command) (held other stay r : List Command) → 0 ≡ (if b then n + 1 else n)
    → (0 ≡ n → go (length x + at) ≡ r)
    → (if b then held else past_text s (length (if b then [] else s ++ x) + at) go stay) ≡ r
none_past true s x at n go held other stay r e f = absurd (omega (arith, e))
none_past false s x at n go held other stay r e f = past_reply s x at go stay ∙ f e

none_past_with : (b : Bool) (s t x : List ℕ) (at n : ℕ) (go gone : ℕ → List Command) (stay r : List Command) → 0 ≡ (if b then n + 1 else n)
    → (0 ≡ n → go (length x + at) ≡ r)
    → (if b then past_text t (length (if b then [] else s ++ x) + at) gone stay
    else past_text s (length (if b then [] else s ++ x) + at) go stay) ≡ r
none_past_with true s t x at n go gone stay r e f = absurd (omega (arith, e))
none_past_with false s t x at n go gone stay r e f = past_reply s x at go stay ∙ f e

each_past : (b : Bool) (t x s z : List ℕ) (at len l n : ℕ) (gone go : ℕ → List Command) (stay r : List Command) → l ≡ len + 1
    → l ≡ (if b then n + 1 else n)
    → (len ≡ n → gone (length x + at) ≡ r) → (l ≡ n → go (length z + at) ≡ r)
    → (if b then past_text t (length (if b then t ++ x else s ++ z) + at) gone stay
    else past_text s (length (if b then t ++ x else s ++ z) + at) go stay) ≡ r
each_past true t x s z at len l n gone go stay r d e f g = past_reply t x at gone stay ∙ f (omega (arith, d, e))
each_past false t x s z at len l n gone go stay r d e f g = past_reply s z at go stay ∙ g e

pub passed : (before q : List Command) (spoken later : List Snapshot) (at : ℕ) → length spoken ≡ needed before
    → unfinished (before ++ q) (spoken ++ later) (length (transcript before spoken) + at) ≡ unfinished q later at
passed [] q [] later at e = ap (λ (n : ℕ). unfinished q later n) (let e : 0 + at ≡ at = omega arith in e)
passed [] q (k ∷ ks) later at e = absurd (omega (arith, e))
passed (c ∷ cs) q [] [] at e =
    none_past (needs_capture c) (plain_reply c) (transcript cs []) at (needed cs) (λ n. unfinished (cs ++ q) [] n) (c ∷ (cs ++ q)) []
    (c ∷ (cs ++ q)) (unfinished q [] at) e
    (λ f. passed cs q [] [] at f)
passed (c ∷ cs) q [] (l ∷ ls) at e =
    none_past_with (needs_capture c) (plain_reply c) (sent_at c l) (transcript cs []) at (needed cs) (λ n. unfinished (cs ++ q) (l ∷ ls) n)
    (λ n. unfinished (cs ++ q) ls n) (c ∷ (cs ++ q)) (unfinished q (l ∷ ls) at) e
    (λ f. passed cs q [] (l ∷ ls) at f)
passed (c ∷ cs) q (k ∷ ks) later at e =
    each_past (needs_capture c) (sent_at c k) (transcript cs ks) (plain_reply c) (transcript cs (k ∷ ks)) at (length ks) (length (k ∷ ks))
    (needed cs)
    (λ n. unfinished (cs ++ q) (ks ++ later) n) (λ n. unfinished (cs ++ q) (k ∷ (ks ++ later)) n) (c ∷ (cs ++ q)) (unfinished q later at)
    (one_longer k ks) e
    (λ f. passed cs q ks later at f) (λ f. passed cs q (k ∷ ks) later at f)

-- ---- the first command

pub reply_is_not_empty : (c : Command) (capture : Capture) → 1 ≤ length (reply_with c capture)
reply_is_not_empty (Refuse verb option) capture = omega arith
reply_is_not_empty Help capture = omega arith
reply_is_not_empty Stats capture = omega (arith, length-append (capture_text capture) (codes "> "))
reply_is_not_empty Conns capture = omega (arith, length-append (capture_text capture) (codes "> "))
reply_is_not_empty Ticks capture = omega (arith, length-append (capture_text capture) (codes "\r\n> "))
reply_is_not_empty Quit capture = omega arith
reply_is_not_empty Blank capture = omega arith
reply_is_not_empty Other capture = omega arith

taken_is : (c : Command) (k : Snapshot) → needs_capture c ≡ true → is_captured (capture_of (function_of c) 0 k.now) ≡ true
taken_is Stats k e = refl
taken_is Conns k e = refl
taken_is Ticks k e = refl
taken_is (Refuse verb option) k e = elim (true≢false (sym e)) [ ]
taken_is Help k e = elim (true≢false (sym e)) [ ]
taken_is Quit k e = elim (true≢false (sym e)) [ ]
taken_is Blank k e = elim (true≢false (sym e)) [ ]
taken_is Other k e = elim (true≢false (sym e)) [ ]

-- a first command whose capture is held does not stop
pub held_goes : (c : Command) (k : Snapshot) (capture : Capture) → needs_capture c ≡ true → capture ≡ capture_of (function_of c) 0 k.now
    → stops_at c capture ≡ false
held_goes c k capture e f =
    ap (λ (b : Bool). b && not (is_captured capture)) e ∙ ap (λ (b : Bool). not b) (ap (λ (d : Capture). is_captured d) f ∙ taken_is c k e)

-- nor one that needs none; one that needs one, and has none, does
pub empty_stops : (c : Command) (capture : Capture) → capture ≡ Empty → stops_at c capture ≡ needs_capture c
empty_stops c capture e = ap (λ (d : Capture). stops_at c d) e ∙ by_need (needs_capture c)
  where
    by_need : (b : Bool) → (b && true) ≡ b
    by_need true = refl
    by_need false = refl

pub prefix_left : (q : List Command) (capture : Capture) (prefix : List Snapshot) → Shows q capture prefix
    → transcript q prefix ≡ replies_left q capture
prefix_left [] capture [] s = refl
prefix_left [] capture (k ∷ ks) s = absurd s
prefix_left (c ∷ cs) capture [] s =
    ap (λ (d : Capture). if needs_capture c then [] else reply_with c d ++ transcript cs []) (sym s)
    ∙ ap (λ (b : Bool). if b then [] else reply_with c capture ++ transcript cs []) (sym (empty_stops c capture s))
prefix_left (c ∷ cs) capture (k ∷ ks) s =
    ap (λ (ls : List Snapshot). transcript (c ∷ cs) (k ∷ ls)) s.0
    ∙ ap (λ (b : Bool). if b then sent_at c k ++ transcript cs [] else plain_reply c ++ transcript cs (k ∷ [])) s.1
    ∙ ap (λ (d : Capture). reply_with c d ++ transcript cs []) (sym s.2)
    ∙ ap (λ (b : Bool). if b then [] else reply_with c capture ++ transcript cs []) (sym (held_goes c k capture s.1 s.2))

-- the first command is not wholly acknowledged
stays_plain : (c : Command) (cs go : List Command) (capture : Capture) (at : ℕ) → capture ≡ Empty → IsLeading (c ∷ cs) capture at
    → (b : Bool) → needs_capture c ≡ b
    → (if b then c ∷ cs else past_text (plain_reply c) at (λ n. go) (c ∷ cs)) ≡ c ∷ cs
stays_plain c cs go capture at s i true e = refl
stays_plain c cs go capture at s i false e =
    let short : at < length (reply_with c capture) = i.1 (empty_stops c capture s ∙ e) in
    let small : at < length (plain_reply c) = subst (λ (d : Capture). at < length (reply_with c d)) s short in
    ap (λ (b : Bool). if b then go else c ∷ cs) (lt-leb (length (plain_reply c)) at small)

pub stays : (q : List Command) (capture : Capture) (prefix : List Snapshot) (at : ℕ) → Shows q capture prefix → IsLeading q capture at
    → unfinished q prefix at ≡ q
stays [] capture [] at s i = refl
stays [] capture (k ∷ ks) at s i = absurd s
stays (c ∷ cs) capture [] at s i = stays_plain c cs (unfinished cs [] (at - length (plain_reply c))) capture at s i (needs_capture c) refl
stays (c ∷ cs) capture (k ∷ ks) at s i =
    let short : at < length (reply_with c capture) = i.1 (held_goes c k capture s.1 s.2) in
    let small : at < length (sent_at c k) = subst (λ (d : Capture). at < length (reply_with c d)) s.2 short in
    ap (λ (b : Bool). if b then past_text (sent_at c k) at (λ n. unfinished cs ks n) (c ∷ cs)
    else past_text (plain_reply c) at (λ n. unfinished cs (k ∷ ks) n) (c ∷ cs)) s.1
    ∙ ap (λ (b : Bool). if b then unfinished cs ks (at - length (sent_at c k)) else c ∷ cs) (lt-leb (length (sent_at c k)) at small)

-- ---- after what was sent before

pub session_is : (q : List Command) (capture : Capture) (at : ℕ) (p : AppState) (b : IsTrailing q capture at p)
    → session p ≡ transcript b.before b.spoken ++ replies_left q capture
session_is q capture at p b =
    ap (λ (cs : List Command). transcript cs p.snapshots) b.commands
    ∙ ap (λ (ks : List Snapshot). transcript (b.before ++ q) ks) b.snapshots
    ∙ split b.before q b.spoken b.prefix b.took
    ∙ ap (λ (xs : List ℕ). transcript b.before b.spoken ++ xs) (prefix_left q capture b.prefix b.shows)

pub waiting_is : (q : List Command) (capture : Capture) (at : ℕ) (p : AppState) → IsTrailing q capture at p → IsLeading q capture at
    → waiting p ≡ q
waiting_is q capture at p b i =
    ap (λ (cs : List Command). unfinished cs p.snapshots p.acked) b.commands
    ∙ ap (λ (ks : List Snapshot). unfinished (b.before ++ q) ks p.acked) b.snapshots
    ∙ ap (λ (n : ℕ). unfinished (b.before ++ q) (b.spoken ++ b.prefix) n) b.acked
    ∙ passed b.before q b.spoken b.prefix at b.took
    ∙ stays q capture b.prefix at b.shows i

pub from_prefix : (n at : ℕ) (s t : List ℕ) → at ≤ length s → take n (drop at (s ++ t)) ≡ take n (drop at s ++ t)
from_prefix n at s t h = ap (λ (xs : List ℕ). take n xs) (drop-append-le at s t h)

pub two_parts : (d t x y : List ℕ) (n m a b : ℕ) → m ≡ min (length d) n → a ≡ m → b + m ≡ n → x ≡ take a d → y ≡ take b t
    → x ++ y ≡ take n (d ++ t)
two_parts d t x y n m a b least e f g h =
    elim (cases_lt n (length d)) [
      | inl l ↦ (let u : a ≡ n = omega arith in let z : b ≡ 0 = omega arith in
          ap (λ (ys : List ℕ). x ++ ys) (h ∙ ap (λ (k : ℕ). take k t) z)
          ∙ append-nil x
          ∙ g
          ∙ ap (λ (k : ℕ). take k d) u
          ∙ sym (take-append-le n d t (omega (arith, l))))
      | inr l ↦ (let u : length d ≤ a = omega arith in let v : n ≡ length d + b = omega arith in
          ap (λ (xs : List ℕ). xs ++ y) (g ∙ take_all a d u)
          ∙ ap (λ (ys : List ℕ). d ++ ys) h
          ∙ sym (ap (λ (k : ℕ). take k (d ++ t)) v ∙ take-append-add d t b))
    ]
