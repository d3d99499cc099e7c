-- The queue as commands are wholly acknowledged, and as commands arrive.
use Rattle.telnet_shell.proofs.Prelude.{◌≡◌, ℕ, ◌+◌, ◌-◌, ◌≤◌, ◌<◌, Bool, true, false, ◌&&◌, not, nat_le, List, [], ◌∷◌, ◌++◌, length}
use Rattle.telnet_shell.proofs.Prelude.{if◌then◌else◌, refl, sym, ap, subst, ◌∙◌, arith, append_assoc, append-nil, length-append}
use Rattle.telnet_shell.proofs.Prelude.{true≢false, slice_index_or, remove, leb-true, leb-false, and_parts, Capture, Empty, AppState}
use Rattle.telnet_shell.proofs.Prelude.{Snapshot, Command, commands_in, needs_capture, reply_with, transcript, stops_at, replies_left}
use Rattle.telnet_shell.proofs.Prelude.{IsLeading, Shows, needed, IsTrailing, is_past, Passes, with_byte, split, prefix_left, empty_stops}
use Rattle.telnet_shell.proofs.Prelude.{reply_is_not_empty}

pub passes : (q new : List Command) (prefix : Command) (capture : Capture) (at len place : ℕ) → is_past q capture at ≡ true
    → prefix ≡ slice_index_or q 0 prefix → new ≡ remove q 0
    → len ≡ length (reply_with prefix capture) → place ≡ at - len → Passes q capture at new Empty place
passes [] new prefix capture at len place history f g h i = elim (true≢false (sym history)) [ ]
passes (c ∷ cs) new prefix capture at len place history f g h i =
    let both = and_parts (not (stops_at c capture)) (nat_le (length (reply_with c capture)) at) history in
    let fits = leb-true (length (reply_with c capture)) at both.1 in
    let size : len ≡ length (reply_with c capture) = h ∙ ap (λ (d : Command). length (reply_with d capture)) f in
    (g, refl, omega (arith, fits, size, i))

pub prefix_fits : (q : List Command) (prefix : Command) (capture : Capture) (at : ℕ) → is_past q capture at ≡ true
    → prefix ≡ slice_index_or q 0 prefix → length (reply_with prefix capture) ≤ at
prefix_fits [] prefix capture at history f = elim (true≢false (sym history)) [ ]
prefix_fits (c ∷ cs) prefix capture at history f =
    let both = and_parts (not (stops_at c capture)) (nat_le (length (reply_with c capture)) at) history in
    subst (λ (d : Command). length (reply_with d capture) ≤ at) (sym f) (leb-true (length (reply_with c capture)) at both.1)

needed_joined : (xs ys : List Command) → needed (xs ++ ys) ≡ needed xs + needed ys
needed_joined [] ys = omega arith
needed_joined (x ∷ xs) ys = by_need (needs_capture x) (needed_joined xs ys)
  where
    by_need : (b : Bool) → needed (xs ++ ys) ≡ needed xs + needed ys → (if b then needed (xs ++ ys) + 1 else needed (xs ++ ys))
        ≡ (if b then needed xs + 1 else needed xs) + needed ys
    by_need true e = omega (arith, e)
    by_need false e = e

not_true : (b : Bool) → not b ≡ true → b ≡ false
not_true true e = sym e
not_true false e = refl

-- a first command that does not stop holds what it needs
prefix_took : (c : Command) (cs : List Command) (capture : Capture) (prefix : List Snapshot) → Shows (c ∷ cs) capture prefix
    → stops_at c capture ≡ false → length prefix ≡ needed (c ∷ [])
prefix_took c cs capture [] s e = ap (λ (b : Bool). if b then 1 else 0) (sym (sym (empty_stops c capture s) ∙ e))
prefix_took c cs capture (k ∷ ks) s e =
    ap (λ (ls : List Snapshot). length (k ∷ ls)) s.0 ∙ ap (λ (b : Bool). if b then 1 else 0) (sym s.1)

equal_prefix : (c : Command) (cs : List Command) (capture : Capture) (prefix : List Snapshot) → Shows (c ∷ cs) capture prefix → Shows (c ∷ []) capture prefix
equal_prefix c cs capture [] s = s
equal_prefix c cs capture (k ∷ ks) s = s

pub passed_on : (q new : List Command) (capture held : Capture) (at place : ℕ) (p : AppState) → is_past q capture at ≡ true
    → Passes q capture at new held place → IsTrailing q capture at p → IsTrailing new held place p
passed_on [] new capture held at place p history w b = elim (true≢false (sym history)) [ ]
passed_on (c ∷ cs) new capture held at place p history w b =
    let goes : stops_at c capture ≡ false = not_true (stops_at c capture)
    (and_parts (not (stops_at c capture)) (nat_le (length (reply_with c capture)) at) history).0 in
    let took : length b.prefix ≡ needed (c ∷ []) = prefix_took c cs capture b.prefix b.shows goes in
    let text : transcript (b.before ++ c ∷ []) (b.spoken ++ b.prefix) ≡ transcript b.before b.spoken ++ reply_with c capture =
    split b.before (c ∷ []) b.spoken b.prefix b.took
    ∙ ap (λ (xs : List ℕ). transcript b.before b.spoken ++ xs) (prefix_left (c ∷ []) capture b.prefix (equal_prefix c cs capture b.prefix b.shows)
    ∙ ap (λ (s : Bool). if s then [] else reply_with c capture ++ []) goes ∙ append-nil (reply_with c capture)) in
    let size : length (transcript (b.before ++ c ∷ []) (b.spoken ++ b.prefix)) ≡ length (transcript b.before b.spoken) + length (reply_with c capture) =
    ap (λ (xs : List ℕ). length xs) text ∙ length-append (transcript b.before b.spoken) (reply_with c capture) in
    record {
      before = b.before ++ c ∷ [];
      spoken = b.spoken ++ b.prefix;
      prefix = [];
      commands = b.commands ∙ sym (append_assoc b.before (c ∷ []) cs) ∙ ap (λ (ds : List Command). (b.before ++ c ∷ []) ++ ds) (sym w.0);
      snapshots = b.snapshots ∙ sym (append-nil (b.spoken ++ b.prefix));
      took = length-append b.spoken b.prefix ∙ ap (λ (n : ℕ). n + length b.prefix) b.took ∙ ap (λ (n : ℕ). needed b.before + n) took
          ∙ sym (needed_joined b.before (c ∷ []));
      acked = (let e = b.acked in let f = w.2 in omega (arith, e, f, size));
      shows = w.1;
    }

-- what is left stays enough
pub enough_left : (q new : List Command) (capture held : Capture) (at place : ℕ) → is_past q capture at ≡ true → Passes q capture at new held place
    → at ≤ length (replies_left q capture) → place ≤ length (replies_left new held)
enough_left [] new capture held at place history w h = elim (true≢false (sym history)) [ ]
enough_left (c ∷ cs) new capture held at place history w h =
    let goes : stops_at c capture ≡ false = not_true (stops_at c capture)
    (and_parts (not (stops_at c capture)) (nat_le (length (reply_with c capture)) at) history).0 in
    let left : length (replies_left (c ∷ cs) capture) ≡ length (reply_with c capture) + length (transcript cs []) =
    ap (λ (s : Bool). length (if s then [] else reply_with c capture ++ transcript cs [])) goes ∙ length-append (reply_with c capture) (transcript cs []) in
    let next : length (transcript cs []) ≡ length (replies_left new held) =
    ap (λ (xs : List ℕ). length xs) (prefix_left cs Empty [] refl) ∙ ap (λ (ds : List Command). length (replies_left ds Empty)) (sym w.0)
    ∙ ap (λ (d : Capture). length (replies_left new d)) (sym w.1) in
    omega (arith, h, left, next, w.2)

pub shorter : (q new : List Command) (capture held : Capture) (at place : ℕ) → Passes q capture at new held place → length new < length q
shorter [] new capture held at place w = absurd w
shorter (c ∷ cs) new capture held at place w = subst (λ (ds : List Command). length ds < length (c ∷ cs)) (sym w.0) (omega arith)

pub nearer : (q new : List Command) (capture held : Capture) (at place : ℕ) → Passes q capture at new held place → place ≤ at
nearer [] new capture held at place w = absurd w
nearer (c ∷ cs) new capture held at place w = omega (arith, w.2)

-- if the first command is not passed, the offset is in it
pub with_newest : (q : List Command) (capture : Capture) (at : ℕ) → is_past q capture at ≡ false → at ≤ length (replies_left q capture) → IsLeading q capture at
with_newest [] capture at e h = omega (arith, h)
with_newest (c ∷ cs) capture at e h = (
  (λ s. let z : length (replies_left (c ∷ cs) capture)
      ≡ 0 = ap (λ (b : Bool). length (if b then [] else reply_with c capture ++ transcript cs [])) s in omega (arith, h, z)),
  (λ g. leb-false (length (reply_with c capture)) at (sym (ap (λ (b : Bool). not b && nat_le (length (reply_with c capture)) at) g) ∙ e)),
)

-- ---- commands come

shows_more : (q extra : List Command) (capture : Capture) (prefix : List Snapshot) → Shows q capture prefix → Shows (q ++ extra) capture prefix
shows_more [] extra capture [] s = s
shows_more [] extra capture (k ∷ ks) s = absurd s
shows_more (c ∷ cs) extra capture [] s = s
shows_more (c ∷ cs) extra capture (k ∷ ks) s = s

prefix_grown : (q extra : List Command) (capture : Capture) (at : ℕ) → IsLeading q capture at → IsLeading (q ++ extra) capture at
prefix_grown [] [] capture at i = i
prefix_grown [] (c ∷ cs) capture at i = ((λ s. i), (λ g. omega (arith, i, reply_is_not_empty c capture)))
prefix_grown (c ∷ cs) extra capture at i = i

pub come : (q extra : List Command) (capture : Capture) (at : ℕ) (p : AppState) (byte : ℕ) → commands_in (p.input ++ byte ∷ []) ≡ commands_in p.input ++ extra
    → IsTrailing q capture at p → IsLeading q capture at → IsTrailing (q ++ extra) capture at (with_byte p byte) × IsLeading (q ++ extra) capture at
come q extra capture at p byte more b i = (
  record {
    before = b.before;
    spoken = b.spoken;
    prefix = b.prefix;
    commands = more ∙ ap (λ (cs : List Command). cs ++ extra) b.commands ∙ append_assoc b.before q extra;
    snapshots = b.snapshots;
    took = b.took;
    acked = b.acked;
    shows = shows_more q extra capture b.prefix b.shows;
  },
  prefix_grown q extra capture at i,
)
