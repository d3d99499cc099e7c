-- What holds for the schedule of a seed.
-- [add: schedule-line] A line that a seed draws.
use Rattle.workload.proofs.Prelude.{◌≡◌, ℕ, suc, zero, ◌+◌, ◌-◌, ◌*◌, ◌/◌, ◌%◌, ◌<◌, ◌≤◌, ◌==◌, ◌&&◌, ◌||◌, nat_le, Bool, true, false, not}
use Rattle.workload.proofs.Prelude.{List, [], ◌∷◌, ◌++◌, length, map, replicate, refl, sym, ap, subst, arith, ◌∙◌, if◌then◌else◌, Result}
use Rattle.workload.proofs.Prelude.{Ok, Err, OnOk, common_steps, codes, flat_map, list_all, list_any, range_with_len, bytes_eq}
use Rattle.workload.proofs.Prelude.{length-append, flat_map-cons, list_all-append, length-map-range_with_len, first_words, Lcg}
use Rattle.workload.proofs.Prelude.{increment_of, started, multiplier_64, pcg32, Event, Opens, Again, Round, Twice, Reverse, Half, Lose}
use Rattle.workload.proofs.Prelude.{Line, Plan, SchedulePlan, meets, Keeps, are_apart, client_in_range, event_in_range, is_between}
use Rattle.workload.proofs.Prelude.{client_of, event_drawn, events_of, happens, numbered_from, words_from, workload_of}

pub on_ok_by : {T E P Q : Type 0} (r : Result T E) → (P → Q) → OnOk r P → OnOk r Q
on_ok_by (Ok x) f p = f p
on_ok_by (Err e) f p = tt

pub more_from : (n : ℕ) → (n ≡ 0 → ⊥) → n ≡ suc (n - 1)
more_from zero e = absurd (e refl)
more_from (suc n) e = omega arith

both : (a b : Bool) → a ≡ true → b ≡ true → (a && b) ≡ true
both true true p q = refl
both true false p q = q
both false b p q = p

neither : (a b : Bool) → a ≡ false → b ≡ false → (a || b) ≡ false
neither false false p q = refl
neither false true p q = q
neither true b p q = p

second_fails : (a b : Bool) → b ≡ false → (a && b) ≡ false
second_fails true b q = q
second_fails false b q = refl

le_true : (a b : ℕ) → a ≤ b → nat_le a b ≡ true
le_true a b le = grind (arith, common_steps)

other_port : (a b : ℕ) → a < b → (1024 + a == 1024 + b) ≡ false
other_port a b lt = grind (arith, common_steps)

no_meeting : (a b m : ℕ) → a < b → list_any (λ later. meets (client_of a) later) (map client_of (range_with_len b m)) ≡ false
no_meeting a b zero lt = refl
no_meeting a b (suc m) lt =
    neither (meets (client_of a) (client_of b)) (list_any (λ later. meets (client_of a) later) (map client_of (range_with_len (b + 1) m)))
    (second_fails (bytes_eq (10 ∷ 0 ∷ 1 ∷ a ∷ []) (10 ∷ 0 ∷ 1 ∷ b ∷ [])) (1024 + a == 1024 + b) (other_port a b lt))
    (no_meeting a (b + 1) m (omega (arith, lt)))

all_apart : (a m : ℕ) → are_apart (map client_of (range_with_len a m)) ≡ true
all_apart a zero = refl
all_apart a (suc m) =
    both (not (list_any (λ later. meets (client_of a) later) (map client_of (range_with_len (a + 1) m)))) (are_apart (map client_of (range_with_len (a + 1) m)))
    (ap not (no_meeting a (a + 1) m (omega arith))) (all_apart (a + 1) m)

-- the page that a client asks for
abbrev request_by : Bool → List ℕ
request_by odd = if odd then codes "GET / HTTP/1.0\r\n\r\n" else codes "GET /stats.shtml HTTP/1.0\r\n\r\n"

request_fits : (odd : Bool) → is_between 1 4096 (length (request_by odd)) ≡ true
request_fits true = refl
request_fits false = refl

client_fits : (k : ℕ) → k ≤ 64 → client_in_range (client_of k) ≡ true
client_fits k le =
    both (is_between 1 65535 (1024 + k) && is_between 1 1460 16) (is_between 1 4096 (length (request_by (k % 2 == 1))))
    (both (is_between 1 65535 (1024 + k)) (is_between 1 1460 16)
    (both (nat_le 1 (1024 + k)) (nat_le (1024 + k) 65535) (le_true 1 (1024 + k) (omega arith)) (le_true (1024 + k) 65535 (omega (arith, le)))) refl)
    (request_fits (k % 2 == 1))

clients_fit : (a m : ℕ) → a + m ≤ 65 → list_all client_in_range (map client_of (range_with_len a m)) ≡ true
clients_fit a zero le = refl
clients_fit a (suc m) le =
    both (client_in_range (client_of a)) (list_all client_in_range (map client_of (range_with_len (a + 1) m)))
    (client_fits a (omega (arith, le))) (clients_fit (a + 1) m (omega (arith, le)))

numbered_fits : (n a : ℕ) (es : List Event) → list_all (event_in_range n) es ≡ true → list_all (λ line. event_in_range n line.event) (numbered_from a es) ≡ true
numbered_fits n a es fits = same a es ∙ fits where
  same : (b : ℕ) (xs : List Event) → list_all (λ line. event_in_range n line.event) (numbered_from b xs) ≡ list_all (event_in_range n) xs
  same b [] = refl
  same b (x ∷ xs) = ap (λ (r : Bool). event_in_range n x && r) (same (b + 1) xs)

between : (n c : ℕ) → 1 ≤ c → c ≤ n → is_between 1 n c ≡ true
between n c low high = both (nat_le 1 c) (nat_le c n) (le_true 1 c low) (le_true c n high)

opens_fit : (n a m : ℕ) → 1 ≤ a → a + m ≤ n + 1 → list_all (event_in_range n) (map (λ k. Opens k) (range_with_len a m)) ≡ true
opens_fit n a zero low high = refl
opens_fit n a (suc m) low high =
    both (is_between 1 n a) (list_all (event_in_range n) (map (λ k. Opens k) (range_with_len (a + 1) m)))
    (between n a low (omega (arith, high))) (opens_fit n (a + 1) m (omega arith) (omega (arith, high)))

-- what holds of each event that may be drawn
pub of_drawn : (P : Event → Type 0) (rest client : ℕ) → P Round → P Twice → P Reverse → P Half → P Lose → P (Again client) → P (event_drawn rest client)
of_drawn P zero client round twice back half lose again = round
of_drawn P (suc zero) client round twice back half lose again = round
of_drawn P (suc (suc zero)) client round twice back half lose again = round
of_drawn P (suc (suc (suc zero))) client round twice back half lose again = twice
of_drawn P (suc (suc (suc (suc zero)))) client round twice back half lose again = back
of_drawn P (suc (suc (suc (suc (suc zero))))) client round twice back half lose again = half
of_drawn P (suc (suc (suc (suc (suc (suc zero)))))) client round twice back half lose again = lose
of_drawn P (suc (suc (suc (suc (suc (suc (suc n))))))) client round twice back half lose again = again

event_fits : (n r c : ℕ) → is_between 1 n c ≡ true → event_in_range n (event_drawn r c) ≡ true
event_fits n r c fits = of_drawn (λ event. event_in_range n event ≡ true) r c refl refl refl refl refl fits

rest_below : (w n : ℕ) → 1 ≤ n → w % n < n
rest_below w n some = omega (arith, some)

drawn_fit : (n : ℕ) (ws : List ℕ) → 1 ≤ n → list_all (event_in_range n) (flat_map (happens n) ws) ≡ true
drawn_fit n [] some = refl
drawn_fit n (w ∷ ws) some =
    ap (list_all (event_in_range n)) (flat_map-cons (happens n) w ws)
    ∙ both (event_in_range n (event_drawn (w % 8) (1 + w / 8 % n))) (list_all (event_in_range n) (flat_map (happens n) ws))
    (event_fits n (w % 8) (1 + w / 8 % n) (between n (1 + w / 8 % n) (omega arith) (let lt = rest_below (w / 8) n some in
    omega (arith, lt)))) (drawn_fit n ws some)

events_fit : (seed n : ℕ) → 1 ≤ n → list_all (event_in_range n) (events_of seed n) ≡ true
events_fit seed n some =
    let opens = map (λ k. Opens k) (range_with_len 1 n) in
    let drawn = flat_map (happens n) (words_from seed) in
    list_all-append (event_in_range n) (opens ++ drawn) (replicate 40 Round)
    ∙ both (list_all (event_in_range n) (opens ++ drawn)) true
    (list_all-append (event_in_range n) opens drawn
    ∙ both (list_all (event_in_range n) opens) (list_all (event_in_range n) drawn) (opens_fit n 1 n (omega arith) (omega arith))
    (drawn_fit n (words_from seed) some))
    refl

pub keeps : (seed n : ℕ) → 1 ≤ n → n ≤ 64 → Keeps (workload_of seed n)
keeps seed n some few =
    let count : length (map client_of (range_with_len 1 n)) ≡ n = length-map-range_with_len client_of 1 n in
    record {
      few = omega (arith, count, few);
      apart = all_apart 1 n;
      clients_in_range = clients_fit 1 n (omega (arith, few));
      lines_in_range = subst (λ (m : ℕ). list_all (λ line. event_in_range m line.event) (numbered_from (n + 1) (events_of seed n)) ≡ true) (sym count)
          (numbered_fits n (n + 1) (events_of seed n) (events_fit seed n some));
    }

length-drawn : (n : ℕ) (ws : List ℕ) → length (flat_map (happens n) ws) ≡ 2 * length ws
length-drawn n [] = refl
length-drawn n (w ∷ ws) = let e = ap length (flat_map-cons (happens n) w ws) in let f = length-drawn n ws in omega (arith, e, f)

length-words : (k : ℕ) (s : Lcg) → length (first_words pcg32 k s) ≡ k
unfolding first_words
length-words zero s = refl
length-words (suc k) s = ap suc (length-words k (pcg32 s).1)

pub length-events : (seed n : ℕ) → length (events_of seed n) ≡ n + 440
length-events seed n =
    let opens = map (λ k. Opens k) (range_with_len 1 n) in
    let drawn = flat_map (happens n) (words_from seed) in
    let a = length-append (opens ++ drawn) (replicate 40 Round) in
    let b = length-append opens drawn in
    let o : length opens ≡ n = length-map-range_with_len (λ k. Opens k) 1 n in
    let d = length-drawn n (words_from seed) in
    let w : length (words_from seed) ≡ 200 = length-words 200 _ in
    let r : length (replicate 40 Round) ≡ 40 = refl in
    omega (arith, a, b, o, d, w, r)

pub all_events : (seed n : ℕ) (s : Lcg) (none opened drawn rested : List Event) → s ≡ started 64 multiplier_64 seed (increment_of 64 54) → none ≡ []
    → opened ≡ none ++ map (λ k. Opens k) (range_with_len 1 n) → drawn ≡ opened ++ flat_map (happens n) (first_words pcg32 200 s)
    → rested ≡ drawn ++ replicate 40 Round
    → rested ≡ events_of seed n
all_events seed n s none opened drawn rested d e f g h =
    let opens = map (λ k. Opens k) (range_with_len 1 n) in
    let first : opened ≡ opens = f ∙ ap (λ (l : List Event). l ++ opens) e in
    h
    ∙ ap (λ (l : List Event). l ++ replicate 40 Round)
    (g ∙ ap (λ (l : List Event). l ++ flat_map (happens n) (first_words pcg32 200 s)) first
    ∙ ap (λ (z : Lcg). opens ++ flat_map (happens n) (first_words pcg32 200 z)) d)

pub same_content : (plans ps : List Plan) (lines ls : List Line) → plans ≡ ps → lines ≡ ls
    → ◌≡◌ {A = SchedulePlan} (record { clients = plans; lines = lines }) (record { clients = ps; lines = ls })
same_content plans ps lines ls e f = cc
