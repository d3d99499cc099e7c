-- Reading a text, each line preserves what holds for a schedule.
-- [add: schedule-line] A text that has the line.
use Rattle.link_schedule.proofs.Prelude.{◌≡◌, ℕ, ◌+◌, ◌≤◌, Bool, true, false, cond, not, ◌&&◌, ◌||◌, List, [], ◌∷◌, ◌++◌, length, Result}
use Rattle.link_schedule.proofs.Prelude.{Ok, Err, IfOk, refl, ap, ◌∙◌, subst, arith, eqb, leb, codes, list_all, list_any, slice_split}
use Rattle.link_schedule.proofs.Prelude.{bytes_eq, and_parts, and_from, le-leb, leb-true, leb-false, not-true, or_parts, length-append}
use Rattle.link_schedule.proofs.Prelude.{list_all-append, list_any-append, decode_of, FromHexError, Event, Opens, Again, Closes, Aborts}
use Rattle.link_schedule.proofs.Prelude.{Window, Line, ClientSide, Why, Form, Clients, Ports, ◌>>=◌, address, within, event_of_words, got}
use Rattle.link_schedule.proofs.Prelude.{is_target, Plan, plan_of, plan_with, raw, request_of, side_of, BadText, SchedulePlan, reads_on}
use Rattle.link_schedule.proofs.Prelude.{is_passed_over, meets, nothing_yet, read_line, read_lines, read_words, with_plan, with_event}
use Rattle.link_schedule.proofs.Prelude.{with_line, are_apart, client_in_range, event_in_range, is_between, Keeps}
use Rattle.link_schedule.proofs.Kept.{anything, behind, either, event_fine, tested, within_range}

abbrev SideFine : ClientSide → Type 0
SideFine side = (is_between 1 65535 side.port.0 ≡ true) × (is_between 1 1460 side.seg ≡ true)

side_fine : (addr port mss seg : List ℕ) → IfOk (side_of addr port mss seg) SideFine
side_fine addr port mss seg =
    behind (λ a. Unit {0}) SideFine (address addr)
    (λ a. within 1 65535 port >>= λ p. within 0 65535 mss >>= λ m. within 1 1460 seg >>= λ s.
    Ok (record { addr = a; port = record { 0 = p }; mss = m; seg = s })) (anything (address addr))
    (λ a u. behind (λ p. is_between 1 65535 p ≡ true) SideFine (within 1 65535 port)
    (λ p. within 0 65535 mss >>= λ m. within 1 1460 seg >>= λ s. Ok (record { addr = a; port = record { 0 = p }; mss = m; seg = s }))
    (within_range 1 65535 port)
    (λ p fine. behind (λ m. Unit {0}) SideFine (within 0 65535 mss)
    (λ m. within 1 1460 seg >>= λ s. Ok (record { addr = a; port = record { 0 = p }; mss = m; seg = s })) (anything (within 0 65535 mss))
    (λ m v. behind (λ s. is_between 1 1460 s ≡ true) SideFine (within 1 1460 seg)
    (λ s. Ok (record { addr = a; port = record { 0 = p }; mss = m; seg = s })) (within_range 1 1460 seg)
    (λ s good. (fine, good)))))

abbrev RequestFine : List ℕ → Type 0
RequestFine request = is_between 1 4096 (length request) ≡ true

length_got : (target : List ℕ) → length (codes "GET " ++ target ++ codes " HTTP/1.0\r\n\r\n") ≡ length target + 17
length_got target =
    let e = length-append (codes "GET " ++ target) (codes " HTTP/1.0\r\n\r\n") in
    let f = length-append (codes "GET ") target in
    omega (arith, e, f)

got_fine : (target : List ℕ) → IfOk (got target) RequestFine
got_fine target =
    tested RequestFine (is_target target) (Ok (codes "GET " ++ target ++ codes " HTTP/1.0\r\n\r\n")) (Err Form)
    (λ e.
    let parts = and_parts (is_between 1 4079 (length target)) (list_all (λ c. leb 33 c && leb c 126) target) e in
    let sizes = and_parts (leb 1 (length target)) (leb (length target) 4079) parts.0 in
    let most = leb-true (length target) 4079 sizes.1 in
    let size = length_got target in
    let request = codes "GET " ++ target ++ codes " HTTP/1.0\r\n\r\n" in
    and_from (leb 1 (length request)) (leb (length request) 4096) (le-leb 1 (length request) (omega (arith, size)))
    (le-leb (length request) 4096 (omega (arith, size, most)))) tt

raw_fine : (r : Result (List ℕ) FromHexError) → IfOk (raw r) RequestFine
raw_fine (Ok request) = tested RequestFine (is_between 1 4096 (length request)) (Ok request) (Err Form) (λ e. e) tt
raw_fine (Err e) = tt

request_fine : (how what : List ℕ) → IfOk (request_of how what) RequestFine
request_fine how what =
    either RequestFine (bytes_eq how (codes "get")) (got what) (cond (bytes_eq how (codes "raw")) (raw (decode_of what)) (Err Form)) (got_fine what)
    (either RequestFine (bytes_eq how (codes "raw")) (raw (decode_of what)) (Err Form) (raw_fine (decode_of what)) tt)

abbrev PlanFine : Plan → Type 0
PlanFine plan = client_in_range plan ≡ true

with_fine : (addr port mss seg how what : List ℕ) → IfOk (plan_with addr port mss seg how what) PlanFine
with_fine addr port mss seg how what =
    behind SideFine PlanFine (side_of addr port mss seg)
    (λ side. request_of how what >>= λ request. Ok
    (record { addr = side.addr; port = side.port; mss = side.mss; seg = side.seg; request = request })) (side_fine addr port mss seg)
    (λ side fine. behind RequestFine PlanFine (request_of how what)
    (λ request. Ok (record { addr = side.addr; port = side.port; mss = side.mss; seg = side.seg; request = request })) (request_fine how what)
    (λ request good. and_from (is_between 1 65535 side.port.0 && is_between 1 1460 side.seg) (is_between 1 4096 (length request))
    (and_from (is_between 1 65535 side.port.0) (is_between 1 1460 side.seg) fine.0 fine.1) good))

-- what six words keep, the words of every client's line keep
pub of_words : (P : Plan → Type 0) → ((addr port mss seg how what : List ℕ) → IfOk (plan_with addr port mss seg how what) P)
    → (words : List (List ℕ)) → IfOk (plan_of words) P
of_words P six [] = tt
of_words P six (a ∷ []) = tt
of_words P six (a ∷ b ∷ []) = tt
of_words P six (a ∷ b ∷ c ∷ []) = tt
of_words P six (a ∷ b ∷ c ∷ d ∷ []) = tt
of_words P six (a ∷ b ∷ c ∷ d ∷ e ∷ []) = tt
of_words P six (a ∷ b ∷ c ∷ d ∷ e ∷ f ∷ []) = six a b c d e f
of_words P six (a ∷ b ∷ c ∷ d ∷ e ∷ f ∷ g ∷ words) = tt

plan_fine : (words : List (List ℕ)) → IfOk (plan_of words) PlanFine
plan_fine words = of_words PlanFine with_fine words

-- more clients leave each line good
wider : (n m c : ℕ) → n ≤ m → is_between 1 n c ≡ true → is_between 1 m c ≡ true
wider n m c le e =
    let parts = and_parts (leb 1 c) (leb c n) e in
    let most = leb-true c n parts.1 in
    and_from (leb 1 c) (leb c m) parts.0 (le-leb c m (omega (arith, le, most)))

wider_event : (n m : ℕ) → n ≤ m → (event : Event) → event_in_range n event ≡ true → event_in_range m event ≡ true
wider_event n m le (Opens c) e = wider n m c le e
wider_event n m le (Again c) e = wider n m c le e
wider_event n m le (Closes c) e = wider n m c le e
wider_event n m le (Aborts c) e = wider n m c le e
wider_event n m le (Window c w) e = wider n m c le e
wider_event n m le _ e = e

wider_lines : (n m : ℕ) → n ≤ m → (lines : List Line) → list_all (λ line. event_in_range n line.event) lines ≡ true
    → list_all (λ line. event_in_range m line.event) lines ≡ true
wider_lines n m le [] e = refl
wider_lines n m le (line ∷ lines) e =
    let parts = and_parts (event_in_range n line.event) (list_all (λ line. event_in_range n line.event) lines) e in
    and_from (event_in_range m line.event) (list_all (λ line. event_in_range m line.event) lines) (wider_event n m le line.event parts.0)
    (wider_lines n m le lines parts.1)

none_later : (p q : Plan) (plans : List Plan) → list_any (λ later. meets p later) plans ≡ false → meets p q ≡ false
    → not (list_any (λ later. meets p later) (plans ++ q ∷ [])) ≡ true
none_later p q plans e f =
    let all : list_any (λ later. meets p later) (plans ++ q ∷ []) ≡ false
    = list_any-append (λ later. meets p later) plans (q ∷ [])
    ∙ ap (λ b. b || (meets p q || false)) e ∙ ap (λ b. false || (b || false)) f in
    ap not all

apart_after : (plans : List Plan) (q : Plan) → are_apart plans ≡ true → list_any (λ earlier. meets earlier q) plans ≡ false
    → are_apart (plans ++ q ∷ []) ≡ true
apart_after [] q e f = refl
apart_after (p ∷ plans) q e f =
    let parts = and_parts (not (list_any (λ later. meets p later) plans)) (are_apart plans) e in
    let none = or_parts (meets p q) (list_any (λ earlier. meets earlier q) plans) f in
    and_from (not (list_any (λ later. meets p later) (plans ++ q ∷ []))) (are_apart (plans ++ q ∷ []))
    (none_later p q plans (not-true _ parts.0) none.0) (apart_after plans q parts.1 none.1)

unless : {A : Type 0} (P : A → Type 0) (b : Bool) (why : Why) (y : Result A Why) → (b ≡ false → IfOk y P) → IfOk (cond b (Err why) y) P
unless P true why y p = tt
unless P false why y p = p refl

kept_client : (above : SchedulePlan) (plan : Plan) → Keeps above → PlanFine plan → IfOk (with_plan above plan) Keeps
unfolding with_plan
kept_client above plan keeps fine =
    unless Keeps (leb 64 (length above.clients)) Clients
    (cond (list_any (λ earlier. meets earlier plan) above.clients) (Err Ports)
    (Ok (record { clients = above.clients ++ plan ∷ []; lines = above.lines })))
    (λ room. unless Keeps (list_any (λ earlier. meets earlier plan) above.clients) Ports
    (Ok (record { clients = above.clients ++ plan ∷ []; lines = above.lines }))
    (λ alone.
    let less = leb-false 64 (length above.clients) room in
    let size = length-append above.clients (plan ∷ []) in
    record {
      few = omega (arith, less, size);
      apart = apart_after above.clients plan keeps.apart alone;
      clients_in_range =
          list_all-append client_in_range above.clients (plan ∷ [])
          ∙ and_from (list_all client_in_range above.clients) (client_in_range plan && true) keeps.clients_in_range
          (and_from (client_in_range plan) true fine refl);
      lines_in_range =
          wider_lines (length above.clients) (length (above.clients ++ plan ∷ [])) (omega (arith, size)) above.lines keeps.lines_in_range;
    }))

kept_event : (number : ℕ) (above : SchedulePlan) (words : List (List ℕ)) → Keeps above → IfOk (with_event number above words) Keeps
kept_event number above words keeps =
    behind (λ event. event_in_range (length above.clients) event ≡ true) Keeps (event_of_words (length above.clients) words)
    (λ event. Ok (with_line above number event)) (event_fine (length above.clients) words)
    (λ event fine. record {
      few = keeps.few;
      apart = keeps.apart;
      clients_in_range = keeps.clients_in_range;
      lines_in_range =
          list_all-append (λ line. event_in_range (length above.clients) line.event) above.lines (record { at = number; event = event } ∷ [])
          ∙ and_from (list_all (λ line. event_in_range (length above.clients) line.event) above.lines)
          (event_in_range (length above.clients) event && true) keeps.lines_in_range
          (and_from (event_in_range (length above.clients) event) true fine refl);
    })

-- What each client's line and each other line keeps, all lines in turn keep.
module _ (P : SchedulePlan → Type 0) (client : (above : SchedulePlan) (words : List (List ℕ)) → P above → IfOk (plan_of words >>= with_plan above) P)
    (event : (number : ℕ) (above : SchedulePlan) (words : List (List ℕ)) → P above → IfOk (with_event number above words) P) where
  words_keep : (number : ℕ) (above : SchedulePlan) (words : List (List ℕ)) → P above → IfOk (read_words number above words) P
  words_keep number above [] p = tt
  words_keep number above (verb ∷ words) p =
      either P (bytes_eq verb (codes "client")) (plan_of words >>= with_plan above) (with_event number above (verb ∷ words)) (client above words p)
      (event number above (verb ∷ words) p)

  line_keeps : (number : ℕ) (above : SchedulePlan) (line : List ℕ) → P above → IfOk (read_line number above line) P
  line_keeps number above line p =
      either P (is_passed_over line) (Ok above) (read_words number above (slice_split (λ c. eqb c 32) line)) p
      (words_keep number above (slice_split (λ c. eqb c 32) line) p)

  goes_on : (number : ℕ) (next : SchedulePlan → Result SchedulePlan BadText) (r : Result SchedulePlan Why) → IfOk r P
      → ((content : SchedulePlan) → P content → IfOk (next content) P) → IfOk (reads_on number next r) P
  goes_on number next (Ok content) p f = f content p
  goes_on number next (Err why) p f = tt

  pub lines_keep : (number : ℕ) (above : SchedulePlan) (lines : List (List ℕ)) → P above → IfOk (read_lines number above lines) P
  lines_keep number above [] p = p
  lines_keep number above (line ∷ lines) p =
      goes_on number (λ content. read_lines (number + 1) content lines) (read_line number above line) (line_keeps number above line p)
      (λ content q. lines_keep (number + 1) content lines q)

kept_lines : (number : ℕ) (above : SchedulePlan) (lines : List (List ℕ)) → Keeps above → IfOk (read_lines number above lines) Keeps
kept_lines number above lines keeps =
    lines_keep Keeps
    (λ above words keeps. behind PlanFine Keeps (plan_of words) (with_plan above) (plan_fine words) (λ plan fine. kept_client above plan keeps fine))
    kept_event number above lines keeps

kept_at_first : Keeps nothing_yet
kept_at_first = record { few = omega arith; apart = refl; clients_in_range = refl; lines_in_range = refl }

-- what a text's lines spell keeps it
pub kept_where_read : (content : SchedulePlan) (lines : List (List ℕ)) → read_lines 1 nothing_yet lines ≡ Ok content → Keeps content
kept_where_read content lines e =
    let P : Result SchedulePlan BadText → Type 0 = λ r. IfOk r Keeps in subst P e (kept_lines 1 nothing_yet lines kept_at_first)
