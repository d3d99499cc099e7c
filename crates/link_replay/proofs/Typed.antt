-- The clients of a text that reads have the ranges of their types.
use Rattle.link_replay.proofs.Prelude.{All, list_all, list_any, slice_split, option_map_or, IfSome, codes, bytes_eq, ◌≡◌, ℕ, ◌<◌, ◌&&◌}
use Rattle.link_replay.proofs.Prelude.{Bool, true, false, cond, List, [], ◌∷◌, ◌++◌, length, Option, Some, None, Result, Ok, Err, IfOk}
use Rattle.link_replay.proofs.Prelude.{refl, subst, arith, eqb, leb, ltb, and_parts, leb-true, ltb-true, All-append, All-cons, All-nil}
use Rattle.link_replay.proofs.Prelude.{quad_of, Addr, IsAddr, IsByte, decode_of, FromHexError, Plan, got, is_target, plan_of, plan_with}
use Rattle.link_replay.proofs.Prelude.{raw, request_of, side_of, event_of_words, Keeps, is_between, address, within, BadText, SchedulePlan}
use Rattle.link_replay.proofs.Prelude.{meets, nothing_yet, read_lines, read_text, with_plan, with_event, with_line, ClientSide, Why}
use Rattle.link_replay.proofs.Prelude.{Clients, Form, Long, Ports, kept_where_read, lines_keep, of_words, anything, behind, either, tested}
use Rattle.link_replay.proofs.Prelude.{within_range}
use Rattle.link_replay.proofs.HexBytes.{decoded_bytes}
use Rattle.link_replay.proofs.Quads.{quad_is_addr}

-- a client's address is four bytes, the size that it offers has 16 bits, and its request is bytes
pub record HasTypes (plan : Plan) : Type 0 where
  pub addr : IsAddr plan.addr
  pub offered : plan.mss < 65536
  pub all_bytes : All IsByte plan.request

abbrev SideTyped : ClientSide → Type 0
SideTyped side = IsAddr side.addr × (side.mss < 65536)

addressed_typed : (o : Option (List ℕ)) → IfSome o (λ quad. IsAddr (record { 0 = quad }))
    → IfOk (option_map_or {T = List ℕ} {U = Result Addr Why} (λ quad. Ok (record { 0 = quad })) o (Err Form)) IsAddr
addressed_typed (Some quad) p = p
addressed_typed None p = tt

side_typed : (addr port mss seg : List ℕ) → IfOk (side_of addr port mss seg) SideTyped
side_typed addr port mss seg =
    behind IsAddr SideTyped (address addr) _ (addressed_typed (quad_of addr) (quad_is_addr addr))
    (λ a is. behind (λ p. Unit {0}) SideTyped (within 1 65535 port) _ (anything (within 1 65535 port))
    (λ p u. behind (λ m. is_between 0 65535 m ≡ true) SideTyped (within 0 65535 mss) _ (within_range 0 65535 mss)
    (λ m range. behind (λ s. Unit {0}) SideTyped (within 1 1460 seg) _ (anything (within 1 1460 seg))
    (λ s v. (is, (let most = leb-true m 65535 (and_parts (leb 0 m) (leb m 65535) range).1 in omega (arith, most)))))))

-- bytes that pass a test
all_tested : (test : ℕ → Bool) → ((c : ℕ) → test c ≡ true → IsByte c) → (bytes : List ℕ) → list_all test bytes ≡ true → All IsByte bytes
all_tested test p [] e = All-nil IsByte
all_tested test p (c ∷ bytes) e =
    let parts = and_parts (test c) (list_all test bytes) e in
    All-cons IsByte c bytes (p c parts.0) (all_tested test p bytes parts.1)

plain_bytes : (bytes : List ℕ) → list_all (λ c. ltb c 256) bytes ≡ true → All IsByte bytes
plain_bytes bytes e = all_tested (λ c. ltb c 256) (λ c f. ltb-true c 256 f) bytes e

seen_byte : (c : ℕ) → (leb 33 c && leb c 126) ≡ true → IsByte c
seen_byte c e = let most = leb-true c 126 (and_parts (leb 33 c) (leb c 126) e).1 in omega (arith, most)

got_typed : (target : List ℕ) → IfOk (got target) (All IsByte)
got_typed target =
    tested (All IsByte) (is_target target) (Ok (codes "GET " ++ target ++ codes " HTTP/1.0\r\n\r\n")) (Err Form)
    (λ e. All-append IsByte (codes "GET " ++ target) (codes " HTTP/1.0\r\n\r\n")
    (All-append IsByte (codes "GET ") target (plain_bytes (codes "GET ") refl)
    (all_tested (λ c. leb 33 c && leb c 126) seen_byte target (and_parts (is_between 1 4079 (length target))
    (list_all (λ c. leb 33 c && leb c 126) target) e).1))
    (plain_bytes (codes " HTTP/1.0\r\n\r\n") refl)) tt

raw_typed : (r : Result (List ℕ) FromHexError) → IfOk r (All IsByte) → IfOk (raw r) (All IsByte)
raw_typed (Ok request) p = either (All IsByte) (is_between 1 4096 (length request)) (Ok request) (Err Form) p tt
raw_typed (Err e) p = tt

request_typed : (how what : List ℕ) → IfOk (request_of how what) (All IsByte)
request_typed how what =
    either (All IsByte) (bytes_eq how (codes "get")) (got what) (cond (bytes_eq how (codes "raw")) (raw (decode_of what)) (Err Form)) (got_typed what)
    (either (All IsByte) (bytes_eq how (codes "raw")) (raw (decode_of what)) (Err Form) (raw_typed (decode_of what) (decoded_bytes what)) tt)

with_typed : (addr port mss seg how what : List ℕ) → IfOk (plan_with addr port mss seg how what) HasTypes
with_typed addr port mss seg how what =
    behind SideTyped HasTypes (side_of addr port mss seg) _ (side_typed addr port mss seg)
    (λ side typed. behind (All IsByte) HasTypes (request_of how what) _ (request_typed how what)
    (λ request bytes. record { addr = typed.0; offered = typed.1; all_bytes = bytes }))

plan_typed : (words : List (List ℕ)) → IfOk (plan_of words) HasTypes
plan_typed words = of_words HasTypes with_typed words

abbrev Typed : SchedulePlan → Type 0
Typed content = All HasTypes content.clients

client_typed : (above : SchedulePlan) (plan : Plan) → Typed above → HasTypes plan → IfOk (with_plan above plan) Typed
unfolding with_plan
client_typed above plan typed is =
    let more : Result SchedulePlan Why = Ok (record { clients = above.clients ++ plan ∷ []; lines = above.lines }) in
    either Typed (leb 64 (length above.clients)) (Err Clients) (cond (list_any (λ earlier. meets earlier plan) above.clients) (Err Ports) more) tt
    (either Typed (list_any (λ earlier. meets earlier plan) above.clients) (Err Ports) more tt
    (All-append HasTypes above.clients (plan ∷ []) typed (All-cons HasTypes plan [] is (All-nil HasTypes))))

event_typed : (number : ℕ) (above : SchedulePlan) (words : List (List ℕ)) → Typed above → IfOk (with_event number above words) Typed
event_typed number above words typed =
    behind (λ event. Unit {0}) Typed (event_of_words (length above.clients) words) (λ event. Ok (with_line above number event))
    (anything (event_of_words (length above.clients) words)) (λ event u. typed)

lines_typed : (number : ℕ) (above : SchedulePlan) (lines : List (List ℕ)) → Typed above → IfOk (read_lines number above lines) Typed
lines_typed number above lines typed =
    lines_keep Typed
    (λ above words typed. behind HasTypes Typed (plan_of words) (with_plan above) (plan_typed words) (λ plan is. client_typed above plan typed is))
    event_typed number above lines typed

-- a text that is not too long reads as its lines do
lines_read : (text : List ℕ) (content : SchedulePlan) → read_text text ≡ Ok content → read_lines 1 nothing_yet (slice_split (λ c. eqb c 10) text) ≡ Ok content
unfolding read_text
lines_read text content e = by_test (leb (length text) 4194304) (read_lines 1 nothing_yet (slice_split (λ c. eqb c 10) text)) e
  where
    by_test : (b : Bool) (x : Result SchedulePlan BadText) → cond b x (Err (record { line = 0; why = Long })) ≡ Ok content → x ≡ Ok content
    by_test true x e = e
    by_test false x e = absurd (cc)

pub all_typed : (text : List ℕ) (content : SchedulePlan) → read_text text ≡ Ok content → All HasTypes content.clients
all_typed text content e =
    let P : Result SchedulePlan BadText → Type 0 = λ r. IfOk r Typed in
    subst P (lines_read text content e) (lines_typed 1 nothing_yet (slice_split (λ c. eqb c 10) text) (All-nil HasTypes))

pub read_keeps : (text : List ℕ) (content : SchedulePlan) → read_text text ≡ Ok content → Keeps content
read_keeps text content e = kept_where_read content (slice_split (λ c. eqb c 10) text) (lines_read text content e)
