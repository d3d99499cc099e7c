-- The counters after an event, and after its answer.
-- [add: counter] The events that raise the counter.
use Rattle.uip_node.proofs.Prelude.{◌≡◌, ℕ, ◌+◌, ◌%◌, ◌==◌, ◌||◌, ◌&&◌, not, Bool, true, false, List, [], ◌∷◌, if◌then◌else◌, refl, sym, ap}
use Rattle.uip_node.proofs.Prelude.{◌∙◌, Option, None, list_any, option_map_or, and_parts, mod-add-mod, wrap, marks, raise, CountsRepresent}
use Rattle.uip_node.proofs.Prelude.{again_place, icmp_place, ip_place, seen, tcp_place, called_by, counters, ident_of, raised_by_answer}
use Rattle.uip_node.proofs.Prelude.{times, Counts, Answer, Event, HistoryEntry, IpRefused, IcmpRefused, TcpRefused, EchoAsked, Arrived}
use Rattle.uip_node.proofs.Prelude.{Overlong, Periodic, NoSlot, Silent, Spoke}
use Rattle.uip_ipv4.specs.declared.fate.IpFate.TheVariants as Ip
use Rattle.icmp_echo.specs.declared.fate.IcmpFate.TheVariants as Icmp
use Rattle.tcp_segment.specs.declared.fate.TcpFate.TheVariants as Tcp
use Rattle.uip_node.proofs.Raises.{counters_more, raised_at}

abbrev with_answer : Event → Answer → HistoryEntry
with_answer event answer = record { event = event; answer = answer }

-- the places that an event marks
abbrev pub marks_of : Event → List Bool
marks_of (IpRefused fate) = marks 0 (ip_place fate) 20
marks_of (IcmpRefused fate) = marks 0 10 (icmp_place fate)
marks_of (TcpRefused fate) = marks 0 14 (tcp_place fate)
marks_of (EchoAsked datagram) = marks 0 10 20
marks_of (Arrived sockets segment) = marks 0 14 20
marks_of Overlong = marks 2 20 20
marks_of (Periodic place) = marks 20 20 20

marked : (event : Event) → raised_at (with_answer event Silent) ≡ marks_of event
marked (IpRefused Ip.Short) = refl
marked (IcmpRefused Icmp.Short) = refl
marked (TcpRefused Tcp.Short) = refl
marked _ = refl

-- an event was counted
pub counted : (event : Event) (history : List HistoryEntry) (old net : List ℕ) → old ≡ counters history → net ≡ raise (marks_of event) old
    → net ≡ counters (seen event history)
counted event history old net h e =
    e ∙ ap (raise (marks_of event)) h ∙ ap (λ (bs : List Bool). raise bs (counters history)) (sym (marked event))
    ∙ sym (counters_more (with_answer event Silent) history)

-- so the numbers are represented, if it is no periodic call
pub recounted : (event : Event) (history : List HistoryEntry) (counts : Counts) (net : List ℕ) → called_by event ≡ None
    → CountsRepresent counts history → net ≡ counters (seen event history) →
    CountsRepresent (record counts { net = net }) (seen event history)
recounted event history counts net uncalled h e =
    let ticks : ℕ = times (λ p. option_map_or (λ place. place == 0) (called_by p.event) false) history in
    record {
      net = e;
      ticks = h.ticks ∙ ap (λ (o : Option ℕ). wrap (if option_map_or (λ place. place == 0) o false then ticks + 1 else ticks)) (sym uncalled);
      ident = h.ident;
    }

abbrev ors : List Bool → List Bool → List Bool
ors [] cs = []
ors (b ∷ bs) [] = []
ors (b ∷ bs) (c ∷ cs) = (b || c) ∷ ors bs cs

-- nothing is marked in both
abbrev are_apart : List Bool → List Bool → Bool
are_apart [] [] = true
are_apart [] (c ∷ cs) = false
are_apart (b ∷ bs) [] = false
are_apart (b ∷ bs) (c ∷ cs) = not (b && c) && are_apart bs cs

once : (b c : Bool) (n : ℕ) → not (b && c) ≡ true
    → (if b then wrap ((if c then wrap (n + 1) else n) + 1) else (if c then wrap (n + 1) else n)) ≡ (if b || c then wrap (n + 1) else n)
once true true n h = cc
once true false n h = refl
once false c n h = refl

raise_raise : (bs cs : List Bool) (ns : List ℕ) → are_apart bs cs ≡ true → raise bs (raise cs ns) ≡ raise (ors bs cs) ns
raise_raise [] [] ns h = refl
raise_raise [] (c ∷ cs) ns h = cc
raise_raise (b ∷ bs) [] ns h = cc
raise_raise (b ∷ bs) (c ∷ cs) [] h = refl
raise_raise (b ∷ bs) (c ∷ cs) (n ∷ ns) h =
    let p = and_parts (not (b && c)) (are_apart bs cs) h in
    let head = once b c n p.0 in
    let tail = raise_raise bs cs ns p.1 in
    cc

-- The places that an answer marks are none that its event marked, and are added to these.
pub record Adds (event : Event) (answer : Answer) (a b c : ℕ) : Type 0 where
  pub apart : are_apart (marks a b c) (raised_at (with_answer event Silent)) ≡ true
  pub both : ors (marks a b c) (raised_at (with_answer event Silent)) ≡ raised_at (with_answer event answer)

pub speaks : (again : Bool) (event : Event) → Adds event (Spoke again) 1 15 (again_place again)
speaks true (IpRefused Ip.Short) = record { apart = refl; both = refl }
speaks true (IcmpRefused Icmp.Short) = record { apart = refl; both = refl }
speaks true (TcpRefused Tcp.Short) = record { apart = refl; both = refl }
speaks true _ = record { apart = refl; both = refl }
speaks false (IpRefused Ip.Short) = record { apart = refl; both = refl }
speaks false (IcmpRefused Icmp.Short) = record { apart = refl; both = refl }
speaks false (TcpRefused Tcp.Short) = record { apart = refl; both = refl }
speaks false _ = record { apart = refl; both = refl }

pub turns_away : (event : Event) → Adds event NoSlot 19 20 20
turns_away (IpRefused Ip.Short) = record { apart = refl; both = refl }
turns_away (IcmpRefused Icmp.Short) = record { apart = refl; both = refl }
turns_away (TcpRefused Tcp.Short) = record { apart = refl; both = refl }
turns_away _ = record { apart = refl; both = refl }

-- the answer was counted after the event
pub second : (event : Event) (answer : Answer) (history : List HistoryEntry) (a b c : ℕ) (net new : List ℕ) → Adds event answer a b c →
    net ≡ counters (seen event history) → new ≡ raise (marks a b c) net → new ≡ counters (record { event = event; answer = answer } ∷ history)
second event answer history a b c net new adds n e =
    let silent : HistoryEntry = with_answer event Silent in
    e ∙ ap (raise (marks a b c)) n ∙ ap (raise (marks a b c)) (counters_more silent history)
    ∙ raise_raise (marks a b c) (raised_at silent) (counters history) adds.apart
    ∙ ap (λ (bs : List Bool). raise bs (counters history)) adds.both
    ∙ sym (counters_more (with_answer event answer) history)

-- the next identification
pub next_ident : (counts : Counts) (event : Event) (again : Bool) (history : List HistoryEntry)
    → CountsRepresent counts (seen event history) → (counts.ident + 1) % 65536 ≡ ident_of (with_answer event (Spoke again) ∷ history)
next_ident counts event again history h = ap (λ (n : ℕ). (n + 1) % 65536) h.ident
    ∙ mod-add-mod (times (λ p. list_any (λ n. n == 15) (raised_by_answer p.answer)) history) 65536 1

-- what was sent was counted
pub sent_counted : (counts : Counts) (event : Event) (again : Bool) (history : List HistoryEntry) (net : List ℕ)
    → CountsRepresent counts (seen event history) → net ≡ counters (with_answer event (Spoke again) ∷ history) →
    CountsRepresent (record { net = net; ticks = counts.ticks; ident = (counts.ident + 1) % 65536 }) (with_answer event (Spoke again) ∷ history)
sent_counted counts event again history net h e = record { net = e; ticks = h.ticks; ident = next_ident counts event again history h }
