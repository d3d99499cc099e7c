-- An address that is reported is from a matching reply.
use Rattle.udp_resolver.proofs.Prelude.{◌≡◌, ℕ, zero, suc, Bool, true, false, cond, eqb, ltb, if◌then◌else◌, List, [], ◌∷◌, ◌++◌, length}
use Rattle.udp_resolver.proofs.Prelude.{drop, Option, None, Some, option_and_then, refl, sym, ap, ◌∙◌, append_assoc, arith, find, word_at}
use Rattle.udp_resolver.proofs.Prelude.{Addr, udp_data, answer_by_message, code_of, is_reply, question_end, Record, answer_by}
use Rattle.udp_resolver.proofs.Prelude.{answer_of_records, is_address, records, answer_to, way_back, Answer, Address, Code, Question}
use Rattle.udp_resolver.proofs.Prelude.{answer_among, fate_by, first_answer, before_silence, is_given_up, last_silence, LineEvent}
use Rattle.udp_resolver.proofs.Prelude.{MediumInput, Silence, AddressesAreFromReplies, Answered, option_or}

answer_of_fate : (a : Option Answer) (is_over : Bool) (answer : Answer) → fate_by a is_over ≡ Answered answer → a ≡ Some answer
answer_of_fate (Some a) is_over answer e = cc e
answer_of_fate None true answer e = absurd (cc e)
answer_of_fate None false answer e = absurd (cc e)

record Came_with (q : Question) (answer : Answer) (happened : List LineEvent) : Type 0 where
  datagram : List ℕ
  prefix : List LineEvent
  later : List LineEvent
  received : happened ≡ prefix ++ MediumInput datagram ∷ later
  output : answer_to q.asking q.text datagram ≡ Some answer

received_after : (q : Question) (answer : Answer) (first : LineEvent) (happened : List LineEvent) → Came_with q answer happened
    → Came_with q answer (first ∷ happened)
received_after q answer first happened c = record {
  datagram = c.datagram;
  prefix = first ∷ c.prefix;
  later = c.later;
  received = ap (λ l. first ∷ l) c.received;
  output = c.output;
}

first_or : (q : Question) (answer : Answer) (datagram : List ℕ) (later : List LineEvent) (o : Option Answer) → answer_to q.asking q.text datagram ≡ o
    → (first_answer q later ≡ Some answer → Came_with q answer later) → option_or o (first_answer q later) ≡ Some answer
    → Came_with q answer (MediumInput datagram ∷ later)
first_or q answer datagram later (Some a) is more e = record { datagram = datagram; prefix = []; later = later; received = refl; output = is ∙ e }
first_or q answer datagram later None is more e = received_after q answer (MediumInput datagram) later (more e)

first_came : (q : Question) (answer : Answer) (happened : List LineEvent) → first_answer q happened ≡ Some answer → Came_with q answer happened
first_came q answer [] e = absurd (cc e)
first_came q answer (MediumInput datagram ∷ later) e =
    first_or q answer datagram later (answer_to q.asking q.text datagram) refl (first_came q answer later) e
first_came q answer (Silence ∷ later) e = received_after q answer Silence later (first_came q answer later e)

-- what comes before a silence is a prefix
is_leading : (n : ℕ) (happened : List LineEvent) → (rest : List LineEvent) × (happened ≡ before_silence n happened ++ rest)
is_leading n [] = ([], refl)
is_leading n (MediumInput datagram ∷ later) = let p = is_leading n later in (p.0, ap (λ l. MediumInput datagram ∷ l) p.1)
is_leading zero (Silence ∷ later) = (Silence ∷ later, refl)
is_leading (suc zero) (Silence ∷ later) = (Silence ∷ later, refl)
is_leading (suc (suc n)) (Silence ∷ later) = let p = is_leading (suc n) later in (p.0, ap (λ l. Silence ∷ l) p.1)

record Found (list : List Record) (r : Record) : Type 0 where
  before : List Record
  after : List Record
  spelled : list ≡ before ++ r ∷ after
  of_address : is_address r ≡ true

found_by : (r first : Record) (rest : List Record) (b : Bool) → is_address first ≡ b → (find is_address rest ≡ Some r → Found rest r)
    → cond b (Some first) (find is_address rest) ≡ Some r → Found (first ∷ rest) r
found_by r first rest true is more e =
    let same : first ≡ r = cc e in
    record { before = []; after = rest; spelled = ap (λ x. x ∷ rest) same; of_address = ap is_address (sym same) ∙ is }
found_by r first rest false is more e =
    let f = more e in
    record { before = first ∷ f.before; after = f.after; spelled = ap (λ l. first ∷ l) f.spelled; of_address = f.of_address }

found : (r : Record) (list : List Record) → find is_address list ≡ Some r → Found list r
found r [] e = absurd (cc e)
found r (first ∷ rest) e = found_by r first rest (is_address first) refl (found r rest) e

record SentText (id : ℕ) (text message : List ℕ) (address : Addr) : Type 0 where
  matching : is_reply id text message ≡ true
  sound : code_of message ≡ 0
  r : Record
  is : find is_address (records (word_at message 6) (drop (question_end text) message)) ≡ Some r
  reported : address.0 ≡ r.content

zero_of : (n : ℕ) → eqb n 0 ≡ true → n ≡ 0
zero_of n e = grind arith

record Picked (address : Addr) (o : Option Record) : Type 0 where
  r : Record
  is : o ≡ Some r
  reported : address.0 ≡ r.content

picked : (address : Addr) (o : Option Record) (is_whole : Bool) → answer_by o is_whole ≡ Some (Address address) → Picked address o
picked address (Some r) is_whole e =
    let same : record { 0 = r.content } ≡ address = cc e in
    record { r = r; is = refl; reported = sym (ap (λ (a : Addr). a.0) same) }
picked address None true e = absurd (cc e)
picked address None false e = absurd (cc e)

sent_text_by : (id : ℕ) (text message : List ℕ) (address : Addr) (short reply sound : Bool) → is_reply id text message ≡ reply → eqb (code_of message) 0 ≡ sound
    → (if short then None else if reply then (if sound then answer_of_records (word_at message 6) (drop (question_end text) message) else
    Some (Code (code_of message))) else None) ≡ Some (Address address)
    → SentText id text message address
sent_text_by id text message address true reply sound is ok e = absurd (cc e)
sent_text_by id text message address false false sound is ok e = absurd (cc e)
sent_text_by id text message address false true false is ok e = absurd (cc e)
sent_text_by id text message address false true true is ok e =
    let n = word_at message 6 in
    let list = records n (drop (question_end text) message) in
    let p = picked address (find is_address list) (eqb (length list) n) e in
    record { matching = is; sound = zero_of (code_of message) ok; r = p.r; is = p.is; reported = p.reported }

record Carried (q : Question) (datagram : List ℕ) (address : Addr) : Type 0 where
  message : List ℕ
  carried : udp_data (way_back q.asking) datagram ≡ Some message
  output : SentText q.asking.id q.text message address

carried_by : (q : Question) (datagram : List ℕ) (address : Addr) (o : Option (List ℕ)) → udp_data (way_back q.asking) datagram ≡ o
    → option_and_then (answer_by_message q.asking.id q.text) o ≡ Some (Address address) → Carried q datagram address
carried_by q datagram address None is e = absurd (cc e)
carried_by q datagram address (Some message) is e = record {
  message = message;
  carried = is;
  output = sent_text_by q.asking.id q.text message address (ltb (length message) 12) (is_reply q.asking.id q.text message)
      (eqb (code_of message) 0) refl refl e;
}

carried : (q : Question) (datagram : List ℕ) (address : Addr) → answer_to q.asking q.text datagram ≡ Some (Address address) → Carried q datagram address
unfolding answer_to
carried q datagram address e = carried_by q datagram address (udp_data (way_back q.asking) datagram) refl e

pub from_replies : AddressesAreFromReplies
from_replies q address happened e =
    let answer = answer_of_fate (answer_among happened q) (is_given_up happened) (Address address) e in
    let c = first_came q (Address address) (before_silence last_silence happened) answer in
    let f = is_leading last_silence happened in
    let k = carried q c.datagram address c.output in
    let r = found k.output.r (records (word_at k.message 6) (drop (question_end q.text) k.message)) k.output.is in
    record {
      datagram = c.datagram;
      message = k.message;
      record_ = k.output.r;
      prefix = c.prefix;
      later = c.later ++ f.0;
      received = f.1 ∙ ap (λ l. l ++ f.0) c.received ∙ append_assoc c.prefix (MediumInput c.datagram ∷ c.later) f.0;
      carried = k.carried;
      matching = k.output.matching;
      sound = k.output.sound;
      before = r.before;
      after = r.after;
      spelled = r.spelled;
      of_address = r.of_address;
      reported = k.output.reported;
    }
