-- The guarantee alone excludes wrong incarnations.
use Rattle.node_laws.proofs.Prelude.{◌≡◌, ◌+◌, ◌<◌, ◌≤◌, ◌⊎◌, ℕ, zero, suc, Bool, true, false, List, [], ◌∷◌, ◌++◌, length, take, refl, sym}
use Rattle.node_laws.proofs.Prelude.{ap, ◌∙◌, subst, arith, inl, inr, Some, if◌then◌else◌, wrap, PlainSegment, hello, fixed_text}
use Rattle.node_laws.proofs.Prelude.{some_received, EchoAsked, only_some, prefix_length, prefix_refl, IsPrefixOf, OutputModel, Paged}
use Rattle.node_laws.proofs.Prelude.{Interactive, Free, CarriesByte, IsReceived, received_at, sent_at, IsEchoed, Account, Opening}
use Rattle.node_laws.proofs.Prelude.{IsSelection, AccountHolds, IncarnationConforms, NumbersGiveOffsets, IsAcknowledged, Pages, Exchange}
use Rattle.node_laws.proofs.Prelude.{IsPrefixOfPage, TextConforms, SpeaksBy, hello_pages, mirror_pages, opened, segment, cut_again}
use Rattle.node_laws.proofs.Prelude.{ends_early, repeats_byte, acknowledges_refused, two_under_way, reports_another, echoes_before}
use Rattle.node_laws.proofs.Prelude.{WrongIncarnationsFall}
use Rattle.node_laws.proofs.Texts.{element, get_inside, most_or_more}

-- where the life begins
record Numbers (a : Account) : Type 0 where
  iss : wrap a.iss ≡ 0
  irs : a.irs ≡ 1000

numbers_of : (a : Account) → Opening opened a → Numbers a
numbers_of a h = record {
  iss = (let q : 0 ≡ wrap a.iss = only_some (λ s. s.seq ≡ wrap a.iss → 0 ≡ wrap a.iss) (segment 0 1001 18 []) h.answer h.output (λ e. e) h.seq in sym q);
  irs = (let q : 1000 ≡ a.irs = only_some (λ s. s.seq ≡ a.irs → 1000 ≡ a.irs) (segment 1000 0 2 []) h.syn h.received (λ e. e) h.number in sym q);
}

text_short : (delivered : List ℕ) → length (fixed_text delivered) ≤ 6
text_short [] = omega arith
text_short (x ∷ xs) = omega arith

whole_length : (delivered : List ℕ) → some_received delivered ≡ true → length (fixed_text delivered) ≡ 6
whole_length [] h = absurd (cc)
whole_length (x ∷ xs) h = refl

-- what is sent there is at most the six bytes at one number
sent_text_short : (place : ℕ) (s : PlainSegment) → sent_at cut_again place ≡ Some s → ((s.seq ≡ 1) × (length s.text ≤ 6)) ⊎ (s.text ≡ [])
sent_text_short zero s h = inl (only_some (λ z. (z.seq ≡ 1) × (length z.text ≤ 6)) (segment 1 1002 24 (take 5 hello)) s h (refl, omega arith))
sent_text_short (suc zero) s h = inl (only_some (λ z. (z.seq ≡ 1) × (length z.text ≤ 6)) (segment 1 1002 24 hello) s h (refl, omega arith))
sent_text_short (suc (suc zero)) s h = inr (only_some (λ z. z.text ≡ []) (segment 0 1001 18 []) s h refl)
sent_text_short (suc (suc (suc place))) s h = absurd (cc)

none_there : (iss byte : ℕ) → wrap iss ≡ 0 → CarriesByte iss cut_again 1073741823 byte → ⊥
none_there iss byte z c =
    let inside : c.within < length c.segment.text = get_inside c.segment.text byte c.within c.is in
    elim (sent_text_short c.place c.segment c.output) [
      | inl q ↦ (let seq : 1 ≡ wrap (iss + 1 + c.from) = sym q.0 ∙ c.seq in let sum = c.sum in omega (arith, q.1, inside, z, seq, sum))
      | inr q ↦ (let none : length c.segment.text ≡ 0 = ap length q in omega (arith, none, inside))
    ]

sent_short : (iss : ℕ) (sent : List ℕ) → wrap iss ≡ 0 → IsReceived iss cut_again sent → length sent < 1073741824
sent_short iss sent z h = elim (most_or_more (length sent) 1073741823) [
  | inl l ↦ omega (arith, l)
  | inr l ↦ absurd (let g = element sent 1073741823 l in none_there iss g.0 z (h 1073741823 g.0 g.1))
]

few_sent : (model : OutputModel) (k : IncarnationConforms model cut_again) → length (k.account 0).stream < 1073741824
few_sent model k =
    let g : AccountHolds cut_again (k.account 0) = k.holds 0 (omega arith) in
    sent_short (k.account 0).iss (k.account 0).stream (numbers_of (k.account 0) g.begins).iss g.carried

numbers_report : (model : OutputModel) (k : IncarnationConforms model cut_again) → NumbersGiveOffsets cut_again (k.account 0)
numbers_report Free k = k.conforms 0 (omega arith) (few_sent Free k)
numbers_report (Interactive sessions) k = (k.conforms 0 (omega arith)).1 (few_sent (Interactive sessions) k)
numbers_report (Paged pages) k = (k.conforms 0 (omega arith)).1

cut_resend : (model : OutputModel) → IncarnationConforms model cut_again → ⊥
cut_resend model k =
    let z = (numbers_report model k).same 0 1 _ _ (omega arith) refl refl refl refl refl in
    let y : 6 ≡ 5 = ap length z.text in
    omega (arith, y)

-- what was sent is of a page of something that was taken
of_some_page : (pages : Pages) (model : OutputModel) (incarnation : List Exchange) (a : Account) → SpeaksBy pages model → TextConforms model incarnation a
    → (delivered : List ℕ) × IsPrefixOf delivered a.input × IsPrefixOfPage pages delivered incarnation a
of_some_page pages model incarnation a (inl e) h = (let g : TextConforms (Paged pages) incarnation a = subst
    (λ z. TextConforms z incarnation a) e h in (a.input, prefix_refl a.input, g.0))
of_some_page pages model incarnation a (inr e) h = (let g : TextConforms (Interactive pages) incarnation a = subst
    (λ z. TextConforms z incarnation a) e h in g.0)

early_fin : (model : OutputModel) → SpeaksBy hello_pages model → IncarnationConforms model ends_early → ⊥
early_fin model by k =
    let g : AccountHolds ends_early (k.account 0) = k.holds 0 (omega arith) in
    let n = numbers_of (k.account 0) g.begins in
    let f = (g.slices 0 _ refl).fin refl in
    let h = of_some_page hello_pages model ends_early (k.account 0) by (k.conforms 0 (omega arith)) in
    let e = h.2.ends 0 _ refl refl in
    let l : length (k.account 0).stream ≡ 6 = ap length e.0 ∙ whole_length h.0 e.1 in
    let a : wrap (k.account 0).iss ≡ 0 = n.iss in
    let q : 4 ≡ wrap ((k.account 0).iss + 1 + length (k.account 0).stream) = f.1 in
    omega (arith, a, l, q)

repeated_byte : (model : OutputModel) → SpeaksBy hello_pages model → IncarnationConforms model repeats_byte → ⊥
repeated_byte model by k =
    let g : AccountHolds repeats_byte (k.account 0) = k.holds 0 (omega arith) in
    let t = (g.slices 0 _ refl).bytes (omega arith) in
    let h = of_some_page hello_pages model repeats_byte (k.account 0) by (k.conforms 0 (omega arith)) in
    let n = prefix_length (k.account 0).stream (fixed_text h.0) h.2.prefix in
    let l = text_short h.0 in
    let f : t.at + 7 ≤ length (k.account 0).stream = t.slice.fits in
    omega (arith, l, n, f)

second_segment : (model : OutputModel) → IncarnationConforms model two_under_way → ⊥
second_segment model k =
    let g : AccountHolds two_under_way (k.account 0) = k.holds 0 (omega arith) in
    none_came (g.stop_and_wait 0 1 _ _ (omega arith) refl refl refl refl (λ e. (let z : 4 ≡ 1 = e in omega (arith, z))))
  where
    none_at : (s : PlainSegment) (place : ℕ) → place ≡ 0 → received_at two_under_way place ≡ Some s → ⊥
    none_at s zero e h = absurd (cc)
    none_at s (suc place) e h = absurd (omega (arith, e))

    none_came : IsAcknowledged two_under_way 0 1 (segment 1 1002 24 (take 3 hello)) → ⊥
    none_came a = none_at a.segment a.place (let l = a.to in omega (arith, l)) a.received

-- of the opening nothing is taken
opening_taken : (n : ℕ) (text : List ℕ) (ended : Bool) → n ≡ 1000 → IsSelection n (opened ∷ []) text ended → (text ≡ []) × (ended ≡ false)
opening_taken n text ended e h = elim h [
  | inl g ↦ g
  | inr t ↦ absurd (let a : 1000 ≡ wrap (n + 1 + length t.earlier) = only_some (λ s. s.seq ≡ wrap (n + 1 + length t.earlier)
      → 1000 ≡ wrap (n + 1 + length t.earlier)) (segment 1000 0 2 []) t.segment t.received (λ q. q) t.seq in
      let b : length t.earlier ≡ 0 = ap length t.before.0 in omega (arith, a, b, e))
]

-- nor of what came at another number
refused_taken : (n : ℕ) (text : List ℕ) (ended : Bool) → n ≡ 1000 → IsSelection n acknowledges_refused text ended → (text ≡ []) × (ended ≡ false)
refused_taken n text ended e h = elim h [
  | inl g ↦ opening_taken n text ended e g
  | inr t ↦ absurd (let a : 1005 ≡ wrap (n + 1 + length t.earlier) = only_some (λ s. s.seq ≡ wrap (n + 1 + length t.earlier)
      → 1005 ≡ wrap (n + 1 + length t.earlier)) (segment 1005 1 16 (120 ∷ [])) t.segment t.received (λ q. q) t.seq in
      let b : length t.earlier ≡ 0 = ap length (opening_taken n t.earlier false e t.before).0 in omega (arith, a, b, e))
]

refused : (model : OutputModel) → IncarnationConforms model acknowledges_refused → ⊥
refused model k =
    let g : AccountHolds acknowledges_refused (k.account 0) = k.holds 0 (omega arith) in
    let n = numbers_of (k.account 0) g.begins in
    let p : (k.account 0).irs ≡ 1000 = n.irs in
    let a = g.acknowledges 0 _ refl refl in
    let t = refused_taken (k.account 0).irs a.selected a.counts_fin p a.is in
    let l : length a.selected ≡ 0 = ap length t.0 in
    let q : 1006 ≡ wrap ((k.account 0).irs + 1 + length a.selected + 0) = a.ack
    ∙ ap (λ b. wrap ((k.account 0).irs + 1 + length a.selected + (if b then 1 else 0))) t.1 in
    omega (arith, l, p, q)

-- a segment without text adds none
nothing_taken : (n : ℕ) (text : List ℕ) (ended : Bool) → n ≡ 1000 → IsSelection n reports_another text ended → text ≡ []
nothing_taken n text ended e h = elim h [
  | inl g ↦ (opening_taken n text ended e g).0
  | inr t ↦ t.joined ∙ ap (λ l. l ++ t.segment.text) (opening_taken n t.earlier false e t.before).0 ∙ only_some (λ s. s.text ≡ [])
      (segment 1001 1 16 []) t.segment t.received refl
]

other_page : (model : OutputModel) → SpeaksBy mirror_pages model → IncarnationConforms model reports_another → ⊥
other_page model by k =
    let g : AccountHolds reports_another (k.account 0) = k.holds 0 (omega arith) in
    let n = numbers_of (k.account 0) g.begins in
    let t = (g.slices 0 _ refl).bytes (omega arith) in
    let h = of_some_page mirror_pages model reports_another (k.account 0) by (k.conforms 0 (omega arith)) in
    let m = prefix_length (k.account 0).stream h.0 h.2.prefix in
    let o = prefix_length h.0 (k.account 0).input h.1 in
    let l : length (k.account 0).input ≡ 0 = ap length (nothing_taken (k.account 0).irs (k.account 0).input false n.irs g.selection) in
    let f : t.at + 1 ≤ length (k.account 0).stream = t.slice.fits in
    omega (arith, l, m, o, f)

echo_before : IsEchoed echoes_before → ⊥
echo_before h = let z : EchoAsked (2 ∷ []) ≡ EchoAsked (1 ∷ []) = h (1 ∷ []) refl in cc

pub wrong_incarnations_fall : WrongIncarnationsFall
wrong_incarnations_fall = record {
  cut_resend = cut_resend;
  early_fin = early_fin;
  repeated_byte = repeated_byte;
  refused = refused;
  second_segment = second_segment;
  other_page = other_page;
  echo_before = echo_before;
}
