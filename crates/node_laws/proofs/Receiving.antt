-- What any receiver of an incarnation has is a prefix of its page.
use Rattle.node_laws.proofs.Prelude.{option_map_or, ◌≡◌, ℕ, ◌+◌, ◌<◌, ◌≤◌, Bool, true, false, inl, inr, List, [], ◌∷◌, length, refl, sym}
use Rattle.node_laws.proofs.Prelude.{ap, ◌∙◌, arith, Option, Some, None, slice_get, eqb, wrap, PlainSegment, has_fin, AppSpec, IsPrefixOf}
use Rattle.node_laws.proofs.Prelude.{Pages, choose, eqb-eq, same_place, wrap_wrap, prefix_length, Exchange, sent_at, Account, IsAtOffset}
use Rattle.node_laws.proofs.Prelude.{IsPrefixOfPage, AccountHolds, TextConforms, NumbersGiveOffsets, OutputModel, Paged, Interactive, Free}
use Rattle.node_laws.proofs.Prelude.{IsPagedAt, FollowsModelAt, CarriesByte, IsReceived, EndsAfter, IsSelection, PlainestReceives, receives}
use Rattle.node_laws.proofs.Prelude.{takes_next}
use Rattle.node_laws.proofs.Texts.{all_of_it, element, get_append, get_inside, get_slice, most_or_more, prefix_by}
use Rattle.node_laws.proofs.Texts.InBoth.{in_first, in_second}
use Rattle.node_laws.proofs.FromInvariant.{HasEnded, Kept, sent_text_in}

-- the plainest receiver puts its text together from what was sent
next_received : (iss : ℕ) (incarnation : List Exchange) (got : List ℕ) (place : ℕ) (s : PlainSegment) → sent_at incarnation place ≡ Some s
    → IsReceived iss incarnation got → IsReceived iss incarnation (takes_next iss got s)
next_received iss incarnation got place s e h =
    choose (λ l. IsReceived iss incarnation l) (eqb s.seq (wrap (iss + 1 + length got))) _ _
    (λ q at b z. elim (get_append got s.text at b z) [
      | in_first y ↦ h at b y
      | in_second j i y ↦ record {
        place = place;
        segment = s;
        output = e;
        from = length got;
        seq = eqb-eq s.seq (wrap (iss + 1 + length got)) q;
        within = j;
        sum = i;
        is = y;
      }
    ])
    (λ q. h)

sent_received : (iss : ℕ) (incarnation : List Exchange) (got : List ℕ) (place : ℕ) → IsReceived iss incarnation got
    → (output : Option PlainSegment) → sent_at incarnation place ≡ output
    → IsReceived iss incarnation (option_map_or (λ s. takes_next iss got s) output got)
sent_received iss incarnation got place h None e = h
sent_received iss incarnation got place h (Some s) e = next_received iss incarnation got place s e h

receives_received : (iss : ℕ) (incarnation : List Exchange) (places got : List ℕ) → IsReceived iss incarnation got
    → IsReceived iss incarnation (receives iss incarnation places got)
receives_received iss incarnation [] got h = h
receives_received iss incarnation (place ∷ places) got h =
    receives_received iss incarnation places (option_map_or (λ s. takes_next iss got s) (sent_at incarnation place) got)
    (sent_received iss incarnation got place h (sent_at incarnation place) refl)

pub plainest_receives : PlainestReceives
plainest_receives iss incarnation places = receives_received iss incarnation places [] (λ at b z. absurd (cc))

-- the same data without the FIN counted
without_fin : (irs : ℕ) (incarnation : List Exchange) (selected : List ℕ) (ended : Bool) → IsSelection irs incarnation selected ended
    → IsSelection irs incarnation selected false
without_fin irs [] selected ended h = (h.0, refl)
without_fin irs (x ∷ older) selected ended h = elim h [
  | inl g ↦ inl (without_fin irs older selected ended g)
  | inr t ↦ inr record {
    segment = t.segment;
    received = t.received;
    earlier = t.earlier;
    before = t.before;
    seq = t.seq;
    joined = t.joined;
    fin = λ e. absurd (cc);
  }
]

module _ (model : OutputModel) (incarnation : List Exchange) (k : Kept model incarnation) where
  module _ (short : length k.account.stream < 1073741824) where
    abbrev text : List ℕ
    text = k.account.stream

    byte_is : (at b : ℕ) → at ≤ 1073741824 → CarriesByte k.account.iss incarnation at b → (at < length text) × (slice_get text at ≡ Some b)
    byte_is at b low c =
        let w = sent_text_in incarnation c.place c.segment c.output in
        let inside : c.within < length c.segment.text = get_inside c.segment.text b c.within c.is in
        let x : IsAtOffset k.account.iss text c.segment = (k.says c.place w.exchange c.segment w.there w.output).bytes (omega (arith, inside)) in
        let fits : x.at + length c.segment.text ≤ length text = x.slice.fits in
        let e : c.from ≡ x.at = same_place (k.account.iss + 1) c.from x.at (let q = c.sum in omega (arith, q, low))
        (omega (arith, fits, short)) (sym c.seq ∙ x.seq) in (
          (let q = c.sum in omega (arith, q, e, inside, fits)),
          ap (slice_get text) (let q = c.sum in let r : at ≡ x.at + c.within = omega (arith, q, e) in r) ∙ get_slice text c.segment.text
              x.at c.within b x.slice.same c.is,
        )

    few : (got : List ℕ) → IsReceived k.account.iss incarnation got → length got ≤ 1073741824
    few got r = elim (most_or_more (length got) 1073741824) [
      | inl h ↦ h
      | inr h ↦ absurd (let g = element got 1073741824 h in let z = (byte_is 1073741824 g.0 (omega arith) (r 1073741824 g.0 g.1)).0 in omega (arith, z, short))
    ]

    is_prefix : (got : List ℕ) → IsReceived k.account.iss incarnation got → IsPrefixOf got text
    is_prefix got r = prefix_by got text (λ i b h. (let n = few got r in let q : i < length got = get_inside got b i h in
        (byte_is i b (omega (arith, n, q)) (r i b h)).1))

    is_all : (got : List ℕ) → IsReceived k.account.iss incarnation got → EndsAfter k.account.iss incarnation (length got) → got ≡ text
    is_all got r e =
        let w = sent_text_in incarnation e.place e.segment e.output in
        let x = (k.says e.place w.exchange e.segment w.there w.output).fin e.fin in
        let h : IsPrefixOf got text = is_prefix got r in
        let le : length got ≤ length text = prefix_length got text h in
        let none : length e.segment.text ≡ 0 = ap length x.0 in
        let seq : wrap (e.segment.seq + length e.segment.text) ≡ wrap (k.account.iss + 1 + length text) =
        ap (λ n. wrap (e.segment.seq + n)) none ∙ ap (λ n. wrap (n + 0)) x.1 ∙ wrap_wrap (k.account.iss + 1 + length text) 0
        ∙ (let z : k.account.iss + 1 + length text + 0 ≡ k.account.iss + 1 + length text = omega arith in ap wrap z) in
        let q : length got ≡ length text = same_place (k.account.iss + 1) (length got) (length text) (omega (arith, le, short))
        (omega (arith, short)) (sym e.seq ∙ seq) in
        all_of_it got text h q

    numbers_report : NumbersGiveOffsets incarnation k.account
    numbers_report = record {
      same = λ i j s t l h g a b e. (let w = sent_text_in incarnation i s h in let v = sent_text_in incarnation j t g in
          k.same short i j w.exchange v.exchange s t l w.there v.there w.output v.output a b e);
      prefix = is_prefix;
      all = is_all;
    }

  -- what is shown exchange by exchange
  pub keeps_account : AccountHolds incarnation k.account
  keeps_account = record {
    begins = k.begins;
    selection = without_fin k.account.irs incarnation k.account.input k.ended k.taken;
    in_range = k.in_range;
    carried = k.sent;
    slices = λ i s h. (let w = sent_text_in incarnation i s h in k.says i w.exchange s w.there w.output);
    within_mss = λ i s h. (let w = sent_text_in incarnation i s h in k.short i w.exchange s w.there w.output);
    acknowledges = λ i s h r. (let w = sent_text_in incarnation i s h in k.acknowledges i w.exchange s w.there w.output r);
    stop_and_wait = λ i j s t l h g a b e. (let w = sent_text_in incarnation i s h in let v = sent_text_in incarnation j t g in
        k.one i j w.exchange v.exchange s t l w.there v.there w.output v.output a b e);
  }

ended_in : (incarnation : List Exchange) (k : ℕ) (s : PlainSegment) → sent_at incarnation k ≡ Some s → has_fin s.flags ≡ true → HasEnded incarnation
ended_in incarnation k s h f = (let w = sent_text_in incarnation k s h in
    record { place = k; exchange = w.exchange; segment = s; there = w.there; output = w.output; fin = f })

of_page : (pages : Pages) (delivered : List ℕ) (incarnation : List Exchange) (a : Account) → IsPrefixOf a.stream (pages.page delivered a.snapshots)
    → (HasEnded incarnation → (a.stream ≡ pages.page delivered a.snapshots) × (pages.complete delivered a.snapshots ≡ true))
    → IsPrefixOfPage pages delivered incarnation a
of_page pages delivered incarnation a prefix ends = record { prefix = prefix; ends = λ i s h f. ends (ended_in incarnation i s h f) }

-- and what any receiver has
pub keeps_text : (m : AppSpec) (port : ℕ) (model : OutputModel) → FollowsModelAt m port model
    → (incarnation : List Exchange) (k : Kept model incarnation) → TextConforms model incarnation k.account
keeps_text m port Free laws incarnation k = λ short. numbers_report Free incarnation k short
keeps_text m port (Interactive sessions) laws incarnation k = (
  (k.of_page.0, k.of_page.1, of_page sessions k.of_page.0 incarnation k.account k.of_page.2.0 k.of_page.2.1),
  λ short. numbers_report (Interactive sessions) incarnation k short,
)
keeps_text m port (Paged pages) laws incarnation k =
    let l : IsPagedAt m port pages = laws in
    let a : Account = k.account in
    let prefix : IsPrefixOf a.stream (pages.page a.input a.snapshots) = k.of_page.0 in
    let short : length a.stream < 1073741824 = omega (
      arith,
      l.short a.input a.snapshots k.in_range,
      prefix_length a.stream (pages.page a.input a.snapshots) prefix,
    ) in
    (of_page pages a.input incarnation a prefix k.of_page.1, numbers_report (Paged pages) incarnation k short)
