-- What is known of an application's state on a connection, by the pages that it has at its port, and of the text that was sent.
use Rattle.node_laws.proofs.Prelude.{◌≡◌, ℕ, ◌+◌, ◌≤◌, ◌⊎◌, true, false, List, [], ◌∷◌, ◌++◌, length, take, drop, refl, sym, ap, ◌∙◌, subst}
use Rattle.node_laws.proofs.Prelude.{arith, inl, inr, length-take, append_assoc, take-append-le, take-append-drop, IsPrefixOf, Pages}
use Rattle.node_laws.proofs.Prelude.{MayWant, AppState, Snapshot, AppSpec, Now, Close, delivers_text, IsSlice, IsSteady, IsPart}
use Rattle.node_laws.proofs.Prelude.{append_nothing, cut_part, cut_length, prefix_part, prefix_refl, OutputModel, Paged, Interactive, Free}
use Rattle.node_laws.proofs.Prelude.{AcceptsPrefix, IsPagedAt, FollowsPagesAt, LeavesDelivered, FollowsModelAt}

-- ---- prefixes of texts

pub prefix_trans : (a b c : List ℕ) → IsPrefixOf a b → IsPrefixOf b c → IsPrefixOf a c
prefix_trans a b c h g = record { rest = h.rest ++ g.rest; joined = sym (append_assoc a h.rest g.rest) ∙ ap (λ l. l ++ g.rest) h.joined ∙ g.joined }

pub equal_prefix : (p q : List ℕ) (n : ℕ) → IsPrefixOf p q → n ≤ length p → take n q ≡ take n p
equal_prefix p q n h l = ap (λ x. take n x) (sym h.joined) ∙ take-append-le n p h.rest l

pub prefix_of : (n : ℕ) (xs : List ℕ) → IsPrefixOf (take n xs) xs
prefix_of n xs = record { rest = drop n xs; joined = take-append-drop n xs }

pub prefix_size : (n : ℕ) (xs : List ℕ) → n ≤ length xs → length (take n xs) ≡ n
prefix_size n xs h = simp length-take (omega arith)

pub prefix_on : (xs ys more : List ℕ) → IsPrefixOf xs ys → IsPrefixOf xs (ys ++ more)
prefix_on xs ys more h = record { rest = h.rest ++ more; joined = sym (append_assoc xs h.rest more) ∙ ap (λ z. z ++ more) h.joined }

-- what follows a prefix is a slice of the longer one
pub slice_prefix : (at n : ℕ) (xs : List ℕ) → at + n ≤ length xs → IsSlice (take (at + n) xs) (take n (drop at xs)) at
slice_prefix at n xs h =
    let prefix : List ℕ = take (at + n) xs in
    let l : at + n ≤ length prefix = omega (arith, prefix_size (at + n) xs h) in
    let p : IsPart prefix (take n (drop at prefix)) at = cut_part prefix at n l in
    let q : IsPart xs (take n (drop at prefix)) at = prefix_part prefix xs (take n (drop at prefix)) at (prefix_of (at + n) xs) p in
    let same : take n (drop at prefix) ≡ take n (drop at xs) = q.same ∙ ap (λ k. take k (drop at xs)) (cut_length prefix at n l) in
    let r : IsPart prefix (take n (drop at xs)) at = subst (λ z. IsPart prefix z at) same p in
    record { fits = r.fits; same = r.same }

-- ---- of a page

-- the text is the page of what was delivered and captured, which is whole
abbrev IsEndOf : Pages → List ℕ → List Snapshot → List ℕ → Type 0
IsEndOf pages delivered k sent = (sent ≡ pages.page delivered k) × (pages.complete delivered k ≡ true)

-- it is a prefix of it, and if E holds it is the page, which is whole
abbrev IsTextOf : Pages → Type 0 → List ℕ → List Snapshot → List ℕ → Type 0
IsTextOf pages E delivered k sent = IsPrefixOf sent (pages.page delivered k) × (E → IsEndOf pages delivered k sent)

abbrev pub IsEnd : OutputModel → List ℕ → List Snapshot → List ℕ → Type 0
IsEnd (Paged pages) text k sent = IsEndOf pages text k sent
IsEnd (Interactive sessions) text k sent = (delivered : List ℕ) × IsPrefixOf delivered text × IsEndOf sessions delivered k sent
IsEnd Free text k sent = Unit {0}

abbrev pub IsReported : OutputModel → Type 0 → List ℕ → List Snapshot → List ℕ → Type 0
IsReported (Paged pages) E text k sent = IsTextOf pages E text k sent
IsReported (Interactive sessions) E text k sent = (delivered : List ℕ) × IsPrefixOf delivered text × IsTextOf sessions E delivered k sent
IsReported Free E text k sent = Unit {0}

-- nothing was sent
pub reported_starts : (model : OutputModel) (E : Type 0) → (E → ⊥) → IsReported model E [] [] []
reported_starts (Paged pages) E none = (record { rest = pages.page [] []; joined = refl }, λ e. absurd (none e))
reported_starts (Interactive sessions) E none = ([], prefix_refl [], (record { rest = sessions.page [] []; joined = refl }, λ e. absurd (none e)))
reported_starts Free E none = tt

pub reported_where : (model : OutputModel) (E F : Type 0) → (F → E) → (text : List ℕ) (k : List Snapshot) (sent : List ℕ)
    → IsReported model E text k sent → IsReported model F text k sent
reported_where (Paged pages) E F to text k sent h = (h.0, λ f. h.1 (to f))
reported_where (Interactive sessions) E F to text k sent h = (h.0, h.1, (h.2.0, λ f. h.2.1 (to f)))
reported_where Free E F to text k sent h = tt

all_prefix : (xs ys : List ℕ) → xs ≡ ys → IsPrefixOf xs ys
all_prefix xs ys e = subst (λ z. IsPrefixOf xs z) e (prefix_refl xs)

-- the end of the page gives both
pub reported_end : (model : OutputModel) (E : Type 0) (text : List ℕ) (k : List Snapshot) (sent : List ℕ) → IsEnd model text k sent
    → IsReported model E text k sent
reported_end (Paged pages) E text k sent h = (all_prefix sent (pages.page text k) h.0, λ e. h)
reported_end (Interactive sessions) E text k sent h = (h.0, h.1, (all_prefix sent (sessions.page h.0 k) h.2.0, λ e. h.2))
reported_end Free E text k sent h = tt

module _ (m : AppSpec) (port : ℕ) where
  -- of the pages of a port
  module _ (pages : Pages) (l : FollowsPagesAt m port pages) where
    end_of_on : (delivered more : List ℕ) (k later : List Snapshot) (sent : List ℕ) → IsEndOf pages delivered k sent
        → IsEndOf pages (delivered ++ more) (k ++ later) sent
    end_of_on delivered more k later sent h = (h.0 ∙ sym (l.stays delivered more k later h.1), l.stays_complete delivered more k later h.1)

    text_on : (E : Type 0) (delivered more : List ℕ) (k later : List Snapshot) (sent : List ℕ) → IsTextOf pages E delivered k sent
        → IsTextOf pages E (delivered ++ more) (k ++ later) sent
    text_on E delivered more k later sent h = (
      prefix_trans sent (pages.page delivered k) (pages.page (delivered ++ more) (k ++ later)) h.0 (l.grows delivered more k later),
      λ e. end_of_on delivered more k later sent (h.1 e),
    )

    -- what was delivered to a state of what was accepted: all, or a prefix if it is lost
    abbrev ReceivedOf : AppState → List ℕ → Type 0
    ReceivedOf p text = (l.here p ≡ true) × ((p.input ≡ text) ⊎ ((l.lost p ≡ true) × IsPrefixOf p.input text))

    received_prefix : (p : AppState) (text : List ℕ) → ReceivedOf p text → IsPrefixOf p.input text
    received_prefix p text h = elim (h.1) [ inl e ↦ all_prefix p.input text e | inr q ↦ q.1 ]

    received_new : (numbers : List ℕ) → ReceivedOf (m.connected numbers port).part []
    received_new numbers = (let x = l.connected numbers in (x.0, inl x.1))

    received_piece : (numbers : List ℕ) (p : AppState) (piece text : List ℕ) → ReceivedOf p text → ReceivedOf (m.newdata numbers p piece).part (text ++ piece)
    received_piece numbers p piece text h =
        let q : AppState = (m.newdata numbers p piece).part in
        let x : AcceptsPrefix l.here l.lost p q piece = l.newdata numbers p piece h.0 in (
          x.input.0,
          elim (h.1) [
            | inl e ↦ elim (x.all) [
              | inl none ↦ (let all : x.prefix ≡ piece = sym (append_nothing x.prefix) ∙ ap (λ z. x.prefix ++ z) (sym none) ∙ x.joined in
                  inl (x.input.1 ∙ ap (λ z. z ++ x.prefix) e ∙ ap (λ z. text ++ z) all))
              | inr lost ↦ inr (
                lost,
                record {
                  rest = x.rest;
                  joined = ap (λ z. z ++ x.rest) (x.input.1 ∙ ap (λ z. z ++ x.prefix) e) ∙ append_assoc text x.prefix x.rest ∙ ap (λ z. text ++ z) x.joined;
                },
              )
            ]
            | inr g ↦ (let n = x.no_more g.0 in
                let old : IsPrefixOf p.input text = g.1 in
                inr (
                  n.1,
                  record {
                    rest = old.rest ++ piece;
                    joined = ap (λ z. z ++ (old.rest ++ piece)) n.0
                        ∙ sym (append_assoc p.input old.rest piece) ∙ ap (λ z. z ++ piece) old.joined;
                  },
                ))
          ],
        )

    received_left : (p q : AppState) (text : List ℕ) → LeavesDelivered l.here l.lost p q → ReceivedOf p text → ReceivedOf q text
    received_left p q text x h = (
      x.0.0,
      elim (h.1) [
        | inl e ↦ inl (x.0.1 ∙ e)
        | inr g ↦ inr (x.1 ∙ g.0, subst (λ z. IsPrefixOf z text) (sym x.0.1) g.1)
      ],
    )

    text_sent_text : (E : Type 0) → (E → ⊥) → (p : AppState) (n : ℕ) → l.here p ≡ true → IsTextOf pages E p.input p.snapshots (take n (m.output p))
    text_sent_text E none p n h = (subst (λ z. IsPrefixOf (take n (m.output p)) z) (l.output p h) (prefix_of n (m.output p)), λ e. absurd (none e))

    -- it closes at the end of the page
    end_of_sent : (numbers : List ℕ) (p : AppState) → l.here p ≡ true → p.acked ≤ length (m.output p) → m.want numbers p ≡ Close
        → IsEndOf pages p.input p.snapshots (take p.acked (m.output p))
    end_of_sent numbers p h fits e =
        let w : MayWant pages p Close = l.closes numbers p h fits e in
        let page : List ℕ = pages.page p.input p.snapshots in (
          ap (λ z. take p.acked z) (l.output p h) ∙ ap (λ n. take n page) w.1 ∙ Rattle.std.proofs.Math.Seq.take-length page,
          w.0,
        )

  -- if every piece is delivered
  received_all : (pages : Pages) (l : IsPagedAt m port pages) (p : AppState) (text : List ℕ) → ReceivedOf pages l.follows p text → p.input ≡ text
  received_all pages l p text h = elim (h.1) [
    | inl e ↦ e
    | inr g ↦ absurd (let z : l.follows.lost p ≡ false = l.accepts_all p in let y : l.follows.lost p ≡ true = g.0 in cc)
  ]

  -- this was delivered to a state of this port, or for a session a prefix of it
  abbrev pub IsOpen : (model : OutputModel) → FollowsModelAt m port model → AppState → List ℕ → Type 0
  IsOpen (Paged pages) laws p text = (let l : IsPagedAt m port pages = laws in ReceivedOf pages l.follows p text)
  IsOpen (Interactive sessions) laws p text = ReceivedOf sessions laws p text
  IsOpen Free laws p text = Unit {0}

  pub reported_on : (model : OutputModel) → FollowsModelAt m port model → (E : Type 0) (text more : List ℕ) (k later : List Snapshot)
      (sent : List ℕ) → IsReported model E text k sent → IsReported model E (text ++ more) (k ++ later) sent
  reported_on (Paged pages) laws E text more k later sent h = (let l : IsPagedAt m port pages = laws in text_on pages l.follows E text more k later sent h)
  reported_on (Interactive sessions) laws E text more k later sent h =
      (let g : IsTextOf sessions E (h.0 ++ []) (k ++ later) sent = text_on sessions laws E h.0 [] k later sent h.2 in
      (h.0 ++ [], subst (λ z. IsPrefixOf z (text ++ more)) (sym (append_nothing h.0)) (prefix_on h.0 text more h.1), g))
  reported_on Free laws E text more k later sent h = tt

  end_on : (model : OutputModel) → FollowsModelAt m port model → (text more : List ℕ) (k later : List Snapshot) (sent : List ℕ)
      → IsEnd model text k sent → IsEnd model (text ++ more) (k ++ later) sent
  end_on (Paged pages) laws text more k later sent h = (let l : IsPagedAt m port pages = laws in end_of_on pages l.follows text more k later sent h)
  end_on (Interactive sessions) laws text more k later sent h =
      (let g : IsEndOf sessions (h.0 ++ []) (k ++ later) sent = end_of_on sessions laws h.0 [] k later sent h.2 in
      (h.0 ++ [], subst (λ z. IsPrefixOf z (text ++ more)) (sym (append_nothing h.0)) (prefix_on h.0 text more h.1), g))
  end_on Free laws text more k later sent h = tt

  -- with no capture more
  pub end_more : (model : OutputModel) → FollowsModelAt m port model → (text more : List ℕ) (k : List Snapshot) (sent : List ℕ)
      → IsEnd model text k sent → IsEnd model (text ++ more) k sent
  end_more model laws text more k sent h =
      subst (λ z. IsEnd model (text ++ more) z sent) (append_nothing k) (end_on model laws text more k [] sent h)

  -- ---- what a call leaves

  pub open_new : (model : OutputModel) (laws : FollowsModelAt m port model) (numbers : List ℕ) → IsOpen model laws (m.connected numbers port).part []
  open_new (Paged pages) laws numbers = (let l : IsPagedAt m port pages = laws in received_new pages l.follows numbers)
  open_new (Interactive sessions) laws numbers = received_new sessions laws numbers
  open_new Free laws numbers = tt

  open_piece : (model : OutputModel) (laws : FollowsModelAt m port model) (numbers : List ℕ) (p : AppState) (piece text : List ℕ)
      → IsOpen model laws p text → IsOpen model laws (m.newdata numbers p piece).part (text ++ piece)
  open_piece (Paged pages) laws numbers p piece text h = (let l : IsPagedAt m port pages = laws in received_piece pages l.follows numbers p piece text h)
  open_piece (Interactive sessions) laws numbers p piece text h = received_piece sessions laws numbers p piece text h
  open_piece Free laws numbers p piece text h = tt

  pub open_received : (model : OutputModel) (laws : FollowsModelAt m port model) (numbers : List ℕ) (p : AppState) (piece text : List ℕ)
      → IsOpen model laws p text → IsOpen model laws (delivers_text m numbers p piece).part (text ++ piece)
  open_received model laws numbers p [] text h = subst (λ z. IsOpen model laws p z) (sym (append_nothing text)) h
  open_received model laws numbers p (x ∷ xs) text h = open_piece model laws numbers p (x ∷ xs) text h

  pub open_prepared : (model : OutputModel) (laws : FollowsModelAt m port model) (numbers : List ℕ) (p : AppState) (now : Now)
      (text : List ℕ) → IsOpen model laws p text → IsOpen model laws (m.prepare numbers p now) text
  open_prepared (Paged pages) laws numbers p now text h =
      (let l : IsPagedAt m port pages = laws in received_left pages l.follows p (m.prepare numbers p now) text (l.follows.prepare numbers p now h.0) h)
  open_prepared (Interactive sessions) laws numbers p now text h =
      (let l : FollowsPagesAt m port sessions = laws in received_left sessions l p (m.prepare numbers p now) text (l.prepare numbers p now h.0) h)
  open_prepared Free laws numbers p now text h = tt

  pub open_acked : (model : OutputModel) (laws : FollowsModelAt m port model) (numbers : List ℕ) (p : AppState) (n : ℕ) (text : List ℕ)
      → IsOpen model laws p text → IsOpen model laws (m.acked numbers p n).part text
  open_acked (Paged pages) laws numbers p n text h =
      (let l : IsPagedAt m port pages = laws in received_left pages l.follows p (m.acked numbers p n).part text (l.follows.acked numbers p n h.0) h)
  open_acked (Interactive sessions) laws numbers p n text h =
      (let l : FollowsPagesAt m port sessions = laws in received_left sessions l p (m.acked numbers p n).part text (l.acked numbers p n h.0) h)
  open_acked Free laws numbers p n text h = tt

  pub open_polled : (model : OutputModel) (laws : FollowsModelAt m port model) (numbers : List ℕ) (p : AppState) (text : List ℕ)
      → IsOpen model laws p text → IsOpen model laws (m.polled numbers p).part text
  open_polled (Paged pages) laws numbers p text h =
      (let l : IsPagedAt m port pages = laws in received_left pages l.follows p (m.polled numbers p).part text (l.follows.polled numbers p h.0) h)
  open_polled (Interactive sessions) laws numbers p text h =
      (let l : FollowsPagesAt m port sessions = laws in received_left sessions l p (m.polled numbers p).part text (l.polled numbers p h.0) h)
  open_polled Free laws numbers p text h = tt

  -- ---- what it sends

  pub reported_sent : (model : OutputModel) (laws : FollowsModelAt m port model) (E : Type 0) → (E → ⊥)
      → (p : AppState) (text : List ℕ) (n : ℕ) → IsOpen model laws p text → IsReported model E text p.snapshots (take n (m.output p))
  reported_sent (Paged pages) laws E none p text n h =
      (let l : IsPagedAt m port pages = laws in
      subst (λ z. IsTextOf pages E z p.snapshots (take n (m.output p))) (received_all pages l p text h) (text_sent_text pages l.follows E none p n h.0))
  reported_sent (Interactive sessions) laws E none p text n h = (p.input, received_prefix sessions laws p text h, text_sent_text sessions laws E none p n h.0)
  reported_sent Free laws E none p text n h = tt

  -- it closes at the end of the page
  pub end_sent : (model : OutputModel) (laws : FollowsModelAt m port model) (numbers : List ℕ) (p : AppState) (text : List ℕ)
      → IsOpen model laws p text → p.acked ≤ length (m.output p) → m.want numbers p ≡ Close → IsEnd model text p.snapshots (take p.acked (m.output p))
  end_sent (Paged pages) laws numbers p text h fits e =
      (let l : IsPagedAt m port pages = laws in
      subst (λ z. IsEndOf pages z p.snapshots (take p.acked (m.output p))) (received_all pages l p text h) (end_of_sent pages l.follows numbers p h.0 fits e))
  end_sent (Interactive sessions) laws numbers p text h fits e = (
    p.input,
    received_prefix sessions laws p text h,
    end_of_sent sessions laws numbers p h.0 fits e,
  )
  end_sent Free laws numbers p text h fits e = tt

  -- ---- what deliveries and captures do

  module _ (steady : IsSteady m) where
    pub record Received (p q : AppState) : Type 0 where
      pub snapshots : q.snapshots ≡ p.snapshots
      pub acked : q.acked ≡ p.acked
      pub grows : IsPrefixOf (m.output p) (m.output q)

    pub received_is : (numbers : List ℕ) (p : AppState) (piece : List ℕ) → Received p (delivers_text m numbers p piece).part
    received_is numbers p [] = record { snapshots = refl; acked = refl; grows = prefix_refl (m.output p) }
    received_is numbers p (x ∷ xs) =
        (let g = steady.lawful.newdata_grows numbers p (x ∷ xs) tt in
        record { snapshots = steady.newdata_snapshots numbers p (x ∷ xs); acked = g.offset; grows = g.text })

    pub record Prepared (p q : AppState) : Type 0 where
      pub more : List Snapshot
      pub snapshots : q.snapshots ≡ p.snapshots ++ more
      pub acked : q.acked ≡ p.acked
      pub grows : IsPrefixOf (m.output p) (m.output q)

    pub prepared_is : (numbers : List ℕ) (p : AppState) (now : Now) → Prepared p (m.prepare numbers p now)
    prepared_is numbers p now =
        let g = steady.lawful.prepare_grows numbers p now tt in
        elim (steady.prepare_snapshots numbers p now) [
          | inl e ↦ record { more = []; snapshots = e ∙ sym (append_nothing p.snapshots); acked = g.offset; grows = g.text }
          | inr e ↦ record { more = record { numbers = numbers; now = now } ∷ []; snapshots = e; acked = g.offset; grows = g.text }
        ]
