-- The output model of an application for one client, as far as the walk of a clean client needs it: its output by what was
-- received and captured, and what each call does to that. An application whose text is a page has it, and so has one that may
-- give a connection up in the middle of a piece.
use Rattle.link_world.proofs.Prelude.{All, ◌≡◌, ℕ, ◌+◌, ◌<◌, ◌≤◌, Bool, true, false, ◌⊎◌, inl, inr, List, [], ◌∷◌, ◌++◌, length, drop, refl}
use Rattle.link_world.proofs.Prelude.{sym, ap, ◌∙◌, subst, arith, length-drop, AppState, Snapshot, AppSpec, IsPrefixOf, CanSend, Pages}
use Rattle.link_world.proofs.Prelude.{IsPaged, IsSnapshot, MayWant, Now, Want, Nothing, Send, Close, Abort, delivers_text, IsSteady}
use Rattle.link_world.proofs.Prelude.{steady_of, append_nothing}

-- The output at some ports: the text of what was received and captured, and whether nothing stopped it; which states are
-- initial there, and which of these are lost: they receive nothing more.
pub record Speaker : Type 0 where
  pub text : (delivered : List ℕ) (captures : List Snapshot) → List ℕ
  pub whole : (delivered : List ℕ) (captures : List Snapshot) → Bool
  pub at : ℕ → Bool
  pub here : AppState → Bool
  pub lost : AppState → Bool

-- its text as a page
abbrev pub page_by : Speaker → Pages
page_by speaker = record { page = speaker.text; complete = speaker.whole }

-- A piece is received, or a prefix of it after which the state is lost. A lost state receives nothing more.
pub record ReceivesSome (speaker : Speaker) (p q : AppState) (piece : List ℕ) : Type 0 where
  pub here : speaker.here q ≡ true
  pub prefix : List ℕ
  pub rest : List ℕ
  pub joined : prefix ++ rest ≡ piece
  pub input : q.input ≡ p.input ++ prefix
  pub all : (rest ≡ []) ⊎ (speaker.lost q ≡ true)
  pub no_more : speaker.lost p ≡ true → (q.input ≡ p.input) × (speaker.lost q ≡ true)

pub record KeepsReceived (speaker : Speaker) (p q : AppState) : Type 0 where
  pub here : speaker.here q ≡ true
  pub input : q.input ≡ p.input
  pub lost : speaker.lost q ≡ speaker.lost p

pub record HasOutputModel (m : AppSpec) (speaker : Speaker) : Type 0 where
  pub steady : IsSteady m
  pub grows : (q more : List ℕ) (k later : List Snapshot) → IsPrefixOf (speaker.text q k) (speaker.text (q ++ more) (k ++ later))
  pub stays : (q more : List ℕ) (k later : List Snapshot) → speaker.whole q k ≡ true → speaker.text (q ++ more) (k ++ later) ≡ speaker.text q k
  pub stays_complete : (q more : List ℕ) (k later : List Snapshot) → speaker.whole q k ≡ true → speaker.whole (q ++ more) (k ++ later) ≡ true
  -- the text of a request of at most 4096 bytes is shorter than 2^30
  pub short : (q : List ℕ) (k : List Snapshot) → length q ≤ 4096 → All IsSnapshot k → length (speaker.text q k) < 1073741824
  pub output : (p : AppState) → speaker.here p ≡ true → m.output p ≡ speaker.text p.input p.snapshots
  pub connected_here : (numbers : List ℕ) (port : ℕ) → speaker.at port ≡ true → speaker.here (m.connected numbers port).part ≡ true
  pub connected_input : (numbers : List ℕ) (port : ℕ) → speaker.at port ≡ true → (m.connected numbers port).part.input ≡ []
  pub newdata : (numbers : List ℕ) (p : AppState) (piece : List ℕ) → speaker.here p ≡ true → ReceivesSome speaker p (m.newdata numbers p piece).part piece
  pub prepare : (numbers : List ℕ) (p : AppState) (now : Now) → speaker.here p ≡ true → KeepsReceived speaker p (m.prepare numbers p now)
  pub acked : (numbers : List ℕ) (p : AppState) (n : ℕ) → speaker.here p ≡ true → KeepsReceived speaker p (m.acked numbers p n).part
  pub polled : (numbers : List ℕ) (p : AppState) → speaker.here p ≡ true → KeepsReceived speaker p (m.polled numbers p).part
  -- it closes at the end of a whole text alone
  pub closes : (numbers : List ℕ) (p : AppState) → speaker.here p ≡ true → p.acked ≤ length (m.output p) → m.want numbers p ≡ Close
      → MayWant (page_by speaker) p Close

module _ (m : AppSpec) (speaker : Speaker) (laws : HasOutputModel m speaker) where
  -- what receiving text does to a state
  pub record Received (p q : AppState) (text : List ℕ) : Type 0 where
    pub some : ReceivesSome speaker p q text
    pub snapshots : q.snapshots ≡ p.snapshots
    pub acked : q.acked ≡ p.acked

  pub receives_is : (numbers : List ℕ) (p : AppState) (text : List ℕ) → speaker.here p ≡ true → Received p (delivers_text m numbers p text).part text
  receives_is numbers p [] h = record {
    some = record { here = h; prefix = []; rest = []; joined = refl; input = sym (append_nothing p.input); all = inl refl; no_more = λ e. (refl, e) };
    snapshots = refl;
    acked = refl;
  }
  receives_is numbers p (x ∷ xs) h = record {
    some = laws.newdata numbers p (x ∷ xs) h;
    snapshots = laws.steady.newdata_snapshots numbers p (x ∷ xs);
    acked = (laws.steady.lawful.newdata_grows numbers p (x ∷ xs) tt).offset;
  }

  -- taking captures
  pub record Prepared (p q : AppState) : Type 0 where
    pub keeps : KeepsReceived speaker p q
    pub more : List Snapshot
    pub snapshots : q.snapshots ≡ p.snapshots ++ more
    pub acked : q.acked ≡ p.acked

  pub prepare_is : (numbers : List ℕ) (p : AppState) (now : Now) → speaker.here p ≡ true → Prepared p (m.prepare numbers p now)
  prepare_is numbers p now h =
      elim (laws.steady.prepare_snapshots numbers p now) [
        | inl e ↦ record {
          keeps = laws.prepare numbers p now h;
          more = [];
          snapshots = e ∙ sym (append_nothing p.snapshots);
          acked = (laws.steady.lawful.prepare_grows numbers p now tt).offset;
        }
        | inr e ↦ record {
          keeps = laws.prepare numbers p now h;
          more = record { numbers = numbers; now = now } ∷ [];
          snapshots = e;
          acked = (laws.steady.lawful.prepare_grows numbers p now tt).offset;
        }
      ]

  -- an acknowledgement of this much of what is left
  pub acked_is : (numbers : List ℕ) (p : AppState) (n : ℕ) → speaker.here p ≡ true → p.acked + n ≤ length (speaker.text p.input p.snapshots)
      → (m.acked numbers p n).part.acked ≡ p.acked + n
  acked_is numbers p n h l =
      let size : length (m.output p) ≡ length (speaker.text p.input p.snapshots) = ap (λ (xs : List ℕ). length xs) (laws.output p h) in
      (laws.steady.lawful.acked_moves numbers p n tt (omega (arith, l, size, length-drop p.acked (m.output p)))).1

  -- what is requested, if no more is acknowledged than was sent
  pub wants_is : (numbers : List ℕ) (p : AppState) → speaker.here p ≡ true → p.acked ≤ length (speaker.text p.input p.snapshots)
      → MayWant (page_by speaker) p (m.want numbers p)
  wants_is numbers p h l = go (m.want numbers p) refl
    where
      size : length (m.output p) ≡ length (speaker.text p.input p.snapshots)
      size = ap (λ (xs : List ℕ). length xs) (laws.output p h)

      go : (w : Want) → m.want numbers p ≡ w → MayWant (page_by speaker) p w
      go Nothing e = tt
      go Abort e = tt
      go Close e = laws.closes numbers p h (omega (arith, l, size)) e
      go (Send n) e = (let s : CanSend (Send n) (length (drop p.acked (m.output p))) = subst
          (λ w. CanSend w (length (drop p.acked (m.output p)))) e (laws.steady.lawful.sends numbers p tt) in
          (s.0, omega (arith, s.0, s.1, size, l, length-drop p.acked (m.output p))))

-- ---- an application whose text is a page, at every port

abbrev pub paged : Pages → Speaker
paged pages = record { text = pages.page; whole = pages.complete; at = λ port. true; here = λ p. true; lost = λ p. false }

pub paged_speaks : (m : AppSpec) (pages : Pages) → IsPaged m pages → HasOutputModel m (paged pages)
paged_speaks m pages lawful = record {
  steady = steady_of m pages lawful;
  grows = lawful.grows;
  stays = lawful.stays;
  stays_complete = lawful.stays_complete;
  short = λ q k l f. lawful.short q k f;
  output = λ p h. lawful.output p;
  connected_here = λ numbers port h. refl;
  connected_input = λ numbers port h. lawful.connected_input numbers port;
  newdata = λ numbers p piece h. record {
    here = refl;
    prefix = piece;
    rest = [];
    joined = append_nothing piece;
    input = lawful.newdata_input numbers p piece;
    all = inl refl;
    no_more = λ e. absurd (cc);
  };
  prepare = λ numbers p now h. record { here = refl; input = lawful.prepare_input numbers p now; lost = refl };
  acked = λ numbers p n h. record { here = refl; input = lawful.acked_input numbers p n; lost = refl };
  polled = λ numbers p h. record { here = refl; input = (lawful.polled_same numbers p).input; lost = refl };
  closes = λ numbers p h fits e. subst (λ w. MayWant (page_by (paged pages)) p w) e (closes_page numbers p);
}
  where
    closes_page : (numbers : List ℕ) (p : AppState) → MayWant (page_by (paged pages)) p (m.want numbers p)
    closes_page numbers p = lawful.wants numbers p
