-- What the run of a cooperating peer needs of an application: in some states, those of its port, the output is a page, and a request is
-- answered.
use Rattle.node_laws.proofs.Prelude.{All, ◌≡◌, ℕ, suc, ◌<◌, ◌≤◌, ◌+◌, Bool, true, inl, inr, List, [], ◌∷◌, ◌++◌, length, min, refl}
use Rattle.node_laws.proofs.Prelude.{sym, ap, ◌∙◌, subst, AppState, After, AppSpec, Snapshot, IsPrefixOf, Pages, IsPaged, IsU32, IsNow}
use Rattle.node_laws.proofs.Prelude.{IsSnapshot, MayWant, Now, Want, Nothing, Send, Close, Abort, delivers_text, append_nothing, arith}
use Rattle.node_laws.proofs.Prelude.{AnswersPolled, GoesOnBy, IsSteady}

-- the state of a connection that opens
pub record Starts (here : AppState → Bool) (q : AppState) : Type 0 where
  pub at_port : here q ≡ true
  pub input : q.input ≡ []
  pub acked : q.acked ≡ 0

-- after text is delivered
pub record Received (here : AppState → Bool) (p q : AppState) (text : List ℕ) : Type 0 where
  pub at_port : here q ≡ true
  pub input : q.input ≡ p.input ++ text
  pub snapshots : q.snapshots ≡ p.snapshots
  pub acked : q.acked ≡ p.acked

-- after a capture is taken, or none
pub record Prepared (here : AppState → Bool) (p q : AppState) : Type 0 where
  pub at_port : here q ≡ true
  pub input : q.input ≡ p.input
  pub more : List Snapshot
  pub snapshots : q.snapshots ≡ p.snapshots ++ more
  pub acked : q.acked ≡ p.acked

-- after this much more was acknowledged
pub record Moved (here : AppState → Bool) (p q : AppState) (count : ℕ) : Type 0 where
  pub at_port : here q ≡ true
  pub input : q.input ≡ p.input
  pub snapshots : q.snapshots ≡ p.snapshots
  pub acked : q.acked ≡ p.acked + count

-- In the states `here` the output is the page, and each call leads from such a state to such a state. The connections of the port begin
-- in one.
pub record Paging (m : AppSpec) (pages : Pages) (port : ℕ) (here : AppState → Bool) : Type 0 where
  pub steady : IsSteady m
  pub grows : (input more : List ℕ) (snapshots later : List Snapshot) → IsPrefixOf (pages.page input snapshots)
      (pages.page (input ++ more) (snapshots ++ later))
  pub stays : (input more : List ℕ) (snapshots later : List Snapshot) → pages.complete input snapshots ≡ true
      → pages.page (input ++ more) (snapshots ++ later) ≡ pages.page input snapshots
  pub stays_complete : (input more : List ℕ) (snapshots later : List Snapshot) → pages.complete input snapshots ≡ true
      → pages.complete (input ++ more) (snapshots ++ later) ≡ true
  pub short : (input : List ℕ) (snapshots : List Snapshot) → All IsSnapshot snapshots → length (pages.page input snapshots) < 1073741824
  pub output : (q : AppState) → here q ≡ true → m.output q ≡ pages.page q.input q.snapshots
  pub connected : (numbers : List ℕ) → Starts here (m.connected numbers port).part
  pub newdata : (numbers : List ℕ) (q : AppState) (piece : List ℕ) → here q ≡ true → Received here q (m.newdata numbers q piece).part piece
  pub prepare : (numbers : List ℕ) (q : AppState) (now : Now) → here q ≡ true → Prepared here q (m.prepare numbers q now)
  pub acked : (numbers : List ℕ) (q : AppState) (count : ℕ) → here q ≡ true → Moved here q (m.acked numbers q count).part count
  pub polled : (numbers : List ℕ) (q : AppState) → here q ≡ true → Moved here q (m.polled numbers q).part 0
  pub wants : (numbers : List ℕ) (q : AppState) → here q ≡ true → MayWant pages q (m.want numbers q)

pub receives_is : (m : AppSpec) (pages : Pages) (port : ℕ) (here : AppState → Bool) → Paging m pages port here
    → (numbers : List ℕ) (q : AppState) (text : List ℕ) → here q ≡ true → Received here q (delivers_text m numbers q text).part text
receives_is m pages port here lawful numbers q [] h = record { at_port = h; input = sym (append_nothing q.input); snapshots = refl; acked = refl }
receives_is m pages port here lawful numbers q (x ∷ xs) h = lawful.newdata numbers q (x ∷ xs) h

-- In the states `here` the request is answered with at most `texts` segments, and the application is polled up to `patience` times.
pub record Answering (m : AppSpec) (port : ℕ) (here : AppState → Bool) (request : List ℕ) (mss : ℕ) (fine : ℕ → AppState → Bool)
    (left : AppState → ℕ) (texts patience : ℕ) : Type 0 where
  pub starts : (polls : ℕ) → polls ≤ patience → (numbers : List ℕ) → (fine polls (m.connected numbers port).part ≡ true)
      × (left (m.connected numbers port).part ≤ texts)
  pub delivers_text : (polls : ℕ) → polls ≤ patience → (numbers : List ℕ) (q : AppState) (piece rest : List ℕ) → here q ≡ true
      → fine polls q ≡ true → (q.input ++ piece) ++ rest ≡ request →
      (fine polls (m.newdata numbers q piece).part ≡ true) × (left (m.newdata numbers q piece).part ≤ left q)
  pub goes_on : (polls : ℕ) → polls ≤ patience → (numbers : List ℕ) (q : AppState) (now : Now) (rest : List ℕ) → here q ≡ true
      → fine polls q ≡ true → q.input ++ rest ≡ request → All IsU32 numbers → IsNow now → 0 < length now.rows →
      GoesOnBy m request mss (fine polls) left (m.prepare numbers q now) (left q) (m.want numbers (m.prepare numbers q now))
  pub waits : (polls : ℕ) (numbers : List ℕ) (q : AppState) → polls < patience → here q ≡ true → fine polls q ≡ true
      → (fine (suc polls) (m.polled numbers q).part ≡ true) × (left (m.polled numbers q).part ≤ left q)

-- ---- an application that acts as another in these states

pub record ActsAs (m n : AppSpec) (port : ℕ) (here : AppState → Bool) : Type 0 where
  pub output : (q : AppState) → here q ≡ true → m.output q ≡ n.output q
  pub connected : (numbers : List ℕ) → m.connected numbers port ≡ n.connected numbers port
  pub newdata : (numbers : List ℕ) (q : AppState) (piece : List ℕ) → here q ≡ true → m.newdata numbers q piece ≡ n.newdata numbers q piece
  pub prepare : (numbers : List ℕ) (q : AppState) (now : Now) → here q ≡ true → m.prepare numbers q now ≡ n.prepare numbers q now
  pub want : (numbers : List ℕ) (q : AppState) → here q ≡ true → m.want numbers q ≡ n.want numbers q
  pub acked : (numbers : List ℕ) (q : AppState) (count : ℕ) → here q ≡ true → m.acked numbers q count ≡ n.acked numbers q count
  pub polled : (numbers : List ℕ) (q : AppState) → here q ≡ true → m.polled numbers q ≡ n.polled numbers q
  pub stays_connected : (numbers : List ℕ) → here (m.connected numbers port).part ≡ true
  pub stays_newdata : (numbers : List ℕ) (q : AppState) (piece : List ℕ) → here q ≡ true → here (m.newdata numbers q piece).part ≡ true
  pub stays_prepare : (numbers : List ℕ) (q : AppState) (now : Now) → here q ≡ true → here (m.prepare numbers q now) ≡ true
  pub stays_acked : (numbers : List ℕ) (q : AppState) (count : ℕ) → here q ≡ true → here (m.acked numbers q count).part ≡ true
  pub stays_polled : (numbers : List ℕ) (q : AppState) → here q ≡ true → here (m.polled numbers q).part ≡ true

abbrev pub anywhere : AppState → Bool
anywhere q = true

pub acts_as_itself : (m : AppSpec) (port : ℕ) → ActsAs m m port anywhere
acts_as_itself m port = record {
  output = λ q h. refl;
  connected = λ numbers. refl;
  newdata = λ numbers q piece h. refl;
  prepare = λ numbers q now h. refl;
  want = λ numbers q h. refl;
  acked = λ numbers q count h. refl;
  polled = λ numbers q h. refl;
  stays_connected = λ numbers. refl;
  stays_newdata = λ numbers q piece h. refl;
  stays_prepare = λ numbers q now h. refl;
  stays_acked = λ numbers q count h. refl;
  stays_polled = λ numbers q h. refl;
}

module _ (m n : AppSpec) (port : ℕ) (here : AppState → Bool) (acts : ActsAs m n port here) where
  module _ (pages : Pages) (lawful : IsPaged n pages) where
    starts_as : (numbers : List ℕ) → Starts here (m.connected numbers port).part
    starts_as numbers =
        let same : m.connected numbers port ≡ n.connected numbers port = acts.connected numbers in
        record {
          at_port = acts.stays_connected numbers;
          input = ap (λ (o : After). o.part.input) same ∙ lawful.connected_input numbers port;
          acked = ap (λ (o : After). o.part.acked) same ∙ lawful.connected_acked numbers port;
        }

    received_as : (numbers : List ℕ) (q : AppState) (piece : List ℕ) → here q ≡ true → Received here q (m.newdata numbers q piece).part piece
    received_as numbers q piece h =
        let same : m.newdata numbers q piece ≡ n.newdata numbers q piece = acts.newdata numbers q piece h in
        record {
          at_port = acts.stays_newdata numbers q piece h;
          input = ap (λ (o : After). o.part.input) same ∙ lawful.newdata_input numbers q piece;
          snapshots = ap (λ (o : After). o.part.snapshots) same ∙ lawful.newdata_snapshots numbers q piece;
          acked = ap (λ (o : After). o.part.acked) same ∙ lawful.newdata_acked numbers q piece;
        }

    prepared_as : (numbers : List ℕ) (q : AppState) (now : Now) → here q ≡ true → Prepared here q (m.prepare numbers q now)
    prepared_as numbers q now h =
        let same : m.prepare numbers q now ≡ n.prepare numbers q now = acts.prepare numbers q now h in
        let input : (m.prepare numbers q now).input ≡ q.input = ap (λ (o : AppState). o.input) same ∙ lawful.prepare_input numbers q now in
        let acked : (m.prepare numbers q now).acked ≡ q.acked = ap (λ (o : AppState). o.acked) same ∙ lawful.prepare_acked numbers q now in
        let snapshots : (m.prepare numbers q now).snapshots ≡ (n.prepare numbers q now).snapshots = ap (λ (o : AppState). o.snapshots) same in
        elim (lawful.prepare_snapshots numbers q now) [
          | inl e ↦ record {
            at_port = acts.stays_prepare numbers q now h;
            input = input;
            more = [];
            snapshots = snapshots ∙ e
                ∙ sym (append_nothing q.snapshots);
            acked = acked;
          }
          | inr e ↦ record {
            at_port = acts.stays_prepare numbers q now h;
            input = input;
            more = record { numbers = numbers; now = now }
                ∷ [];
            snapshots = snapshots ∙ e;
            acked = acked;
          }
        ]

    moved_as : (numbers : List ℕ) (q : AppState) (count : ℕ) → here q ≡ true → Moved here q (m.acked numbers q count).part count
    moved_as numbers q count h =
        let same : m.acked numbers q count ≡ n.acked numbers q count = acts.acked numbers q count h in
        record {
          at_port = acts.stays_acked numbers q count h;
          input = ap (λ (o : After). o.part.input) same ∙ lawful.acked_input numbers q count;
          snapshots = ap (λ (o : After). o.part.snapshots) same ∙ lawful.acked_snapshots numbers q count;
          acked = ap (λ (o : After). o.part.acked) same ∙ lawful.acked_moves numbers q count;
        }

    polled_as : (numbers : List ℕ) (q : AppState) → here q ≡ true → Moved here q (m.polled numbers q).part 0
    polled_as numbers q h =
        let same : m.polled numbers q ≡ n.polled numbers q = acts.polled numbers q h in
        let alike = lawful.polled_same numbers q in
        record {
          at_port = acts.stays_polled numbers q h;
          input = ap (λ (o : After). o.part.input) same ∙ alike.input;
          snapshots = ap (λ (o : After). o.part.snapshots) same ∙ alike.snapshots;
          acked = ap (λ (o : After). o.part.acked) same ∙ alike.acked ∙ (let z : q.acked ≡ q.acked + 0 = omega arith in z);
        }

    pub paging_as : IsSteady m → Paging m pages port here
    paging_as steady = record {
      steady = steady;
      grows = lawful.grows;
      stays = lawful.stays;
      stays_complete = lawful.stays_complete;
      short = lawful.short;
      output = λ q h. acts.output q h ∙ lawful.output q;
      connected = starts_as;
      newdata = received_as;
      prepare = prepared_as;
      acked = moved_as;
      polled = polled_as;
      wants = λ numbers q h. subst (λ (w : Want). MayWant pages q w) (sym (acts.want numbers q h)) (lawful.wants numbers q);
    }

  module _ (request : List ℕ) (mss : ℕ) (fine : ℕ → AppState → Bool) (left : AppState → ℕ) (texts patience : ℕ)
      (answers : AnswersPolled n request mss fine left texts patience) where
    goes_on_as : (polls most : ℕ) (q : AppState) (w : Want) → here q ≡ true → GoesOnBy n request mss (fine polls) left q most w
        → GoesOnBy m request mss (fine polls) left q most w
    goes_on_as polls most q Abort h g = g
    goes_on_as polls most q Close h g = g
    goes_on_as polls most q Nothing h g = g
    goes_on_as polls most q (Send j) h g = λ numbers. subst (λ (o : After). (fine polls o.part ≡ true) × (left o.part < most))
        (sym (acts.acked numbers q (min j mss) h)) (g numbers)

    asked_as : (polls : ℕ) → polls ≤ patience → (numbers : List ℕ) (q : AppState) (now : Now) (rest : List ℕ) → here q ≡ true
        → fine polls q ≡ true → q.input ++ rest ≡ request → All IsU32 numbers → IsNow now → 0 < length now.rows →
        GoesOnBy m request mss (fine polls) left (m.prepare numbers q now) (left q) (m.want numbers (m.prepare numbers q now))
    asked_as polls l numbers q now rest h good joined words is rows =
        let next : here (m.prepare numbers q now) ≡ true = acts.stays_prepare numbers q now h in
        let same : n.prepare numbers q now ≡ m.prepare numbers q now = sym (acts.prepare numbers q now h) in
        let by = (answers.answers polls l).goes_on numbers q now rest good joined words is rows in
        let there = subst (λ (z : AppState). GoesOnBy n request mss (fine polls) left z (left q) (n.want numbers z)) same by in
        goes_on_as polls (left q) (m.prepare numbers q now) (m.want numbers (m.prepare numbers q now)) next
        (subst (λ (w : Want). GoesOnBy n request mss (fine polls) left (m.prepare numbers q now) (left q) w)
        (sym (acts.want numbers (m.prepare numbers q now) next)) there)

    pub answering_as : Answering m port here request mss fine left texts patience
    answering_as = record {
      starts = λ polls l numbers. subst (λ (o : After). (fine polls o.part ≡ true) × (left o.part ≤ texts)) (sym (acts.connected numbers))
          ((answers.answers polls l).starts numbers port);
      delivers_text = λ polls l numbers q piece rest h good joined. subst (λ (o : After). (fine polls o.part ≡ true)
          × (left o.part ≤ left q)) (sym (acts.newdata numbers q piece h)) ((answers.answers polls l).delivers_text numbers q piece rest good joined);
      goes_on = asked_as;
      waits = λ polls numbers q l h good. subst (λ (o : After). (fine (suc polls) o.part ≡ true) × (left o.part ≤ left q))
          (sym (acts.polled numbers q h)) (answers.waits polls numbers q l good);
    }
