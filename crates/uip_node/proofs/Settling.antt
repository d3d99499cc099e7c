-- A connection that is asked after its step.
use Rattle.uip_node.proofs.Prelude.{ℕ, zero, suc, ◌≡◌, ◌+◌, ◌<◌, Bool, true, false, List, [], ◌∷◌, length, Some, inl, inr, refl, sym, ap}
use Rattle.uip_node.proofs.Prelude.{◌∙◌, subst, arith, nat_lt, if◌then◌else◌, slice_get, slice_set, cases_eq, ltb-true, ltb-false, AppSpec}
use Rattle.uip_node.proofs.Prelude.{Ghosts, is_live, Now, Row, State, count_at, tries_at, Conn, Outcome, ask, ask_prepared, asked}
use Rattle.uip_node.proofs.Prelude.{asked_for, prepared, Connection, row_of, rows_from, tries_of, count_of, is_resting, IsAnswer, Rests}
use Rattle.uip_node.proofs.Prelude.{StepFits, ConnRepresents, Step, PreparesIn, StaysPrepared, TakesIn, AllWellFormed, AllSound}
use Rattle.uip_node.proofs.Prelude.{IsWellFormedConn, MeetsAt, OthersRest, SlotsRepresent, live_rows, snapshot_at, row_in}
use Rattle.uip_node.proofs.Tables.{get_after_set, get_set_same}

pub rests_of : {A : Type 0} (d : Conn A) (step : Step) → IsAnswer step → StepFits d step → Rests d
rests_of d Step.Drop a f = f
rests_of d Step.Ack a f = f
rests_of d (Step.SynAck again) a f = f
rests_of d (Step.Text again) a f = λ _. f.1
rests_of d (Step.Fin again) a f = f
rests_of d Step.Reset a f = f
rests_of d (Step.Ask fresh) a f = absurd a

pub kept_after : {A S : Type 0} (g : Ghosts A S) (k : g.Config) (cs : List (Conn A)) (i : ℕ) (d : Conn A) → AllSound g k cs
    → OthersRest i cs → IsWellFormedConn g k d → AllWellFormed g k (slice_set cs i d)
kept_after {A} g k cs i d sound others here j c h =
    elim (cases_eq j i) [
      | inl same ↦ subst (λ (x : Conn A). IsWellFormedConn g k x)
          (sym (get_set_same cs i d c (subst (λ (n : ℕ). slice_get (slice_set cs i d) n ≡ Some c) same h))) here
      | inr other ↦ elim (get_after_set cs i j d c h) [
        | inl e ↦ absurd (other (sym e.0))
        | inr old ↦ record { sound = sound j c old; busy = others j c other old }
      ]
    ]

pub get_set : {X : Type 0} (xs : List X) (i : ℕ) (x : X) → i < length xs → slice_get (slice_set xs i x) i ≡ Some x
get_set [] i x h = absurd (omega (arith, h))
get_set (y ∷ ys) zero x h = refl
get_set (y ∷ ys) (suc i) x h = get_set ys i x (omega (arith, h))

pub set_set : {X : Type 0} (xs : List X) (i : ℕ) (x y : X) → slice_set (slice_set xs i x) i y ≡ slice_set xs i y
set_set [] i x y = refl
set_set (z ∷ zs) zero x y = refl
set_set (z ∷ zs) (suc i) x y = ap (λ (ws : List _). z ∷ ws) (set_set zs i x y)

pick : {X : Type 0} (b : Bool) (x y z : X) → (b ≡ true → z ≡ x) → (b ≡ false → z ≡ y) → z ≡ (if b then x else y)
pick true x y z f g = f refl
pick false x y z f g = g refl

-- the row of a connection is that of the abstract one
pub row_represents : {A S : Type 0} (g : Ghosts A S) (k : g.Config) (slot : ℕ) (c : Conn A) (a : Connection) → ConnRepresents g k c a
    → is_live a.state ≡ true → row_in slot c ≡ row_of slot a
row_represents g k slot c a h live =
    let l = h.numbers.like live in
    let peer = l.peer in
    let port = l.peer_port in
    let state = h.numbers.state in
    let tries : c.timer.tries ≡ tries_of a = pick (nat_lt 0 a.len) (tries_at a.age) 0 c.timer.tries
    (λ t. (l.timer.waits (ltb-true 0 a.len t)).tries) (λ f. l.timer.no_tries (let z : a.len ≡ 0 = omega (arith, ltb-false 0 a.len f) in z)) in
    let count : c.timer.count ≡ count_of a = pick (nat_lt 0 a.len) (count_at a.age) (if is_resting a.state then a.age else 0) c.timer.count
    (λ t. (l.timer.waits (ltb-true 0 a.len t)).count) (λ f. l.timer.counts (let z : a.len ≡ 0 = omega (arith, ltb-false 0 a.len f) in z)) in
    let waiting : nat_lt 0 c.len ≡ nat_lt 0 a.len = ap (nat_lt 0) l.len in
    cc

both : (b : Bool) (x y : Row) (xs ys : List Row) → (b ≡ true → x ≡ y) → xs ≡ ys → (if b then x ∷ xs else xs) ≡ (if b then y ∷ ys else ys)
both true x y xs ys e f = let g = e refl in cc
both false x y xs ys e f = f

tail_represents : {A S : Type 0} (g : Ghosts A S) (k : g.Config) (c : Conn A) (cs : List (Conn A)) (a : Connection)
    (abstracts : List Connection) → SlotsRepresent g k (c ∷ cs) (a ∷ abstracts) → SlotsRepresent g k cs abstracts
tail_represents g k c cs a abstracts h = record {
  same_length = omega (arith, h.same_length);
  each = λ i d b e f. h.each (suc i) d b e f;
}

pub rows_represent : {A S : Type 0} (g : Ghosts A S) (k : g.Config) (slot : ℕ) (cs : List (Conn A)) (abstracts : List Connection)
    → SlotsRepresent g k cs abstracts → live_rows slot cs ≡ rows_from slot abstracts
rows_represent g k slot [] [] h = refl
rows_represent g k slot [] (a ∷ abstracts) h = absurd (omega (arith, h.same_length))
rows_represent g k slot (c ∷ cs) [] h = absurd (omega (arith, h.same_length))
rows_represent g k slot (c ∷ cs) (a ∷ abstracts) h =
    let head = h.each 0 c a refl refl in
    let rest = rows_represent g k (slot + 1) cs abstracts (tail_represents g k c cs a abstracts h) in
    ap (λ (s : State). if is_live s then row_in slot c ∷ live_rows (slot + 1) cs else live_rows (slot + 1) cs) head.numbers.state
    ∙ both (is_live a.state) (row_in slot c) (row_of slot a) (live_rows (slot + 1) cs) (rows_from (slot + 1) abstracts)
    (λ live. row_represents g k slot c a head live) rest

pub settled : {A S : Type 0} (g : Ghosts A S) (k : g.Config) (m : AppSpec) (cs ds : List (Conn A)) (abstracts : List Connection)
    (ns : List ℕ) (step result : Step) (slot ticks : ℕ) (net : List ℕ) (fresh : Bool) (now : Now) (o : Outcome) →
    slot < length abstracts → step ≡ Step.Ask fresh → MeetsAt g k cs ns step abstracts slot o →
    now ≡ record { ticks = ticks; net = net; rows = live_rows 0 cs } →
    ((others : List Connection) (a : Connection) → SlotsRepresent g k cs others → slice_get others slot ≡ Some a
    → MeetsAt g k ds ns result others slot (ask m now fresh a ns)) →
    MeetsAt g k ds ns result abstracts slot (asked m (snapshot_at ticks net abstracts slot) o)
settled g k m cs ds abstracts ns step result slot ticks net fresh now o within is h n meets =
    let after : List Connection = slice_set abstracts slot o.connection in
    let output : o.step ≡ Step.Ask fresh = sym h.asked ∙ is in
    let snapshot : now ≡ snapshot_at ticks net abstracts slot o.connection = n
    ∙ ap (λ (rows : List Row). record { ticks = ticks; net = net; rows = rows }) (rows_represent g k 0 cs after h.slots) in
    let one = meets after o.connection h.slots (get_set abstracts slot o.connection within) in
    let two = subst (λ (t : Now). MeetsAt g k ds ns result after slot (ask m t fresh o.connection ns)) snapshot one in
    let three = subst (λ (x : List ℕ). MeetsAt g k ds ns result after slot (ask m (snapshot_at ticks net abstracts slot o.connection) fresh
    o.connection x)) h.counted two in
    subst (λ (s : Step). MeetsAt g k ds ns result abstracts slot (asked_for m (snapshot_at ticks net abstracts slot) o s)) (sym output)
    (record {
      slots = subst (λ (xs : List Connection). SlotsRepresent g k ds xs)
          (set_set abstracts slot o.connection (ask m (snapshot_at ticks net abstracts slot o.connection) fresh o.connection o.numbers).connection) three.slots;
      counted = three.counted;
      asked = three.asked;
      named = three.named;
    })

-- the connection in a slot is written there again
pub set_same : {X : Type 0} (xs : List X) (i : ℕ) (x : X) → slice_get xs i ≡ Some x → slice_set xs i x ≡ xs
set_same [] i x h = refl
set_same (y ∷ ys) zero x h = cc
set_same (y ∷ ys) (suc i) x h = ap (λ (ws : List _). y ∷ ws) (set_same ys i x h)

get_set_there : {X : Type 0} (xs : List X) (i : ℕ) (x y : X) → slice_get xs i ≡ Some y → slice_get (slice_set xs i x) i ≡ Some x
get_set_there [] i x y h = cc
get_set_there (z ∷ zs) zero x y h = refl
get_set_there (z ∷ zs) (suc i) x y h = get_set_there zs i x y h

-- a connection that is not due stays what it is
pub prepares_none : {A S : Type 0} (g : Ghosts A S) (k : g.Config) (slot : ℕ) (now : Now) (cs : List (Conn A)) (ns : List ℕ) →
    StaysPrepared g k slot cs ns → PreparesIn g k slot now cs cs ns
prepares_none g k slot now cs ns stays abstracts a stand at =
    let same : slice_set abstracts slot (prepared (g.app_spec k) now a ns) ≡ abstracts =
    ap (λ (b : Connection). slice_set abstracts slot b) (stays abstracts a now stand at) ∙ set_same abstracts slot a at in
    subst (λ (xs : List Connection). SlotsRepresent g k cs xs) (sym same) stand

-- a connection that is prepared, and then asked
pub prepared_asked : {A S : Type 0} (g : Ghosts A S) (k : g.Config) (slot : ℕ) (now : Now) (fresh : Bool) (cs ds es : List (Conn A))
    (ns : List ℕ) (answer : Step) →
    PreparesIn g k slot now cs ds ns → TakesIn g k slot (λ a. ask_prepared (g.app_spec k) fresh a ns) ds es ns answer →
    TakesIn g k slot (λ a. ask (g.app_spec k) now fresh a ns) cs es ns answer
prepared_asked g k slot now fresh cs ds es ns answer prepares takes abstracts a stand at =
    let b : Connection = prepared (g.app_spec k) now a ns in
    let one = takes (slice_set abstracts slot b) b (prepares abstracts a stand at) (get_set_there abstracts slot b a at) in
    record {
      slots = subst (λ (xs : List Connection). SlotsRepresent g k es xs) (set_set abstracts slot b (ask (g.app_spec k) now fresh a ns).connection) one.slots;
      counted = one.counted;
      asked = one.asked;
      named = one.named;
    }

pub kept_with : {A S : Type 0} (g : Ghosts A S) (k : g.Config) (cs : List (Conn A)) (i : ℕ) (d : Conn A) → AllWellFormed g k cs
    → IsWellFormedConn g k d → AllWellFormed g k (slice_set cs i d)
kept_with {A} g k cs i d all here j c h =
    elim (get_after_set cs i j d c h) [ inl e ↦ subst (λ (x : Conn A). IsWellFormedConn g k x) (sym e.1) here | inr old ↦ all j c old ]
