-- Same bytes: a retransmission of what is outstanding is identical, and is marked.
use Rattle.link_world.proofs.Prelude.{◌≡◌, ℕ, suc, ◌+◌, ◌*◌, length-append, ◌<◌, ◌≤◌, min, Bool, true, false, ◌⊎◌, inl, inr, List, [], ◌∷◌}
use Rattle.link_world.proofs.Prelude.{◌++◌, length, replicate, refl, sym, ap, ◌∙◌, subst, arith, Option, Some, None, slice_get, eqb}
use Rattle.link_world.proofs.Prelude.{if◌then◌else◌, common_steps, wrap, Addr, OWN_MSS, PlainSegment, has_syn, has_fin, has_rst, AppSpec}
use Rattle.link_world.proofs.Prelude.{Pages, Sockets, Connection, closed, is_live, segment_of, is_again, occupies_sequence_space}
use Rattle.link_world.proofs.Prelude.{is_plain_syn, syn_ack, Outcome, asked, first_mss, accepted, on_segment, on_tick, State, Closed}
use Rattle.link_world.proofs.Prelude.{SynRcvd, Established, CloseWait, FinWait1, FinWait2, Closing, TimeWait, LastAck, ClientStep, one_if}
use Rattle.link_world.proofs.Prelude.{World, Side, Sent, Content, client_sockets, with_client, marked, is_clean, past_connection_of}
use Rattle.link_world.proofs.Prelude.{OfSegment, OfPing, OfEcho, does, Act, serving, Alike, Planned, IsPlan, initial_world, IsReached}
use Rattle.link_world.proofs.Prelude.{RepeatsSameBytes, MarksRepeats, SameBytes, SameBytesPlainly, AgainExactly, AgainExactlyPlainly}
use Rattle.link_world.proofs.Prelude.{IsReachedPlainly, IsSteady, steady_of, choose, cut_length, zero_or_more, same_place, get_push}
use Rattle.link_world.proofs.Prelude.{nothing_placed, only_some, older, newest, serving_free, none_serves, FitConn, FitOut, on_segment_fits}
use Rattle.link_world.proofs.Prelude.{on_tick_fits, Safe, IsDue, Onto, SafeState, Still, ReportsRun, StepReports, due, alike_trans}
use Rattle.link_world.proofs.Prelude.{alike_sym, alike_refl, segment_reports, tick_reports, closed_fits, HasBytes, DeliveredBytes}
use Rattle.link_world.proofs.Prelude.{stepped_fits, stepped_reports, Moves, asked_moves, segment_moves, tick_moves, Lens, closed_lens}
use Rattle.link_world.proofs.Prelude.{accepted_lens, asked_lens, on_segment_lens, on_tick_lens}
use Rattle.link_world.proofs.CleanClientInvariant.{seg, segment_in, from, to}
use Rattle.link_world.proofs.Views.{length_push}
use Rattle.link_world.proofs.PrefixAndWhole.{opening_apart}
use Rattle.link_world.proofs.Harmless.{Harmless}
use Rattle.link_world.proofs.FitWorlds.{FitWorld}
use Rattle.link_world.proofs.SentBytes.{SendsBytesWhere, pages_send_bytes}
use Rattle.link_world.proofs.Runs.{reached_plainly, reached_where, room_plainly, room_where}
use Rattle.link_world.proofs.OneClientFact.{Framed, Steps, Refines, any_step, model, entry, does_framed}
use Rattle.link_world.proofs.OneClientFact
use Rattle.link_world.proofs.Room.{HasRoom}

not_zero : (w : ℕ) → eqb w 0 ≡ false → 0 < w
not_zero w h = grind (arith, common_steps)

same_or_more : (a b : ℕ) → a ≤ b → (a ≡ b) ⊎ (a < b)
same_or_more a b h = grind arith

-- the list with one more at its end keeps what it had
pub get_older : {X : Type 0} (xs : List X) (y x : X) (k : ℕ) → slice_get xs k ≡ Some x → slice_get (xs ++ y ∷ []) k ≡ Some x
get_older [] y x k h = absurd (cc)
get_older (a ∷ xs) y x Rattle.std.proofs.Common.zero h = h
get_older (a ∷ xs) y x (suc k) h = get_older xs y x k h

get_newest : {X : Type 0} (xs : List X) (y : X) → slice_get (xs ++ y ∷ []) (length xs) ≡ Some y
get_newest [] y = refl
get_newest (a ∷ xs) y = get_newest xs y

get_inside : {X : Type 0} (xs : List X) (x : X) (k : ℕ) → slice_get xs k ≡ Some x → k < length xs
get_inside [] x k h = absurd (cc)
get_inside (a ∷ xs) x Rattle.std.proofs.Common.zero h = omega arith
get_inside (a ∷ xs) x (suc k) h = let i = get_inside xs x k h in omega (arith, i)

-- an earlier datagram at the same number
pub record Before (sent : List Sent) (e : Sent) (i : ℕ) : Type 0 where
  pub place : ℕ
  pub earlier : place < i
  pub it : Sent
  pub there : slice_get sent place ≡ Some it
  pub who : it.who ≡ e.who
  pub epoch : it.epoch ≡ e.epoch
  pub placed : occupies_sequence_space (seg it) ≡ true
  pub seq : (seg it).seq ≡ (seg e).seq
  pub alike : Alike (seg it) (seg e)

before_more : (sent : List Sent) (new e : Sent) (i : ℕ) → Before sent e i → Before (sent ++ new ∷ []) e i
before_more sent new e i b = record {
  place = b.place;
  earlier = b.earlier;
  it = b.it;
  there = get_older sent new b.it b.place b.there;
  who = b.who;
  epoch = b.epoch;
  placed = b.placed;
  seq = b.seq;
  alike = b.alike;
}

-- a datagram of the node to a client, in the present epoch
pub record IsSentTo (k : ℕ) (side : Side) (sent : List Sent) : Type 0 where
  pub place : ℕ
  pub it : Sent
  pub there : slice_get sent place ≡ Some it
  pub who : it.who ≡ to k
  pub epoch : it.epoch ≡ length side.history
  pub placed : occupies_sequence_space (seg it) ≡ true

abbrev sent_more : (k : ℕ) (side : Side) (sent : List Sent) (new : Sent) → IsSentTo k side sent → IsSentTo k side (sent ++ new ∷ [])
sent_more k side sent new x = record {
  place = x.place;
  it = x.it;
  there = get_older sent new x.it x.place x.there;
  who = x.who;
  epoch = x.epoch;
  placed = x.placed;
}

abbrev sent_newest : (k : ℕ) (side : Side) (sent : List Sent) (new : Sent) → new.who ≡ to k → new.epoch ≡ length side.history
    → occupies_sequence_space (seg new) ≡ true → IsSentTo k side (sent ++ new ∷ [])
sent_newest k side sent new who epoch placed = record { place = length sent; it = new; there = get_newest sent new; who = who; epoch = epoch; placed = placed }

pub record IsOld (c : Connection) (s : PlainSegment) : Type 0 where
  pub at : ℕ
  pub seq : s.seq ≡ wrap (c.iss + at)
  pub history : at < c.acked

-- any number is low enough: the list of datagrams shows that none wraps around
abbrev pub Any_low : ℕ → Type 0
Any_low n = Unit {0}

-- what is acknowledged comes no further than what was outstanding
pub near_by : (acked : Bool) (c d : Connection) → Moves acked c d → d.acked ≤ c.acked + c.len
near_by acked c d h = elim (h.place) [ inl e ↦ omega (arith, e) | inr e ↦ omega (arith, e.1) ]

module _ (m : AppSpec) (steady : IsSteady m) where
  -- what is outstanding was sent
  pub record WasSent (k : ℕ) (side : Side) (c : Connection) (sent : List Sent) : Type 0 where
    pub sent_as : IsSentTo k side sent
    pub due_now : IsDue m steady Any_low (λ p f. tt) c (seg sent_as.it)

  pub record Reported (k : ℕ) (side : Side) (c : Connection) (sent : List Sent) : Type 0 where
    pub fit : FitConn c
    pub lens : Lens c
    -- each number that was used is of a datagram, of which each has 1460 at most
    pub room : is_live c.state ≡ true → c.acked + c.len ≤ 1460 * length sent
    pub safe : is_live c.state ≡ true → Safe m steady Any_low (λ p f. tt) c
    pub was_sent : is_live c.state ≡ true → 0 < c.len → WasSent k side c sent
    pub time : (j : ℕ) (e : Sent) → slice_get sent j ≡ Some e → e.who ≡ to k → e.epoch ≤ length side.history
    pub tells : (j : ℕ) (e : Sent) → slice_get sent j ≡ Some e → e.who ≡ to k → occupies_sequence_space (seg e) ≡ true
        → e.epoch ≡ length side.history → (is_live c.state ≡ true) × (IsOld c (seg e) ⊎ IsDue m steady Any_low (λ p f. tt) c (seg e))
    pub repeats : (i : ℕ) (e : Sent) → slice_get sent i ≡ Some e → e.who ≡ to k → e.again ≡ true → Before sent e i
    pub agree : length sent ≤ 65535 → (i j : ℕ) (e f : Sent) → slice_get sent i ≡ Some e → slice_get sent j ≡ Some f → j < i → e.who ≡ to k
        → f.who ≡ to k → e.epoch ≡ f.epoch →
        occupies_sequence_space (seg e) ≡ true → occupies_sequence_space (seg f) ≡ true → (seg e).seq ≡ (seg f).seq → (e.again ≡ true) × Alike (seg f) (seg e)

  -- a list with one more, about which nothing is needed
  record IsSilent (side : Side) (e : Sent) : Type 0 where
    epoch : e.epoch ≤ length side.history
    unplaced : occupies_sequence_space (seg e) ≡ true → ⊥
    unmarked : e.again ≡ true → ⊥

  push_silent : (k : ℕ) (side : Side) (c : Connection) (sent : List Sent) (new : Sent) → Reported k side c sent
      → (new.who ≡ to k → IsSilent side new) → Reported k side c (sent ++ new ∷ [])
  push_silent k side c sent new t q = record {
    fit = t.fit;
    lens = t.lens;
    room = λ l. (let r = t.room l in omega (arith, r, length-append sent (new ∷ [])));
    safe = t.safe;
    was_sent = λ l z. (let x = t.was_sent l z in record { sent_as = sent_more k side sent new x.sent_as; due_now = x.due_now });
    time = λ j e x w. elim (get_push sent new j e x) [
      | older h ↦ t.time j e h w
      | newest i h ↦ (let s = (q (ap (λ n. n.who) h ∙ w)).epoch in subst (λ n. n ≤ length side.history) (ap (λ n. n.epoch) h) s)
    ];
    tells = λ j e x w p y. elim (get_push sent new j e x) [
      | older h ↦ t.tells j e h w p y
      | newest i h ↦ absurd ((q (ap (λ n. n.who) h ∙ w)).unplaced (ap (λ n. occupies_sequence_space (seg n)) h ∙ p))
    ];
    repeats = λ j e x w a. elim (get_push sent new j e x) [
      | older h ↦ before_more sent new e j (t.repeats j e h w a)
      | newest i h ↦ absurd ((q (ap (λ n. n.who) h ∙ w)).unmarked (ap (λ n. n.again) h ∙ a))
    ];
    agree = λ few i j e f x y l we wf ep pe pf se. elim (get_push sent new i e x) [
      | older h ↦ elim (get_push sent new j f y) [
        | older g ↦ t.agree (omega (arith, few, length-append sent (new ∷ []))) i j e f h g l we wf ep pe pf se
        | newest b g ↦ absurd ((q (ap (λ n. n.who) g ∙ wf)).unplaced (ap (λ n. occupies_sequence_space (seg n)) g ∙ pf))
      ]
      | newest b h ↦ absurd ((q (ap (λ n. n.who) h ∙ we)).unplaced (ap (λ n. occupies_sequence_space (seg n)) h ∙ pe))
    ];
  }

  pub other : (k : ℕ) (side : Side) (c : Connection) (sent : List Sent) (e : Sent) → Reported k side c sent → (e.who ≡ to k → ⊥)
      → (e.who ≡ from k → ⊥) → Reported k side c (sent ++ e ∷ [])
  other k side c sent e t n f = push_silent k side c sent e t (λ w. absurd (n w))

  pub reset : (k : ℕ) (side : Side) (c : Connection) (sent : List Sent) (e : Sent) → Reported k side c sent → e.epoch ≡ length side.history
      → has_syn (seg e).flags ≡ false → has_fin (seg e).flags ≡ false → (seg e).text ≡ [] → has_rst (seg e).flags ≡ true → e.again ≡ false
      → e.who ≡ to k → Reported k side c (sent ++ e ∷ [])
  reset k side c sent e t q a b x rs ag w = push_silent k side c sent e t
      (λ w. record { epoch = omega (arith, q); unplaced = λ p. nothing_placed (seg e) a b x p; unmarked = λ p. absurd (cc) })

  -- the connection is gone
  leaves : (k : ℕ) (side : Side) (c d dead : Connection) (sent : List Sent) → is_live dead.state ≡ false → FitConn dead → Lens dead
      → Reported k side c sent → Reported k (OneClientFact.older side d) dead sent
  leaves k side c d dead sent l f n t = record {
    fit = f;
    lens = n;
    room = λ x. absurd (cc);
    safe = λ x. absurd (cc);
    was_sent = λ x. absurd (cc);
    time = λ j e x w. omega (arith, t.time j e x w, length_push side.history (past_connection_of d));
    tells = λ j e x w p q. absurd (omega (arith, t.time j e x w, length_push side.history (past_connection_of d), q));
    repeats = t.repeats;
    agree = t.agree;
  }

  pub evict : (k : ℕ) (side : Side) (c : Connection) (sent : List Sent) → is_live c.state ≡ true → Reported k side c sent
      → Reported k (OneClientFact.older side c) closed sent
  evict k side c sent l t = leaves k side c c closed sent refl closed_fits closed_lens t

  same_past : (k : ℕ) (side new : Side) (c : Connection) (sent : List Sent) → new.history ≡ side.history → Reported k side c sent → Reported k new c sent
  same_past k side new c sent q t = record {
    fit = t.fit;
    lens = t.lens;
    room = t.room;
    safe = t.safe;
    was_sent = λ l z. (let x = t.was_sent l z in let y = x.sent_as in record {
      sent_as = record { place = y.place; it = y.it; there = y.there; who = y.who; epoch = y.epoch ∙ ap length (sym q); placed = y.placed };
      due_now = x.due_now;
    });
    time = λ j e x w. subst (λ p. e.epoch ≤ length p) (sym q) (t.time j e x w);
    tells = λ j e x w p y. t.tells j e x w p (y ∙ ap length q);
    repeats = t.repeats;
    agree = t.agree;
  }

  pub mark : (k : ℕ) (side : Side) (c : Connection) (sent : List Sent) (n : ℕ) (e : Sent) → Reported k side c sent → Reported k (marked side n e) c sent
  mark k side c sent n e t = same_past k side (marked side n e) c sent refl t

  -- how many numbers a segment uses
  abbrev size : PlainSegment → ℕ
  size s = length s.text + one_if (has_fin s.flags) + one_if (has_syn s.flags)

  -- what is outstanding is as long as what is due
  due_size : (c : Connection) (st : State) → SafeState m steady Any_low (λ p f. tt) c st → 0 < c.len → c.len ≡ size (due m st c)
  due_size c Closed h l = absurd h
  due_size c SynRcvd h l = h.len
  due_size c Established h l = (let e = cut_length (m.output c.part) c.part.acked c.len h.fits in omega (arith, e))
  due_size c CloseWait h l = (let e = cut_length (m.output c.part) c.part.acked c.len h.text.fits in omega (arith, e))
  due_size c FinWait1 h l = h.len
  due_size c FinWait2 h l = absurd (let z = h.len in omega (arith, z, l))
  due_size c Closing h l = h.len
  due_size c TimeWait h l = absurd (let z = h.len in omega (arith, z, l))
  due_size c LastAck h l = h.len

  size_alike : (s t : PlainSegment) → Alike s t → size s ≡ size t
  size_alike s t a =
      let x : length s.text ≡ length t.text = ap (λ (y : List ℕ). length y) a.text in
      let f : one_if (has_fin s.flags) ≡ one_if (has_fin t.flags) = ap (λ n. one_if (has_fin n)) a.flags in
      let y : one_if (has_syn s.flags) ≡ one_if (has_syn t.flags) = ap (λ n. one_if (has_syn n)) a.flags in
      omega (arith, x, f, y)

  -- what held of c holds of d, into which it continues, apart from what is outstanding
  module _ (k : ℕ) (side : Side) (c d : Connection) (sent : List Sent) (t : Reported k side c sent) (live : is_live c.state ≡ true)
      (l : is_live d.state ≡ true) (o : Onto m steady Any_low (λ p f. tt) c d) (f : Safe m steady Any_low (λ p f. tt) d) (fit : FitConn d)
      (lens : Lens d) (near : d.acked ≤ c.acked + c.len) where
    reports_on : (j : ℕ) (e : Sent) → slice_get sent j ≡ Some e → e.who ≡ to k → occupies_sequence_space (seg e) ≡ true
        → e.epoch ≡ length side.history → (is_live d.state ≡ true) × (IsOld d (seg e) ⊎ IsDue m steady Any_low (λ p f. tt) d (seg e))
    reports_on j e x w p q = (
      l,
      elim (t.tells j e x w p q).1 [
        | inl a ↦ inl record { at = a.at; seq = a.seq ∙ ap (λ n. wrap (n + a.at)) (sym o.iss); history = omega (arith, a.history, o.grows) }
        | inr n ↦ elim (same_or_more c.acked d.acked o.grows) [
          | inl s ↦ (let z = o.kept n.len (sym s) in inr record {
            len = z.0;
            seq = n.seq ∙ ap (λ x. wrap (x + c.acked)) (sym o.iss) ∙ ap (λ x. wrap (d.iss + x)) s;
            alike = alike_trans (seg e) (due m c.state c) (due m d.state d) n.alike (alike_sym (due m d.state d) (due m c.state c) z.1);
          })
          | inr y ↦ inl record { at = c.acked; seq = n.seq ∙ ap (λ x. wrap (x + c.acked)) (sym o.iss); history = y }
        ]
      ],
    )

    -- what was outstanding and is so still
    still_sent : 0 < c.len → d.acked ≡ c.acked → WasSent k side d sent
    still_sent z s =
        let x = t.was_sent live z in
        let y = o.kept z s in
        record {
          sent_as = x.sent_as;
          due_now = record {
            len = y.0;
            seq = x.due_now.seq ∙ ap (λ n. wrap (n + c.acked)) (sym o.iss) ∙ ap (λ n. wrap (d.iss + n)) (sym s);
            alike = alike_trans (seg x.sent_as.it) (due m c.state c) (due m d.state d) x.due_now.alike (alike_sym (due m d.state d) (due m c.state c) y.1);
          };
        }

    -- what is outstanding was so before: it uses no more numbers
    still_room : (0 < d.len → Still m steady Any_low (λ p f. tt) c d) → d.acked + d.len ≤ 1460 * length sent
    still_room s =
        let r = t.room live in
        elim (zero_or_more d.len) [
          | inl z ↦ omega (arith, z, near, r)
          | inr p ↦ (let y = s p in
              let a : d.len ≡ size (due m d.state d) = due_size d d.state f.state p in
              let b : c.len ≡ size (due m c.state c) = due_size c c.state (t.safe live).state y.some in
              let e : size (due m d.state d) ≡ size (due m c.state c) = size_alike (due m d.state d) (due m c.state c) (o.kept y.some y.same).1 in
              omega (arith, r, y.same, a, b, e))
        ]

    moves : (0 < d.len → Still m steady Any_low (λ p f. tt) c d) → Reported k side d sent
    moves s = record {
      fit = fit;
      lens = lens;
      room = λ x. still_room s;
      safe = λ x. f;
      was_sent = λ x z. (let y = s z in still_sent y.some y.same);
      time = t.time;
      tells = reports_on;
      repeats = t.repeats;
      agree = t.agree;
    }

    -- a new datagram that has a place
    module _ (again : Bool) (new : Sent) (who : new.who ≡ to k) (epoch : new.epoch ≡ length side.history) (mark_is : new.again ≡ again)
        (placed : occupies_sequence_space (seg new) ≡ true) (h : ReportsRun m steady Any_low (λ p f. tt) c d again (seg new)) where
      low : length (sent ++ new ∷ []) ≤ 65535 → d.acked < 4294967296
      low few = (let r = t.room live in omega (arith, few, near, r, length-append sent (new ∷ [])))

      -- an earlier datagram at its number is the same, and then this one is a repetition
      meets : length (sent ++ new ∷ []) ≤ 65535 → (j : ℕ) (e : Sent) → slice_get sent j ≡ Some e → e.who ≡ to k
          → occupies_sequence_space (seg e) ≡ true → e.epoch ≡ length side.history → (seg e).seq ≡ (seg new).seq → (again ≡ true) × Alike (seg e) (seg new)
      meets few j e x w p q s =
          elim (t.tells j e x w p q).1 [
            | inl a ↦ (let z : a.at ≡ d.acked = same_place d.iss a.at d.acked (let g = a.history in let b = low few in
                omega (arith, g, b, o.grows)) (low few) (ap (λ n. wrap (n + a.at)) o.iss ∙ sym a.seq ∙ s ∙ h.due_now.seq) in
                absurd (let g = a.history in omega (arith, g, o.grows, z)))
            | inr n ↦ (let cl : c.acked < 4294967296 = (let b = low few in omega (arith, b, o.grows)) in
                let z : c.acked ≡ d.acked = same_place d.iss c.acked d.acked cl (low few) (ap (λ x. wrap (x + c.acked)) o.iss ∙ sym n.seq
                ∙ s ∙ h.due_now.seq) in
                let y = o.kept n.len (sym z) in (
                  must again (λ b. (let g = h.new b n.len in absurd (omega (arith, g, z)))),
                  alike_trans (seg e) (due m c.state c) (seg new) n.alike
                      (alike_trans (due m c.state c) (due m d.state d) (seg new) (alike_sym (due m d.state d) (due m c.state c) y.1)
                      (alike_sym (seg new) (due m d.state d) h.due_now.alike)),
                ))
          ]
        where
          must : (b : Bool) → (b ≡ false → b ≡ true) → b ≡ true
          must true f = refl
          must false f = f refl

      before_it : again ≡ true → Before (sent ++ new ∷ []) new (length sent)
      before_it a =
          let r = h.repeated a in
          let x = t.was_sent live r.0 in
          let y = x.sent_as in
          let s : (seg y.it).seq ≡ (seg new).seq = x.due_now.seq ∙ ap (λ n. wrap (n + c.acked)) (sym o.iss) ∙ ap (λ n. wrap (d.iss + n))
          (sym r.1) ∙ sym h.due_now.seq in
          record {
            place = y.place;
            earlier = get_inside sent y.it y.place y.there;
            it = y.it;
            there = get_older sent new y.it y.place y.there;
            who = y.who ∙ sym who;
            epoch = y.epoch ∙ sym epoch;
            placed = y.placed;
            seq = s;
            alike = alike_trans (seg y.it) (due m c.state c) (seg new) x.due_now.alike
                (alike_trans (due m c.state c) (due m d.state d) (seg new) (alike_sym (due m d.state d) (due m c.state c)
                (o.kept r.0 r.1).1) (alike_sym (seg new) (due m d.state d) h.due_now.alike));
          }

      sends_placed : Reported k side d (sent ++ new ∷ [])
      sends_placed = record {
        fit = fit;
        lens = lens;
        room = λ x. (let r = t.room live in let n = lens.len in omega (arith, near, r, n, length-append sent (new ∷ [])));
        safe = λ x. f;
        was_sent = λ x z. record { sent_as = sent_newest k side sent new who epoch placed; due_now = h.due_now };
        time = λ j e x w. elim (get_push sent new j e x) [
          | older g ↦ t.time j e g w
          | newest i g ↦ (let q : e.epoch ≡ length side.history = ap (λ n. n.epoch) (sym g) ∙ epoch in omega (arith, q))
        ];
        tells = λ j e x w p q. elim (get_push sent new j e x) [
          | older g ↦ reports_on j e g w p q
          | newest i g ↦ (l, inr (subst (λ n. IsDue m steady Any_low (λ p f. tt) d (seg n)) g h.due_now))
        ];
        repeats = λ j e x w a. elim (get_push sent new j e x) [
          | older g ↦ before_more sent new e j (t.repeats j e g w a)
          | newest i g ↦ subst (λ n. Before (sent ++ new ∷ []) n j) g (subst (λ n. Before (sent ++ new ∷ []) new n) (sym i)
              (before_it (sym mark_is ∙ ap (λ n. n.again) g ∙ a)))
        ];
        agree = λ few i j e e' x y lt we wf ep pe pf se. elim (get_push sent new i e x) [
          | older g ↦ elim (get_push sent new j e' y) [
            | older g' ↦ t.agree (omega (arith, few, length-append sent (new ∷ []))) i j e e' g g' lt we wf ep pe pf se
            | newest b g' ↦ absurd (let n = get_inside sent e i g in omega (arith, n, b, lt))
          ]
          | newest b g ↦ elim (get_push sent new j e' y) [
            | older g' ↦ (let r = meets few j e' g' wf pf (sym ep ∙ ap (λ n. n.epoch) (sym g) ∙ epoch) (sym se ∙ ap (λ n. (seg n).seq) (sym g)) in
                (ap (λ n. n.again) (sym g) ∙ mark_is ∙ r.0, subst (λ n. Alike (seg e') (seg n)) g r.1))
            | newest b' g' ↦ absurd (omega (arith, b, b', lt))
          ]
        ];
      }

  pub steps_by : (w : World) (old : Connection) (o : Outcome) (k : ℕ) (side : Side) → is_live old.state ≡ true → FitConn o.connection
      → Lens o.connection → o.connection.acked ≤ old.acked + old.len → StepReports m steady Any_low (λ p f. tt) old o.connection
      (segment_of m o.connection o.step) (is_again o.step) → Reported k side old w.sent → Steps m Reported other reset evict mark w o k side
  steps_by w old o k side live fit lens near h t = record {
    quiet = λ n l. moves k side old o.connection w.sent t live l (h.onto l) (h.safe l) fit lens near
        (λ z. elim (h.still l z) [
          | inl y ↦ y
          | inr y ↦ absurd (let e : Some y.output ≡ None = sym y.is ∙ n in cc)
        ]);
    quiet_last = λ n l. leaves k side old o.connection closed w.sent refl closed_fits closed_lens t;
    says = λ s e l tick id. Rattle.uip_node.proofs.Basics.both_ways (occupies_sequence_space s)
        (λ p. sends_placed k side old o.connection w.sent t live l (h.onto l) (h.safe l) fit lens near (is_again o.step)
        (entry (to k) side tick id (model (is_again o.step) s)) refl refl refl p (h.output s e p))
        (λ p. push_silent k side o.connection w.sent (entry (to k) side tick id (model (is_again o.step) s))
        (moves k side old o.connection w.sent t live l (h.onto l) (h.safe l) fit lens near
        (λ z. elim (h.still l z) [
          | inl y ↦ y
          | inr y ↦ absurd (let q : Some y.output ≡ Some s = sym y.is ∙ e in let u : occupies_sequence_space s ≡ true = only_some
              (λ x. occupies_sequence_space x ≡ true) y.output s q y.placed in cc)
        ]))
        (λ w'. record {
          epoch = omega arith;
          unplaced = λ x. absurd (cc);
          unmarked = λ x. absurd (let u : occupies_sequence_space s ≡ true = h.marked s e x in cc);
        }));
    sends_last = λ s e l tick id. push_silent k (OneClientFact.older side o.connection) closed w.sent
        (entry (to k) (OneClientFact.older side o.connection) tick id (model (is_again o.step) s))
        (leaves k side old o.connection closed w.sent refl closed_fits closed_lens t)
        (λ w'. record {
          epoch = omega arith;
          unplaced = λ x. absurd (let u : is_live o.connection.state ≡ true = (h.output s e x).live in
              cc);
          unmarked = λ x. absurd (let u : is_live o.connection.state ≡ true = (h.output s e (h.marked s e x)).live in cc);
        });
  }

  some_mss : (n : ℕ) → 0 < (if eqb n 0 then 536 else min OWN_MSS n)
  some_mss n = choose (λ x. 0 < x) (eqb n 0) _ _ (λ e. omega arith) (λ e. (let z : 0 < n = not_zero n e in omega (arith, z)))

  mss_some : (n : Option ℕ) → 0 < first_mss n
  mss_some None = omega arith
  mss_some (Some n) = some_mss n

  pub birth : (w : World) (iss : ℕ) (sockets : Sockets) (k j : ℕ) (side : Side) (e : Sent) → client_sockets side ≡ sockets
      → slice_get w.sent j ≡ Some e → e.who ≡ from k → (is_clean side ≡ true → e.epoch ≡ length side.history) → is_plain_syn (seg e) ≡ true
      → FitConn (accepted iss sockets (seg e)) → Reported k side closed w.sent →
      (tick id : ℕ) → Reported k side (accepted iss sockets (seg e))
      (w.sent ++ entry (to k) side tick id (model false (syn_ack (accepted iss sockets (seg e)))) ∷ [])
  birth w iss sockets k j side e own sent who fresh plain fit t tick id =
      let c : Connection = accepted iss sockets (seg e) in
      let new : Sent = entry (to k) side tick id (model false (syn_ack c)) in
      let due_now : IsDue m steady Any_low (λ p f. tt) c (syn_ack c) = record { len = omega arith; seq = refl; alike = alike_refl (syn_ack c) } in
      let none : (j : ℕ) (x : Sent) → slice_get w.sent j ≡ Some x → x.who ≡ to k → occupies_sequence_space (seg x) ≡ true
      → x.epoch ≡ length side.history → ⊥ = λ j x g w p q. absurd (let z = (t.tells j x g w p q).0 in cc) in
      record {
        fit = fit;
        lens = accepted_lens iss sockets (seg e);
        room = λ l. omega (arith, length-append w.sent (new ∷ []));
        safe = λ l. record { mss = mss_some (seg e).mss; initial = mss_some (seg e).mss; state = record { len = refl; acked = refl } };
        was_sent = λ x z. record { sent_as = sent_newest k side w.sent new refl refl refl; due_now = due_now };
        time = λ i x g wh. elim (get_push w.sent new i x g) [
          | older h ↦ t.time i x h wh
          | newest b h ↦ (let q : x.epoch ≡ length side.history = ap (λ n. n.epoch) (sym h) in omega (arith, q))
        ];
        tells = λ i x g wh p q. elim (get_push w.sent new i x g) [
          | older h ↦ absurd (none i x h wh p q)
          | newest b h ↦ (refl, inr (subst (λ n. IsDue m steady Any_low (λ p f. tt) c (seg n)) h due_now))
        ];
        repeats = λ i x g wh a. elim (get_push w.sent new i x g) [
          | older h ↦ before_more w.sent new x i (t.repeats i x h wh a)
          | newest b h ↦ absurd (let z : false ≡ true = ap (λ n. n.again) h ∙ a in cc)
        ];
        agree = λ few i j x y g g' lt we wf ep pe pf se. elim (get_push w.sent new i x g) [
          | older h ↦ elim (get_push w.sent new j y g') [
            | older h' ↦ t.agree (omega (arith, few, length-append w.sent (new ∷ []))) i j x y h h' lt we wf ep pe pf se
            | newest b h' ↦ absurd (let n = get_inside w.sent x i h in omega (arith, n, b, lt))
          ]
          | newest b h ↦ elim (get_push w.sent new j y g') [
            | older h' ↦ absurd (none j y h' wf pf (sym ep ∙ ap (λ n. n.epoch) (sym h)))
            | newest b' h' ↦ absurd (omega (arith, b, b', lt))
          ]
        ];
      }

  -- a client's step leaves what the node sent unchanged
  pub takes : (w : World) (k : ℕ) (base : Side) (c : Connection) (step : ClientStep) → Reported k base c w.sent
      → Refines m Reported other reset evict mark w k base c step
  takes w k base c step t =
      let good : Reported k (with_client base step.client) c w.sent = same_past k base (with_client base step.client) c w.sent refl t in
      record {
        quiet = λ n. good;
        says = λ s e tick. push_silent k (with_client base step.client) c w.sent
            (entry (from k) (with_client base step.client) tick 0 (model false s)) good (λ x. absurd (cc));
      }

  pub opening_reported : (addr : Addr) (numbers : List ℕ) (plan : List Planned) → IsPlan plan → Framed m Reported other reset evict mark
      (initial_world addr numbers plan)
  opening_reported addr numbers plan is = record {
    apart = opening_apart plan is;
    single = λ p i j x y a b u v. absurd (let z = none_serves 10 p i x a in cc);
    each = λ k side x. (let e : serving (client_sockets side) (replicate 10 closed) ≡ closed = serving_free (replicate 10 closed)
        (client_sockets side) (none_serves 10 (client_sockets side)) in
        subst (λ c. Reported k side c []) (sym e)
        (record {
          fit = closed_fits;
          lens = closed_lens;
          room = λ l. absurd (cc);
          safe = λ l. absurd (cc);
          was_sent = λ l. absurd (cc);
          time = λ j e' y. absurd (cc);
          tells = λ j e' y. absurd (cc);
          repeats = λ j e' y. absurd (cc);
          agree = λ few i j e' f y. absurd (cc);
        }));
  }

  reported_step : (served : ℕ → Bool) (v : World) (act : Act) → Harmless m served v act → Framed m Reported other reset evict mark v
      → FitWorld v → Framed m Reported other reset evict mark (does m served v act)
  reported_step served v act harm g fits =
      does_framed m Reported other reset evict mark steady served
      (λ w old numbers now k j side e l f n is sent who fresh t.
      let o : Outcome = on_segment m old numbers (seg e) in
      let fo : FitOut o = on_segment_fits m steady old numbers (seg e) f n in
      steps_by w old (asked m now o) k side l (stepped_fits m steady Any_low (λ p f. tt) now o is fo)
      (asked_lens m now o (on_segment_lens m old numbers (seg e) t.lens))
      (near_by _ old (asked m now o).connection (asked_moves m _ old now o (segment_moves m old numbers (seg e))))
      (stepped_reports m steady Any_low (λ p f. tt) now old o is fo (segment_reports m steady Any_low (λ p f. tt) old numbers (seg e) (t.safe l))) t)
      (λ w old numbers now k side l f n is t.
      let o : Outcome = on_tick m old numbers in
      let fo : FitOut o = on_tick_fits m steady old numbers f n in
      steps_by w old (asked m now o) k side l (stepped_fits m steady Any_low (λ p f. tt) now o is fo) (asked_lens m now o (on_tick_lens m old numbers t.lens))
      (near_by _ old (asked m now o).connection (asked_moves m false old now o (tick_moves m old numbers)))
      (stepped_reports m steady Any_low (λ p f. tt) now old o is fo (tick_reports m steady Any_low (λ p f. tt) old numbers (t.safe l))) t)
      birth
      (any_step m Reported other reset evict mark takes)
      v act harm g fits

-- a content with a place is a segment
pub record IsSegment (content : Content) : Type 0 where
  pub id : ℕ
  pub segment : PlainSegment
  pub is : content ≡ OfSegment id segment

is_segment : (content : Content) → occupies_sequence_space (segment_in content) ≡ true → IsSegment content
is_segment (OfSegment id s) h = record { id = id; segment = s; is = refl }
is_segment (OfPing d) h = absurd (let z : false ≡ true = h in cc)
is_segment (OfEcho d) h = absurd (let z : false ≡ true = h in cc)

-- what is known of a world implies that it repeats the same bytes. If it has no more datagrams than it can have, it also marks
-- repeats.
module _ (m : AppSpec) (steady : IsSteady m) (w : World)
    (reported : (k : ℕ) (side : Side) → slice_get w.sides k ≡ Some side
    → Reported m steady k side (serving (client_sockets side) w.node.connections) w.sent) where
  repeats_bytes : RepeatsSameBytes w
  repeats_bytes k side x i e id s g who content again =
      let b = (reported k side x).repeats i e g who again in
      let q : seg e ≡ s = ap segment_in content in
      let c = is_segment b.it.content b.placed in
      let t : seg b.it ≡ c.segment = ap segment_in c.is in (
        b.place,
        record {
          earlier = b.earlier;
          sent = b.it;
          there = b.there;
          who = b.who;
          epoch = b.epoch;
          id = c.id;
          segment = c.segment;
          content = c.is;
          placed = ap occupies_sequence_space (sym t) ∙ b.placed;
          seq = ap (λ n. n.seq) (sym t) ∙ b.seq ∙ ap (λ n. n.seq) q;
          alike = subst (λ n. Alike c.segment n) q (subst (λ n. Alike n (seg e)) t b.alike);
        },
      )

  marks_repeats : HasRoom w → MarksRepeats w
  marks_repeats few k side x i j e f id id' s t g h lt we wf ce cf ep se pe pf =
      let q : seg e ≡ s = ap segment_in ce in
      let q' : seg f ≡ t = ap segment_in cf in
      let a = (reported k side x).agree few i j e f g h lt we wf ep (ap occupies_sequence_space q ∙ pe) (ap occupies_sequence_space q' ∙ pf)
      (ap (λ n. n.seq) q ∙ se ∙ ap (λ n. n.seq) (sym q')) in
      (a.0, subst (λ n. Alike n s) q' (subst (λ n. Alike (seg f) n) q a.1))

module _ (m : AppSpec) (steady : IsSteady m) where
  abbrev ReportedWorld : World → Type 0
  ReportedWorld v = Framed m (Reported m steady) (other m steady) (reset m steady) (evict m steady) (mark m steady) v

  reported_plainly : (w : World) → IsReachedPlainly m w → ReportedWorld w
  reported_plainly w r = reached_plainly m steady ReportedWorld (reported_step m steady) (opening_reported m steady) w r

  -- and if bytes are sent, damage or not
  reported_where : (pages : Pages) (H : Connection → Type 0) → (HasBytes pages → SendsBytesWhere m H) → (w : World) → IsReached m pages w → ReportedWorld w
  reported_where pages H bytes w r = reached_where m pages steady H bytes ReportedWorld (reported_step m steady) (opening_reported m steady) w r

pub same_bytes_plainly : SameBytesPlainly
same_bytes_plainly m steady w r = repeats_bytes m steady w (reported_plainly m steady w r).each

pub again_exactly_plainly : AgainExactlyPlainly
again_exactly_plainly m steady w r = marks_repeats m steady w (reported_plainly m steady w r).each (room_plainly m w r)

pub same_bytes_where : (m : AppSpec) (pages : Pages) (steady : IsSteady m) (H : Connection → Type 0)
    → (HasBytes pages → SendsBytesWhere m H) → (w : World) → IsReached m pages w → RepeatsSameBytes w
same_bytes_where m pages steady H bytes w r = repeats_bytes m steady w (reported_where m steady pages H bytes w r).each

pub again_exactly_where : (m : AppSpec) (pages : Pages) (steady : IsSteady m) (H : Connection → Type 0)
    → (HasBytes pages → SendsBytesWhere m H) → (w : World) → IsReached m pages w → MarksRepeats w
again_exactly_where m pages steady H bytes w r = marks_repeats m steady w (reported_where m steady pages H bytes w r).each
    (room_where m pages steady H bytes w r)

-- an application whose text is a page
pub same_bytes : SameBytes
same_bytes m pages lawful w r = same_bytes_where m pages (steady_of m pages lawful) DeliveredBytes (pages_send_bytes m pages lawful) w r

pub again_exactly : AgainExactly
again_exactly m pages lawful w r = again_exactly_where m pages (steady_of m pages lawful) DeliveredBytes (pages_send_bytes m pages lawful) w r
