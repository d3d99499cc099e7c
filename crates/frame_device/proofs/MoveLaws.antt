-- What moves in turn write.
use Rattle.frame_device.proofs.Prelude.{◌≡◌, ℕ, List, [], ◌∷◌, refl, sym, ap, ◌∙◌, subst, AppSpec, Ghosts, Addr, Station, AnsweredFrame}
use Rattle.frame_device.proofs.Prelude.{AnswersAllFrames, AnswersFrameMove, FrameMove, Gives, GuardedLink, IsFreshFrameDevice, Makes}
use Rattle.frame_device.proofs.Prelude.{RepresentsStation, Rules, Writing, frame_moves_of, frame_sent, frames_sent, guarded_link, handed_of}
use Rattle.frame_device.proofs.Prelude.{station_after_move, station_after_moves, initial_station}
use Rattle.frame_device.proofs.Prelude.{FrameDevice, Guard, GuardCounts, counts_after_moves, counts_by_move, fresh_guard}
use Rattle.frame_device.proofs.StationLaws.{answered_at, guard_by}
use Rattle.frame_device.specs.declared.frames.Frames.{Ghosts as FramesGhosts}

module _ {A S M : Type 0} (g : Ghosts A S) (h : FramesGhosts M) (k : h.Config) (m : AppSpec) (gives : Writing) (rules : Rules) (own : Addr) where
  abbrev link : GuardedLink h.Act
  link = guarded_link (h.spec k) rules

  -- one move: the device represents the station after it, and this is written
  pub record MovesOn (move : FrameMove) (a b : FrameDevice A M S) (handed : List ℕ) (s : Station h.Act) : Type 0 where
    pub kept : g.config b.node.shared ≡ g.config a.node.shared
    pub rules_are : b.guard.rules ≡ rules
    pub represented : RepresentsStation g h k m own b (station_after_move m g.served link gives move s)
    pub hands : handed ≡ frame_sent m g.served link gives own move s
    pub counted : b.guard.counts ≡ counts_by_move link g.served move s a.guard.counts

  pub moves_on : (move : FrameMove) (a b : FrameDevice A M S) (handed : List ℕ) (s : Station h.Act) → a.guard.rules ≡ rules → RepresentsStation g h k m own a s
      → AnswersFrameMove g h gives move a b handed → MovesOn move a b handed s
  moves_on (Makes call) a b handed s same represented answers =
      let it = answered_at g h k m own rules a.guard.counts a b call s handed (guard_by a.guard rules a.guard.counts same refl) represented answers in
      record {
        kept = answers.kept;
        rules_are = ap (λ (x : Guard). x.rules) it.guard_is;
        represented = it.station;
        hands = it.wrote;
        counted = ap (λ (x : Guard). x.counts) it.guard_is;
      }
  moves_on (Gives number text) a b handed s same represented changes = record {
    kept = changes.0.kept;
    rules_are = ap (λ (x : Guard). x.rules) changes.0.guard ∙ same;
    represented = changes.0.each k m own s represented;
    hands = changes.1;
    counted = ap (λ (x : Guard). x.counts) changes.0.guard;
  }

  record Goes (all : List AnsweredFrame) (a c : FrameDevice A M S) (s : Station h.Act) : Type 0 where
    frames : handed_of all ≡ frames_sent m g.served link gives own (frame_moves_of all) s
    represented : RepresentsStation g h k m own c (station_after_moves m g.served link gives (frame_moves_of all) s)
    kept : g.config c.node.shared ≡ g.config a.node.shared
    rules_are : c.guard.rules ≡ rules
    counted : c.guard.counts ≡ counts_after_moves m g.served link gives (frame_moves_of all) s a.guard.counts

  goes : (all : List AnsweredFrame) (a c : FrameDevice A M S) (s : Station h.Act) → a.guard.rules ≡ rules
      → RepresentsStation g h k m own a s → AnswersAllFrames g h gives all a c → Goes all a c s
  goes [] a c s same represented is = record {
    frames = refl;
    represented = subst (λ (d : FrameDevice A M S). RepresentsStation g h k m own d s) is represented;
    kept = ap (λ (d : FrameDevice A M S). g.config d.node.shared) (sym is);
    rules_are = ap (λ (d : FrameDevice A M S). d.guard.rules) (sym is) ∙ same;
    counted = ap (λ (d : FrameDevice A M S). d.guard.counts) (sym is);
  }
  goes (it ∷ all) a c s same represented more =
      let b = more.0 in
      let first : MovesOn it.move a b it.handed s = moves_on it.move a b it.handed s same represented more.1 in
      let next : Station h.Act = station_after_move m g.served link gives it.move s in
      let rest = goes all b c next first.rules_are first.represented more.2 in
      record {
        frames = ap (λ (l : List ℕ). l ∷ handed_of all) first.hands
            ∙ ap (λ (l : List (List ℕ)). frame_sent m g.served link gives own it.move s ∷ l) rest.frames;
        represented = rest.represented;
        kept = rest.kept ∙ first.kept;
        rules_are = rest.rules_are;
        counted = rest.counted
            ∙ ap (λ (x : GuardCounts). counts_after_moves m g.served link gives (frame_moves_of all) next x) first.counted;
      }

  module _ (numbers : List ℕ) (all : List AnsweredFrame) (old new : FrameDevice A M S) (fresh : IsFreshFrameDevice g h k m numbers rules own
      old) (answered : AnswersAllFrames g h gives all old new) where
    whole : Goes all old new (initial_station own numbers)
    whole = goes all old new (initial_station own numbers) fresh.rules_are fresh.represented answered

    pub frames_exact : handed_of all ≡ frames_sent m g.served link gives own (frame_moves_of all) (initial_station own numbers)
    frames_exact = whole.frames

    pub device_represents : RepresentsStation g h k m own new (station_after_moves m g.served link gives (frame_moves_of all) (initial_station own numbers))
    device_represents = whole.represented

    pub same_kept : (g.config new.node.shared ≡ g.config old.node.shared) × (new.guard.rules ≡ rules)
    same_kept = (whole.kept, whole.rules_are)

    pub counts_exact : new.guard.counts
        ≡ counts_after_moves m g.served link gives (frame_moves_of all) (initial_station own numbers) (fresh_guard rules).counts
    counts_exact =
        whole.counted
        ∙ ap (λ (x : GuardCounts). counts_after_moves m g.served link gives (frame_moves_of all) (initial_station own numbers) x)
        fresh.counts_are
