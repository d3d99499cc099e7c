-- A device at a station: a call of it, and what a program changes between calls.
use Rattle.frame_device.proofs.Prelude.{◌≡◌, ◌∙◌, ℕ, AbstractNode, Addr, AppSpec, FrameCall, FrameDevice, Ghosts, List, RepresentsStation}
use Rattle.frame_device.proofs.Prelude.{Represents}
use Rattle.frame_device.proofs.Prelude.{Rules, Station, ap, guarded_link, output_of_call, station_after_frame_call, subst, sym}
use Rattle.app_events.specs.Prelude.{AppState}
use Rattle.frame_device.proofs.Prelude.{Guard, GuardCounts, counts_by_call}
use Rattle.frame_device.specs.FrameCalls.{AnswersFrame, guard_with, with_numbers}
use Rattle.frame_device.specs.declared.frames.Frames.{Ghosts as FramesGhosts}

pub guard_by : (x : Guard) (rules : Rules) (counts : GuardCounts) → x.rules ≡ rules → x.counts ≡ counts → x ≡ guard_with rules counts
guard_by x rules counts ruled counted =
    ap (λ (r : Rules). guard_with r x.counts) ruled ∙ ap (λ (c : GuardCounts). guard_with rules c) counted

module _ {A S M : Type 0} (g : Ghosts A S) (h : FramesGhosts M) (k : h.Config) (m : AppSpec) (own : Addr) where
  abbrev At : FrameDevice A M S → Station h.Act → Type 0
  At d s = RepresentsStation g h k m own d s

  -- the result of a call
  pub record AnsweredAt (rules : Rules) (counts : GuardCounts) (y : FrameDevice A M S) (call : FrameCall) (s : Station h.Act)
      (handed : List ℕ) : Type 0 where
    pub station : At y (station_after_frame_call m g.served (guarded_link (h.spec k) rules) call s)
    pub guard_is : y.guard ≡ guard_with rules (counts_by_call (guarded_link (h.spec k) rules) g.served s.node call counts)
    pub wrote : handed ≡ output_of_call m g.served (guarded_link (h.spec k) rules) own call s

  -- what a call leads to, if its guard has these rules and counts
  pub answered_at : (rules : Rules) (counts : GuardCounts) (x y : FrameDevice A M S) (call : FrameCall) (s : Station h.Act) (handed : List ℕ)
      → x.guard ≡ guard_with rules counts → At x s → AnswersFrame g h call x y handed → AnsweredAt rules counts y call s handed
  answered_at rules counts x y call s handed same here it =
      let ruled : x.guard.rules ≡ rules = ap (λ (guard : Guard). guard.rules) same in
      let both = subst (λ (r : Rules). At y (station_after_frame_call m g.served (guarded_link (h.spec k) r) call s)
      × (handed ≡ output_of_call m g.served (guarded_link (h.spec k) r) own call s)) ruled (it.each k m own s here) in
      let counted = subst (λ (r : Rules). y.guard.counts ≡ counts_by_call (guarded_link (h.spec k) r) g.served s.node call x.guard.counts)
      ruled (it.counts k m own s here) in
      record {
        station = both.0;
        guard_is = guard_by y.guard rules (counts_by_call (guarded_link (h.spec k) rules) g.served s.node call counts) (it.rules ∙ ruled)
            (counted ∙ ap (λ (guard : Guard). counts_by_call (guarded_link (h.spec k) rules) g.served s.node call guard.counts) same);
        wrote = both.1;
      }

  -- the numbers of the application were changed
  pub changed_at : (change : List ℕ → List ℕ) (x y : FrameDevice A M S) (s : Station h.Act) → y.frames ≡ x.frames
      → g.config y.node.shared ≡ g.config x.node.shared
      → ((n : AbstractNode) → Represents g x.node n n.history → Represents g y.node (record n { numbers = change n.numbers }) n.history)
      → At x s → At y (with_numbers change s)
  changed_at change x y s link kept changes here = record {
    represented = record {
      meant = ap (λ (c : g.Config). g.app_spec c) kept ∙ here.represented.meant;
      address = here.represented.address;
      represented = changes s.node here.represented.represented;
    };
    acted = subst (λ (frames : M). h.did frames k s.acts) (sym link) here.acted;
  }

  -- what the connections share became another value, which none of them sees
  pub shared_at : (x : FrameDevice A M S) (shared : S) (s : Station h.Act) → g.app_spec (g.config shared) ≡ g.app_spec (g.config x.node.shared)
      → g.numbers shared ≡ g.numbers x.node.shared
      → ((a : A) (p : AppState) → g.represents a (g.config x.node.shared) p → g.represents a (g.config shared) p)
      → At x s → At (record x { node = record x.node { shared = shared } }) s
  shared_at x shared s spec numbers sees here =
      let old = here.represented.represented in
      record {
        represented = record {
          meant = spec ∙ here.represented.meant;
          address = here.represented.address;
          represented = record {
            addr = old.addr;
            slots = record {
              same_length = old.slots.same_length;
              each = λ i c a in_code in_node.
                  (let each = old.slots.each i c a in_code in_node in
                  record { numbers = each.numbers; part = λ opened. sees c.app a.part (each.part opened) });
            };
            iss = old.iss;
            numbers_represented = numbers ∙ old.numbers_represented;
            counts = old.counts;
          };
        };
        acted = here.acted;
      }
