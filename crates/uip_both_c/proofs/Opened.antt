-- What opening a device and setting a value in it give.
use Rattle.uip_both_c.proofs.Prelude.{◌≡◌, Addr, BothEther, BothNode, BothShared, ChangesNode, ChangesNumbers, DeviceWeb, IsFirstShared}
use Rattle.uip_both_c.proofs.Prelude.{IsFreshFrameDevice, IsOfImage, IsOpenedBoth, List, Mac, Network, None, OwnShared, PlainMessage, ap}
use Rattle.uip_both_c.proofs.Prelude.{both, both_rules, both_spec, change_own, false, files_of, first_both_numbers, first_numbers}
use Rattle.uip_both_c.proofs.Prelude.{interface_at, message_of, no_message, numbers_of, pair_numbers, refl, subst, sym, write_value, ℕ, []}
use Rattle.uip_both_c.proofs.Prelude.{◌∙◌}
use Rattle.frame_device.specs.contracts.ether.EthernetFrames.TheImpl.{ghosts as ether_link}

abbrev shared_of : DeviceWeb → OwnShared → BothShared
shared_of first second = record { first = first; second = second }

first_numbered : (image : List ℕ) (first : DeviceWeb) (second : OwnShared) → IsFirstShared image first → second.opened ≡ 0
    → message_of second.message ≡ no_message
    → both.numbers (shared_of first second) ≡ first_both_numbers (files_of first.web.site)
first_numbered image first second its opened none =
    ap (λ (l : List ℕ). pair_numbers l (numbers_of second.opened (message_of second.message))) its.numbers
    ∙ ap (λ (k : ℕ). pair_numbers (first_numbers (files_of first.web.site)) (numbers_of k (message_of second.message))) opened
    ∙ ap (λ (m : PlainMessage). pair_numbers (first_numbers (files_of first.web.site)) (numbers_of 0 m)) none

pub opened_both : (image : List ℕ) (own : Addr) (mac : Mac) (network : Network) (d : BothEther) (first : DeviceWeb) (second : OwnShared)
    → d.node.shared ≡ shared_of first second → IsFirstShared image first → second.opened ≡ 0 → message_of second.message ≡ no_message → second.ports.items ≡ []
    → IsFreshFrameDevice both ether_link (interface_at own mac network) (both_spec (files_of first.web.site))
    (both.numbers (shared_of first second)) (both_rules None) own d
    → IsOpenedBoth image own mac network d
opened_both image own mac network d first second same its opened none ports fresh =
    let numbered = subst (λ (l : List ℕ). IsFreshFrameDevice both ether_link (interface_at own mac network)
    (both_spec (files_of first.web.site)) l (both_rules None) own d)
    (first_numbered image first second its opened none) fresh in
    record {
      site = subst (λ (s : BothShared). IsOfImage image s.first.web.site) (sym same) its.site;
      fresh = record {
        files_are = refl;
        fresh = subst (λ (s : BothShared). IsFreshFrameDevice both ether_link (interface_at own mac network)
            (both_spec (files_of s.first.web.site)) (first_both_numbers (files_of s.first.web.site)) (both_rules None) own d)
            (sym same) numbered;
        ports = ap (λ (s : BothShared). s.second.ports.items) same ∙ ports;
      };
    }

-- a value is set in the node of a device
pub both_given : (number : ℕ) (text : List ℕ) (d : BothEther) (node : BothNode) → ChangesNode both (change_own false (write_value number text)) d.node node
    → ChangesNumbers both ether_link (change_own false (write_value number text)) d (record d { node = node })
both_given number text d node changes = record {
  kept = changes.kept;
  guard = refl;
  each = λ k m own s here. record { represented = changes.represented m own s.node here.represented; acted = here.acted };
}
