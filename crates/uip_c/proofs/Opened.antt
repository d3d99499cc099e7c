-- What opening a device on Ethernet and setting a value in it give.
use Rattle.uip_c.proofs.Prelude.{◌≡◌, List, ℕ, refl, subst, sym, files_of, Addr, Mac, Network, ChangesNumbers, IsFreshFrameDevice}
use Rattle.uip_c.proofs.Prelude.{DeviceWeb, ChangesNode, IsFirstShared, IsOfImage, WebNode, first_numbers, value_spec, write_value}
use Rattle.uip_c.proofs.Prelude.{IsOpenedEther, interface_at, EtherWeb, None, web_rules}
use Rattle.frame_device.specs.contracts.ether.EthernetFrames.TheImpl.{ghosts as ether_link}
use Rattle.uip_device.specs.contracts.value_pages.ValuePagesApp.TheImpl.{ghosts}

pub opened_ether : (image : List ℕ) (own : Addr) (mac : Mac) (network : Network) (d : EtherWeb) (shared : DeviceWeb)
    → d.node.shared ≡ shared → IsFirstShared image shared
    → IsFreshFrameDevice ghosts ether_link (interface_at own mac network) (value_spec (files_of shared.web.site)) (ghosts.numbers shared)
    (web_rules None) own d → IsOpenedEther image own mac network d
opened_ether image own mac network d shared same first fresh =
    let numbered = subst (λ (l : List ℕ). IsFreshFrameDevice ghosts ether_link (interface_at own mac network)
    (value_spec (files_of shared.web.site)) l (web_rules None) own d) first.numbers fresh in
    record {
      site = subst (λ (s : DeviceWeb). IsOfImage image s.web.site) (sym same) first.site;
      fresh = record {
        files_are = refl;
        fresh = subst (λ (s : DeviceWeb). IsFreshFrameDevice ghosts ether_link (interface_at own mac network)
            (value_spec (files_of s.web.site)) (first_numbers (files_of s.web.site)) (web_rules None) own d) (sym same) numbered;
      };
    }

-- a value is set in the node of a device
pub ether_given : (number : ℕ) (text : List ℕ) (d : EtherWeb) (node : WebNode) → ChangesNode ghosts (write_value number text) d.node node
    → ChangesNumbers ghosts ether_link (write_value number text) d (record d { node = node })
ether_given number text d node changes = record {
  kept = changes.kept;
  guard = refl;
  each = λ k m own s here. record { represented = changes.represented m own s.node here.represented; acted = here.acted };
}
