-- A node with the pages of a site at port 80 and the application of the program's own at its ports.
use Rattle.std.specs.Prelude.{◌≡◌, ℕ, ◌||◌, Bool, List, if◌then◌else◌}
use Rattle.c_calls.specs.Prelude.{HasOne}
use Rattle.app_events.specs.Prelude.{AppSpec}
use Rattle.app_events.specs.declared.app.App.{Ghosts}
use Rattle.app_pair.specs.PairNumbers.{pair_numbers}
use Rattle.app_pair.specs.PairRepresents.{PairRepresents}
use Rattle.app_pair.specs.PairSpec.{pair_spec}
use Rattle.file_tree.specs.Prelude.{SiteContent, files_of}
use Rattle.own_app.specs.Prelude.{is_own_port, no_message, numbers_of, own_spec}
use Rattle.own_app.specs.contracts.app.OwnAppApp.TheImpl.{ghosts as own_ghosts}
use Rattle.own_node.specs.Prelude.{OfNodeWith, is_open_state, seen_in_pair}
use Rattle.serve_loop.specs.Prelude.{IsNode}
use Rattle.site_image.specs.Prelude.{File}
use Rattle.tcp_machine.specs.Prelude.{Connection}
use Rattle.uip_both_c.specs.Kept.{BothApps, BothEther, BothNode, BothShared, Kept}
use Rattle.uip_device.specs.Prelude.{first_numbers, value_spec}
use Rattle.uip_device.specs.contracts.value_pages.ValuePagesApp.TheImpl.{ghosts as page_ghosts}
use Rattle.uip_node.specs.Prelude.{AbstractNode, connection_in}
use Rattle.uip_wire.specs.declared.addr.Addr.{Addr}
use Rattle.web_pages.specs.Prelude.{is_served}

-- What the pair states of its values, from what its two applications state.
abbrev pub both : Ghosts BothApps BothShared
both = record {
  Config = page_ghosts.Config × own_ghosts.Config;
  config = λ shared. (page_ghosts.config shared.first, own_ghosts.config shared.second);
  numbers = λ shared. pair_numbers (page_ghosts.numbers shared.first) (own_ghosts.numbers shared.second);
  app_spec = λ k. pair_spec own_ghosts.served (page_ghosts.app_spec k.0) (own_ghosts.app_spec k.1);
  represents = PairRepresents own_ghosts.served page_ghosts.represents own_ghosts.represents;
  served = λ port. page_ghosts.served port || own_ghosts.served port;
}

-- its specification with these files, the ports at which a connection opens, and the numbers at first: no file was requested, no value
-- was set, no connection of the program's application opened, and no message was written
abbrev pub both_spec : List File → AppSpec
both_spec files = pair_spec is_own_port (value_spec files) own_spec

abbrev pub is_both_port : ℕ → Bool
is_both_port port = is_served port || is_own_port port

abbrev pub first_both_numbers : List File → List ℕ
first_both_numbers files = pair_numbers (first_numbers files) (numbers_of 0 no_message)

-- the connection in a slot, as the program's application sees it: CLOSED if it is open at port 80
abbrev pub own_in : ℕ → AbstractNode → Connection
own_in slot n = seen_in_pair (connection_in slot n)

-- the port at which it opened, while the application may send on it
abbrev pub own_port_in : ℕ → AbstractNode → ℕ
own_port_in slot n = if is_open_state (own_in slot n).state then (own_in slot n).sockets.own_port.0 else 0

abbrev pub site_of : BothNode → SiteContent
site_of node = node.shared.first.web.site

-- P holds of every abstract node that the node of the device represents.
abbrev pub OfBoth : BothEther → (AbstractNode → Type 0) → Type 0
OfBoth d P = OfNodeWith both d.node P

-- The node serves these files at the address `own`, and represents this abstract node.
pub record BothRepresents (files : List File) (own : Addr) (it : BothNode) (n : AbstractNode) : Type 0 where
  pub files_are : files_of (site_of it) ≡ files
  pub node : IsNode both (both_spec files) own it n

-- There is a device, and P holds of its files and of each abstract node that its node represents.
abbrev pub HasAbstractNode : (List File → AbstractNode → Type 0) → Kept → Type 0
HasAbstractNode P kept =
    HasOne BothEther (λ d. (files : List File) (own : Addr) (n : AbstractNode) → BothRepresents files own d.node n → P files n) kept
