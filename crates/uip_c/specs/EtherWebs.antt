-- A device on Ethernet with the web server of a site, whose scripts can show values.
use Rattle.std.specs.Prelude.{◌≡◌, ℕ, List, None, Ok, Option, Result, Err}
use Rattle.site_image.specs.Prelude.{File}
use Rattle.file_tree.specs.Prelude.{SiteContent, files_of}
use Rattle.web_pages.specs.Prelude.{is_served}
use Rattle.uip_wire.specs.declared.addr.Addr.{Addr}
use Rattle.sip_hash.specs.declared.key.Key.{Key}
use Rattle.serve_loop.specs.Prelude.{initial_station, Station}
use Rattle.ethernet_arp.specs.Prelude.{Act}
use Rattle.ethernet_arp.specs.declared.mac.Mac.{Mac}
use Rattle.frame_device.specs.declared.network.Network.{Network}
use Rattle.frame_device.specs.Prelude.{FrameMove, GuardedLink, IsFreshFrameDevice, RepresentsStation, frames_sent, guarded_ether, interface_at}
use Rattle.frame_device.specs.Prelude.{station_after_moves, stations_at}
use Rattle.frame_device.specs.contracts.ether.EthernetFrames.TheImpl.{ghosts as ether_link}
use Rattle.uip_device.specs.contracts.value_pages.ValuePagesApp.TheImpl.{ghosts}
use Rattle.uip_device.specs.Prelude.{FailsAs, IsOfImage, first_numbers, value_spec, web_rules, write_value}
use Rattle.uip_device.specs.declared.web_setup.OpenFault.{OpenFault}
use Rattle.uip_c.specs.Kept.{EtherWeb}

abbrev pub ether_site : EtherWeb → SiteContent
ether_site d = d.node.shared.web.site

-- The device serves these files as this host and represents this station: an abstract node, and the events of ARP so far.
pub record EtherRepresents (files : List File) (own : Addr) (mac : Mac) (network : Network) (d : EtherWeb) (s : Station Act) : Type 0 where
  pub files_are : files_of (ether_site d) ≡ files
  pub station : RepresentsStation ghosts ether_link (interface_at own mac network) (value_spec files) own d s

-- The device serves these files as this host, learned nothing, no file was requested, and no value was set. Its guard has this key, or none.
pub record IsFreshEtherWeb (files : List File) (own : Addr) (mac : Mac) (network : Network) (key : Option Key) (d : EtherWeb) : Type 0 where
  pub files_are : files_of (ether_site d) ≡ files
  pub fresh : IsFreshFrameDevice ghosts ether_link (interface_at own mac network) (value_spec files) (first_numbers files) (web_rules key)
      own d

-- A fresh device as this host with the site of this image, or the reason why there is none.
pub record IsOpenedEther (image : List ℕ) (own : Addr) (mac : Mac) (network : Network) (d : EtherWeb) : Type 0 where
  pub site : IsOfImage image (ether_site d)
  pub fresh : IsFreshEtherWeb (files_of (ether_site d)) own mac network None d

abbrev pub OpensEtherWeb : List ℕ → Addr → Mac → Network → Result EtherWeb OpenFault → Type 0
OpensEtherWeb image own mac network (Ok d) = IsOpenedEther image own mac network d
OpensEtherWeb image own mac network (Err fault) = FailsAs image fault

-- The link of the device, with its guard under this key.
abbrev pub web_link : Addr → Mac → Network → Option Key → GuardedLink Act
web_link own mac network key = guarded_ether (interface_at own mac network) (web_rules key)

-- The frame that the initial node with its guard and its link send at each move, or no bytes; the station after the moves; and the
-- stations at which they are made.
abbrev pub web_frames_sent : List File → Addr → Mac → Network → Option Key → List FrameMove → List (List ℕ)
web_frames_sent files own mac network key moves =
    frames_sent (value_spec files) is_served (web_link own mac network key) write_value own moves
    (initial_station own (first_numbers files))

abbrev pub web_station_after : List File → Addr → Mac → Network → Option Key → List FrameMove → Station Act
web_station_after files own mac network key moves =
    station_after_moves (value_spec files) is_served (web_link own mac network key) write_value moves
    (initial_station own (first_numbers files))

abbrev pub web_stations : List File → Addr → Mac → Network → Option Key → List FrameMove → List (Station Act)
web_stations files own mac network key moves =
    stations_at (value_spec files) is_served (web_link own mac network key) write_value moves (initial_station own (first_numbers files))
