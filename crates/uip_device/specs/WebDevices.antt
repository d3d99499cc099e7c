-- A device with the web server of a site, whose scripts can show values.
use Rattle.std.specs.Prelude.{◌≡◌, ◌⊎◌, ◌-◌, ◌++◌, [], All, drop, Err, length, List, None, Ok, Option, Result, Some, take, ℕ, ⊤}
use Rattle.site_image.specs.Prelude.{fault, read_image, File, IsImage}
use Rattle.site_image.specs.declared.site_error.SiteError.{SiteError}
use Rattle.site_image.specs.declared.site_error.SiteWhy.TheVariants.{PageTooLong}
use Rattle.app_events.specs.Prelude.{IsByte, Pages, AppSpec}
use Rattle.file_tree.specs.Prelude.{HasSoundScripts, IsLoaded, SiteContent, files_of}
use Rattle.web_pages.specs.Prelude.{pages_by, is_served, no_hits, web_spec_by}
use Rattle.device_values.specs.Prelude.{no_values, value_given, word_calls, words}
use Rattle.uip_device.specs.contracts.value_pages.ValuePagesApp.TheImpl.{ghosts}
use Rattle.uip_device.specs.declared.device_web.DeviceWeb.{DeviceWeb}
use Rattle.uip_device.specs.declared.value_pages.ValuePages.{ValuePages}
use Rattle.uip_node.specs.Prelude.{AbstractNode, initial_node, Node}
use Rattle.uip_wire.specs.declared.addr.Addr.{Addr}
use Rattle.serve_loop.specs.Prelude.{IsNode}
use Rattle.sip_hash.specs.declared.key.Key.{Key}
use Rattle.guarded_node.specs.declared.guard.Rules.{Rules}
use Rattle.uip_device.specs.Devices.{IsFreshDevice, IsSoundDevice}
use Rattle.uip_device.specs.Moves.{Move, Writing}
use Rattle.uip_device.specs.Output.{datagrams_sent, line_sent, node_reached}
use Rattle.uip_device.specs.declared.device.Device.{Device}
use Rattle.uip_device.specs.declared.web_setup.OpenFault.{OpenFault}
use Rattle.uip_device.specs.declared.web_setup.OpenFault.TheVariants.{BadSite, NoMemory}

abbrev pub WebDevice : Type 0
WebDevice = Device ValuePages DeviceWeb

-- The web server of a device, and its pages. Its scripts call the functions of uIP, and values.
abbrev pub value_spec : List File → AppSpec
value_spec files = web_spec_by words files

abbrev pub value_pages : List File → Pages
value_pages files = pages_by words files

-- Its counters are the hits of the files, then the values. Initially no file was requested, and no value was set.
abbrev pub first_numbers : List File → List ℕ
first_numbers files = no_hits files ++ no_values

-- A value is set. The values are the last 528 counters.
abbrev pub write_value : Writing
write_value number text numbers =
    let hits : ℕ = length numbers - 528 in
    take hits numbers ++ value_given number text (drop hits numbers)

abbrev pub site_in : WebDevice → SiteContent
site_in d = d.node.shared.web.site

abbrev pub WebNode : Type 0
WebNode = Node ValuePages DeviceWeb

-- The node serves these files at the address `own`, and represents this abstract node.
pub record NodeRepresents (files : List File) (own : Addr) (it : WebNode) (n : AbstractNode) : Type 0 where
  pub files_are : files_of it.shared.web.site ≡ files
  pub node : IsNode ghosts (value_spec files) own it n

-- The device serves these files at the address `own`, and represents this abstract node.
abbrev pub DeviceRepresents : List File → Addr → WebDevice → AbstractNode → Type 0
DeviceRepresents files own d n = NodeRepresents files own d.node n

abbrev pub IsSoundWebDevice : WebDevice → Type 0
IsSoundWebDevice d = IsSoundDevice ghosts d

-- What the guard of a device goes by: its secret, if there is one, and the port of the pages.
abbrev pub web_rules : Option Key → Rules
web_rules key = record { key = key; pages = Some (record { 0 = 80 }) }

-- The device serves these files at this address, has this secret or none, was fed nothing, no file was requested, and no value was set.
pub record IsFreshWebDevice (files : List File) (own : Addr) (key : Option Key) (d : WebDevice) : Type 0 where
  pub files_are : files_of (site_in d) ≡ files
  pub fresh : IsFreshDevice ghosts (value_spec files) (first_numbers files) own (web_rules key) d

-- The site was loaded from exactly this image, which is bytes and contains its files. No page can be too long, whatever its scripts call.
pub record IsOfImage (image : List ℕ) (site : SiteContent) : Type 0 where
  pub image_is : site.image ≡ image
  pub loaded : IsLoaded site
  pub bytes : All IsByte site.image
  pub sound : HasSoundScripts word_calls (files_of site)
  pub read : read_image image ≡ Ok (files_of site)
  pub spelled : IsImage image (files_of site)

-- A fresh device at this address with the site of this image, without a secret.
pub record IsOpened (image : List ℕ) (own : Addr) (d : WebDevice) : Type 0 where
  pub site : IsOfImage image (site_in d)
  pub fresh : IsFreshWebDevice (files_of (site_in d)) own None d

-- The image contains files of which a page can be too long only because a script shows values. This is reported about the whole image.
pub record IsLongWithValues (image : List ℕ) (error : SiteError) : Type 0 where
  pub files : List File
  pub read : read_image image ≡ Ok files
  pub unsound : HasSoundScripts word_calls files → ⊥
  pub reported : error ≡ fault PageTooLong 0

-- The image has this first fault, or there is no memory, which is always possible.
abbrev pub FailsAs : List ℕ → OpenFault → Type 0
FailsAs image (BadSite error) = (read_image image ≡ Err error) ⊎ IsLongWithValues image error
FailsAs image NoMemory = ⊤

-- What the connections share at first: the site of this image, with the first numbers.
pub record IsFirstShared (image : List ℕ) (shared : DeviceWeb) : Type 0 where
  pub site : IsOfImage image shared.web.site
  pub numbers : ghosts.numbers shared ≡ first_numbers (files_of shared.web.site)

abbrev pub OpensShared : List ℕ → Result DeviceWeb OpenFault → Type 0
OpensShared image (Ok shared) = IsFirstShared image shared
OpensShared image (Err fault) = FailsAs image fault

-- A device was opened, or not, for this reason.
abbrev pub OpensDevice : List ℕ → Addr → Result WebDevice OpenFault → Type 0
OpensDevice image own (Ok d) = IsOpened image own d
OpensDevice image own (Err fault) = FailsAs image fault

-- The output of its initial node and its guard over moves: the encoded datagrams on the serial line, and the datagrams; and the node
-- after them.
abbrev pub web_line_sent : List File → Option Key → Addr → List Move → List ℕ
web_line_sent files key own moves =
    line_sent (value_spec files) is_served write_value (web_rules key) own [] moves (initial_node own (first_numbers files))

abbrev pub web_datagrams_sent : List File → Option Key → Addr → List Move → List (List ℕ)
web_datagrams_sent files key own moves =
    datagrams_sent (value_spec files) is_served write_value (web_rules key) own [] moves (initial_node own (first_numbers files))

abbrev pub web_node_after : List File → Option Key → Addr → List Move → AbstractNode
web_node_after files key own moves =
    node_reached (value_spec files) is_served write_value (web_rules key) [] moves (initial_node own (first_numbers files))
