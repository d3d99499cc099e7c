-- The output for the items of a line.
-- [add: application] Application: `app_spec_of`, `ports_of` and `output_model_of`.
-- [add: line-kind] Kind of line: an arm of `output_over`.
use Rattle.std.specs.Prelude.{ℕ, Bool, List}
use Rattle.app_events.specs.Prelude.{AppSpec}
use Rattle.site_image.specs.Prelude.{File}
use Rattle.node_laws.specs.Prelude.{OutputModel, at_every_port}
use Rattle.web_pages.specs.Prelude.{pages_of, is_served, no_hits, web_spec}
use Rattle.telnet_shell.specs.DeskLines.{desk_output_model}
use Rattle.telnet_shell.specs.DeskSpec.{desk_spec, is_served_at}
use Rattle.uip_edge.specs.declared.item.Item.{Item}
use Rattle.uip_wire.specs.declared.addr.Addr.{Addr}
use Rattle.serve_loop.specs.Prelude.{output_by, slip_medium}
use Rattle.ethernet_arp.specs.Prelude.{ether_medium, Host}
use Rattle.ethernet_arp.specs.declared.mac.Mac.{Mac}
use Rattle.uipd.specs.declared.words.Application.{Application}
use Rattle.uipd.specs.declared.words.Application.TheVariants.{Web, Desk}
use Rattle.uipd.specs.declared.words.LineKind.{LineKind}
use Rattle.uipd.specs.declared.words.LineKind.TheVariants.{Ethernet, Serial}
use Rattle.uipd.specs.declared.words.ServedLine.{ServedLine}

-- the specification of an application with the files of a site
abbrev pub app_spec_of : Application → List File → AppSpec
app_spec_of Web files = web_spec files
app_spec_of Desk files = desk_spec files

-- the ports that it serves
abbrev pub ports_of : Application → ℕ → Bool
ports_of Web = is_served
ports_of Desk = is_served_at

-- its output model at a port
abbrev pub output_model_of : Application → List File → ℕ → OutputModel
output_model_of Web files = at_every_port (pages_of files)
output_model_of Desk files = desk_output_model files

-- the host of a node with a hardware address
abbrev pub host_at : Addr → Mac → Host
host_at own mac = record { addr = own.0; mac = mac.0 }

-- the output for the items of a serial line, or over Ethernet with a hardware address
abbrev pub output_over : LineKind → AppSpec → (ℕ → Bool) → List ℕ → Addr → ℕ → List Item → List ℕ
output_over Serial m ports numbers own pace items = output_by slip_medium m ports numbers own pace items
output_over (Ethernet mac) m ports numbers own pace items =
    output_by (ether_medium (host_at own mac)) m ports numbers own pace items

-- with the files of a site, of which none was requested yet
abbrev pub output_of : List File → ServedLine → List Item → List ℕ
output_of files line items =
    output_over line.kind (app_spec_of line.application files) (ports_of line.application) (no_hits files) line.own line.limits.pace items
