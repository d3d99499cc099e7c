-- What serving a line does to its environment, and how it ends.
-- [add: line-kind] An arm of `OutputConforms`: what the line has after a run.
use Rattle.std.specs.Prelude.{◌≡◌, ◌<◌, ◌⊎◌, All, Bool, length, List, Option, ℕ}
use Rattle.app_events.specs.Prelude.{AppSpec}
use Rattle.site_image.specs.Prelude.{File}
use Rattle.uip_edge.specs.declared.item.Item.{Item}
use Rattle.uip_edge.specs.declared.serve_end.ServeEnd.{ServeEnd}
use Rattle.uip_edge.specs.declared.serve_end.ServeEnd.TheVariants.{WriteFault}
use Rattle.uip_edge.specs.Prelude.{Consumes, LineView, EndsBy, WrittenBy}
use Rattle.line_medium.specs.Prelude.{MediumSpec}
use Rattle.serve_loop.specs.Prelude.{IsItem, station_events_of_line, slip_medium}
use Rattle.line_laws.specs.Prelude.{LineConformsRead}
use Rattle.ethernet_arp.specs.Prelude.{ether_medium}
use Rattle.uipd.specs.declared.status.Status.{Status}
use Rattle.uipd.specs.declared.status.Status.TheVariants.{NoMemory}
use Rattle.web_pages.specs.Prelude.{is_served, no_hits}
use Rattle.link_replay.specs.Prelude.{WebPeersArrive}
use Rattle.uipd.specs.Output.{host_at, app_spec_of, output_over, ports_of, output_model_of}
use Rattle.uipd.specs.declared.words.LineKind.{LineKind}
use Rattle.uipd.specs.declared.words.LineKind.TheVariants.{Ethernet, Serial}
use Rattle.uipd.specs.declared.words.ServedLine.{ServedLine}
use Rattle.uipd.specs.Statuses.{RunsAs, status_of_serving}

-- The line is served by an application, at these ports, with these initial shared numbers. A write fails only if there is output.
pub record ServesBy (m : AppSpec) (ports : ℕ → Bool) (numbers : List ℕ)
    (line : ServedLine) (old new : LineView) (end : ServeEnd) : Type 0 where
  pub taken : List Item
  pub are : All IsItem taken
  pub consumed : Consumes old.link.coming new.link.coming taken
  pub ends : EndsBy line.limits.items old new taken end
  pub written : WrittenBy end old.sink.written new.sink.written (output_over line.kind m ports numbers line.own line.limits.pace taken)
  pub some : end ≡ WriteFault → 0 < length (output_over line.kind m ports numbers line.own line.limits.pace taken)

-- A run ends as the serving does, or memory ran out and the line and its output are unchanged.
abbrev pub RunsBy : AppSpec → (ℕ → Bool) → List ℕ → ServedLine → LineView → LineView → Status → Type 0
RunsBy m ports numbers line old new result =
    RunsAs status_of_serving (ServesBy m ports numbers line old new) result ⊎ ((result ≡ NoMemory) × (new ≡ old))

-- What was written for the consumed items is the output of a line that conforms. The output model is that of the application with these
-- files. If a write failed, a prefix of that output was written. The pages at port 80 arrive, though the line loses datagrams.
pub record WritesKept {A : Type 0} (w : MediumSpec A) (files : List File) (line : ServedLine) (taken : List Item)
    (end : ServeEnd) (old new : Option (List ℕ)) : Type 0 where
  pub output : List ℕ
  pub keeps : LineConformsRead w (output_model_of line.application files) (ports_of line.application) line.own
      (station_events_of_line w line.own line.limits.pace taken) output
  pub written : WrittenBy end old new output
  pub arrives : WebPeersArrive is_served files keeps.line.turns

-- The same for a line of this kind.
abbrev pub OutputConforms : LineKind → List File → ServedLine → List Item → ServeEnd → Option (List ℕ) → Option (List ℕ) → Type 0
OutputConforms Serial files line taken end old new = WritesKept slip_medium files line taken end old new
OutputConforms (Ethernet mac) files line taken end old new = WritesKept (ether_medium (host_at line.own mac)) files line taken end old new

-- The line is served by its application with the files of a site, none of which was requested yet, and the output conforms.
pub record ServesSite (files : List File) (line : ServedLine) (old new : LineView) (end : ServeEnd) : Type 0 where
  pub serves : ServesBy (app_spec_of line.application files) (ports_of line.application) (no_hits files) line old new end
  pub keeps : OutputConforms line.kind files line serves.taken end old.sink.written new.sink.written

-- A run ends as this serving does, or memory ran out and the line and its output are unchanged.
abbrev pub ServeRuns : List File → ServedLine → LineView → LineView → Status → Type 0
ServeRuns files line old new result =
    RunsAs status_of_serving (ServesSite files line old new) result ⊎ ((result ≡ NoMemory) × (new ≡ old))
