-- Serving a site satisfies the guarantee.
-- [add: line-kind] Kind of line: the guarantee over its medium.
use Rattle.uipd.proofs.Prelude.{All, ℕ, List, Option, length, lit<, inl, inr, All-replicate, IsAddr, IsByte, IsPaged, IsU32, File, IsLoaded}
use Rattle.uipd.proofs.Prelude.{SiteContent, files_of, pages_of, no_hits, web_spec, made_of_bytes, keeps_page_laws, Item, ServeEnd}
use Rattle.uipd.proofs.Prelude.{WrittenBy, LineView, MediumSpec, BringsBytes, IsItem, output_by, slip_medium, station_events_of_line}
use Rattle.uipd.proofs.Prelude.{slip_brings_bytes, ether_medium, ether_brings_bytes, every_line, HasOutputModel, SendsBytes}
use Rattle.uipd.proofs.Prelude.{paged_everywhere, page_bytes, speaks_on_lines, IsSteady, steady_of, host_at, app_spec_of, output_over}
use Rattle.uipd.proofs.Prelude.{ports_of, output_model_of, OutputConforms, RunsBy, ServeRuns, WritesKept, Status, Application, Web, Desk}
use Rattle.uipd.proofs.Prelude.{LineKind, Ethernet, Serial, ServedLine, ◌≡◌, [], Bool, true, ap, ◌∙◌, sym, subst, ActsAs, AppState, DoesAs}
use Rattle.uipd.proofs.Prelude.{TraceEntry, WebPeersArrive, acts_as_itself, anywhere, desk_spec, eqb-eq, events_among, events_of_line}
use Rattle.uipd.proofs.Prelude.{initial_node, is_served, line_turns, trace_of, two_applications, web_peers_arrive}

-- what is asked of an application on a line
-- [add: application] A case for its ports and its output model.
record IsOnLines (application : Application) (files : List File) : Type 0 where
  steady : IsSteady (app_spec_of application files)
  bytes : SendsBytes (app_spec_of application files)
  speaks : HasOutputModel (app_spec_of application files) (output_model_of application files)

-- the states in which it acts as the web server
abbrev at_web : Application → AppState → Bool
at_web Web = anywhere
at_web Desk = λ q. is_served q.port

module _ (files : List File) where
  abbrev web_state : ℕ → AppState
  web_state port = record { port = port; input = []; snapshots = []; acked = 0; polls = 0; own = 0 }

  does_as_web : (q : AppState) → is_served q.port ≡ true → DoesAs (desk_spec files) (web_spec files) q
  does_as_web q e = two_applications.web files q (eqb-eq q.port 80 e)

  desk_acts : (port : ℕ) → is_served port ≡ true → ActsAs (desk_spec files) (web_spec files) port (at_web Desk)
  desk_acts port e =
      let stays = two_applications.port files in
      record {
        output = λ q h. (does_as_web q h).output;
        connected = (does_as_web (web_state port) e).connected;
        newdata = λ numbers q piece h. (does_as_web q h).newdata numbers piece;
        prepare = λ numbers q now h. (does_as_web q h).prepare numbers now;
        want = λ numbers q h. (does_as_web q h).want numbers;
        acked = λ numbers q count h. (does_as_web q h).acked numbers count;
        polled = λ numbers q h. (does_as_web q h).polled numbers;
        stays_connected = λ numbers. ap is_served (stays.connected numbers port) ∙ e;
        stays_newdata = λ numbers q piece h. ap is_served (stays.newdata numbers q piece) ∙ h;
        stays_prepare = λ numbers q now h. ap is_served (stays.prepare numbers q now) ∙ h;
        stays_acked = λ numbers q count h. ap is_served (stays.acked numbers q count) ∙ h;
        stays_polled = λ numbers q h. ap is_served (stays.polled numbers q) ∙ h;
      }

module _ (site : SiteContent) (loaded : IsLoaded site) (image : All IsByte site.image) (line : ServedLine) (is : IsAddr line.own) where
  abbrev files : List File
  files = files_of site

  on_lines : (application : Application) → IsOnLines application files
  on_lines Web =
      let laws : IsPaged (web_spec files) (pages_of files) = keeps_page_laws site loaded in
      record {
        steady = steady_of (web_spec files) (pages_of files) laws;
        bytes = page_bytes (web_spec files) (pages_of files) laws (λ delivered captures are c. made_of_bytes site image delivered captures c);
        speaks = paged_everywhere (web_spec files) (pages_of files) laws;
      }
  on_lines Desk = (let s = speaks_on_lines site loaded image in record { steady = s.steady; bytes = s.bytes; speaks = s.speaks })

  -- At port 80 each application acts as the web server.
  acts_as_web : (application : Application) (port : ℕ) → is_served port ≡ true → ActsAs (app_spec_of application files) (web_spec files)
      port (at_web application)
  acts_as_web Web port e = acts_as_itself (web_spec files) port
  acts_as_web Desk port e = desk_acts files port e

  arrives_on : {A : Type 0} (w : MediumSpec A) → BringsBytes w → (taken : List Item) → All IsItem taken
      → WebPeersArrive is_served files (trace_of (app_spec_of line.application files) (ports_of line.application)
      (events_among (station_events_of_line w line.own line.limits.pace taken)) (initial_node line.own (no_hits files)))
  arrives_on w decodes taken are =
      web_peers_arrive site loaded (app_spec_of line.application files) (at_web line.application) (on_lines line.application).steady
      (ports_of line.application) line.own (no_hits files)
      (All-replicate IsU32 (length files) 0 (lit< tt)) (events_among (station_events_of_line w line.own line.limits.pace taken))
      (events_of_line w decodes line.own line.limits.pace taken are)
      is_served (acts_as_web line.application)

  abbrev output_by_way : {A : Type 0} → MediumSpec A → List Item → List ℕ
  output_by_way w taken = output_by w (app_spec_of line.application files) (ports_of line.application) (no_hits files) line.own line.limits.pace taken

  -- what the application writes with the site
  kept_by : {A : Type 0} (w : MediumSpec A) → BringsBytes w → (taken : List Item) → All IsItem taken → (end : ServeEnd) (a b : Option (List ℕ))
      → WrittenBy end a b (output_by_way w taken) → WritesKept w files line taken end a b
  kept_by w decodes taken are end a b written =
      let s : IsOnLines line.application files = on_lines line.application in
      record {
        output = output_by_way w taken;
        keeps = every_line w decodes (app_spec_of line.application files) (output_model_of line.application files) s.steady s.bytes s.speaks
            (ports_of line.application) (no_hits files) (All-replicate IsU32 (length files) 0 (lit< tt)) line.own is line.limits.pace taken are;
        written = written;
        arrives = subst (λ (turns : List TraceEntry). WebPeersArrive is_served files turns)
            (sym (line_turns w decodes (app_spec_of line.application files) (output_model_of line.application files) s.steady s.bytes s.speaks
            (ports_of line.application) (no_hits files) (All-replicate IsU32 (length files) 0 (lit< tt)) line.own is line.limits.pace taken are))
            (arrives_on w decodes taken are);
      }

  kept_over : (kind : LineKind) (taken : List Item) → All IsItem taken → (end : ServeEnd) (a b : Option (List ℕ))
      → WrittenBy end a b (output_over kind (app_spec_of line.application files) (ports_of line.application) (no_hits files) line.own
      line.limits.pace taken) → OutputConforms kind files line taken end a b
  kept_over Serial taken are end a b written = kept_by slip_medium slip_brings_bytes taken are end a b written
  kept_over (Ethernet mac) taken are end a b written = kept_by (ether_medium (host_at line.own mac))
      (ether_brings_bytes (host_at line.own mac)) taken are end a b written

  pub site_runs : (old new : LineView) (result : Status) → RunsBy (app_spec_of line.application files) (ports_of line.application)
      (no_hits files) line old new result
      → ServeRuns files line old new result
  site_runs old new result (inl run) =
      inl (run.0, run.1, record { serves = run.2; keeps = kept_over line.kind run.2.taken run.2.are run.0 _ _ run.2.written })
  site_runs old new result (inr short) = inr short
