-- The output model of the desk at each port: the shell's session at port 23, and the pages of its files at any other.
use Rattle.desk_laws.proofs.Prelude.{All, ◌≡◌, ℕ, ◌<◌, ◌≤◌, ◌==◌, Bool, true, false, not, inl, inr, List, [], ◌++◌, length, refl, sym, ap}
use Rattle.desk_laws.proofs.Prelude.{◌∙◌, subst, arith, append-nil, if◌then◌else◌, eqb-true, IsSnapshot, IsPaged, MayWant, AppSpec}
use Rattle.desk_laws.proofs.Prelude.{Snapshot, AppState, Now, Want, Close, File, SiteContent, IsLoaded, files_of, pages_of, web_spec}
use Rattle.desk_laws.proofs.Prelude.{keeps_page_laws, choose, not-true, IsServed, World, Side, AtPorts, ReceivesSome, KeepsReceived}
use Rattle.desk_laws.proofs.Prelude.{Speaker, HasOutputModel, page_by, TELNET_PORT, desk_spec, app_spec_at, at_shell, at_web, StaysAtPort}
use Rattle.desk_laws.proofs.Prelude.{is_stopped, shell_spec, take_capture, DeliversPrefix, sessions, desk_steady, keeps_session}
use Rattle.desk_laws.proofs.Prelude.{two_applications}
use Rattle.desk_laws.proofs.ShortSessions.{sessions_short}

abbrev pub session_speaker : Speaker
session_speaker = record {
  text = sessions.page;
  whole = sessions.complete;
  at = λ port. port == TELNET_PORT;
  here = λ p. p.port == TELNET_PORT;
  lost = λ p. p.own == 1;
}

abbrev pub web_speaker : List File → Speaker
web_speaker files = record {
  text = (pages_of files).page;
  whole = (pages_of files).complete;
  at = λ port. not (port == TELNET_PORT);
  here = λ p. not (p.port == TELNET_PORT);
  lost = λ p. false;
}

-- what holds of each application holds of the desk at its port
as_shell : (files : List File) (port : ℕ) (P : AppSpec → Type 0) → (port == TELNET_PORT) ≡ true → P shell_spec → P (app_spec_at files port)
as_shell files port P h x = subst P (sym (at_shell files port h)) x

as_web : (files : List File) (port : ℕ) (P : AppSpec → Type 0) → not (port == TELNET_PORT) ≡ true → P (web_spec files) → P (app_spec_at files port)
as_web files port P h x = subst P (sym (at_web files port (not-true (port == TELNET_PORT) h))) x

module _ (site : SiteContent) (loaded : IsLoaded site) where
  abbrev files : List File
  files = files_of site

  abbrev desk : AppSpec
  desk = desk_spec (files_of site)

  keeps_port : StaysAtPort desk
  keeps_port = two_applications.port files

  -- ---- the shell's talk

  short_session : (q : List ℕ) (k : List Snapshot) → length q ≤ 4096 → All IsSnapshot k → length (sessions.page q k) < 1073741824
  short_session q k l all = omega (arith, sessions_short q k all, l)

  still_session : (p q : AppState) → q.port ≡ p.port → session_speaker.here p ≡ true → session_speaker.here q ≡ true
  still_session p q e h = ap (λ (n : ℕ). n == TELNET_PORT) e ∙ h

  session_receives : (numbers : List ℕ) (p : AppState) (piece : List ℕ) → session_speaker.here p ≡ true
      → ReceivesSome session_speaker p (desk.newdata numbers p piece).part piece
  session_receives numbers p piece h =
      let f : DeliversPrefix p (shell_spec.newdata numbers p piece).part piece = keeps_session.delivers_text numbers p piece in
      let port : (desk.newdata numbers p piece).part.port ≡ p.port = keeps_port.newdata numbers p piece in
      as_shell files p.port (λ m. (m.newdata numbers p piece).part.port ≡ p.port → ReceivesSome session_speaker p (m.newdata numbers p piece).part piece) h
      (λ e. record {
        here = still_session p (shell_spec.newdata numbers p piece).part e h;
        prefix = f.prefix;
        rest = f.rest;
        joined = f.joined;
        input = f.input;
        all = elim (f.all) [ inl e ↦ inl e | inr e ↦ inr (ap (λ (n : ℕ). n == 1) e) ];
        no_more = λ l. (let own : p.own ≡ 1 = eqb-true p.own 1 l in (
          keeps_session.delivers_no_more numbers p piece own,
          ap (λ (n : ℕ). n == 1) (keeps_session.stays_lost numbers p piece own),
        ));
      }) port

  -- a call that leaves what was received unchanged
  session_keeps : (p q : AppState) → q.port ≡ p.port → session_speaker.here p ≡ true → (q.input ≡ p.input) × (q.own ≡ p.own) → KeepsReceived session_speaker p q
  session_keeps p q e h x = record { here = still_session p q e h; input = x.0; lost = ap (λ (n : ℕ). n == 1) x.1 }

  session_prepares : (numbers : List ℕ) (p : AppState) (now : Now) → session_speaker.here p ≡ true
      → KeepsReceived session_speaker p (desk.prepare numbers p now)
  session_prepares numbers p now h =
      as_shell files p.port (λ m. (m.prepare numbers p now).port ≡ p.port → KeepsReceived session_speaker p (m.prepare numbers p now)) h
      (λ e. session_keeps p (shell_spec.prepare numbers p now) e h
      (choose (λ (q : AppState). (q.input ≡ p.input) × (q.own ≡ p.own)) (is_stopped p) (take_capture numbers p now) p (λ s. (refl, refl)) (λ s. (refl, refl))))
      (keeps_port.prepare numbers p now)

  session_acked : (numbers : List ℕ) (p : AppState) (n : ℕ) → session_speaker.here p ≡ true → KeepsReceived session_speaker p (desk.acked numbers p n).part
  session_acked numbers p n h =
      as_shell files p.port (λ m. (m.acked numbers p n).part.port ≡ p.port → KeepsReceived session_speaker p (m.acked numbers p n).part) h
      (λ e. session_keeps p (shell_spec.acked numbers p n).part e h (refl, refl)) (keeps_port.acked numbers p n)

  session_polled : (numbers : List ℕ) (p : AppState) → session_speaker.here p ≡ true → KeepsReceived session_speaker p (desk.polled numbers p).part
  session_polled numbers p h =
      as_shell files p.port (λ m. (m.polled numbers p).part.port ≡ p.port → KeepsReceived session_speaker p (m.polled numbers p).part) h
      (λ e. session_keeps p (shell_spec.polled numbers p).part e h (refl, refl)) (keeps_port.polled numbers p)

  session_closes : (numbers : List ℕ) (p : AppState) → session_speaker.here p ≡ true → p.acked ≤ length (desk.output p)
      → desk.want numbers p ≡ Close → MayWant (page_by session_speaker) p Close
  session_closes numbers p h =
      as_shell files p.port (λ m. p.acked ≤ length (m.output p) → m.want numbers p ≡ Close → MayWant (page_by session_speaker) p Close) h
      (λ fits e. subst (λ (w : Want). MayWant sessions p w) e (keeps_session.wants numbers p fits))

  session_speaks : HasOutputModel desk session_speaker
  session_speaks = record {
    steady = desk_steady site loaded;
    grows = keeps_session.grows;
    stays = keeps_session.stays;
    stays_complete = keeps_session.stays_complete;
    short = short_session;
    output = λ p h. as_shell files p.port (λ m. m.output p ≡ sessions.page p.input p.snapshots) h (keeps_session.output p);
    connected_here = λ numbers port h. ap (λ (n : ℕ). n == TELNET_PORT) (keeps_port.connected numbers port) ∙ h;
    connected_input = λ numbers port h. as_shell files port (λ m. (m.connected numbers port).part.input ≡ []) h refl;
    newdata = session_receives;
    prepare = session_prepares;
    acked = session_acked;
    polled = session_polled;
    closes = session_closes;
  }

  -- ---- the pages of its files

  web_laws : IsPaged (web_spec files) (pages_of files)
  web_laws = keeps_page_laws site loaded

  still_web : (p q : AppState) → q.port ≡ p.port → (web_speaker files).here p ≡ true → (web_speaker files).here q ≡ true
  still_web p q e h = ap (λ (n : ℕ). not (n == TELNET_PORT)) e ∙ h

  web_keeps : (p q : AppState) → q.port ≡ p.port → (web_speaker files).here p ≡ true → q.input ≡ p.input → KeepsReceived (web_speaker files) p q
  web_keeps p q e h x = record { here = still_web p q e h; input = x; lost = refl }

  web_receives : (numbers : List ℕ) (p : AppState) (piece : List ℕ) → (web_speaker files).here p ≡ true → ReceivesSome (web_speaker files) p
      (desk.newdata numbers p piece).part piece
  web_receives numbers p piece h = record {
    here = still_web p (desk.newdata numbers p piece).part (keeps_port.newdata numbers p piece) h;
    prefix = piece;
    rest = [];
    joined = append-nil piece;
    input = as_web files p.port (λ m. (m.newdata numbers p piece).part.input ≡ p.input ++ piece) h (web_laws.newdata_input numbers p piece);
    all = inl refl;
    no_more = λ e. absurd (cc);
  }

  web_closes : (numbers : List ℕ) (p : AppState) → (web_speaker files).here p ≡ true → p.acked ≤ length (desk.output p)
      → desk.want numbers p ≡ Close → MayWant (page_by (web_speaker files)) p Close
  web_closes numbers p h fits =
      as_web files p.port (λ m. m.want numbers p ≡ Close → MayWant (page_by (web_speaker files)) p Close) h
      (λ e. subst (λ (w : Want). MayWant (pages_of files) p w) e (web_laws.wants numbers p))

  web_speaks : HasOutputModel desk (web_speaker files)
  web_speaks = record {
    steady = desk_steady site loaded;
    grows = web_laws.grows;
    stays = web_laws.stays;
    stays_complete = web_laws.stays_complete;
    short = λ q k l all. web_laws.short q k all;
    output = λ p h. as_web files p.port (λ m. m.output p ≡ (pages_of files).page p.input p.snapshots) h (web_laws.output p);
    connected_here = λ numbers port h. ap (λ (n : ℕ). not (n == TELNET_PORT)) (keeps_port.connected numbers port) ∙ h;
    connected_input = λ numbers port h. as_web files port (λ m. (m.connected numbers port).part.input ≡ []) h (web_laws.connected_input numbers port);
    newdata = web_receives;
    prepare = λ numbers p now h. web_keeps p (desk.prepare numbers p now) (keeps_port.prepare numbers p now) h
        (as_web files p.port (λ m. (m.prepare numbers p now).input ≡ p.input) h (web_laws.prepare_input numbers p now));
    acked = λ numbers p n h. web_keeps p (desk.acked numbers p n).part (keeps_port.acked numbers p n) h
        (as_web files p.port (λ m. (m.acked numbers p n).part.input ≡ p.input) h (web_laws.acked_input numbers p n));
    polled = λ numbers p h. web_keeps p (desk.polled numbers p).part (keeps_port.polled numbers p) h
        (as_web files p.port (λ m. (m.polled numbers p).part.input ≡ p.input) h (web_laws.polled_same numbers p).input);
    closes = web_closes;
  }

  -- ---- at each port

  abbrev pub speaker_by : Bool → Speaker
  speaker_by shell = if shell then session_speaker else web_speaker files

  pub speaks_by : (shell : Bool) → HasOutputModel desk (speaker_by shell)
  speaks_by true = session_speaks
  speaks_by false = web_speaks

  pub there_by : (port : ℕ) (shell : Bool) → (port == TELNET_PORT) ≡ shell → (speaker_by shell).at port ≡ true
  there_by port true e = e
  there_by port false e = ap (λ (b : Bool). not b) e

  abbrev pub desk_ports : AtPorts desk
  desk_ports = record {
    of = λ port. speaker_by (port == TELNET_PORT);
    laws = λ port. speaks_by (port == TELNET_PORT);
    there = λ port. there_by port (port == TELNET_PORT) refl;
  }

  -- what is served by a speaker is due
  pub served_due : (w : World) (side : Side) (shell : Bool) → IsServed (page_by (speaker_by shell)) w side
      → IsServed (if shell then sessions else pages_of files) w side
  served_due w side true h = record { prefix = h.prefix; all = h.all; whole = h.whole }
  served_due w side false h = record { prefix = h.prefix; all = h.all; whole = h.whole }
