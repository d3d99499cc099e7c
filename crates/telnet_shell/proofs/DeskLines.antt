-- What the desk satisfies on a line.
use Rattle.telnet_shell.proofs.Prelude.{All, ◌≡◌, ℕ, ◌==◌, ◌≤◌, Bool, true, false, inl, inr, List, [], length, refl, sym, ap, ◌∙◌, subst}
use Rattle.telnet_shell.proofs.Prelude.{append-nil, if◌then◌else◌, eqb-true, IsByte, IsPaged, MayWant, AppState, Now, File, SiteContent}
use Rattle.telnet_shell.proofs.Prelude.{IsLoaded, files_of, pages_of, is_served, web_spec, made_of_bytes, keeps_page_laws, Paged}
use Rattle.telnet_shell.proofs.Prelude.{Interactive, Free, AcceptsPrefix, IsPagedAt, FollowsPagesAt, LeavesDelivered, HasOutputModel}
use Rattle.telnet_shell.proofs.Prelude.{FollowsModelAt, SendsBytes, page_bytes, TELNET_PORT, DeskSpeaksOnLines, desk_output_model}
use Rattle.telnet_shell.proofs.Prelude.{desk_spec, DoesAs, is_stopped, shell_spec, take_capture, session, DeliversPrefix, sessions}
use Rattle.telnet_shell.proofs.Prelude.{StaysAtPort}
use Rattle.telnet_shell.proofs.SessionLaws.{keeps_session}
use Rattle.telnet_shell.proofs.DeskSteady.{desk_steady}
use Rattle.telnet_shell.proofs.TwoBytes.{desk_bytes}
use Rattle.telnet_shell.proofs.TwoApplications.{two_applications}

module _ (site : SiteContent) (loaded : IsLoaded site) (image : All IsByte site.image) where
  abbrev files : List File
  files = files_of site

  web_laws : IsPaged (web_spec files) (pages_of files)
  web_laws = keeps_page_laws site loaded

  outputs_bytes : SendsBytes (desk_spec files)
  outputs_bytes = desk_bytes files (page_bytes (web_spec files) (pages_of files) web_laws (λ delivered captures are c. made_of_bytes site
      image delivered captures c))

  -- ---- pages at port 80

  keeps_port : StaysAtPort (desk_spec files)
  keeps_port = two_applications.port files

  stays_at : (port : ℕ) (p q : AppState) → q.port ≡ p.port → (p.port == port) ≡ true → (q.port == port) ≡ true
  stays_at port p q e h = ap (λ (n : ℕ). n == port) e ∙ h

  abbrev is_page_part : AppState → Bool
  is_page_part p = p.port == 80

  does_as_web : (p : AppState) → is_page_part p ≡ true → DoesAs (desk_spec files) (web_spec files) p
  does_as_web p h = two_applications.web files p (eqb-true p.port 80 h)

  page_wants : (numbers : List ℕ) (p : AppState) → is_page_part p ≡ true → MayWant (pages_of files) p ((desk_spec files).want numbers p)
  page_wants numbers p h = subst (λ w. MayWant (pages_of files) p w) (sym ((does_as_web p h).want numbers)) (web_laws.wants numbers p)

  web_reported : FollowsPagesAt (desk_spec files) 80 (pages_of files)
  web_reported = record {
    grows = web_laws.grows;
    stays = web_laws.stays;
    stays_complete = web_laws.stays_complete;
    here = is_page_part;
    lost = λ p. false;
    output = λ p h. (does_as_web p h).output ∙ web_laws.output p;
    connected = λ numbers. (ap (λ (n : ℕ). n == 80) (keeps_port.connected numbers 80), web_laws.connected_input numbers 80);
    newdata = λ numbers p piece h. record {
      prefix = piece;
      rest = [];
      joined = append-nil piece;
      input = (
        stays_at 80 p ((desk_spec files).newdata numbers p piece).part (keeps_port.newdata numbers p piece) h,
        ap (λ a. a.part.input) ((does_as_web p h).newdata numbers piece) ∙ web_laws.newdata_input numbers p piece,
      );
      all = inl refl;
      no_more = λ e. absurd (cc);
    };
    prepare = λ numbers p now h. (
      (
        stays_at 80 p ((desk_spec files).prepare numbers p now) (keeps_port.prepare numbers p now) h,
        ap (λ q. q.input) ((does_as_web p h).prepare numbers now) ∙ web_laws.prepare_input numbers p now,
      ),
      refl,
    );
    acked = λ numbers p n h. (
      (
        stays_at 80 p ((desk_spec files).acked numbers p n).part (keeps_port.acked numbers p n) h,
        ap (λ a. a.part.input) ((does_as_web p h).acked numbers n) ∙ web_laws.acked_input numbers p n,
      ),
      refl,
    );
    polled = λ numbers p h. (
      (
        stays_at 80 p ((desk_spec files).polled numbers p).part (keeps_port.polled numbers p) h,
        ap (λ a. a.part.input) ((does_as_web p h).polled numbers) ∙ (web_laws.polled_same numbers p).input,
      ),
      refl,
    );
    closes = λ numbers p h fits e. subst (λ w. MayWant (pages_of files) p w) e (page_wants numbers p h);
  }

  web_pages : IsPagedAt (desk_spec files) 80 (pages_of files)
  unfolding web_reported
  web_pages = record { follows = web_reported; accepts_all = λ p. refl; short = web_laws.short }

  -- ---- the shell's talk at port 23

  abbrev is_session_part : AppState → Bool
  is_session_part p = p.port == 23

  -- it was given up
  abbrev is_lost : AppState → Bool
  is_lost p = p.own == 1

  does_as_shell : (p : AppState) → is_session_part p ≡ true → DoesAs (desk_spec files) shell_spec p
  does_as_shell p h = two_applications.shell files p (eqb-true p.port 23 h)

  session_received : (numbers : List ℕ) (p : AppState) (piece : List ℕ) → is_session_part p ≡ true → AcceptsPrefix is_session_part is_lost p
      ((desk_spec files).newdata numbers p piece).part piece
  session_received numbers p piece h =
      let q : AppState = ((desk_spec files).newdata numbers p piece).part in
      let r : AppState = (shell_spec.newdata numbers p piece).part in
      let same : q ≡ r = ap (λ a. a.part) ((does_as_shell p h).newdata numbers piece) in
      let f : DeliversPrefix p r piece = keeps_session.delivers_text numbers p piece in
      record {
        prefix = f.prefix;
        rest = f.rest;
        joined = f.joined;
        input = (stays_at 23 p q (keeps_port.newdata numbers p piece) h, ap (λ (x : AppState). x.input) same ∙ f.input);
        all = elim (f.all) [ inl e ↦ inl e | inr e ↦ inr (ap (λ (x : AppState). is_lost x) same ∙ ap (λ (n : ℕ). n == 1) e) ];
        no_more = λ e. (let own : p.own ≡ 1 = eqb-true p.own 1 e in (
          ap (λ (x : AppState). x.input) same ∙ keeps_session.delivers_no_more numbers p piece own,
          ap (λ (x : AppState). is_lost x) same ∙ ap (λ (n : ℕ). n == 1) (keeps_session.stays_lost numbers p piece own),
        ));
      }

  either_prepared : (p : AppState) (numbers : List ℕ) (now : Now) (stops : Bool)
      → (let q : AppState = if stops then take_capture numbers p now else p in (q.input ≡ p.input) × (is_lost q ≡ is_lost p))
  either_prepared p numbers now true = (refl, refl)
  either_prepared p numbers now false = (refl, refl)

  session_left : (p q r : AppState) → q ≡ r → q.port ≡ p.port → is_session_part p ≡ true → (r.input ≡ p.input) × (is_lost r ≡ is_lost p)
      → LeavesDelivered is_session_part is_lost p q
  session_left p q r same port h x = (
    (stays_at 23 p q port h, ap (λ (y : AppState). y.input) same ∙ x.0),
    ap (λ (y : AppState). is_lost y) same ∙ x.1,
  )

  session_reported : FollowsPagesAt (desk_spec files) 23 sessions
  session_reported = record {
    grows = keeps_session.grows;
    stays = keeps_session.stays;
    stays_complete = keeps_session.stays_complete;
    here = is_session_part;
    lost = is_lost;
    output = λ p h. (does_as_shell p h).output ∙ keeps_session.output p;
    connected = λ numbers. (ap (λ (n : ℕ). n == 23) (keeps_port.connected numbers 23), refl);
    newdata = session_received;
    prepare = λ numbers p now h. session_left p ((desk_spec files).prepare numbers p now) (shell_spec.prepare numbers p now)
        ((does_as_shell p h).prepare numbers now) (keeps_port.prepare numbers p now) h (either_prepared p numbers now (is_stopped p));
    acked = λ numbers p n h. session_left p ((desk_spec files).acked numbers p n).part (shell_spec.acked numbers p n).part
        (ap (λ a. a.part) ((does_as_shell p h).acked numbers n)) (keeps_port.acked numbers p n) h (refl, refl);
    polled = λ numbers p h. session_left p ((desk_spec files).polled numbers p).part (shell_spec.polled numbers p).part
        (ap (λ a. a.part) ((does_as_shell p h).polled numbers)) (keeps_port.polled numbers p) h (refl, refl);
    closes = λ numbers p h fits e.
        let output : (desk_spec files).output p ≡ session p = (does_as_shell p h).output in
        let low : p.acked ≤ length (session p) = subst (λ (t : List ℕ). p.acked ≤ length t) output fits in
        subst (λ w. MayWant sessions p w) (sym ((does_as_shell p h).want numbers) ∙ e) (keeps_session.wants numbers p low);
  }

  -- ---- at each port

  at_shell_port : (port : ℕ) (shell : Bool) → (port == TELNET_PORT) ≡ shell → FollowsModelAt (desk_spec files) port
      (if shell then Interactive sessions else Free)
  at_shell_port port true e = subst (λ (n : ℕ). FollowsPagesAt (desk_spec files) n sessions) (sym (eqb-true port 23 e)) session_reported
  at_shell_port port false e = tt

  by_port : (port : ℕ) (served : Bool) → is_served port ≡ served → FollowsModelAt (desk_spec files) port
      (if served then Paged (pages_of files) else if port == TELNET_PORT then Interactive sessions else Free)
  by_port port true e = subst (λ (n : ℕ). IsPagedAt (desk_spec files) n (pages_of files)) (sym (eqb-true port 80 e)) web_pages
  by_port port false e = at_shell_port port (port == TELNET_PORT) refl

  desk_speaks : HasOutputModel (desk_spec files) (desk_output_model files)
  desk_speaks port = by_port port (is_served port) refl

pub speaks_on_lines : DeskSpeaksOnLines
speaks_on_lines site loaded image = record { steady = desk_steady site loaded; bytes = outputs_bytes site loaded image; speaks = desk_speaks site loaded image }
