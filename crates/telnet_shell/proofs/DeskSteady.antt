-- The desk is steady: it takes back no text, and captures one snapshot at a time.
use Rattle.telnet_shell.proofs.Prelude.{◌≡◌, ℕ, ◌==◌, Bool, true, false, ◌⊎◌, inl, inr, List, [], ◌∷◌, ◌++◌, refl, if◌then◌else◌, AppState}
use Rattle.telnet_shell.proofs.Prelude.{Snapshot, File, SiteContent, IsLoaded, files_of, pages_of, web_spec, keeps_page_laws, IsSteady}
use Rattle.telnet_shell.proofs.Prelude.{steady_of, TELNET_PORT, shell_spec, is_stopped, shell_lawful, app_spec_at, desk_spec, desk_lawful}
use Rattle.telnet_shell.proofs.SessionLaws.{keeps_session}

either_capture : (p : AppState) (k : Snapshot) (takes : Bool)
    → ((if takes then record p { snapshots = p.snapshots ++ k ∷ [] } else p).snapshots ≡ p.snapshots)
    ⊎ ((if takes then record p { snapshots = p.snapshots ++ k ∷ [] } else p).snapshots ≡ p.snapshots ++ k ∷ [])
either_capture p k true = inr refl
either_capture p k false = inl refl

shell_steady : IsSteady shell_spec
shell_steady = record {
  lawful = shell_lawful (λ p. Unit {0});
  connected_acked = λ numbers port. refl;
  connected_snapshots = λ numbers port. refl;
  newdata_snapshots = λ numbers p piece. (keeps_session.delivers_text numbers p piece).snapshots;
  prepare_snapshots = λ numbers p now. either_capture p (record { numbers = numbers; now = now }) (is_stopped p);
  acked_snapshots = λ numbers p n. refl;
  polled_snapshots = λ numbers p. refl;
  connected_numbers = λ numbers port h. h;
  newdata_numbers = λ numbers p piece h. h;
  acked_numbers = λ numbers p n h. h;
  polled_numbers = λ numbers p h. h;
  ended_numbers = λ numbers p how h. h;
}

by_port : (files : List File) (shell : Bool) → IsSteady (web_spec files) → IsSteady (if shell then shell_spec else web_spec files)
by_port files true w = shell_steady
by_port files false w = w

module _ (site : SiteContent) (loaded : IsLoaded site) where
  steady_at : (port : ℕ) → IsSteady (app_spec_at (files_of site) port)
  steady_at port =
      by_port (files_of site) (port == TELNET_PORT) (steady_of (web_spec (files_of site)) (pages_of (files_of site)) (keeps_page_laws site loaded))

  pub desk_steady : IsSteady (desk_spec (files_of site))
  desk_steady = record {
    lawful = desk_lawful (files_of site) (λ p. Unit {0});
    connected_acked = λ numbers port. (steady_at port).connected_acked numbers port;
    connected_snapshots = λ numbers port. (steady_at port).connected_snapshots numbers port;
    newdata_snapshots = λ numbers p piece. (steady_at p.port).newdata_snapshots numbers p piece;
    prepare_snapshots = λ numbers p now. (steady_at p.port).prepare_snapshots numbers p now;
    acked_snapshots = λ numbers p n. (steady_at p.port).acked_snapshots numbers p n;
    polled_snapshots = λ numbers p. (steady_at p.port).polled_snapshots numbers p;
    connected_numbers = λ numbers port h. (steady_at port).connected_numbers numbers port h;
    newdata_numbers = λ numbers p piece h. (steady_at p.port).newdata_numbers numbers p piece h;
    acked_numbers = λ numbers p n h. (steady_at p.port).acked_numbers numbers p n h;
    polled_numbers = λ numbers p h. (steady_at p.port).polled_numbers numbers p h;
    ended_numbers = λ numbers p how h. (steady_at p.port).ended_numbers numbers p how h;
  }
