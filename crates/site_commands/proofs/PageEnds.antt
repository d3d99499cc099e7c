-- A page that was written ends as is due.
use Rattle.site_commands.proofs.Prelude.{ℕ, List, Option, None, Some, Result, Ok, sym, ap, subst, inl, inr, option_map, Files, SiteError}
use Rattle.site_commands.proofs.Prelude.{◌>>=◌, File, SiteContent, files_of, zero_page, SiteEnd, due_of, page_due, Ends, FindsInFiles}
use Rattle.site_commands.proofs.Prelude.{Opens, site_read, WorkView, WritesEnd}
use Rattle.site_commands.specs.declared.site_end.SiteEnd.TheVariants as ends

page_is_due : (name target : List ℕ) (held : Option Files) (read : Result (List File) SiteError) → FindsInFiles (site_read name) held read
    → FindsInFiles (page_due name target) held (due_of (read >>= λ site. Ok (zero_page site target)))
page_is_due name target None read is = tt
page_is_due name target (Some files) read is = ap (option_map (λ (r : Result (List File) SiteError). due_of (r >>= λ site. Ok (zero_page site target)))) is

pub page_ends : (name target : List ℕ) (old new : WorkView) (site : SiteContent) (end : SiteEnd)
    → Opens name old.shelf.held old.shelf.faults new.shelf.faults (Ok site)
    → WritesEnd ends.Done ends.WriteFault old.sink new.sink (zero_page (files_of site) target) end
    → Ends (page_due name target) old new end
page_ends name target old new site end opened wrote =
    let due = page_is_due name target old.shelf.held (Ok (files_of site)) opened.0 in
    let text = zero_page (files_of site) target in
    elim wrote [
      | inl done ↦ subst (Ends (page_due name target) old new) (sym done.0) (text, (due, done.1, opened.1))
      | inr failed ↦ subst (Ends (page_due name target) old new) (sym failed.0) (record { text = text; fault = None }, (due, failed.1, opened.1))
    ]
