use Rattle.httpd.proofs.Prelude.{sym, ap, ◌∙◌, file_named, files_of, named-nowhere, place_of}
use Rattle.httpd.proofs.Finding.{no_place}
use Rattle.httpd.proofs.Words.{asked_name, asked_nobody}
use Rattle.httpd.proofs.request.file_asked.Goals as goal

pub returns-then-line-clause-place : goal.returns-then-line-clause-place
returns-then-line-clause-place g c = λ bytes holds.
    sym (no_place (files_of c.args.site.now) _ (asked_nobody c.args.site.now _ _ bytes c.see_loaded.ensures c.line.view_is holds c.if-line.true))

pub returns-then-line-clause-file : goal.returns-then-line-clause-file
returns-then-line-clause-file g c = λ bytes holds.
    sym (named-nowhere (files_of c.args.site.now) _ (asked_nobody c.args.site.now _ _ bytes c.see_loaded.ensures c.line.view_is holds c.if-line.true))

pub returns-clause-place : goal.returns-clause-place
returns-clause-place g c = λ bytes holds.
    c.place_in.ensures.place ∙ ap (place_of (files_of c.args.site.now)) (c.name_asked.ensures ∙ asked_name _ _ bytes c.line.view_is holds c.if-line.false)

pub returns-clause-file : goal.returns-clause-file
returns-clause-file g c = λ bytes holds.
    c.place_in.ensures.file ∙ ap (file_named (files_of c.args.site.now)) (c.name_asked.ensures ∙ asked_name _ _ bytes c.line.view_is holds c.if-line.false)
