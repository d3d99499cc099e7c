use Rattle.file_tree.proofs.Prelude.{◌++◌, length, ap, ◌∙◌, File, entry, file_in, place_after}
use Rattle.file_tree.proofs.WriteLemmas.{written}
use Rattle.file_tree.proofs.entry_writer.push_file.Goals as goal

pub returns-clause-file : goal.returns-clause-file
returns-clause-file c =
    let file : File = record { name = c.args.name.now; kind = c.args.kind.now; content = c.args.content.now } in
    let version = c.args.version in
    let old = c.args.image.now.items in
    ap (λ x. file_in x c.place_at.result) c.in_ok-push_entry.ensures
    ∙ ap (file_in (old ++ entry version file)) c.place_at.ensures
    ∙ ap (λ s. file_in (old ++ entry version file) (place_after version s (length file.name) (length file.kind) (length file.content)))
    (c.len-start.ensures ∙ c.args.image.now.ok.0)
    ∙ (written version old file c.requires.kind).file_is
