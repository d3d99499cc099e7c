-- The fault of an entry by its parts, and the file that an entry without fault represents.
use Rattle.file_tree.proofs.Prelude.{◌≡◌, ℕ, ◌+◌, true, false, cond, List, drop, Option, Some, None, sym, ap, ◌∙◌, arith, slice_range}
use Rattle.file_tree.proofs.Prelude.{option_or, SiteWhy, Twice, Part, Version, File, has_name, text, after_text, kind_given, after_kind}
use Rattle.file_tree.proofs.Prelude.{content, after_content, name_fault, kind_fault, content_fault, entry_fault, IsPart, twice, FileId}
use Rattle.file_tree.proofs.Prelude.{IsOrder, IsSlot, IsEntry, place_by}
use Rattle.file_tree.proofs.OrderLemmas.{slot-fresh}

module _ (version : Version) (earlier : List File) (bytes : List ℕ) where
  abbrev names : Option SiteWhy
  names = name_fault bytes

  abbrev kinds : Option SiteWhy
  kinds = kind_fault version (after_text bytes)

  abbrev contents : Option SiteWhy
  contents = content_fault (after_kind version (after_text bytes))

  after-name : name_fault bytes ≡ None → entry_fault version earlier bytes ≡ option_or (twice earlier bytes) (option_or kinds contents)
  after-name e = ap (λ o. option_or o (option_or (twice earlier bytes) (option_or kinds contents))) e

  pub fault-twice : name_fault bytes ≡ None → has_name earlier (text bytes) ≡ true → entry_fault version earlier bytes ≡ Some Twice
  fault-twice e t = after-name e ∙ ap (λ b. option_or (cond b (Some Twice) None) (option_or kinds contents)) t

  after-twice : name_fault bytes ≡ None → has_name earlier (text bytes) ≡ false → entry_fault version earlier bytes ≡ option_or kinds contents
  after-twice e t = after-name e ∙ ap (λ b. option_or (cond b (Some Twice) None) (option_or kinds contents)) t

  pub fault-kind : (why : SiteWhy) (rest : List ℕ) → name_fault bytes ≡ None → has_name earlier (text bytes) ≡ false
      → rest ≡ after_text bytes → kind_fault version rest ≡ Some why
      → entry_fault version earlier bytes ≡ Some why
  fault-kind why rest e t is k = after-twice e t ∙ ap (λ o. option_or o contents) (ap (kind_fault version) (sym is) ∙ k)

  after-kinds : (rest : List ℕ) → name_fault bytes ≡ None → has_name earlier (text bytes) ≡ false → rest ≡ after_text bytes → kind_fault version rest ≡ None
      → entry_fault version earlier bytes ≡ contents
  after-kinds rest e t is k = after-twice e t ∙ ap (λ o. option_or o contents) (ap (kind_fault version) (sym is) ∙ k)

  pub fault-content : (o : Option SiteWhy) (rest last : List ℕ) → name_fault bytes ≡ None → has_name earlier (text bytes) ≡ false
      → rest ≡ after_text bytes → kind_fault version rest ≡ None
      → last ≡ after_kind version rest → content_fault last ≡ o → entry_fault version earlier bytes ≡ o
  fault-content o rest last e t is k last_is c =
      after-kinds rest e t is k ∙ ap content_fault (sym (last_is ∙ ap (after_kind version) is)) ∙ c

pub entry-by-parts : (image : List ℕ) (version : Version) (earlier : List File) (order : List FileId) (at : ℕ) (name kind body : Part)
    (slot : ℕ) → IsOrder earlier order
    → name_fault (drop at image) ≡ None → IsPart image name (text (drop at image)) (after_text (drop at image))
    → IsSlot earlier order (slice_range image name.at (name.at + name.len)) slot
    → kind_fault version (drop name.next image) ≡ None → IsPart image kind (kind_given version (drop name.next image))
    (after_kind version (drop name.next image))
    → content_fault (drop kind.next image) ≡ None → IsPart image body (content (drop kind.next image)) (after_content (drop kind.next image))
    → IsEntry image version earlier order at (place_by name kind body) slot body.next
entry-by-parts image version earlier order at name kind body slot is n name_is s k kind_is b body_is =
    let fresh : has_name earlier (text (drop at image)) ≡ false =
    ap (has_name earlier) (sym name_is.value_is) ∙ slot-fresh earlier order (slice_range image name.at (name.at + name.len)) slot is s in
    let rest = name_is.rest_is in
    let last = kind_is.rest_is in
    record {
      none = fault-content version earlier (drop at image) None (drop name.next image) (drop kind.next image) n fresh rest k last b;
      file_is = λ i. record {
        name = name_is.value_is i;
        kind = (kind_is.value_is ∙ ap (kind_given version) rest) i;
        content = (body_is.value_is ∙ ap content (last ∙ ap (after_kind version) rest)) i;
      };
      rest_is = body_is.rest_is ∙ ap after_content (last ∙ ap (after_kind version) rest);
      within = record {
        name = omega (arith, name_is.within, name_is.next);
        kind = omega (arith, kind_is.within, kind_is.next);
        content = omega (arith, body_is.within, body_is.next);
      };
      next_in = body_is.next;
      slot_is = s;
    }
