-- The prefix of a text that is read of its file shows all that the whole text does.
use Rattle.link_replay.proofs.Prelude.{◌≡◌, ℕ, ◌+◌, List, length, take, Result, Ok, Err, Option, Some, None, refl, sym, ap, subst, ◌∙◌, inl}
use Rattle.link_replay.proofs.Prelude.{inr, Bool, arith, IsSomeAnd, nat_le, ◌==◌, if◌then◌else◌, MatchResult, ⊤, slice_split, cases_lt}
use Rattle.link_replay.proofs.Prelude.{lt-leb, take_all, length-take-le, HoldsFile, File, FindsInFiles, site_read, Files, BadText}
use Rattle.link_replay.proofs.Prelude.{SchedulePlan, nothing_yet, read_lines, read_text, Long, bad_schedule, IsReplayText, IsPlayDue}
use Rattle.link_replay.proofs.Prelude.{IsTextDue, OutputForm, Report, ReplayEnd}
use Rattle.link_replay.specs.declared.commands.replay_end.ReplayEnd.TheVariants as ends

-- a text that is longer than the limit is so by one byte more than it
cut_at : {R : Type 0} (n : ℕ) (f : List ℕ → R) (r : R) (content : List ℕ)
    → (if nat_le (length (take (n + 1) content)) n then f (take (n + 1) content) else r) ≡ (if nat_le (length content) n then f content else r)
cut_at n f r content =
    elim (cases_lt n (length content)) [
      | inl long ↦
          let e : length (take (n + 1) content) ≡ n + 1 = length-take-le (n + 1) content (omega arith) in
          ap (λ b. if b then f (take (n + 1) content) else r) (lt-leb (length (take (n + 1) content)) n (omega arith))
          ∙ sym (ap (λ b. if b then f content else r) (lt-leb (length content) n long))
      | inr short ↦ ap (λ t. if nat_le (length t) n then f t else r) (take_all (n + 1) content (omega arith))
    ]

pub text_prefix : (content : List ℕ) → read_text (take 4194305 content) ≡ read_text content
unfolding read_text
text_prefix content = cut_at 4194304 (λ t. read_lines 1 nothing_yet (slice_split (λ c. c == 10) t)) (Err (record { line = 0; why = Long })) content

-- another fact of a file's content
holds_content : (P Q : List ℕ → Type 0) → ((content : List ℕ) → P content → Q content) → (o : Option (List ℕ)) → IsSomeAnd o P → IsSomeAnd o Q
holds_content P Q f None h = h
holds_content P Q f (Some content) h = f content h

pub holds_file : (P Q : List ℕ → Type 0) → ((content : List ℕ) → P content → Q content) → (held : Option Files) (name : List ℕ)
    → HoldsFile held name P → HoldsFile held name Q
holds_file P Q f None name h = tt
holds_file P Q f (Some files) name h = holds_content P Q f (files name) h

-- the bytes are what is read of the file's content
abbrev pub IsProperPrefixOf : List ℕ → List ℕ → Type 0
IsProperPrefixOf bytes content = bytes ≡ take 4194305 content

reads_alike : (bytes content : List ℕ) → IsProperPrefixOf bytes content → read_text bytes ≡ read_text content
reads_alike bytes content e = ap read_text e ∙ text_prefix content

-- an end that goes with the text of a schedule
abbrev IsPlayEnd : ReplayEnd → Type 0
IsPlayEnd ends.Done = ⊤
IsPlayEnd (ends.BadSchedule line why) = ⊤
IsPlayEnd _ = ⊥

play_ends : (files : List File) (content : SchedulePlan) (chosen_form : OutputForm) (text : List ℕ) (end : ReplayEnd)
    → IsPlayDue files content chosen_form text end → IsPlayEnd end
play_ends files content chosen_form text ends.Done due = tt
play_ends files content chosen_form text (ends.BadSchedule line why) due = tt
play_ends files content chosen_form text _ due = due

pub text_ends : (files : List File) (bytes : List ℕ) (show : Bool) (text : List ℕ) (end : ReplayEnd) → IsTextDue files bytes show text end → IsPlayEnd end
text_ends files bytes show text end due = go (read_text bytes) due
  where
    go : (r : Result SchedulePlan BadText) → MatchResult r (λ content. IsPlayDue files content (Report show) text end)
        (λ bad. (end ≡ ends.BadSchedule bad.line bad.why) × (text ≡ bad_schedule bad.line bad.why)) → IsPlayEnd end
    go (Ok content) p = play_ends files content (Report show) text end p
    go (Err bad) p = subst IsPlayEnd (sym p.0) tt

-- the shelf's files, and the content whose prefix was read
record Held (held : Option Files) (schedule : List ℕ) (files : List File) (show : Bool) (text : List ℕ) (end : ReplayEnd) : Type 0 where
  bytes : List ℕ
  holds : HoldsFile held schedule (λ content. content ≡ bytes)
  due : IsTextDue files bytes show text end

held_text : (held : Option Files) (schedule : List ℕ) (files : List File) (show : Bool) (bytes text : List ℕ) (end : ReplayEnd)
    → HoldsFile held schedule (IsProperPrefixOf bytes) → IsTextDue files bytes show text end → Held held schedule files show text end
held_text None schedule files show bytes text end prefix due = record { bytes = bytes; holds = tt; due = due }
held_text (Some named) schedule files show bytes text end prefix due = let h = go (named schedule) prefix in record { bytes = h.0; holds = h.1; due = h.2 }
  where
    go : (o : Option (List ℕ)) → IsSomeAnd o (IsProperPrefixOf bytes) → (content : List ℕ) × IsSomeAnd o (λ c. c ≡ content)
        × IsTextDue files content show text end
    go None f = absurd f
    go (Some content) f = (
      content,
      refl,
      subst (λ r. MatchResult r (λ c. IsPlayDue files c (Report show) text end)
          (λ bad. (end ≡ ends.BadSchedule bad.line bad.why) × (text ≡ bad_schedule bad.line bad.why))) (reads_alike bytes content f) due,
    )

-- what is due for the bytes that were read is due for the shelf's files
pub is_text : (site schedule : List ℕ) (show : Bool) (held : Option Files) (files : List File) (bytes text : List ℕ) (end : ReplayEnd)
    → FindsInFiles (site_read site) held (Ok files)
    → HoldsFile held schedule (IsProperPrefixOf bytes) → IsTextDue files bytes show text end → IsReplayText site schedule show held text end
is_text site schedule show held files bytes text (ends.BadSite error) read prefix due = absurd (text_ends files bytes show text (ends.BadSite error) due)
is_text site schedule show held files bytes text end read prefix due = let h = held_text held schedule files show bytes text end prefix
    due in (files, h.bytes, read, h.holds, h.due)
