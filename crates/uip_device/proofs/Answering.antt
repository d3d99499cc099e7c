-- The pages of a device answer a request in as many texts as their pieces need, if text follows each value.
use Rattle.app_events.specs.Prelude.{AppState, Snapshot, IsSnapshot}
use Rattle.site_image.specs.Prelude.{File}
use Rattle.std.proofs.Common.{◌≡◌, ◌≢◌, ℕ, suc, ◌+◌, ◌-◌, ◌<◌, ◌≤◌, ◌==◌, min, Bool, true, false, if◌then◌else◌, ◌&&◌, not, ◌⊎◌, inl, inr}
use Rattle.std.proofs.Common.{List, [], ◌∷◌, ◌++◌, length, decimal, replicate, refl, sym, ap, ◌∙◌, subst, arith, nat_lt, nat_le}
use Rattle.std.proofs.Common.{length-append, true≢false}
use Rattle.std.proofs.lemmas.Bool.{and_parts, eqb-true, ltb-true, leb-true, le-leb, cases_lt}
use Rattle.std.proofs.lemmas.Grind.{common_steps}
use Rattle.std.proofs.lemmas.List.{length-replicate}
use Rattle.std.proofs.lemmas.List.Sums.{sum_by-cons}
use Rattle.std.specs.Int.{div_ceil}
use Rattle.uip_node.proofs.Basics.{prefix_length, both_ways, ltb-zero, not-true}
use Rattle.uip_node.proofs.Fits.{all_nil, all_cons}
use Rattle.uip_node.proofs.Prelude.{Row, Want, Nothing, Send, Close, Abort}
use Rattle.uip_node.specs.Prelude.{GoesOnBy, AnswersIn, AnswersPolled}
use Rattle.web_pages.proofs.Bounds.{silent_none, text_bound}
use Rattle.web_pages.specs.Prelude.{Wanted, wanted, NotYet, Refused, Name, name_stays, ScriptPiece, Plain, Made, hits_of, silent_text}
use Rattle.web_pages.specs.Prelude.{silent_end, stopped_text, made_first, made_end, newdata_grows, with_capture}
use Rattle.generators.specs.Prelude.{ScriptFunctions, AreShort, in_ten_places, counter_line, row_text}
use Rattle.generators.specs.Prelude.{row_parts}
use Rattle.std.specs.Prelude.{⊤, flat_map}
use Rattle.script_lang.specs.declared.function.Function.{Function}
use Rattle.script_lang.specs.declared.function.Function.TheVariants.{FileStats, TcpConnections, NetStats, Ticks, Unknown}
use Rattle.std.proofs.lemmas.Bool.{eq-eqb}
use Rattle.web_pages.specs.Prelude.{made_by, text_by, reach_by, page_for_by, whole_for_by, page_by, is_whole_by, web_spec_by, web_want_by}
use Rattle.web_pages.specs.Prelude.{is_acknowledged_by, waits_for_capture_by, left_of_by}
use Rattle.uip_device.specs.Answering.{PagesWithoutValues, ValuePagesAnswer, WebCallsArrive, most_by, answer_pieces, text_follows_values}
use Rattle.uip_device.specs.Answering.{text_is_next, texts_by}
use Rattle.uip_node.proofs.SoundSegments.{first_low}
use Rattle.node_laws.proofs.Beating.{mss_some}
use Rattle.node_laws.proofs.HonestPeers.{lossy_syn}
use Rattle.node_laws.proofs.TextCounts.{left_in, behind, counted, shorter, one_less}
use Rattle.device_values.specs.Lemmas.Laws.{words_short}
use Rattle.device_values.specs.Prelude.{words}
use Rattle.device_values.specs.declared.word.Word.{Word}
use Rattle.device_values.specs.declared.word.Word.TheVariants as word
use Rattle.script_lang.specs.Prelude.{takes_capture}

not_twenty : (n : ℕ) → n < 20 → (n == 20) ≡ false
not_twenty n l = grind (arith, common_steps)

-- After each call of these pieces the page continues or is whole: text follows the call, or its own text is never empty.
abbrev AlwaysContinues : {F : Type 0} → ScriptFunctions F → List File → List (ScriptPiece F) → Type 0
AlwaysContinues g files [] = ⊤
AlwaysContinues g files (Plain text ∷ more) = AlwaysContinues g files more
AlwaysContinues g files (Made function argument ∷ more) =
    ((text_is_next more ≡ true) ⊎ (g.function_table.takes_capture function ≡ true → (capture : Snapshot) → IsSnapshot capture → 0 < length capture.now.rows
    → 0 < length (made_by g files function argument capture))) × AlwaysContinues g files more

-- ---- the text of a call is no longer than its greatest length

module _ {F : Type 0} (g : ScriptFunctions F) (are_short : AreShort g) (silent : (function : F) → g.function_table.takes_capture function
    ≡ false → g.function_table.length_at_most function ≡ 0) (files : List File) where
  made_short : (function : F) (argument : List ℕ) (capture : Snapshot) → g.function_table.takes_capture function ≡ true → IsSnapshot capture
      → length (made_by g files function argument capture) ≤ g.function_table.length_at_most function
  made_short function argument capture e is =
      let all = text_bound g are_short files (Made function argument ∷ []) (capture ∷ []) (all_cons IsSnapshot capture [] is (all_nil IsSnapshot)) in
      omega (arith, all, ap length (made_first g files function argument [] capture [] e), length-append (made_by g files function argument capture) [])

  -- ---- the lengths of pieces: of a call its greatest, until its capture is taken
  abbrev pub sizes : List (ScriptPiece F) → List Snapshot → List ℕ
  sizes [] captures = []
  sizes (Plain text ∷ more) captures = length text ∷ sizes more captures
  sizes (Made function argument ∷ more) [] = g.function_table.length_at_most function ∷ sizes more []
  sizes (Made function argument ∷ more) (capture ∷ later) =
      if g.function_table.takes_capture function then length (made_by g files function argument capture) ∷ sizes more later
      else g.function_table.length_at_most function ∷ sizes more (capture ∷ later)

  taken_size : (function : F) (argument : List ℕ) (more : List (ScriptPiece F)) (capture : Snapshot) (later : List Snapshot)
      → g.function_table.takes_capture function ≡ true →
      sizes (Made function argument ∷ more) (capture ∷ later) ≡ length (made_by g files function argument capture) ∷ sizes more later
  taken_size function argument more capture later e =
      ap (λ b. if b then length (made_by g files function argument capture) ∷ sizes more later else g.function_table.length_at_most function
      ∷ sizes more (capture ∷ later)) e

  silent_size : (function : F) (argument : List ℕ) (more : List (ScriptPiece F)) (captures : List Snapshot) → g.function_table.takes_capture function ≡ false →
      sizes (Made function argument ∷ more) captures ≡ g.function_table.length_at_most function ∷ sizes more captures
  silent_size function argument more [] e = refl
  silent_size function argument more (capture ∷ later) e =
      ap (λ b. if b then length (made_by g files function argument capture) ∷ sizes more later else g.function_table.length_at_most function
      ∷ sizes more (capture ∷ later)) e

  module _ (mss : ℕ) (some : 0 < mss) where
    -- one piece, and what follows it
    by_piece : (n output all a x : ℕ) (ns : List ℕ) → all ≡ n + output → 0 < x → a + x ≤ all → (x ≡ mss) ⊎ (a + x ≡ all) →
        ((b : ℕ) → b + x ≤ output → (x ≡ mss) ⊎ (b + x ≡ output) → left_in mss some ns (b + x) < left_in mss some ns b) →
        left_in mss some (n ∷ ns) (a + x) < left_in mss some (n ∷ ns) a
    by_piece n output all a x ns e l within whole rest =
        one_less mss some n a x output ns l (omega (arith, within, e)) (elim whole [ inl i ↦ inl i | inr i ↦ inr (i ∙ e) ])
        (λ h. rest (a - n) (omega (arith, within, e, h)) (elim whole [ inl i ↦ inl i | inr i ↦ inr (omega (arith, i, e, h)) ]))

    abbrev Less : List (ScriptPiece F) → List Snapshot → ℕ → ℕ → Type 0
    Less pieces captures a x = left_in mss some (sizes pieces captures) (a + x) < left_in mss some (sizes pieces captures) a

    pub less_left : (pieces : List (ScriptPiece F)) (captures : List Snapshot) (a x : ℕ) → 0 < x
        → a + x ≤ length (text_by g files pieces captures) → (x ≡ mss) ⊎ (a + x ≡ length (text_by g files pieces captures)) → Less pieces captures a x
    less_left [] captures a x l within whole = absurd (omega arith)
    less_left (Plain text ∷ more) captures a x l within whole =
        by_piece (length text) (length (text_by g files more captures)) (length (text ++ text_by g files more captures)) a x
        (sizes more captures) (length-append text (text_by g files more captures)) l within whole
        (λ b w i. less_left more captures b x l w i)
    less_left (Made function argument ∷ more) [] a x l within whole =
        both_ways (g.function_table.takes_capture function)
        (λ e. absurd (let z : ⊥ = omega (arith, l, within, ap length (stopped_text g files function argument more e)) in z))
        (λ e. by_piece (g.function_table.length_at_most function) (length (text_by g files more []))
        (length (text_by g files (Made function argument ∷ more) [])) a x (sizes more [])
        (let z : length (text_by g files (Made function argument ∷ more) []) ≡ g.function_table.length_at_most function + length (text_by g files more []) =
        omega (arith, ap length (silent_text g files function argument more [] e), silent function e) in z) l within whole
        (λ b w i. less_left more [] b x l w i))
    less_left (Made function argument ∷ more) (capture ∷ later) a x l within whole =
        both_ways (g.function_table.takes_capture function)
        (λ e. subst (λ s. left_in mss some s (a + x) < left_in mss some s a) (sym (taken_size function argument more capture later e))
        (by_piece (length (made_by g files function argument capture)) (length (text_by g files more later))
        (length (text_by g files (Made function argument ∷ more) (capture ∷ later))) a x (sizes more later)
        (ap length (made_first g files function argument more capture later e) ∙ length-append (made_by g files function argument capture)
        (text_by g files more later)) l within whole
        (λ b w i. less_left more later b x l w i)))
        (λ e. subst (λ s. left_in mss some s (a + x) < left_in mss some s a) (sym (silent_size function argument more (capture ∷ later) e))
        (by_piece (g.function_table.length_at_most function) (length (text_by g files more (capture ∷ later)))
        (length (text_by g files (Made function argument ∷ more) (capture ∷ later))) a x (sizes more (capture ∷ later))
        (let z : length (text_by g files (Made function argument ∷ more) (capture ∷ later)) ≡ g.function_table.length_at_most function +
        length (text_by g files more (capture ∷ later)) =
        omega (arith, ap length (silent_text g files function argument more (capture ∷ later) e), silent function e) in z) l within whole
        (λ b w i. less_left more (capture ∷ later) b x l w i)))

    -- ---- a capture is taken where the text ends
    abbrev Fewer : List ℕ → List ℕ → ℕ → Type 0
    Fewer after before a = left_in mss some after a ≤ left_in mss some before a

    past_piece : (n output a : ℕ) (after before : List ℕ) → a ≡ n + output → Fewer after before output → Fewer (n ∷ after) (n ∷ before) a
    past_piece n output a after before e h =
        let rest : a - n ≡ output = omega (arith, e) in
        omega (
          arith,
          behind mss some n a after (omega (arith, e)),
          behind mss some n a before (omega (arith, e)),
          ap (λ k. left_in mss some after k) rest,
          ap (λ k. left_in mss some before k) rest,
          h,
        )

    fewer_left : (pieces : List (ScriptPiece F)) (captures : List Snapshot) (capture : Snapshot) (a : ℕ) → IsSnapshot capture
        → reach_by g pieces captures ≡ false → a ≡ length (text_by g files pieces captures) →
        Fewer (sizes pieces (captures ++ capture ∷ [])) (sizes pieces captures) a
    fewer_left [] captures capture a is stops h = absurd (cc)
    fewer_left (Plain text ∷ more) captures capture a is stops h =
        past_piece (length text) (length (text_by g files more captures)) a (sizes more (captures ++ capture ∷ [])) (sizes more captures)
        (h ∙ length-append text (text_by g files more captures))
        (fewer_left more captures capture (length (text_by g files more captures)) is stops refl)
    fewer_left (Made function argument ∷ more) [] capture a is stops h =
        both_ways (g.function_table.takes_capture function)
        (λ e. subst (λ s. Fewer s (g.function_table.length_at_most function ∷ sizes more []) a) (sym (taken_size function argument more capture [] e))
        (subst (λ k. Fewer (length (made_by g files function argument capture) ∷ sizes more []) (g.function_table.length_at_most function
        ∷ sizes more []) k) (sym (h ∙ ap length (stopped_text g files function argument more e)))
        (shorter mss some (length (made_by g files function argument capture)) (g.function_table.length_at_most function) (sizes more [])
        (made_short function argument capture e is))))
        (λ e. subst (λ s. Fewer s (g.function_table.length_at_most function ∷ sizes more []) a) (sym (silent_size function argument more (capture ∷ []) e))
        (past_piece (g.function_table.length_at_most function) (length (text_by g files more [])) a (sizes more (capture ∷ [])) (sizes more [])
        (let z : a ≡ g.function_table.length_at_most function + length (text_by g files more []) = omega
        (arith, h, ap length (silent_text g files function argument more [] e), silent function e) in z)
        (fewer_left more [] capture (length (text_by g files more [])) is (sym (silent_end g function argument more [] e) ∙ stops) refl)))
    fewer_left (Made function argument ∷ more) (first ∷ later) capture a is stops h =
        both_ways (g.function_table.takes_capture function)
        (λ e. subst (λ s. Fewer s (sizes (Made function argument ∷ more) (first ∷ later)) a)
        (sym (taken_size function argument more first (later ++ capture ∷ []) e))
        (subst (λ s. Fewer (length (made_by g files function argument first) ∷ sizes more (later ++ capture ∷ [])) s a)
        (sym (taken_size function argument more first later e))
        (past_piece (length (made_by g files function argument first)) (length (text_by g files more later)) a
        (sizes more (later ++ capture ∷ [])) (sizes more later)
        (h ∙ ap length (made_first g files function argument more first later e) ∙ length-append (made_by g files function argument first)
        (text_by g files more later))
        (fewer_left more later capture (length (text_by g files more later)) is (sym (made_end g function argument more first later e) ∙ stops) refl))))
        (λ e. subst (λ s. Fewer s (sizes (Made function argument ∷ more) (first ∷ later)) a)
        (sym (silent_size function argument more (first ∷ later ++ capture ∷ []) e))
        (subst (λ s. Fewer (g.function_table.length_at_most function ∷ sizes more (first ∷ later ++ capture ∷ [])) s a)
        (sym (silent_size function argument more (first ∷ later) e))
        (past_piece (g.function_table.length_at_most function) (length (text_by g files more (first ∷ later))) a
        (sizes more (first ∷ later ++ capture ∷ [])) (sizes more (first ∷ later))
        (let z : a ≡ g.function_table.length_at_most function + length (text_by g files more (first ∷ later)) = omega
        (arith, h, ap length (silent_text g files function argument more (first ∷ later) e), silent function e) in z)
        (fewer_left more (first ∷ later) capture (length (text_by g files more (first ∷ later))) is
        (sym (silent_end g function argument more (first ∷ later) e) ∙ stops) refl))))

    -- and the text continues, or the page is whole
    abbrev Longer : List (ScriptPiece F) → List Snapshot → Snapshot → Type 0
    Longer pieces captures capture = length (text_by g files pieces captures) < length (text_by g files pieces (captures ++ capture ∷ []))

    abbrev Whole : List (ScriptPiece F) → List Snapshot → Snapshot → Type 0
    Whole pieces captures capture =
        (length (text_by g files pieces captures) ≤ length (text_by g files pieces (captures ++ capture ∷ [])))
        × (reach_by g pieces (captures ++ capture ∷ []) ≡ true)

    next_text : (pieces : List (ScriptPiece F)) → text_is_next pieces ≡ true → (0 < length (text_by g files pieces [])) ⊎ (reach_by g pieces [] ≡ true)
    next_text [] e = inr refl
    next_text (Plain [] ∷ more) e = next_text more e
    next_text (Plain (byte ∷ text) ∷ more) e = inl (omega arith)
    next_text (Made function argument ∷ more) e = absurd (cc)

    text_continues : (pieces : List (ScriptPiece F)) → AlwaysContinues g files pieces → (captures : List Snapshot) (capture : Snapshot)
        → IsSnapshot capture → 0 < length capture.now.rows → reach_by g pieces captures ≡ false
        → Longer pieces captures capture ⊎ Whole pieces captures capture
    text_continues [] continues captures capture is l stops = absurd (cc)
    text_continues (Plain text ∷ more) continues captures capture is l stops =
        let before = length-append text (text_by g files more captures) in
        let after = length-append text (text_by g files more (captures ++ capture ∷ [])) in
        elim (text_continues more continues captures capture is l stops) [
          | inl h ↦ inl (omega (arith, before, after, h))
          | inr h ↦ inr (omega (arith, before, after, h.0), h.1)
        ]
    text_continues (Made function argument ∷ more) continues [] capture is l stops =
        both_ways (g.function_table.takes_capture function)
        (λ e.
        let before = ap length (stopped_text g files function argument more e) in
        let after = ap length (made_first g files function argument more capture [] e) in
        let parts = length-append (made_by g files function argument capture) (text_by g files more []) in
        elim continues.0 [
          | inl next ↦ elim (next_text more next) [
            | inl h ↦ inl (omega (arith, before, after, parts, h))
            | inr h ↦ inr (omega (arith, before, after, parts), made_end g function argument more capture [] e ∙ h)
          ]
          | inr some ↦ inl (omega (arith, before, after, parts, some e capture is l))
        ])
        (λ e.
        let before = ap length (silent_text g files function argument more [] e) in
        let after = ap length (silent_text g files function argument more (capture ∷ []) e) in
        elim (text_continues more continues.1 [] capture is l (sym (silent_end g function argument more [] e) ∙ stops)) [
          | inl h ↦ inl (omega (arith, before, after, h))
          | inr h ↦ inr (omega (arith, before, after, h.0), silent_end g function argument more (capture ∷ []) e ∙ h.1)
        ])
    text_continues (Made function argument ∷ more) continues (first ∷ later) capture is l stops =
        both_ways (g.function_table.takes_capture function)
        (λ e.
        let before = ap length (made_first g files function argument more first later e) in
        let after = ap length (made_first g files function argument more first (later ++ capture ∷ []) e) in
        let parts = length-append (made_by g files function argument first) (text_by g files more later) in
        let more_parts = length-append (made_by g files function argument first) (text_by g files more (later ++ capture ∷ [])) in
        elim (text_continues more continues.1 later capture is l (sym (made_end g function argument more first later e) ∙ stops)) [
          | inl h ↦ inl (omega (arith, before, after, parts, more_parts, h))
          | inr h ↦ inr (omega (arith, before, after, parts, more_parts, h.0), made_end g function argument more first (later ++ capture ∷ []) e ∙ h.1)
        ])
        (λ e.
        let before = ap length (silent_text g files function argument more (first ∷ later) e) in
        let after = ap length (silent_text g files function argument more (first ∷ later ++ capture ∷ []) e) in
        elim (text_continues more continues.1 (first ∷ later) capture is l (sym (silent_end g function argument more (first ∷ later) e) ∙ stops)) [
          | inl h ↦ inl (omega (arith, before, after, h))
          | inr h ↦ inr (omega (arith, before, after, h.0), silent_end g function argument more (first ∷ later ++ capture ∷ []) e ∙ h.1)
        ])

    -- at the start
    counted_all : (pieces : List (ScriptPiece F)) → left_in mss some (sizes pieces []) 0 ≤ texts_by g mss pieces
    counted_all [] = omega arith
    counted_all (Plain text ∷ more) =
        omega (arith, counted mss some (length text) (sizes more []), counted_all more, sum_by-cons (λ piece. div_ceil (most_by g piece) mss) (Plain text) more)
    counted_all (Made function argument ∷ more) =
        omega (
          arith,
          counted mss some (g.function_table.length_at_most function) (sizes more []),
          counted_all more,
          sum_by-cons (λ piece. div_ceil (most_by g piece) mss) (Made function argument) more,
        )

module _ {F : Type 0} (g : ScriptFunctions F) (are_short : AreShort g) (silent : (function : F) → g.function_table.takes_capture function
    ≡ false → g.function_table.length_at_most function ≡ 0) (files : List File) (request : List ℕ) (decided : wanted request ≢ NotYet)
    (continues : AlwaysContinues g files (answer_pieces g files (wanted request))) (mss : ℕ) (some : 0 < mss) (low : mss ≤ 1460) where
  abbrev wanted_pieces : List (ScriptPiece F)
  wanted_pieces = answer_pieces g files (wanted request)

  -- it was polled this often, and no more is acknowledged than was sent
  abbrev pub fine : ℕ → AppState → Bool
  fine waited p = nat_le p.polls waited && nat_le p.acked (length (page_by g files p.input p.snapshots))

  -- the texts that are left
  abbrev pub left : AppState → ℕ
  left p = left_in mss some (sizes g are_short silent files wanted_pieces p.snapshots) p.acked

  -- the output is that of the pieces of the whole request
  record SendsPieces (p : AppState) : Type 0 where
    text : page_by g files p.input p.snapshots ≡ text_by g files wanted_pieces p.snapshots
    whole : is_whole_by g files p.input p.snapshots ≡ reach_by g wanted_pieces p.snapshots

  sends_named : (p : AppState) (rest name : List ℕ) → p.input ++ rest ≡ request → wanted p.input ≡ Name name → SendsPieces p
  sends_named p rest name joined e =
      let all : wanted request ≡ Name name = ap wanted (sym joined) ∙ name_stays p.input rest name e in
      record {
        text = ap (λ w. page_for_by g files w p.snapshots) e ∙ ap (λ w. text_by g files (answer_pieces g files w) p.snapshots) (sym all);
        whole = ap (λ w. whole_for_by g files w p.snapshots) e ∙ ap (λ w. reach_by g (answer_pieces g files w) p.snapshots) (sym all);
      }

  outputs_some : (p : AppState) (rest : List ℕ) → p.input ++ rest ≡ request → (w : Wanted) → wanted p.input ≡ w
      → 0 < length (page_by g files p.input p.snapshots) → SendsPieces p
  outputs_some p rest joined NotYet e h = absurd (let z : ⊥ = omega (arith, h, ap (λ w. length (page_for_by g files w p.snapshots)) e) in z)
  outputs_some p rest joined Refused e h = absurd (let z : ⊥ = omega (arith, h, ap (λ w. length (page_for_by g files w p.snapshots)) e) in z)
  outputs_some p rest joined (Name name) e h = sends_named p rest name joined e

  -- after this number of polls
  module _ (waited : ℕ) (patient : waited < 20) where
    record IsFine (p : AppState) : Type 0 where
      polls : p.polls ≤ waited
      acked : p.acked ≤ length (page_by g files p.input p.snapshots)

    is_fine : (p : AppState) → fine waited p ≡ true → IsFine p
    is_fine p e =
        let both = and_parts (nat_le p.polls waited) (nat_le p.acked (length (page_by g files p.input p.snapshots))) e in
        record { polls = leb-true p.polls waited both.0; acked = leb-true p.acked (length (page_by g files p.input p.snapshots)) both.1 }

    as_fine : (p : AppState) → p.polls ≤ waited → p.acked ≤ length (page_by g files p.input p.snapshots) → fine waited p ≡ true
    as_fine p e h = ap (λ b. b && nat_le p.acked (length (page_by g files p.input p.snapshots))) (le-leb p.polls waited e)
        ∙ le-leb p.acked (length (page_by g files p.input p.snapshots)) h

    -- what it requests, if nothing is wrong
    wants_on : (q : AppState) (most : ℕ) (rest : List ℕ) → q.input ++ rest ≡ request → fine waited q ≡ true → left q ≤ most →
        (left_of_by g files q ≡ 0 → is_whole_by g files q.input q.snapshots && is_acknowledged_by g files q ≡ false → q.input ≡ request → ⊥)
        → GoesOnBy (web_spec_by g files) request mss (fine waited) left q most (web_want_by g files q)
    wants_on q most rest joined f few none =
        let is = is_fine q f in
        let P : Want → Type 0 = GoesOnBy (web_spec_by g files) request mss (fine waited) left q most in
        let by_end : Want = if is_whole_by g files q.input q.snapshots && is_acknowledged_by g files q then Close else
        (if nat_lt 0 (left_of_by g files q) then Send (min 1460 (left_of_by g files q)) else Nothing) in
        subst P (sym (ap (λ b. if b then Abort else by_end) (let z : (q.polls == 20) ≡ false = not_twenty q.polls (let y = is.polls in
        omega (arith, y, patient)) in z)))
        (both_ways (is_whole_by g files q.input q.snapshots && is_acknowledged_by g files q)
        (λ e. subst P (sym (ap (λ b. if b then Close else (if nat_lt 0 (left_of_by g files q) then Send (min 1460 (left_of_by g files q)) else Nothing)) e)) tt)
        (λ e. subst P (sym (ap (λ b. if b then Close else (if nat_lt 0 (left_of_by g files q) then Send (min 1460 (left_of_by g files q)) else Nothing)) e))
        (both_ways (nat_lt 0 (left_of_by g files q))
        (λ l. subst P (sym (ap (λ b. if b then Send (min 1460 (left_of_by g files q)) else Nothing) l))
        (sends q most rest joined is few (ltb-true 0 (left_of_by g files q) l)))
        (λ l. subst P (sym (ap (λ b. if b then Send (min 1460 (left_of_by g files q)) else Nothing) l)) (f, few, none (ltb-zero (left_of_by g files q) l) e)))))
      where
        sends : (q : AppState) (most : ℕ) (rest : List ℕ) → q.input ++ rest ≡ request → IsFine q → left q ≤ most → 0 < left_of_by g files q
            → GoesOnBy (web_spec_by g files) request mss (fine waited) left q most (Send (min 1460 (left_of_by g files q)))
        sends q most rest joined is few l =
            let x : ℕ = min (min 1460 (left_of_by g files q)) mss in
            let says = outputs_some q rest joined (wanted q.input) refl (omega (arith, l)) in
            let size : length (page_by g files q.input q.snapshots) ≡ length (text_by g files wanted_pieces q.snapshots) = ap length says.text in
            let whole : (x ≡ mss) ⊎ (q.acked + x ≡ length (text_by g files wanted_pieces q.snapshots)) =
            elim (cases_lt (left_of_by g files q) mss) [ inl h ↦ inr (omega (arith, h, low, is.acked, size)) | inr h ↦ inl (omega (arith, h, low)) ] in
            let less = less_left g are_short silent files mss some wanted_pieces q.snapshots q.acked x (omega (arith, l, some))
            (omega (arith, l, is.acked, size)) whole in
            λ ns. (as_fine (record q { acked = q.acked + x; polls = 0 }) (omega arith) (omega (arith, l, is.acked)), omega (arith, less, few))

    -- nothing is requested only while the request is not decided
    never_rests : (p : AppState) → is_acknowledged_by g files p && waits_for_capture_by g files (wanted p.input) p ≡ false → IsFine p
        → left_of_by g files p ≡ 0 → is_whole_by g files p.input p.snapshots && is_acknowledged_by g files p ≡ false → p.input ≡ request → ⊥
    never_rests p waits is z rests all =
        let acked : is_acknowledged_by g files p ≡ true = eq-eqb p.acked (length (page_by g files p.input p.snapshots)) (omega (arith, z, is.acked)) in
        let part_whole : is_whole_by g files p.input p.snapshots ≡ false = unless_right (is_whole_by g files p.input p.snapshots)
        (is_acknowledged_by g files p) rests acked in
        let no_call : waits_for_capture_by g files (wanted p.input) p ≡ false = unless_left (is_acknowledged_by g files p)
        (waits_for_capture_by g files (wanted p.input) p) waits acked in
        by_wanted (wanted p.input) refl part_whole no_call
      where
        unless_right : (a b : Bool) → a && b ≡ false → b ≡ true → a ≡ false
        unless_right true b e f = absurd (cc)
        unless_right false b e f = refl

        unless_left : (a b : Bool) → a && b ≡ false → a ≡ true → b ≡ false
        unless_left true b e f = e
        unless_left false b e f = absurd (cc)

        by_wanted : (w : Wanted) → wanted p.input ≡ w → is_whole_by g files p.input p.snapshots ≡ false → waits_for_capture_by g files w p ≡ false → ⊥
        by_wanted NotYet e open_end no_call = decided (ap wanted (sym all) ∙ e)
        by_wanted Refused e open_end no_call = true≢false (sym (ap (λ w. whole_for_by g files w p.snapshots) e) ∙ open_end)
        by_wanted (Name name) e open_end no_call = true≢false (sym (ap not open_end) ∙ no_call)

    -- with a capture that is needed, there is more to send
    after_capture : (p : AppState) (capture : Snapshot) (rest : List ℕ) → p.input ++ rest ≡ request → fine waited p ≡ true
        → IsSnapshot capture → 0 < length capture.now.rows → (w : Wanted) → wanted p.input ≡ w →
        is_acknowledged_by g files p ≡ true → waits_for_capture_by g files w p ≡ true → GoesOnBy (web_spec_by g files) request mss
        (fine waited) left (with_capture p capture) (left p) (web_want_by g files (with_capture p capture))
    after_capture p capture rest joined f is l NotYet named acked waits = absurd (cc)
    after_capture p capture rest joined f is l Refused named acked waits = absurd (cc)
    after_capture p capture rest joined f is l (Name name) named acked waits =
        let q : AppState = with_capture p capture in
        let fine_p = is_fine p f in
        let at_end : p.acked ≡ length (page_by g files p.input p.snapshots) = eqb-true p.acked (length (page_by g files p.input p.snapshots)) acked in
        let says = sends_named p rest name joined named in
        let sends_more = sends_named q rest name joined named in
        let stops : reach_by g wanted_pieces p.snapshots ≡ false = sym says.whole ∙ not-true (is_whole_by g files p.input p.snapshots) waits in
        let more = text_continues g are_short silent files mss some wanted_pieces continues p.snapshots capture is l stops in
        let before : length (page_by g files p.input p.snapshots) ≡ length (text_by g files wanted_pieces p.snapshots) = ap length says.text in
        let after : length (page_by g files q.input q.snapshots) ≡ length (text_by g files wanted_pieces q.snapshots) = ap length sends_more.text in
        let goes : p.acked ≤ length (page_by g files q.input q.snapshots) = elim more [
          | inl h ↦ omega (arith, at_end, before, after, h)
          | inr h ↦ omega (arith, at_end, before, after, h.0)
        ] in
        wants_on q (left p) rest joined (as_fine q fine_p.polls goes)
        (fewer_left g are_short silent files mss some wanted_pieces p.snapshots capture p.acked is stops (at_end ∙ ap length says.text))
        (λ z e all. elim more [
          | inl h ↦ (let y : ⊥ = omega (arith, z, at_end, before, after, h) in y)
          | inr h ↦
              let whole : is_whole_by g files q.input q.snapshots ≡ true = sends_more.whole ∙ h.1 in
              let acked_q : is_acknowledged_by g files q ≡ true = eq-eqb q.acked (length (page_by g files q.input q.snapshots)) (omega (arith, z, goes)) in
              true≢false (sym (ap (λ b. b && is_acknowledged_by g files q) whole ∙ acked_q) ∙ e)
        ])

    pub answers : AnswersIn (web_spec_by g files) request mss (fine waited) left (texts_by g mss wanted_pieces)
    answers = record {
      starts = λ hits port. (
        as_fine (record { port = port; input = []; snapshots = []; acked = 0; polls = 0; own = 0 }) (omega arith)
            (omega arith),
        counted_all g are_short silent files mss some wanted_pieces,
      );
      delivers_text = λ hits p piece rest f joined. (
        as_fine (record p { input = p.input ++ piece; polls = 0 }) (omega arith)
            (let h = prefix_length (page_by g files p.input p.snapshots) (page_by g files (p.input ++ piece) p.snapshots)
            (newdata_grows g files p piece) in omega (arith, (is_fine p f).acked, h)),
        omega arith,
      );
      goes_on = λ hits p now rest f joined words is l.
          (let capture : Snapshot = record { numbers = hits; now = now } in
          let P : AppState → Type 0 = λ q. GoesOnBy (web_spec_by g files) request mss (fine waited) left q (left p) (web_want_by g files q) in
          both_ways (is_acknowledged_by g files p && waits_for_capture_by g files (wanted p.input) p)
          (λ e. subst P (sym (ap (λ b. if b then with_capture p capture else p) e)) (let both = and_parts (is_acknowledged_by g files p)
          (waits_for_capture_by g files (wanted p.input) p) e in after_capture p capture rest joined f record { numbers = words; now = is }
          l (wanted p.input) refl both.0 both.1))
          (λ e. subst P (sym (ap (λ b. if b then with_capture p capture else p) e)) (wants_on p (left p) rest joined f (omega arith)
          (never_rests p e (is_fine p f)))));
    }

  -- polled up to nineteen times it answers all the same
  pub answers_polled : AnswersPolled (web_spec_by g files) request mss fine left (texts_by g mss wanted_pieces) 19
  answers_polled = record {
    answers = λ waited l. answers waited (omega (arith, l));
    waits = λ waited hits p l f. (
      (let is = is_fine waited (omega (arith, l)) p f in
          let polls = is.polls in as_fine (suc waited) (omega (arith, l)) (record p { polls = min 20 (p.polls + 1) }) (omega (arith, polls)) is.acked),
      omega arith,
    );
  }

-- ---- of a device

ten_some : (n : ℕ) → 0 < length (in_ten_places n)
ten_some n =
    let spaces : length (replicate {A = ℕ} (10 - length (decimal n)) 32) ≡ 10 - length (decimal n) = length-replicate {A = ℕ} (10 - length (decimal n)) 32 in
    omega (arith, length-append (replicate (10 - length (decimal n)) 32) (decimal n), spaces)

lines_some : (ns : List ℕ) → length ns ≡ 20 → 0 < length (flat_map counter_line ns)
lines_some [] e = absurd (let z : 0 ≡ 20 = e in cc)
lines_some (n ∷ ns) e = omega (arith, length-append (counter_line n) (flat_map counter_line ns), length-append (in_ten_places n) (10 ∷ []))

rows_some : (rows : List Row) → 0 < length rows → 0 < length (flat_map row_text rows)
unfolding row_parts
rows_some [] h = absurd (omega arith)
rows_some (row ∷ rows) h = omega arith

made_some : (files : List File) (function : Function) (argument : List ℕ) (capture : Snapshot) → takes_capture function ≡ true
    → IsSnapshot capture → 0 < length capture.now.rows → 0 < length (made_by words files (word.Uip function) argument capture)
made_some files FileStats argument capture e is some = ten_some (hits_of files capture.numbers argument)
made_some files TcpConnections argument capture e is some = rows_some capture.now.rows some
made_some files NetStats argument capture e is some = lines_some capture.now.net is.now.twenty
made_some files Ticks argument capture e is some = ten_some capture.now.ticks
made_some files Unknown argument capture e is some = absurd (cc)

always_continues : (files : List File) (pieces : List (ScriptPiece Word)) → text_follows_values pieces ≡ true → AlwaysContinues words files pieces
always_continues files [] e = tt
always_continues files (Plain text ∷ more) e = always_continues files more e
always_continues files (Made (word.Uip function) argument ∷ more) e =
    (inr (λ takes capture is some. made_some files function argument capture takes is some), always_continues files more e)
always_continues files (Made (word.Value spelling) argument ∷ more) e =
    let both = and_parts (text_is_next more) (text_follows_values more) e in
    (inl both.0, always_continues files more both.1)

pub pages_without_values : PagesWithoutValues
pages_without_values [] e = refl
pages_without_values (Plain text ∷ more) e = pages_without_values more e
pages_without_values (Made (word.Uip function) argument ∷ more) e = pages_without_values more e
pages_without_values (Made (word.Value spelling) argument ∷ more) e = absurd (cc)

words_silent : (function : Word) → words.function_table.takes_capture function ≡ false → words.function_table.length_at_most function ≡ 0
words_silent (word.Uip function) e = silent_none function e
words_silent (word.Value spelling) e = absurd (cc)

pub value_pages_answer : ValuePagesAnswer
value_pages_answer files request decided follows mss some low =
    let continues = always_continues files (answer_pieces words files (wanted request)) follows in (
      fine words words_short words_silent files request decided continues mss some low,
      (
        left words words_short words_silent files request decided continues mss some low,
        answers_polled words words_short words_silent files
            request decided continues mss some low,
      ),
    )

pub web_calls_arrive : WebCallsArrive
web_calls_arrive files trace arrives a p decided follows incarnation asks =
    let syn = lossy_syn a p incarnation asks.lossy in
    let some : 0 < a.mss = (let l = mss_some syn.option in let e = syn.is in omega (arith, l, e)) in
    let low : a.mss ≤ 1460 = (let l = first_low syn.option in let e = syn.is in omega (arith, l, e)) in
    let answers = value_pages_answer files a.request decided follows a.mss some low in
    arrives a p answers.0 answers.1.0 (texts_by words a.mss (answer_pieces words files (wanted a.request))) 19 answers.1.1 incarnation asks
