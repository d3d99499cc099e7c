-- The web server answers a request in as many texts as its pieces need.
-- [add: counter] Counter: the greatest length of a page.
-- [add: function] Function: the texts that its script needs.
use Rattle.link_replay.proofs.Prelude.{div_ceil, ◌≡◌, ◌≢◌, ℕ, suc, ◌+◌, ◌-◌, ◌<◌, ◌≤◌, ◌==◌, min, Bool, true, false, if◌then◌else◌, ◌&&◌}
use Rattle.link_replay.proofs.Prelude.{not, ◌⊎◌, inl, inr, List, [], ◌∷◌, ◌++◌, length, decimal, replicate, flat_map, refl, sym, ap, ◌∙◌}
use Rattle.link_replay.proofs.Prelude.{subst, arith, nat_lt, nat_le, length-append, true≢false, and_parts, eqb-true, ltb-true, leb-true}
use Rattle.link_replay.proofs.Prelude.{le-leb, cases_lt, common_steps, length-replicate, sum_by-cons, AppState, Snapshot, IsSnapshot, Row}
use Rattle.link_replay.proofs.Prelude.{Want, Nothing, Send, Close, Abort, Function, FileStats, TcpConnections, NetStats, Ticks, Unknown}
use Rattle.link_replay.proofs.Prelude.{length_at_most, takes_capture, File, in_ten_places, counter_line, row_parts, row_text, uip, Wanted}
use Rattle.link_replay.proofs.Prelude.{wanted, NotYet, Refused, Name, name_stays, ScriptPiece, Plain, Made, made_text, hits_of, page_text}
use Rattle.link_replay.proofs.Prelude.{reach_end, page_for, whole_for, page, is_page_whole, silent_text, silent_end, stopped_text}
use Rattle.link_replay.proofs.Prelude.{made_first, made_end, newdata_grows, with_capture, web_spec, web_want, is_acknowledged}
use Rattle.link_replay.proofs.Prelude.{waits_for_capture, left_of, silent_none, text_bound, uip_short, GoesOnBy, AnswersIn, AnswersPolled}
use Rattle.link_replay.proofs.Prelude.{prefix_length, both_ways, ltb-zero, not-true, all_nil, all_cons, most_of, texts_for, pieces_for}
use Rattle.std.proofs.lemmas.Bool.{eq-eqb}
use Rattle.node_laws.proofs.TextCounts.{left_in, behind, counted, shorter, one_less}

not_twenty : (n : ℕ) → n < 20 → (n == 20) ≡ false
not_twenty n l = grind (arith, common_steps)

-- ---- the text of a call is not empty, and no longer than its greatest length

ten_some : (n : ℕ) → 0 < length (in_ten_places n)
ten_some n =
    let spaces : length (replicate {A = ℕ} (10 - length (decimal n)) 32) ≡ 10 - length (decimal n) = length-replicate {A = ℕ} (10 - length (decimal n)) 32 in
    omega (arith, length-append (replicate (10 - length (decimal n)) 32) (decimal n), spaces)

lines_some : (ns : List ℕ) → length ns ≡ 20 → 0 < length (flat_map counter_line ns)
lines_some [] e = absurd (let z : 0 ≡ 20 = e in cc)
lines_some (n ∷ ns) e = omega (arith, length-append (counter_line n) (flat_map counter_line ns), length-append (in_ten_places n) (10 ∷ []))

rows_some : (rows : List Row) → 0 < length rows → 0 < length (flat_map row_text rows)
unfolding row_parts
rows_some [] h = absurd (omega arith)
rows_some (row ∷ rows) h = omega arith

module _ (files : List File) where
  made_some : (function : Function) (argument : List ℕ) (capture : Snapshot) → takes_capture function ≡ true → IsSnapshot capture
      → 0 < length capture.now.rows → 0 < length (made_text files function argument capture)
  made_some FileStats argument capture e is some = ten_some (hits_of files capture.numbers argument)
  made_some TcpConnections argument capture e is some = rows_some capture.now.rows some
  made_some NetStats argument capture e is some = lines_some capture.now.net is.now.twenty
  made_some Ticks argument capture e is some = ten_some capture.now.ticks
  made_some Unknown argument capture e is some = absurd cc

  made_short : (function : Function) (argument : List ℕ) (capture : Snapshot) → takes_capture function ≡ true → IsSnapshot capture
      → length (made_text files function argument capture) ≤ length_at_most function
  made_short function argument capture e is =
      let all = text_bound uip uip_short files (Made function argument ∷ []) (capture ∷ []) (all_cons IsSnapshot capture [] is (all_nil IsSnapshot)) in
      omega (arith, all, ap length (made_first uip files function argument [] capture [] e), length-append (made_text files function argument capture) [])

  -- ---- the lengths of pieces: of a call its greatest, until its capture is taken
  abbrev pub sizes : List (ScriptPiece Function) → List Snapshot → List ℕ
  sizes [] captures = []
  sizes (Plain text ∷ more) captures = length text ∷ sizes more captures
  sizes (Made function argument ∷ more) [] = length_at_most function ∷ sizes more []
  sizes (Made function argument ∷ more) (capture ∷ later) =
      if takes_capture function then length (made_text files function argument capture) ∷ sizes more later
      else length_at_most function ∷ sizes more (capture ∷ later)

  taken_size : (function : Function) (argument : List ℕ) (more : List (ScriptPiece Function)) (capture : Snapshot) (later : List Snapshot)
      → takes_capture function ≡ true →
      sizes (Made function argument ∷ more) (capture ∷ later) ≡ length (made_text files function argument capture) ∷ sizes more later
  taken_size function argument more capture later e =
      ap (λ b. if b then length (made_text files function argument capture) ∷ sizes more later else length_at_most function ∷ sizes more (capture ∷ later)) e

  silent_size : (function : Function) (argument : List ℕ) (more : List (ScriptPiece Function)) (captures : List Snapshot) → takes_capture function ≡ false →
      sizes (Made function argument ∷ more) captures ≡ length_at_most function ∷ sizes more captures
  silent_size function argument more [] e = refl
  silent_size function argument more (capture ∷ later) e =
      ap (λ b. if b then length (made_text files function argument capture) ∷ sizes more later else length_at_most function ∷ sizes more (capture ∷ later)) e

  module _ (mss : ℕ) (some : 0 < mss) where
    -- one piece, and what follows it
    by_piece : (n output all a x : ℕ) (ns : List ℕ) → all ≡ n + output → 0 < x → a + x ≤ all → (x ≡ mss) ⊎ (a + x ≡ all) →
        ((b : ℕ) → b + x ≤ output → (x ≡ mss) ⊎ (b + x ≡ output) → left_in mss some ns (b + x) < left_in mss some ns b) →
        left_in mss some (n ∷ ns) (a + x) < left_in mss some (n ∷ ns) a
    by_piece n output all a x ns e l within whole rest =
        one_less mss some n a x output ns l (omega (arith, within, e)) (elim whole [ inl i ↦ inl i | inr i ↦ inr (i ∙ e) ])
        (λ h. rest (a - n) (omega (arith, within, e, h)) (elim whole [ inl i ↦ inl i | inr i ↦ inr (omega (arith, i, e, h)) ]))

    abbrev Less : List (ScriptPiece Function) → List Snapshot → ℕ → ℕ → Type 0
    Less pieces captures a x = left_in mss some (sizes pieces captures) (a + x) < left_in mss some (sizes pieces captures) a

    pub less_left : (pieces : List (ScriptPiece Function)) (captures : List Snapshot) (a x : ℕ) → 0 < x
        → a + x ≤ length (page_text files pieces captures) → (x ≡ mss) ⊎ (a + x ≡ length (page_text files pieces captures)) → Less pieces captures a x
    less_left [] captures a x l within whole = absurd (omega arith)
    less_left (Plain text ∷ more) captures a x l within whole =
        by_piece (length text) (length (page_text files more captures)) (length (text ++ page_text files more captures)) a x
        (sizes more captures) (length-append text (page_text files more captures)) l within whole
        (λ b w i. less_left more captures b x l w i)
    less_left (Made function argument ∷ more) [] a x l within whole =
        both_ways (takes_capture function)
        (λ e. absurd (let z : ⊥ = omega (arith, l, within, ap length (stopped_text uip files function argument more e)) in z))
        (λ e. by_piece (length_at_most function) (length (page_text files more []))
        (length (page_text files (Made function argument ∷ more) [])) a x (sizes more [])
        (let z : length (page_text files (Made function argument ∷ more) []) ≡ length_at_most function + length (page_text files more []) =
        omega (arith, ap length (silent_text uip files function argument more [] e), silent_none function e) in z) l within whole
        (λ b w i. less_left more [] b x l w i))
    less_left (Made function argument ∷ more) (capture ∷ later) a x l within whole =
        both_ways (takes_capture function)
        (λ e. subst (λ s. left_in mss some s (a + x) < left_in mss some s a) (sym (taken_size function argument more capture later e))
        (by_piece (length (made_text files function argument capture)) (length (page_text files more later))
        (length (page_text files (Made function argument ∷ more) (capture ∷ later))) a x (sizes more later)
        (ap length (made_first uip files function argument more capture later e) ∙ length-append (made_text files function argument capture)
        (page_text files more later)) l within whole
        (λ b w i. less_left more later b x l w i)))
        (λ e. subst (λ s. left_in mss some s (a + x) < left_in mss some s a) (sym (silent_size function argument more (capture ∷ later) e))
        (by_piece (length_at_most function) (length (page_text files more (capture ∷ later)))
        (length (page_text files (Made function argument ∷ more) (capture ∷ later))) a x (sizes more (capture ∷ later))
        (let z : length (page_text files (Made function argument ∷ more) (capture ∷ later)) ≡ length_at_most function + length
        (page_text files more (capture ∷ later)) =
        omega (arith, ap length (silent_text uip files function argument more (capture ∷ later) e), silent_none function e) in z) l within whole
        (λ b w i. less_left more (capture ∷ later) b x l w i)))

    -- ---- a capture is taken where the text ends
    abbrev Fewer : List ℕ → List ℕ → ℕ → Type 0
    Fewer after before a = left_in mss some after a ≤ left_in mss some before a

    past_piece : (n output a : ℕ) (after before : List ℕ) → a ≡ n + output → Fewer after before output → Fewer (n ∷ after) (n ∷ before) a
    past_piece n output a after before e h =
        let rest : a - n ≡ output = omega (arith, e) in
        omega (
          arith,
          behind mss some n a after (omega (arith, e)),
          behind mss some n a before (omega (arith, e)),
          ap (λ k. left_in mss some after k) rest,
          ap (λ k. left_in mss some before k) rest,
          h,
        )

    fewer_left : (pieces : List (ScriptPiece Function)) (captures : List Snapshot) (capture : Snapshot) (a : ℕ) → IsSnapshot capture
        → reach_end pieces captures ≡ false → a ≡ length (page_text files pieces captures) →
        Fewer (sizes pieces (captures ++ capture ∷ [])) (sizes pieces captures) a
    fewer_left [] captures capture a is stops h = absurd (cc)
    fewer_left (Plain text ∷ more) captures capture a is stops h =
        past_piece (length text) (length (page_text files more captures)) a (sizes more (captures ++ capture ∷ [])) (sizes more captures)
        (h ∙ length-append text (page_text files more captures))
        (fewer_left more captures capture (length (page_text files more captures)) is stops refl)
    fewer_left (Made function argument ∷ more) [] capture a is stops h =
        both_ways (takes_capture function)
        (λ e. subst (λ s. Fewer s (length_at_most function ∷ sizes more []) a) (sym (taken_size function argument more capture [] e))
        (subst (λ k. Fewer (length (made_text files function argument capture) ∷ sizes more []) (length_at_most function ∷ sizes more []) k)
        (sym (h ∙ ap length (stopped_text uip files function argument more e)))
        (shorter mss some (length (made_text files function argument capture)) (length_at_most function) (sizes more [])
        (made_short function argument capture e is))))
        (λ e. subst (λ s. Fewer s (length_at_most function ∷ sizes more []) a) (sym (silent_size function argument more (capture ∷ []) e))
        (past_piece (length_at_most function) (length (page_text files more [])) a (sizes more (capture ∷ [])) (sizes more [])
        (let z : a ≡ length_at_most function + length (page_text files more []) = omega
        (arith, h, ap length (silent_text uip files function argument more [] e), silent_none function e) in z)
        (fewer_left more [] capture (length (page_text files more [])) is (sym (silent_end uip function argument more [] e) ∙ stops) refl)))
    fewer_left (Made function argument ∷ more) (first ∷ later) capture a is stops h =
        both_ways (takes_capture function)
        (λ e. subst (λ s. Fewer s (sizes (Made function argument ∷ more) (first ∷ later)) a)
        (sym (taken_size function argument more first (later ++ capture ∷ []) e))
        (subst (λ s. Fewer (length (made_text files function argument first) ∷ sizes more (later ++ capture ∷ [])) s a)
        (sym (taken_size function argument more first later e))
        (past_piece (length (made_text files function argument first)) (length (page_text files more later)) a
        (sizes more (later ++ capture ∷ [])) (sizes more later)
        (h ∙ ap length (made_first uip files function argument more first later e) ∙ length-append (made_text files function argument first)
        (page_text files more later))
        (fewer_left more later capture (length (page_text files more later)) is (sym (made_end uip function argument more first later e) ∙ stops) refl))))
        (λ e. subst (λ s. Fewer s (sizes (Made function argument ∷ more) (first ∷ later)) a)
        (sym (silent_size function argument more (first ∷ later ++ capture ∷ []) e))
        (subst (λ s. Fewer (length_at_most function ∷ sizes more (first ∷ later ++ capture ∷ [])) s a)
        (sym (silent_size function argument more (first ∷ later) e))
        (past_piece (length_at_most function) (length (page_text files more (first ∷ later))) a (sizes more (first ∷ later ++ capture ∷ []))
        (sizes more (first ∷ later))
        (let z : a ≡ length_at_most function + length (page_text files more (first ∷ later)) = omega
        (arith, h, ap length (silent_text uip files function argument more (first ∷ later) e), silent_none function e) in z)
        (fewer_left more (first ∷ later) capture (length (page_text files more (first ∷ later))) is
        (sym (silent_end uip function argument more (first ∷ later) e) ∙ stops) refl))))

    -- and the text continues
    abbrev Longer : List (ScriptPiece Function) → List Snapshot → Snapshot → Type 0
    Longer pieces captures capture = length (page_text files pieces captures) < length (page_text files pieces (captures ++ capture ∷ []))

    text_longer : (pieces : List (ScriptPiece Function)) (captures : List Snapshot) (capture : Snapshot) → IsSnapshot capture
        → 0 < length capture.now.rows → reach_end pieces captures ≡ false → Longer pieces captures capture
    text_longer [] captures capture is l stops = absurd (cc)
    text_longer (Plain text ∷ more) captures capture is l stops =
        omega (
          arith,
          length-append text (page_text files more captures),
          length-append text (page_text files more (captures ++ capture ∷ [])),
          text_longer more captures capture is l stops,
        )
    text_longer (Made function argument ∷ more) [] capture is l stops =
        both_ways (takes_capture function)
        (λ e. omega (
          arith,
          ap length (stopped_text uip files function argument more e),
          ap length (made_first uip files function argument more capture [] e),
          length-append (made_text files function argument capture) (page_text files more []),
          made_some function argument capture e is l,
        ))
        (λ e. omega (
          arith,
          ap length (silent_text uip files function argument more [] e),
          ap length (silent_text uip files function argument more (capture ∷ []) e),
          text_longer more [] capture is l (sym (silent_end uip function argument more [] e) ∙ stops),
        ))
    text_longer (Made function argument ∷ more) (first ∷ later) capture is l stops =
        both_ways (takes_capture function)
        (λ e. omega (
          arith,
          ap length (made_first uip files function argument more first later e),
          ap length (made_first uip files function argument more first (later ++ capture ∷ []) e),
          length-append (made_text files function argument first) (page_text files more later),
          length-append (made_text files function argument first) (page_text files more (later ++ capture ∷ [])),
          text_longer more later capture is l (sym (made_end uip function argument more first later e) ∙ stops),
        ))
        (λ e. omega (
          arith,
          ap length (silent_text uip files function argument more (first ∷ later) e),
          ap length (silent_text uip files function argument more (first ∷ later ++ capture ∷ []) e),
          text_longer more (first ∷ later) capture is l (sym (silent_end uip function argument more (first ∷ later) e) ∙ stops),
        ))

    -- at the start
    counted_all : (pieces : List (ScriptPiece Function)) → left_in mss some (sizes pieces []) 0 ≤ texts_for mss pieces
    counted_all [] = omega arith
    counted_all (Plain text ∷ more) =
        omega (arith, counted mss some (length text) (sizes more []), counted_all more, sum_by-cons (λ piece. div_ceil (most_of piece) mss) (Plain text) more)
    counted_all (Made function argument ∷ more) =
        omega (
          arith,
          counted mss some (length_at_most function) (sizes more []),
          counted_all more,
          sum_by-cons (λ piece. div_ceil (most_of piece) mss) (Made function argument) more,
        )

module _ (files : List File) (request : List ℕ) (decided : wanted request ≢ NotYet) (mss : ℕ) (some : 0 < mss) (low : mss ≤ 1460) where
  abbrev wanted_pieces : List (ScriptPiece Function)
  wanted_pieces = pieces_for files (wanted request)

  -- it was polled this often, and no more is acknowledged than was sent
  abbrev pub fine : ℕ → AppState → Bool
  fine waited p = nat_le p.polls waited && nat_le p.acked (length (page files p.input p.snapshots))

  -- the texts that are left
  abbrev pub left : AppState → ℕ
  left p = left_in mss some (sizes files wanted_pieces p.snapshots) p.acked

  -- the output is that of the pieces of the whole request
  record SendsPieces (p : AppState) : Type 0 where
    text : page files p.input p.snapshots ≡ page_text files wanted_pieces p.snapshots
    whole : is_page_whole files p.input p.snapshots ≡ reach_end wanted_pieces p.snapshots

  sends_named : (p : AppState) (rest name : List ℕ) → p.input ++ rest ≡ request → wanted p.input ≡ Name name → SendsPieces p
  sends_named p rest name joined e =
      let all : wanted request ≡ Name name = ap wanted (sym joined) ∙ name_stays p.input rest name e in
      record {
        text = ap (λ w. page_for files w p.snapshots) e ∙ ap (λ w. page_text files (pieces_for files w) p.snapshots) (sym all);
        whole = ap (λ w. whole_for files w p.snapshots) e ∙ ap (λ w. reach_end (pieces_for files w) p.snapshots) (sym all);
      }

  outputs_some : (p : AppState) (rest : List ℕ) → p.input ++ rest ≡ request → (w : Wanted) → wanted p.input ≡ w
      → 0 < length (page files p.input p.snapshots) → SendsPieces p
  outputs_some p rest joined NotYet e h = absurd (let z : ⊥ = omega (arith, h, ap (λ w. length (page_for files w p.snapshots)) e) in z)
  outputs_some p rest joined Refused e h = absurd (let z : ⊥ = omega (arith, h, ap (λ w. length (page_for files w p.snapshots)) e) in z)
  outputs_some p rest joined (Name name) e h = sends_named p rest name joined e

  -- after this number of polls
  module _ (waited : ℕ) (patient : waited < 20) where
    record IsFine (p : AppState) : Type 0 where
      polls : p.polls ≤ waited
      acked : p.acked ≤ length (page files p.input p.snapshots)

    is_fine : (p : AppState) → fine waited p ≡ true → IsFine p
    is_fine p e =
        let both = and_parts (nat_le p.polls waited) (nat_le p.acked (length (page files p.input p.snapshots))) e in
        record { polls = leb-true p.polls waited both.0; acked = leb-true p.acked (length (page files p.input p.snapshots)) both.1 }

    as_fine : (p : AppState) → p.polls ≤ waited → p.acked ≤ length (page files p.input p.snapshots) → fine waited p ≡ true
    as_fine p e h = ap (λ b. b && nat_le p.acked (length (page files p.input p.snapshots))) (le-leb p.polls waited e)
        ∙ le-leb p.acked (length (page files p.input p.snapshots)) h

    -- what it requests, if nothing is wrong
    wants_on : (q : AppState) (most : ℕ) (rest : List ℕ) → q.input ++ rest ≡ request → fine waited q ≡ true → left q ≤ most →
        (left_of files q ≡ 0 → is_page_whole files q.input q.snapshots && is_acknowledged files q ≡ false → q.input ≡ request → ⊥)
        → GoesOnBy (web_spec files) request mss (fine waited) left q most (web_want files q)
    wants_on q most rest joined f few none =
        let is = is_fine q f in
        let P : Want → Type 0 = GoesOnBy (web_spec files) request mss (fine waited) left q most in
        let by_end : Want = if is_page_whole files q.input q.snapshots && is_acknowledged files q then Close else
        (if nat_lt 0 (left_of files q) then Send (min 1460 (left_of files q)) else Nothing) in
        subst P (sym (ap (λ b. if b then Abort else by_end) (let z : (q.polls == 20) ≡ false = not_twenty q.polls (let y = is.polls in
        omega (arith, y, patient)) in z)))
        (both_ways (is_page_whole files q.input q.snapshots && is_acknowledged files q)
        (λ e. subst P (sym (ap (λ b. if b then Close else (if nat_lt 0 (left_of files q) then Send (min 1460 (left_of files q)) else Nothing)) e)) tt)
        (λ e. subst P (sym (ap (λ b. if b then Close else (if nat_lt 0 (left_of files q) then Send (min 1460 (left_of files q)) else Nothing)) e))
        (both_ways (nat_lt 0 (left_of files q))
        (λ l. subst P (sym (ap (λ b. if b then Send (min 1460 (left_of files q)) else Nothing) l))
        (sends q most rest joined is few (ltb-true 0 (left_of files q) l)))
        (λ l. subst P (sym (ap (λ b. if b then Send (min 1460 (left_of files q)) else Nothing) l)) (f, few, none (ltb-zero (left_of files q) l) e)))))
      where
        sends : (q : AppState) (most : ℕ) (rest : List ℕ) → q.input ++ rest ≡ request → IsFine q → left q ≤ most → 0 < left_of files q
            → GoesOnBy (web_spec files) request mss (fine waited) left q most (Send (min 1460 (left_of files q)))
        sends q most rest joined is few l =
            let x : ℕ = min (min 1460 (left_of files q)) mss in
            let says = outputs_some q rest joined (wanted q.input) refl (omega (arith, l)) in
            let size : length (page files q.input q.snapshots) ≡ length (page_text files wanted_pieces q.snapshots) = ap length says.text in
            let whole : (x ≡ mss) ⊎ (q.acked + x ≡ length (page_text files wanted_pieces q.snapshots)) =
            elim (cases_lt (left_of files q) mss) [ inl h ↦ inr (omega (arith, h, low, is.acked, size)) | inr h ↦ inl (omega (arith, h, low)) ] in
            let less = less_left files mss some wanted_pieces q.snapshots q.acked x (omega (arith, l, some)) (omega (arith, l, is.acked, size)) whole in
            λ ns. (as_fine (record q { acked = q.acked + x; polls = 0 }) (omega arith) (omega (arith, l, is.acked)), omega (arith, less, few))

    -- nothing is requested only while the request is not decided
    never_rests : (p : AppState) → is_acknowledged files p && waits_for_capture files (wanted p.input) p ≡ false → IsFine p
        → left_of files p ≡ 0 → is_page_whole files p.input p.snapshots && is_acknowledged files p ≡ false → p.input ≡ request → ⊥
    never_rests p waits is z rests all =
        let acked : is_acknowledged files p ≡ true = eq-eqb p.acked (length (page files p.input p.snapshots)) (omega (arith, z, is.acked)) in
        let part_whole : is_page_whole files p.input p.snapshots ≡ false = unless_right (is_page_whole files p.input p.snapshots)
        (is_acknowledged files p) rests acked in
        let no_call : waits_for_capture files (wanted p.input) p ≡ false = unless_left (is_acknowledged files p)
        (waits_for_capture files (wanted p.input) p) waits acked in
        by_wanted (wanted p.input) refl part_whole no_call
      where
        unless_right : (a b : Bool) → a && b ≡ false → b ≡ true → a ≡ false
        unless_right true b e f = absurd (cc)
        unless_right false b e f = refl

        unless_left : (a b : Bool) → a && b ≡ false → a ≡ true → b ≡ false
        unless_left true b e f = e
        unless_left false b e f = absurd (cc)

        by_wanted : (w : Wanted) → wanted p.input ≡ w → is_page_whole files p.input p.snapshots ≡ false → waits_for_capture files w p ≡ false → ⊥
        by_wanted NotYet e open_end no_call = decided (ap wanted (sym all) ∙ e)
        by_wanted Refused e open_end no_call = true≢false (sym (ap (λ w. whole_for files w p.snapshots) e) ∙ open_end)
        by_wanted (Name name) e open_end no_call = true≢false (sym (ap not open_end) ∙ no_call)

    -- with a capture that is needed, there is more to send
    after_capture : (p : AppState) (capture : Snapshot) (rest : List ℕ) → p.input ++ rest ≡ request → fine waited p ≡ true
        → IsSnapshot capture → 0 < length capture.now.rows → (w : Wanted) → wanted p.input ≡ w →
        is_acknowledged files p ≡ true → waits_for_capture files w p ≡ true → GoesOnBy (web_spec files) request mss (fine waited) left
        (with_capture p capture) (left p) (web_want files (with_capture p capture))
    after_capture p capture rest joined f is l NotYet named acked waits = absurd (cc)
    after_capture p capture rest joined f is l Refused named acked waits = absurd (cc)
    after_capture p capture rest joined f is l (Name name) named acked waits =
        let q : AppState = with_capture p capture in
        let fine_p = is_fine p f in
        let at_end : p.acked ≡ length (page files p.input p.snapshots) = eqb-true p.acked (length (page files p.input p.snapshots)) acked in
        let says = sends_named p rest name joined named in
        let sends_more = sends_named q rest name joined named in
        let stops : reach_end wanted_pieces p.snapshots ≡ false = sym says.whole ∙ not-true (is_page_whole files p.input p.snapshots) waits in
        let more = text_longer files mss some wanted_pieces p.snapshots capture is l stops in
        let longer : p.acked < length (page files q.input q.snapshots) = omega (arith, at_end, ap length says.text, ap length sends_more.text, more) in
        let goes : p.acked ≤ length (page files q.input q.snapshots) = omega (arith, longer) in
        wants_on q (left p) rest joined (as_fine q fine_p.polls goes)
        (fewer_left files mss some wanted_pieces p.snapshots capture p.acked is stops (at_end ∙ ap length says.text))
        (λ z e all. let y : ⊥ = omega (arith, z, longer) in y)

    pub answers : AnswersIn (web_spec files) request mss (fine waited) left (texts_for mss wanted_pieces)
    answers = record {
      starts = λ hits port. (
        as_fine (record { port = port; input = []; snapshots = []; acked = 0; polls = 0; own = 0 }) (omega arith)
            (omega arith),
        counted_all files mss some wanted_pieces,
      );
      delivers_text = λ hits p piece rest f joined. (
        as_fine (record p { input = p.input ++ piece; polls = 0 }) (omega arith)
            (let h = prefix_length (page files p.input p.snapshots) (page files (p.input ++ piece) p.snapshots)
            (newdata_grows uip files p piece) in omega (arith, (is_fine p f).acked, h)),
        omega arith,
      );
      goes_on = λ hits p now rest f joined words is l.
          (let capture : Snapshot = record { numbers = hits; now = now } in
          let P : AppState → Type 0 = λ q. GoesOnBy (web_spec files) request mss (fine waited) left q (left p) (web_want files q) in
          both_ways (is_acknowledged files p && waits_for_capture files (wanted p.input) p)
          (λ e. subst P (sym (ap (λ b. if b then with_capture p capture else p) e)) (let both = and_parts (is_acknowledged files p)
          (waits_for_capture files (wanted p.input) p) e in after_capture p capture rest joined f record { numbers = words; now = is } l
          (wanted p.input) refl both.0 both.1))
          (λ e. subst P (sym (ap (λ b. if b then with_capture p capture else p) e)) (wants_on p (left p) rest joined f (omega arith)
          (never_rests p e (is_fine p f)))));
    }

  -- polled up to nineteen times it answers all the same
  pub answers_polled : AnswersPolled (web_spec files) request mss fine left (texts_for mss wanted_pieces) 19
  answers_polled = record {
    answers = λ waited l. answers waited (omega (arith, l));
    waits = λ waited hits p l f. (
      (let is = is_fine waited (omega (arith, l)) p f in
          let polls = is.polls in as_fine (suc waited) (omega (arith, l)) (record p { polls = min 20 (p.polls + 1) }) (omega (arith, polls)) is.acked),
      omega arith,
    );
  }
