-- What a decoder knows after one more byte, or a run of them.
use Rattle.uip_slip.proofs.Prelude.{◌≡◌, ℕ, ◌+◌, ◌≤◌, ◌<◌, Bool, true, false, cond, eqb, nat_lt, List, [], ◌∷◌, ◌++◌, take, length, get_or}
use Rattle.uip_slip.proofs.Prelude.{refl, sym, ap, subst, ◌-◌, ◌∙◌, append-nil, append_assoc, arith, length-take, length-append}
use Rattle.uip_slip.proofs.Prelude.{length-drop, drop, ◌||◌, list_all, get_or-drop, get_or-take, take_all, take_more, take-add}
use Rattle.uip_slip.proofs.Prelude.{take-append-add, ltb-false, ltb-true, le-ltb, lt-ltb, le-leb, lt-leb, Frame, meant, unescaped, frame_of}
use Rattle.uip_slip.proofs.Prelude.{open_part, frames, Datagram, Overlong, is_plain, Fed, EndsFrame, State, WasFed, waits_after, open_bytes}
use Rattle.uip_slip.proofs.Prelude.{reported_by, reopened, pushed, taken, joined_parts, Closes, IsNoise, true≢false}
use Rattle.uip_slip.specs.declared.fed.Fed.TheVariants as fed
use Rattle.uip_slip.proofs.PartLaws.{frames-end, open_part-end, frames-plain, open_part-plain, parts-byte}
use Rattle.uip_slip.proofs.PlainLaws.{adds, both_true, plain_byte, unescaped-push, waits_after-push, parts-plain, plain_joined}

-- a state represents the bytes u of a part
pub record Holds (u : List ℕ) (w : Bool) (s : State) : Type 0 where
  pub prefix : s.over ≡ false → s.bytes ≡ u
  pub over : s.over ≡ nat_lt 1500 (length u)
  pub waits : s.waits ≡ w
  pub reported : s.reported ≡ false

-- a part that is too long stays so
stays_long : (u more : List ℕ) → true ≡ nat_lt 1500 (length u) → true ≡ nat_lt 1500 (length (u ++ more))
stays_long u more e = (let long : 1500 < length u = ltb-true _ _ (sym e) in sym (lt-ltb 1500 (length (u ++ more)) (omega (arith, length-append u more, long))))

over_room : (u : List ℕ) (w : Bool) (s : State) (c : ℕ) → Holds u w s → length s.bytes < 1500 → s.over ≡ nat_lt 1500 (length (u ++ c ∷ []))
over_room u w s c h less =
    elim s.over as (λ v. s.over ≡ v → v ≡ nat_lt 1500 (length (u ++ c ∷ []))) [
      | true ↦ λ o. stays_long u (c ∷ []) (sym o ∙ h.over)
      | false ↦ λ o. (let size : length s.bytes ≡ length u = ap (λ l. length l) (h.prefix o) in
          sym (le-ltb 1500 (length (u ++ c ∷ [])) (omega (arith, size, less, length-append u (c ∷ [])))))
    ] refl

over_full : (u : List ℕ) (w : Bool) (s : State) (c : ℕ) → Holds u w s → 1500 ≤ length s.bytes → true ≡ nat_lt 1500 (length (u ++ c ∷ []))
over_full u w s c h full =
    elim s.over as (λ v. s.over ≡ v → true ≡ nat_lt 1500 (length (u ++ c ∷ []))) [
      | true ↦ λ o. stays_long u (c ∷ []) (sym o ∙ h.over)
      | false ↦ λ o. (let size : length s.bytes ≡ length u = ap (λ l. length l) (h.prefix o) in
          sym (lt-ltb 1500 (length (u ++ c ∷ [])) (omega (arith, size, full, length-append u (c ∷ [])))))
    ] refl

pushed_holds : (u : List ℕ) (w : Bool) (s : State) (c : ℕ) → Holds u w s → Holds (u ++ c ∷ []) false (pushed s c)
pushed_holds u w s c h =
    elim (nat_lt (length s.bytes) 1500) as (λ v. nat_lt (length s.bytes) 1500 ≡ v → Holds (u ++ c ∷ []) false
    (cond v (record { bytes = s.bytes ++ c ∷ []; over = s.over; waits = false; reported = false })
    (record { bytes = s.bytes; over = true; waits = false; reported = false }))) [
      | true ↦ λ e. record { prefix = λ o. ap (λ l. l ++ c ∷ []) (h.prefix o); over = over_room u w s c h (ltb-true _ _ e); waits = refl; reported = refl }
      | false ↦ λ e. record { prefix = λ o. absurd (true≢false o); over = over_full u w s c h (ltb-false _ _ e); waits = refl; reported = refl }
    ] refl

taken_holds : (p : List ℕ) (s : State) (b : ℕ) → Holds (unescaped p) (waits_after p) s
    → Holds (unescaped (p ++ b ∷ [])) (waits_after (p ++ b ∷ [])) (taken s b)
taken_holds p s b h = rw (unescaped-push p b, waits_after-push p b, h.waits)
    (elim (waits_after p) as (λ v. Holds (unescaped p ++ adds v b) (cond v false (eqb b 219))
    (cond v (pushed s (meant b)) (cond (eqb b 219) (record { bytes = s.bytes; over = s.over; waits = true; reported = false }) (pushed s b)))) [
      | true ↦ pushed_holds (unescaped p) (waits_after p) s (meant b) h
      | false ↦ elim (eqb b 219) as (λ v. Holds (unescaped p ++ cond v [] (b ∷ [])) v
          (cond v (record { bytes = s.bytes; over = s.over; waits = true; reported = false }) (pushed s b))) [
            | true ↦ rw append-nil (record { prefix = h.prefix; over = h.over; waits = refl; reported = refl })
            | false ↦ pushed_holds (unescaped p) (waits_after p) s b h
          ]
    ])

joined_holds : (u : List ℕ) (s : State) (run : List ℕ) → Holds u false s → Holds (u ++ run) false (joined_parts s run)
joined_holds u s run h =
    elim s.over as (λ v. s.over ≡ v → Holds (u ++ run) false
    (record s { bytes = take 1500 (s.bytes ++ run); over = v || nat_lt 1500 (length s.bytes + length run) })) [
      | true ↦ λ o. record { prefix = λ x. absurd (true≢false x); over = stays_long u run (sym o ∙ h.over); waits = h.waits; reported = h.reported }
      | false ↦ λ o. (let same : s.bytes ≡ u = h.prefix o in let size : length s.bytes ≡ length u = ap (λ l. length l) same in record {
        prefix = λ x. (let most : length s.bytes + length run ≤ 1500 = ltb-false _ _ x in
            ap (λ l. take 1500 (l ++ run)) same ∙ take_all 1500 (u ++ run) (omega (arith, length-append u run, size, most)));
        over = ap (λ k. nat_lt 1500 (k + length run)) size ∙ ap (λ k. nat_lt 1500 k) (sym (length-append u run));
        waits = h.waits;
        reported = h.reported;
      })
    ] refl

open_again : (u : List ℕ) (w : Bool) (s : State) → Holds u w s → s.over ≡ false → open_bytes s ≡ u
open_again u w s h o = rw h.reported (h.prefix o)

-- a decoder that was opened again, and was then fed to a state that holds the longer part
held : (bytes more : List ℕ) (s new : State) → open_part (bytes ++ more) ≡ open_part bytes ++ more
    → Holds (unescaped (open_part bytes ++ more)) (waits_after (open_part bytes ++ more)) new → WasFed (bytes ++ more) new
held bytes more s new longer h = record {
  prefix = λ o. rw longer (open_again _ _ new h o);
  over = rw longer h.over;
  waits = rw longer h.waits;
}

reopened_holds : (bytes : List ℕ) (s : State) → WasFed bytes s → Holds (unescaped (open_part bytes)) (waits_after (open_part bytes)) (reopened s)
reopened_holds bytes s f = record { prefix = f.prefix; over = f.over; waits = f.waits; reported = refl }

pub fed_byte : (bytes : List ℕ) (s : State) (b : ℕ) → eqb b 192 ≡ false → WasFed bytes s
    → WasFed (bytes ++ b ∷ []) (taken (reopened s) b) × (frames (bytes ++ b ∷ []) ≡ frames bytes ++ [])
fed_byte bytes s b plain f = (
  held bytes (b ∷ []) s _ (open_part-plain bytes (b ∷ []) (parts-byte b plain)) (taken_holds (open_part bytes) (reopened s) b (reopened_holds bytes s f)),
  frames-plain bytes (b ∷ []) (parts-byte b plain),
)

frame_of-datagram : (u : List ℕ) → (u ≡ [] → ⊥) → length u ≤ 1500 → frame_of u ≡ Datagram u ∷ []
frame_of-datagram [] some h = absurd (some refl)
frame_of-datagram (b ∷ u) some h = (let fits = le-leb (length (b ∷ u)) 1500 h in rw fits refl)

frame_of-overlong : (u : List ℕ) → 1500 < length u → frame_of u ≡ Overlong ∷ []
frame_of-overlong [] h = absurd (omega arith)
frame_of-overlong (b ∷ u) h = (let long = lt-leb (length (b ∷ u)) 1500 h in rw long refl)

pub fed_end : (bytes : List ℕ) (s : State) (b : ℕ) (answer : Fed) (new : State) → eqb b 192 ≡ true → WasFed bytes s
    → Closes (reopened s) answer new
    → WasFed (bytes ++ b ∷ []) new × (frames (bytes ++ b ∷ []) ≡ frames bytes ++ reported_by answer new)
fed_end bytes s b fed.More new end f c =
    let shut : open_part (bytes ++ b ∷ []) ≡ [] = open_part-end bytes b end in
    let u = unescaped (open_part bytes) in
    let none : u ≡ [] = sym (f.prefix c.0) ∙ c.1 in (
      record { prefix = λ o. rw (shut, c.2) refl; over = rw (shut, c.2) refl; waits = rw (shut, c.2) refl },
      frames-end bytes b end ∙ ap (λ l. frames bytes ++ frame_of l) none,
    )
fed_end bytes s b fed.Overlong new end f c =
    let shut : open_part (bytes ++ b ∷ []) ≡ [] = open_part-end bytes b end in
    let u = unescaped (open_part bytes) in
    let long : 1500 < length u = ltb-true _ _ (sym f.over ∙ c.0) in (
      record { prefix = λ o. rw (shut, c.1) refl; over = rw (shut, c.1) refl; waits = rw (shut, c.1) refl },
      frames-end bytes b end ∙ ap (λ l. frames bytes ++ l) (frame_of-overlong u long),
    )
fed_end bytes s b (fed.Datagram n) new end f c =
    let shut : open_part (bytes ++ b ∷ []) ≡ [] = open_part-end bytes b end in
    let u = unescaped (open_part bytes) in
    let small : length u ≤ 1500 = ltb-false _ _ (sym f.over ∙ c.0) in
    let same : open_bytes s ≡ u = f.prefix c.0 in
    let whole : new.bytes ≡ u = rw c.3 same in
    let some : u ≡ [] → ⊥ = λ e. let z : length (open_bytes s) ≡ 0 = ap (λ l. length l) (same ∙ e) in omega arith in (
      record { prefix = λ o. rw (shut, c.3) refl; over = rw (shut, c.3) refl; waits = rw (shut, c.3) refl },
      frames-end bytes b end ∙ ap (λ l. frames bytes ++ l) (frame_of-datagram u some small ∙ ap (λ l. Datagram l ∷ []) (sym whole)),
    )

-- noise within a part leaves nothing of it
pub fed_noise : (before noise : List ℕ) (s new : State) → IsNoise noise → new.over ≡ true → new.waits ≡ false → WasFed before s → WasFed (before ++ noise) new
fed_noise before [] s new n over rests f = absurd (let long = n.long in omega (arith, long))
fed_noise before (b ∷ rest) s new n over rests f =
    let p = open_part before in
    let each = both_true (is_plain b) (list_all is_plain rest) n.plain in
    let no_esc : eqb b 219 ≡ false = (plain_byte b each.0).1 in
    let one : waits_after (p ++ b ∷ []) ≡ false = waits_after-push p b ∙ elim (waits_after p) as (λ v. cond v false (eqb b 219) ≡ false) [
      | true ↦ refl
      | false ↦ no_esc
    ] in
    let more = plain_joined (p ++ b ∷ []) rest each.1 one in
    let at : open_part (before ++ b ∷ rest) ≡ (p ++ b ∷ []) ++ rest = open_part-plain before (b ∷ rest) (parts-plain (b ∷ rest) n.plain)
    ∙ sym (append_assoc p (b ∷ []) rest) in
    let size : length (unescaped ((p ++ b ∷ []) ++ rest)) ≡ length (unescaped (p ++ b ∷ [])) + length rest = ap (λ l. length l) more.0
    ∙ length-append (unescaped (p ++ b ∷ [])) rest in
    let long : 1501 < length (b ∷ rest) = n.long in
    record {
      prefix = λ o. absurd (true≢false (sym over ∙ o));
      over = rw at (over ∙ sym (lt-ltb 1500 (length (unescaped ((p ++ b ∷ []) ++ rest))) (omega (arith, size, long))));
      waits = rw at (rests ∙ sym more.1);
    }

-- a run of plain bytes, which is empty where an ESC waits
pub fed_run : (before bytes : List ℕ) (n : ℕ) (s mid new : State) → mid ≡ reopened s → list_all is_plain (take n bytes) ≡ true
    → (mid.waits ≡ true → (n ≡ 0) × (new ≡ mid)) → (mid.waits ≡ false → new ≡ joined_parts mid (take n bytes))
    → WasFed before s → WasFed (before ++ take n bytes) new × (frames (before ++ take n bytes) ≡ frames before ++ [])
fed_run before bytes n s mid new opens plain waiting joins f = let run = take n bytes in (
  elim mid.waits as (λ v. mid.waits ≡ v → WasFed (before ++ run) new) [
    | true ↦ λ w.
        let none = waiting w in
        let same : before ++ run ≡ before = ap (λ k. before ++ take k bytes) none.0 ∙ append-nil before in
        rw (same, none.1, opens) (record { prefix = f.prefix; over = f.over; waits = f.waits })
    | false ↦ λ w.
        let rests : waits_after (open_part before) ≡ false = sym f.waits ∙ sym (ap (λ m. m.waits) opens) ∙ w in
        let long = plain_joined (open_part before) run plain rests in
        let opened : Holds (unescaped (open_part before)) false mid =
        subst (λ v. Holds (unescaped (open_part before)) v mid) rests (rw opens (reopened_holds before s f)) in
        held before run s new (open_part-plain before run (parts-plain run plain))
        (rw (long.0, long.1, joins w) (joined_holds (unescaped (open_part before)) mid run opened))
  ] refl,
  frames-plain before run (parts-plain run plain),
)

-- a run, and the byte after it
pub run_then_byte : (before bytes : List ℕ) (n : ℕ) (s mid new : State) (reported : List Frame) → n < length bytes
    → (WasFed before s → WasFed (before ++ take n bytes) mid × (frames (before ++ take n bytes) ≡ frames before ++ []))
    → ((prefix : List ℕ) → WasFed prefix mid → WasFed (prefix ++ get_or bytes n 0 ∷ []) new
    × (frames (prefix ++ get_or bytes n 0 ∷ []) ≡ frames prefix ++ reported))
    → WasFed before s → WasFed (before ++ take (n + 1) bytes) new × (frames (before ++ take (n + 1) bytes) ≡ frames before ++ reported)
run_then_byte before bytes n s mid new reported here run byte f =
    let one = run f in
    let two = byte (before ++ take n bytes) one.0 in
    let whole : before ++ take (n + 1) bytes ≡ (before ++ take n bytes) ++ get_or bytes n 0 ∷ [] =
    ap (λ l. before ++ l) (take_more bytes n 0 here) ∙ sym (append_assoc before (take n bytes) (get_or bytes n 0 ∷ [])) in (
      rw whole two.0,
      ap (λ l. frames l) whole ∙ two.1 ∙ ap (λ l. l ++ reported) (one.1 ∙ append-nil (frames before)),
    )

same_state : (s : State) (xs ys : List ℕ) (a b : Bool) → xs ≡ ys → a ≡ b → record s { bytes = xs; over = a } ≡ record s { bytes = ys; over = b }
same_state s xs ys a b e f = rw (e, f) refl

prefix_before : (n : ℕ) (t run : List ℕ) → length t ≤ n → take n (t ++ run) ≡ t ++ take (n - length t) run
prefix_before n t run h =
    ap (λ k. take k (t ++ run)) (let e : n ≡ length t + (n - length t) = omega arith in e) ∙ take-append-add t run (n - length t)

or_false : (b : Bool) → b ≡ b || false
or_false true = refl
or_false false = refl

-- a run for which a frame has room
pub joined_within : (s : State) (run : List ℕ) (len : ℕ) → length s.bytes ≡ len → len + length run ≤ 1500
    → record s { bytes = s.bytes ++ run } ≡ joined_parts s run
joined_within s run len size fits =
    let bytes : s.bytes ++ run ≡ take 1500 (s.bytes ++ run) =
    ap (λ l. s.bytes ++ l) (sym (take_all (1500 - length s.bytes) run (omega (arith, size, fits))))
    ∙ sym (prefix_before 1500 s.bytes run (omega (arith, size, fits))) in
    let over : false ≡ nat_lt 1500 (length s.bytes + length run) = sym (le-ltb 1500 (length s.bytes + length run) (omega (arith, size, fits))) in
    same_state s _ _ _ _ bytes (or_false s.over ∙ ap (λ v. s.over || v) over)

-- the first bytes, and then a prefix of the others
prefix_and_more : (before bytes : List ℕ) (n k : ℕ) → (before ++ take n bytes) ++ take k (take (length bytes - n) (drop n bytes)) ≡ before ++ take (n + k) bytes
prefix_and_more before bytes n k =
    let rest : take (length bytes - n) (drop n bytes) ≡ drop n bytes = take_all (length bytes - n) (drop n bytes) (omega (arith, length-drop n bytes)) in
    append_assoc before (take n bytes) (take k (take (length bytes - n) (drop n bytes)))
    ∙ ap (λ l. before ++ (take n bytes ++ take k l)) rest ∙ ap (λ l. before ++ l) (sym (take-add n k bytes))

-- what was fed and reported so far, and then a prefix of the other bytes
pub fed_on : (before bytes : List ℕ) (n k : ℕ) (s t : State) (reported : List Frame)
    → WasFed (before ++ take n bytes) s × (frames (before ++ take n bytes) ≡ frames before)
    → ((b : List ℕ) → WasFed b s → WasFed (b ++ take k (take (length bytes - n) (drop n bytes))) t
    × (frames (b ++ take k (take (length bytes - n) (drop n bytes))) ≡ frames b ++ reported))
    → WasFed (before ++ take (n + k) bytes) t × (frames (before ++ take (n + k) bytes) ≡ frames before ++ reported)
fed_on before bytes n k s t reported so_far step =
    let at = prefix_and_more before bytes n k in
    let both = step (before ++ take n bytes) so_far.0 in
    (subst (λ l. WasFed l t) at both.0, ap frames (sym at) ∙ both.1 ∙ ap (λ l. l ++ reported) so_far.1)

-- the same, where the other bytes completed nothing
pub fed_more : (before bytes : List ℕ) (n k : ℕ) (s t : State) (done : Fed) → done ≡ fed.More
    → WasFed (before ++ take n bytes) s × (frames (before ++ take n bytes) ≡ frames before)
    → ((b : List ℕ) → WasFed b s → WasFed (b ++ take k (take (length bytes - n) (drop n bytes))) t
    × (frames (b ++ take k (take (length bytes - n) (drop n bytes))) ≡ frames b ++ reported_by done t))
    → WasFed (before ++ take (n + k) bytes) t × (frames (before ++ take (n + k) bytes) ≡ frames before)
fed_more before bytes n k s t done more so_far step =
    let both = fed_on before bytes n k s t (reported_by done t) so_far step in
    (both.0, both.1 ∙ ap (λ x. frames before ++ reported_by x t) more ∙ append-nil (frames before))

-- the last byte of a piece is there in the whole
pub ends_on : (bytes : List ℕ) (n k : ℕ) (fed : Fed) → 0 < k → k ≤ length (take (length bytes - n) (drop n bytes))
    → EndsFrame fed (get_or (take (length bytes - n) (drop n bytes)) (k - 1) 0) → EndsFrame fed (get_or bytes (n + k - 1) 0)
ends_on bytes n k fed some within e =
    let inside : k - 1 < length bytes - n = omega (arith, some, within, length-take (length bytes - n) (drop n bytes)) in
    let at : n + (k - 1) ≡ n + k - 1 = omega (arith, some) in
    subst (λ b. EndsFrame fed b)
    (get_or-take (length bytes - n) (drop n bytes) (k - 1) 0 inside ∙ get_or-drop n bytes (k - 1) 0 ∙ ap (λ i. get_or bytes i 0) at) e

pub take_first : (bytes : List ℕ) → 0 < length bytes → take 1 bytes ≡ get_or bytes 0 0 ∷ []
take_first [] h = absurd (omega arith)
take_first (a ∷ rest) h = refl
