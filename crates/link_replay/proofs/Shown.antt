-- What a world shows by itself is what is shown of the world that it represents.
use Rattle.link_replay.proofs.Prelude.{◌≡◌, ℕ, Bool, true, List, ◌++◌, Option, Result, Ok, Err, map, sym, ap, ◌∙◌, subst}
use Rattle.link_replay.proofs.Prelude.{append_assoc, OnOk, Appends, Appends-then, appends_by, AbstractClient, Side, World}
use Rattle.link_replay.proofs.Prelude.{Matched, CodeSide, ShownSide, lines_of_client, numbered_texts, side_shown, AppendsShown, EndsReport}
use Rattle.link_replay.proofs.Prelude.{code_side_shown, LinkRepresents, SentRepresents, SideRepresents, Link, tally_of, Wrote}
use Rattle.link_replay.proofs.Matching.{same_images}

-- what is reported of a client
side_reported : (x : CodeSide) (s : Side) → SideRepresents x s → code_side_shown x ≡ side_shown s
side_reported x s st =
    let shown : AbstractClient → Option ℕ → ShownSide = λ c first. record { state = c.state; received = c.received; first_stale = first } in
    ap (λ (c : AbstractClient). shown c x.first_stale) st.client ∙ ap (λ (first : Option ℕ). shown s.client first) st.first_stale

-- of the clients
pub sides_reported : (xs : List CodeSide) (ss : List Side) → Matched SideRepresents xs ss → map code_side_shown xs ≡ map side_shown ss
sides_reported xs ss m = same_images SideRepresents (λ x. code_side_shown x) (λ s. side_shown s) xs ss side_reported m

-- and so the lines of the clients
pub lines_represent : (show : Bool) (xs : List CodeSide) (ss : List Side) → Matched SideRepresents xs ss
    → numbered_texts (lines_of_client show) 1 (map code_side_shown xs) ≡ numbered_texts (lines_of_client show) 1 (map side_shown ss)
lines_represent show xs ss m = ap (λ (shown : List ShownSide). numbered_texts (lines_of_client show) 1 shown) (sides_reported xs ss m)

-- and the tally
pub tally_reported : (link : Link) (w : World) → LinkRepresents link w
    → tally_of (map code_side_shown link.sides) (map (λ e. e.again) link.sent) ≡ tally_of (map side_shown w.sides) (map (λ e. e.again) w.sent)
tally_reported link w st =
    ap (λ (xs : List ShownSide). tally_of xs (map (λ e. e.again) link.sent)) (sides_reported link.sides w.sides st.sides)
    ∙ ap (λ (again : List Bool). tally_of (map side_shown w.sides) again)
    (same_images (SentRepresents w) (λ x. x.again) (λ e. e.again) link.sent w.sent (λ x e s. s.again) st.sent)

-- a failed call has nothing to show
pub not_done : {T E : Type 0} (r : Result T E) (e : E) (P : Type 0) → r ≡ Err e → OnOk r P
not_done (Ok t) e P is = absurd cc
not_done (Err f) e P is = tt

-- a text that was written
pub some_shown : {T E : Type 0} (old new : Option (List ℕ)) (text : List ℕ) (r : Result T E) → Wrote old new r text → OnOk r (AppendsShown true old new)
some_shown old new text (Ok t) w = record { text = text; hidden = λ e. absurd (cc); whole = w.whole }
some_shown old new text (Err e) w = tt

-- one more
pub more_shown : (first mid now : Option (List ℕ)) → AppendsShown true first mid → AppendsShown true mid now → AppendsShown true first now
more_shown first mid now a b = record {
  text = a.text ++ b.text;
  hidden = λ e. absurd (cc);
  whole = Appends-then first mid now a.text b.text a.whole b.whole;
}

-- the datagrams, the clients, and then the last line
pub report_ends : {T E : Type 0} (show : Bool) (old a b new : Option (List ℕ)) (clients line : List ℕ) (r : Result T E) → AppendsShown show old a
    → Appends a b clients → Wrote b new r line → OnOk r (EndsReport show old new (clients ++ line))
report_ends show old a b new clients line (Ok t) d c w = record {
  datagrams = d.text;
  hidden = d.hidden;
  whole = appends_by old new ((d.text ++ clients) ++ line) (d.text ++ (clients ++ line)) (sym (append_assoc d.text clients line))
      (Appends-then old b new (d.text ++ clients) line (Appends-then old a b d.text clients d.whole c) w.whole);
}
report_ends show old a b new clients line (Err e) d c w = tt

-- the lines of what is reported of a client
pub lines_reported : {T E : Type 0} (show : Bool) (number : ℕ) (x : CodeSide) (y : ShownSide) (old new : Option (List ℕ)) (r : Result T E)
    → code_side_shown x ≡ y
    → Wrote old new r (lines_of_client show number (code_side_shown x)) → Wrote old new r (lines_of_client show number y)
lines_reported show number x y old new r e w = subst (λ (z : ShownSide). Wrote old new r (lines_of_client show number z)) e w
