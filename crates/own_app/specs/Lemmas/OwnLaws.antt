-- The application keeps the laws of `App`.
use Rattle.std.proofs.Math.Seq.{drop-append-add}
use Rattle.std.proofs.Common.{not, ◌≡◌, ℕ, ◌≤◌, ◌+◌, ◌==◌, ◌||◌, Bool, true, false, List, [], ◌∷◌, ◌++◌, length, drop, nat_lt, refl, sym}
use Rattle.std.proofs.Common.{ap, ◌∙◌, arith, append-nil, append_assoc, length-drop, if◌then◌else◌}
use Rattle.std.proofs.lemmas.Bool.{and_parts, false≢true, ltb-true, or_parts}
use Rattle.app_events.specs.Prelude.{AppState, CanSend, Grows, IsLawful, Snapshot, StartsAnew, text_left}
use Rattle.app_events.specs.declared.now.Now.{Now}
use Rattle.app_events.specs.declared.want.Want.TheVariants.{Nothing, Send, Close, Abort}
use Rattle.own_app.specs.OwnSpec.{PlainMessage, has_last, is_overrun, is_next_message, len_left, message_in, own_spec, messages_text}
use Rattle.own_app.specs.OwnSpec.{with_message}
use Rattle.own_app.specs.OwnRepresents.{OwnState, StateRepresents, OwnRepresents}
use Rattle.own_app.specs.declared.TheConstants.{MOST_SILENT_POLLS}
use Rattle.own_app.specs.declared.app.OwnApp.{OwnApp}

none_left : (b : Bool) → (if◌then◌else◌ {A = List ℕ} b [] []) ≡ []
none_left true = refl
none_left false = refl

-- one more capture only appends, if the last message was not captured
pub messages_text_more : (ks : List Snapshot) (k : Snapshot) → has_last ks ≡ false
    → messages_text (ks ++ k ∷ []) ≡ messages_text ks ++ (message_in k.numbers).text
messages_text_more [] k e =
    ap (λ l. (message_in k.numbers).text ++ l) (none_left (message_in k.numbers).last) ∙ append-nil (message_in k.numbers).text
messages_text_more (j ∷ ks) k e =
    let here : List ℕ = (message_in j.numbers).text in
    let both = or_parts (message_in j.numbers).last (has_last ks) e in
    ap (λ b. here ++ (if b then [] else messages_text (ks ++ k ∷ []))) both.0
    ∙ ap (λ l. here ++ l) (messages_text_more ks k both.1)
    ∙ sym (append_assoc here (messages_text ks) (message_in k.numbers).text)
    ∙ ap (λ b. (here ++ (if b then [] else messages_text ks)) ++ (message_in k.numbers).text) (sym both.0)

pub not_true : (b : Bool) → not b ≡ true → b ≡ false
not_true true e = absurd (false≢true e)
not_true false e = refl

-- if a message is next, the last was not captured
next_goes_on : (s : PlainMessage) (p : AppState) → is_next_message s p ≡ true → has_last p.snapshots ≡ false
next_goes_on s p e = not_true (has_last p.snapshots) (and_parts _ _ (and_parts _ _ (and_parts _ _ e).0).0).1

same_grows : (p : AppState) → Grows own_spec p p
same_grows p = record { text = record { rest = []; joined = append-nil (messages_text p.snapshots) }; offset = refl }

capture_grows : (numbers : List ℕ) (p : AppState) (now : Now) → has_last p.snapshots ≡ false
    → Grows own_spec p (with_message numbers p now)
capture_grows numbers p now e = record {
  text = record {
    rest = (message_in numbers).text;
    joined = sym (messages_text_more p.snapshots (record { numbers = numbers; now = now }) e);
  };
  offset = refl;
}

prepare_grows : (numbers : List ℕ) (p : AppState) (now : Now) (next : Bool) → is_next_message (message_in numbers) p ≡ next
    → Grows own_spec p (if next then with_message numbers p now else p)
prepare_grows numbers p now true e = capture_grows numbers p now (next_goes_on (message_in numbers) p e)
prepare_grows numbers p now false e = same_grows p

wants : (overrun some ended : Bool) (left most : ℕ) → (some ≡ true → 1 ≤ left) → left ≤ most
    → CanSend (if overrun then Abort else if some then Send left else if ended then Close else Nothing) most
wants true some ended left most s h = tt
wants false true ended left most s h = (s refl, h)
wants false false true left most s h = tt
wants false false false left most s h = tt

pub own_lawful : (represents : AppState → Type 0) → IsLawful own_spec represents
own_lawful represents = record {
  newdata_grows = λ numbers p piece s. record {
    text = record { rest = []; joined = append-nil (messages_text p.snapshots) };
    offset = refl;
  };
  prepare_grows = λ numbers p now s. prepare_grows numbers p now (is_next_message (message_in numbers) p) refl;
  acked_moves = λ numbers p n s h. (refl, refl);
  polled_keeps = λ numbers p s. (refl, refl);
  sends = λ numbers p s.
      wants (is_overrun p || (p.polls == MOST_SILENT_POLLS)) (nat_lt 0 (len_left p)) (has_last p.snapshots) (len_left p)
      (length (text_left own_spec p))
      (λ e. let some = ltb-true 0 (len_left p) e in omega (arith, some)) (omega (arith, length-drop p.acked (messages_text p.snapshots)));
}

pub own_starts : StartsAnew own_spec
own_starts numbers port = (refl, refl)

-- the value determines what is not acknowledged
pub left_of_value : (a : OwnState) (p : AppState) → StateRepresents a p → text_left own_spec p ≡ drop a.at a.sending
left_of_value a p s =
    ap (λ n. drop n (messages_text p.snapshots)) s.acked ∙ ap (λ l. drop (length s.before + a.at) l) s.sending
    ∙ drop-append-add s.before a.sending a.at

pub own_same_left : (a : OwnApp) (p q : AppState) → OwnRepresents a p → OwnRepresents a q → text_left own_spec p ≡ text_left own_spec q
own_same_left a p q s t = left_of_value _ p s ∙ sym (left_of_value _ q t)
