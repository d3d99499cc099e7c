-- A shell receives a byte.
use Rattle.telnet_shell.proofs.Prelude.{◌≡◌, ℕ, ◌+◌, ◌==◌, ◌≤◌, ◌<◌, Bool, true, false, ◌||◌, List, [], ◌∷◌, ◌++◌, length, nat_lt}
use Rattle.telnet_shell.proofs.Prelude.{if◌then◌else◌, refl, sym, ap, subst, ◌∙◌, arith, append-nil, length-append, true≢false, le-ltb}
use Rattle.telnet_shell.proofs.Prelude.{lt-ltb, eqb-true, eqb-false, AppState, Command, Shell, all_commands, commands_in, commands, tokens}
use Rattle.telnet_shell.proofs.Prelude.{tokens_at, awaits_after, line_after, has_quit, is_quit, until_quit, Text, IsOpen, IsTrailing}
use Rattle.telnet_shell.proofs.Prelude.{IsLeading, until_quit_joined, waiting_is, waiting, with_byte, receive_byte, ShellRepresents}
use Rattle.telnet_shell.proofs.Opening.{commands_one}
use Rattle.telnet_shell.proofs.Advancing.{come}

one_or_none : (b : Bool) → ((if b then 1 else 0) == 1) ≡ b
one_or_none true = refl
one_or_none false = refl

pub own_is : (a : Shell) (p : AppState) → ShellRepresents a p → (p.own == 1) ≡ a.lost
own_is a p s = ap (λ (n : ℕ). n == 1) s.lost ∙ one_or_none a.lost

-- what a byte does that is not looked at
pub receive_lost : (a : Shell) (p : AppState) (byte : ℕ) → a.lost ≡ true → ShellRepresents a p → ShellRepresents a (receive_byte p byte)
receive_lost a p byte lost s =
    subst (λ (q : AppState). ShellRepresents a q)
    (sym (ap (λ (b : Bool). if b then p else if nat_lt 32 (length (waiting (with_byte p byte))) then record p { own = 1 } else with_byte p
    byte) (own_is a p s ∙ lost))) s

receives_it : (a : Shell) (p : AppState) (byte : ℕ) (queue : List Command) → a.lost ≡ false → ShellRepresents a p
    → waiting (with_byte p byte) ≡ queue → length queue ≤ 32 → receive_byte p byte ≡ with_byte p byte
receives_it a p byte queue lost s w h =
    ap (λ (b : Bool). if b then p else if nat_lt 32 (length (waiting (with_byte p byte))) then record p { own = 1 } else with_byte p byte) (own_is a p s ∙ lost)
    ∙ ap (λ (cs : List Command). if nat_lt 32 (length cs) then record p { own = 1 } else with_byte p byte) w
    ∙ ap (λ (b : Bool). if b then record p { own = 1 } else with_byte p byte) (le-ltb 32 (length queue) h)

gives_up : (a : Shell) (p : AppState) (byte : ℕ) (queue : List Command) → a.lost ≡ false → ShellRepresents a p → waiting (with_byte p byte)
    ≡ queue → 32 < length queue → receive_byte p byte ≡ record p { own = 1 }
gives_up a p byte queue lost s w h =
    ap (λ (b : Bool). if b then p else if nat_lt 32 (length (waiting (with_byte p byte))) then record p { own = 1 } else with_byte p byte) (own_is a p s ∙ lost)
    ∙ ap (λ (cs : List Command). if nat_lt 32 (length cs) then record p { own = 1 } else with_byte p byte) w
    ∙ ap (λ (b : Bool). if b then record p { own = 1 } else with_byte p byte) (lt-ltb 32 (length queue) h)

pub quit_joins : (xs ys : List Command) → has_quit (xs ++ ys) ≡ (has_quit xs || has_quit ys)
quit_joins [] ys = refl
quit_joins (x ∷ xs) ys = by_quit (is_quit x) (quit_joins xs ys)
  where
    by_quit : (b : Bool) → has_quit (xs ++ ys) ≡ (has_quit xs || has_quit ys) → (if b then true else has_quit (xs ++ ys))
        ≡ ((if b then true else has_quit xs) || has_quit ys)
    by_quit true e = refl
    by_quit false e = e

-- the commands that count, by those that a byte brings
counted : (delivered : List ℕ) (byte : ℕ) (cs : List Command) → cs ≡ commands (line_after [] (tokens Text delivered))
    (tokens_at (awaits_after Text delivered) byte)
    → commands_in (delivered ++ byte ∷ []) ≡ commands_in delivered ++ (if has_quit (all_commands delivered) then [] else until_quit cs)
counted delivered byte cs e =
    ap (λ (ds : List Command). until_quit ds) (commands_one delivered byte ∙ ap (λ (ds : List Command). all_commands delivered ++ ds) (sym e))
    ∙ until_quit_joined (all_commands delivered) cs

quits : (delivered : List ℕ) (byte : ℕ) (cs : List Command) → cs ≡ commands (line_after [] (tokens Text delivered))
    (tokens_at (awaits_after Text delivered) byte)
    → has_quit (all_commands (delivered ++ byte ∷ [])) ≡ (has_quit (all_commands delivered) || has_quit cs)
quits delivered byte cs e =
    ap (λ (ds : List Command). has_quit ds) (commands_one delivered byte ∙ ap (λ (ds : List Command). all_commands delivered ++ ds) (sym e))
    ∙ quit_joins (all_commands delivered) cs

-- after `quit` nothing counts
pub receive_done : (a : Shell) (p : AppState) (byte : ℕ) → a.lost ≡ false → a.done ≡ true → length a.queue ≤ 32 → ShellRepresents a p
    → ShellRepresents a (receive_byte p byte)
receive_done a p byte lost done room s =
    let over : has_quit (all_commands p.input) ≡ true = sym s.done ∙ done in
    let cs : List Command = commands (line_after [] (tokens Text p.input)) (tokens_at (awaits_after Text p.input) byte) in
    let none : commands_in (p.input ++ byte ∷ []) ≡ commands_in p.input ++ [] =
    counted p.input byte (commands (line_after [] (tokens Text p.input)) (tokens_at (awaits_after Text p.input) byte)) refl
    ∙ ap (λ (b : Bool). commands_in p.input ++
    (if b then [] else until_quit (commands (line_after [] (tokens Text p.input)) (tokens_at (awaits_after Text p.input) byte)))) over in
    let both = come a.queue [] a.capture a.at p byte none s.trailing s.place in
    let trailing : IsTrailing a.queue a.capture a.at (with_byte p byte) = subst (λ (q : List Command). IsTrailing q a.capture a.at
    (with_byte p byte)) (append-nil a.queue) both.0 in
    subst (λ (q : AppState). ShellRepresents a q)
    (sym (receives_it a p byte a.queue lost s (waiting_is a.queue a.capture a.at (with_byte p byte) trailing s.place) room)) (record {
      polls = s.polls;
      lost = s.lost;
      done = done ∙ sym (quits p.input byte (commands (line_after [] (tokens Text p.input)) (tokens_at (awaits_after Text p.input) byte)) refl
          ∙ ap (λ (b : Bool). b || has_quit (commands (line_after [] (tokens Text p.input)) (tokens_at (awaits_after Text p.input) byte))) over);
      delivers_text = λ e. elim (true≢false (sym (either a.lost a.done done) ∙ e)) [ ];
      trailing = trailing;
      place = s.place;
    })
  where
    either : (x y : Bool) → y ≡ true → (x || y) ≡ true
    either true y e = refl
    either false y e = e

is_open : (a : Shell) → a.lost ≡ false → a.done ≡ false → (a.lost || a.done) ≡ false
is_open a lost done = ap (λ (b : Bool). b || a.done) lost ∙ done

-- no command comes
pub receive_none : (a : Shell) (p : AppState) (byte : ℕ) (kept : List ℕ) (over : Bool) (iac : List ℕ) → a.lost ≡ false → a.done ≡ false → length a.queue ≤ 32
    → ((delivered : List ℕ) → IsOpen a.line a.over a.iac delivered → IsOpen kept over iac (delivered ++ byte ∷ []))
    → ((delivered : List ℕ) → IsOpen a.line a.over a.iac delivered → [] ≡ commands (line_after [] (tokens Text delivered))
    (tokens_at (awaits_after Text delivered) byte))
    → ShellRepresents a p → ShellRepresents (record a { line = kept; over = over; iac = iac }) (receive_byte p byte)
receive_none a p byte kept over iac lost done room goes decodes s =
    let delivered = s.delivers_text (is_open a lost done) in
    let going : has_quit (all_commands p.input) ≡ false = sym s.done ∙ done in
    let none : commands_in (p.input ++ byte ∷ []) ≡ commands_in p.input ++ [] =
    counted p.input byte [] (decodes p.input delivered) ∙ ap (λ (b : Bool). commands_in p.input ++ (if b then [] else [])) going in
    let both = come a.queue [] a.capture a.at p byte none s.trailing s.place in
    let trailing : IsTrailing a.queue a.capture a.at (with_byte p byte) = subst (λ (q : List Command). IsTrailing q a.capture a.at
    (with_byte p byte)) (append-nil a.queue) both.0 in
    subst (λ (q : AppState). ShellRepresents (record a { line = kept; over = over; iac = iac }) q)
    (sym (receives_it a p byte a.queue lost s (waiting_is a.queue a.capture a.at (with_byte p byte) trailing s.place) room)) (record {
      polls = s.polls;
      lost = s.lost;
      done = done ∙ sym (quits p.input byte [] (decodes p.input delivered) ∙ ap (λ (b : Bool). b || false) going);
      delivers_text = λ e. goes p.input delivered;
      trailing = trailing;
      place = s.place;
    })

-- a command comes, and the queue is full
pub receive_full : (a : Shell) (p : AppState) (byte : ℕ) (c : Command) (kept : List ℕ) (over : Bool) (iac : List ℕ) → a.lost ≡ false → a.done ≡ false
    → (full : Bool) → full ≡ true → full ≡ (length a.queue == 32)
    → ((delivered : List ℕ) → IsOpen a.line a.over a.iac delivered → c ∷ [] ≡ commands (line_after [] (tokens Text delivered))
    (tokens_at (awaits_after Text delivered) byte))
    → ShellRepresents a p → ShellRepresents (record a { line = kept; over = over; iac = iac; lost = true }) (receive_byte p byte)
receive_full a p byte c kept over iac lost done full is count decodes s =
    let delivered = s.delivers_text (is_open a lost done) in
    let going : has_quit (all_commands p.input) ≡ false = sym s.done ∙ done in
    let one : commands_in (p.input ++ byte ∷ []) ≡ commands_in p.input ++ until_quit (c ∷ []) =
    counted p.input byte (c ∷ []) (decodes p.input delivered) ∙ ap (λ (b : Bool). commands_in p.input ++ (if b then [] else until_quit (c ∷ []))) going in
    let both = come a.queue (until_quit (c ∷ [])) a.capture a.at p byte one s.trailing s.place in
    let size : length a.queue ≡ 32 = eqb-true (length a.queue) 32 (sym count ∙ is) in
    subst (λ (q : AppState). ShellRepresents (record a { line = kept; over = over; iac = iac; lost = true }) q)
    (sym (gives_up a p byte (a.queue ++ until_quit (c ∷ [])) lost s (waiting_is (a.queue ++ until_quit (c ∷ [])) a.capture a.at
    (with_byte p byte) both.0 both.1)
    (omega (arith, size, length-append a.queue (until_quit (c ∷ [])))))) (record {
      polls = s.polls;
      lost = refl;
      done = s.done;
      delivers_text = λ e. elim (true≢false e) [ ];
      trailing = record {
        before = s.trailing.before;
        spoken = s.trailing.spoken;
        prefix = s.trailing.prefix;
        commands = s.trailing.commands;
        snapshots = s.trailing.snapshots;
        took = s.trailing.took;
        acked = s.trailing.acked;
        shows = s.trailing.shows;
      };
      place = s.place;
    })

-- a command comes, and there is room
pub receive_command : (a : Shell) (p : AppState) (byte : ℕ) (c : Command) (kept : List ℕ) (over : Bool) (iac : List ℕ)
    (queue : List Command) (quit : Bool) → a.lost ≡ false → a.done ≡ false
    → (full : Bool) → full ≡ false → full ≡ (length a.queue == 32) → length a.queue ≤ 32
    → ((delivered : List ℕ) → IsOpen a.line a.over a.iac delivered → IsOpen kept over iac (delivered ++ byte ∷ []))
    → ((delivered : List ℕ) → IsOpen a.line a.over a.iac delivered → c ∷ [] ≡ commands (line_after [] (tokens Text delivered))
    (tokens_at (awaits_after Text delivered) byte))
    → queue ≡ a.queue ++ c ∷ [] → quit ≡ is_quit c
    → ShellRepresents a p → ShellRepresents (record a { line = kept; over = over; iac = iac; queue = queue; done = quit }) (receive_byte p byte)
receive_command a p byte c kept over iac queue quit lost done full is count room goes decodes pushed quits_is s =
    let delivered = s.delivers_text (is_open a lost done) in
    let going : has_quit (all_commands p.input) ≡ false = sym s.done ∙ done in
    let one : commands_in (p.input ++ byte ∷ []) ≡ commands_in p.input ++ c ∷ [] =
    counted p.input byte (c ∷ []) (decodes p.input delivered) ∙ ap (λ (b : Bool). commands_in p.input ++ (if b then [] else until_quit (c ∷ []))) going
    ∙ ap (λ (cs : List Command). commands_in p.input ++ c ∷ cs) (nothing_more (is_quit c)) in
    let both = come a.queue (c ∷ []) a.capture a.at p byte one s.trailing s.place in
    let trailing : IsTrailing queue a.capture a.at (with_byte p byte) = subst (λ (q : List Command). IsTrailing q a.capture a.at
    (with_byte p byte)) (sym pushed) both.0 in
    let place : IsLeading queue a.capture a.at = subst (λ (q : List Command). IsLeading q a.capture a.at) (sym pushed) both.1 in
    let size : length queue ≤ 32 =
    (let e : length queue ≡ length a.queue + 1 = ap (λ (q : List Command). length q) pushed ∙ length-append a.queue (c ∷ []) in
    let d = eqb-false (length a.queue) 32 (sym count ∙ is) in omega (arith, e, d, room)) in
    subst (λ (q : AppState). ShellRepresents (record a { line = kept; over = over; iac = iac; queue = queue; done = quit }) q)
    (sym (receives_it a p byte queue lost s (waiting_is queue a.capture a.at (with_byte p byte) trailing place) size)) (record {
      polls = s.polls;
      lost = s.lost;
      done = quits_is ∙ sym (quits p.input byte (c ∷ []) (decodes p.input delivered) ∙ ap (λ (b : Bool). b || has_quit (c ∷ [])) going ∙ only (is_quit c));
      delivers_text = λ e. goes p.input delivered;
      trailing = trailing;
      place = place;
    })
  where
    nothing_more : (b : Bool) → (if b then [] else until_quit []) ≡ []
    nothing_more true = refl
    nothing_more false = refl

    only : (b : Bool) → (if b then true else false) ≡ b
    only true = refl
    only false = refl
