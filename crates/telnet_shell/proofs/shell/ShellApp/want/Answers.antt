use Rattle.telnet_shell.proofs.Prelude.{◌≡◌, ◌==◌, ◌&&◌, ℕ, ◌-◌, ◌≤◌, ◌<◌, Bool, List, length, min, if◌then◌else◌, sym, ap, subst, ◌∙◌}
use Rattle.telnet_shell.proofs.Prelude.{arith, le-ltb, lt-ltb, Nothing, Send, Command, Shell, replies_left}
use Rattle.telnet_shell.proofs.Opened.{place_in}
use Rattle.telnet_shell.proofs.Asking.{wanted, want_from}
use Rattle.telnet_shell.proofs.shell.ShellApp.want.Goals as goal

pub returns-then-has_ended : goal.returns-then-has_ended
returns-then-has_ended c = rw (← c.self.view_is) (λ p s.
    ap (λ (b : Bool). want_from b (length (replies_left c.self.inside.queue.items c.self.inside.capture) - c.self.inside.at))
    (sym c.if-has_ended.true ∙ c.has_ended.ensures ∙ sym (ap (λ (a : Shell). a.done && (length a.queue == 0)) c.self.view_is))
    ∙ wanted _ p c.if-self.false c.if-self-eq-MOST_SILENT_POLLS.false s)

pub overflow_sub-left : goal.overflow_sub-left
overflow_sub-left c =
    let size : c.left_len.result ≡ length (replies_left c.self.inside.queue.items c.self.inside.capture) =
    c.left_len.ensures.length ∙ ap (λ (q : List Command). length (replies_left q c.self.inside.capture)) c.as_slice.ensures.value in
    omega (
      arith,
      size,
      subst (λ (a : Shell). a.at ≤ length (replies_left a.queue a.capture)) (sym c.self.view_is)
          (place_in c.args.self.now c.args._shared.now.site c.requires),
    )

pub returns-then-left-gt0 : goal.returns-then-left-gt0
returns-then-left-gt0 c = rw (← c.self.view_is) (λ p s.
    let size : c.left_len.result ≡ length (replies_left c.self.inside.queue.items c.self.inside.capture) =
    c.left_len.ensures.length ∙ ap (λ (q : List Command). length (replies_left q c.self.inside.capture)) c.as_slice.ensures.value in
    let some : 0 < length (replies_left c.self.inside.queue.items c.self.inside.capture) - c.self.inside.at = omega (arith, size, c.if-left-gt0.true) in
    let least : c.min.result ≡ min 1460 (length (replies_left c.self.inside.queue.items c.self.inside.capture) - c.self.inside.at) =
    c.min.ensures ∙ ap (λ (n : ℕ). min 1460 (n - c.self.inside.at)) size in
    ap (λ (n : ℕ). Send n) least
    ∙ sym (ap (λ (b : Bool). if b then Send (min 1460 (length (replies_left c.self.inside.queue.items c.self.inside.capture) - c.self.inside.at)) else Nothing)
    (lt-ltb 0 (length (replies_left c.self.inside.queue.items c.self.inside.capture) - c.self.inside.at) some))
    ∙ ap (λ (b : Bool). want_from b (length (replies_left c.self.inside.queue.items c.self.inside.capture) - c.self.inside.at))
    (sym c.if-has_ended.false ∙ c.has_ended.ensures ∙ sym (ap (λ (a : Shell). a.done && (length a.queue == 0)) c.self.view_is))
    ∙ wanted _ p c.if-self.false c.if-self-eq-MOST_SILENT_POLLS.false s)

pub returns-else-left-gt0 : goal.returns-else-left-gt0
returns-else-left-gt0 c = rw (← c.self.view_is) (λ p s.
    let size : c.left_len.result ≡ length (replies_left c.self.inside.queue.items c.self.inside.capture) =
    c.left_len.ensures.length ∙ ap (λ (q : List Command). length (replies_left q c.self.inside.capture)) c.as_slice.ensures.value in
    let none : length (replies_left c.self.inside.queue.items c.self.inside.capture) - c.self.inside.at ≤ 0 = omega (arith, size, c.if-left-gt0.false) in
    sym (ap (λ (b : Bool). if b then Send (min 1460 (length (replies_left c.self.inside.queue.items c.self.inside.capture) - c.self.inside.at)) else Nothing)
    (le-ltb 0 (length (replies_left c.self.inside.queue.items c.self.inside.capture) - c.self.inside.at) none))
    ∙ ap (λ (b : Bool). want_from b (length (replies_left c.self.inside.queue.items c.self.inside.capture) - c.self.inside.at))
    (sym c.if-has_ended.false ∙ c.has_ended.ensures ∙ sym (ap (λ (a : Shell). a.done && (length a.queue == 0)) c.self.view_is))
    ∙ wanted _ p c.if-self.false c.if-self-eq-MOST_SILENT_POLLS.false s)
