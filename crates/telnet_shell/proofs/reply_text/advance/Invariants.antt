use Rattle.telnet_shell.proofs.Prelude.{◌+◌, ◌≤◌, length, AppState, IsTrailing, replies_left}
use Rattle.telnet_shell.proofs.reply_text.advance.Given as goal

abbrev pub invariant-passing : goal.invariant-passing
invariant-passing l =
    ((p : AppState) → IsTrailing l.fn.queue.items l.fn.capture (l.at + l.count) p → IsTrailing l.queue.items l.capture l.place p)
    × (l.place ≤ length (replies_left l.queue.items l.capture)) × (l.place ≤ 137600)

abbrev pub decreases-passing : goal.decreases-passing
decreases-passing l = length l.queue.items
