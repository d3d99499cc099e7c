use Rattle.link_schedule.proofs.Prelude.{◌≡◌, ◌≤◌, ◌+◌, drop, map, vec_len, Bor, List, ℕ, nothing_yet, read_lines, content_of}
use Rattle.link_schedule.proofs.whole_text.read_lines.Given as goal

abbrev pub invariant-loop-at : goal.invariant-loop-at
invariant-loop-at l =
    (vec_len l.clients ≤ 64)
    × (read_lines (l.at + 1) (content_of l.clients.items l.output.items) (map (λ (line : Bor (List ℕ)). line.now) (drop l.at l.lines))
    ≡ read_lines 1 nothing_yet (map (λ (line : Bor (List ℕ)). line.now) l.lines))
