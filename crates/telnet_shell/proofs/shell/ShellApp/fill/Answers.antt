use Rattle.telnet_shell.proofs.Prelude.{◌+◌, ◌≤◌, ℕ, List, length, take, drop, sym, ap, subst, ◌∙◌, Command, Shell, replies_left}
use Rattle.telnet_shell.proofs.Prelude.{prefix_size, left_of_value}
use Rattle.telnet_shell.proofs.Opened.{place_of, room}
use Rattle.telnet_shell.proofs.shell.ShellApp.fill.Goals as goal

pub fill_left-requires-clause-place : goal.fill_left-requires-clause-place
fill_left-requires-clause-place c =
    subst (λ (q : List Command). c.self.inside.at ≤ prefix_size q c.self.inside.capture) (sym c.as_slice.ensures.value)
    (subst (λ (a : Shell). a.at ≤ prefix_size a.queue a.capture) (sym c.self.view_is) (place_of c.args.self.now c.args._shared.now.site
    (length c.args.out.now) c.requires))

pub fill_left-requires-clause-enough : goal.fill_left-requires-clause-enough
fill_left-requires-clause-enough c =
    subst (λ (q : List Command). c.self.inside.at + length c.args.out.now ≤ length (replies_left q c.self.inside.capture)) (sym c.as_slice.ensures.value)
    (subst (λ (a : Shell). a.at + length c.args.out.now ≤ length (replies_left a.queue a.capture)) (sym c.self.view_is)
    (room c.args.self.now c.args._shared.now.site (length c.args.out.now) c.requires))

pub returns : goal.returns
returns c = rw (← c.self.view_is) (λ p s.
    c.fill_left.ensures ∙ ap (λ (q : List Command). take (length c.args.out.now)
    (drop c.self.inside.at (replies_left q c.self.inside.capture))) c.as_slice.ensures.value
    ∙ ap (λ (xs : List ℕ). take (length c.args.out.now) xs) (sym (left_of_value _ p s)))
