-- `OwnApp` can be one of a pair.
use Rattle.std.proofs.Common.{rules, ◌≡◌, ℕ, Bool, true, false, List, if◌then◌else◌, refl}
use Rattle.app_events.specs.Prelude.{AppState}
use Rattle.app_events.specs.declared.now.Now.{Now}
use Rattle.own_app.specs.OwnSpec.{is_next_message, message_in, own_spec, with_message}
use Rattle.app_pair.specs.PairSpec.{CanBePaired}
use Rattle.app_pair.specs.Lemmas.PairLaws.{either_branch}

either_port : (numbers : List ℕ) (p : AppState) (now : Now) (next : Bool) → (if next then with_message numbers p now else p).port ≡ p.port
either_port numbers p now true = refl
either_port numbers p now false = refl

pub own_can_pair : CanBePaired own_spec
own_can_pair =
    let port = λ (numbers : List ℕ) (p : AppState) (now : Now). either_port numbers p now (is_next_message (message_in numbers) p) in
    let captures = λ (numbers : List ℕ) (p : AppState) (now : Now).
    either_branch (λ (q : AppState). q.snapshots) p (with_message numbers p now) (is_next_message (message_in numbers) p) in
    search (rules, port, captures)
