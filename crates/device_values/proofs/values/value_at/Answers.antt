use Rattle.device_values.proofs.Prelude.{◌≡◌, ℕ, List, ◌+◌, ◌-◌, ◌*◌, ap, sym, ◌∙◌, arith, drop, get_or, min, take, slice_range, All-drop}
use Rattle.device_values.proofs.Prelude.{All-take, IsByte}
use Rattle.device_values.proofs.Bytes.{low_same}
use Rattle.device_values.proofs.values.value_at.Goals as goal

pub returns : goal.returns
returns c =
    let own = c.args.values.now.bytes in
    let n = c.args.number in
    let kept : List ℕ = slice_range own (33 * n + 1) (33 * n + 33) in
    let most : c.min.result ≡ min 32 (get_or own (33 * n) 0) = omega (arith, c.min.ensures) in
    ap (λ bytes. take c.min.result bytes) c.copy_from_slice.ensures.after
    ∙ ap (λ m. take m kept) most
    ∙ sym (low_same (take (min 32 (get_or own (33 * n) 0)) kept)
    (All-take IsByte (min 32 (get_or own (33 * n) 0)) kept
    (All-take IsByte ((33 * n + 33) - (33 * n + 1)) (drop (33 * n + 1) own) (All-drop IsByte (33 * n + 1) own c.is_bytes.ensures))))
