use Rattle.link_replay.proofs.Prelude.{◌≡◌, ◌∙◌, ap, subst, rules, All, IsByte, Plan}
use Rattle.link_replay.proofs.Opened.{fresh}
use Rattle.link_replay.proofs.world.initial.side_for.Goals as goal

pub returns : goal.returns
returns c =
    let copied : c.in_ok-request.request.items ≡ c.plan.inside.request.items = search rules in
    let same : c.plan.inside.request.items ≡ c.args.plan.now.request = ap (λ (p : Plan). p.request) c.plan.view_is in
    fresh c.args.number c.args.plan.now c.setup_for-setup.result c.new.result c.in_ok-request.request.items c.new-2.result.items c.requires.few c.requires.range
    c.setup_for-setup.ensures.setup c.setup_for-setup.ensures.addr c.setup_for-setup.ensures.port c.setup_for-setup.ensures.mss
    (subst (All IsByte) (c.as_slice-asked.ensures.value ∙ same) c.is_bytes.ensures) (copied ∙ same) c.new-2.ensures.items
    c.new.ensures.idle c.new.ensures.fits
