use Rattle.frame_device.proofs.MoveLaws.{counts_exact, device_represents, frames_exact, same_kept}
use Rattle.frame_device.proofs.laws.frame_calls_are_exact.Goals as goal

pub returns : goal.returns
returns g c = record {
  frames = λ k m gives numbers rules own all old new fresh answered.
      frames_exact g.A.App g.M.Frames k m gives rules own numbers all old new fresh answered;
  represented = λ k m gives numbers rules own all old new fresh answered.
      device_represents g.A.App g.M.Frames k m gives rules own numbers all old new fresh answered;
  counted = λ k m gives numbers rules own all old new fresh answered.
      counts_exact g.A.App g.M.Frames k m gives rules own numbers all old new fresh answered;
  kept = λ k m gives numbers rules own all old new fresh answered. same_kept g.A.App g.M.Frames k m gives rules own numbers all old new fresh answered;
}
