use Rattle.theory.proofs.TwoScans.{two_scans_suffice}
use Rattle.theory.proofs.two_scans_suffice.Goals as goal

pub returns : goal.returns
returns g c = two_scans_suffice _
