use Rattle.conduct.proofs.Told.{told_once}
use Rattle.conduct.proofs.each_call_is_told_one_thing.Goals as goal

pub returns : goal.returns
returns g c = told_once _ _
