use Rattle.method.proofs.byte_steps_agree.Goals as goal
use Rattle.std.proofs.Common.{refl}

pub returns : goal.returns
returns g c = λ nothing takes seed n cells. refl
