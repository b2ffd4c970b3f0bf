use Rattle.theory.proofs.Verdicts.{tail_is_smallest}
use Rattle.theory.proofs.the_tail_is_the_smallest_start.Goals as goal

pub returns : goal.returns
returns c = tail_is_smallest
