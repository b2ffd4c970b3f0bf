use Rattle.language.proofs.Answered.{one_answer}
use Rattle.language.proofs.each_pattern_has_one_answer.Goals as goal

pub returns : goal.returns
returns c = one_answer
