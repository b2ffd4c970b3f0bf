use Rattle.std.proofs.Common.{ℕ, replicate, refl}
use Rattle.rule.proofs.Begun.{begun}
use Rattle.rule.proofs.builder.Builder.new.Goals as goal
use Rattle.rule.specs.Standing.{blank}
use lib.ListN.{length-replicate}

pub returns : goal.returns
returns c = begun (replicate 1023 0) (replicate 33 blank) c.word_of.result (length-replicate {A = ℕ} 1023 0) (length-replicate 33 blank) refl c.word_of.ensures
