use Rattle.language.specs.Faults.{nothing, start}
use Rattle.rule.proofs.builder.empty_rule.Goals as goal
use Rattle.rule.specs.Standing.{ReadTo, Stands}
use Rattle.rule.specs.declared.builder.Builder.{Builder}
use Rattle.std.proofs.Common.{[], ◌∙◌}

nothing_read : (b : Builder) → Stands b [] [] start → ReadTo [] b
nothing_read b s = record { us = []; os = []; x = start; reads = nothing; stands = s }

pub finish-requires : goal.finish-requires
finish-requires c = let s = c.new-builder.ensures in (([], nothing_read c.new-builder.result s), s.depth ∙ s.opens)

pub returns : goal.returns
returns c = c.finish.ensures [] (nothing_read c.new-builder.result c.new-builder.ensures)
