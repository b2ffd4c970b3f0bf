-- What a rule shows, and what loading one does.
use Rattle.std.specs.Prelude.{◌≡◌, ℕ, ◌<◌, List, Some, Ok, Err, Option, Result}
use Rattle.language.specs.Faults.{Faulty}
use Rattle.rule.specs.Tables.{RuleOf}
use Rattle.rule.specs.declared.table.Rule.{Rule}
use Rattle.stops.specs.Stops.{stop_number}
use Rattle.syntax.specs.declared.Fault.{Fault}

-- the rule is that of the pattern
abbrev pub IsRuleOf : List ℕ → Rule → Type 0
IsRuleOf bytes rule = RuleOf bytes rule.last rule.words

-- a rule has no word for the position j: it is past the last one
abbrev pub NoWord : Rule → ℕ → Type 0
NoWord rule j = rule.last < j

-- what loading a pattern into a slot answers, and what the slot holds before and after
abbrev pub Loads : List ℕ → Option Rule → Result ℕ Fault → Option Rule → Type 0
Loads bytes before (Ok n) after = (rule : Rule) × (after ≡ Some rule) × (rule.last ≡ n) × IsRuleOf bytes rule
Loads bytes before (Err f) after = Faulty bytes (stop_number f.stop) f.place × (after ≡ before)
