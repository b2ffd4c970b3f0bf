-- What a line of the console asks for.
use Rattle.std.specs.Prelude.{◌≡◌, ℕ, ◌⊎◌, List, codes, None, Some, Ok, Err, Option, Result}
use Rattle.console.specs.declared.command.Command.TheVariants.{Load}
use Rattle.console.specs.declared.command.Command.{Command}
use Rattle.lines.specs.Lines.{Blank, Comment, Divides}
use Rattle.lines.specs.declared.parts.Unknown.{Unknown}

abbrev pub Means : List ℕ → Result (Option Command) Unknown → Type 0
Means line (Ok None) = Blank line ⊎ Comment line
Means line (Ok (Some (Load pattern))) = Divides line (codes "load") pattern.now
Means line (Err unknown) = (unknown.line.now ≡ line) × (Blank line → ⊥) × (Comment line → ⊥) × ((rest : List ℕ) → Divides line (codes "load") rest → ⊥)
