-- The theorems on cells and verdicts that public functions' contracts name.
use Rattle.std.specs.Prelude.{ℕ, ◌<◌, ◌≤◌, Bool, List, length, get_or, Option, slice_index_or}
use Rattle.language.specs.Links.{last_position}
use Rattle.language.specs.Patterns.{Tree, alternatives}
use Rattle.language.specs.Theorems.{UnitsTellTheTree}
use Rattle.mark.specs.Joins.{JoinOf}
use Rattle.mark.specs.Limits.{most_bytes}
use Rattle.mark.specs.Marks.{Kind, Laws}
use Rattle.mark.specs.Tail.{Tail, tail}
use Rattle.mark.specs.YesNo.{yes_no}
use Rattle.mark.specs.declared.yes_no.YesNo.{YesNo}
use Rattle.method.specs.Cells.{cells_after, settled}
use Rattle.rule.specs.Tables.{RuleOf}
use Rattle.rule.specs.Words.{first_of, second_of, takes_at}
use Rattle.theory.specs.Meaning.{Behind, Bytes, Holds, Tells}
use Rattle.theory.specs.Verdicts.{SaysTheTail, SaysYesOrNo, Verdict}

-- After two scans over a pattern's tables each cell k holds the join of the marks that stood at all positions from which links lead
-- to k.
abbrev pub TwoScansSuffice : Type 0 → Type 0
TwoScansSuffice M =
    (join : M → M → M) (nothing : M) → Laws join nothing →
    (t : Tree alternatives) (n : ℕ) (first second : ℕ → Option ℕ) (takes : ℕ → ℕ → Bool) → Tells t n first second takes →
    (cells : List M) → n < length cells → (k : ℕ) → k ≤ n →
    JoinOf join nothing (λ (b : Behind t k). get_or cells b.position nothing) (slice_index_or (settled join nothing first second n cells) k nothing)

-- With the first marks placed and two scans made, and for each byte the byte step and two scans, the cells hold what they should.
abbrev pub CellsHoldAfterEachByte : Type 0 → Type 0
CellsHoldAfterEachByte M =
    (kind : Kind M) (t : Tree alternatives) (n : ℕ) (first second : ℕ → Option ℕ) (takes : ℕ → ℕ → Bool) → Tells t n first second takes →
    (cells : List M) → n < length cells → (w : List ℕ) → Bytes w → Holds kind t w (cells_after kind first second takes n w cells)

-- Where the cells hold what they should after all of a frame, the mark at the END is the verdict.
abbrev pub TheLastCellHoldsTheVerdict : Type 0 → Type 0
TheLastCellHoldsTheVerdict M =
    (kind : Kind M) (t : Tree alternatives) (w : List ℕ) (cells : List M) → Holds kind t w cells → Verdict kind t w (slice_index_or cells (last_position t) kind.nothing)

abbrev pub YesExactlyWhenAllBelongs : Type 0
YesExactlyWhenAllBelongs = (t : Tree alternatives) (w : List ℕ) (mark : YesNo) → Verdict yes_no t w mark → SaysYesOrNo t w mark

abbrev pub TheTailIsTheSmallestStart : Type 0
TheTailIsTheSmallestStart = (t : Tree alternatives) (w : List ℕ) → length w ≤ most_bytes → (mark : Tail) → Verdict tail t w mark → SaysTheTail t w mark

-- The words of a pattern's table tell it, and no other pattern is written with its units.
pub record TablesTellThePattern : Type 0 where
  pub told : (bytes : List ℕ) (n : ℕ) (words : List ℕ) (rule : RuleOf bytes n words) → Tells rule.accepted.tree n (first_of words) (second_of words) (takes_at words)
  pub one_reading : UnitsTellTheTree
