-- The worked cases, in one list: those of tables and stops, and those of marks, verdicts and calls.
use Rattle.std.specs.Prelude.{◌≡◌, ℕ, suc, ◌-◌, List, [], ◌∷◌, ◌++◌, length, map, replicate, Some, None, codes, slice_index_or, slice_set}
use Rattle.board.specs.Boards.{moved}
use Rattle.board.specs.Makes.{Words, counting, tracing}
use Rattle.cases.specs.Cases as patterns
use Rattle.conduct.specs.Calls.{Said, frame, number, stopped, to_begin, to_finish, verdict}
use Rattle.conduct.specs.Rules.{Due}
use Rattle.language.specs.Links.{last_position}
use Rattle.language.specs.Patterns.{Accepted}
use Rattle.mark.specs.Joins.{JoinOf}
use Rattle.mark.specs.Marks.{Kind}
use Rattle.mark.specs.Tail.{Tail, tail, tail_seed}
use Rattle.mark.specs.YesNo.{yes_no}
use Rattle.mark.specs.declared.yes_no.YesNo.TheVariants.{Nothing, Yes}
use Rattle.mark.specs.declared.yes_no.YesNo.{YesNo}
use Rattle.method.specs.Cells.{scanned}
use Rattle.screen.specs.Schedules.{whole_frame}
use Rattle.rule.specs.Tables.{RuleOf}
use Rattle.rule.specs.Words.{first_of, second_of}
use Rattle.theory.specs.Meaning.{Behind, Holds}
use Rattle.theory.specs.Verdicts.{Verdict}

pub data Case : Type 0 where
  -- a pattern with its table or its stop
  of_pattern : patterns.Case → Case
  -- a pattern and a frame with the yes/no marks in all cells after it, or with the verdict of a kind on it
  marks : (pattern frame : List ℕ) (cells : List YesNo) → Case
  yes_no_verdict : (pattern frame : List ℕ) (mark : YesNo) → Case
  tail_verdict : (pattern frame : List ℕ) (mark : Tail) → Case
  -- a pattern with the words of its table, with marks in all cells, and with a cell for which one scan of them is not enough
  one_scan_misses : (pattern words : List ℕ) (cells : List YesNo) (cell : ℕ) → Case
  -- a pattern and an open frame that has all its bytes, with the verdict and the touches that its finish is told
  finished : (pattern frame : List ℕ) (mark : YesNo) (touches : ℕ) → Case
  -- a pattern, with what the begin of a frame of so many bytes is told on a new trace board of so many free words
  begins_on_trace : (pattern : List ℕ) (length free : ℕ) (said : Said YesNo) → Case
  -- a pattern with the words of its table, with the bytes of a frame and the words of a trace that it fills
  fills_the_trace : (pattern words : List ℕ) (length free : ℕ) → Case

-- after the bytes of the frame the cells from 0 to the END hold these marks
abbrev pub HasMarks : {M : Type 0} → Kind M → List ℕ → List ℕ → List M → Type 0
HasMarks kind pattern frame cells = (a : Accepted pattern) × (length cells ≡ suc (last_position a.tree)) × Holds kind a.tree frame cells

-- the verdict on the frame is this mark
abbrev pub HasVerdict : {M : Type 0} → Kind M → List ℕ → List ℕ → M → Type 0
HasVerdict kind pattern frame mark = (a : Accepted pattern) × Verdict kind a.tree frame mark

-- what one scan leaves in the cell is not the join of the marks that stood at all positions from which links lead to it
abbrev pub OneScanMisses : {M : Type 0} → Kind M → List ℕ → List ℕ → List M → ℕ → Type 0
OneScanMisses kind pattern words cells cell =
    (rule : RuleOf pattern (length words - 1) words) ×
    ¬ JoinOf kind.join kind.nothing (λ (b : Behind rule.accepted.tree cell). slice_index_or cells b.position kind.nothing)
    (slice_index_or (scanned kind.join kind.nothing (first_of words) (second_of words) (length words - 1) cells) cell kind.nothing)

-- under the pattern, on a counting board of any size and meter, the finish of a frame with all its bytes is told this
abbrev pub Finishes : {M : Type 0} → Kind M → List ℕ → List ℕ → M → ℕ → Type 0
Finishes kind pattern bytes mark touches =
    (size meter renter : ℕ) → Due counting kind size meter (Some pattern) (Some (frame renter (length bytes) bytes)) (to_finish renter) (verdict mark touches)

-- a trace with so many free words and none written
abbrev pub new_trace : ℕ → Words
new_trace free = record { written = []; free = free }

-- under the pattern, on a new trace board of any size, with no frame open, the begin of a frame of so many bytes is told this
abbrev pub BeginsOnTrace : {M : Type 0} → Kind M → List ℕ → ℕ → ℕ → Said M → Type 0
BeginsOnTrace kind pattern bytes free said = (size renter : ℕ) → Due tracing kind size (new_trace free) (Some pattern) None (to_begin renter bytes) said

-- no word is free, and so many are written
pub record Full (trace : Words) (words : ℕ) : Type 0 where
  pub none_free : trace.free ≡ 0
  pub all_written : length trace.written ≡ words

-- the touches of a whole frame of so many bytes fill a new trace of so many free words
abbrev pub FillsTheTrace : List ℕ → List ℕ → ℕ → ℕ → Type 0
FillsTheTrace pattern words bytes free =
    RuleOf pattern (length words - 1) words ×
    ((size : ℕ) → Full (moved (tracing.step size) (new_trace free) (whole_frame (first_of words) (second_of words) (length words - 1) bytes)) free)

abbrev pub CaseHolds : Case → Type 0
CaseHolds (of_pattern c) = patterns.CaseHolds c
CaseHolds (marks pattern frame cells) = HasMarks yes_no pattern frame cells
CaseHolds (yes_no_verdict pattern frame mark) = HasVerdict yes_no pattern frame mark
CaseHolds (tail_verdict pattern frame mark) = HasVerdict tail pattern frame mark
CaseHolds (one_scan_misses pattern words cells cell) = OneScanMisses yes_no pattern words cells cell
CaseHolds (finished pattern bytes mark touches) = Finishes yes_no pattern bytes mark touches
CaseHolds (begins_on_trace pattern bytes free said) = BeginsOnTrace yes_no pattern bytes free said
CaseHolds (fills_the_trace pattern words bytes free) = FillsTheTrace pattern words bytes free

-- so many cells, with yes in these
abbrev pub yes_in : ℕ → List ℕ → List YesNo
yes_in n [] = replicate n Nothing
yes_in n (k ∷ ks) = slice_set (yes_in n ks) k Yes

abbrev pub worked_cases : List Case
worked_cases =
    map of_pattern patterns.worked_cases ++
    marks (codes "(A)*B|C") (codes "") (yes_in 10 (0 ∷ 1 ∷ 2 ∷ 4 ∷ 5 ∷ 7 ∷ [])) ∷
    marks (codes "(A)*B|C") (codes "A") (yes_in 10 (1 ∷ 2 ∷ 3 ∷ 4 ∷ 5 ∷ [])) ∷
    marks (codes "(A)*B|C") (codes "AB") (yes_in 10 (6 ∷ 8 ∷ 9 ∷ [])) ∷
    yes_no_verdict (codes "") (codes "") Yes ∷
    yes_no_verdict (codes "") (codes "a") Nothing ∷
    yes_no_verdict (codes "a") (codes "a") Yes ∷
    yes_no_verdict (codes "a") (codes "b") Nothing ∷
    yes_no_verdict (codes "(|a)") (codes "") Yes ∷
    yes_no_verdict (codes "((a)*)*") (codes "aa") Yes ∷
    yes_no_verdict (codes "(a)*") (codes "aa") Yes ∷
    yes_no_verdict (codes "a.") (codes "zz") Nothing ∷
    tail_verdict (codes "U*") (codes "aUU") (tail_seed 1) ∷
    tail_verdict (codes "U*") (codes "aUa") (tail_seed 3) ∷
    tail_verdict (codes "a") (codes "b") None ∷
    one_scan_misses (codes "(a)*") (0x200FFFFF ∷ 0x20000004 ∷ 0x061007FF ∷ 0x400FFFFF ∷ 0x50000403 ∷ 0x400013FF ∷ 0xF00017FF ∷ []) (yes_in 7 (3 ∷ [])) 1 ∷
    finished (codes "") (codes "") Yes 31 ∷
    finished (codes "") (codes "a") Nothing 60 ∷
    finished (codes "a") (codes "a") Yes 80 ∷
    begins_on_trace (codes "a") 1 79 (stopped 17) ∷
    begins_on_trace (codes "a") 1 80 (number 80) ∷
    fills_the_trace (codes "a") (0x200FFFFF ∷ 0x061003FF ∷ 0x400FFFFF ∷ 0xF0000BFF ∷ []) 1 80 ∷
    []

abbrev pub Every : List Case → Type 0
Every [] = Unit {0}
Every (c ∷ cs) = CaseHolds c × Every cs

abbrev pub WorkedCasesHold : Type 0
WorkedCasesHold = Every worked_cases
