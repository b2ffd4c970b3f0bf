-- A check that computes whether a worked case holds, with the evidence, and the list of cases under it.
use Rattle.std.proofs.Common.{◌≡◌, ℕ, suc, ◌+◌, ◌-◌, ◌*◌, ◌<◌, ◌≤◌, false, List, [], ◌∷◌, length, get_or, replicate, Some, None, Option, sym, refl, ap, ◌∙◌, subst, ap₂, arith, length-append}
use Rattle.board.specs.Boards.{Touch, moved}
use Rattle.board.specs.Makes.{Words, tracing, word_of as traced-word}
use Rattle.calls_cases.specs.Cases.{BeginsOnTrace, Case, CaseHolds, Every, FillsTheTrace, Finishes, Full, HasMarks, HasVerdict, OneScanMisses, WorkedCasesHold, begins_on_trace, fills_the_trace, finished, marks, new_trace, of_pattern, one_scan_misses, tail_verdict, worked_cases, yes_no_verdict}
use Rattle.cases.proofs.Checked.{Found, case? as pattern?, both, evidence, found, framed_proper, from_dec, is_found, missing, table?, via}
use Rattle.conduct.specs.Calls.{Said, number, stopped, stopped_at, verdict}
use Rattle.conduct.specs.Rules.{begin_accepted, begin_without_allowance, finish_accepted}
use Rattle.language.proofs.Decided.{Outcome, accepts, decide, faults}
use Rattle.language.proofs.Two.{two_predecessors}
use Rattle.language.specs.LeftToRight.{Proper}
use Rattle.language.specs.Links.{last_position}
use Rattle.language.specs.Patterns.{Tree, alternatives}
use Rattle.mark.specs.Joins.{JoinOf}
use Rattle.mark.specs.Limits.{most_bytes}
use Rattle.mark.specs.Marks as mark
use Rattle.mark.specs.Tail.{tail, tail_seed}
use Rattle.mark.specs.YesNo.{yes_no}
use Rattle.screen.proofs.Lengths.{frame_length}
use Rattle.method.specs.Cells.{begun, cells_after, fed, fed_all, filled, joined_at, scan_from, scanned, settled, shift_over}
use Rattle.screen.specs.Schedules.{frame_touches, whole_frame}
use Rattle.rule.proofs.Whole.{framed}
use Rattle.rule.specs.Tables.{RuleOf}
use Rattle.rule.specs.Words.{absent, byte_of, first_of, kind_number, kind_of, second_of, takes_at}
use Rattle.rule.specs.declared.word.Kind.TheVariants.{End}
use Rattle.rule.specs.declared.word.Kind.{Kind}
use Rattle.syntax.specs.declared.PatternUnit.{PatternUnit}
use Rattle.theory.proofs.Frames.{cells_hold}
use Rattle.theory.proofs.Joins.{one_join}
use Rattle.theory.proofs.Tables.{tables_tell}
use Rattle.theory.proofs.TwoScans.{two_scans_suffice}
use Rattle.theory.proofs.Verdicts.{last_cell}
use Rattle.theory.specs.Meaning as meaning
use Rattle.theory.specs.Meaning.{Behind, Bytes, Tells}
use Rattle.theory.specs.Verdicts.{Verdict}
use lib.ListN.{length-replicate}
use native.Mathlib.Decide.{dec_le, dec_lt, ℕ_discrete}

from_not : {P : Type 0} → Dec P → Found (¬ P)
from_not (yes p) = missing
from_not (no n) = found n

given : {P Q : Type 0} → (P → Found Q) → Found P → Found Q
given f (found p) = f p
given f missing = missing

-- A pattern that is read has a table. Its words are made here, and held to the definitions as those of a case are.
record Ruled (pattern : List ℕ) : Type 0 where
  words : List ℕ
  rule : RuleOf pattern (length words - 1) words

field_of : Option ℕ → ℕ
field_of None = absent
field_of (Some i) = i

module _ (us : List PatternUnit) (pr : Proper 0 false us) where
  word_of : ℕ → Kind → ℕ → ℕ
  unfolding field_of two_predecessors
  word_of j kind byte = let (a, b, p) = two_predecessors us pr j in kind_number kind * 0x1000_0000 + byte * 0x10_0000 + field_of a * 0x400 + field_of b

  -- the words of the units vs, which stand from j on, and of the END behind them
  words_from : List PatternUnit → ℕ → List ℕ
  unfolding word_of
  words_from [] j = word_of j End 0 ∷ []
  words_from (u ∷ vs) j = word_of j (kind_of u) (byte_of u) ∷ words_from vs (suc j)

ruled? : {pattern : List ℕ} → Outcome pattern → Found (Ruled pattern)
unfolding table? via words_from
ruled? (accepts us x r) =
    let words = words_from (framed us) (framed_proper r) (framed us) 0 in
    via (λ rule. record { words = words; rule = rule }) (table? words (accepts us x r))
ruled? (faults n p f) = missing

bytes? : (w : List ℕ) → Found (Bytes w)
unfolding both dec_lt from_dec
bytes? [] = found tt
bytes? (c ∷ w) = both (from_dec (dec_lt c 256)) (bytes? w)

-- Marks of any kind: equal codes are of equal marks.
module _ {M : Type 0} (kind : mark.Kind M) where
  same? : (x y : M) → Found (x ≡ y)
  unfolding from_dec via ℕ_discrete
  same? x y = via (kind.codes_differ x y) (from_dec (ℕ_discrete (kind.code x) (kind.code y)))

  other? : (x y : M) → Found (¬ (x ≡ y))
  unfolding from_not via ℕ_discrete
  other? x y = via (λ n e. n (ap kind.code e)) (from_not (ℕ_discrete (kind.code x) (kind.code y)))

  all_same? : (xs ys : List M) → Found (xs ≡ ys)
  unfolding both same? via
  all_same? [] [] = found refl
  all_same? [] (y ∷ ys) = missing
  all_same? (x ∷ xs) [] = missing
  all_same? (x ∷ xs) (y ∷ ys) = via (λ e. ap₂ ◌∷◌ e.0 e.1) (both (same? x y) (all_same? xs ys))

-- What a pattern's table makes of the cells.
module _ {M : Type 0} (kind : mark.Kind M) {pattern words : List ℕ} (rule : RuleOf pattern (length words - 1) words) where
  abbrev end : ℕ
  end = length words - 1

  abbrev t : Tree alternatives
  t = rule.accepted.tree

  tells : Tells t end (first_of words) (second_of words) (takes_at words)
  tells = tables_tell.told pattern end words rule

  -- the touches of a frame of so many bytes
  takes : (bytes : ℕ) → frame_touches (last_position t) bytes ≡ frame_touches end bytes
  takes bytes = ap (λ n. frame_touches n bytes) (sym tells.ends)

  module _ (frame : List ℕ) where
    abbrev blank : List M
    blank = replicate (suc end) kind.nothing

    cells : List M
    unfolding begun cells_after fed fed_all filled joined_at scan_from shift_over tail_seed
    cells = cells_after kind (first_of words) (second_of words) (takes_at words) end frame blank

    held : Bytes frame → meaning.Holds kind t frame cells
    unfolding cells
    held b = cells_hold M kind t end (first_of words) (second_of words) (takes_at words) tells blank (omega (arith, length-replicate (suc end) kind.nothing)) frame b

    marks? : (ms : List M) → Found (HasMarks kind pattern frame ms)
    unfolding all_same? both bytes? cells from_dec via ℕ_discrete
    marks? ms =
        via (λ x. (rule.accepted, x.0.0 ∙ ap suc tells.ends, subst (meaning.Holds kind t frame) x.0.1 (held x.1)))
        (both (both (from_dec (ℕ_discrete (length ms) (suc end))) (all_same? kind cells ms)) (bytes? frame))

    judged? : (m : M) → Found (Verdict kind t frame m)
    unfolding both bytes? cells same? via
    judged? m =
        via (λ x. subst (Verdict kind t frame) (ap (λ k. get_or cells k kind.nothing) (sym tells.ends) ∙ x.0) (last_cell M kind t frame cells (held x.1)))
        (both (same? kind (get_or cells end kind.nothing) m) (bytes? frame))

    verdict? : (m : M) → Found (HasVerdict kind pattern frame m)
    unfolding judged? via
    verdict? m = via (λ v. (rule.accepted, v)) (judged? m)

    finishes? : (m : M) (touches : ℕ) → Found (Finishes kind pattern frame m touches)
    unfolding both from_dec judged? via ℕ_discrete
    finishes? m touches =
        via (λ x. subst (Finishes kind pattern frame m) (takes (length frame) ∙ x.1) (λ size meter renter. finish_accepted rule.accepted refl refl x.0))
        (both (judged? m) (from_dec (ℕ_discrete (frame_touches end (length frame)) touches)))

  -- two scans leave the join, and there is one join only
  module _ (ms : List M) (cell : ℕ) where
    abbrev after_one : M
    after_one = get_or (scanned kind.join kind.nothing (first_of words) (second_of words) end ms) cell kind.nothing

    abbrev after_two : M
    after_two = get_or (settled kind.join kind.nothing (first_of words) (second_of words) end ms) cell kind.nothing

    abbrev behind : Behind t cell → M
    behind b = get_or ms b.position kind.nothing

    joined : end < length ms → cell ≤ end → JoinOf kind.join kind.nothing behind after_two
    joined h g = two_scans_suffice M kind.join kind.nothing kind.laws t end (first_of words) (second_of words) (takes_at words) tells ms h cell g

    misses? : Found (OneScanMisses kind pattern words ms cell)
    unfolding both dec_le dec_lt from_dec joined_at other? scan_from via
    misses? =
        via (λ x. (rule, λ j. x.0 (one_join kind.join kind.nothing kind.laws behind j (joined x.1.0 x.1.1))))
        (both (other? kind after_one after_two) (both (from_dec (dec_lt end (length ms))) (from_dec (dec_le cell end))))

  module _ (bytes free : ℕ) where
    begins? : (said : Said M) → Found (BeginsOnTrace kind pattern bytes free said)
    unfolding both dec_le dec_lt from_dec via ℕ_discrete
    begins? (number n) =
        via (λ x. subst (λ k. BeginsOnTrace kind pattern bytes free (number k)) (takes bytes ∙ x.1.1) (λ size renter. begin_accepted rule.accepted x.0 (subst (λ k. k ≤ free) (sym (takes bytes)) x.1.0)))
        (both (from_dec (dec_le bytes most_bytes)) (both (from_dec (dec_le (frame_touches end bytes) free)) (from_dec (ℕ_discrete (frame_touches end bytes) n))))
    begins? (stopped n) =
        via (λ x. subst (λ k. BeginsOnTrace kind pattern bytes free (stopped k)) x.1.1 (λ size renter. begin_without_allowance rule.accepted x.0 (subst (λ k. free < k) (sym (takes bytes)) x.1.0)))
        (both (from_dec (dec_le bytes most_bytes)) (both (from_dec (dec_lt free (frame_touches end bytes))) (from_dec (ℕ_discrete 17 n))))
    begins? (verdict m n) = missing
    begins? (stopped_at n place) = missing

-- A trace after touches: each takes a free word, and writes it.
module _ (size : ℕ) where
  abbrev traced : Words → List Touch → Words
  traced = moved (tracing.step size)

  free_after : (trace : Words) (touches : List Touch) → (traced trace touches).free ≡ trace.free - length touches
  free_after trace [] = omega arith
  free_after trace (a ∷ more) = let h = free_after (tracing.step size trace a) more in omega arith

  written_after : (trace : Words) (touches : List Touch) → length (traced trace touches).written ≡ length trace.written + length touches
  written_after trace [] = omega arith
  written_after trace (a ∷ more) =
      let h = written_after (tracing.step size trace a) more in
      let e = length-append trace.written (traced-word a ∷ []) in
      omega arith

  -- as many touches as words fill it
  full_after : (free : ℕ) (touches : List Touch) → length touches ≡ free → Full (traced (new_trace free) touches) free
  full_after free touches e =
      let left = free_after (new_trace free) touches in
      let written = written_after (new_trace free) touches in
      record { none_free = omega arith; all_written = omega arith }

module _ {pattern words : List ℕ} (rule : RuleOf pattern (length words - 1) words) (bytes free : ℕ) where
  abbrev touched : List Touch
  touched = whole_frame (first_of words) (second_of words) (length words - 1) bytes

  so_many : length touched ≡ frame_touches (length words - 1) bytes
  so_many = frame_length (first_of words) (second_of words) (length words - 1) bytes

  fills? : Found (FillsTheTrace pattern words bytes free)
  unfolding from_dec via ℕ_discrete
  fills? = via (λ e. (rule, λ size. full_after size free touched (so_many ∙ e))) (from_dec (ℕ_discrete (frame_touches (length words - 1) bytes) free))

case? : (c : Case) → Found (CaseHolds c)
unfolding begins? decide fills? finishes? given marks? misses? pattern? ruled? table? verdict?
case? (of_pattern c) = pattern? c
case? (marks pattern frame ms) = given (λ r. marks? yes_no r.rule frame ms) (ruled? (decide pattern))
case? (yes_no_verdict pattern frame m) = given (λ r. verdict? yes_no r.rule frame m) (ruled? (decide pattern))
case? (tail_verdict pattern frame m) = given (λ r. verdict? tail r.rule frame m) (ruled? (decide pattern))
case? (one_scan_misses pattern words ms cell) = given (λ rule. misses? yes_no rule ms cell) (table? words (decide pattern))
case? (finished pattern frame m touches) = given (λ r. finishes? yes_no r.rule frame m touches) (ruled? (decide pattern))
case? (begins_on_trace pattern bytes free said) = given (λ r. begins? yes_no r.rule bytes free said) (ruled? (decide pattern))
case? (fills_the_trace pattern words bytes free) = given (λ rule. fills? rule bytes free) (table? words (decide pattern))

cases? : (cs : List Case) → Found (Every cs)
unfolding both case?
cases? [] = found tt
cases? (c ∷ cs) = both (case? c) (cases? cs)

pub worked : WorkedCasesHold
unfolding cases? is_found
worked = evidence (cases? worked_cases) refl
