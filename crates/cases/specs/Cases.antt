-- The worked cases, in one list.
use Rattle.std.specs.Prelude.{ℕ, ◌-◌, List, [], ◌∷◌, length, codes}
use Rattle.language.specs.Faults.{Faulty}
use Rattle.rule.specs.Tables.{RuleOf}

-- a pattern with the words of its table, or with the number and the place of its fault
pub data Case : Type 0 where
  table : (pattern words : List ℕ) → Case
  stop : (pattern : List ℕ) (number place : ℕ) → Case

abbrev pub CaseHolds : Case → Type 0
CaseHolds (table pattern words) = RuleOf pattern (length words - 1) words
CaseHolds (stop pattern number place) = Faulty pattern number place

abbrev pub worked_cases : List Case
worked_cases =
    table (codes "a|b") (0x200FFFFF ∷ 0x061003FF ∷ 0x300FFFFF ∷ 0x062003FF ∷ 0x40000BFF ∷ 0xF00013FF ∷ []) ∷
    table (codes "a*") (0x200FFFFF ∷ 0x06100002 ∷ 0x500007FF ∷ 0x40000BFF ∷ 0xF0000FFF ∷ []) ∷
    table (codes "(|a)") (0x200FFFFF ∷ 0x200003FF ∷ 0x300007FF ∷ 0x061007FF ∷ 0x40000BFF ∷ 0x400013FF ∷ 0xF00017FF ∷ []) ∷
    table (codes "") (0x200FFFFF ∷ 0x400003FF ∷ 0xF00007FF ∷ []) ∷
    stop (codes "a**") 6 2 ∷
    stop (codes "(*a)") 5 1 ∷
    stop (codes "ab)") 3 2 ∷
    stop (codes "((a)") 4 0 ∷
    stop (codes "\\q") 2 0 ∷
    stop (codes "\\x4") 2 0 ∷
    []

abbrev pub Every : List Case → Type 0
Every [] = Unit {0}
Every (c ∷ cs) = CaseHolds c × Every cs

abbrev pub WorkedCasesHold : Type 0
WorkedCasesHold = Every worked_cases
