-- Where a rule's table ends, and states with no frame open.
use Rattle.std.proofs.Common.{◌≡◌, ◌≢◌, ℕ, List, None, Option, refl}
use Rattle.board.specs.Boards.{Make}
use Rattle.conduct.specs.Calls.{Frame}
use Rattle.conduct.specs.Rules.{end_of}
use Rattle.mark.specs.Marks.{Kind}
use Rattle.rule.specs.Tables.{RuleOf}
use Rattle.rule.specs.declared.table.Rule.{Rule}
use Rattle.calls.specs.Sound.{Sound}
use Rattle.calls.specs.Told.{Unopened}
use Rattle.calls.specs.declared.frame.OpenFrame.{OpenFrame}
use Rattle.calls.specs.declared.frame.State.TheVariants.{Empty, Open, Ready}
use Rattle.calls.specs.declared.frame.State.{State}
use Rattle.theory.proofs.Tables.{table_tells}

-- a table ends where its pattern does
pub end_is : {p : List ℕ} {n : ℕ} {words : List ℕ} (r : RuleOf p n words) → n ≡ end_of r.accepted
end_is {p} {n} {words} r = (table_tells r.accepted.tree n words r.table).ends

-- a state that is not open
pub not_open : (state : State) → ((own : OpenFrame) → state ≢ Open own) → Unopened state
not_open Empty n = tt
not_open Ready n = tt
not_open (Open own) n = n own refl

module _ {M X : Type 0} (make : Make X) (kind : Kind M) (l : Option (List ℕ)) (o : Option Frame) (cells : List M) (meter : X) where
  -- no frame is open
  pub unopened : (state : State) (rule : Rule) → Unopened state → Sound make kind l o (state, rule) cells meter → o ≡ None
  unopened Empty rule u s = s.1
  unopened Ready rule u s = s.2
  unopened (Open f) rule u s = absurd u
