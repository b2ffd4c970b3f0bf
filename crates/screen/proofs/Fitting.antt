-- A board with a cell for each position of a rule has all the cells that the rule's schedules touch.
use Rattle.std.proofs.Common.{◌≡◌, ℕ, zero, suc, ◌+◌, ◌<◌, ◌≤◌, List, [], ◌∷◌, ◌++◌, Some, None, Option, refl, inl, inr, arith}
use Rattle.board.specs.Boards.{Touch, write}
use Rattle.language.specs.Links.{LinksOf, last_position}
use Rattle.language.specs.Patterns.{Tree, alternatives, group}
use Rattle.method.specs.Cells.{source}
use Rattle.screen.specs.Schedules.{beginning, feeding, finishing, placing, scanning, scans, settling, shifts, stepping, wiping, writes}
use Rattle.screen.specs.Moving.{Below}
use Rattle.rule.specs.Tables.{RuleOf, Ruled}
use Rattle.rule.specs.Words.{first_of, second_of}
use Rattle.theory.proofs.Bounds.{link_in}
use Rattle.std.proofs.Math.Logic.{∥∥₁_elim}
use Rattle.std.specs.Coded.{le_prop}
use Rattle.theory.proofs.Tables.{table_tells}

below_append : (size : ℕ) (a b : List Touch) → Below size a → Below size b → Below size (a ++ b)
below_append size [] b h k = k
below_append size (x ∷ a) b h k = (h.0, below_append size a b h.1 k)

below_writes : (size m j : ℕ) → m + j ≤ size → Below size (writes m j)
below_writes size zero j h = tt
below_writes size (suc m) j h = (omega arith, below_writes size m (suc j) (omega arith))

below_shifts : (size j : ℕ) → j < size → Below size (shifts j)
below_shifts size zero h = tt
below_shifts size (suc j) h = (omega arith, (h, below_shifts size j (omega arith)))

-- the predecessors of a position up to n are positions up to n
pub record Inside (first second : ℕ → Option ℕ) (n : ℕ) : Type 0 where
  pub first_in : (j : ℕ) → j ≤ n → source (first j) j ≤ n
  pub second_in : (j : ℕ) → j ≤ n → source (second j) j ≤ n

module _ {first second : ℕ → Option ℕ} {n size : ℕ} (inside : Inside first second n) (h : n < size) where
  below_scans : (m j : ℕ) → m + j ≤ suc n → Below size (scans first second m j)
  below_scans zero j g = tt
  below_scans (suc m) j g =
      let a = inside.first_in j (omega arith) in
      let b = inside.second_in j (omega arith) in
      (omega arith, (omega arith, (omega arith, (omega arith, below_scans m (suc j) (omega arith)))))

  below_settling : Below size (settling first second n)
  below_settling = let s = below_scans (suc n) 0 (omega arith) in below_append size (scanning first second n) (scanning first second n) s s

  pub below_beginning : Below size (beginning first second n)
  below_beginning = below_append size (placing n) (settling first second n) (below_writes size (suc n) 0 (omega arith)) below_settling

  pub below_feeding : Below size (feeding first second n)
  below_feeding =
      below_append size (stepping n) (settling first second n) (below_append size (shifts n) (write 0 ∷ []) (below_shifts size n h) (omega arith, tt)) below_settling

  pub below_wiping : Below size (wiping n)
  below_wiping = below_writes size (suc n) 0 (omega arith)

  pub below_finishing : Below size (finishing first second n)
  below_finishing = (h, below_wiping)

-- the predecessors of a table are positions of its rule
table_inside : {pattern : List ℕ} {n : ℕ} {words : List ℕ} → RuleOf pattern n words → Inside (first_of words) (second_of words) n
table_inside {n = n} {words} rule =
    let t = rule.accepted.tree in
    let tells = table_tells t n words rule.table in
    let at : (j : ℕ) → j ≤ n → (o : Option ℕ) → ((i : ℕ) → o ≡ Some i → LinksOf t i j) → source o j ≤ n =
    (λ j h o f. go t n tells.ends j h o f) in
    record {
      first_in = λ j h. at j h (first_of words j) (λ i e. ((tells.links j h).all i).1 (inl e));
      second_in = λ j h. at j h (second_of words j) (λ i e. ((tells.links j h).all i).1 (inr e));
    }
  where
    go : (t : Tree alternatives) (n : ℕ) → n ≡ last_position t → (j : ℕ) → j ≤ n → (o : Option ℕ) → ((i : ℕ) → o ≡ Some i → LinksOf t i j) → source o j ≤ n
    go t n e j h None f = h
    go t n e j h (Some i) f = let l = link_in (group t) 0 i j (f i refl) in omega arith

pub rule_inside : {n : ℕ} {words : List ℕ} → Ruled n words → Inside (first_of words) (second_of words) n
rule_inside ruled = record {
  first_in = λ j h. ∥∥₁_elim ruled le_prop (λ (bytes, rule). (table_inside rule).first_in j h);
  second_in = λ j h. ∥∥₁_elim ruled le_prop (λ (bytes, rule). (table_inside rule).second_in j h);
}
