-- What the cells of a frame mean.
use Rattle.std.specs.Prelude.{◌≡◌, ℕ, ◌<◌, ◌≤◌, Bool, true, ◌↔◌, List, length, drop, Option, slice_index_or}
use Rattle.language.specs.Links.{LinksOf, Predecessors, last_position}
use Rattle.language.specs.Patterns.{Tree, alternatives}
use Rattle.language.specs.Ways.{Chain, Takes, Way}
use Rattle.mark.specs.Joins.{JoinOf}
use Rattle.mark.specs.Marks.{Kind}
use Rattle.std.specs.List.{AllByRecursion}

-- a frame is bytes
abbrev pub Bytes : List ℕ → Type 0
Bytes w = AllByRecursion (λ c. c < 256) w

-- The tables tell the pattern t: where it ends, which positions link to each one, and which bytes each takes.
pub record Tells (t : Tree alternatives) (n : ℕ) (first second : ℕ → Option ℕ) (takes : ℕ → ℕ → Bool) : Type 0 where
  pub ends : n ≡ last_position t
  pub links : (k : ℕ) → k ≤ n → Predecessors (LinksOf t) k (first k) (second k)
  pub bytes : (c j : ℕ) → c < 256 → j < n → (takes c j ≡ true) ↔ Takes t j c

-- a position from which links lead to k
pub record Behind (t : Tree alternatives) (k : ℕ) : Type 0 where
  pub position : ℕ
  pub chain : Chain (LinksOf t) position k

-- a place in the bytes w from which on they lead from position 0 to k
pub record Arrival (t : Tree alternatives) (w : List ℕ) (k : ℕ) : Type 0 where
  pub place : ℕ
  pub within : place ≤ length w
  pub way : Way t (drop place w) k

-- After the bytes w each cell k up to the END holds the join of seed(p) over each place p from which on they lead to k.
abbrev pub Holds : {M : Type 0} → Kind M → Tree alternatives → List ℕ → List M → Type 0
Holds kind t w cells =
    (k : ℕ) → k ≤ last_position t → JoinOf kind.join kind.nothing (λ (a : Arrival t w k). kind.seed a.place) (slice_index_or cells k kind.nothing)
