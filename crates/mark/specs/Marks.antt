-- Kinds of mark, and the laws that each has to show.
use Rattle.std.specs.Prelude.{ℕ, ◌<◌, ◌≡◌}
use Rattle.mark.specs.Limits.{most_bytes}

-- the four laws of a join
pub record Laws {M : Type 0} (join : M → M → M) (nothing : M) : Type 0 where
  pub assoc : (x y z : M) → join (join x y) z ≡ join x (join y z)
  pub comm : (x y : M) → join x y ≡ join y x
  pub idem : (x : M) → join x x ≡ x
  pub unit : (x : M) → join nothing x ≡ x

pub record Kind (M : Type 0) : Type 0 where
  pub nothing : M
  pub join : M → M → M
  pub seed : ℕ → M
  pub code : M → ℕ
  pub laws : Laws join nothing
  pub seeds_end : (p : ℕ) → most_bytes < p → seed p ≡ nothing
  pub codes_differ : (x y : M) → code x ≡ code y → x ≡ y
