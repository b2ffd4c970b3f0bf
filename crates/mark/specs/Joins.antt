-- The join of a family of marks.
use Rattle.std.specs.Prelude.{List, [], map, ◌∷◌, ◌≡◌}

-- x is contained in y: joining it to y adds nothing
abbrev pub Contained : {M : Type 0} → (M → M → M) → M → M → Type 0
Contained join x y = join x y ≡ y

-- the marks of a list joined; of none, nothing
abbrev pub join_all : {M : Type 0} → (M → M → M) → M → List M → M
join_all join nothing [] = nothing
join_all join nothing (x ∷ xs) = join x (join_all join nothing xs)

-- m is the join of the marks of a family: each of them is contained in m, and m is the join of finitely many of them
pub record JoinOf {M : Type 0} (join : M → M → M) (nothing : M) {I : Type 0} (mark : I → M) (m : M) : Type 0 where
  pub contains : (i : I) → Contained join (mark i) m
  pub members : List I
  pub joins : m ≡ join_all join nothing (map mark members)
