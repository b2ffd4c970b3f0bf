-- What lines of commands are made of.
use Rattle.std.specs.Prelude.{◌≡◌, ℕ, ◌<◌, ◌⊎◌, List, [], ◌∷◌, ◌++◌, length, codes, ◌≢◌, slice_index}

-- nothing but spaces
abbrev pub Blank : List ℕ → Type 0
Blank line = (k : ℕ) → k < length line → slice_index line k ≡ 32

abbrev pub Comment : List ℕ → Type 0
Comment line = (rest : List ℕ) × (line ≡ codes "#" ++ rest)

-- the word stands before the first space of the line, and rest is all that follows the space; with no space the line is the word
pub record Divides (line word rest : List ℕ) : Type 0 where
  pub no_space : (k : ℕ) → k < length word → slice_index word k ≢ 32
  pub parts : ((line ≡ word) × (rest ≡ [])) ⊎ (line ≡ word ++ (32 ∷ rest))
