-- Which bytes spell which unit.
use Rattle.std.specs.Prelude.{◌≡◌, ℕ, ◌+◌, ◌*◌, ◌≤◌, ◌⊎◌, List, [], ◌∷◌, ◌++◌, codes}
use Rattle.syntax.specs.declared.Letter.TheVariants.{Any, Byte}
use Rattle.syntax.specs.declared.PatternUnit.TheVariants.{Bar, Close, Open, Plain, Repeat}
use Rattle.syntax.specs.declared.PatternUnit.{PatternUnit}
use Rattle.syntax.specs.declared.Sign.TheVariants.{Opt, Plus, Star}

abbrev pub Among : ℕ → List ℕ → Type 0
Among b [] = ⊥
Among b (x ∷ xs) = (b ≡ x) ⊎ Among b xs

-- the special bytes
abbrev pub Special : ℕ → Type 0
Special b = Among b (codes "()|*+?.\\[]{}^$")

-- the special bytes that are no unit by themselves and begin none
abbrev pub bare_specials : List ℕ
bare_specials = codes "[]{}^$"

-- the byte b is a hexadecimal digit of either case, of the value v
abbrev pub Digit : ℕ → ℕ → Type 0
Digit b v =
    ((48 ≤ b) × (b ≤ 57) × (b ≡ 48 + v)) ⊎ (((97 ≤ b) × (b ≤ 102) × (b ≡ 87 + v)) ⊎ ((65 ≤ b) × (b ≤ 70) × (b ≡ 55 + v)))

-- the bytes spell the unit
pub data Spells : List ℕ → PatternUnit → Type 0 where
  ordinary : {b : ℕ} → (Special b → ⊥) → Spells (b ∷ []) (Plain (Byte b))
  open_sign : Spells (codes "(") Open
  close_sign : Spells (codes ")") Close
  bar_sign : Spells (codes "|") Bar
  star_sign : Spells (codes "*") (Repeat Star)
  plus_sign : Spells (codes "+") (Repeat Plus)
  opt_sign : Spells (codes "?") (Repeat Opt)
  period : Spells (codes ".") (Plain Any)
  escaped : {b : ℕ} → Special b → Spells (codes "\\" ++ (b ∷ [])) (Plain (Byte b))
  coded : (h l v w : ℕ) → Digit h v → Digit l w → Spells (codes "\\x" ++ (h ∷ l ∷ [])) (Plain (Byte (16 * v + w)))

-- the bytes after a backslash that make it an escape
pub data Escapes : List ℕ → Type 0 where
  of_special : {b : ℕ} {rest : List ℕ} → Special b → Escapes (b ∷ rest)
  of_digits : (h l v w : ℕ) {rest : List ℕ} → Digit h v → Digit l w → Escapes (120 ∷ h ∷ l ∷ rest)

-- the bytes begin with no unit
pub data Stuck : List ℕ → Type 0 where
  backslash : {rest : List ℕ} → (Escapes rest → ⊥) → Stuck (92 ∷ rest)
  bare : {b : ℕ} {rest : List ℕ} → Among b bare_specials → Stuck (b ∷ rest)

-- the bytes begin with the unit u, and rest follows
pub record Begins (bytes : List ℕ) (u : PatternUnit) (rest : List ℕ) : Type 0 where
  pub spelling : List ℕ
  pub spells : Spells spelling u
  pub splits : bytes ≡ spelling ++ rest
