-- Ways through a pattern's positions: along links, which consume no byte, and over letters, each of which takes one.
use Rattle.std.specs.Prelude.{◌≡◌, ℕ, suc, ◌↔◌, List, [], ◌∷◌, ◌++◌, slice_index_or}
use Rattle.language.specs.Links.{LinksOf, last_position}
use Rattle.language.specs.Patterns.{Tree, alternatives, group, units}
use Rattle.language.specs.Words.{LetterTakes, Words}
use Rattle.syntax.specs.declared.Letter.{Letter}
use Rattle.syntax.specs.declared.PatternUnit.TheVariants.{Close, Plain}
use Rattle.syntax.specs.declared.PatternUnit.{PatternUnit}

-- the unit at position j of a pattern: its units stand between the added OPEN and CLOSE, as a group's do
abbrev pub unit_at : Tree alternatives → ℕ → PatternUnit
unit_at t j = slice_index_or (units (group t)) j Close

-- the letter at position j reads the symbol a
abbrev pub ReadsAt : {A : Type 0} → (Letter → A → Type 0) → Tree alternatives → ℕ → A → Type 0
ReadsAt reads t j a = (l : Letter) × (unit_at t j ≡ Plain l) × reads l a

-- the letter at position j takes the byte c
abbrev pub Takes : Tree alternatives → ℕ → ℕ → Type 0
Takes t j c = ReadsAt LetterTakes t j c

-- the symbols w lead from position i to position k: each link goes along, and each move over a position goes to the next one
pub data Leads {A : Type 0} (link : ℕ → ℕ → Type 0) (move : ℕ → A → Type 0) (i : ℕ) : List A → ℕ → Type 0 where
  stay : Leads link move i [] i
  along : {w : List A} {j k : ℕ} → Leads link move i w j → link j k → Leads link move i w k
  over : {w : List A} {j : ℕ} {c : A} → Leads link move i w j → move j c → Leads link move i (w ++ (c ∷ [])) (suc j)

-- the bytes w lead from position 0 of the pattern to position k
abbrev pub Way : Tree alternatives → List ℕ → ℕ → Type 0
Way t w k = Leads (LinksOf t) (Takes t) 0 w k

-- links alone lead from i to k
pub data Chain (link : ℕ → ℕ → Type 0) (i : ℕ) : ℕ → Type 0 where
  here : Chain link i i
  on : {j k : ℕ} → Chain link i j → link j k → Chain link i k

-- the ways from position 0 to the END spell the words of the pattern, and nothing else
abbrev pub WaysSpellTheLanguage : Type 0
WaysSpellTheLanguage = (t : Tree alternatives) (w : List ℕ) → Way t w (last_position t) ↔ Words t w
