-- The language of a pattern: which byte strings belong to it.
use Rattle.std.specs.Prelude.{◌≡◌, ℕ, zero, suc, ◌<◌, ◌≤◌, ◌⊎◌, List, [], ◌∷◌, ◌++◌}
use Rattle.language.specs.Patterns.{Sort, Tree, empty, group, letter, once, only, repeated, ◌or◌, ◌then◌}
use Rattle.syntax.specs.declared.Letter.TheVariants.{Any, Byte}
use Rattle.syntax.specs.declared.Letter.{Letter}
use Rattle.syntax.specs.declared.Sign.TheVariants.{Opt, Plus, Star}
use Rattle.syntax.specs.declared.Sign.{Sign}

infixr 60 ◌·◌
-- the letter takes the byte c: a byte itself, the period every byte
abbrev pub LetterTakes : Letter → ℕ → Type 0
LetterTakes (Byte b) c = c ≡ b
LetterTakes Any c = c < 256

abbrev pub Language : Type 0 → Type 1
Language A = List A → Type 0

-- a word of L and then a word of K
abbrev pub ◌·◌ : {A : Type 0} → Language A → Language A → Language A
◌·◌ {A} L K w = (u : List A) × (v : List A) × (w ≡ u ++ v) × L u × K v

-- n words of L, one after another
abbrev pub Times : {A : Type 0} → Language A → ℕ → Language A
Times L zero w = w ≡ []
Times L (suc n) w = (L · Times L n) w

-- how often a repeat sign lets its operand stand: any number of times, at least once, at most once
abbrev pub Allows : Sign → ℕ → Type 0
Allows Star n = 0 ≤ n
Allows Plus n = 1 ≤ n
Allows Opt n = n ≤ 1

-- the words of a tree over an alphabet, where `reads` says which of its symbols a letter reads
module _ {A : Type 0} (reads : Letter → A → Type 0) where
  abbrev pub WordsOver : {s : Sort} → Tree s → Language A
  WordsOver (letter l) w = (a : A) × reads l a × (w ≡ a ∷ [])
  WordsOver (group t) w = WordsOver t w
  WordsOver (once a) w = WordsOver a w
  WordsOver (repeated a g) w = (n : ℕ) × Allows g n × Times (WordsOver a) n w
  WordsOver empty w = w ≡ []
  WordsOver (x then y) w = (WordsOver x · WordsOver y) w
  WordsOver (only b) w = WordsOver b w
  WordsOver (b or t) w = WordsOver b w ⊎ WordsOver t w

-- the bytes w belong to the language of the tree
abbrev pub Words : {s : Sort} → Tree s → Language ℕ
Words t w = WordsOver LetterTakes t w
