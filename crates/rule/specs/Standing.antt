-- How a builder stands to the units that it has taken.
use Rattle.std.specs.Prelude.{◌≡◌, ℕ, suc, ◌+◌, ◌-◌, ◌<◌, ◌≤◌, Bool, true, false, ◌⊎◌, List, [], ◌∷◌, ◌++◌, length, get_or, Some, None, Ok, Err, Option, Result, slice_index_or, slice_set}
use Rattle.language.specs.Faults.{Before, Goes, Reads, Refused, operand, sign, start}
use Rattle.language.specs.LeftToRight.{OpenGroup}
use Rattle.language.specs.Limits.{most_groups, most_units}
use Rattle.rule.specs.Growing.{Grown}
use Rattle.rule.specs.Words.{Position, Says, byte_of, firsts, kind_of, seconds}
use Rattle.rule.specs.declared.builder.Builder.{Builder}
use Rattle.rule.specs.declared.builder.Group.{Group}
use Rattle.rule.specs.declared.builder.Last.TheVariants.{Operand, Sign, Start}
use Rattle.rule.specs.declared.builder.Last.{Last}
use Rattle.syntax.specs.Reading.{Next}
use Rattle.stops.specs.Stops.{stop_number}
use Rattle.syntax.specs.declared.Fault.{Fault}
use Rattle.syntax.specs.declared.PatternUnit.TheVariants.{Open}
use Rattle.syntax.specs.declared.PatternUnit.{PatternUnit}
use Rattle.syntax.specs.declared.Placed.{Placed}
use Rattle.syntax.specs.declared.Sign.TheVariants.{Opt, Plus, Star}
use Rattle.syntax.specs.declared.Sign.{Sign as Repetition}

abbrev pub before_of : Last → Before
before_of Start = start
before_of Operand = operand
before_of Sign = sign

abbrev pub blank : Group
blank = record { opened = 0; bar = None; place = 0 }

abbrev pub open_of : Group → OpenGroup
open_of g = record { opened = g.opened; last = g.bar }

-- the groups are the open ones, the innermost last
abbrev pub Listed : List Group → List OpenGroup → Type 0
Listed hs [] = Unit {0}
Listed hs (f ∷ gs) = (open_of (slice_index_or hs (length gs) blank) ≡ f) × Listed hs gs

-- and were opened at these places, the whole pattern apart
abbrev pub PlacedAt : List Group → List ℕ → Type 0
PlacedAt hs [] = Unit {0}
PlacedAt hs (o ∷ os) = ((get_or hs (suc (length os)) blank).place ≡ o) × PlacedAt hs os

-- the builder b has taken the units us, inside the groups opened at os, the last unit being as x says
pub record Stands (b : Builder) (us : List PatternUnit) (os : List ℕ) (x : Before) : Type 0 where
  pub open_groups : List OpenGroup
  pub grown : Grown (Open ∷ us) b.words open_groups b.start b.count b.front x
  pub listed : Listed b.groups open_groups
  pub depth : b.depth ≡ length open_groups
  pub placed : PlacedAt b.groups os
  pub opens : length open_groups ≡ suc (length os)
  pub shallow : length os ≤ most_groups
  pub last : before_of b.last ≡ x
  pub long : length b.words ≡ most_units + 3
  pub wide : length b.groups ≡ most_groups + 1

-- there is room for one more word
pub record Room (b : Builder) : Type 0 where
  pub room : b.count < most_units + 3
  pub front : Position b.front

-- b' is b with the word w of the unit u laid, to which its front and own lead
pub record LaidDown (b : Builder) (u : PatternUnit) (own : Option ℕ) (b' : Builder) : Type 0 where
  pub word : ℕ
  pub says : Says word (kind_of u) (byte_of u) (firsts b.front own) (seconds b.front own)
  pub is : b' ≡ record { words = slice_set b.words b.count word; count = b.count + 1; groups = b.groups; depth = b.depth; front = b.front; start = b.start; last = b.last }

-- the builder has taken some units, and may take one more
pub record Ready (b : Builder) : Type 0 where
  pub us : List PatternUnit
  pub os : List ℕ
  pub x : Before
  pub stands : Stands b us os x
  pub few : length us < most_units

-- a builder b becomes b', which has also taken the unit u, wherever u may stand at a place
abbrev pub Takes : Builder → PatternUnit → ℕ → Builder → Type 0
Takes b u place b' =
    (us : List PatternUnit) (os : List ℕ) (x : Before) (os' : List ℕ) (x' : Before) →
    Stands b us os x → Goes place u os x os' x' → Stands b' (us ++ (u ∷ [])) os' x'

-- what becomes of a builder that is given the unit u at a place
abbrev pub Took : Builder → PatternUnit → ℕ → List PatternUnit → List ℕ → Before → Type 0
Took b' u place us os x = (os' : List ℕ) × (x' : Before) × Goes place u os x os' x' × Stands b' (us ++ (u ∷ [])) os' x'

-- what a builder answers to a unit at its place, and what becomes of it
abbrev pub Answers : Placed → List PatternUnit → List ℕ → Before → Result (Unit {0}) Fault → Builder → Type 0
Answers p us os x (Ok done) b' = Took b' p.unit p.place us os x
Answers p us os x (Err f) b' = Refused p.unit os x (stop_number f.stop) × (f.place ≡ p.place)

-- what is answered where a builder of this count asks for the unit at the place p: 1 comes before 2
abbrev pub NextWithin : ℕ → List ℕ → ℕ → Result (Option Placed) Fault → ℕ → Type 0
NextWithin count bytes p (Ok None) p' = Next bytes p (Ok None) p'
NextWithin count bytes p (Ok (Some x)) p' = (count ≤ most_units) × Next bytes p (Ok (Some x)) p'
NextWithin count bytes p (Err f) p' =
    ((most_units < count) × (p < length bytes) × (stop_number f.stop ≡ 1) × (f.place ≡ p)) ⊎ ((count ≤ most_units) × Next bytes p (Err f) p')

-- the bytes read without a fault, and the builder stands to their units
pub record ReadTo (bytes : List ℕ) (b : Builder) : Type 0 where
  pub us : List PatternUnit
  pub os : List ℕ
  pub x : Before
  pub reads : Reads bytes us os x
  pub stands : Stands b us os x

-- the group that was opened last
abbrev pub OpenedLast : Builder → Group
OpenedLast b = slice_index_or b.groups (b.depth - 1) blank

-- where a repeat sign is skipped from
abbrev pub skip_of : Repetition → ℕ → Option ℕ
skip_of Star q = Some q
skip_of Plus q = None
skip_of Opt q = Some q

-- whether a repeat sign leads back
abbrev pub loops_back : Repetition → Bool
loops_back Star = true
loops_back Plus = true
loops_back Opt = false
