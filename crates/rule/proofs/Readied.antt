-- What a builder that may take one more unit has room for, and what becomes of it.
use Rattle.std.proofs.Common.{◌≡◌, ◌≢◌, ℕ, ◌+◌, ◌%◌, ◌<◌, ◌≤◌, List, [], ◌∷◌, length, get_or, Some, None, Option, sym, refl, ap, ◌∙◌, subst, inl, arith, get_or-set_other}
use Rattle.language.proofs.Settled.{settled}
use Rattle.language.specs.Faults.{Before, Refused, a_close, a_sign, no_operand, nothing_open, operand, sign, sign_after_sign, start, too_deep}
use Rattle.language.specs.Limits.{most_groups, most_units}
use Rattle.language.specs.Links.{Predecessors}
use Rattle.rule.proofs.Stood.{top}
use Rattle.rule.specs.Growing.{Sofar}
use Rattle.rule.specs.Standing.{LaidDown, OpenedLast, Ready, Room, Stands, Takes, Took, before_of}
use Rattle.rule.specs.Words.{Holds, Position, Under}
use Rattle.rule.specs.declared.builder.Builder.{Builder}
use Rattle.rule.specs.declared.builder.Last.TheVariants as last
use Rattle.syntax.specs.declared.PatternUnit.TheVariants.{Close, Open, Repeat}
use Rattle.syntax.specs.declared.PatternUnit.{PatternUnit}
use Rattle.syntax.specs.declared.Sign.{Sign}

position : (a : Option ℕ) (p : ℕ) → p ≤ most_units + 3 → Under a p → Position a
position None p h u = tt
position (Some i) p h u = omega arith

front_under : (L : ℕ → ℕ → Type 0) (p : ℕ) (a : Option ℕ) → Predecessors L p a None → ((i k : ℕ) → L i k → (i < p) × (k ≤ p)) → Under a p
front_under L p None f l = tt
front_under L p (Some i) f l = (l i p ((f.all i).1 (inl refl))).0

module _ (b : Builder) (us : List PatternUnit) (os : List ℕ) (x : Before) (s : Stands b us os x) where
  pub room_at : length us ≤ most_units → Room b
  room_at few =
      let g = s.grown in
      let c = g.count in
      record {
        room = omega arith;
        front = position b.front b.count (omega arith) (front_under (Sofar (Open ∷ us)) b.count b.front g.ahead g.low);
      }

  pub bar_at : length us ≤ most_units → Position (OpenedLast b).bar
  bar_at few =
      let (fs, g, fr, d, n) = top b us x (length os) s.open_groups s.grown s.listed s.depth s.opens in
      let c = g.count in
      position (OpenedLast b).bar b.count (omega arith) g.nested.1

  pub depth_low : 0 < b.depth
  depth_low = let d = s.depth in let o = s.opens in omega arith

  pub depth_high : b.depth ≤ most_groups + 1
  depth_high = let d = s.depth in let o = s.opens in let h = s.shallow in omega arith

  pub as_operand : b.last ≡ last.Operand → Stands b us os operand
  as_operand e = subst (λ z. Stands b us os z) (sym s.last ∙ ap before_of e) s

  pub is_deep : most_groups < b.depth → Refused Open os x 7
  is_deep h = let d = s.depth in let o = s.opens in let k = s.shallow in too_deep (omega arith)

  pub is_shallow : b.depth ≤ most_groups → length os < most_groups
  is_shallow h = let d = s.depth in let o = s.opens in omega arith

start_low : (b : Builder) (r : Ready b) → b.last ≡ last.Operand → b.start < b.count
start_low b r e = (as_operand b r.us r.os r.x r.stands e).grown.repeats.before

-- an operand starts at a word with one predecessor at most
start_word : (b : Builder) (r : Ready b) → b.last ≡ last.Operand → get_or b.words b.start 0 % 0x400 ≡ 1023
start_word b r e =
    let g = (as_operand b r.us r.os r.x r.stands e).grown in
    let q = b.start in
    let l = g.laid q g.repeats.before in
    let (c, f) = g.repeats.single in
    subst (λ z. Holds (get_or b.words q 0 % 0x400) z) (settled (Sofar (Open ∷ r.us)) q l.first l.second c None l.predecessors f).1 l.says.second_bits

-- and a word laid at the end leaves it so
pub start_kept : (b l : Builder) {u : PatternUnit} {own : Option ℕ} → LaidDown b u own l → Ready b → b.last ≡ last.Operand → get_or l.words b.start 0 % 0x400 ≡ 1023
start_kept b l d r e =
    let low = start_low b r e in
    let ne : b.start ≢ b.count = omega arith in
    ap (λ z. get_or z.words b.start 0 % 0x400) d.is ∙ ap (λ z. z % 0x400) (get_or-set_other b.words b.count b.start d.word 0 ne) ∙ start_word b r e

pub room_of : (b : Builder) → Ready b → Room b
room_of b r = let few = r.few in room_at b r.us r.os r.x r.stands (omega arith)

pub bar_of : (b : Builder) → Ready b → Position (OpenedLast b).bar
bar_of b r = let few = r.few in bar_at b r.us r.os r.x r.stands (omega arith)

pub is_closed : (b : Builder) (us : List PatternUnit) (os : List ℕ) (x : Before) → Stands b us os x → b.depth ≤ 1 → Refused Close os x 3
is_closed b us [] x s h = nothing_open
is_closed b us (o ∷ os) x s h = let d = s.depth in let k = s.opens in let z : ⊥ = omega arith in absurd z

pub refused_first : (g : Sign) (os : List ℕ) (x : Before) → x ≡ start → Refused (Repeat g) os x 5
refused_first g os x h = subst (λ z. Refused (Repeat g) os z 5) (sym h) no_operand

pub refused_again : (g : Sign) (os : List ℕ) (x : Before) → x ≡ sign → Refused (Repeat g) os x 6
refused_again g os x h = subst (λ z. Refused (Repeat g) os z 6) (sym h) sign_after_sign

pub took_close : (b b' : Builder) (p : ℕ) (us : List PatternUnit) (os : List ℕ) (x : Before) → Stands b us os x → 1 < b.depth → Takes b Close p b' → Took b' Close p us os x
took_close b b' p us [] x s h f = let d = s.depth in let o = s.opens in let z : ⊥ = omega arith in absurd z
took_close b b' p us (o ∷ os) x s h f = (os, operand, a_close, f us (o ∷ os) x os operand s a_close)

pub took_sign : (b b' : Builder) (g : Sign) (p : ℕ) (us : List PatternUnit) (os : List ℕ) (x : Before) → Stands b us os x → b.last ≡ last.Operand
    → Takes b (Repeat g) p b' → Took b' (Repeat g) p us os x
took_sign b b' g p us os x s e f =
    subst (λ z. Took b' (Repeat g) p us os z) (sym (ap before_of e) ∙ s.last) (os, sign, a_sign, f us os operand os sign (as_operand b us os x s e) a_sign)

-- the unit under another name
pub took_as : (b' : Builder) {u v : PatternUnit} (p : ℕ) (us : List PatternUnit) (os : List ℕ) (x : Before) → u ≡ v → Took b' v p us os x → Took b' u p us os x
took_as b' p us os x e t = subst (λ z. Took b' z p us os x) (sym e) t

pub refused_as : {u v : PatternUnit} {os : List ℕ} {x : Before} {n : ℕ} → u ≡ v → Refused v os x n → Refused u os x n
refused_as {os = os} {x} {n} e r = subst (λ z. Refused z os x n) (sym e) r
