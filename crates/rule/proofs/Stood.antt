-- How a builder stands after one more unit.
use Rattle.language.specs.Faults.{Before, operand, sign, start}
use Rattle.language.specs.LeftToRight.{OpenGroup}
use Rattle.language.specs.Limits.{most_groups, most_units}
use Rattle.language.specs.Links.{Loops, plus_loops, star_loops}
use Rattle.rule.proofs.GrownBy.{grown_bar, grown_close, grown_letter, grown_open, grown_sign}
use Rattle.rule.proofs.Step.{Writes}
use Rattle.rule.specs.Growing.{Grown}
use Rattle.rule.specs.Standing.{LaidDown, Listed, OpenedLast, PlacedAt, Room, Stands, blank, loops_back, open_of, skip_of}
use Rattle.rule.specs.Words.{Says, Under, byte_of, firsts, kind_of, seconds}
use Rattle.rule.specs.declared.builder.Builder.{Builder}
use Rattle.rule.specs.declared.builder.Group.{Group}
use Rattle.rule.specs.declared.builder.Last.TheVariants as last
use Rattle.rule.specs.declared.word.Kind.{Kind}
use Rattle.syntax.specs.declared.Letter.{Letter}
use Rattle.syntax.specs.declared.PatternUnit.TheVariants.{Bar, Close, Open, Plain, Repeat}
use Rattle.syntax.specs.declared.PatternUnit.{PatternUnit}
use Rattle.syntax.specs.declared.Sign.TheVariants.{Opt, Plus, Star}
use Rattle.syntax.specs.declared.Sign.{Sign}
use borrow.Author.Tests.{clash}
use Rattle.std.proofs.Common.{◌≡◌, ℕ, suc, ◌+◌, ◌-◌, ◌<◌, ◌≤◌, true, false, ◌≢◌, List, [], ◌∷◌, ◌++◌, length, get_or, set, Some, None, Option, sym, refl, ap, ◌∙◌, subst, add-one, arith, length-set, get_or-set_other, get_or-set_same}
use native.Mathlib.Decide.{ℕ_discrete}

-- one word laid, and nothing led back
pub writes_over : (words : List ℕ) (q p : ℕ) (m : PatternUnit) (a b : Option ℕ) (w : ℕ) (Back : Type 0) → p < length words → Says w (kind_of m) (byte_of m) a b → (Back → ⊥)
    → Writes words (set words p w) q p m a b Back
writes_over words q p m a b w Back h s n = record {
  here = subst (λ z. Says z (kind_of m) (byte_of m) a b) (sym (get_or-set_same words p w 0 h)) s;
  other = λ j l _. let ne : j ≢ p = omega arith in get_or-set_other words p j w 0 ne;
  back = λ x. absurd (n x);
}

at_more : {us : List PatternUnit} {words : List ℕ} {gs : List OpenGroup} {q : ℕ} (p : ℕ) {front : Option ℕ} {b : Before} → Grown us words gs q (suc p) front b → Grown us words gs q (p + 1) front b
at_more {us} {words} {gs} {q} p {front} {b} g = subst (λ z. Grown us words gs q z front b) (sym (add-one p)) g

-- a letter
abbrev after_letter : Builder → Builder → Builder
after_letter b l = record {
  words = l.words;
  count = l.count;
  groups = l.groups;
  depth = l.depth;
  front = None;
  start = b.count;
  last = last.Operand;
}

pub stood_letter : (b l : Builder) (t : Letter) → LaidDown b (Plain t) None l → Room b → (us : List PatternUnit) (os : List ℕ) (x : Before) → Stands b us os x
    → Stands (after_letter b l) (us ++ (Plain t ∷ [])) os operand
stood_letter b l t e r us os x s =
    let P : Builder → Type 0 = λ z. Stands (after_letter b z) (us ++ (Plain t ∷ [])) os operand in
    let room = r.room in
    let long = s.long in
    let w = set b.words b.count e.word in
    subst P (sym e.is) (record {
      open_groups = s.open_groups;
      grown = at_more b.count (grown_letter s.grown t w (writes_over b.words b.start b.count (Plain t) (firsts b.front None) (seconds b.front None) e.word ⊥ (omega arith) e.says (λ z. z)));
      listed = s.listed;
      depth = s.depth;
      placed = s.placed;
      opens = s.opens;
      shallow = s.shallow;
      last = refl;
      long = length-set b.words b.count e.word ∙ long;
      wide = s.wide;
    })

listed_set : (hs : List Group) (gs : List OpenGroup) (d : ℕ) (g : Group) → length gs ≤ d → Listed hs gs → Listed (set hs d g) gs
listed_set hs [] d g h x = tt
listed_set hs (f ∷ gs) d g h (e, r) =
    let ne : length gs ≢ d = omega arith in
    (ap open_of (get_or-set_other hs d (length gs) g blank ne) ∙ e, listed_set hs gs d g (omega arith) r)

placed_set : (gs : List Group) (os : List ℕ) (d : ℕ) (g : Group) → length os < d → PlacedAt gs os → PlacedAt (set gs d g) os
placed_set gs [] d g h x = tt
placed_set gs (o ∷ os) d g h (e, r) =
    let ne : suc (length os) ≢ d = omega arith in
    (ap (λ z. z.place) (get_or-set_other gs d (suc (length os)) g blank ne) ∙ e, placed_set gs os d g (omega arith) r)

abbrev opened_at : Builder → ℕ → Group
opened_at b place = record { opened = b.count; bar = None; place = place }

abbrev after_open : Builder → Builder → ℕ → Builder
after_open b l place = record {
  words = l.words;
  count = l.count;
  groups = set l.groups l.depth (opened_at b place);
  depth = l.depth + 1;
  front = Some b.count;
  start = b.count;
  last = last.Start;
}

pub stood_open : (b l : Builder) (place : ℕ) → LaidDown b Open None l → Room b → (us : List PatternUnit) (os : List ℕ) (x : Before) → length os < most_groups → Stands b us os x
    → Stands (after_open b l place) (us ++ (Open ∷ [])) (place ∷ os) start
stood_open b l place e r us os x h s =
    let P : Builder → Type 0 = λ z. Stands (after_open b z place) (us ++ (Open ∷ [])) (place ∷ os) start in
    let room = r.room in
    let long = s.long in
    let wide = s.wide in
    let dep = s.depth in
    let ope = s.opens in
    let w = set b.words b.count e.word in
    let g = opened_at b place in
    let here : get_or (set b.groups b.depth g) b.depth blank ≡ g = get_or-set_same b.groups b.depth g blank (omega arith) in
    subst P (sym e.is) (record {
      open_groups = record { opened = b.count; last = None } ∷ s.open_groups;
      grown = at_more b.count (grown_open s.grown w (writes_over b.words b.start b.count Open (firsts b.front None) (seconds b.front None) e.word ⊥ (omega arith) e.says (λ z. z)));
      listed = (
        ap (λ z. open_of (get_or (set b.groups b.depth g) z blank)) (sym dep) ∙ ap open_of here,
        listed_set b.groups s.open_groups b.depth g (omega arith) s.listed,
      );
      depth = omega arith;
      placed = (
        ap (λ z. (get_or (set b.groups b.depth g) z blank).place) (sym ope ∙ sym dep) ∙ ap (λ z. z.place) here,
        placed_set b.groups os b.depth g (omega arith) s.placed,
      );
      opens = omega arith;
      shallow = omega arith;
      last = refl;
      long = length-set b.words b.count e.word ∙ long;
      wide = length-set b.groups b.depth g ∙ wide;
    })

-- the innermost group, as the builder has it
pub top : (b : Builder) (us : List PatternUnit) (x : Before) (n : ℕ) (gs : List OpenGroup) → Grown (Open ∷ us) b.words gs b.start b.count b.front x → Listed b.groups gs → b.depth ≡ length gs → length gs ≡ suc n
    → (gs : List OpenGroup) × Grown (Open ∷ us) b.words (open_of (get_or b.groups (b.depth - 1) blank) ∷ gs) b.start b.count b.front x × Listed b.groups gs × (b.depth - 1 ≡ length gs) × (length gs ≡ n)
top b us x n [] g fr d e = let z : ⊥ = omega arith in absurd z
top b us x n (f ∷ gs) g (h, fr) d e =
    let k : b.depth - 1 ≡ length gs = omega arith in
    let same : f ≡ open_of (get_or b.groups (b.depth - 1) blank) = sym h ∙ ap (λ z. open_of (get_or b.groups z blank)) (sym k) in
    (gs, subst (λ z. Grown (Open ∷ us) b.words (z ∷ gs) b.start b.count b.front x) same g, fr, k, omega arith)

abbrev after_close : Builder → Builder → Builder
after_close b l = record {
  words = l.words;
  count = l.count;
  groups = l.groups;
  depth = l.depth - 1;
  front = Some b.count;
  start = (OpenedLast b).opened;
  last = last.Operand;
}

pub stood_close : (b l : Builder) → LaidDown b Close (OpenedLast b).bar l → Room b → (us : List PatternUnit) (o : ℕ) (os : List ℕ) (x : Before) → Stands b us (o ∷ os) x
    → Stands (after_close b l) (us ++ (Close ∷ [])) os operand
stood_close b l e r us o os x s =
    let P : Builder → Type 0 = λ z. Stands (after_close b z) (us ++ (Close ∷ [])) os operand in
    let room = r.room in
    let long = s.long in
    let shallow = s.shallow in
    let (gs, g, fr, d, n) = top b us x (suc (length os)) s.open_groups s.grown s.listed s.depth s.opens in
    let w = set b.words b.count e.word in
    subst P (sym e.is) (record {
      open_groups = gs;
      grown = at_more b.count (grown_close g w (writes_over b.words b.start b.count Close (firsts b.front (OpenedLast b).bar) (seconds b.front (OpenedLast b).bar) e.word ⊥ (omega arith) e.says (λ z. z)));
      listed = fr;
      depth = d;
      placed = s.placed.1;
      opens = n;
      shallow = omega arith;
      last = refl;
      long = length-set b.words b.count e.word ∙ long;
      wide = s.wide;
    })

-- a repeat sign that does not lead back, and one that does
abbrev Patches : List ℕ → ℕ → ℕ → ℕ → Type 0
Patches words q p v = (kind : Kind) (byte : ℕ) (a : Option ℕ) → Under a p → Says (get_or words q 0) kind byte a None → Says v kind byte (firsts a (Some p)) (seconds a (Some p))

writes_back : (words : List ℕ) (q p : ℕ) (m : PatternUnit) (a b : Option ℕ) (w : ℕ) (Back : Type 0) (v : ℕ) → p < length words → q < p → Back → Says w (kind_of m) (byte_of m) a b
    → Patches (set words p w) q p v → Writes words (set (set words p w) q v) q p m a b Back
writes_back words q p m a b w Back v h l y s f =
    let pq : p ≢ q = omega arith in
    let qp : q ≢ p = omega arith in
    let long : q < length (set words p w) = subst (λ z. q < z) (sym (length-set words p w)) (omega arith) in
    record {
      here = subst (λ z. Says z (kind_of m) (byte_of m) a b) (sym (get_or-set_other (set words p w) q p v 0 pq ∙ get_or-set_same words p w 0 h)) s;
      other = λ j k n. let jp : j ≢ p = omega arith in get_or-set_other (set words p w) q j v 0 (n y) ∙ get_or-set_other words p j w 0 jp;
      back = λ _ kind byte c u e.
          subst (λ z. Says z kind byte (firsts c (Some p)) (seconds c (Some p))) (sym (get_or-set_same (set words p w) q v 0 long))
          (f kind byte c u (subst (λ z. Says z kind byte c None) (sym (get_or-set_other words p q w 0 qp)) e));
    }

pub loops_of : (g : Sign) → loops_back g ≡ true → Loops g
loops_of Star e = star_loops
loops_of Plus e = plus_loops
loops_of Opt e = absurd (clash e)

pub no_loops : (g : Sign) → loops_back g ≡ false → Loops g → ⊥
no_loops Star e l = clash (sym e)
no_loops Plus e l = clash (sym e)
no_loops Opt e l = elim l [ ]

abbrev after_sign : Builder → Builder → Builder
after_sign b r = record {
  words = r.words;
  count = r.count;
  groups = r.groups;
  depth = r.depth;
  front = Some b.count;
  start = r.start;
  last = last.Sign;
}

abbrev patched : Builder → Builder → ℕ → Builder
patched b l v = record {
  words = set l.words b.start v;
  count = l.count;
  groups = l.groups;
  depth = l.depth;
  front = l.front;
  start = l.start;
  last = l.last;
}

module _ (b : Builder) (g : Sign) (room : Room b) (us : List PatternUnit) (os : List ℕ) (s : Stands b us os operand)
    (l : Builder) (e : LaidDown b (Repeat g) (skip_of g b.start) l) where
  sign_with : (words' : List ℕ) → length words' ≡ most_units + 3
      → Writes b.words words' b.start b.count (Repeat g) (firsts b.front (skip_of g b.start)) (seconds b.front (skip_of g b.start)) (Loops g)
      → Stands (record { words = words'; count = b.count + 1; groups = b.groups; depth = b.depth; front = Some b.count; start = b.start; last = last.Sign }) (us ++ (Repeat g ∷ [])) os sign
  sign_with words' long w = record {
    open_groups = s.open_groups;
    grown = at_more b.count (grown_sign s.grown g words' w);
    listed = s.listed;
    depth = s.depth;
    placed = s.placed;
    opens = s.opens;
    shallow = s.shallow;
    last = refl;
    long = long;
    wide = s.wide;
  }

  fits : b.count < length b.words
  fits = let r = room.room in let l = s.long in omega arith

  pub stood_over : (r : Builder) → r ≡ l → (Loops g → ⊥) → Stands (after_sign b r) (us ++ (Repeat g ∷ [])) os sign
  stood_over r k n =
      subst (λ z. Stands (after_sign b z) (us ++ (Repeat g ∷ [])) os sign) (sym (k ∙ e.is))
      (sign_with (set b.words b.count e.word) (length-set b.words b.count e.word ∙ s.long)
      (writes_over b.words b.start b.count (Repeat g) _ _ e.word (Loops g) fits e.says n))

  pub stood_back : (r : Builder) (v : ℕ) → r ≡ patched b l v → Loops g → Patches l.words b.start b.count v → Stands (after_sign b r) (us ++ (Repeat g ∷ [])) os sign
  stood_back r v k y p =
      subst (λ z. Stands (after_sign b z) (us ++ (Repeat g ∷ [])) os sign) (sym (k ∙ ap (λ z. patched b z v) e.is))
      (sign_with (set (set b.words b.count e.word) b.start v)
      (length-set (set b.words b.count e.word) b.start v ∙ length-set b.words b.count e.word ∙ s.long)
      (writes_back b.words b.start b.count (Repeat g) _ _ e.word (Loops g) v fits s.grown.repeats.before y e.says
      (subst (λ z. Patches z.words b.start b.count v) e.is p)))

-- a BAR
place_set : (gs : List Group) (d : ℕ) (g : Group) (k : ℕ) → d < length gs → g.place ≡ (get_or gs d blank).place → (get_or (set gs d g) k blank).place ≡ (get_or gs k blank).place
place_set gs d g k h e = elim (ℕ_discrete k d) [
  | yes s ↦ ap (λ z. (get_or (set gs d g) z blank).place) s ∙ ap (λ z. z.place) (get_or-set_same gs d g blank h) ∙ e ∙ ap (λ z. (get_or gs z blank).place) (sym s)
  | no n ↦ ap (λ z. z.place) (get_or-set_other gs d k g blank n)
]

placed_over : (gs : List Group) (os : List ℕ) (d : ℕ) (g : Group) → d < length gs → g.place ≡ (get_or gs d blank).place → PlacedAt gs os → PlacedAt (set gs d g) os
placed_over gs [] d g h e x = tt
placed_over gs (o ∷ os) d g h e (p, r) = (place_set gs d g (suc (length os)) h e ∙ p, placed_over gs os d g h e r)

abbrev barred : Builder → Builder → Group
barred b l = record { opened = (OpenedLast l).opened; bar = Some b.count; place = (OpenedLast l).place }

abbrev after_bar : Builder → Builder → Builder
after_bar b l = record {
  words = l.words;
  count = l.count;
  groups = set l.groups (l.depth - 1) (barred b l);
  depth = l.depth;
  front = Some (OpenedLast b).opened;
  start = b.count;
  last = last.Start;
}

pub stood_bar : (b l : Builder) → LaidDown b Bar (OpenedLast b).bar l → Room b → (us : List PatternUnit) (os : List ℕ) (x : Before) → Stands b us os x
    → Stands (after_bar b l) (us ++ (Bar ∷ [])) os start
stood_bar b l e r us os x s =
    let P : Builder → Type 0 = λ z. Stands (after_bar b z) (us ++ (Bar ∷ [])) os start in
    let room = r.room in
    let long = s.long in
    let wide = s.wide in
    let dep = s.depth in
    let ope = s.opens in
    let sha = s.shallow in
    let (gs, g, fr, d, n) = top b us x (length os) s.open_groups s.grown s.listed s.depth s.opens in
    let w = set b.words b.count e.word in
    let new : Group = record { opened = (OpenedLast b).opened; bar = Some b.count; place = (OpenedLast b).place } in
    let fits : b.depth - 1 < length b.groups = omega arith in
    subst P (sym e.is) (record {
      open_groups = record { opened = (OpenedLast b).opened; last = Some b.count } ∷ gs;
      grown = at_more b.count (grown_bar g w (writes_over b.words b.start b.count Bar (firsts b.front (OpenedLast b).bar) (seconds b.front (OpenedLast b).bar) e.word ⊥ (omega arith) e.says (λ z. z)));
      listed = (
        ap (λ z. open_of (get_or (set b.groups (b.depth - 1) new) z blank)) (sym d) ∙ ap open_of (get_or-set_same b.groups (b.depth - 1) new blank fits),
        listed_set b.groups gs (b.depth - 1) new (omega arith) fr,
      );
      depth = omega arith;
      placed = placed_over b.groups os (b.depth - 1) new fits refl s.placed;
      opens = omega arith;
      shallow = sha;
      last = refl;
      long = length-set b.words b.count e.word ∙ long;
      wide = length-set b.groups (b.depth - 1) new ∙ wide;
    })
