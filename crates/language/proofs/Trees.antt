-- A pattern is well formed and within the limits just if it reads to its end with no group open.
use Rattle.std.proofs.Common.{ℕ, zero, suc, ◌+◌, ◌<◌, ◌≤◌, Bool, true, false, List, [], ◌∷◌, ◌++◌, length, sym, refl, ◌∙◌, subst, append_assoc, append-nil, arith, length-append}
use Rattle.language.proofs.Parsed.{proper_tree, tree_proper}
use Rattle.language.specs.Faults.{Before, Goes, Reads, a_bar, a_close, a_letter, a_sign, an_open, more, nothing, operand, sign, start}
use Rattle.language.specs.LeftToRight.{Proper}
use Rattle.language.specs.Limits.{most_groups, most_units}
use Rattle.language.specs.Patterns.{Accepted, Sort, Tree, Written, empty, group, letter, nesting, next, none, once, only, repeated, units, ◌or◌, ◌then◌}
use Rattle.syntax.specs.Spelling.{Spells}
use Rattle.syntax.specs.declared.PatternUnit.TheVariants.{Bar, Close, Open, Plain, Repeat}
use Rattle.syntax.specs.declared.PatternUnit.{PatternUnit}

-- no group of us, which stands inside d groups, is too deep
abbrev Shallow : ℕ → List PatternUnit → Type 0
Shallow d [] = Unit {0}
Shallow d (Open ∷ us) = (d < most_groups) × Shallow (suc d) us
Shallow d (Bar ∷ us) = Shallow d us
Shallow zero (Close ∷ us) = Shallow zero us
Shallow (suc d) (Close ∷ us) = Shallow d us
Shallow d (Plain l ∷ us) = Shallow d us
Shallow d (Repeat g ∷ us) = Shallow d us

nested_shallow : {s : Sort} (t : Tree s) (d : ℕ) (r : List PatternUnit) → d + nesting t ≤ most_groups → Shallow d r → Shallow d (units t ++ r)
nested_shallow (letter l) d r h k = k
nested_shallow (group t) d r h k = (omega arith, rw (append_assoc (units t) (Close ∷ []) r) (nested_shallow t (suc d) (Close ∷ r) (omega arith) k))
nested_shallow (once a) d r h k = nested_shallow a d r h k
nested_shallow (repeated a g) d r h k = rw append_assoc (nested_shallow a d (Repeat g ∷ r) h k)
nested_shallow empty d r h k = k
nested_shallow (x then y) d r h k = rw append_assoc (nested_shallow x d (units y ++ r) (omega arith) (nested_shallow y d r (omega arith) k))
nested_shallow (only b) d r h k = nested_shallow b d r h k
nested_shallow (b or t) d r h k = rw append_assoc (nested_shallow b d (Bar ∷ (units t ++ r)) (omega arith) (nested_shallow t d r (omega arith) k))

shallow_nested : {s : Sort} (t : Tree s) (d : ℕ) (r : List PatternUnit) → d ≤ most_groups → Shallow d (units t ++ r) → (d + nesting t ≤ most_groups) × Shallow d r
shallow_nested (letter l) d r h k = (omega arith, k)
shallow_nested (group t) d r h (l, k) = let (i, j) = shallow_nested t (suc d) (Close ∷ r) l (rw (append_assoc (units t) (Close ∷ []) r) at k) in (omega arith, j)
shallow_nested (once a) d r h k = shallow_nested a d r h k
shallow_nested (repeated a g) d r h k = shallow_nested a d (Repeat g ∷ r) h (rw append_assoc at k)
shallow_nested empty d r h k = (omega arith, k)
shallow_nested (x then y) d r h k =
    let (i, j) = shallow_nested x d (units y ++ r) h (rw append_assoc at k) in
    let (m, n) = shallow_nested y d r h j in
    (omega arith, n)
shallow_nested (only b) d r h k = shallow_nested b d r h k
shallow_nested (b or t) d r h k =
    let (i, j) = shallow_nested b d (Bar ∷ (units t ++ r)) h (rw append_assoc at k) in
    let (m, n) = shallow_nested t d r h j in
    (omega arith, n)

abbrev may_repeat : Before → Bool
may_repeat start = false
may_repeat operand = true
may_repeat sign = false

-- us may stand inside d groups, after x
abbrev Fit : ℕ → Before → List PatternUnit → Type 0
Fit d x us = Proper d (may_repeat x) us × Shallow d us

goes_fit : {p : ℕ} {u : PatternUnit} {os os' : List ℕ} {x x' : Before} → Goes p u os x os' x' → (r : List PatternUnit) → Fit (length os') x' r → Fit (length os) x (u ∷ r)
goes_fit a_letter r h = h
goes_fit a_bar r h = h
goes_fit (an_open l) r (h, k) = (h, (l, k))
goes_fit a_close r h = h
goes_fit a_sign r h = h

reads_fit : {bytes : List ℕ} {us : List PatternUnit} {os : List ℕ} {x : Before} → Reads bytes us os x → (r : List PatternUnit) → Fit (length os) x r → Fit 0 start (us ++ r)
reads_fit nothing r h = h
reads_fit (more {us = us} {u = u} d l s g) r h = subst (λ z. Fit 0 start z) (sym (append_assoc us (u ∷ []) r)) (reads_fit d (u ∷ r) (goes_fit g r h))

pub reads_few : {bytes : List ℕ} {us : List PatternUnit} {os : List ℕ} {x : Before} → Reads bytes us os x → length us ≤ most_units
reads_few nothing = omega arith
reads_few (more {us = us} d l s g) = simp length-append (omega arith)

goes_shallow : {p : ℕ} {u : PatternUnit} {os os' : List ℕ} {x x' : Before} → Goes p u os x os' x' → length os ≤ most_groups → length os' ≤ most_groups
goes_shallow a_letter h = h
goes_shallow a_bar h = h
goes_shallow (an_open l) h = l
goes_shallow a_close h = omega arith
goes_shallow a_sign h = h

pub reads_shallow : {bytes : List ℕ} {us : List PatternUnit} {os : List ℕ} {x : Before} → Reads bytes us os x → length os ≤ most_groups
reads_shallow nothing = omega arith
reads_shallow (more d l s g) = goes_shallow g (reads_shallow d)

written_more : {b w : List ℕ} {us : List PatternUnit} {u : PatternUnit} → Written b us → Spells w u → Written (b ++ w) (us ++ (u ∷ []))
written_more {w} {u} none s = subst (λ z. Written z (u ∷ [])) (append-nil w) (next s none)
written_more {w} {u} (next {w = v} {rest} {u = t} {us} h k) s = subst (λ z. Written z (t ∷ (us ++ (u ∷ [])))) (sym (append_assoc v rest w)) (next h (written_more k s))

reads_written : {bytes : List ℕ} {us : List PatternUnit} {os : List ℕ} {x : Before} → Reads bytes us os x → Written bytes us
reads_written nothing = none
reads_written (more d l s g) = written_more (reads_written d) s

pub reads_accepted : {bytes : List ℕ} {us : List PatternUnit} {x : Before} → Reads bytes us [] x → Accepted bytes
reads_accepted {bytes} {us} {x} r =
    let (p, s) = subst (λ z. Fit 0 start z) (append-nil us) (reads_fit r [] (refl, tt)) in
    let (t, e) = proper_tree us p in
    let (n, z) = shallow_nested t 0 [] (omega arith) (subst (λ z. Shallow 0 z) (sym e ∙ sym (append-nil (units t))) s) in
    record {
      tree = t;
      written = subst (λ z. Written bytes z) (sym e) (reads_written r);
      limits = record { few_units = subst (λ z. length z ≤ most_units) (sym e) (reads_few r); few_groups = omega arith };
    }

fit_goes : (p : ℕ) (u : PatternUnit) (os : List ℕ) (x : Before) (r : List PatternUnit) → Fit (length os) x (u ∷ r)
    → (os' : List ℕ) × (x' : Before) × Goes p u os x os' x' × Fit (length os') x' r
fit_goes p (Plain l) os x r h = (os, operand, a_letter, h)
fit_goes p Open os x r (h, (l, k)) = (p ∷ os, start, an_open l, (h, k))
fit_goes p Bar os x r h = (os, start, a_bar, h)
fit_goes p Close [] x r h = absurd h.0
fit_goes p Close (o ∷ os) x r h = (os, operand, a_close, h)
fit_goes p (Repeat g) os start r h = absurd h.0
fit_goes p (Repeat g) os operand r h = (os, sign, a_sign, h)
fit_goes p (Repeat g) os sign r h = absurd h.0

fit_reads : {w : List ℕ} {vs : List PatternUnit} {b : List ℕ} {us : List PatternUnit} {os : List ℕ} {x : Before} → Written w vs → Reads b us os x → Fit (length os) x vs
    → length us + length vs ≤ most_units → (x' : Before) × Reads (b ++ w) (us ++ vs) [] x'
fit_reads {b} {us} {os = []} {x} none d h n = (x, subst (λ (z : List ℕ × List PatternUnit). Reads z.0 z.1 [] x) (λ i. (sym (append-nil b) i, sym (append-nil us) i)) d)
fit_reads {os = o ∷ os} none d h n = let z : ⊥ = omega arith in absurd z
fit_reads {b} {us} {os} {x} (next {w} {rest} {u} {us = vs} s k) d h n =
    let (os', x', g, i) = fit_goes (length b) u os x vs h in
    let (y, r) = fit_reads k (more d (omega arith) s g) i (simp length-append (omega arith)) in
    (y, subst (λ (z : List ℕ × List PatternUnit). Reads z.0 z.1 [] y) (λ i. (append_assoc b w rest i, append_assoc us (u ∷ []) vs i)) r)

pub accepted_reads : {bytes : List ℕ} (a : Accepted bytes) → (x : Before) × Reads bytes (units a.tree) [] x
accepted_reads a =
    let t = a.tree in
    let s = nested_shallow t 0 [] (omega arith) tt in
    fit_reads a.written nothing (tree_proper t, subst (λ z. Shallow 0 z) (append-nil (units t)) s) (omega arith)
