-- A list of units has a tree just if it reads to its end.
use Rattle.language.specs.LeftToRight.{Proper}
use Rattle.language.specs.Patterns.{Sort, Tree, alternatives, atom, branch, empty, group, letter, once, only, piece, repeated, units, ◌or◌, ◌then◌}
use Rattle.syntax.specs.declared.PatternUnit.TheVariants.{Bar, Close, Open, Plain, Repeat}
use Rattle.syntax.specs.declared.PatternUnit.{PatternUnit}
use Rattle.syntax.specs.declared.Sign.{Sign}
use Rattle.std.proofs.Common.{◌≡◌, ℕ, zero, suc, Bool, true, false, List, [], ◌∷◌, ◌++◌, Some, None, Option, sym, refl, ap, ◌∙◌, subst, append_assoc, append-nil, arith}

abbrev Both : ℕ → List PatternUnit → Type 0
Both d r = Proper d true r × Proper d false r

-- what is needed after a tree of each sort
abbrev Then : Sort → ℕ → List PatternUnit → Type 0
Then atom d r = Proper d true r
Then piece d r = Both d r
Then branch d r = Both d r
Then alternatives d r = Both d r

read : {s : Sort} (t : Tree s) (d : ℕ) (r : List PatternUnit) → Then s d r → Both d (units t ++ r)
read (letter b) d r h = (h, h)
read (group t) d r h =
    let inner = (read t (suc d) (Close ∷ r) (h, h)).1 in
    let whole : Proper (suc d) false ((units t ++ (Close ∷ [])) ++ r) = subst (λ z. Proper (suc d) false z) (sym (append_assoc (units t) (Close ∷ []) r)) inner in
    (whole, whole)
read (once a) d r h = read a d r h.0
read (repeated a g) d r h =
    subst (λ z. Both d z) (sym (append_assoc (units a) (Repeat g ∷ []) r)) (read a d (Repeat g ∷ r) h.1)
read empty d r h = h
read (x then y) d r h = subst (λ z. Both d z) (sym (append_assoc (units x) (units y) r)) (read x d (units y ++ r) (read y d r h))
read (only b) d r h = read b d r h
read (b or t) d r h =
    let rest = read t d r h in
    subst (λ z. Both d z) (sym (append_assoc (units b) (Bar ∷ units t) r)) (read b d (Bar ∷ (units t ++ r)) (rest.1, rest.1))

pub tree_proper : (t : Tree alternatives) → Proper 0 false (units t)
tree_proper t = subst (λ z. Proper 0 false z) (append-nil (units t)) (read t 0 [] (refl, refl)).1

pub group_proper : (t : Tree alternatives) → Proper 0 false (units (group t))
group_proper t = subst (λ z. Proper 0 false z) (append-nil (units (group t))) (read (group t) 0 [] refl).1

-- the rest of a pattern inside d groups: the rest of each, with the sign after it
data Tail : ℕ → Type 0 where
  last : Tree alternatives → Tail 0
  more : {d : ℕ} → Tree alternatives → Option Sign → Tail d → Tail (suc d)

abbrev sign : Option Sign → List PatternUnit
sign None = []
sign (Some g) = Repeat g ∷ []

abbrev tail_units : {d : ℕ} → Tail d → List PatternUnit
tail_units (last t) = units t
tail_units (more t s r) = units t ++ (Close ∷ (sign s ++ tail_units r))

signed : Tree atom → Option Sign → Tree piece
signed a None = once a
signed a (Some g) = repeated a g

signed_units : (a : Tree atom) (s : Option Sign) → units (signed a s) ≡ units a ++ sign s
unfolding signed
signed_units a None = sym (append-nil (units a))
signed_units a (Some g) = refl

before : Tree piece → Tree alternatives → Tree alternatives
before x (only b) = only (x then b)
before x (b or t) = (x then b) or t

before_units : (x : Tree piece) (t : Tree alternatives) → units (before x t) ≡ units x ++ units t
unfolding before
before_units x (only b) = refl
before_units x (b or t) = append_assoc (units x) (units b) (Bar ∷ units t)

tail_before : {d : ℕ} → Tree piece → Tail d → Tail d
tail_before x (last t) = last (before x t)
tail_before x (more t s r) = more (before x t) s r

tail_before_units : {d : ℕ} (x : Tree piece) (r : Tail d) → tail_units (tail_before x r) ≡ units x ++ tail_units r
unfolding tail_before
tail_before_units x (last t) = before_units x t
tail_before_units x (more t s r) =
    ap (λ z. z ++ (Close ∷ (sign s ++ tail_units r))) (before_units x t) ∙ append_assoc (units x) (units t) (Close ∷ (sign s ++ tail_units r))

tail_bar : {d : ℕ} → Tail d → Tail d
tail_bar (last t) = last (empty or t)
tail_bar (more t s r) = more (empty or t) s r

tail_bar_units : {d : ℕ} (r : Tail d) → tail_units (tail_bar r) ≡ Bar ∷ tail_units r
unfolding tail_bar
tail_bar_units (last t) = refl
tail_bar_units (more t s r) = refl

-- an atom, its sign, and what follows
tail_atom : {d : ℕ} (a : Tree atom) (s : Option Sign) (r : Tail d) → units a ++ (sign s ++ tail_units r) ≡ tail_units (tail_before (signed a s) r)
tail_atom a s r =
    sym (append_assoc (units a) (sign s) (tail_units r)) ∙ ap (λ z. z ++ tail_units r) (sym (signed_units a s)) ∙ sym (tail_before_units (signed a s) r)

abbrev Parsed : ℕ → Bool → List PatternUnit → Type 0
Parsed d true us = (s : Option Sign) × (r : Tail d) × (us ≡ sign s ++ tail_units r)
Parsed d false us = (r : Tail d) × (us ≡ tail_units r)

as_either : (d : ℕ) (c : Bool) (us : List PatternUnit) → Parsed d false us → Parsed d c us
as_either d true us (r, e) = (None, r, e)
as_either d false us h = h

atom_parsed : (d : ℕ) (a : Tree atom) (us : List PatternUnit) → Parsed d true us → Parsed d false (units a ++ us)
atom_parsed d a us (s, r, e) = (tail_before (signed a s) r, ap (λ z. units a ++ z) e ∙ tail_atom a s r)

group_parsed : (d : ℕ) (us : List PatternUnit) → Parsed (suc d) false us → Parsed d false (Open ∷ us)
group_parsed d us (more t s r, e) =
    (tail_before (signed (group t) s) r, ap (λ z. Open ∷ z) (e ∙ sym (append_assoc (units t) (Close ∷ []) (sign s ++ tail_units r))) ∙ tail_atom (group t) s r)

bar_parsed : (d : ℕ) (us : List PatternUnit) → Parsed d false us → Parsed d false (Bar ∷ us)
bar_parsed d us (r, e) = (tail_bar r, ap (λ z. Bar ∷ z) e ∙ sym (tail_bar_units r))

close_parsed : (d : ℕ) (us : List PatternUnit) → Parsed d true us → Parsed (suc d) false (Close ∷ us)
close_parsed d us (s, r, e) = (more (only empty) s r, ap (λ z. Close ∷ z) e)

repeat_parsed : (d : ℕ) (g : Sign) (us : List PatternUnit) → Parsed d false us → Parsed d true (Repeat g ∷ us)
repeat_parsed d g us (r, e) = (Some g, r, ap (λ z. Repeat g ∷ z) e)

end_parsed : (d : ℕ) → d ≡ 0 → Parsed d false []
end_parsed zero e = (last (only empty), refl)
end_parsed (suc d) e = let z : ⊥ = omega arith in absurd z

parsed : (d : ℕ) (c : Bool) (us : List PatternUnit) → Proper d c us → Parsed d c us
parsed d c [] h = as_either d c [] (end_parsed d h)
parsed d c (Open ∷ us) h = as_either d c (Open ∷ us) (group_parsed d us (parsed (suc d) false us h))
parsed d c (Bar ∷ us) h = as_either d c (Bar ∷ us) (bar_parsed d us (parsed d false us h))
parsed zero c (Close ∷ us) h = absurd h
parsed (suc d) c (Close ∷ us) h = as_either (suc d) c (Close ∷ us) (close_parsed d us (parsed d true us h))
parsed d c (Plain b ∷ us) h = as_either d c (Plain b ∷ us) (atom_parsed d (letter b) us (parsed d true us h))
parsed d true (Repeat g ∷ us) h = repeat_parsed d g us (parsed d false us h)
parsed d false (Repeat g ∷ us) h = absurd h

whole : (us : List PatternUnit) → Parsed 0 false us → (t : Tree alternatives) × (units t ≡ us)
whole us (last t, e) = (t, sym e)

pub proper_tree : (us : List PatternUnit) → Proper 0 false us → (t : Tree alternatives) × (units t ≡ us)
proper_tree us h = whole us (parsed 0 false us h)
