-- A tree's units tell the tree.
use Rattle.language.proofs.Option.{clash}
use Rattle.language.specs.Links.{size}
use Rattle.language.specs.Patterns.{Sort, Tree, alternatives, atom, branch, empty, group, letter, once, only, piece, repeated, units, ◌or◌, ◌then◌}
use Rattle.syntax.specs.declared.PatternUnit.TheVariants.{Bar, Close, Open, Plain, Repeat}
use Rattle.syntax.specs.declared.PatternUnit.{PatternUnit}
use Rattle.std.proofs.Common.{◌≡◌, List, [], ◌∷◌, ◌++◌, length, sym, refl, ap, ◌∙◌, subst, ap₂, append_assoc, append-nil, arith, length-append}

pub size_of_units : {s : Sort} (t : Tree s) → length (units t) ≡ size t
size_of_units (letter b) = refl
size_of_units (group t) = let h = size_of_units t in simp length-append (omega arith)
size_of_units (once a) = size_of_units a
size_of_units (repeated a g) = let h = size_of_units a in simp length-append (omega arith)
size_of_units empty = refl
size_of_units (x then y) = let h = size_of_units x in let k = size_of_units y in simp length-append (omega arith)
size_of_units (only b) = size_of_units b
size_of_units (b or t) = let h = size_of_units b in let k = size_of_units t in simp length-append (omega arith)

-- what a mark says of the marks before it
abbrev Signs : PatternUnit → Type 0
Signs Open = ⊥
Signs Bar = ⊥
Signs Close = ⊥
Signs (Plain b) = ⊥
Signs (Repeat g) = Unit {0}

abbrev Ends : PatternUnit → Type 0
Ends Open = ⊥
Ends Bar = Unit {0}
Ends Close = Unit {0}
Ends (Plain b) = ⊥
Ends (Repeat g) = ⊥

abbrev Shuts : PatternUnit → Type 0
Shuts Open = ⊥
Shuts Bar = ⊥
Shuts Close = Unit {0}
Shuts (Plain b) = ⊥
Shuts (Repeat g) = ⊥

abbrev Head : (PatternUnit → Type 0) → List PatternUnit → Type 0
Head P [] = Unit {0}
Head P (m ∷ r) = P m

-- what may stand after a tree of each sort
abbrev Follows : Sort → List PatternUnit → Type 0
Follows atom r = Unit {0}
Follows piece r = Head (λ m. Signs m → ⊥) r
Follows branch r = Head Ends r
Follows alternatives r = Head Shuts r

shuts_ends : (r : List PatternUnit) → Head Shuts r → Head Ends r
shuts_ends [] h = tt
shuts_ends (Open ∷ r) h = h
shuts_ends (Bar ∷ r) h = tt
shuts_ends (Close ∷ r) h = tt
shuts_ends (Plain b ∷ r) h = h
shuts_ends (Repeat g ∷ r) h = h

ends_not_sign : (r : List PatternUnit) → Head Ends r → Follows piece r
ends_not_sign [] h = tt
ends_not_sign (Open ∷ r) h = absurd h
ends_not_sign (Bar ∷ r) h = λ z. z
ends_not_sign (Close ∷ r) h = λ z. z
ends_not_sign (Plain b ∷ r) h = absurd h
ends_not_sign (Repeat g ∷ r) h = absurd h

atom_not_sign : (a : Tree atom) (r : List PatternUnit) → Follows piece (units a ++ r)
atom_not_sign (letter b) r = λ z. z
atom_not_sign (group t) r = λ z. z

atom_not_end : (a : Tree atom) (r : List PatternUnit) → Head Ends (units a ++ r) → ⊥
atom_not_end (letter b) r h = h
atom_not_end (group t) r h = h

piece_not_sign : (x : Tree piece) (r : List PatternUnit) → Follows piece (units x ++ r)
piece_not_sign (once a) r = atom_not_sign a r
piece_not_sign (repeated a g) r = rw append_assoc (atom_not_sign a (Repeat g ∷ r))

piece_not_end : (x : Tree piece) (r : List PatternUnit) → Head Ends (units x ++ r) → ⊥
piece_not_end (once a) r h = atom_not_end a r h
piece_not_end (repeated a g) r h = atom_not_end a (Repeat g ∷ r) (rw append_assoc at h)

branch_not_sign : (y : Tree branch) (r : List PatternUnit) → Head Ends r → Follows piece (units y ++ r)
branch_not_sign empty r h = ends_not_sign r h
branch_not_sign (x then y) r h = rw append_assoc (piece_not_sign x (units y ++ r))

pub same : {s : Sort} (t t' : Tree s) (r r' : List PatternUnit) → Follows s r → Follows s r' → units t ++ r ≡ units t' ++ r' → (t ≡ t') × (r ≡ r')
same (letter b) (letter b') r r' f f' e = let h : b ≡ b' = cc in (ap letter h, (cc))
same (letter b) (group t) r r' f f' e = clash (cc)
same (group t) (letter b) r r' f f' e = clash (cc)
same (group t) (group t') r r' f f' e =
    let inner : (units t ++ (Close ∷ [])) ++ r ≡ (units t' ++ (Close ∷ [])) ++ r' = cc in
    let (h, k) = same t t' (Close ∷ r) (Close ∷ r') tt tt (sym (append_assoc (units t) (Close ∷ []) r) ∙ inner ∙ append_assoc (units t') (Close ∷ []) r') in
    (ap group h, (cc))
same (once a) (once a') r r' f f' e = let (h, k) = same a a' r r' tt tt e in (ap once h, k)
same (once a) (repeated a' g) r r' f f' e =
    let (h, k) = same a a' r (Repeat g ∷ r') tt tt (e ∙ append_assoc (units a') (Repeat g ∷ []) r') in
    absurd (subst (λ z. Follows piece z) k f tt)
same (repeated a g) (once a') r r' f f' e =
    let (h, k) = same a a' (Repeat g ∷ r) r' tt tt (sym (append_assoc (units a) (Repeat g ∷ []) r) ∙ e) in
    absurd (subst (λ z. Follows piece z) (sym k) f' tt)
same (repeated a g) (repeated a' g') r r' f f' e =
    let (h, k) = same a a' (Repeat g ∷ r) (Repeat g' ∷ r') tt tt (sym (append_assoc (units a) (Repeat g ∷ []) r) ∙ e ∙ append_assoc (units a') (Repeat g' ∷ []) r') in
    let i : g ≡ g' = cc in
    (ap₂ repeated h i, (cc))
same empty empty r r' f f' e = (refl, e)
same empty (x then y) r r' f f' e = absurd (piece_not_end x (units y ++ r') (subst (λ z. Head Ends z) (e ∙ append_assoc (units x) (units y) r') f))
same (x then y) empty r r' f f' e = absurd (piece_not_end x (units y ++ r) (subst (λ z. Head Ends z) (sym e ∙ append_assoc (units x) (units y) r) f'))
same (x then y) (x' then y') r r' f f' e =
    let (h, k) = same x x' (units y ++ r) (units y' ++ r') (branch_not_sign y r f) (branch_not_sign y' r' f') (sym (append_assoc (units x) (units y) r) ∙ e ∙ append_assoc (units x') (units y') r') in
    let (i, j) = same y y' r r' f f' k in
    (ap₂ ◌then◌ h i, j)
same (only b) (only b') r r' f f' e = let (h, k) = same b b' r r' (shuts_ends r f) (shuts_ends r' f') e in (ap only h, k)
same (only b) (b' or t) r r' f f' e =
    let (h, k) = same b b' r (Bar ∷ (units t ++ r')) (shuts_ends r f) tt (e ∙ append_assoc (units b') (Bar ∷ units t) r') in
    absurd (subst (λ z. Head Shuts z) k f)
same (b or t) (only b') r r' f f' e =
    let (h, k) = same b b' (Bar ∷ (units t ++ r)) r' tt (shuts_ends r' f') (sym (append_assoc (units b) (Bar ∷ units t) r) ∙ e) in
    absurd (subst (λ z. Head Shuts z) (sym k) f')
same (b or t) (b' or t') r r' f f' e =
    let (h, k) = same b b' (Bar ∷ (units t ++ r)) (Bar ∷ (units t' ++ r')) tt tt (sym (append_assoc (units b) (Bar ∷ units t) r) ∙ e ∙ append_assoc (units b') (Bar ∷ units t') r') in
    let l : units t ++ r ≡ units t' ++ r' = cc in
    let (i, j) = same t t' r r' f f' l in
    (ap₂ ◌or◌ h i, j)

pub units_injective : (t t' : Tree alternatives) → units t ≡ units t' → t ≡ t'
units_injective t t' e = (same t t' [] [] tt tt (append-nil (units t) ∙ e ∙ sym (append-nil (units t')))).0
