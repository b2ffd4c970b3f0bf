-- No position has more than two predecessors.
use Rattle.language.proofs.Option.{never, some_same}
use Rattle.language.specs.LeftToRight.{Linked, OpenGroup, Proper}
use Rattle.language.specs.Links.{LinksOf, Loops, Predecessors, SignLink, Skips, loop, onward, opt_skips, plus_loops, skip, star_loops, star_skips}
use Rattle.language.specs.Patterns.{Tree, alternatives, group, units}
use Rattle.syntax.specs.declared.PatternUnit.TheVariants.{Bar, Close, Open, Plain, Repeat}
use Rattle.syntax.specs.declared.PatternUnit.{PatternUnit}
use Rattle.syntax.specs.declared.Sign.TheVariants.{Opt, Plus, Star}
use Rattle.syntax.specs.declared.Sign.{Sign}
use Rattle.std.proofs.Common.{◌≡◌, ℕ, zero, suc, ◌<◌, ◌≤◌, Bool, true, false, ◌⊎◌, ◌↔◌, List, [], ◌∷◌, Some, None, Option, sym, refl, ap, ◌∙◌, inl, inr, arith}
use native.Mathlib.Decide.{dec_lt, ℕ_discrete}
use Rattle.language.proofs.Links.{link_linked, linked_link}
use Rattle.language.proofs.Parsed.{group_proper}
use Rattle.language.proofs.Settled.{predecessors_as}

-- at most one number, or at most two, of which G holds
abbrev One : (ℕ → Type 0) → Type 0
One G = (b : Option ℕ) × ((i : ℕ) → G i ↔ (b ≡ Some i))

abbrev Two : (ℕ → Type 0) → Type 0
Two G = (a : Option ℕ) × (b : Option ℕ) × ((i : ℕ) → G i ↔ ((a ≡ Some i) ⊎ (b ≡ Some i)))

pub same_some : {x y : ℕ} → Some x ≡ Some y → y ≡ x
same_some e = sym (some_same e)

one_none : {G : ℕ → Type 0} → ((i : ℕ) → G i → ⊥) → One G
one_none f = (None, λ i. (λ g. absurd (f i g), λ e. never e))

one_via : {G H : ℕ → Type 0} → ((i : ℕ) → G i → H i) → ((i : ℕ) → H i → G i) → One H → One G
one_via f g (b, h) = (b, λ i. (λ x. (h i).0 (f i x), λ e. g i ((h i).1 e)))

two_via : {G H : ℕ → Type 0} → ((i : ℕ) → G i → H i) → ((i : ℕ) → H i → G i) → Two H → Two G
two_via f g (a, b, h) = (a, b, λ i. (λ x. (h i).0 (f i x), λ e. g i ((h i).1 e)))

-- what a front and one more make
two_of : (fr : Option ℕ) {G H : ℕ → Type 0} → ((i : ℕ) → G i → (fr ≡ Some i) ⊎ H i) → ((i : ℕ) → (fr ≡ Some i) ⊎ H i → G i) → One H → Two G
two_of fr f g (b, h) = (
  fr,
  b,
  λ i. (
    (λ x. elim (f i x) [ inl e ↦ inl e | inr y ↦ inr ((h i).0 y) ]),
    (λ e. elim e [ inl y ↦ g i (inl y) | inr y ↦ g i (inr ((h i).1 y)) ]),
  ),
)

-- the open groups opened below B, the inner later
abbrev Chain : List OpenGroup → ℕ → Type 0
Chain [] B = Unit {0}
Chain (f ∷ gs) B = (f.opened < B) × Chain gs f.opened

pub chain_up : (gs : List OpenGroup) (B C : ℕ) → B ≤ C → Chain gs B → Chain gs C
chain_up [] B C h c = tt
chain_up (f ∷ gs) B C h (l, c) = (omega arith, c)

abbrev NotIn : ℕ → List OpenGroup → Type 0
NotIn k [] = Unit {0}
NotIn k (f ∷ gs) = (f.opened ≡ k → ⊥) × NotIn k gs

pub chain_not_in : (gs : List OpenGroup) (B k : ℕ) → B ≤ k → Chain gs B → NotIn k gs
chain_not_in [] B k h c = tt
chain_not_in (f ∷ gs) B k h (l, c) = ((λ e. omega arith), chain_not_in gs f.opened k (omega arith) c)

-- an operand is what may be repeated next
abbrev Away : Bool → ℕ → ℕ → Type 0
Away true q k = q ≡ k → ⊥
Away false q k = Unit {0}

abbrev Fits : Bool → ℕ → ℕ → Type 0
Fits true q B = q ≡ B
Fits false q B = Unit {0}

abbrev fresh : ℕ → OpenGroup
fresh p = record { opened = p; last = None }

abbrev barred : OpenGroup → ℕ → OpenGroup
barred f p = record { opened = f.opened; last = Some p }

-- a position behind that starts no open group and no operand gets no link any more
pub dead : (us : List PatternUnit) (gs : List OpenGroup) (q p k d : ℕ) (c : Bool) → Proper d c us → k < p → NotIn k gs → Away c q k → (i : ℕ) → Linked gs q p us i k → ⊥
dead [] gs q p k d c pr h n a i l = l
dead (Open ∷ us) gs q p k d c pr h n a i (inl (e, f)) = omega arith
dead (Open ∷ us) gs q p k d c pr h n a i (inr l) = dead us (fresh p ∷ gs) p (suc p) k (suc d) false pr (omega arith) ((λ e. omega arith), n) tt i l
dead (Bar ∷ us) [] q p k d c pr h n a i l = l
dead (Bar ∷ us) (f ∷ gs) q p k d c pr h n a i (inl (e, g)) = omega arith
dead (Bar ∷ us) (f ∷ gs) q p k d c pr h n a i (inr (inl (e, g))) = omega arith
dead (Bar ∷ us) (f ∷ gs) q p k d c pr h n a i (inr (inr l)) = dead us (barred f p ∷ gs) p (suc p) k d false pr (omega arith) n tt i l
dead (Close ∷ us) [] q p k d c pr h n a i l = l
dead (Close ∷ us) (f ∷ gs) q p k d c pr h n a i (inl (e, g)) = omega arith
dead (Close ∷ us) (f ∷ gs) q p k d c pr h n a i (inr (inl (e, g))) = omega arith
dead (Close ∷ us) (f ∷ gs) q p k zero c pr h n a i (inr (inr l)) = pr
dead (Close ∷ us) (f ∷ gs) q p k (suc d) c pr h n a i (inr (inr l)) = dead us gs f.opened (suc p) k d true pr (omega arith) n.1 n.0 i l
dead (Plain b ∷ us) gs q p k d c pr h n a i l = dead us gs p (suc p) k d true pr (omega arith) n (λ e. omega arith) i l
dead (Repeat g ∷ us) gs q p k d false pr h n a i l = pr
dead (Repeat g ∷ us) gs q p k d true pr h n a i (inl (onward e f)) = omega arith
dead (Repeat g ∷ us) gs q p k d true pr h n a i (inl (skip s e f)) = omega arith
dead (Repeat g ∷ us) gs q p k d true pr h n a i (inl (loop s e f)) = a (sym f)
dead (Repeat g ∷ us) gs q p k d true pr h n a i (inr l) = dead us gs q (suc p) k d false pr (omega arith) n tt i l

-- the link of a sign back to its own operand
loop_yes : (g : Sign) (q p k : ℕ) → k < p → q ≡ k → Loops g → One (λ i. SignLink g q p i k)
loop_yes g q p k h e s = (Some p, λ i. (to i, λ f. loop s (same_some f) (sym e)))
  where
    to : (i : ℕ) → SignLink g q p i k → Some p ≡ Some i
    to i (onward f l) = let z : ⊥ = omega arith in absurd z
    to i (skip t f l) = let z : ⊥ = omega arith in absurd z
    to i (loop t f l) = ap Some (sym f)

sign_loop : (g : Sign) (q p k : ℕ) → k < p → q ≡ k → One (λ i. SignLink g q p i k)
unfolding loop_yes one_none
sign_loop Star q p k h e = loop_yes Star q p k h e star_loops
sign_loop Plus q p k h e = loop_yes Plus q p k h e plus_loops
sign_loop Opt q p k h e = one_none to
  where
    to : (i : ℕ) → SignLink Opt q p i k → ⊥
    to i (onward f l) = omega arith
    to i (skip t f l) = omega arith
    to i (loop t f l) = elim t [ ]

-- the link of an operand over to its sign
skip_yes : (g : Sign) (q p k : ℕ) → k ≡ p → q < p → Skips g → One (λ i. SignLink g q p i k)
skip_yes g q p k e h s = (Some q, λ i. (to i, λ f. skip s (same_some f) e))
  where
    to : (i : ℕ) → SignLink g q p i k → Some q ≡ Some i
    to i (onward f l) = let z : ⊥ = omega arith in absurd z
    to i (skip t f l) = ap Some (sym f)
    to i (loop t f l) = let z : ⊥ = omega arith in absurd z

sign_skip : (g : Sign) (q p k : ℕ) → k ≡ p → q < p → One (λ i. SignLink g q p i k)
unfolding skip_yes one_none
sign_skip Star q p k e h = skip_yes Star q p k e h star_skips
sign_skip Opt q p k e h = skip_yes Opt q p k e h opt_skips
sign_skip Plus q p k e h = one_none to
  where
    to : (i : ℕ) → SignLink Plus q p i k → ⊥
    to i (onward f l) = omega arith
    to i (skip t f l) = elim t [ ]
    to i (loop t f l) = omega arith

-- the link of a sign to the next position
pub sign_ahead : (g : Sign) (q p k i : ℕ) → p < k → q < p → SignLink g q p i k → (i ≡ p) × (k ≡ suc p)
sign_ahead g q p k i h l (onward f m) = (f, m)
sign_ahead g q p k i h l (skip t f m) = let z : ⊥ = omega arith in absurd z
sign_ahead g q p k i h l (loop t f m) = let z : ⊥ = omega arith in absurd z

pub sign_elsewhere : (g : Sign) (q p k i : ℕ) → k < p → (q ≡ k → ⊥) → SignLink g q p i k → ⊥
sign_elsewhere g q p k i h n (onward f m) = omega arith
sign_elsewhere g q p k i h n (skip t f m) = omega arith
sign_elsewhere g q p k i h n (loop t f m) = n (sym m)

-- a position behind gets at most one more link
later : (us : List PatternUnit) (gs : List OpenGroup) (q p k d B : ℕ) (c : Bool) → Proper d c us → k < p → B ≤ p → Chain gs B → Fits c q B → One (λ i. Linked gs q p us i k)
unfolding one_none one_via sign_loop ℕ_discrete
later [] gs q p k d B c pr h le ch fi = one_none (λ i l. l)
later (Open ∷ us) gs q p k d B c pr h le ch fi =
    one_via (λ i l. elim l [ inl z ↦ let y : ⊥ = omega arith in absurd y | inr z ↦ z ]) (λ i l. inr l)
    (later us (fresh p ∷ gs) p (suc p) k (suc d) (suc p) false pr (omega arith) (omega arith) (omega arith, chain_up gs B p le ch) tt)
later (Bar ∷ us) [] q p k d B c pr h le ch fi = one_none (λ i l. l)
later (Bar ∷ us) (f ∷ gs) q p k d B c pr h le ch fi =
    one_via (λ i l. elim l [ inl z ↦ let y : ⊥ = omega arith in absurd y | inr (inl z) ↦ let y : ⊥ = omega arith in absurd y | inr (inr z) ↦ z ]) (λ i l. inr (inr l))
    (later us (barred f p ∷ gs) p (suc p) k d (suc p) false pr (omega arith) (omega arith) (omega arith, ch.1) tt)
later (Close ∷ us) [] q p k d B c pr h le ch fi = one_none (λ i l. l)
later (Close ∷ us) (f ∷ gs) q p k zero B c pr h le ch fi = absurd pr
later (Close ∷ us) (f ∷ gs) q p k (suc d) B c pr h le ch fi =
    one_via (λ i l. elim l [ inl z ↦ let y : ⊥ = omega arith in absurd y | inr (inl z) ↦ let y : ⊥ = omega arith in absurd y | inr (inr z) ↦ z ]) (λ i l. inr (inr l))
    (later us gs f.opened (suc p) k d f.opened true pr (omega arith) (omega arith) ch.1 refl)
later (Plain b ∷ us) gs q p k d B c pr h le ch fi = later us gs p (suc p) k d p true pr (omega arith) (omega arith) (chain_up gs B p le ch) refl
later (Repeat g ∷ us) gs q p k d B false pr h le ch fi = absurd pr
later (Repeat g ∷ us) gs q p k d B true pr h le ch fi =
    elim (ℕ_discrete q k) [
      | yes e ↦
          one_via (λ i l. elim l [ inl z ↦ z | inr z ↦ absurd (dead us gs q (suc p) k d false pr (omega arith) (chain_not_in gs B k (omega arith) ch) tt i z) ])
          (λ i l. inl l) (sign_loop g q p k h e)
      | no n ↦
          one_via (λ i l. elim l [ inl z ↦ absurd (sign_elsewhere g q p k i h n z) | inr z ↦ z ]) (λ i l. inr l)
          (later us gs q (suc p) k d (suc p) false pr (omega arith) (omega arith) (chain_up gs B (suc p) (omega arith) ch) tt)
    ]

abbrev Behind : Bool → ℕ → ℕ → Type 0
Behind true q p = q < p
Behind false q p = Unit {0}

-- the links to k, and one from fr if k is at p
abbrev Into : Option ℕ → List OpenGroup → ℕ → ℕ → List PatternUnit → ℕ → ℕ → Type 0
Into fr gs q p us k i = ((k ≡ p) × (fr ≡ Some i)) ⊎ Linked gs q p us i k

just_front : (fr : Option ℕ) {G : ℕ → Type 0} (k p : ℕ) → k ≡ p → ((i : ℕ) → G i → ⊥) → Two (λ i. ((k ≡ p) × (fr ≡ Some i)) ⊎ G i)
unfolding one_none two_of
just_front fr {G} k p e f =
    two_of fr (λ i x. elim x [ inl z ↦ inl z.1 | inr z ↦ absurd (f i z) ]) (λ i x. elim x [ inl z ↦ inl (e, z) | inr z ↦ inr z ]) (one_none {G = G} f)

here : (us : List PatternUnit) (gs : List OpenGroup) (q p k d B : ℕ) (c : Bool) (fr : Option ℕ) → Proper d c us → k ≡ p → B ≤ p → Chain gs B → Fits c q B → Behind c q p
    → Two (Into fr gs q p us k)
unfolding just_front later sign_skip two_of
here [] gs q p k d B c fr pr e le ch fi be = just_front fr k p e (λ i l. l)
here (Open ∷ us) gs q p k d B c fr pr e le ch fi be =
    two_of fr
    (λ i x. elim x [ inl z ↦ inl z.1 | inr (inl z) ↦ let y : ⊥ = omega arith in absurd y | inr (inr z) ↦ inr z ])
    (λ i x. elim x [ inl z ↦ inl (e, z) | inr z ↦ inr (inr z) ])
    (later us (fresh p ∷ gs) p (suc p) k (suc d) (suc p) false pr (omega arith) (omega arith) (omega arith, chain_up gs B p le ch) tt)
here (Bar ∷ us) [] q p k d B c fr pr e le ch fi be = just_front fr k p e (λ i l. l)
here (Bar ∷ us) (f ∷ gs) q p k d B c fr pr e le ch fi be =
    two_of fr {H = λ i. f.last ≡ Some i}
    (λ i x. elim x [
      | inl z ↦ inl z.1
      | inr (inl z) ↦ let y : ⊥ = omega arith in absurd y
      | inr (inr (inl z)) ↦ inr z.0
      | inr (inr (inr z)) ↦ absurd (dead us (barred f p ∷ gs) p (suc p) k d false pr (omega arith) (chain_not_in (f ∷ gs) B k (omega arith) ch) tt i z)
    ])
    (λ i x. elim x [ inl z ↦ inl (e, z) | inr z ↦ inr (inr (inl (z, e))) ])
    (f.last, λ i. (λ z. z, λ z. z))
here (Close ∷ us) [] q p k d B c fr pr e le ch fi be = just_front fr k p e (λ i l. l)
here (Close ∷ us) (f ∷ gs) q p k zero B c fr pr e le ch fi be = absurd pr
here (Close ∷ us) (f ∷ gs) q p k (suc d) B c fr pr e le ch fi be =
    two_of fr {H = λ i. f.last ≡ Some i}
    (λ i x. elim x [
      | inl z ↦ inl z.1
      | inr (inl z) ↦ inr z.0
      | inr (inr (inl z)) ↦ let y : ⊥ = omega arith in absurd y
      | inr (inr (inr z)) ↦
          let n = chain_not_in (f ∷ gs) B k (omega arith) ch in
          absurd (dead us gs f.opened (suc p) k d true pr (omega arith) n.1 n.0 i z)
    ])
    (λ i x. elim x [ inl z ↦ inl (e, z) | inr z ↦ inr (inl (z, e)) ])
    (f.last, λ i. (λ z. z, λ z. z))
here (Plain b ∷ us) gs q p k d B c fr pr e le ch fi be =
    two_of fr (λ i x. elim x [ inl z ↦ inl z.1 | inr z ↦ inr z ]) (λ i x. elim x [ inl z ↦ inl (e, z) | inr z ↦ inr z ])
    (later us gs p (suc p) k d p true pr (omega arith) (omega arith) (chain_up gs B p le ch) refl)
here (Repeat g ∷ us) gs q p k d B false fr pr e le ch fi be = absurd pr
here (Repeat g ∷ us) gs q p k d B true fr pr e le ch fi be =
    two_of fr
    (λ i x. elim x [
      | inl z ↦ inl z.1
      | inr (inl z) ↦ inr z
      | inr (inr z) ↦ absurd (dead us gs q (suc p) k d false pr (omega arith) (chain_not_in gs B k (omega arith) ch) tt i z)
    ])
    (λ i x. elim x [ inl z ↦ inl (e, z) | inr z ↦ inr (inl z) ])
    (sign_skip g q p k e be)

-- past a unit at p that links as from fr to the next position, and to no other ahead
ahead : (k p : ℕ) (fr fr' : Option ℕ) (G H : ℕ → Type 0) → p < k
    → ((i : ℕ) → G i → ((k ≡ suc p) × (fr' ≡ Some i)) ⊎ H i) → ((i : ℕ) → ((k ≡ suc p) × (fr' ≡ Some i)) ⊎ H i → G i)
    → Two (λ i. ((k ≡ suc p) × (fr' ≡ Some i)) ⊎ H i) → Two (λ i. ((k ≡ p) × (fr ≡ Some i)) ⊎ G i)
unfolding two_via
ahead k p fr fr' G H l f g x =
    two_via (λ i y. elim y [ inl z ↦ let v : ⊥ = omega arith in absurd v | inr z ↦ f i z ]) (λ i y. inr (g i y)) x

front : (us : List PatternUnit) (gs : List OpenGroup) (q p k d B : ℕ) (c : Bool) (fr : Option ℕ) → Proper d c us → p ≤ k → B ≤ p → Chain gs B → Fits c q B → Behind c q p
    → Two (Into fr gs q p us k)
unfolding ahead dec_lt here
front [] gs q p k d B c fr pr h le ch fi be =
    elim (dec_lt p k) [
      | yes l ↦ (None, None, λ i. (λ x. elim x [ inl z ↦ let v : ⊥ = omega arith in absurd v | inr z ↦ absurd z ], λ x. elim x [ inl z ↦ never z | inr z ↦ never z ]))
      | no l ↦ here [] gs q p k d B c fr pr (omega arith) le ch fi be
    ]
front (Open ∷ us) gs q p k d B c fr pr h le ch fi be =
    elim (dec_lt p k) [
      | yes l ↦
          ahead k p fr (Some p) (λ i. Linked gs q p (Open ∷ us) i k) (λ i. Linked (fresh p ∷ gs) p (suc p) us i k) l
          (λ i x. elim x [ inl z ↦ inl (z.1, ap Some (sym z.0)) | inr z ↦ inr z ])
          (λ i x. elim x [ inl z ↦ inl (same_some z.1, z.0) | inr z ↦ inr z ])
          (front us (fresh p ∷ gs) p (suc p) k (suc d) (suc p) false (Some p) pr l (omega arith) (omega arith, chain_up gs B p le ch) tt tt)
      | no l ↦ here (Open ∷ us) gs q p k d B c fr pr (omega arith) le ch fi be
    ]
front (Bar ∷ us) [] q p k d B c fr pr h le ch fi be =
    elim (dec_lt p k) [
      | yes l ↦ (None, None, λ i. (λ x. elim x [ inl z ↦ let v : ⊥ = omega arith in absurd v | inr z ↦ absurd z ], λ x. elim x [ inl z ↦ never z | inr z ↦ never z ]))
      | no l ↦ here (Bar ∷ us) [] q p k d B c fr pr (omega arith) le ch fi be
    ]
front (Bar ∷ us) (f ∷ gs) q p k d B c fr pr h le ch fi be =
    elim (dec_lt p k) [
      | yes l ↦
          ahead k p fr (Some f.opened) (λ i. Linked (f ∷ gs) q p (Bar ∷ us) i k) (λ i. Linked (barred f p ∷ gs) p (suc p) us i k) l
          (λ i x. elim x [ inl z ↦ inl (z.1, ap Some (sym z.0)) | inr (inl z) ↦ let v : ⊥ = omega arith in absurd v | inr (inr z) ↦ inr z ])
          (λ i x. elim x [ inl z ↦ inl (same_some z.1, z.0) | inr z ↦ inr (inr z) ])
          (front us (barred f p ∷ gs) p (suc p) k d (suc p) false (Some f.opened) pr l (omega arith) (omega arith, ch.1) tt tt)
      | no l ↦ here (Bar ∷ us) (f ∷ gs) q p k d B c fr pr (omega arith) le ch fi be
    ]
front (Close ∷ us) [] q p k d B c fr pr h le ch fi be =
    elim (dec_lt p k) [
      | yes l ↦ (None, None, λ i. (λ x. elim x [ inl z ↦ let v : ⊥ = omega arith in absurd v | inr z ↦ absurd z ], λ x. elim x [ inl z ↦ never z | inr z ↦ never z ]))
      | no l ↦ here (Close ∷ us) [] q p k d B c fr pr (omega arith) le ch fi be
    ]
front (Close ∷ us) (f ∷ gs) q p k zero B c fr pr h le ch fi be = absurd pr
front (Close ∷ us) (f ∷ gs) q p k (suc d) B c fr pr h le ch fi be =
    elim (dec_lt p k) [
      | yes l ↦
          ahead k p fr (Some p) (λ i. Linked (f ∷ gs) q p (Close ∷ us) i k) (λ i. Linked gs f.opened (suc p) us i k) l
          (λ i x. elim x [ inl z ↦ let v : ⊥ = omega arith in absurd v | inr (inl z) ↦ inl (z.1, ap Some (sym z.0)) | inr (inr z) ↦ inr z ])
          (λ i x. elim x [ inl z ↦ inr (inl (same_some z.1, z.0)) | inr z ↦ inr (inr z) ])
          (front us gs f.opened (suc p) k d f.opened true (Some p) pr l (omega arith) ch.1 refl (omega arith))
      | no l ↦ here (Close ∷ us) (f ∷ gs) q p k (suc d) B c fr pr (omega arith) le ch fi be
    ]
front (Plain b ∷ us) gs q p k d B c fr pr h le ch fi be =
    elim (dec_lt p k) [
      | yes l ↦
          ahead k p fr None (λ i. Linked gs p (suc p) us i k) (λ i. Linked gs p (suc p) us i k) l (λ i x. inr x)
          (λ i x. elim x [ inl z ↦ never z.1 | inr z ↦ z ])
          (front us gs p (suc p) k d p true None pr l (omega arith) (chain_up gs B p le ch) refl (omega arith))
      | no l ↦ here (Plain b ∷ us) gs q p k d B c fr pr (omega arith) le ch fi be
    ]
front (Repeat g ∷ us) gs q p k d B false fr pr h le ch fi be = absurd pr
front (Repeat g ∷ us) gs q p k d B true fr pr h le ch fi be =
    elim (dec_lt p k) [
      | yes l ↦
          ahead k p fr (Some p) (λ i. Linked gs q p (Repeat g ∷ us) i k) (λ i. Linked gs q (suc p) us i k) l
          (λ i x. elim x [ inl z ↦ let v = sign_ahead g q p k i l be z in inl (v.1, ap Some (sym v.0)) | inr z ↦ inr z ])
          (λ i x. elim x [ inl z ↦ inl (onward (same_some z.1) z.0) | inr z ↦ inr z ])
          (front us gs q (suc p) k d (suc p) false (Some p) pr l (omega arith) (chain_up gs B (suc p) (omega arith) ch) tt tt)
      | no l ↦ here (Repeat g ∷ us) gs q p k d B true fr pr (omega arith) le ch fi be
    ]

-- in order
sorted : (link : ℕ → ℕ → Type 0) (k : ℕ) → Two (λ i. link i k) → (a : Option ℕ) × (b : Option ℕ) × Predecessors link k a b
unfolding dec_lt
sorted link k (None, None, h) = (None, None, record { all = h; rising = λ i j e f. never e; only_first = λ e. e })
sorted link k (Some x, None, h) = (Some x, None, record { all = h; rising = λ i j e f. never f; only_first = λ e. refl })
sorted link k (None, Some y, h) = (
  Some y,
  None,
  record {
    all = λ i. (λ l. elim ((h i).0 l) [ inl e ↦ inr e | inr e ↦ inl e ], λ e. (h i).1 (elim e [ inl f ↦ inr f | inr f ↦ inl f ]));
    rising = λ i j e f. never f;
    only_first = λ e. refl;
  },
)
sorted link k (Some x, Some y, h) =
    elim (dec_lt x y) [
      | yes l ↦ (Some x, Some y, record { all = h; rising = λ i j e f. let u = same_some e in let v = same_some f in omega arith; only_first = λ e. never (sym e) })
      | no n ↦ elim (dec_lt y x) [
        | yes l ↦ (
          Some y,
          Some x,
          record {
            all = λ i. (λ z. elim ((h i).0 z) [ inl e ↦ inr e | inr e ↦ inl e ], λ e. (h i).1 (elim e [ inl f ↦ inr f | inr f ↦ inl f ]));
            rising = λ i j e f. let u = same_some e in let v = same_some f in omega arith;
            only_first = λ e. never (sym e);
          },
        )
        | no m ↦
            let same : x ≡ y = omega arith in (
              Some x,
              None,
              record {
                all = λ i. (λ z. elim ((h i).0 z) [ inl e ↦ inl e | inr e ↦ inl (ap Some same ∙ e) ], λ e. (h i).1 (elim e [ inl f ↦ inl f | inr f ↦ never f ]));
                rising = λ i j e f. never f;
                only_first = λ e. refl;
              },
            )
      ]
    ]

-- the predecessors of a position, found from the units
unfoldable pub two_predecessors : (us : List PatternUnit) → Proper 0 false us → (k : ℕ) → (a : Option ℕ) × (b : Option ℕ) × Predecessors (Linked [] 0 0 us) k a b
unfolding front sorted two_via
two_predecessors us pr k =
    sorted (Linked [] 0 0 us) k
    (two_via (λ i l. inr l) (λ i x. elim x [ inl z ↦ never z.1 | inr z ↦ z ]) (front us [] 0 0 k 0 0 false None pr (omega arith) (omega arith) tt tt tt))

pub at_most_two : (t : Tree alternatives) (k : ℕ) → (a : Option ℕ) × (b : Option ℕ) × Predecessors (LinksOf t) k a b
at_most_two t k =
    let (a, b, p) = two_predecessors (units (group t)) (group_proper t) k in
    (a, b, predecessors_as (Linked [] 0 0 (units (group t))) (LinksOf t) (linked_link t) (link_linked t) k a b p)
