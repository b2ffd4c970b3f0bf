-- A table grows by each kind of unit.
use Rattle.language.proofs.Option.{never, some_same}
use Rattle.language.specs.Faults.{Before, operand, sign, start}
use Rattle.language.specs.LeftToRight.{Linked, OpenGroup}
use Rattle.language.specs.Links.{Loops, SignLink, Skips, loop, onward, opt_skips, plus_loops, skip, star_loops, star_skips}
use Rattle.rule.specs.Growing.{Apart, ApartLast, Grown, Inside, Nested, Single, Sofar}
use Rattle.rule.specs.Standing.{skip_of}
use Rattle.rule.specs.Words.{Under, firsts, seconds}
use Rattle.syntax.specs.declared.Letter.{Letter}
use Rattle.syntax.specs.declared.PatternUnit.TheVariants.{Bar, Close, Open, Plain, Repeat}
use Rattle.syntax.specs.declared.PatternUnit.{PatternUnit}
use Rattle.syntax.specs.declared.Sign.TheVariants.{Opt, Plus, Star}
use Rattle.syntax.specs.declared.Sign.{Sign}
use Rattle.std.proofs.Common.{◌≡◌, ℕ, suc, ◌<◌, ◌≤◌, ◌⊎◌, ◌↔◌, List, [], ◌∷◌, ◌++◌, Some, None, Option, sym, refl, ap, ◌∙◌, inl, inr, arith}
use Rattle.rule.proofs.Grow.{keep}
use Rattle.rule.proofs.Step.{Adds, Writes, sum, count', splits', low', ahead', single', laid'}

under_up : (a : Option ℕ) (p : ℕ) → Under a p → Under a (suc p)
under_up None p u = tt
under_up (Some i) p u = omega arith

-- the open groups hold on
module _ {us : List PatternUnit} {words : List ℕ} {gs : List OpenGroup} {q p : ℕ} {front : Option ℕ} {b : Before} (g : Grown us words gs q p front b)
    {m : PatternUnit} {own ahead : Option ℕ} {Back : Type 0} (a : Adds gs q p m own ahead Back) where
  nested_kept : (hs : List OpenGroup) (B : ℕ) → B ≤ p → (Back → B ≤ q) → Nested us hs B p → Nested (us ++ (m ∷ [])) hs B (suc p)
  nested_kept [] B h n x = tt
  nested_kept (f ∷ hs) B h n (l, u, s, r) = (
    l,
    under_up f.last p u,
    single' g a f.opened (omega arith) (λ y e. let k = n y in omega arith) s,
    nested_kept hs f.opened (omega arith) (λ y. let k = n y in omega arith) r,
  )

  single_here : own ≡ None → Single (us ++ (m ∷ [])) p
  single_here e = (
    front,
    keep (Sofar us) (λ i k. Linked gs q p (m ∷ []) i k) (Sofar (us ++ (m ∷ []))) (sum g a) p front None g.ahead (λ i x. never (sym e ∙ (a.into_p i).0 x)),
  )

nested_up : (us : List PatternUnit) (gs : List OpenGroup) (B C p : ℕ) → B ≤ C → Nested us gs B p → Nested us gs C p
nested_up us [] B C p h x = tt
nested_up us (f ∷ gs) B C p h (l, u, s, r) = (omega arith, u, s, r)

nested_in : (us : List PatternUnit) (gs : List OpenGroup) (B q p : ℕ) → Inside gs q → Nested us gs B p → Nested us gs q p
nested_in us [] B q p i x = tt
nested_in us (f ∷ gs) B q p i (l, u, s, r) = (i, u, s, r)

inside : (us : List PatternUnit) (gs : List OpenGroup) (B p : ℕ) → Nested us gs B p → Inside gs B
inside us [] B p x = tt
inside us (f ∷ gs) B p (l, u, s, r) = l

apart_none : (gs : List OpenGroup) → ApartLast None gs
apart_none [] = tt
apart_none (f ∷ gs) = λ i e _. never e

under_not : (a : Option ℕ) (p : ℕ) → Under a p → Apart (Some p) a
under_not None p u i e f = never f
under_not (Some x) p u i e f = let h = some_same e in let k = some_same f in omega arith

apart_p : (us : List PatternUnit) (gs : List OpenGroup) (B p : ℕ) → Nested us gs B p → ApartLast (Some p) gs
apart_p us [] B p x = tt
apart_p us (f ∷ gs) B p (l, u, s, r) = under_not f.last p u

some_apart : (x y : ℕ) → (x ≡ y → ⊥) → Apart (Some x) (Some y)
some_apart x y n i e f = n (some_same e ∙ sym (some_same f))

no_link : (i : ℕ) → ⊥ ↔ (None ≡ Some i)
no_link i = (λ x. absurd x, λ e. never e)

adds_letter : (gs : List OpenGroup) (q p : ℕ) (l : Letter) → Adds gs q p (Plain l) None None ⊥
adds_letter gs q p l = record {
  into_p = no_link;
  into_next = no_link;
  into_back = λ i j h x. absurd x;
  back_in = λ x. absurd x;
  bounds = λ i k x. absurd x;
  decided = inr (λ x. x);
}

next_letter : (gs : List OpenGroup) (q p : ℕ) (l : Letter) (rest : List PatternUnit) (i k : ℕ)
    → Linked gs q p (Plain l ∷ rest) i k ↔ (Linked gs q p (Plain l ∷ []) i k ⊎ Linked gs p (suc p) rest i k)
next_letter gs q p l rest i k = (λ x. inr x, λ x. elim x [ inl y ↦ absurd y | inr y ↦ y ])

pub grown_letter : {us : List PatternUnit} {words : List ℕ} {gs : List OpenGroup} {q p : ℕ} {front : Option ℕ} {b : Before} → Grown us words gs q p front b
    → (l : Letter) (words' : List ℕ) → Writes words words' q p (Plain l) (firsts front None) (seconds front None) ⊥
    → Grown (us ++ (Plain l ∷ [])) words' gs p (suc p) None operand
grown_letter {us} {words} {gs} {q} {p} {front} {b} g l words' w =
    let a = adds_letter gs q p l in
    record {
      count = count' g a;
      splits = splits' g a gs p (next_letter gs q p l);
      low = low' g a;
      laid = laid' g a words' w (λ i _ e. never e) (λ x. absurd x);
      ahead = ahead' g a;
      nested = nested_up (us ++ (Plain l ∷ [])) gs p (suc p) (suc p) (omega arith) (nested_kept g a gs p (omega arith) (λ x. absurd x) g.nested);
      apart = apart_none gs;
      repeats = record {
        before = omega arith;
        single = single_here g a refl;
        apart = λ i e _. never e;
        inside = inside us gs p p g.nested;
      };
    }

-- an OPEN
one_link : (x y i k : ℕ) → ((i ≡ x) × (k ≡ y)) ⊎ ⊥ → (i ≡ x) × (k ≡ y)
one_link x y i k (inl e) = e
one_link x y i k (inr z) = absurd z

adds_open : (gs : List OpenGroup) (q p : ℕ) → Adds gs q p Open None (Some p) ⊥
adds_open gs q p = record {
  into_p = λ i. ((λ x. let e = one_link p (suc p) i p x in let z : ⊥ = omega arith in absurd z), (λ e. never e));
  into_next = λ i. ((λ x. ap Some (sym (one_link p (suc p) i (suc p) x).0)), (λ e. inl (sym (some_same e), refl)));
  into_back = λ i j h x. let e = one_link p (suc p) i j x in let z : ⊥ = omega arith in absurd z;
  back_in = λ x. absurd x;
  bounds = λ i k x. let e = one_link p (suc p) i k x in (omega arith, omega arith);
  decided = inr (λ x. x);
}

next_open : (gs : List OpenGroup) (q p : ℕ) (rest : List PatternUnit) (i k : ℕ)
    → Linked gs q p (Open ∷ rest) i k ↔ (Linked gs q p (Open ∷ []) i k ⊎ Linked (record { opened = p; last = None } ∷ gs) p (suc p) rest i k)
next_open gs q p rest i k = (
  (λ x. elim x [ inl y ↦ inl (inl y) | inr y ↦ inr y ]),
  (λ x. elim x [ inl y ↦ inl (one_link p (suc p) i k y) | inr y ↦ inr y ]),
)

pub grown_open : {us : List PatternUnit} {words : List ℕ} {gs : List OpenGroup} {q p : ℕ} {front : Option ℕ} {b : Before} → Grown us words gs q p front b
    → (words' : List ℕ) → Writes words words' q p Open (firsts front None) (seconds front None) ⊥
    → Grown (us ++ (Open ∷ [])) words' (record { opened = p; last = None } ∷ gs) p (suc p) (Some p) start
grown_open {us} {words} {gs} {q} {p} {front} {b} g words' w =
    let a = adds_open gs q p in
    record {
      count = count' g a;
      splits = splits' g a (record { opened = p; last = None } ∷ gs) p (next_open gs q p);
      low = low' g a;
      laid = laid' g a words' w (λ i _ e. never e) (λ x. absurd x);
      ahead = ahead' g a;
      nested = (omega arith, tt, single_here g a refl, nested_kept g a gs p (omega arith) (λ x. absurd x) g.nested);
      apart = λ i _ e. never e;
      repeats = tt;
    }

-- a BAR
abbrev barred : OpenGroup → ℕ → OpenGroup
barred f p = record { opened = f.opened; last = Some p }

module _ (f : OpenGroup) (gs : List OpenGroup) (q p : ℕ) (u : Under f.last p) (l : f.opened < p) where
  last_under : (a : Option ℕ) → Under a p → (i : ℕ) → a ≡ Some i → i < p
  last_under None v i e = never e
  last_under (Some x) v i e = let h = some_same e in omega arith

  bar_link : (i k : ℕ) → Linked (f ∷ gs) q p (Bar ∷ []) i k → ((i ≡ f.opened) × (k ≡ suc p)) ⊎ ((f.last ≡ Some i) × (k ≡ p))
  bar_link i k (inl x) = inl x
  bar_link i k (inr (inl x)) = inr x
  bar_link i k (inr (inr x)) = absurd x

  adds_bar : Adds (f ∷ gs) q p Bar f.last (Some f.opened) ⊥
  adds_bar = record {
    into_p = λ i. ((λ x. elim (bar_link i p x) [ inl e ↦ (let z : ⊥ = omega arith in absurd z) | inr e ↦ e.0 ]), (λ e. inr (inl (e, refl))));
    into_next = λ i. (
      (λ x. elim (bar_link i (suc p) x) [ inl e ↦ ap Some (sym e.0) | inr e ↦ (let z : ⊥ = omega arith in absurd z) ]),
      (λ e. inl (sym (some_same e), refl)),
    );
    into_back = λ i j h x. elim (bar_link i j x) [ inl e ↦ (let z : ⊥ = omega arith in absurd z) | inr e ↦ (let z : ⊥ = omega arith in absurd z) ];
    back_in = λ x. absurd x;
    bounds = λ i k x. elim (bar_link i k x) [ inl e ↦ (omega arith, omega arith) | inr e ↦ (let h = last_under f.last u i e.0 in (omega arith, omega arith)) ];
    decided = inr (λ x. x);
  }

  next_bar : (rest : List PatternUnit) (i k : ℕ)
      → Linked (f ∷ gs) q p (Bar ∷ rest) i k ↔ (Linked (f ∷ gs) q p (Bar ∷ []) i k ⊎ Linked (barred f p ∷ gs) p (suc p) rest i k)
  next_bar rest i k = (
    (λ x. elim x [ inl y ↦ inl (inl y) | inr y ↦ elim y [ inl z ↦ inl (inr (inl z)) | inr z ↦ inr z ] ]),
    (λ x. elim x [ inl y ↦ elim (bar_link i k y) [ inl z ↦ inl z | inr z ↦ inr (inl z) ] | inr y ↦ inr (inr y) ]),
  )

  close_link : (i k : ℕ) → Linked (f ∷ gs) q p (Close ∷ []) i k → ((f.last ≡ Some i) × (k ≡ p)) ⊎ ((i ≡ p) × (k ≡ suc p))
  close_link i k (inl x) = inl x
  close_link i k (inr (inl x)) = inr x
  close_link i k (inr (inr x)) = absurd x

  adds_close : Adds (f ∷ gs) q p Close f.last (Some p) ⊥
  adds_close = record {
    into_p = λ i. ((λ x. elim (close_link i p x) [ inl e ↦ e.0 | inr e ↦ (let z : ⊥ = omega arith in absurd z) ]), (λ e. inl (e, refl)));
    into_next = λ i. (
      (λ x. elim (close_link i (suc p) x) [ inl e ↦ (let z : ⊥ = omega arith in absurd z) | inr e ↦ ap Some (sym e.0) ]),
      (λ e. inr (inl (sym (some_same e), refl))),
    );
    into_back = λ i j h x. elim (close_link i j x) [ inl e ↦ (let z : ⊥ = omega arith in absurd z) | inr e ↦ (let z : ⊥ = omega arith in absurd z) ];
    back_in = λ x. absurd x;
    bounds = λ i k x. elim (close_link i k x) [ inl e ↦ (let h = last_under f.last u i e.0 in (omega arith, omega arith)) | inr e ↦ (omega arith, omega arith) ];
    decided = inr (λ x. x);
  }

  next_close : (rest : List PatternUnit) (i k : ℕ)
      → Linked (f ∷ gs) q p (Close ∷ rest) i k ↔ (Linked (f ∷ gs) q p (Close ∷ []) i k ⊎ Linked gs f.opened (suc p) rest i k)
  next_close rest i k = (
    (λ x. elim x [ inl y ↦ inl (inl y) | inr y ↦ elim y [ inl z ↦ inl (inr (inl z)) | inr z ↦ inr z ] ]),
    (λ x. elim x [ inl y ↦ elim (close_link i k y) [ inl z ↦ inl z | inr z ↦ inr (inl z) ] | inr y ↦ inr (inr y) ]),
  )

pub grown_bar : {us : List PatternUnit} {words : List ℕ} {f : OpenGroup} {gs : List OpenGroup} {q p : ℕ} {front : Option ℕ} {b : Before} → Grown us words (f ∷ gs) q p front b
    → (words' : List ℕ) → Writes words words' q p Bar (firsts front f.last) (seconds front f.last) ⊥
    → Grown (us ++ (Bar ∷ [])) words' (record { opened = f.opened; last = Some p } ∷ gs) p (suc p) (Some f.opened) start
grown_bar {us} {words} {f} {gs} {q} {p} {front} {b} g words' w =
    let (l, u, s, r) = g.nested in
    let a = adds_bar f gs q p u l in
    let (l', u', s', r') = nested_kept g a (f ∷ gs) p (omega arith) (λ x. absurd x) g.nested in
    record {
      count = count' g a;
      splits = splits' g a (barred f p ∷ gs) p (next_bar f gs q p u l);
      low = low' g a;
      laid = laid' g a words' w g.apart (λ x. absurd x);
      ahead = ahead' g a;
      nested = (omega arith, omega arith, s', r');
      apart = some_apart f.opened p (λ e. omega arith);
      repeats = tt;
    }

pub grown_close : {us : List PatternUnit} {words : List ℕ} {f : OpenGroup} {gs : List OpenGroup} {q p : ℕ} {front : Option ℕ} {b : Before} → Grown us words (f ∷ gs) q p front b
    → (words' : List ℕ) → Writes words words' q p Close (firsts front f.last) (seconds front f.last) ⊥
    → Grown (us ++ (Close ∷ [])) words' gs f.opened (suc p) (Some p) operand
grown_close {us} {words} {f} {gs} {q} {p} {front} {b} g words' w =
    let (l, u, s, r) = g.nested in
    let a = adds_close f gs q p u l in
    let (l', u', s', r') = nested_kept g a (f ∷ gs) p (omega arith) (λ x. absurd x) g.nested in
    record {
      count = count' g a;
      splits = splits' g a gs f.opened (next_close f gs q p u l);
      low = low' g a;
      laid = laid' g a words' w g.apart (λ x. absurd x);
      ahead = ahead' g a;
      nested = nested_up (us ++ (Close ∷ [])) gs f.opened (suc p) (suc p) (omega arith) r';
      apart = apart_p us gs f.opened p r;
      repeats = record { before = omega arith; single = s'; apart = some_apart p f.opened (λ e. omega arith); inside = inside us gs f.opened p r };
    }

-- a repeat sign
skips_or : (g : Sign) (q : ℕ) → (Skips g × (skip_of g q ≡ Some q)) ⊎ ((Skips g → ⊥) × (skip_of g q ≡ None))
skips_or Star q = inl (star_skips, refl)
skips_or Plus q = inr ((λ x. elim x [ ]), refl)
skips_or Opt q = inl (opt_skips, refl)

loops_or : (g : Sign) → Loops g ⊎ (Loops g → ⊥)
loops_or Star = inl star_loops
loops_or Plus = inl plus_loops
loops_or Opt = inr (λ x. elim x [ ])

module _ (g : Sign) (gs : List OpenGroup) (q p : ℕ) (l : q < p) where
  into_sign : (i : ℕ) → SignLink g q p i p ⊎ ⊥ → skip_of g q ≡ Some i
  into_sign i (inr x) = absurd x
  into_sign i (inl (onward e f)) = let z : ⊥ = omega arith in absurd z
  into_sign i (inl (loop s e f)) = let z : ⊥ = omega arith in absurd z
  into_sign i (inl (skip s e f)) = elim (skips_or g q) [ inl (x, y) ↦ y ∙ ap Some (sym e) | inr (x, y) ↦ absurd (x s) ]

  sign_into : (i : ℕ) → skip_of g q ≡ Some i → SignLink g q p i p ⊎ ⊥
  sign_into i e = elim (skips_or g q) [ inl (x, y) ↦ inl (skip x (sym (some_same (sym y ∙ e))) refl) | inr (x, y) ↦ never (sym y ∙ e) ]

  into_after : (i : ℕ) → SignLink g q p i (suc p) ⊎ ⊥ → Some p ≡ Some i
  into_after i (inr x) = absurd x
  into_after i (inl (onward e f)) = ap Some (sym e)
  into_after i (inl (loop s e f)) = let z : ⊥ = omega arith in absurd z
  into_after i (inl (skip s e f)) = let z : ⊥ = omega arith in absurd z

  into_start : (i j : ℕ) → j < p → SignLink g q p i j ⊎ ⊥ → Loops g × (j ≡ q) × (i ≡ p)
  into_start i j h (inr x) = absurd x
  into_start i j h (inl (onward e f)) = let z : ⊥ = omega arith in absurd z
  into_start i j h (inl (loop s e f)) = (s, f, e)
  into_start i j h (inl (skip s e f)) = let z : ⊥ = omega arith in absurd z

  sign_bounds : (i k : ℕ) → SignLink g q p i k ⊎ ⊥ → (i < suc p) × (k ≤ suc p)
  sign_bounds i k (inr x) = absurd x
  sign_bounds i k (inl (onward e f)) = (omega arith, omega arith)
  sign_bounds i k (inl (loop s e f)) = (omega arith, omega arith)
  sign_bounds i k (inl (skip s e f)) = (omega arith, omega arith)

  adds_sign : Adds gs q p (Repeat g) (skip_of g q) (Some p) (Loops g)
  adds_sign = record {
    into_p = λ i. (into_sign i, sign_into i);
    into_next = λ i. (into_after i, λ e. inl (onward (sym (some_same e)) refl));
    into_back = into_start;
    back_in = λ s. inl (loop s refl refl);
    bounds = sign_bounds;
    decided = loops_or g;
  }

  next_sign : (rest : List PatternUnit) (i k : ℕ)
      → Linked gs q p (Repeat g ∷ rest) i k ↔ (Linked gs q p (Repeat g ∷ []) i k ⊎ Linked gs q (suc p) rest i k)
  next_sign rest i k = (
    (λ x. elim x [ inl y ↦ inl (inl y) | inr y ↦ inr y ]),
    (λ x. elim x [ inl y ↦ elim y [ inl z ↦ inl z | inr z ↦ absurd z ] | inr y ↦ inr y ]),
  )

skip_apart : (g : Sign) (q : ℕ) (front : Option ℕ) → Apart front (Some q) → Apart front (skip_of g q)
skip_apart Star q front n = n
skip_apart Plus q front n = λ i _ e. never e
skip_apart Opt q front n = n

pub grown_sign : {us : List PatternUnit} {words : List ℕ} {gs : List OpenGroup} {q p : ℕ} {front : Option ℕ} → Grown us words gs q p front operand
    → (g : Sign) (words' : List ℕ) → Writes words words' q p (Repeat g) (firsts front (skip_of g q)) (seconds front (skip_of g q)) (Loops g)
    → Grown (us ++ (Repeat g ∷ [])) words' gs q (suc p) (Some p) sign
grown_sign {us} {words} {gs} {q} {p} {front} t g words' w =
    let o = t.repeats in
    let a = adds_sign g gs q p o.before in
    record {
      count = count' t a;
      splits = splits' t a gs q (next_sign g gs q p o.before);
      low = low' t a;
      laid = laid' t a words' w (skip_apart g q front o.apart) (λ _. record { before = o.before; single = o.single });
      ahead = ahead' t a;
      nested = nested_up (us ++ (Repeat g ∷ [])) gs q (suc p) (suc p) (let h = o.before in omega arith)
          (nested_kept t a gs q (let h = o.before in omega arith) (λ _. omega arith) (nested_in us gs p q p o.inside t.nested));
      apart = apart_p us gs p p t.nested;
      repeats = tt;
    }
