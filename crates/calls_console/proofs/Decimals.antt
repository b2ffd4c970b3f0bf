-- The value of digits, read from the left.
use Rattle.std.proofs.Common.{◌≡◌, ℕ, zero, suc, ◌+◌, ◌-◌, ◌*◌, ◌^◌, ◌<◌, ◌≤◌, ◌⊎◌, List, [], ◌∷◌, length, get_or, sym, refl, ap, subst, inl, inr, Option, None, Some, MatchOption, arith, Bor, Iter}
use Rattle.calls_console.specs.Numbers.{Decimal, Digit, value_behind}
use Rattle.std.specs.Fn.{Called}
use Rattle.std.specs.Iterator.{Yields}
use Rattle.std.specs.List.{FoldsTo}
use Rattle.std.specs.Slice.Iter.{iter_rest, iter_steps}
use denote.Param.Members.{Mut}

-- the bytes behind a value are digits that make n of it, which fits
pub record Behind (v : ℕ) (bytes : List ℕ) (n : ℕ) : Type 0 where
  pub digits : (k : ℕ) → k < length bytes → Digit (get_or bytes k 0)
  pub value : n ≡ value_behind v bytes
  pub fits : n < 2 ^ 64

-- a digit makes w of v, which fits
abbrev pub Adds : ℕ → ℕ → ℕ → Type 0
Adds v byte w = Digit byte × (w ≡ 10 * v + (byte - 48)) × (w < 2 ^ 64)

value_grows : (v : ℕ) (xs : List ℕ) → v ≤ value_behind v xs
value_grows v [] = omega arith
value_grows v (b ∷ xs) = let h : 10 * v + (b - 48) ≤ value_behind (10 * v + (b - 48)) xs = value_grows (10 * v + (b - 48)) xs in omega arith

behind_none : {v byte : ℕ} {more : List ℕ} {n : ℕ} → (Digit byte → ⊥) ⊎ (2 ^ 64 ≤ 10 * v + (byte - 48)) → Behind v (byte ∷ more) n → ⊥
behind_none (inl f) b = f (b.digits 0 (omega arith))
behind_none {v} {byte} {more} {n} (inr m) b =
    let g = value_grows (10 * v + (byte - 48)) more in
    let e : n ≡ value_behind (10 * v + (byte - 48)) more = b.value in
    let f : n < 2 ^ 64 = b.fits in
    omega arith

behind_first : {v byte w : ℕ} {more : List ℕ} {n : ℕ} → Adds v byte w → Behind v (byte ∷ more) n → Behind w more n
behind_first {v} {byte} {w} {more} {n} a b = subst (λ z. Behind z more n) (sym a.1) (record { digits = λ k l. b.digits (suc k) (omega arith); value = b.value; fits = b.fits })

first_behind : {v byte w : ℕ} {more : List ℕ} {n : ℕ} → Adds v byte w → Behind w more n → Behind v (byte ∷ more) n
first_behind {v} {byte} {w} {more} {n} a b =
    let e : n ≡ value_behind (10 * v + (byte - 48)) more = subst (λ z. n ≡ value_behind z more) a.1 b.value in
    record { digits = at; value = e; fits = b.fits }
  where
    at : (k : ℕ) → k < suc (length more) → Digit (get_or (byte ∷ more) k 0)
    at zero l = a.0
    at (suc k) l = b.digits k (omega arith)

all_read : (v : ℕ) (bytes : List ℕ) → length bytes ≡ 0 → v < 2 ^ 64 → Behind v bytes v
all_read v [] e h = record { digits = λ k l. omega arith; value = refl; fits = h }
all_read v (byte ∷ more) e h = omega arith

-- the turns of a `try_fold` that went on, each over a digit, lead from a value and the bytes behind it to another value and those behind that
module _ {F : Type 0} (g : Mut F (ℕ × (Bor ℕ × Unit {0})) (Option ℕ)) (adds : (p q : F) (v w : ℕ) (x : Bor ℕ) → Called g p (v, (x, tt)) (Some w) q → Adds v x.now w) where
  pub behind_turns : (xs : List (Bor ℕ)) (s t : Iter ℕ) (p q : F) (v w : ℕ) → v < 2 ^ 64 → Yields iter_steps s xs t
      → FoldsTo {P = F × ℕ} (λ a x b. (r : Option ℕ) × Called g a.0 (a.1, (x, tt)) r b.0 × (r ≡ Some b.1)) (p, v) xs (q, w)
      → (w < 2 ^ 64) × ((n : ℕ) → (Behind v (iter_rest s) n → Behind w (iter_rest t) n) × (Behind w (iter_rest t) n → Behind v (iter_rest s) n))
  behind_turns [] s t p q v w h y f =
      let e : v ≡ w = ap (λ z. z.1) f in
      (subst (λ z. z < 2 ^ 64) e h, λ n. (λ b. subst (λ z. Behind z (iter_rest t) n) e (subst (λ z. Behind v (iter_rest z) n) y b), λ b. subst (λ z. Behind v (iter_rest z) n) (sym y) (subst (λ z. Behind z (iter_rest t) n) (sym e) b)))
  behind_turns (x ∷ xs) s t p q v w h (m, e, ys) (j, (r, call, is), fs) =
      let a = adds p j.0 v j.1 x (subst (λ z. Called g p (v, (x, tt)) z j.0) is call) in
      let (fits, both) = behind_turns xs m t j.0 q j.1 w a.2 ys fs in
      (fits, λ n. (λ b. (both n).0 (behind_first a (subst (λ z. Behind v z n) e b)), λ b. subst (λ z. Behind v z n) (sym e) (first_behind a ((both n).1 b))))

-- what is found where the turns end: no byte is left, or one that adds nothing
module _ (word left : List ℕ) (v : ℕ) (some : 0 < length word) (fits : v < 2 ^ 64) (both : (n : ℕ) → (Behind 0 word n → Behind v left n) × (Behind v left n → Behind 0 word n)) where
  pub number_found : {P : Bor ℕ → Type 0} (E : Type 0) (more : List ℕ) (o : Option (Bor ℕ)) (r : Option ℕ)
      → MatchOption o ((length left ≡ 0) × E) (λ x. left ≡ x.now ∷ more) → MatchOption o (r ≡ Some v) P
      → ((x : Bor ℕ) → P x → ((Digit x.now → ⊥) ⊎ (2 ^ 64 ≤ 10 * v + (x.now - 48))) × (r ≡ None))
      → MatchOption r ((n : ℕ) → Decimal 64 word n → ⊥) (λ n. Decimal 64 word n)
  number_found E more None r l e f =
      let b = (both v).1 (all_read v left l.0 fits) in
      rw e (record { some = some; digits = b.digits; value = b.value; fits = b.fits })
  number_found E more (Some x) r l p f =
      let (stops, e) = f x p in
      rw e (λ n d. behind_none stops (subst (λ z. Behind v z n) l ((both n).0 (record { digits = d.digits; value = d.value; fits = d.fits }))))
