-- One access as a step of the fold, and what the slices hold when the board is gone.
use Rattle.std.proofs.Common.{◌≡◌, ℕ, min, Bool, true, false, cond, ◌&&◌, ltb, List, ◌++◌, length, take, drop, Ok, Err, Result, sym, refl, ap, ◌∙◌, inl, inr, arith, take-append-drop, length-take, MutBor, le-ltb, lt-ltb}
use Rattle.board.specs.Boards.{Accepted, Make, Refused, most_cells, no_allowance, no_cell}
use Rattle.board.specs.Lent.{Lent}
use Rattle.board.specs.Traced.{Writer, Written}
use Rattle.drive.specs.Drives.{State, Touches, after, after_one, state}
use Rattle.drive.specs.declared.Access.TheVariants.{Read, Write}
use Rattle.drive.specs.declared.Access.{Access}
use Rattle.std.proofs.lemmas.List.{drop_all}
use Rattle.std.proofs.lemmas.Bool.{cases_lt}
use Rattle.stops.specs.declared.Stop.{Stop}

and_none : (b c : Bool) → c ≡ false → b && c ≡ false
and_none true c e = e
and_none false c e = refl

-- what is accepted and what is refused, as a test
accepted_test : {size allowance i : ℕ} → Accepted size allowance i → ltb i size && ltb 0 allowance ≡ true
accepted_test {size} {allowance} {i} a = ap (λ b. b && ltb 0 allowance) (lt-ltb i size a.inside) ∙ lt-ltb 0 allowance a.allowed

refused_test : {size allowance i n : ℕ} → Refused size allowance i n → ltb i size && ltb 0 allowance ≡ false
refused_test {size} {allowance} {i} (no_cell h) = ap (λ b. b && ltb 0 allowance) (le-ltb i size h)
refused_test {size} {allowance} {i} (no_allowance h e) = and_none (ltb i size) (ltb 0 allowance) (le-ltb 0 allowance (omega arith))

-- two states are equal where their parts are
same_state : {M X : Type 0} {c d : List M} {m n : X} → c ≡ d → m ≡ n → state c m ≡ state d n
same_state p q = λ j. record { cells = p j; meter = q j }

chosen : {S : Type 0} (b v : Bool) (x y : S) → b ≡ v → cond b x y ≡ cond v x y
chosen b v x y e = ap (λ t. cond t x y) e

module _ {M X : Type 0} (make : Make X) (cells : List M) (meter : X) where
  -- an access is one step
  pub touched : (a : Access M) (cells' : List M) (meter' : X) (r : Result M Stop) → Touches make cells meter a cells' meter' r → after_one make (state cells meter) a ≡ state cells' meter'
  touched (Read i) cells' meter' (Ok x) t = chosen _ true _ _ (accepted_test t.0) ∙ sym (same_state t.2 t.3)
  touched (Read i) cells' meter' (Err s) t = chosen _ false _ _ (refused_test t.0) ∙ sym (same_state t.1 t.2)
  touched (Write i m) cells' meter' (Ok x) t = chosen _ true _ _ (accepted_test t.1.0) ∙ sym (same_state t.1.1 t.1.2)
  touched (Write i m) cells' meter' (Err s) t = chosen _ false _ _ (refused_test t.0) ∙ sym (same_state t.1 t.2)

  -- accesses made on a board with these cells and this meter
  pub begun : {was : List M} {first : X} {s : State M X} (accesses : List (Access M)) → cells ≡ was → meter ≡ first → s ≡ after make (state (take most_cells cells) meter) accesses → s ≡ after make (state (take most_cells was) first) accesses
  begun accesses e f done = done ∙ ap (λ s. after make s accesses) (same_state (ap (take most_cells) e) f)

-- what a lent slice of marks holds when its board is gone
pub marks_left : {M : Type 0} (was : List M) (a b : MutBor (List M)) {left cells : List M} → Lent a b → a.now ≡ was → left ≡ b.now → take most_cells b.now ≡ cells → left ≡ cells ++ drop most_cells was
marks_left was a b {left} {cells} lent e back at =
    back
    ∙ sym (take-append-drop most_cells b.now)
    ∙ ap (λ l. l ++ drop most_cells b.now) at
    ∙ ap (λ l. cells ++ l) (lent.beyond ∙ ap (drop most_cells) e)

-- past its end a list has nothing
drop_most : (n m : ℕ) (l : List ℕ) → m ≡ min n (length l) → drop n l ≡ drop m l
drop_most n m l e = elim (cases_lt n (length l)) [
  | inl h ↦ let same : n ≡ m = omega arith in ap (λ k. drop k l) same
  | inr h ↦ drop_all n l h ∙ sym (drop_all m l (omega arith))
]

-- what a slice of words holds when its board is gone: `used` of them are the words written
pub words_left : (was : List ℕ) (a b : Writer) {left written : List ℕ} {used : ℕ} → Written a b → a.0.now ≡ was → left ≡ b.0.now → take b.1.used b.0.now ≡ written → used ≡ length (take b.1.used b.0.now) → left ≡ written ++ drop used was
words_left was a b {left} {written} {used} kept e back at is =
    back
    ∙ sym (take-append-drop b.1.used b.0.now)
    ∙ ap (λ l. l ++ drop b.1.used b.0.now) at
    ∙ ap (λ l. written ++ l) (kept.behind ∙ ap (drop b.1.used) e ∙ drop_most b.1.used used was (is ∙ length-take b.1.used b.0.now ∙ ap (min b.1.used) (kept.as_long ∙ ap length e)))
