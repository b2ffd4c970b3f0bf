use Rattle.std.proofs.Common.{◌≡◌, ℕ, rules, tests, arith, MatchOption, subst}
use Rattle.calls_console.proofs.number.number.Goals as goal
use Rattle.calls_console.proofs.Decimals.{behind_turns, number_found}
use Rattle.calls_console.specs.Numbers.{Decimal}
use Rattle.std.specs.Slice.Iter.{iter_rest}

pub returns : goal.returns
returns c =
    let (xs, o, f, v, (s, ys, last), turns, end) = c.try_fold.ensures.ran in
    let (fits, both) = behind_turns _ (λ p q v w x k. search (rules, tests)) xs c.iter.result s _ f 0 v (omega arith) ys turns in
    let e : iter_rest c.iter.result ≡ c.args.word.now = cc in
    subst (λ z. MatchOption c.try_fold.result ((n : ℕ) → Decimal 64 z n → ⊥) (λ n. Decimal 64 z n)) e
    (number_found (iter_rest c.iter.result) (iter_rest s) v (search rules) fits both _ _ o c.try_fold.result last end (λ x k. let (r, h, z, call, none, gives) = k in (search (rules, tests), gives)))
