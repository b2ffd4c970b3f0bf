use Rattle.mark.proofs.tail.TailMark.seed.Goals as goal
use Rattle.mark.specs.Limits.{most_bytes}
use Rattle.mark.specs.Tail.{same_start, seed_is, tail_seed, tail_seeds_end}
use Rattle.mark.specs.declared.start.PastTheEnd.{PastTheEnd}
use Rattle.mark.specs.declared.start.Start.{Start}
use Rattle.std.specs.Result.{result_ok}
use Rattle.std.proofs.Common.{◌≡◌, ℕ, ◌<◌, ◌≤◌, Some, Ok, Err, Result, MatchResult, sym, ◌∙◌, ap}

-- the start at a place, if there is one, is the seed
seeded : (p : ℕ) (r : Result Start PastTheEnd) → MatchResult r (λ a. (a.place ≡ p) × (p ≤ most_bytes)) (λ e. (e.0 ≡ p) × (most_bytes < p)) → result_ok r ≡ tail_seed p
seeded p (Ok a) h = ap Some (same_start a _ h.0) ∙ sym (seed_is p h.1)
seeded p (Err e) h = sym (tail_seeds_end p h.1)

pub returns : goal.returns
returns c = c.ok.ensures.value ∙ seeded c.args.place c.try_from.result c.try_from.ensures
