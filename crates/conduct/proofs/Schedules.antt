-- The touches of a call are settled by the pattern loaded.
use Rattle.std.proofs.Common.{◌≡◌, ℕ, zero, suc, ◌+◌, ◌≤◌, List, ◌++◌, Option, sym, refl, ap, ◌∙◌, subst, arith}
use Rattle.board.specs.Boards.{Touch}
use Rattle.conduct.specs.Calls.{AcceptedBy, Order, Said, by_verdict, to_begin, to_drop, to_feed, to_finish, to_load, to_meter}
use Rattle.conduct.specs.Rules.{Makes, Touching, by_the_table, feeds, none_stopped, none_untouching, schedule_of}
use Rattle.conduct.specs.Runs.{AlikeCalls, AlikeTold, other_byte, other_mark, same_call, same_told}
use Rattle.language.proofs.Answered.{one_answer}
use Rattle.language.proofs.Settled.{settled}
use Rattle.language.specs.Links.{LinksOf, last_position}
use Rattle.screen.specs.Schedules.{beginning, feeding, finishing, placing, scans, settling, stepping}
use Rattle.rule.specs.Tables.{RuleOf, TableOf}
use Rattle.rule.specs.Words.{first_of, second_of}
use Rattle.theory.proofs.Tables.{table_tells}

-- predecessors that are the same up to n give the same movements
module _ (f s g t : ℕ → Option ℕ) (n : ℕ) (firsts : (k : ℕ) → k ≤ n → f k ≡ g k) (seconds : (k : ℕ) → k ≤ n → s k ≡ t k) where
  same_scans : (m j : ℕ) → m + j ≤ suc n → scans f s m j ≡ scans g t m j
  same_scans zero j h = refl
  same_scans (suc m) j h =
      let a = firsts j (omega arith) in
      let b = seconds j (omega arith) in
      let c = same_scans m (suc j) (omega arith) in
      cc

  same_settling : settling f s n ≡ settling g t n
  same_settling = ap (λ z. z ++ z) (same_scans (suc n) 0 (omega arith))

  same_beginning : beginning f s n ≡ beginning g t n
  same_beginning = ap (λ z. placing n ++ z) same_settling

  same_feeding : feeding f s n ≡ feeding g t n
  same_feeding = ap (λ z. stepping n ++ z) same_settling

  same_finishing : finishing f s n ≡ finishing g t n
  same_finishing = refl

module _ {p : List ℕ} {n : ℕ} {words others : List ℕ} where
  -- two tables of one pattern that end at n
  same_touches_at : RuleOf p n words → RuleOf p n others → (call : Order) → schedule_of words n call ≡ schedule_of others n call
  same_touches_at x y = at
    where
      tree : y.accepted.tree ≡ x.accepted.tree
      tree = (one_answer p).one_tree y.accepted x.accepted

      both : (k : ℕ) → k ≤ n → (first_of words k ≡ first_of others k) × (second_of words k ≡ second_of others k)
      both k h =
          settled (LinksOf x.accepted.tree) k _ _ _ _ ((table_tells x.accepted.tree n words x.table).links k h)
          ((table_tells x.accepted.tree n others (subst (λ z. TableOf z n others) tree y.table)).links k h)

      at : (call : Order) → schedule_of words n call ≡ schedule_of others n call
      at (to_load q) = refl
      at (to_begin r m) = same_beginning (first_of words) (second_of words) (first_of others) (second_of others) n (λ k h. (both k h).0) (λ k h. (both k h).1)
      at (to_feed r c) = same_feeding (first_of words) (second_of words) (first_of others) (second_of others) n (λ k h. (both k h).0) (λ k h. (both k h).1)
      at (to_finish r) = same_finishing (first_of words) (second_of words) (first_of others) (second_of others) n (λ k h. (both k h).0) (λ k h. (both k h).1)
      at (to_drop r) = refl
      at to_meter = refl

-- all tables of a pattern have the same touches
pub same_schedule : {p : List ℕ} {n m : ℕ} {words others : List ℕ} → RuleOf p n words → RuleOf p m others → (call : Order) → schedule_of words n call ≡ schedule_of others m call
same_schedule {p} {n} {m} {words} {others} x y call =
    let e : m ≡ n =
    (table_tells y.accepted.tree m others y.table).ends ∙ ap last_position ((one_answer p).one_tree y.accepted x.accepted)
    ∙ sym (table_tells x.accepted.tree n words x.table).ends in
    same_touches_at x (subst (λ k. RuleOf p k others) e y) call ∙ ap (λ k. schedule_of others k call) (sym e)

module _ {A : ℕ} where
  alike_touching : {call call' : Order} → AlikeCalls A call call' → Touching call → Touching call'
  alike_touching same_call t = t
  alike_touching (other_byte n) t = feeds

  alike_touching_back : {call call' : Order} → AlikeCalls A call call' → Touching call' → Touching call
  alike_touching_back same_call t = t
  alike_touching_back (other_byte n) t = feeds

  alike_schedule : {call call' : Order} (words : List ℕ) (n : ℕ) → AlikeCalls A call call' → schedule_of words n call ≡ schedule_of words n call'
  alike_schedule words n same_call = refl
  alike_schedule words n (other_byte k) = refl

  module _ {M : Type 0} where
    alike_accepted : {call : Order} {x y : Said M} → AlikeTold A call x y → AcceptedBy x → AcceptedBy y
    alike_accepted same_told a = a
    alike_accepted (other_mark n) a = by_verdict

    alike_accepted_back : {call : Order} {x y : Said M} → AlikeTold A call x y → AcceptedBy y → AcceptedBy x
    alike_accepted_back same_told a = a
    alike_accepted_back (other_mark n) a = by_verdict

    -- alike calls that are told alike make the same touches
    pub same_touches : {l : Option (List ℕ)} {call call' : Order} {x y : Said M} {a b : List Touch} → AlikeCalls A call call' → AlikeTold A call x y
        → Makes l call x a → Makes l call' y b → a ≡ b
    same_touches c s (by_the_table {call = call} {n = n} words t u r) (by_the_table {n = m} others v w q) = same_schedule r q call ∙ alike_schedule others m c
    same_touches c s (by_the_table words t u r) (none_untouching k) = absurd (k (alike_touching c t))
    same_touches c s (by_the_table words t u r) (none_stopped k) = absurd (k (alike_accepted s u))
    same_touches c s (none_untouching k) (by_the_table others v w q) = absurd (k (alike_touching_back c v))
    same_touches c s (none_untouching k) (none_untouching i) = refl
    same_touches c s (none_untouching k) (none_stopped i) = refl
    same_touches c s (none_stopped k) (by_the_table others v w q) = absurd (k (alike_accepted_back s w))
    same_touches c s (none_stopped k) (none_untouching i) = refl
    same_touches c s (none_stopped k) (none_stopped i) = refl
