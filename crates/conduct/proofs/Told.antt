-- What two calls are told where their open frames differ only in the bytes of another renter.
use Rattle.std.proofs.Common.{◌≡◌, ℕ, suc, ◌-◌, List, length, Some, None, Option, refl, ap, ◌∙◌, subst, subst₂, inl, inr, arith}
use Rattle.board.specs.Boards.{Make}
use Rattle.conduct.proofs.CellsAfter.{one_end}
use Rattle.conduct.specs.Calls.{Frame, Order, Said, frame, number, stopped_at, to_begin, to_drop, to_feed, to_finish, to_load, to_meter, verdict}
use Rattle.conduct.specs.Rules.{Due, begin_accepted, begin_too_long, begin_while_open, begin_without_allowance, begin_without_rule, drop_accepted, drop_of_another, drop_without_frame, end_of, feed_accepted, feed_after_the_last, feed_of_another, feed_without_frame, finish_accepted, finish_before_the_last, finish_of_another, finish_without_frame, load_accepted, load_of_a_fault, load_too_wide, load_while_open, meter_read}
use Rattle.conduct.specs.Runs.{AlikeCalls, AlikeTold, EachCallIsToldOneThing, other_byte, other_mark, same_call, same_told}
use Rattle.language.proofs.Answered.{one_answer}
use Rattle.language.specs.Patterns.{Accepted, Tree, alternatives}
use Rattle.mark.specs.Marks.{Kind}
use Rattle.screen.specs.Schedules.{dropped_touches, frame_touches}
use Rattle.std.proofs.lemmas.Bool.{cases_eq}
use Rattle.theory.proofs.Joins.{one_join}
use Rattle.theory.specs.Verdicts.{Belongs, Verdict}

-- open frames that differ only in bytes, as many of them, and not in those of A
pub data AlikeFrames (A : ℕ) : Option Frame → Option Frame → Type 0 where
  none_open : AlikeFrames A None None
  both_open : {r m : ℕ} {w v : List ℕ} → length w ≡ length v → (r ≡ A → w ≡ v) → AlikeFrames A (Some (frame r m w)) (Some (frame r m v))

pub same_frames : (A : ℕ) (o : Option Frame) → AlikeFrames A o o
same_frames A None = none_open
same_frames A (Some f) = both_open refl (λ e. refl)

-- a pattern has one tree, and a frame one verdict
one_verdict : {M : Type 0} (kind : Kind M) {p w v : List ℕ} {x y : M} (a b : Accepted p) → w ≡ v → Verdict kind a.tree w x → Verdict kind b.tree v y → x ≡ y
one_verdict {M} kind {p} {w} {v} {x} {y} a b e c d =
    one_join kind.join kind.nothing kind.laws (λ (z : Belongs b.tree v). kind.seed z.place)
    (subst₂ (λ (t : Tree alternatives) (u : List ℕ). Verdict kind t u x) ((one_answer p).one_tree a b) e c) d

told_as : {M : Type 0} {A : ℕ} {call : Order} {x y : Said M} → x ≡ y → AlikeTold A call x y
told_as {A = A} {call = call} {x = x} e = subst (AlikeTold A call x) e same_told

module _ {M X : Type 0} {make : Make X} {kind : Kind M} {size : ℕ} {meter : X} {A : ℕ} where
  load_told : {l : Option (List ℕ)} {o o' : Option Frame} {p : List ℕ} {x y : Said M} → AlikeFrames A o o'
      → Due make kind size meter l o (to_load p) x → Due make kind size meter l o' (to_load p) y → x ≡ y
  load_told (both_open e g) load_while_open load_while_open = refl
  load_told {p = p} none_open (load_of_a_fault {n = n} {place = i} f) (load_of_a_fault {n = m} {place = j} g) =
      let (s, t) = (one_answer p).one_fault n i m j f g in ap (λ k. stopped_at k i) s ∙ ap (stopped_at m) t
  load_told {p = p} none_open (load_of_a_fault f) (load_too_wide b v) = absurd ((one_answer p).not_both b _ _ f)
  load_told {p = p} none_open (load_of_a_fault f) (load_accepted b v) = absurd ((one_answer p).not_both b _ _ f)
  load_told {p = p} none_open (load_too_wide a w) (load_of_a_fault g) = absurd ((one_answer p).not_both a _ _ g)
  load_told none_open (load_too_wide a w) (load_too_wide b v) = refl
  load_told none_open (load_too_wide a w) (load_accepted b v) = absurd (let s = one_end a b refl in let z : ⊥ = omega arith in z)
  load_told {p = p} none_open (load_accepted a w) (load_of_a_fault g) = absurd ((one_answer p).not_both a _ _ g)
  load_told none_open (load_accepted a w) (load_too_wide b v) = absurd (let s = one_end a b refl in let z : ⊥ = omega arith in z)
  load_told none_open (load_accepted a w) (load_accepted b v) = ap number (one_end a b refl)

  begin_told : {l : Option (List ℕ)} {o o' : Option Frame} {r m : ℕ} {x y : Said M} → AlikeFrames A o o'
      → Due make kind size meter l o (to_begin r m) x → Due make kind size meter l o' (to_begin r m) y → x ≡ y
  begin_told none_open begin_without_rule begin_without_rule = refl
  begin_told (both_open e g) begin_without_rule begin_without_rule = refl
  begin_told (both_open e g) begin_while_open begin_while_open = refl
  begin_told none_open (begin_too_long u) (begin_too_long v) = refl
  begin_told none_open (begin_too_long u) (begin_without_allowance b v z) = absurd (let c : ⊥ = omega arith in c)
  begin_told none_open (begin_too_long u) (begin_accepted b v z) = absurd (let c : ⊥ = omega arith in c)
  begin_told none_open (begin_without_allowance a u w) (begin_too_long v) = absurd (let c : ⊥ = omega arith in c)
  begin_told none_open (begin_without_allowance a u w) (begin_without_allowance b v z) = refl
  begin_told {m = m} none_open (begin_without_allowance a u w) (begin_accepted b v z) = absurd (let s = ap (λ n. frame_touches n m) (one_end a b refl) in let c : ⊥ = omega arith in c)
  begin_told none_open (begin_accepted a u w) (begin_too_long v) = absurd (let c : ⊥ = omega arith in c)
  begin_told {m = m} none_open (begin_accepted a u w) (begin_without_allowance b v z) = absurd (let s = ap (λ n. frame_touches n m) (one_end a b refl) in let c : ⊥ = omega arith in c)
  begin_told {m = m} none_open (begin_accepted a u w) (begin_accepted b v z) = ap (λ n. number (frame_touches n m)) (one_end a b refl)

  feed_told : {l : Option (List ℕ)} {o o' : Option Frame} {r c c' : ℕ} {x y : Said M} → AlikeFrames A o o'
      → Due make kind size meter l o (to_feed r c) x → Due make kind size meter l o' (to_feed r c') y → x ≡ y
  feed_told none_open feed_without_frame feed_without_frame = refl
  feed_told (both_open e g) (feed_of_another n) (feed_of_another k) = refl
  feed_told (both_open e g) (feed_of_another n) (feed_after_the_last s v) = absurd (n s)
  feed_told (both_open e g) (feed_of_another n) (feed_accepted s v) = absurd (n s)
  feed_told (both_open e g) (feed_after_the_last q u) (feed_of_another k) = absurd (k q)
  feed_told (both_open e g) (feed_after_the_last q u) (feed_after_the_last s v) = refl
  feed_told (both_open e g) (feed_after_the_last q u) (feed_accepted s v) = absurd (let c : ⊥ = omega arith in c)
  feed_told (both_open e g) (feed_accepted q u) (feed_of_another k) = absurd (k q)
  feed_told (both_open e g) (feed_accepted q u) (feed_after_the_last s v) = absurd (let c : ⊥ = omega arith in c)
  feed_told (both_open {m = m} e g) (feed_accepted q u) (feed_accepted s v) = ap (λ n. number (m - suc n)) e

  drop_told : {l : Option (List ℕ)} {o o' : Option Frame} {r : ℕ} {x y : Said M} → AlikeFrames A o o'
      → Due make kind size meter l o (to_drop r) x → Due make kind size meter l o' (to_drop r) y → x ≡ y
  drop_told none_open drop_without_frame drop_without_frame = refl
  drop_told (both_open e g) (drop_of_another n) (drop_of_another k) = refl
  drop_told (both_open e g) (drop_of_another n) (drop_accepted b s) = absurd (n s)
  drop_told (both_open e g) (drop_accepted a q) (drop_of_another k) = absurd (k q)
  drop_told (both_open {w = w} e g) (drop_accepted a q) (drop_accepted b s) = ap (λ n. number (dropped_touches n (length w))) (one_end a b refl) ∙ ap (λ n. number (dropped_touches (end_of b) n)) e

  finish_told : {l : Option (List ℕ)} {o o' : Option Frame} {r : ℕ} {x y : Said M} → AlikeFrames A o o'
      → Due make kind size meter l o (to_finish r) x → Due make kind size meter l o' (to_finish r) y → AlikeTold A (to_finish r) x y
  finish_told none_open finish_without_frame finish_without_frame = same_told
  finish_told (both_open e g) (finish_of_another n) (finish_of_another k) = same_told
  finish_told (both_open e g) (finish_of_another n) (finish_before_the_last s v) = absurd (n s)
  finish_told (both_open e g) (finish_of_another n) (finish_accepted b s v z) = absurd (n s)
  finish_told (both_open e g) (finish_before_the_last q u) (finish_of_another k) = absurd (k q)
  finish_told (both_open e g) (finish_before_the_last q u) (finish_before_the_last s v) = same_told
  finish_told (both_open e g) (finish_before_the_last q u) (finish_accepted b s v z) = absurd (let c : ⊥ = omega arith in c)
  finish_told (both_open e g) (finish_accepted a q u w) (finish_of_another k) = absurd (k q)
  finish_told (both_open e g) (finish_accepted a q u w) (finish_before_the_last s v) = absurd (let c : ⊥ = omega arith in c)
  finish_told {r = r} (both_open {m = m} e g) (finish_accepted {mark = i} a q u w) (finish_accepted {mark = j} b s v z) =
      let f : ℕ → ℕ = λ n. frame_touches n m in
      subst (λ n. AlikeTold A (to_finish r) (verdict i (f (end_of a))) (verdict j (f n))) (one_end a b refl)
      (elim (cases_eq r A) [
        | inl k ↦ subst (λ mark. AlikeTold A (to_finish r) (verdict i (f (end_of a))) (verdict mark (f (end_of a)))) (one_verdict kind a b (g (q ∙ k)) w z) same_told
        | inr k ↦ other_mark k
      ])

  same_call_told : {l : Option (List ℕ)} {o o' : Option Frame} (call : Order) {x y : Said M} → AlikeFrames A o o'
      → Due make kind size meter l o call x → Due make kind size meter l o' call y → AlikeTold A call x y
  same_call_told (to_load p) f d k = told_as (load_told f d k)
  same_call_told (to_begin r m) f d k = told_as (begin_told f d k)
  same_call_told (to_feed r c) f d k = told_as (feed_told f d k)
  same_call_told (to_finish r) f d k = finish_told f d k
  same_call_told (to_drop r) f d k = told_as (drop_told f d k)
  same_call_told to_meter f meter_read meter_read = same_told

  -- alike frames and alike calls are told alike
  pub alike_told : {l : Option (List ℕ)} {o o' : Option Frame} {call call' : Order} {x y : Said M} → AlikeFrames A o o' → AlikeCalls A call call'
      → Due make kind size meter l o call x → Due make kind size meter l o' call' y → AlikeTold A call x y
  alike_told f (same_call {call}) d k = same_call_told call f d k
  alike_told f (other_byte n) d k = told_as (feed_told f d k)

-- who finishes a frame
asker : Order → ℕ
asker (to_load p) = 0
asker (to_begin r m) = 0
asker (to_feed r c) = 0
asker (to_finish r) = r
asker (to_drop r) = 0
asker to_meter = 0

settle : {M : Type 0} {A : ℕ} {call : Order} {x y : Said M} → AlikeTold A call x y → asker call ≡ A → x ≡ y
unfolding asker
settle same_told e = refl
settle (other_mark n) e = absurd (n e)

pub told_once : (M X : Type 0) → EachCallIsToldOneThing M X
told_once M X make kind size meter l o call x y d k = settle (alike_told (same_frames (asker call) o) same_call d k) refl
