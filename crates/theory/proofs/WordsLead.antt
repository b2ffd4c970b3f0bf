-- Each word of a tree leads through it.
use Rattle.std.proofs.Common.{◌≡◌, ℕ, zero, suc, ◌+◌, ◌⊎◌, List, [], ◌++◌, sym, refl, ap, ◌∙◌, subst, inl, inr, append_assoc, append-nil, arith}
use Rattle.language.specs.Links.{Link, LinksOf, Loops, Skips, branch_end, last_position, loop, onward, opt_skips, plus_loops, size, skip, star_loops, star_skips}
use Rattle.language.specs.Patterns.{Sort, Tree, alternatives, empty, group, letter, once, only, repeated, ◌or◌, ◌then◌}
use Rattle.language.specs.Ways.{Leads, ReadsAt, along, over, stay}
use Rattle.language.specs.Words.{Allows, Language, Times, WordsOver}
use Rattle.syntax.specs.declared.Letter.{Letter}
use Rattle.syntax.specs.declared.Sign.{Sign}
use Rattle.syntax.specs.declared.Sign.TheVariants.{Opt, Plus, Star}
use Rattle.theory.proofs.Bounds.{Entry}
use Rattle.theory.proofs.Crossing.{Crosses, crossed_reads, leads_over}

pub may_skip : (g : Sign) → Allows g 0 → Skips g
may_skip Star h = star_skips
may_skip Plus h = let z : ⊥ = omega arith in absurd z
may_skip Opt h = opt_skips

pub may_loop : (g : Sign) (n : ℕ) → Allows g (suc n) → (n ≡ 0) ⊎ Loops g
may_loop Star n h = inr star_loops
may_loop Plus n h = inr plus_loops
may_loop Opt n h = inl (omega arith)

module _ {A : Type 0} (reads : Letter → A → Type 0) where
  module _ (G : ℕ → ℕ → Type 0) (M : ℕ → A → Type 0) (o : ℕ) where
    abbrev To : List A → ℕ → Type 0
    To w j = Leads G M o w j

    -- the same path, its word and its end said otherwise
    moved : {v z : List A} {j k : ℕ} → z ≡ v → k ≡ j → To v j → To z k
    moved {v} {z} {j} {k} e f l = subst (λ x. To x k) (sym e) (subst (λ x. To v x) (sym f) l)

    at : {v : List A} {j : ℕ} → To v j → (k : ℕ) → k ≡ j → To v k
    at l k e = moved refl e l

    -- the rounds of a repeat sign at j after its operand, which starts at q
    rounds : (L : Language A) (g : Sign) (q j : ℕ)
        → (Loops g → G j q)
        → ((v u : List A) → L u → To v q → To (v ++ u) j)
        → (n : ℕ) → (n ≡ 0) ⊎ Loops g → (v w : List A) → Times L n w → To v j → To (v ++ w) j
    rounds L g q j back round zero h v w e l = moved (ap (λ x. v ++ x) e ∙ append-nil v) refl l
    rounds L g q j back round (suc n) (inl e) v w t l = let z : ⊥ = omega arith in absurd z
    rounds L g q j back round (suc n) (inr h) v w (u, x, e, lu, lx) l =
        let first : To (v ++ u) j = round v u lu (along l (back h)) in
        moved (ap (λ y. v ++ y) e ∙ sym (append_assoc v u x)) refl (rounds L g q j back round n (inr h) (v ++ u) x lx first)

    -- from the first Bar, or the end, to the end
    bars : (t : Tree alternatives) (p q : ℕ) → q ≡ p + size t → ((i k : ℕ) → Link t p i k → G i k) → (w : List A) → To w (branch_end t p) → To w q
    bars (only b) p q e links w l = moved refl e l
    bars (b or t) p q e links w l =
        bars t (suc (p + size b)) q (omega arith) (λ i k h. links i k (inr (inr h))) w (along l (links (p + size b) (branch_end t (suc (p + size b))) (inr (inl (refl, refl)))))

    lead : {s : Sort} (t : Tree s) (p q : ℕ) → q ≡ p + size t
        → ((i k : ℕ) → Link t p i k → G i k) → ((j : ℕ) (c : A) → Crosses reads t p j c → M j c)
        → (v w : List A) → ((k : ℕ) → Entry t p k → To v k) → WordsOver reads t w → To (v ++ w) q
    lead (letter l) p q e links takes v w start (a, h, m) =
        moved (ap (λ x. v ++ x) m) (omega arith) (over (start p refl) (takes p a (refl, h)))
    lead (group t) p q e links takes v w start m =
        let close : ℕ = suc p + size t in
        let inner : To (v ++ w) close =
        lead t (suc p) close refl (λ i k h. links i k (inr (inl h))) takes v w (λ k h. along (start p refl) (links p k (inl (refl, h)))) m in
        moved refl (omega arith) (along inner (links close (suc close) (inr (inr (refl, refl)))))
    lead (once a) p q e links takes v w start m = lead a p q e links takes v w start m
    lead (repeated a g) p q e links takes v w start (zero, h, m) =
        let sign : ℕ = p + size a in
        let skipped : To v sign = along (start p refl) (links p sign (inr (skip (may_skip g h) refl refl))) in
        moved (ap (λ x. v ++ x) m ∙ append-nil v) (omega arith) (along skipped (links sign (suc sign) (inr (onward refl refl))))
    lead (repeated a g) p q e links takes v w start (suc n, h, (u, z, f, lu, lz)) =
        let sign : ℕ = p + size a in
        let round : (v u : List A) → WordsOver reads a u → To v p → To (v ++ u) sign =
        λ v u m l. lead a p sign refl (λ i k h. links i k (inl h)) takes v u (at l) m in
        let last : To ((v ++ u) ++ z) sign =
        rounds (WordsOver reads a) g p sign (λ h. links sign p (inr (loop h refl refl))) round n (may_loop g n h) (v ++ u) z lz (round v u lu (start p refl)) in
        moved (ap (λ y. v ++ y) f ∙ sym (append_assoc v u z)) (omega arith) (along last (links sign (suc sign) (inr (onward refl refl))))
    lead empty p q e links takes v w start m = moved (ap (λ x. v ++ x) m ∙ append-nil v) (omega arith) (start p refl)
    lead (x then y) p q e links takes v w start (u, z, f, lx, ly) =
        let mid : ℕ = p + size x in
        let first : To (v ++ u) mid = lead x p mid refl (λ i k h. links i k (inl h)) (λ j c h. takes j c (inl h)) v u start lx in
        let all : To ((v ++ u) ++ z) q = lead y mid q (omega arith) (λ i k h. links i k (inr h)) (λ j c h. takes j c (inr h)) (v ++ u) z (at first) ly in
        moved (ap (λ y. v ++ y) f ∙ sym (append_assoc v u z)) refl all
    lead (only b) p q e links takes v w start m = lead b p q e links takes v w start m
    lead (b or t) p q e links takes v w start (inl m) =
        let bar : ℕ = p + size b in
        let first : To (v ++ w) bar = lead b p bar refl (λ i k h. links i k (inl h)) (λ j c h. takes j c (inl h)) v w (λ k h. start k (inl h)) m in
        bars t (suc bar) q (omega arith) (λ i k h. links i k (inr (inr h))) (v ++ w) (along first (links bar (branch_end t (suc bar)) (inr (inl (refl, refl)))))
    lead (b or t) p q e links takes v w start (inr m) =
        lead t (suc (p + size b)) q (omega arith) (λ i k h. links i k (inr (inr h))) (λ j c h. takes j c (inr h)) v w (λ k h. start k (inr h)) m

  pub words_lead : (t : Tree alternatives) (w : List A) → WordsOver reads t w → Leads (LinksOf t) (ReadsAt reads t) 0 w (last_position t)
  words_lead t w m =
      leads_over (crossed_reads reads t)
      (lead (LinksOf t) (Crosses reads (group t) 0) 0 (group t) 0 (size (group t)) (omega arith) (λ i k h. h) (λ j c h. h) [] w
      (λ k e. subst (λ x. Leads (LinksOf t) (Crosses reads (group t) 0) 0 [] x) (sym e) stay) m)
