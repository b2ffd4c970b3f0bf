-- Each way through a tree spells a word of it.
use Rattle.std.proofs.Common.{◌≡◌, ℕ, suc, ◌+◌, ◌<◌, ◌≤◌, List, [], ◌∷◌, ◌++◌, sym, refl, ap, ◌∙◌, subst, inl, inr, append_assoc, append-nil, arith}
use Rattle.language.specs.Links.{BranchStart, Link, LinksOf, Loops, Skips, branch_end, last_position, loop, onward, size, skip}
use Rattle.language.specs.Patterns.{Sort, Tree, alternatives, atom, branch, empty, group, letter, once, only, piece, repeated, ◌or◌, ◌then◌}
use Rattle.language.specs.Ways.{Leads, ReadsAt, along, over, stay}
use Rattle.language.specs.Words.{Allows, Language, Times, WordsOver, ◌·◌}
use Rattle.syntax.specs.declared.Letter.{Letter}
use Rattle.syntax.specs.declared.Sign.{Sign}
use Rattle.syntax.specs.declared.Sign.TheVariants.{Opt, Plus, Star}
use Rattle.theory.proofs.Bounds.{Entry, Stop, atom_size, atom_to, begins_in, branch_end_in, link_in, takes_in}
use Rattle.theory.proofs.Crossing.{Crosses, leads_over, reads_crossed}
use native.Mathlib.Decide.{dec_lt}

-- concatenation groups as one likes
regroup : {A : Type 0} (L M K : Language A) (w : List A) → (L · (M · K)) w → ((L · M) · K) w
regroup L M K w (u, v, e, l, (m, k, f, lm, lk)) =
    (u ++ m, k, e ∙ ap (λ z. u ++ z) f ∙ sym (append_assoc u m k), (u, m, refl, l, lm), lk)

module _ {A : Type 0} (reads : Letter → A → Type 0) where
  -- a language for each position
  abbrev pub Labels : Type 1
  Labels = ℕ → Language A

  -- P below m, and Q from m on
  pub data Joined (m : ℕ) (P Q : Labels) (i : ℕ) (w : List A) : Type 0 where
    before : i < m → P i w → Joined m P Q i w
    after : m ≤ i → Q i w → Joined m P Q i w

  pub low : {m i : ℕ} {P Q : Labels} {w : List A} → Joined m P Q i w → i < m → P i w
  low (before h x) l = x
  low (after h x) l = let z : ⊥ = omega arith in absurd z

  pub high : {m i : ℕ} {P Q : Labels} {w : List A} → Joined m P Q i w → m ≤ i → Q i w
  high (before h x) l = let z : ⊥ = omega arith in absurd z
  high (after h x) l = x

  -- below or at m, where Q at m gives P at m
  pub seam : {m i : ℕ} {P Q : Labels} {w : List A} → (Q m w → P m w) → Joined m P Q i w → i ≤ m → P i w
  seam f (before h x) l = x
  seam {m} {i} {P} {Q} {w} f (after h x) l =
      let e : i ≡ m = omega arith in
      subst (λ k. P k w) (sym e) (f (subst (λ k. Q k w) e x))

  -- the words with which each position of t, which stands from p to q, comes to q and goes on in K
  pub record Labelled {s : Sort} (t : Tree s) (p q : ℕ) (K : Language A) : Type 1 where
    pub R : Labels
    pub link : (i k : ℕ) (w : List A) → Link t p i k → R k w → R i w
    pub move : (j : ℕ) (c : A) (w : List A) → Crosses reads t p j c → R (suc j) w → R j (c ∷ w)
    pub enter : (w : List A) → K w → R q w
    pub leave : (k : ℕ) (w : List A) → Stop t p k → R k w → K w
    pub start : (k : ℕ) (w : List A) → Entry t p k → R k w → (WordsOver reads t · K) w

  labelled_letter : (l : Letter) (p q : ℕ) → q ≡ p + 1 → (K : Language A) → Labelled (letter l) p q K
  labelled_letter l p q e K =
      record {
        R = Joined (suc p) (λ i. WordsOver reads (letter l) · K) (λ i. K);
        link = λ i k w z r. absurd z;
        move = λ j c w m r. before (omega arith) (c ∷ [], w, refl, (c, m.1, refl), high r (omega arith));
        enter = λ w x. after (omega arith) x;
        leave = λ k w f r. high r (omega arith);
        start = λ k w f r. low r (omega arith);
      }

  labelled_empty : (p q : ℕ) → q ≡ p + 0 → (K : Language A) → Labelled empty p q K
  labelled_empty p q e K =
      record {
        R = λ i. K;
        link = λ i k w l r. absurd l;
        move = λ j c w m r. absurd m;
        enter = λ w x. x;
        leave = λ k w f r. r;
        start = λ k w f r. ([], w, refl, refl, r);
      }

  module _ (t : Tree alternatives) (p q : ℕ) (e : q ≡ p + size (group t)) (K : Language A) (N : Labelled t (suc p) (suc p + size t) K) where
    group_R : Labels
    group_R = Joined (suc p) (λ i. WordsOver reads t · K) (Joined (suc p + size t) N.R (λ i. K))

    group_inside : (k : ℕ) (w : List A) → suc p ≤ k → k ≤ suc p + size t → group_R k w → N.R k w
    unfolding group_R
    group_inside k w f g r = seam (N.enter w) (high r f) g

    group_link : (i k : ℕ) (w : List A) → Link (group t) p i k → group_R k w → group_R i w
    unfolding group_R
    group_link i k w (inl (f, l)) r =
        let h = begins_in t (suc p) k l in
        before (omega arith) (N.start k w l (group_inside k w h.low h.high r))
    group_link i k w (inr (inl l)) r =
        let h = link_in t (suc p) i k l in
        after h.from_low (before h.from_high (N.link i k w l (group_inside k w h.to_low h.to_high r)))
    group_link i k w (inr (inr (f, g))) r =
        after (omega arith) (after (omega arith) (high (high r (omega arith)) (omega arith)))

    labelled_group : Labelled (group t) p q K
    unfolding group_R
    labelled_group =
        record {
          R = group_R;
          link = group_link;
          move = λ j c w m r.
              let h = takes_in reads t (suc p) j c m in
              after h.0 (before h.1 (N.move j c w m (group_inside (suc j) w (omega arith) (omega arith) r)));
          enter = λ w x. after (omega arith) (after (omega arith) x);
          leave = λ k w f r. high (high r (omega arith)) (omega arith);
          start = λ k w f r. low r (omega arith);
        }

  module _ (x : Tree piece) (y : Tree branch) (p q : ℕ) (e : q ≡ p + size (x then y)) (K : Language A)
      (X : Labelled x p (p + size x) (WordsOver reads y · K)) (Y : Labelled y (p + size x) q K) where
    then_R : Labels
    then_R = Joined (p + size x) X.R Y.R

    then_first : (k : ℕ) (w : List A) → k ≤ p + size x → then_R k w → X.R k w
    unfolding then_R
    then_first k w h r = seam (λ z. X.enter w (Y.start (p + size x) w refl z)) r h

    then_link : (i k : ℕ) (w : List A) → Link (x then y) p i k → then_R k w → then_R i w
    unfolding then_R
    then_link i k w (inl l) r =
        let h = link_in x p i k l in
        before h.from_high (X.link i k w l (then_first k w h.to_high r))
    then_link i k w (inr l) r =
        let h = link_in y (p + size x) i k l in
        after h.from_low (Y.link i k w l (high r h.to_low))

    then_move : (j : ℕ) (c : A) (w : List A) → Crosses reads (x then y) p j c → then_R (suc j) w → then_R j (c ∷ w)
    unfolding then_R
    then_move j c w (inl m) r =
        let h = takes_in reads x p j c m in
        before h.1 (X.move j c w m (then_first (suc j) w h.1 r))
    then_move j c w (inr m) r =
        let h = takes_in reads y (p + size x) j c m in
        after h.0 (Y.move j c w m (high r (omega arith)))

    labelled_then : Labelled (x then y) p q K
    unfolding then_R
    labelled_then =
        record {
          R = then_R;
          link = then_link;
          move = then_move;
          enter = λ w z. after (omega arith) (Y.enter w z);
          leave = λ k w f r. Y.leave k w (omega arith) (high r (omega arith));
          start = λ k w f r. regroup (WordsOver reads x) (WordsOver reads y) K w (X.start k w f (then_first k w (omega arith) r));
        }

  module _ (b : Tree branch) (t : Tree alternatives) (p q : ℕ) (e : q ≡ p + size (b or t)) (K : Language A)
      (B : Labelled b p (p + size b) K) (T : Labelled t (suc (p + size b)) q K) where
    or_R : Labels
    or_R = Joined (p + size b) B.R (Joined (suc (p + size b)) (λ i. K) T.R)

    or_first : (k : ℕ) (w : List A) → k ≤ p + size b → or_R k w → B.R k w
    unfolding or_R
    or_first k w h r = seam (λ z. B.enter w (low z (omega arith))) r h

    or_later : (k : ℕ) (w : List A) → suc (p + size b) ≤ k → or_R k w → T.R k w
    unfolding or_R
    or_later k w h r = high (high r (omega arith)) h

    or_link : (i k : ℕ) (w : List A) → Link (b or t) p i k → or_R k w → or_R i w
    unfolding or_R
    or_link i k w (inl l) r =
        let h = link_in b p i k l in
        before h.from_high (B.link i k w l (or_first k w h.to_high r))
    or_link i k w (inr (inl (f, g))) r =
        let h = branch_end_in t (suc i) in
        let s : k ≡ branch_end t (suc (p + size b)) = g ∙ ap (λ z. branch_end t (suc z)) f in
        after (omega arith) (before (omega arith) (T.leave k w s (or_later k w (omega arith) r)))
    or_link i k w (inr (inr l)) r =
        let h = link_in t (suc (p + size b)) i k l in
        after (omega arith) (after h.from_low (T.link i k w l (or_later k w h.to_low r)))

    or_move : (j : ℕ) (c : A) (w : List A) → Crosses reads (b or t) p j c → or_R (suc j) w → or_R j (c ∷ w)
    unfolding or_R
    or_move j c w (inl m) r =
        let h = takes_in reads b p j c m in
        before h.1 (B.move j c w m (or_first (suc j) w h.1 r))
    or_move j c w (inr m) r =
        let h = takes_in reads t (suc (p + size b)) j c m in
        after (omega arith) (after h.0 (T.move j c w m (or_later (suc j) w (omega arith) r)))

    or_start : (k : ℕ) (w : List A) → BranchStart (b or t) p k → or_R k w → (WordsOver reads (b or t) · K) w
    or_start k w (inl f) r =
        let (u, v, s, l, z) = B.start k w f (or_first k w (omega arith) r) in
        (u, v, s, inl l, z)
    or_start k w (inr f) r =
        let h = begins_in t (suc (p + size b)) k f in
        let (u, v, s, l, z) = T.start k w f (or_later k w h.low r) in
        (u, v, s, inr l, z)

    labelled_or : Labelled (b or t) p q K
    unfolding or_R
    labelled_or =
        record {
          R = or_R;
          link = or_link;
          move = or_move;
          enter = λ w z. after (omega arith) (after (omega arith) (T.enter w z));
          leave = λ k w f r. low (high r (omega arith)) (omega arith);
          start = or_start;
        }

  -- after n rounds more at its sign, an operand has stood as often as it may
  abbrev More : Sign → ℕ → Type 0
  More Star n = 0 ≤ n
  More Plus n = 0 ≤ n
  More Opt n = n ≡ 0

  more_none : (g : Sign) → More g 0
  more_none Star = omega arith
  more_none Plus = omega arith
  more_none Opt = refl

  more_round : (g : Sign) (n : ℕ) → More g n → Allows g (suc n)
  more_round Star n h = omega arith
  more_round Plus n h = omega arith
  more_round Opt n h = omega arith

  more_skip : (g : Sign) (n : ℕ) → Skips g → More g n → Allows g n
  more_skip Star n s h = h
  more_skip Plus n s h = elim s [ ]
  more_skip Opt n s h = omega arith

  more_loop : (g : Sign) (n : ℕ) → Loops g → Allows g n → More g n
  more_loop Star n s h = h
  more_loop Plus n s h = omega arith
  more_loop Opt n s h = elim s [ ]

  -- the words from a repeat sign on
  abbrev Again : Sign → Language A → Language A
  Again g L w = (n : ℕ) × More g n × Times L n w

  module _ (a : Tree atom) (g : Sign) (K : Language A) where
    again_round : (w : List A) → (WordsOver reads a · (Again g (WordsOver reads a) · K)) w → (WordsOver reads (repeated a g) · K) w
    again_round w (u, v, e, l, (x, y, f, (n, h, m), k)) =
        (u ++ x, y, e ∙ ap (λ z. u ++ z) f ∙ sym (append_assoc u x y), (suc n, more_round g n h, (u, x, refl, l, m)), k)

    again_skip : (w : List A) → Skips g → (Again g (WordsOver reads a) · K) w → (WordsOver reads (repeated a g) · K) w
    again_skip w s (u, v, e, (n, h, m), k) = (u, v, e, (n, more_skip g n s h, m), k)

    again_loop : (w : List A) → Loops g → (WordsOver reads (repeated a g) · K) w → (Again g (WordsOver reads a) · K) w
    again_loop w s (u, v, e, (n, h, m), k) = (u, v, e, (n, more_loop g n s h, m), k)

    again_done : (w : List A) → K w → (Again g (WordsOver reads a) · K) w
    again_done w k = ([], w, refl, (0, more_none g, refl), k)

  module _ (a : Tree atom) (g : Sign) (p q : ℕ) (e : q ≡ p + size (repeated a g)) (K : Language A)
      (N : Labelled a p (p + size a) (Again g (WordsOver reads a) · K)) where
    repeated_R : Labels
    repeated_R =
        Joined (suc p) (λ i. WordsOver reads (repeated a g) · K)
        (Joined (p + size a) N.R (Joined (suc (p + size a)) (λ i. Again g (WordsOver reads a) · K) (λ i. K)))

    repeated_inside : (k : ℕ) (w : List A) → p < k → k ≤ p + size a → repeated_R k w → N.R k w
    unfolding repeated_R
    repeated_inside k w f h r = seam (λ z. N.enter w (low z (omega arith))) (high r f) h

    repeated_put : (i : ℕ) (w : List A) → p ≤ i → i < p + size a → N.R i w → repeated_R i w
    unfolding repeated_R
    repeated_put i w f h r =
        elim (dec_lt p i) [ yes l ↦ after l (before h r) | no l ↦ before (omega arith) (again_round a g K w (N.start i w (omega arith) r)) ]

    repeated_link : (i k : ℕ) (w : List A) → Link (repeated a g) p i k → repeated_R k w → repeated_R i w
    unfolding repeated_R
    repeated_link i k w (inl l) r =
        let h = link_in a p i k l in
        repeated_put i w h.from_low h.from_high (N.link i k w l (repeated_inside k w (atom_to a p i k l) h.to_high r))
    repeated_link i k w (inr (onward f h)) r =
        let z = atom_size a in
        after (omega arith) (after (omega arith) (before (omega arith) (again_done a g K w (high (high (high r (omega arith)) (omega arith)) (omega arith)))))
    repeated_link i k w (inr (skip s f h)) r =
        let z = atom_size a in
        before (omega arith) (again_skip a g K w s (low (high (high r (omega arith)) (omega arith)) (omega arith)))
    repeated_link i k w (inr (loop s f h)) r =
        let z = atom_size a in
        after (omega arith) (after (omega arith) (before (omega arith) (again_loop a g K w s (low r (omega arith)))))

    labelled_repeated : Labelled (repeated a g) p q K
    unfolding repeated_R
    labelled_repeated =
        record {
          R = repeated_R;
          link = repeated_link;
          move = λ j c w m r.
              let h = takes_in reads a p j c m in
              repeated_put j (c ∷ w) h.0 h.1 (N.move j c w m (repeated_inside (suc j) w (omega arith) h.1 r));
          enter = λ w x. let z = atom_size a in after (omega arith) (after (omega arith) (after (omega arith) x));
          leave = λ k w f r. let z = atom_size a in high (high (high r (omega arith)) (omega arith)) (omega arith);
          start = λ k w f r. low r (omega arith);
        }

  pub labelled : {s : Sort} (t : Tree s) (p q : ℕ) → q ≡ p + size t → (K : Language A) → Labelled t p q K
  labelled (letter l) p q e K = labelled_letter l p q e K
  labelled (group t) p q e K = labelled_group t p q e K (labelled t (suc p) (suc p + size t) refl K)
  labelled (once a) p q e K =
      let N = labelled a p q e K in
      record { R = N.R; link = N.link; move = N.move; enter = N.enter; leave = N.leave; start = N.start }
  labelled (repeated a g) p q e K = labelled_repeated a g p q e K (labelled a p (p + size a) refl (Again g (WordsOver reads a) · K))
  labelled empty p q e K = labelled_empty p q e K
  labelled (x then y) p q e K =
      labelled_then x y p q e K (labelled x p (p + size x) refl (WordsOver reads y · K)) (labelled y (p + size x) q (omega arith) K)
  labelled (only b) p q e K =
      let B = labelled b p q e K in
      record { R = B.R; link = B.link; move = B.move; enter = B.enter; leave = B.leave; start = B.start }
  labelled (b or t) p q e K =
      labelled_or b t p q e K (labelled b p (p + size b) refl K) (labelled t (suc (p + size b)) q (omega arith) K)

  module _ (G : ℕ → ℕ → Type 0) (M : ℕ → A → Type 0) (o : ℕ) (R : Labels)
      (link : (i k : ℕ) (w : List A) → G i k → R k w → R i w) (move : (j : ℕ) (c : A) (w : List A) → M j c → R (suc j) w → R j (c ∷ w)) where
    follow : {v : List A} {j : ℕ} → Leads G M o v j → (w : List A) → R j w → R o (v ++ w)
    follow stay w r = r
    follow (along {j = j} {k = k} l h) w r = follow l w (link j k w h r)
    follow (over {w = v} {j = j} {c = c} l h) w r = subst (λ z. R o z) (sym (append_assoc v (c ∷ []) w)) (follow l (c ∷ w) (move j c w h r))

  -- nothing after a word leaves the word
  alone : (L : Language A) (w : List A) → (L · (λ v. v ≡ [])) (w ++ []) → L w
  alone L w (u, v, e, m, z) = subst L (sym (append-nil u) ∙ ap (λ x. u ++ x) (sym z) ∙ sym e ∙ append-nil w) m

  pub ways_spell : (t : Tree alternatives) (w : List A) → Leads (LinksOf t) (ReadsAt reads t) 0 w (last_position t) → WordsOver reads t w
  ways_spell t w l =
      let N = labelled (group t) 0 (size (group t)) (omega arith) (λ v. v ≡ []) in
      let x = leads_over (reads_crossed reads t) l in
      alone (WordsOver reads t) w (N.start 0 (w ++ []) refl (follow (LinksOf t) (Crosses reads (group t) 0) 0 N.R N.link N.move x [] (N.enter [] refl)))
