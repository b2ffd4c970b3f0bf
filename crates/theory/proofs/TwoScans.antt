-- After two scans each cell is the join of the cells from which links led to it.
use Rattle.std.proofs.Common.{◌≡◌, ℕ, zero, suc, ◌<◌, ◌≤◌, ◌⊎◌, List, length, get_or, Some, None, Option, sym, refl, ap, ◌∙◌, subst, inl, inr, arith}
use Rattle.language.specs.Links.{LinksOf, Predecessors, last_position}
use Rattle.language.specs.Patterns.{Tree, alternatives, group}
use Rattle.language.specs.Ways.{Chain, here, on}
use Rattle.mark.specs.Joins.{Contained, JoinOf}
use Rattle.mark.specs.Marks.{Laws}
use Rattle.method.proofs.Others.{leave_others}
use Rattle.method.specs.Cells.{scanned, settled, source}
use Rattle.theory.proofs.Bounds.{link_in}
use Rattle.theory.proofs.Joins.{Made, join_of, made_each, made_is, made_join, made_one, under_left, under_refl, under_right, under_trans}
use Rattle.theory.proofs.OneBack.{Rises, Twice, level, two_scans, up}
use Rattle.theory.proofs.Scan.{Scanned, Seen, scan_does}
use Rattle.theory.specs.Meaning.{Behind}
use Rattle.theory.specs.Theorems.{TwoScansSuffice}
use native.Mathlib.Decide.{dec_le}

module _ (t : Tree alternatives) where
  abbrev G : ℕ → ℕ → Type 0
  G = LinksOf t

  abbrev end : ℕ
  end = last_position t

  pub chain_end : {i k : ℕ} → Chain (LinksOf t) i k → k ≤ last_position t → i ≤ last_position t
  chain_end here h = h
  chain_end (on {j = j} {k = k} c l) h = let e = link_in (group t) 0 j k l in chain_end c (omega arith)

  source_links : (k : ℕ) (o : Option ℕ) → ((i : ℕ) → o ≡ Some i → G i k) → (source o k ≡ k) ⊎ G (source o k) k
  source_links k None f = inl refl
  source_links k (Some i) f = inr (f i refl)

  module _ {M : Type 0} (join : M → M → M) (nothing : M) (laws : Laws join nothing) (first second : ℕ → Option ℕ)
      (tells : (k : ℕ) → k ≤ last_position t → Predecessors (LinksOf t) k (first k) (second k)) where
    infix 50 ◌⊑◌
    abbrev ◌⊑◌ : M → M → Type 0
    x ⊑ y = Contained join x y

    trans : {x y z : M} → x ⊑ y → y ⊑ z → x ⊑ z
    trans {x} {y} {z} p q = under_trans join nothing laws x y z p q

    abbrev from_first : ℕ → ℕ
    from_first k = source (first k) k

    abbrev from_second : ℕ → ℕ
    from_second k = source (second k) k

    first_links : (k : ℕ) → k ≤ end → (from_first k ≡ k) ⊎ G (from_first k) k
    first_links k h = source_links k (first k) (λ i e. ((tells k h).all i).1 (inl e))

    second_links : (k : ℕ) → k ≤ end → (from_second k ≡ k) ⊎ G (from_second k) k
    second_links k h = source_links k (second k) (λ i e. ((tells k h).all i).1 (inr e))

    each : (i k : ℕ) → G i k → (from_first k ≡ i) ⊎ (from_second k ≡ i)
    each i k l =
        let b = link_in (group t) 0 i k l in
        elim (((tells k (omega arith)).all i).0 l) [ inl e ↦ inl (ap (λ o. source o k) e) | inr e ↦ inr (ap (λ o. source o k) e) ]

    -- One scan, from cs to ds.
    abbrev Scan : List M → List M → Type 0
    Scan cs ds = (k : ℕ) → k ≤ end → Scanned join nothing cs ds k (from_first k) (from_second k)

    abbrev cell : List M → ℕ → M
    cell cs k = get_or cs k nothing

    grows : {cs ds : List M} → Scan cs ds → (k : ℕ) → k ≤ end → cell cs k ⊑ cell ds k
    grows {cs} {ds} s k h =
        let t = s k h in
        rw t.is (trans (under_left join nothing laws (cell cs k) t.x) (under_left join nothing laws (join (cell cs k) t.x) t.y))

    x_under : {cs ds : List M} (s : Scan cs ds) (k : ℕ) (h : k ≤ end) → (s k h).x ⊑ cell ds k
    x_under {cs} {ds} s k h =
        let t = s k h in
        rw t.is (trans (under_right join nothing laws (cell cs k) t.x) (under_left join nothing laws (join (cell cs k) t.x) t.y))

    y_under : {cs ds : List M} (s : Scan cs ds) (k : ℕ) (h : k ≤ end) → (s k h).y ⊑ cell ds k
    y_under {cs} {ds} s k h =
        let t = s k h in
        rw t.is (under_right join nothing laws (join (cell cs k) t.x) t.y)

    new_under : {cs ds : List M} {k p i : ℕ} {x z : M} → Seen nothing cs ds k p x → p ≡ i → i < k → x ⊑ z → cell ds i ⊑ z
    new_under {cs} {ds} {k} {p} {i} {x} {z} s e far h = subst (λ v. v ⊑ z) (s.new (omega arith) ∙ ap (cell ds) e) h

    old_under : {cs ds : List M} {k p i : ℕ} {x z : M} → Seen nothing cs ds k p x → p ≡ i → k ≤ i → x ⊑ z → cell cs i ⊑ z
    old_under {cs} {ds} {k} {p} {i} {x} {z} s e far h = subst (λ v. v ⊑ z) (s.old (omega arith) ∙ ap (cell cs) e) h

    -- A link forwards is closed by any scan.
    forward : {cs ds : List M} → Scan cs ds → (i k : ℕ) → G i k → i < k → cell ds i ⊑ cell ds k
    forward {cs} {ds} s i k l far =
        let b = link_in (group t) 0 i k l in
        let h : k ≤ end = omega arith in
        elim (each i k l) [
          | inl e ↦ new_under (s k h).x_seen e far (x_under s k h)
          | inr e ↦ new_under (s k h).y_seen e far (y_under s k h)
        ]

    -- A link backwards brings what was there before the scan.
    backward : {cs ds : List M} → Scan cs ds → (i k : ℕ) → G i k → k ≤ i → cell cs i ⊑ cell ds k
    backward {cs} {ds} s i k l far =
        let b = link_in (group t) 0 i k l in
        let h : k ≤ end = omega arith in
        elim (each i k l) [
          | inl e ↦ old_under (s k h).x_seen e far (x_under s k h)
          | inr e ↦ old_under (s k h).y_seen e far (y_under s k h)
        ]

    -- Any link brings what was there before the scan.
    brings : {cs ds : List M} → Scan cs ds → (i k : ℕ) → G i k → cell cs i ⊑ cell ds k
    brings s i k l =
        let b = link_in (group t) 0 i k l in
        elim (dec_le k i) [
          | yes d ↦ backward s i k l d
          | no d ↦ trans (grows s i (omega arith)) (forward s i k l (omega arith))
        ]

    along : {cs ds : List M} → Scan cs ds → {i k : ℕ} → Rises G i k → cell ds i ⊑ cell ds k
    along {ds = ds} s {i} level = under_refl join nothing laws (cell ds i)
    along s (up {j = j} {k = k} p l h) = trans (along s p) (forward s j k l h)

    -- Two scans bring each cell to wherever links lead from it.
    reaches : {cs ds es : List M} → Scan cs ds → Scan ds es → (i k : ℕ) → i ≤ end → Twice G i k → cell cs i ⊑ cell es k
    reaches s u i k h (inl p) = trans (grows s i h) (trans (grows u i h) (along u p))
    reaches s u i k h (inr (j, q, p, l, r)) = trans (grows s i h) (trans (along s p) (trans (brings u j q l) (along u r)))

    -- Cell k of cs is made of cells of `from` from which links lead to k.
    abbrev Makes : List M → ℕ → M → Type 0
    Makes from k m = Made join nothing (λ (i : Behind t k). get_or from i.position nothing) m

    onward : (from : List M) (p k : ℕ) (m : M) → G p k → Makes from p m → Makes from k m
    onward from p k m l =
        made_each join nothing laws (λ (i : Behind t p). get_or from i.position nothing) (λ (i : Behind t k). get_or from i.position nothing)
        (λ i. made_one join nothing laws (λ (i : Behind t k). get_or from i.position nothing) (record { position = i.position; chain = on i.chain l }))

    module _ (from cs ds : List M) (s : Scan cs ds) (old : (k : ℕ) → k ≤ end → Makes from k (cell cs k)) where
      seen_made : {k p : ℕ} {x : M} → Seen nothing cs ds k p x → k ≤ end → (p ≡ k) ⊎ G p k →
          ((n : ℕ) → n < k → n ≤ end → Makes from n (cell ds n)) → Makes from k x
      seen_made {k} {p} {x} sn h (inl e) ih = subst (Makes from k) (sym (sn.old (omega arith) ∙ ap (cell cs) e)) (old k h)
      seen_made {k} {p} {x} sn h (inr l) ih =
          let b = link_in (group t) 0 p k l in
          elim (dec_le k p) [
            | yes d ↦ onward from p k x l (subst (Makes from p) (sym (sn.old d)) (old p (omega arith)))
            | no d ↦ let u : p < k = omega arith in onward from p k x l (subst (Makes from p) (sym (sn.new u)) (ih p u (omega arith)))
          ]

      made_below : (n k : ℕ) → k < n → k ≤ end → Makes from k (cell ds k)
      made_below zero k g h = absurd (omega arith)
      made_below (suc n) k g h =
          let u = s k h in
          let ih : (m : ℕ) → m < k → m ≤ end → Makes from m (cell ds m) = λ m a b. made_below n m (omega arith) b in
          made_is join nothing laws (λ (i : Behind t k). get_or from i.position nothing) u.is
          (made_join join nothing laws (λ (i : Behind t k). get_or from i.position nothing)
          (made_join join nothing laws (λ (i : Behind t k). get_or from i.position nothing) (old k h) (seen_made u.x_seen h (first_links k h) ih))
          (seen_made u.y_seen h (second_links k h) ih))

      scan_made : (k : ℕ) → k ≤ end → Makes from k (cell ds k)
      scan_made k h = made_below (suc k) k (omega arith) h

    first_made : (cs : List M) (k : ℕ) → k ≤ end → Makes cs k (cell cs k)
    first_made cs k h = made_one join nothing laws (λ (i : Behind t k). get_or cs i.position nothing) (record { position = k; chain = here })

    -- Two scans make of each cell the join of the cells from which links lead to it.
    pub settles : (cs : List M) → last_position t < length cs → (k : ℕ) → k ≤ last_position t
        → JoinOf join nothing (λ (i : Behind t k). get_or cs i.position nothing) (get_or (settled join nothing first second (last_position t) cs) k nothing)
    settles cs e k h =
        let ds = scanned join nothing first second end cs in
        let es = scanned join nothing first second end ds in
        let f = ((leave_others M).scanning join nothing first second end cs).long in
        let s : Scan cs ds = scan_does join nothing first second end cs e in
        let u : Scan ds es = scan_does join nothing first second end ds (omega arith) in
        join_of join nothing laws (λ (i : Behind t k). get_or cs i.position nothing)
        (λ i. reaches s u i.position k (chain_end i.chain h) (two_scans t i.position k i.chain))
        (scan_made cs ds es u (scan_made cs cs ds s (first_made cs)) k h)

pub two_scans_suffice : (M : Type 0) → TwoScansSuffice M
two_scans_suffice M join nothing laws t n first second takes tells cells h k g =
    let e : last_position t ≡ n = sym tells.ends in
    subst (λ z. JoinOf join nothing (λ (b : Behind t k). get_or cells b.position nothing) (get_or (settled join nothing first second z cells) k nothing)) e
    (settles t join nothing laws first second (λ i l. tells.links i (omega arith)) cells (omega arith) k (omega arith))
