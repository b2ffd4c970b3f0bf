-- What one scan does to each cell.
use Rattle.std.proofs.Common.{◌≡◌, ℕ, zero, suc, ◌+◌, ◌<◌, ◌≤◌, List, length, get_or, Option, sym, refl, ap, ◌∙◌, subst, arith, length-set, get_or-set_other, get_or-set_same}
use Rattle.method.specs.Cells.{joined_at, scan_from, scanned, source}
use native.Mathlib.Decide.{dec_le}

-- What a scan from cs to ds meets at p when it comes to k.
pub record Seen {M : Type 0} (nothing : M) (cs ds : List M) (k p : ℕ) (x : M) : Type 0 where
  pub new : p < k → x ≡ get_or ds p nothing
  pub old : k ≤ p → x ≡ get_or cs p nothing

pub record Scanned {M : Type 0} (join : M → M → M) (nothing : M) (cs ds : List M) (k p q : ℕ) : Type 0 where
  pub x : M
  pub y : M
  pub is : get_or ds k nothing ≡ join (join (get_or cs k nothing) x) y
  pub x_seen : Seen nothing cs ds k p x
  pub y_seen : Seen nothing cs ds k q y

module _ {M : Type 0} (join : M → M → M) (nothing : M) (first second : ℕ → Option ℕ) where
  written_other : (cs : List M) (j k : ℕ) → ¬ (k ≡ j) → get_or (joined_at join nothing first second cs j) k nothing ≡ get_or cs k nothing
  unfolding joined_at
  written_other cs j k h = get_or-set_other cs j k _ nothing h

  written_same : (cs : List M) (j : ℕ) → j < length cs →
      get_or (joined_at join nothing first second cs j) j nothing ≡ join (join (get_or cs j nothing) (get_or cs (source (first j) j) nothing)) (get_or cs (source (second j) j) nothing)
  unfolding joined_at
  written_same cs j h = get_or-set_same cs j _ nothing h

  length_written : (cs : List M) (j : ℕ) → length (joined_at join nothing first second cs j) ≡ length cs
  unfolding joined_at
  length_written cs j = length-set cs j _

  keeps : (m j : ℕ) (cs : List M) (k : ℕ) → k < j → get_or (scan_from join nothing first second m j cs) k nothing ≡ get_or cs k nothing
  unfolding scan_from
  keeps zero j cs k h = refl
  keeps (suc m) j cs k h = keeps m (suc j) (joined_at join nothing first second cs j) k (omega arith) ∙ written_other cs j k (omega arith)

  seen_here : (m j : ℕ) (cs : List M) (p : ℕ) →
      Seen nothing cs (scan_from join nothing first second m (suc j) (joined_at join nothing first second cs j)) j p (get_or cs p nothing)
  seen_here m j cs p = record {
    new = λ g. sym (keeps m (suc j) (joined_at join nothing first second cs j) p (omega arith) ∙ written_other cs j p (omega arith));
    old = λ g. refl;
  }

  scanned_here : (m j : ℕ) (cs : List M) → j < length cs →
      Scanned join nothing cs (scan_from join nothing first second m (suc j) (joined_at join nothing first second cs j)) j (source (first j) j) (source (second j) j)
  scanned_here m j cs h = record {
    x = get_or cs (source (first j) j) nothing;
    y = get_or cs (source (second j) j) nothing;
    is = keeps m (suc j) (joined_at join nothing first second cs j) j (omega arith) ∙ written_same cs j h;
    x_seen = seen_here m j cs (source (first j) j);
    y_seen = seen_here m j cs (source (second j) j);
  }

  seen_later : {cs ds : List M} {j k p : ℕ} {x : M} → j < k → Seen nothing (joined_at join nothing first second cs j) ds k p x → Seen nothing cs ds k p x
  seen_later {cs} {ds} {j} {k} {p} h s = record { new = s.new; old = λ g. s.old g ∙ written_other cs j p (omega arith) }

  scanned_later : {cs ds : List M} {j k p q : ℕ} → j < k →
      Scanned join nothing (joined_at join nothing first second cs j) ds k p q → Scanned join nothing cs ds k p q
  scanned_later {cs} {ds} {j} {k} h s = record {
    x = s.x;
    y = s.y;
    is = s.is ∙ ap (λ c. join (join c s.x) s.y) (written_other cs j k (omega arith));
    x_seen = seen_later h s.x_seen;
    y_seen = seen_later h s.y_seen;
  }

  scanned_from : (m j : ℕ) (cs : List M) → j + m ≤ length cs → (k : ℕ) → j ≤ k → k < j + m →
      Scanned join nothing cs (scan_from join nothing first second m j cs) k (source (first k) k) (source (second k) k)
  unfolding scan_from
  scanned_from zero j cs h k g₁ g₂ = absurd (omega arith)
  scanned_from (suc m) j cs h k g₁ g₂ =
      go (dec_le k j) (λ d. scanned_from m (suc j) (joined_at join nothing first second cs j) (omega (arith, length_written cs j)) k d (omega arith))
    where
      out : List M
      out = scan_from join nothing first second m (suc j) (joined_at join nothing first second cs j)

      go : Dec (k ≤ j) → (suc j ≤ k → Scanned join nothing (joined_at join nothing first second cs j) out k (source (first k) k) (source (second k) k)) →
          Scanned join nothing cs out k (source (first k) k) (source (second k) k)
      go (yes d) ih =
          let e : j ≡ k = omega arith in
          subst (λ n. Scanned join nothing cs out n (source (first n) n) (source (second n) n)) e (scanned_here m j cs (omega arith))
      go (no d) ih = scanned_later (omega arith) (ih (omega arith))

  pub scan_does : (n : ℕ) (cs : List M) → n < length cs → (k : ℕ) → k ≤ n
      → Scanned join nothing cs (scanned join nothing first second n cs) k (source (first k) k) (source (second k) k)
  scan_does n cs h k g = scanned_from (suc n) 0 cs (omega arith) k (omega arith) (omega arith)
