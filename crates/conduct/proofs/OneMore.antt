-- What one more event changes in a history, and what it keeps.
use Rattle.std.proofs.Common.{◌≡◌, ℕ, ◌≤◌, ◌⊎◌, List, [], ◌∷◌, ◌++◌, sym, refl, ap, ◌∙◌, subst, inl, inr, arith}
use Rattle.conduct.specs.Calls.{AcceptedBy, Frame, frame, if_accepted, stopped, stopped_at, to_begin, to_load}
use Rattle.conduct.specs.Histories.{Event, LastLoad, Loads, IsOpenFrame, Turns, Used, bytes_fed, fed_by}
use Rattle.conduct.specs.Rules.{end_of}
use Rattle.language.specs.Patterns.{Accepted}
use Rattle.std.specs.List.{AllByRecursion}

-- a stopped call is not accepted
pub not_stopped : {M A : Type 0} {n : ℕ} → AcceptedBy {M = M} (stopped n) → A
not_stopped x = elim x [ ]

pub not_stopped_at : {M A : Type 0} {n place : ℕ} → AcceptedBy {M = M} (stopped_at n place) → A
not_stopped_at x = elim x [ ]

-- no list with an element is empty
nothing_splits : {A : Type 0} (xs : List A) (x : A) (ys : List A) → [] ≡ xs ++ (x ∷ ys) → ⊥
nothing_splits [] x ys q = let z : ◌≡◌ {A = ℕ} 0 1 = cc in omega arith
nothing_splits (y ∷ xs) x ys q = let z : ◌≡◌ {A = ℕ} 0 1 = cc in omega arith

module _ {M X : Type 0} where
  -- the bytes that an event adds to the open frame
  abbrev pub adds : Event M X → List ℕ
  adds e = if_accepted e.said (fed_by e.call) []

  -- The last load of a longer history is the newest event, or it was the last before.
  pub load_now : {e : Event M X} {h : List (Event M X)} {p : List ℕ} → AcceptedBy e.said → e.call ≡ to_load p → LastLoad (e ∷ h) p
  load_now {e} {h} a c = record { since = []; load = e; before = h; parts = refl; accepted = a; asked = c; no_other = tt }

  pub load_kept : {e : Event M X} {h : List (Event M X)} {p : List ℕ} → ¬ Loads e → LastLoad h p → LastLoad (e ∷ h) p
  load_kept {e} n x = record {
    since = e ∷ x.since;
    load = x.load;
    before = x.before;
    parts = ap (λ k. e ∷ k) x.parts;
    accepted = x.accepted;
    asked = x.asked;
    no_other = (n, x.no_other);
  }

  pub load_split : {e : Event M X} {h : List (Event M X)} {p : List ℕ} → LastLoad (e ∷ h) p → (AcceptedBy e.said × (e.call ≡ to_load p)) ⊎ ((¬ Loads e) × LastLoad h p)
  load_split {e} {h} {p} x = go x.since x.parts x.no_other
    where
      go : (since : List (Event M X)) → e ∷ h ≡ since ++ (x.load ∷ x.before) → AllByRecursion (λ z. ¬ Loads z) since → (AcceptedBy e.said × (e.call ≡ to_load p)) ⊎ ((¬ Loads e) × LastLoad h p)
      go [] q a =
          let s : x.load ≡ e = cc in
          inl (subst (λ z. AcceptedBy z.said) s x.accepted, ap (λ z. z.call) (sym s) ∙ x.asked)
      go (z ∷ since) q a =
          let s : z ≡ e = cc in
          let t : h ≡ since ++ (x.load ∷ x.before) = cc in
          inr (subst (λ y. ¬ Loads y) s a.0, record { since = since; load = x.load; before = x.before; parts = t; accepted = x.accepted; asked = x.asked; no_other = a.1 })

  pub no_load : (p : List ℕ) → ¬ LastLoad {M = M} {X = X} [] p
  no_load p x = nothing_splits x.since x.load x.before x.parts

  -- The newest event begins the frame, or the frame was open before it.
  pub record BegunNow (e : Event M X) (f : Frame) : Type 0 where
    pub accepted : AcceptedBy e.said
    pub asked : e.call ≡ to_begin f.renter f.length
    pub empty : f.bytes ≡ []

  pub record StillOpen (e : Event M X) (h : List (Event M X)) (f : Frame) : Type 0 where
    pub no_turn : ¬ Turns e
    pub bytes : List ℕ
    pub was_open : IsOpenFrame h (frame f.renter f.length bytes)
    pub more : f.bytes ≡ bytes ++ adds e

  pub open_now : {e : Event M X} {h : List (Event M X)} {r m : ℕ} → AcceptedBy e.said → e.call ≡ to_begin r m → IsOpenFrame (e ∷ h) (frame r m [])
  open_now {e} {h} a c = record { since = []; begin = e; before = h; parts = refl; accepted = a; asked = c; no_other = tt; bytes = refl }

  pub open_kept : {e : Event M X} {h : List (Event M X)} {r m : ℕ} {w : List ℕ} → ¬ Turns e → IsOpenFrame h (frame r m w) → IsOpenFrame (e ∷ h) (frame r m (w ++ adds e))
  open_kept {e} n x = record {
    since = e ∷ x.since;
    begin = x.begin;
    before = x.before;
    parts = ap (λ k. e ∷ k) x.parts;
    accepted = x.accepted;
    asked = x.asked;
    no_other = (n, x.no_other);
    bytes = ap (λ k. k ++ adds e) x.bytes;
  }

  pub open_split : {e : Event M X} {h : List (Event M X)} {f : Frame} → IsOpenFrame (e ∷ h) f → BegunNow e f ⊎ StillOpen e h f
  open_split {e} {h} {f} x = go x.since x.parts x.no_other x.bytes
    where
      go : (since : List (Event M X)) → e ∷ h ≡ since ++ (x.begin ∷ x.before) → AllByRecursion (λ z. ¬ Turns z) since → f.bytes ≡ bytes_fed since → BegunNow e f ⊎ StillOpen e h f
      go [] q a b =
          let s : x.begin ≡ e = cc in
          inl (record { accepted = subst (λ z. AcceptedBy z.said) s x.accepted; asked = ap (λ z. z.call) (sym s) ∙ x.asked; empty = b })
      go (z ∷ since) q a b =
          let s : z ≡ e = cc in
          let t : h ≡ since ++ (x.begin ∷ x.before) = cc in
          inr (record {
            no_turn = subst (λ y. ¬ Turns y) s a.0;
            bytes = bytes_fed since;
            was_open = record { since = since; begin = x.begin; before = x.before; parts = t; accepted = x.accepted; asked = x.asked; no_other = a.1; bytes = refl };
            more = b ∙ ap (λ y. bytes_fed since ++ adds y) s;
          })

  pub no_open : (f : Frame) → ¬ IsOpenFrame {M = M} {X = X} [] f
  no_open f x = nothing_splits x.since x.begin x.before x.parts

  -- The frame that the newest event begins uses the cell, or a frame before it did.
  pub record UsedNow (e : Event M X) (h : List (Event M X)) (j : ℕ) : Type 0 where
    pub accepted : AcceptedBy e.said
    pub renter : ℕ
    pub bytes : ℕ
    pub asked : e.call ≡ to_begin renter bytes
    pub pattern : List ℕ
    pub rule : LastLoad h pattern
    pub well_formed : Accepted pattern
    pub within : j ≤ end_of well_formed

  pub used_now : {e : Event M X} {h : List (Event M X)} {j : ℕ} → UsedNow e h j → Used (e ∷ h) j
  used_now {e} {h} u = record {
    since = [];
    begin = e;
    before = h;
    parts = refl;
    accepted = u.accepted;
    renter = u.renter;
    bytes = u.bytes;
    asked = u.asked;
    pattern = u.pattern;
    rule = u.rule;
    well_formed = u.well_formed;
    within = u.within;
  }

  pub used_kept : {e : Event M X} {h : List (Event M X)} {j : ℕ} → Used h j → Used (e ∷ h) j
  used_kept {e} u = record {
    since = e ∷ u.since;
    begin = u.begin;
    before = u.before;
    parts = ap (λ k. e ∷ k) u.parts;
    accepted = u.accepted;
    renter = u.renter;
    bytes = u.bytes;
    asked = u.asked;
    pattern = u.pattern;
    rule = u.rule;
    well_formed = u.well_formed;
    within = u.within;
  }

  pub used_split : {e : Event M X} {h : List (Event M X)} {j : ℕ} → Used (e ∷ h) j → UsedNow e h j ⊎ Used h j
  used_split {e} {h} {j} u = go u.since u.parts
    where
      go : (since : List (Event M X)) → e ∷ h ≡ since ++ (u.begin ∷ u.before) → UsedNow e h j ⊎ Used h j
      go [] q =
          let s : u.begin ≡ e = cc in
          let t : u.before ≡ h = cc in
          inl (record {
            accepted = subst (λ z. AcceptedBy z.said) s u.accepted;
            renter = u.renter;
            bytes = u.bytes;
            asked = ap (λ z. z.call) (sym s) ∙ u.asked;
            pattern = u.pattern;
            rule = subst (λ k. LastLoad k u.pattern) t u.rule;
            well_formed = u.well_formed;
            within = u.within;
          })
      go (z ∷ since) q =
          let t : h ≡ since ++ (u.begin ∷ u.before) = cc in
          inr (record {
            since = since;
            begin = u.begin;
            before = u.before;
            parts = t;
            accepted = u.accepted;
            renter = u.renter;
            bytes = u.bytes;
            asked = u.asked;
            pattern = u.pattern;
            rule = u.rule;
            well_formed = u.well_formed;
            within = u.within;
          })

  pub no_use : (j : ℕ) → ¬ Used {M = M} {X = X} [] j
  no_use j u = nothing_splits u.since u.begin u.before u.parts
