-- What the cells mean after one more event.
use Rattle.std.proofs.Common.{◌≡◌, ℕ, ◌≤◌, List, [], ◌∷◌, ◌++◌, None, sym, ap, ◌∙◌, subst, inl, inr, append-nil, arith}
use Rattle.conduct.proofs.Machine.{accepted_first, closed, one_frame, one_load}
use Rattle.conduct.proofs.OneMore.{StillOpen, adds, load_kept, load_split, open_kept, open_now, open_split, used_kept, used_now, used_split}
use Rattle.conduct.specs.Calls.{AcceptedBy, Frame, frame, to_begin, to_feed}
use Rattle.conduct.specs.Histories.{CellsMean, Event, InOpenFrame, LastLoad, Loads, IsOpenFrame, Opened, Turns, Used, at_begin, fed_by}
use Rattle.conduct.specs.Rules.{Blank, end_of}
use Rattle.language.proofs.Answered.{one_answer}
use Rattle.language.proofs.Option.{clash}
use Rattle.language.specs.Links.{last_position}
use Rattle.language.specs.Patterns.{Accepted}
use Rattle.mark.specs.Marks.{Kind}
use Rattle.method.specs.Theorems.{LeavesOthers}
use Rattle.theory.specs.Meaning.{Holds}
use native.Mathlib.Decide.{dec_le}

-- a pattern has one last position
pub one_end : {p q : List ℕ} (a : Accepted p) (b : Accepted q) → p ≡ q → end_of a ≡ end_of b
one_end {p} a b e = subst (λ z. (c : Accepted z) → end_of a ≡ end_of c) e (λ c. ap last_position ((one_answer p).one_tree a c)) b

-- an accepted begin
abbrev Begins : {M X : Type 0} → Event M X → Type 0
Begins e = AcceptedBy e.said × (r : ℕ) × (m : ℕ) × (e.call ≡ to_begin r m)

module _ {M X : Type 0} (e : Event M X) (h : List (Event M X)) where
  load_before : {p : List ℕ} → ¬ Loads e → LastLoad (e ∷ h) p → LastLoad h p
  load_before {p} n x = elim (load_split x) [ inl a ↦ absurd (n (a.0, (p, a.1))) | inr b ↦ b.1 ]

  open_before : {f : Frame} → ¬ Turns e → IsOpenFrame (e ∷ h) f → StillOpen e h f
  open_before n x = elim (open_split x) [ inl a ↦ absurd (n (at_begin a.accepted a.asked)) | inr b ↦ b ]

  used_before : {j : ℕ} → ¬ Begins e → Used (e ∷ h) j → Used h j
  used_before n u = elim (used_split u) [ inl a ↦ absurd (n (a.accepted, a.renter, a.bytes, a.asked)) | inr b ↦ b ]

  in_frame_kept : {j : ℕ} → ¬ Loads e → ¬ Turns e → InOpenFrame h j → InOpenFrame (e ∷ h) j
  in_frame_kept n t i = record {
    frame = frame i.frame.renter i.frame.length (i.frame.bytes ++ adds e);
    is_open = open_kept t i.is_open;
    pattern = i.pattern;
    rule = load_kept n i.rule;
    well_formed = i.well_formed;
    within = i.within;
  }

  -- the open frame's cells are used, if nothing is loaded while a frame is open
  pub uses_after : (Loads e → Opened h None) → ((j : ℕ) → InOpenFrame h j → Used h j) → (j : ℕ) → InOpenFrame (e ∷ h) j → Used (e ∷ h) j
  uses_after closed uses j i =
      elim (open_split i.is_open) [
        | inl a ↦ used_now (record {
          accepted = a.accepted;
          renter = i.frame.renter;
          bytes = i.frame.length;
          asked = a.asked;
          pattern = i.pattern;
          rule = load_before (λ y. clash (let q = y.1.1 in let s = a.asked in cc)) i.rule;
          well_formed = i.well_formed;
          within = i.within;
        })
        | inr b ↦ elim (load_split i.rule) [
          | inl c ↦ absurd (closed (c.0, (i.pattern, c.1)) _ b.was_open)
          | inr c ↦ used_kept (uses j (record { frame = _; is_open = b.was_open; pattern = i.pattern; rule = c.1; well_formed = i.well_formed; within = i.within }))
        ]
      ]

module _ {M X : Type 0} (kind : Kind M) (first : List M) (e : Event M X) (h : List (Event M X)) (cells cells' : List M)
    (old : CellsMean kind first h cells) (uses : (j : ℕ) → InOpenFrame h j → Used h j) where
  -- an event that loads, turns and feeds nothing, and leaves the cells
  pub quiet_mean : ¬ Loads e → ¬ Turns e → adds e ≡ [] → cells' ≡ cells → CellsMean kind first (e ∷ h) cells'
  quiet_mean n t q s = subst (CellsMean kind first (e ∷ h)) (sym s) (record {
    sized = old.sized;
    in_frame = λ p a f x y.
        let z = open_before e h t y in
        subst (λ w. Holds kind a.tree w cells) (sym (z.more ∙ ap (λ v. z.bytes ++ v) q ∙ append-nil z.bytes)) (old.in_frame p a _ (load_before e h n x) z.was_open);
    wiped = λ j d u i. old.wiped j d (used_before e h (λ b. t (at_begin b.0 b.3)) u) (λ k. i (in_frame_kept e h n t k));
    unused = λ j d u. old.unused j d (λ v. u (used_kept v));
  })

  -- a load, which finds no frame open
  pub load_mean : ¬ Turns e → Opened h None → cells' ≡ cells → CellsMean kind first (e ∷ h) cells'
  load_mean t none s = subst (CellsMean kind first (e ∷ h)) (sym s) (record {
    sized = old.sized;
    in_frame = λ p a f x y. absurd (none _ (open_before e h t y).was_open);
    wiped = λ j d u i. old.wiped j d (used_before e h (λ b. t (at_begin b.0 b.3)) u) (λ k. none k.frame k.is_open);
    unused = λ j d u. old.unused j d (λ v. u (used_kept v));
  })

  module _ (pattern : List ℕ) (a : Accepted pattern) (rule : LastLoad h pattern) where
    -- what is not up to the last position is in no frame before
    outside : (j : ℕ) → ¬ (j ≤ end_of a) → ¬ InOpenFrame h j
    outside j n i = let s = one_end i.well_formed a (one_load h i.rule rule) in let w = i.within in n (omega arith)

    -- a begin, which finds no frame open
    pub begin_mean : (r m : ℕ) → AcceptedBy e.said → e.call ≡ to_begin r m → Opened h None
        → ((p : List ℕ) (b : Accepted p) → LastLoad h p → Holds kind b.tree [] cells') → LeavesOthers (end_of a) cells cells'
        → CellsMean kind first (e ∷ h) cells'
    begin_mean r m y c none holds leaves =
        let n : ¬ Loads e = λ z. clash (let q = z.1.1 in cc) in
        let i : (j : ℕ) → j ≤ end_of a → InOpenFrame (e ∷ h) j = λ j w. record { frame = _; is_open = open_now y c; pattern = pattern; rule = load_kept n rule; well_formed = a; within = w } in
        let v : (j : ℕ) → j ≤ end_of a → Used (e ∷ h) j = λ j w. used_now (record { accepted = y; renter = r; bytes = m; asked = c; pattern = pattern; rule = rule; well_formed = a; within = w }) in
        record {
          sized = leaves.long ∙ old.sized;
          in_frame = λ p b f x z. elim (open_split z) [
            | inl w ↦ subst (λ k. Holds kind b.tree k cells') (sym w.empty) (holds p b (load_before e h n x))
            | inr w ↦ absurd (w.no_turn (at_begin y c))
          ];
          wiped = λ j d u o. elim (dec_le j (end_of a)) [
            | yes w ↦ absurd (o (i j w))
            | no w ↦ elim (used_split u) [
              | inl k ↦ absurd (let s = one_end k.well_formed a (one_load h k.rule rule) in let g = k.within in w (omega arith))
              | inr k ↦ leaves.others j d (omega arith) ∙ old.wiped j d k (λ x. none x.frame x.is_open)
            ]
          ];
          unused = λ j d u. elim (dec_le j (end_of a)) [
            | yes w ↦ absurd (u (v j w))
            | no w ↦ leaves.others j d (omega arith) ∙ old.unused j d (λ k. u (used_kept k))
          ];
        }

    -- a feed of the open frame
    pub feed_mean : (f : Frame) (r c : ℕ) → AcceptedBy e.said → e.call ≡ to_feed r c → IsOpenFrame h f → ¬ Turns e
        → ((p : List ℕ) (b : Accepted p) → LastLoad h p → Holds kind b.tree (f.bytes ++ (c ∷ [])) cells') → LeavesOthers (end_of a) cells cells'
        → CellsMean kind first (e ∷ h) cells'
    feed_mean f r c y q is_open t holds leaves =
        let n : ¬ Loads e = λ z. clash (let s = z.1.1 in cc) in
        let i : (j : ℕ) → j ≤ end_of a → InOpenFrame h j = λ j w. record { frame = f; is_open = is_open; pattern = pattern; rule = rule; well_formed = a; within = w } in
        record {
          sized = leaves.long ∙ old.sized;
          in_frame = λ p b g x z.
              let k = open_before e h t z in
              let s : g.bytes ≡ f.bytes ++ (c ∷ []) = k.more ∙ ap (λ v. v.bytes ++ adds e) (one_frame h k.was_open is_open) ∙ ap (λ v. f.bytes ++ v) (accepted_first _ _ y ∙ ap fed_by q) in
              subst (λ v. Holds kind b.tree v cells') (sym s) (holds p b (load_before e h n x));
          wiped = λ j d u o. elim (dec_le j (end_of a)) [
            | yes w ↦ absurd (o (in_frame_kept e h n t (i j w)))
            | no w ↦ leaves.others j d (omega arith) ∙ old.wiped j d (used_before e h (λ b. t (at_begin b.0 b.3)) u) (outside j w)
          ];
          unused = λ j d u. elim (dec_le j (end_of a)) [
            | yes w ↦ absurd (u (used_kept (uses j (i j w))))
            | no w ↦ leaves.others j d (omega arith) ∙ old.unused j d (λ k. u (used_kept k))
          ];
        }

    -- a finish or a drop of the open frame
    pub end_mean : (f : Frame) → IsOpenFrame h f → Turns e → ((r m : ℕ) → ¬ (e.call ≡ to_begin r m)) → Blank kind a.tree cells' → LeavesOthers (end_of a) cells cells'
        → CellsMean kind first (e ∷ h) cells'
    end_mean f is_open t n blank leaves = record {
      sized = leaves.long ∙ old.sized;
      in_frame = λ p b g x z. absurd (closed e h t n g z);
      wiped = λ j d u o. elim (dec_le j (end_of a)) [
        | yes w ↦ blank j d w
        | no w ↦ leaves.others j d (omega arith) ∙ old.wiped j d (used_before e h (λ b. n b.1 b.2 b.3) u) (outside j w)
      ];
      unused = λ j d u. elim (dec_le j (end_of a)) [
        | yes w ↦ absurd (u (used_kept (uses j (record { frame = f; is_open = is_open; pattern = pattern; rule = rule; well_formed = a; within = w }))))
        | no w ↦ leaves.others j d (omega arith) ∙ old.unused j d (λ k. u (used_kept k))
      ];
    }
