-- The pattern loaded and the open frame, computed from event to event: a history has one of each.
use Rattle.std.proofs.Common.{◌≡◌, ℕ, List, [], ◌∷◌, ◌++◌, Some, None, Option, sym, refl, ap, ◌∙◌, subst, inl, inr, append-nil}
use Rattle.board.specs.Boards.{Touch}
use Rattle.conduct.proofs.OneMore.{adds, load_kept, load_now, load_split, no_load, no_open, not_stopped, not_stopped_at, open_kept, open_now, open_split}
use Rattle.conduct.specs.Calls.{AcceptedBy, Frame, Order, Said, by_number, by_verdict, frame, if_accepted, loaded_after, loaded_by, number, open_after, open_by, stopped, stopped_at, to_begin, to_drop, to_feed, to_finish, to_load, to_meter, verdict}
use Rattle.conduct.specs.Histories.{Event, LastLoad, Loaded, Loads, IsOpenFrame, Opened, Turns, at_begin, at_drop, at_finish}
use Rattle.language.proofs.Option.{clash}

-- what is accepted has the first
pub accepted_first : {M A : Type 0} {said : Said M} (x y : A) → AcceptedBy said → if_accepted said x y ≡ x
accepted_first x y by_number = refl
accepted_first x y by_verdict = refl

-- the calls that begin, finish or drop a frame
abbrev Turning : Order → Type 0
Turning (to_load p) = ⊥
Turning (to_begin r m) = Unit {0}
Turning (to_feed r c) = ⊥
Turning (to_finish r) = Unit {0}
Turning (to_drop r) = Unit {0}
Turning to_meter = ⊥

frame_path : {r r' m m' : ℕ} {w w' : List ℕ} → r ≡ r' → m ≡ m' → w ≡ w' → frame r m w ≡ frame r' m' w'
frame_path p q s = λ i. frame (p i) (q i) (s i)

module _ {M X : Type 0} where
  abbrev pub event : Order → Said M → List Touch → List M → X → Event M X
  event call said touches cells meter = record { call = call; said = said; touches = touches; cells = cells; meter = meter }

  pub turns_turning : (e : Event M X) → Turns e → Turning e.call
  turns_turning e (at_begin a q) = subst Turning (sym q) tt
  turns_turning e (at_finish a q) = subst Turning (sym q) tt
  turns_turning e (at_drop a q) = subst Turning (sym q) tt

  pub turns_accepted : (e : Event M X) → Turns e → AcceptedBy e.said
  turns_accepted e (at_begin a q) = a
  turns_accepted e (at_finish a q) = a
  turns_accepted e (at_drop a q) = a

  module _ (e : Event M X) (h : List (Event M X)) where
    -- an event that loads nothing keeps the pattern loaded
    pub loaded_kept : (l : Option (List ℕ)) → ¬ Loads e → Loaded h l → Loaded (e ∷ h) l
    loaded_kept None n x = λ p y. elim (load_split y) [ inl a ↦ n (a.0, (p, a.1)) | inr b ↦ x p b.1 ]
    loaded_kept (Some p) n x = load_kept n x

    -- where no frame was open, only a begin opens one
    pub none_opened : ¬ Turns e → Opened h None → Opened (e ∷ h) None
    none_opened n x = λ f y. elim (open_split y) [ inl a ↦ n (at_begin a.accepted a.asked) | inr b ↦ x _ b.was_open ]

    -- an event that does not turn keeps the open frame, with the bytes that it adds
    pub still_opened : (f : Frame) (w : List ℕ) → ¬ Turns e → adds e ≡ w → Opened h (Some f) → Opened (e ∷ h) (Some (frame f.renter f.length (f.bytes ++ w)))
    still_opened f w n q x = subst (λ v. IsOpenFrame (e ∷ h) (frame f.renter f.length (f.bytes ++ v))) q (open_kept n x)

    -- one that adds none keeps it as it is
    pub opened_kept : (o : Option Frame) → ¬ Turns e → adds e ≡ [] → Opened h o → Opened (e ∷ h) o
    opened_kept None n q x = none_opened n x
    opened_kept (Some f) n q x = subst (λ w. IsOpenFrame (e ∷ h) (frame f.renter f.length w)) (append-nil f.bytes) (still_opened f [] n q x)

    -- after a finish or a drop none is open
    pub closed : Turns e → ((r m : ℕ) → ¬ (e.call ≡ to_begin r m)) → Opened (e ∷ h) None
    closed t n = λ f y. elim (open_split y) [ inl a ↦ n f.renter f.length a.asked | inr b ↦ b.no_turn t ]

  module _ (said : Said M) (touches : List Touch) (cells : List M) (meter : X) (h : List (Event M X)) where
    -- after an accepted call
    loaded_by_call : (call : Order) (l : Option (List ℕ)) → AcceptedBy said → Loaded h l → Loaded (event call said touches cells meter ∷ h) (loaded_by call l)
    loaded_by_call (to_load p) l a x = load_now a refl
    loaded_by_call (to_begin r m) l a x = loaded_kept (event (to_begin r m) said touches cells meter) h l (λ y. clash (let q = y.1.1 in cc)) x
    loaded_by_call (to_feed r c) l a x = loaded_kept (event (to_feed r c) said touches cells meter) h l (λ y. clash (let q = y.1.1 in cc)) x
    loaded_by_call (to_finish r) l a x = loaded_kept (event (to_finish r) said touches cells meter) h l (λ y. clash (let q = y.1.1 in cc)) x
    loaded_by_call (to_drop r) l a x = loaded_kept (event (to_drop r) said touches cells meter) h l (λ y. clash (let q = y.1.1 in cc)) x
    loaded_by_call to_meter l a x = loaded_kept (event to_meter said touches cells meter) h l (λ y. clash (let q = y.1.1 in cc)) x

    open_by_call : (call : Order) (o : Option Frame) → AcceptedBy said → Opened h o → Opened (event call said touches cells meter ∷ h) (open_by call o)
    open_by_call (to_load p) o a x = let e = event (to_load p) said touches cells meter in opened_kept e h o (turns_turning e) (accepted_first _ _ a) x
    open_by_call (to_begin r m) o a x = open_now a refl
    open_by_call (to_feed r c) None a x = let e = event (to_feed r c) said touches cells meter in none_opened e h (turns_turning e) x
    open_by_call (to_feed r c) (Some f) a x = let e = event (to_feed r c) said touches cells meter in still_opened e h f (c ∷ []) (turns_turning e) (accepted_first _ _ a) x
    open_by_call (to_finish r) o a x = closed (event (to_finish r) said touches cells meter) h (at_finish a refl) (λ r m q. clash (cc))
    open_by_call (to_drop r) o a x = closed (event (to_drop r) said touches cells meter) h (at_drop a refl) (λ r m q. clash (cc))
    open_by_call to_meter o a x = let e = event to_meter said touches cells meter in opened_kept e h o (turns_turning e) (accepted_first _ _ a) x

  module _ (call : Order) (touches : List Touch) (cells : List M) (meter : X) (h : List (Event M X)) where
    -- after any call
    pub loaded_more : (said : Said M) (l : Option (List ℕ)) → Loaded h l → Loaded (event call said touches cells meter ∷ h) (loaded_after call said l)
    loaded_more (number n) l x = loaded_by_call (number n) touches cells meter h call l by_number x
    loaded_more (verdict m n) l x = loaded_by_call (verdict m n) touches cells meter h call l by_verdict x
    loaded_more (stopped n) l x = loaded_kept (event call (stopped n) touches cells meter) h l (λ y. not_stopped y.0) x
    loaded_more (stopped_at n p) l x = loaded_kept (event call (stopped_at n p) touches cells meter) h l (λ y. not_stopped_at y.0) x

    pub open_more : (said : Said M) (o : Option Frame) → Opened h o → Opened (event call said touches cells meter ∷ h) (open_after call said o)
    open_more (number n) o x = open_by_call (number n) touches cells meter h call o by_number x
    open_more (verdict m n) o x = open_by_call (verdict m n) touches cells meter h call o by_verdict x
    open_more (stopped n) o x = let e = event call (stopped n) touches cells meter in opened_kept e h o (λ t. not_stopped (turns_accepted e t)) refl x
    open_more (stopped_at n p) o x = let e = event call (stopped_at n p) touches cells meter in opened_kept e h o (λ t. not_stopped_at (turns_accepted e t)) refl x

  -- computed over a history
  abbrev pub loaded_of : List (Event M X) → Option (List ℕ)
  loaded_of [] = None
  loaded_of (e ∷ h) = loaded_after e.call e.said (loaded_of h)

  abbrev pub open_of : List (Event M X) → Option Frame
  open_of [] = None
  open_of (e ∷ h) = open_after e.call e.said (open_of h)

  pub is_loaded_of : (h : List (Event M X)) → Loaded h (loaded_of h)
  is_loaded_of [] = no_load
  is_loaded_of (e ∷ h) = loaded_more e.call e.touches e.cells e.meter h e.said (loaded_of h) (is_loaded_of h)

  pub is_open_of : (h : List (Event M X)) → Opened h (open_of h)
  is_open_of [] = no_open
  is_open_of (e ∷ h) = open_more e.call e.touches e.cells e.meter h e.said (open_of h) (is_open_of h)

  -- and there is no other
  pub one_load : (h : List (Event M X)) {p q : List ℕ} → LastLoad h p → LastLoad h q → p ≡ q
  one_load [] {p} x y = absurd (no_load p x)
  one_load (e ∷ h) {p} {q} x y =
      elim (load_split x) [
        | inl a ↦ elim (load_split y) [ inl b ↦ (let u = a.1 in let v = b.1 in cc) | inr b ↦ absurd (b.0 (a.0, (p, a.1))) ]
        | inr a ↦ elim (load_split y) [ inl b ↦ absurd (a.0 (b.0, (q, b.1))) | inr b ↦ one_load h a.1 b.1 ]
      ]

  pub one_frame : (h : List (Event M X)) {f g : Frame} → IsOpenFrame h f → IsOpenFrame h g → f ≡ g
  one_frame [] {f} x y = absurd (no_open f x)
  one_frame (e ∷ h) {f} {g} x y =
      elim (open_split x) [
        | inl a ↦ elim (open_split y) [
          | inl b ↦ (let u = a.asked in let v = b.asked in frame_path (cc) (cc) (a.empty ∙ sym b.empty))
          | inr b ↦ absurd (b.no_turn (at_begin a.accepted a.asked))
        ]
        | inr a ↦ elim (open_split y) [
          | inl b ↦ absurd (a.no_turn (at_begin b.accepted b.asked))
          | inr b ↦
              let s = one_frame h a.was_open b.was_open in
              frame_path (ap (λ z. z.renter) s) (ap (λ z. z.length) s) (a.more ∙ ap (λ z. z.bytes ++ adds e) s ∙ sym b.more)
        ]
      ]

  pub one_loaded : (h : List (Event M X)) (l k : Option (List ℕ)) → Loaded h l → Loaded h k → l ≡ k
  one_loaded h None None x y = refl
  one_loaded h None (Some q) x y = absurd (x q y)
  one_loaded h (Some p) None x y = absurd (y p x)
  one_loaded h (Some p) (Some q) x y = ap Some (one_load h x y)

  pub one_open : (h : List (Event M X)) (o k : Option Frame) → Opened h o → Opened h k → o ≡ k
  one_open h None None x y = refl
  one_open h None (Some g) x y = absurd (x g y)
  one_open h (Some f) None x y = absurd (y f x)
  one_open h (Some f) (Some g) x y = ap Some (one_frame h x y)

  pub loaded_is : (h : List (Event M X)) (l : Option (List ℕ)) → Loaded h l → l ≡ loaded_of h
  loaded_is h l x = one_loaded h l (loaded_of h) x (is_loaded_of h)

  pub open_is : (h : List (Event M X)) (o : Option Frame) → Opened h o → o ≡ open_of h
  open_is h o x = one_open h o (open_of h) x (is_open_of h)
