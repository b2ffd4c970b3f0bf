-- The touches made for the open frame are counted from event to event, and a finish and a drop report them.
use Rattle.std.proofs.Common.{◌≡◌, ℕ, suc, ◌+◌, ◌*◌, ◌⊎◌, List, [], ◌∷◌, ◌++◌, length, Some, None, Option, sym, refl, ap, ◌∙◌, subst, ap₂, subst₂, inl, inr, mul-zero, zero-add, mul-suc, arith, length-append}
use Rattle.board.specs.Boards.{Make, Touch}
use Rattle.conduct.proofs.CellsAfter.{one_end}
use Rattle.conduct.proofs.Machine.{accepted_first, event, one_frame, one_loaded}
use Rattle.conduct.proofs.OneMore.{BegunNow, StillOpen, adds, load_split}
use Rattle.conduct.specs.Calls.{AcceptedBy, Frame, Order, Said, by_number, by_verdict, if_accepted, number, stopped, stopped_at, to_begin, to_drop, to_feed, to_finish, to_load, to_meter, verdict}
use Rattle.conduct.specs.Histories.{Event, LastLoad, Loaded, Loads, IsOpenFrame, Opened, Reports, Turns, at_begin, at_drop, at_finish, bytes_fed, dropped, fed_by, finished, touches_in}
use Rattle.conduct.specs.Rules.{Due, Makes, Touching, begins, by_the_table, drop_accepted, drops, end_of, feeds, finish_accepted, finishes, none_stopped, none_untouching, schedule_of}
use Rattle.language.proofs.Option.{clash}
use Rattle.language.specs.Patterns.{Accepted}
use Rattle.mark.specs.Marks.{Kind}
use Rattle.screen.proofs.Lengths.{length_beginning, length_feeding, length_writes}
use Rattle.screen.specs.Schedules.{finishing}
use Rattle.rule.specs.Tables.{RuleOf}
use Rattle.rule.specs.Words.{first_of, second_of}
use Rattle.std.specs.List.{AllByRecursion}
use Rattle.theory.proofs.Tables.{table_tells}

-- a begun frame of k bytes, neither finished nor dropped, under a rule that ends at n
abbrev pub open_touches : ℕ → ℕ → ℕ
open_touches n k = 10 * (n * k) + 9 * n + 9 * k + 9

none_fed : (n : ℕ) → 9 * n + 9 ≡ open_touches n 0
none_fed n = let z = mul-zero n in omega arith

one_fed : (n k : ℕ) → 10 * n + 9 + open_touches n k ≡ open_touches n (suc k)
one_fed n k = let z = mul-suc n k in omega arith

finish_length : (words : List ℕ) (n : ℕ) → length (finishing (first_of words) (second_of words) n) ≡ n + 2
finish_length words n = let l = length_writes (suc n) 0 in omega arith

-- how many touches an accepted call makes under a rule that ends at n
abbrev so_many : ℕ → Order → ℕ
so_many n (to_load p) = 0
so_many n (to_begin r m) = 9 * n + 9
so_many n (to_feed r c) = 10 * n + 9
so_many n (to_finish r) = n + 2
so_many n (to_drop r) = n + 1
so_many n to_meter = 0

schedule_length : (words : List ℕ) (n : ℕ) (call : Order) → length (schedule_of words n call) ≡ so_many n call
schedule_length words n (to_load p) = refl
schedule_length words n (to_begin r m) = length_beginning (first_of words) (second_of words) n
schedule_length words n (to_feed r c) = length_feeding (first_of words) (second_of words) n
schedule_length words n (to_finish r) = finish_length words n
schedule_length words n (to_drop r) = let l = length_writes (suc n) 0 in omega arith
schedule_length words n to_meter = refl

-- under each table of a pattern
rule_length : {p q : List ℕ} {n : ℕ} {words : List ℕ} → RuleOf p n words → (a : Accepted q) → Some p ≡ Some q → (call : Order) → length (schedule_of words n call) ≡ so_many (end_of a) call
rule_length {p} {q} {n} {words} r a e call =
    let s : p ≡ q = cc in
    schedule_length words n call ∙ ap (λ k. so_many k call) ((table_tells r.accepted.tree n words r.table).ends ∙ one_end r.accepted a s)

none_fed_by : (call : Order) → (Touching call → ⊥) → length (fed_by call) ≡ 0
none_fed_by (to_load p) n = refl
none_fed_by (to_begin r m) n = refl
none_fed_by (to_feed r c) n = absurd (n feeds)
none_fed_by (to_finish r) n = refl
none_fed_by (to_drop r) n = refl
none_fed_by to_meter n = refl

module _ {M : Type 0} where
  -- an accepted call that touches the board makes so many
  made : {l : Option (List ℕ)} {call : Order} {said : Said M} {touches : List Touch} {p : List ℕ} → Makes l call said touches → Touching call → AcceptedBy said → (a : Accepted p) → l ≡ Some p
      → length touches ≡ so_many (end_of a) call
  made (by_the_table {call = call} words t u r) v w a e = rule_length r a e call
  made (none_untouching n) v w a e = absurd (n v)
  made (none_stopped n) v w a e = absurd (n w)

  -- a call that touches nothing feeds no byte, nor does a stopped one
  untouching_adds : (call : Order) (said : Said M) → (Touching call → ⊥) → length (if_accepted said (fed_by call) []) ≡ 0
  untouching_adds call (number k) n = none_fed_by call n
  untouching_adds call (verdict m k) n = none_fed_by call n
  untouching_adds call (stopped k) n = refl
  untouching_adds call (stopped_at k place) n = refl

  stopped_adds : (call : Order) (said : Said M) → (AcceptedBy said → ⊥) → length (if_accepted said (fed_by call) []) ≡ 0
  stopped_adds call (number k) n = absurd (n by_number)
  stopped_adds call (verdict m k) n = absurd (n by_verdict)
  stopped_adds call (stopped k) n = refl
  stopped_adds call (stopped_at k place) n = refl

  -- with the touches of a feed one byte is fed, or with none no byte
  abbrev FedOrQuiet : ℕ → Order → Said M → List Touch → Type 0
  FedOrQuiet n call said touches =
      ((length touches ≡ 10 * n + 9) × (length (if_accepted said (fed_by call) []) ≡ 1)) ⊎ ((length touches ≡ 0) × (length (if_accepted said (fed_by call) []) ≡ 0))

module _ {M X : Type 0} where
  -- the touches made for an open frame
  abbrev pub counted : {h : List (Event M X)} {f : Frame} → IsOpenFrame h f → ℕ
  counted o = touches_in o.since + length o.begin.touches

  -- they are as many as its bytes call for
  abbrev pub Spent : List (Event M X) → Type 0
  Spent h = (f : Frame) (o : IsOpenFrame h f) (p : List ℕ) (a : Accepted p) → LastLoad h p → counted o ≡ open_touches (end_of a) (length f.bytes)

  -- the newest event made them all, or it added its touches
  counted_split : {e : Event M X} {h : List (Event M X)} {f : Frame} (o : IsOpenFrame (e ∷ h) f)
      → (BegunNow e f × (counted o ≡ length e.touches)) ⊎ ((s : StillOpen e h f) × (counted o ≡ length e.touches + counted s.was_open))
  counted_split {e} {h} {f} o = go o.since o.parts o.no_other o.bytes
    where
      go : (since : List (Event M X)) → e ∷ h ≡ since ++ (o.begin ∷ o.before) → AllByRecursion (λ z. ¬ Turns z) since → f.bytes ≡ bytes_fed since
          → (BegunNow e f × (touches_in since + length o.begin.touches ≡ length e.touches))
          ⊎ ((s : StillOpen e h f) × (touches_in since + length o.begin.touches ≡ length e.touches + counted s.was_open))
      go [] q a b =
          let s : o.begin ≡ e = cc in
          let t : length o.begin.touches ≡ length e.touches = ap (λ z. length z.touches) s in
          inl (record { accepted = subst (λ z. AcceptedBy z.said) s o.accepted; asked = ap (λ z. z.call) (sym s) ∙ o.asked; empty = b }, omega arith)
      go (z ∷ since) q a b =
          let s : z ≡ e = cc in
          let t : h ≡ since ++ (o.begin ∷ o.before) = cc in
          let u : length z.touches ≡ length e.touches = ap (λ y. length y.touches) s in
          inr (
            record {
              no_turn = subst (λ y. ¬ Turns y) s a.0;
              bytes = bytes_fed since;
              was_open = record { since = since; begin = o.begin; before = o.before; parts = t; accepted = o.accepted; asked = o.asked; no_other = a.1; bytes = refl };
              more = b ∙ ap (λ y. bytes_fed since ++ adds y) s;
            },
            omega arith,
          )

  -- so it is where the call does not begin, finish or drop a frame
  fed_or_quiet : {l : Option (List ℕ)} {call : Order} {said : Said M} {touches : List Touch} {cells : List M} {meter : X} {p : List ℕ} (a : Accepted p) → l ≡ Some p → Makes l call said touches
      → ¬ Turns (event {M = M} {X = X} call said touches cells meter) → FedOrQuiet (end_of a) call said touches
  fed_or_quiet a q (by_the_table words begins u r) n = absurd (n (at_begin u refl))
  fed_or_quiet a q (by_the_table words (feeds {r = r} {c = c}) u rule) n = inl (rule_length rule a q (to_feed r c), ap length (accepted_first _ _ u))
  fed_or_quiet a q (by_the_table words finishes u r) n = absurd (n (at_finish u refl))
  fed_or_quiet a q (by_the_table words drops u r) n = absurd (n (at_drop u refl))
  fed_or_quiet a q (none_untouching {call = call} {said = said} m) n = inr (refl, untouching_adds call said m)
  fed_or_quiet a q (none_stopped {call = call} {said = said} m) n = inr (refl, stopped_adds call said m)

  module _ (e : Event M X) (h : List (Event M X)) (l : Option (List ℕ)) (makes : Makes l e.call e.said e.touches) (is_loaded : Loaded h l) where
    -- one event more
    pub spent_more : (Loads e → Opened h None) → Spent h → Spent (e ∷ h)
    spent_more none_open spent f o p a x =
        elim (counted_split o) [
          | inl b ↦
              let begun = b.0 in
              let rule : LastLoad h p = elim (load_split x) [ inl c ↦ clash (let q = c.1 in let s = begun.asked in cc) | inr c ↦ c.1 ] in
              let t : length e.touches ≡ 9 * end_of a + 9 =
              made makes (subst Touching (sym begun.asked) begins) begun.accepted a (one_loaded h l (Some p) is_loaded rule) ∙ ap (so_many (end_of a)) begun.asked in
              b.1 ∙ t ∙ none_fed (end_of a) ∙ ap (λ w. open_touches (end_of a) (length w)) (sym begun.empty)
          | inr b ↦ elim (load_split x) [
            | inl c ↦ absurd (none_open (c.0, (p, c.1)) _ b.0.was_open)
            | inr c ↦
                let was = spent _ b.0.was_open p a c.1 in
                let long = ap length b.0.more ∙ length-append b.0.bytes (adds e) in
                elim (fed_or_quiet a (one_loaded h l (Some p) is_loaded c.1) makes b.0.no_turn) [
                  | inl g ↦
                      let (t, k) = g in
                      let s : suc (length b.0.bytes) ≡ length f.bytes = omega arith in
                      b.1 ∙ ap₂ ◌+◌ t was ∙ one_fed (end_of a) (length b.0.bytes) ∙ ap (open_touches (end_of a)) s
                  | inr g ↦
                      let (t, k) = g in
                      let s : length b.0.bytes ≡ length f.bytes = omega arith in
                      b.1 ∙ ap₂ ◌+◌ t was ∙ zero-add _ ∙ ap (open_touches (end_of a)) s
                ]
          ]
        ]

  -- the number that a finish or a drop is told is that of the touches made
  module _ (h : List (Event M X)) {make : Make X} {kind : Kind M} {size : ℕ} {meter : X} {touches : List Touch} where
    finish_reports : {l : Option (List ℕ)} {o : Option Frame} {r n : ℕ} {m : M} → Due make kind size meter l o (to_finish r) (verdict m n) → Makes {M = M} l (to_finish r) (verdict m n) touches
        → Loaded h l → Opened h o → Spent h → (f : Frame) (x : IsOpenFrame h f) → n ≡ length touches + counted x
    finish_reports (finish_accepted {p = p} {f = g} a q w v) makes is_loaded is_open spent f x =
        let t = made makes finishes by_verdict a refl in
        let s : length f.bytes ≡ g.length = ap (λ z. length z.bytes) (one_frame h x is_open) ∙ sym w in
        let k : counted x ≡ open_touches (end_of a) g.length = spent f x p a is_loaded ∙ ap (open_touches (end_of a)) s in
        omega arith

    drop_reports : {l : Option (List ℕ)} {o : Option Frame} {r n : ℕ} → Due make kind size meter l o (to_drop r) (number n) → Makes {M = M} l (to_drop r) (number n) touches
        → Loaded h l → Opened h o → Spent h → (f : Frame) (x : IsOpenFrame h f) → n ≡ length touches + counted x
    drop_reports (drop_accepted {p = p} {f = g} a q) makes is_loaded is_open spent f x =
        let t = made makes drops by_number a refl in
        let s : length f.bytes ≡ length g.bytes = ap (λ z. length z.bytes) (one_frame h x is_open) in
        let k : counted x ≡ open_touches (end_of a) (length g.bytes) = spent f x p a is_loaded ∙ ap (open_touches (end_of a)) s in
        omega arith

    pub reports_more : {l : Option (List ℕ)} {o : Option Frame} {call : Order} {said : Said M} {cells : List M} {meter' : X} → Due make kind size meter l o call said → Makes l call said touches
        → Loaded h l → Opened h o → Spent h → (f : Frame) (x : IsOpenFrame h f) (n : ℕ) → Reports (event {M = M} {X = X} call said touches cells meter') n → n ≡ length touches + counted x
    reports_more {l} {o} due makes is_loaded is_open spent f x n (finished c s) =
        finish_reports (subst₂ (λ c s. Due make kind size meter l o c s) c s due) (subst₂ (λ c s. Makes l c s touches) c s makes) is_loaded is_open spent f x
    reports_more {l} {o} due makes is_loaded is_open spent f x n (dropped c s) =
        drop_reports (subst₂ (λ c s. Due make kind size meter l o c s) c s due) (subst₂ (λ c s. Makes l c s touches) c s makes) is_loaded is_open spent f x
