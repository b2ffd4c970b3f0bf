-- Two lawful histories whose calls differ only in other renters' bytes.
use Rattle.std.proofs.Common.{◌≡◌, ℕ, ◌≢◌, List, [], ◌∷◌, ◌++◌, map, reverse, length, Option, sym, refl, ap, ◌∙◌, subst, subst₂, arith}
use Rattle.board.specs.Boards.{Make, moved}
use Rattle.conduct.proofs.Machine.{loaded_is, loaded_of, open_is, open_of}
use Rattle.conduct.proofs.Schedules.{same_touches}
use Rattle.conduct.proofs.Told.{AlikeFrames, alike_told, both_open, none_open}
use Rattle.conduct.specs.Calls.{Frame, Order, Said, loaded_after, number, open_after, open_by, stopped, stopped_at, to_begin, to_drop, to_feed, to_finish, to_load, to_meter, verdict}
use Rattle.conduct.specs.Histories.{Event, Lawful, LawfulEvent, last_meter}
use Rattle.conduct.specs.Rules.{Due, Makes, feed_accepted, feed_after_the_last, feed_of_another, feed_without_frame}
use Rattle.conduct.specs.Runs.{AlikeCalls, AlikeHistories, AlikeTold, AllAlike, BoardState, Run, TwoRuns, no_calls, no_events, other_byte, other_mark, same_call, same_told}
use Rattle.conduct.specs.Runs as runs
use Rattle.mark.specs.Marks.{Kind}
use Rattle.std.proofs.lemmas.List.{length-append, reverse-append}

-- as many bytes before, as many after one more
one_longer : (w v : List ℕ) (c d : ℕ) → length w ≡ length v → length (w ++ (c ∷ [])) ≡ length (v ++ (d ∷ []))
one_longer w v c d e = omega (arith, length-append w (c ∷ []), length-append v (d ∷ []))

module _ {A : ℕ} where
  -- what one accepted call leaves open
  same_frames_by : {o k : Option Frame} (call : Order) → AlikeFrames A o k → AlikeFrames A (open_by call o) (open_by call k)
  same_frames_by (to_load p) f = f
  same_frames_by (to_begin r m) f = both_open refl (λ e. refl)
  same_frames_by (to_feed r c) none_open = none_open
  same_frames_by (to_feed r c) (both_open {w = w} {v = v} e g) = both_open (one_longer w v c c e) (λ q. ap (λ z. z ++ (c ∷ [])) (g q))
  same_frames_by (to_finish r) f = none_open
  same_frames_by (to_drop r) f = none_open
  same_frames_by to_meter f = f

  module _ {M : Type 0} where
    same_frames_after : {o k : Option Frame} (call : Order) (x : Said M) → AlikeFrames A o k → AlikeFrames A (open_after call x o) (open_after call x k)
    same_frames_after call (number n) f = same_frames_by call f
    same_frames_after call (verdict m n) f = same_frames_by call f
    same_frames_after call (stopped n) f = f
    same_frames_after call (stopped_at n p) f = f

    module _ {X : Type 0} {make : Make X} {kind : Kind M} {size : ℕ} {meter : X} where
      -- another byte is fed to a frame that is not A's
      other_frames : {l : Option (List ℕ)} {o k : Option Frame} {r c : ℕ} {x : Said M} (d : ℕ) → r ≢ A → Due make kind size meter l o (to_feed r c) x → AlikeFrames A o k
          → AlikeFrames A (open_after (to_feed r c) x o) (open_after (to_feed r d) x k)
      other_frames d n feed_without_frame f = f
      other_frames d n (feed_of_another q) f = f
      other_frames d n (feed_after_the_last q u) f = f
      other_frames {c = c} d n (feed_accepted q u) (both_open {w = w} {v = v} e g) = both_open (one_longer w v c d e) (λ z. absurd (n (sym q ∙ z)))

      frames_after : {l : Option (List ℕ)} {o k : Option Frame} {call call' : Order} {x y : Said M} → AlikeFrames A o k → AlikeCalls A call call' → Due make kind size meter l o call x → AlikeTold A call x y
          → AlikeFrames A (open_after call x o) (open_after call' y k)
      frames_after f (same_call {call}) d (same_told {said = x}) = same_frames_after call x f
      frames_after f same_call d (other_mark n) = none_open
      frames_after f (other_byte {c' = b} n) d same_told = other_frames b n d f

    loaded_alike : {call call' : Order} {x y : Said M} (l : Option (List ℕ)) → AlikeCalls A call call' → AlikeTold A call x y → loaded_after call x l ≡ loaded_after call' y l
    loaded_alike l same_call same_told = refl
    loaded_alike l same_call (other_mark n) = refl
    loaded_alike l (other_byte n) same_told = refl

  -- lists of calls, from the newest on
  no_none : {b : Order} {ys : List Order} → AllAlike A [] (b ∷ ys) → ⊥
  no_none x = elim x [ ]

  no_more : {a : Order} {xs : List Order} → AllAlike A (a ∷ xs) [] → ⊥
  no_more x = elim x [ ]

  newest : {a b : Order} {xs ys : List Order} → AllAlike A (a ∷ xs) (b ∷ ys) → AlikeCalls A a b × AllAlike A xs ys
  newest (runs.AllAlike.one_more c more) = (c, more)

  alike_push : {xs ys : List Order} {a b : Order} → AllAlike A xs ys → AlikeCalls A a b → AllAlike A (xs ++ (a ∷ [])) (ys ++ (b ∷ []))
  alike_push no_calls c = runs.AllAlike.one_more c no_calls
  alike_push (runs.AllAlike.one_more d more) c = runs.AllAlike.one_more d (alike_push more c)

  pub alike_reverse : {xs ys : List Order} → AllAlike A xs ys → AllAlike A (reverse xs) (reverse ys)
  alike_reverse no_calls = no_calls
  alike_reverse (runs.AllAlike.one_more {a = a} {b = b} {xs = xs} {ys = ys} c more) =
      subst₂ (AllAlike A) (sym (reverse-append (a ∷ []) xs)) (sym (reverse-append (b ∷ []) ys)) (alike_push (alike_reverse more) c)

module _ {M X : Type 0} (make : Make X) (kind : Kind M) (A : ℕ) (first other : List M) (start begun : X) where
  -- what two histories have in common
  pub record Level (h k : List (Event M X)) : Type 0 where
    pub alike : AlikeHistories A h k
    pub loads : loaded_of h ≡ loaded_of k
    pub frames : AlikeFrames A (open_of h) (open_of k)
    pub meters : last_meter start h ≡ last_meter begun k

  module _ (sized : length first ≡ length other) where
    level_more : (h k : List (Event M X)) (e f : Event M X) → Level h k → LawfulEvent make kind first start h e → LawfulEvent make kind other begun k f → AlikeCalls A e.call f.call
        → Level (e ∷ h) (f ∷ k)
    level_more h k e f v x y c =
        let loads : x.loaded ≡ loaded_of h = loaded_is h x.loaded x.is_loaded in
        let loads' : y.loaded ≡ loaded_of h = loaded_is k y.loaded y.is_loaded ∙ sym v.loads in
        let opens : x.opened ≡ open_of h = open_is h x.opened x.is_open in
        let opens' : y.opened ≡ open_of k = open_is k y.opened y.is_open in
        let due : Due make kind (length first) (last_meter start h) (loaded_of h) (open_of h) e.call e.said =
        subst₂ (λ l o. Due make kind (length first) (last_meter start h) l o e.call e.said) loads opens x.due in
        let due' : Due make kind (length first) (last_meter start h) (loaded_of h) (open_of k) f.call f.said =
        subst₂ (λ n m. Due make kind n m (loaded_of h) (open_of k) f.call f.said) (sym sized) (sym v.meters)
        (subst₂ (λ l o. Due make kind (length other) (last_meter begun k) l o f.call f.said) loads' opens' y.due) in
        let told = alike_told v.frames c due due' in
        let touches : e.touches ≡ f.touches =
        same_touches c told (subst (λ l. Makes l e.call e.said e.touches) loads x.makes) (subst (λ l. Makes l f.call f.said f.touches) loads' y.makes) in
        let meters : e.meter ≡ f.meter =
        x.moves
        ∙ ap (moved (make.step (length first)) (last_meter start h)) touches
        ∙ ap (λ m. moved (make.step (length first)) m f.touches) v.meters
        ∙ ap (λ n. moved (make.step n) (last_meter begun k) f.touches) sized
        ∙ sym y.moves in
        record {
          alike = runs.AlikeHistories.one_more told touches meters v.alike;
          loads = loaded_alike (loaded_of h) c told ∙ ap (loaded_after f.call f.said) v.loads;
          frames = frames_after v.frames c due told;
          meters = meters;
        }

    -- histories whose calls are alike, call by call, are alike
    pub level : start ≡ begun → (h k : List (Event M X)) → Lawful make kind first start h → Lawful make kind other begun k
        → AllAlike A (map (λ e. e.call) h) (map (λ e. e.call) k) → Level h k
    level s [] [] x y a = record { alike = no_events; loads = refl; frames = none_open; meters = s }
    level s [] (f ∷ k) x y a = absurd (no_none a)
    level s (e ∷ h) [] x y a = absurd (no_more a)
    level s (e ∷ h) (f ∷ k) x y a = let (c, more) = newest a in level_more h k e f (level s h k x.1 y.1 more) x.0 y.0 c

-- two runs whose calls are alike are alike
pub apart : {M X : Type 0} {make : Make X} {kind : Kind M} {first other : List M} {start begun : X} {calls asked : List Order} {told said : List (Said M)} {cells left : List M} {meter end : X}
    (x : Run make kind first start calls told cells meter) (y : Run make kind other begun asked said left end)
    → length first ≡ length other → start ≡ begun → (A : ℕ) → AllAlike A calls asked → AlikeHistories A x.history y.history
apart {make = make} {kind = kind} {first = first} {other = other} {start = start} {begun = begun} x y sized metered A a =
    (level make kind A first other start begun sized metered x.history y.history x.lawful y.lawful
    (subst₂ (AllAlike A) (sym x.calls_are) (sym y.calls_are) (alike_reverse a))
    ).alike

pub two_runs : {M X : Type 0} {make : Make X} {kind : Kind M} {begin_1 end_1 begin_2 end_2 : BoardState M X} {calls_1 calls_2 : List Order} {told_1 told_2 : List (Said M)}
    → Run make kind begin_1.cells begin_1.meter calls_1 told_1 end_1.cells end_1.meter → Run make kind begin_2.cells begin_2.meter calls_2 told_2 end_2.cells end_2.meter
    → TwoRuns make kind begin_1 calls_1 told_1 end_1 begin_2 calls_2 told_2 end_2
two_runs x y = record { first = x; second = y; apart = apart x y }
