-- A run so far, one call after another.
use Rattle.std.proofs.Common.{◌≡◌, ℕ, List, [], ◌∷◌, ◌++◌, map, reverse, length, Some, None, Option, sym, refl, ap, ◌∙◌, subst}
use Rattle.board.specs.Boards.{Make, Touch, moved}
use Rattle.conduct.proofs.CellsAfter.{begin_mean, end_mean, feed_mean, load_mean, quiet_mean, uses_after}
use Rattle.conduct.proofs.Counted.{Spent, reports_more, spent_more}
use Rattle.conduct.proofs.Machine.{event, loaded_more, one_load, open_more, turns_accepted, turns_turning}
use Rattle.conduct.proofs.OneMore.{no_load, no_open, no_use, not_stopped, not_stopped_at}
use Rattle.conduct.specs.Calls.{AcceptedBy, Frame, Order, Said, by_number, by_verdict, loaded_after, number, open_after, stopped, stopped_at, to_feed, to_load, to_meter}
use Rattle.conduct.specs.Histories.{CellsMean, Event, InOpenFrame, LastLoad, Lawful, Loaded, Loads, Opened, Used, at_drop, at_finish, last_cells, last_meter}
use Rattle.conduct.specs.Rules.{CellsLeft, Done, Due, Makes, Touching, begin_accepted, begin_too_long, begin_while_open, begin_without_allowance, begin_without_rule, by_the_table, drop_accepted, drop_of_another, drop_without_frame, feed_accepted, feed_after_the_last, feed_of_another, feed_without_frame, feeds, finish_accepted, finish_before_the_last, finish_of_another, finish_without_frame, load_accepted, load_of_a_fault, load_too_wide, load_while_open, meter_read, none_stopped, none_untouching}
use Rattle.conduct.specs.Runs.{Run}
use Rattle.language.proofs.Option.{clash}
use Rattle.language.specs.Patterns.{Accepted}
use Rattle.mark.specs.Marks.{Kind}
use Rattle.std.proofs.lemmas.List.{reverse-append}

-- The history is lawful, with this pattern loaded and this frame open, and the cells mean what they should. The open frame's cells
-- are used, and the touches made for it are counted.
pub record IsSoFar {M X : Type 0} (make : Make X) (kind : Kind M) (first : List M) (start : X) (h : List (Event M X)) (l : Option (List ℕ)) (o : Option Frame) : Type 0 where
  pub lawful : Lawful make kind first start h
  pub is_loaded : Loaded h l
  pub is_open : Opened h o
  pub mean : CellsMean kind first h (last_cells first h)
  pub uses : (j : ℕ) → InOpenFrame h j → Used h j
  pub spent : Spent h

-- at first
pub none_so_far : {M X : Type 0} (make : Make X) (kind : Kind M) (first : List M) (start : X) → IsSoFar make kind first start [] None None
none_so_far make kind first start = record {
  lawful = tt;
  is_loaded = no_load;
  is_open = no_open;
  mean = record {
    sized = refl;
    in_frame = λ p a f x y. absurd (no_load p x);
    wiped = λ j d u i. absurd (no_use j u);
    unused = λ j d u. refl;
  };
  uses = λ j i. absurd (no_load i.pattern i.rule);
  spent = λ f x p a y. absurd (no_load p y);
}

-- an accepted call that touches the board has a rule
ruled : {M : Type 0} {l : Option (List ℕ)} {call : Order} {said : Said M} {touches : List Touch} → Makes l call said touches → Touching call → AcceptedBy said
    → (p : List ℕ) × (l ≡ Some p) × Accepted p
ruled (by_the_table {p = p} words t a r) u b = (p, refl, r.accepted)
ruled (none_untouching n) u b = absurd (n u)
ruled (none_stopped n) u b = absurd (n b)

module _ {M X : Type 0} (kind : Kind M) (first : List M) (h : List (Event M X)) (touches : List Touch) (cells cells' : List M) (meter' : X)
    (old : CellsMean kind first h cells) (uses : (j : ℕ) → InOpenFrame h j → Used h j) where
  stopped_mean : (call : Order) (n : ℕ) → cells' ≡ cells → CellsMean kind first (event call (stopped n) touches cells' meter' ∷ h) cells'
  stopped_mean call n s =
      let e : Event M X = event call (stopped n) touches cells' meter' in
      quiet_mean kind first e h cells cells' old uses (λ y. not_stopped y.0) (λ t. not_stopped (turns_accepted e t)) refl s

  stopped_at_mean : (call : Order) (n place : ℕ) → cells' ≡ cells → CellsMean kind first (event call (stopped_at n place) touches cells' meter' ∷ h) cells'
  stopped_at_mean call n place s =
      let e : Event M X = event call (stopped_at n place) touches cells' meter' in
      quiet_mean kind first e h cells cells' old uses (λ y. not_stopped_at y.0) (λ t. not_stopped_at (turns_accepted e t)) refl s

  -- the cells of the longer history, by what the call is told
  mean_more : {make : Make X} {size : ℕ} {meter : X} {l : Option (List ℕ)} {o : Option Frame} {call : Order} {said : Said M} → Due make kind size meter l o call said → Loaded h l → Opened h o → Makes l call said touches
      → CellsLeft kind cells cells' l o call said → CellsMean kind first (event call said touches cells' meter' ∷ h) cells'
  mean_more load_while_open x y z s = stopped_at_mean _ _ _ s
  mean_more (load_of_a_fault f) x y z s = stopped_at_mean _ _ _ s
  mean_more (load_too_wide a w) x y z s = stopped_at_mean _ _ _ s
  mean_more (load_accepted {p = p} a w) x y z s =
      let e : Event M X = event (to_load p) (number _) touches cells' meter' in
      load_mean kind first e h cells cells' old uses (turns_turning e) y s
  mean_more begin_without_rule x y z s = stopped_mean _ _ s
  mean_more begin_while_open x y z s = stopped_mean _ _ s
  mean_more (begin_too_long w) x y z s = stopped_mean _ _ s
  mean_more (begin_without_allowance a w v) x y z s = stopped_mean _ _ s
  mean_more (begin_accepted {p = p} {r = r} {m = m} a w v) x y z s =
      begin_mean kind first _ h cells cells' old uses p a x r m by_number refl y (λ q b k. (s q b (ap Some (one_load h x k))).0) (s p a refl).1
  mean_more feed_without_frame x y z s = stopped_mean _ _ s
  mean_more (feed_of_another n) x y z s = stopped_mean _ _ s
  mean_more (feed_after_the_last q w) x y z s = stopped_mean _ _ s
  mean_more (feed_accepted {l = l} {f = f} {r = r} {c = c} q w) x y z s =
      let (p, k, a) = ruled z feeds by_number in
      let rule : LastLoad h p = subst (Loaded h) k x in
      let e : Event M X = event (to_feed r c) (number _) touches cells' meter' in
      feed_mean kind first e h cells cells' old uses p a rule f r c by_number refl y (turns_turning e) (λ q b v. (s f refl q b (k ∙ ap Some (one_load h rule v))).0) (s f refl p a k).1
  mean_more finish_without_frame x y z s = stopped_mean _ _ s
  mean_more (finish_of_another n) x y z s = stopped_mean _ _ s
  mean_more (finish_before_the_last q w) x y z s = stopped_mean _ _ s
  mean_more (finish_accepted {p = p} {f = f} a q w v) x y z s =
      end_mean kind first _ h cells cells' old uses p a x f y (at_finish by_verdict refl) (λ r m k. clash (cc)) (s p a refl).0 (s p a refl).1
  mean_more drop_without_frame x y z s = stopped_mean _ _ s
  mean_more (drop_of_another n) x y z s = stopped_mean _ _ s
  mean_more (drop_accepted {p = p} {f = f} a q) x y z s =
      end_mean kind first _ h cells cells' old uses p a x f y (at_drop by_number refl) (λ r m k. clash (cc)) (s p a refl).0 (s p a refl).1
  mean_more meter_read x y z s =
      let e : Event M X = event to_meter (number _) touches cells' meter' in
      quiet_mean kind first e h cells cells' old uses (λ k. clash (let q = k.1.1 in cc)) (turns_turning e) refl s

-- a load is accepted only with no frame open
load_closed : {M X : Type 0} {make : Make X} {kind : Kind M} {size : ℕ} {meter : X} {l : Option (List ℕ)} {o : Option Frame} {p : List ℕ} {said : Said M}
    → Due make kind size meter l o (to_load p) said → AcceptedBy said → o ≡ None
load_closed load_while_open a = not_stopped_at a
load_closed (load_of_a_fault f) a = refl
load_closed (load_too_wide b w) a = refl
load_closed (load_accepted b w) a = refl

module _ {M X : Type 0} {make : Make X} {kind : Kind M} {first : List M} {start : X} {h : List (Event M X)} {l : Option (List ℕ)} {o : Option Frame} where
  -- one call more
  pub more_so_far : {call : Order} {said : Said M} {cells' : List M} {meter' : X} → IsSoFar make kind first start h l o
      → (d : Done make kind l o (last_cells first h) (last_meter start h) call said cells' meter')
      → IsSoFar make kind first start (record { call = call; said = said; touches = d.touches; cells = cells'; meter = meter' } ∷ h) (loaded_after call said l) (open_after call said o)
  more_so_far {call} {said} {cells'} {meter'} s d =
      let e : Event M X = event call said d.touches cells' meter' in
      let mean = mean_more kind first h d.touches (last_cells first h) cells' meter' s.mean s.uses d.due s.is_loaded s.is_open d.makes d.left in
      let none_open : Loads e → Opened h None =
      λ y. subst (Opened h) (load_closed (subst (λ c. Due make kind (length (last_cells first h)) (last_meter start h) l o c said) y.1.1 d.due) y.0) s.is_open in
      record {
        lawful = (
          record {
            loaded = l;
            is_loaded = s.is_loaded;
            opened = o;
            is_open = s.is_open;
            due = subst (λ n. Due make kind n (last_meter start h) l o call said) s.mean.sized d.due;
            makes = d.makes;
            moves = subst (λ n. meter' ≡ moved (make.step n) (last_meter start h) d.touches) s.mean.sized d.moves;
            mean = mean;
            reports = reports_more h d.due d.makes s.is_loaded s.is_open s.spent;
          },
          s.lawful,
        );
        is_loaded = loaded_more call d.touches cells' meter' h said l s.is_loaded;
        is_open = open_more call d.touches cells' meter' h said o s.is_open;
        mean = mean;
        uses = uses_after e h none_open s.uses;
        spent = spent_more e h l d.makes s.is_loaded none_open s.spent;
      }

  -- what was played so far is a run
  pub run_of : {calls : List Order} {told : List (Said M)} → IsSoFar make kind first start h l o → map (λ e. e.call) h ≡ reverse calls → map (λ e. e.said) h ≡ reverse told
      → Run make kind first start calls told (last_cells first h) (last_meter start h)
  run_of s c t = record { history = h; lawful = s.lawful; calls_are = c; told_are = t; cells_end = refl; meter_end = refl }

-- The calls were played and told this, and left these cells and this meter, with this pattern loaded and this frame open.
pub record PlayedTo {M X : Type 0} (make : Make X) (kind : Kind M) (first : List M) (start : X) (calls : List Order) (told : List (Said M)) (l : Option (List ℕ)) (o : Option Frame) (cells : List M) (meter : X) : Type 0 where
  pub history : List (Event M X)
  pub so_far : IsSoFar make kind first start history l o
  pub calls_are : map (λ e. e.call) history ≡ reverse calls
  pub told_are : map (λ e. e.said) history ≡ reverse told
  pub cells_end : cells ≡ last_cells first history
  pub meter_end : meter ≡ last_meter start history

pub played_none : {M X : Type 0} (make : Make X) (kind : Kind M) (first : List M) (start : X) → PlayedTo make kind first start [] [] None None first start
played_none make kind first start = record { history = []; so_far = none_so_far make kind first start; calls_are = refl; told_are = refl; cells_end = refl; meter_end = refl }

module _ {M X : Type 0} {make : Make X} {kind : Kind M} {first : List M} {start : X} {calls : List Order} {told : List (Said M)} {l : Option (List ℕ)} {o : Option Frame} {cells : List M} {meter : X} where
  -- one call more, at the end
  pub played_more : {call : Order} {said : Said M} {cells' : List M} {meter' : X} → PlayedTo make kind first start calls told l o cells meter
      → Done make kind l o cells meter call said cells' meter'
      → PlayedTo make kind first start (calls ++ (call ∷ [])) (told ++ (said ∷ [])) (loaded_after call said l) (open_after call said o) cells' meter'
  played_more {call} {said} {cells'} {meter'} p d =
      let x : Done make kind l o (last_cells first p.history) meter call said cells' meter' = subst (λ c. Done make kind l o c meter call said cells' meter') p.cells_end d in
      let y : Done make kind l o (last_cells first p.history) (last_meter start p.history) call said cells' meter' = subst (λ m. Done make kind l o (last_cells first p.history) m call said cells' meter') p.meter_end x in
      record {
        history = event call said y.touches cells' meter' ∷ p.history;
        so_far = more_so_far p.so_far y;
        calls_are = ap (λ k. call ∷ k) p.calls_are ∙ sym (reverse-append calls (call ∷ []));
        told_are = ap (λ k. said ∷ k) p.told_are ∙ sym (reverse-append told (said ∷ []));
        cells_end = refl;
        meter_end = refl;
      }

  pub played_run : PlayedTo make kind first start calls told l o cells meter → Run make kind first start calls told cells meter
  played_run p = record { history = p.history; lawful = p.so_far.lawful; calls_are = p.calls_are; told_are = p.told_are; cells_end = p.cells_end; meter_end = p.meter_end }
