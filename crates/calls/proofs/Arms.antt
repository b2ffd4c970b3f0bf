-- The calls, by the state of the screen.
use Rattle.std.proofs.Common.{◌≡◌, ℕ, ◌+◌, ◌-◌, ◌%◌, ◌^◌, ◌<◌, ◌≤◌, ◌≢◌, List, [], length, Some, None, Ok, Err, Option, sym, refl, ap, ◌∙◌, subst, arith}
use Rattle.board.specs.Boards.{Make}
use Rattle.board.specs.declared.Board.{Ghosts}
use Rattle.conduct.specs.Calls.{Frame, Order, Said, by_number, number, stopped, stopped_at, to_begin, to_drop, to_feed, to_finish, to_load, to_meter, verdict}
use Rattle.conduct.specs.Rules.{Due, end_of, begin_too_long, begin_while_open, begin_without_allowance, begin_without_rule, drop_of_another, drop_without_frame, feed_after_the_last, feed_of_another, feed_without_frame, finish_before_the_last, finish_of_another, finish_without_frame, load_accepted, load_of_a_fault, load_too_wide, load_while_open, meter_read, none_untouching}
use Rattle.language.specs.Faults.{Faulty}
use Rattle.mark.specs.Limits.{most_bytes}
use Rattle.mark.specs.Marks.{Kind}
use Rattle.screen.specs.Schedules.{frame_touches}
use Rattle.screen.specs.ByRule.{beginning_of, begun_by, fed_by, feeding_of, finishing_of, wiped_by, wiping_of}
use Rattle.screen.specs.Moving.{Call, ReadingCall}
use Rattle.stops.specs.Stops.{stop_number}
use Rattle.rule.specs.Tables.{RuleOf}
use Rattle.rule.specs.declared.table.Rule.{Rule}
use Rattle.calls.proofs.Loading.{end_is, unopened}
use Rattle.calls.proofs.Stops.{number_no_stop, stop_at_goes, stop_goes}
use Rattle.calls.proofs.Touching.{begin_done, begin_never, drop_done, drop_never, feed_done, feed_never, finish_done, finish_never}
use Rattle.calls.specs.Sound.{Conducts, Goes, Held, Sound, Takes}
use Rattle.calls.specs.Told.{Unopened}
use Rattle.calls.specs.declared.Screen.{Screen}
use Rattle.calls.specs.declared.frame.OpenFrame.{OpenFrame}
use Rattle.calls.specs.declared.frame.State.TheVariants.{Empty, Open, Ready}
use Rattle.calls.specs.declared.frame.State.{State}
use Rattle.stops.specs.declared.Stop.{Stop}

module _ {M X : Type 0} (make : Make X) (kind : Kind M) where
  -- the same, with what is loaded and open said otherwise
  due_at : {size : ℕ} {meter : X} {l l' : Option (List ℕ)} {o o' : Option Frame} {call : Order} {said : Said M} → l ≡ l' → o ≡ o' → Due make kind size meter l' o' call said → Due make kind size meter l o call said
  due_at {size} {meter} {l} {l'} {o} {o'} {call} {said} e f d =
      subst (λ z. Due make kind size meter z o call said) (sym e) (subst (λ z. Due make kind size meter l' z call said) (sym f) d)

  goes_at : {l l' : Option (List ℕ)} {o o' : Option Frame} {held : Held} {cells : List M} {meter : X} {call : Order} {said : Said M} {held' : Held} {cells' : List M} {meter' : X}
      → l ≡ l' → o ≡ o' → Goes make kind l' o' held cells meter call said held' cells' meter' → Goes make kind l o held cells meter call said held' cells' meter'
  goes_at {l} {l'} {o} {o'} {held} {cells} {meter} {call} {said} {held'} {cells'} {meter'} e f g =
      subst (λ z. Goes make kind z o held cells meter call said held' cells' meter') (sym e) (subst (λ z. Goes make kind l' z held cells meter call said held' cells' meter') (sym f) g)

module _ {B M : Type 0} (board : Ghosts B M) (kind : Kind M) where
  -- a call takes a screen where it takes its board and what it holds
  pub conducts : {s t : Screen B} {state state' : State} {call : Order} {said : Said M} → t.board.ghost_name ≡ s.board.ghost_name → s.state ≡ state → t.state ≡ state'
      → Takes board kind s.board.now t.board.now (state, s.rule) (state', t.rule) call said → Conducts board kind s t call said
  conducts {s} {t} {state} {state'} {call} {said} same e f takes = record {
    same = same;
    takes =
        subst (λ z. Takes board kind s.board.now t.board.now (z, s.rule) (t.state, t.rule) call said) (sym e)
        (subst (λ z. Takes board kind s.board.now t.board.now (state, s.rule) (z, t.rule) call said) (sym f) takes);
  }

  -- the same of a call that changes neither
  pub unmoved : (s : Screen B) {state : State} {call : Order} {said : Said M} → s.state ≡ state
      → Takes board kind s.board.now s.board.now (state, s.rule) (state, s.rule) call said → Conducts board kind s s call said
  unmoved s e takes = conducts refl e e takes

  module _ (b : B) where
    abbrev size : ℕ
    size = length (board.cells b)

    abbrev allows : ℕ
    allows = board.make.allowed size (board.meter b)

    abbrev DueIn : Held → Order → Said M → Type 0
    DueIn held call said = (l : Option (List ℕ)) (o : Option Frame) → Sound board.make kind l o held (board.cells b) (board.meter b) → Due board.make kind size (board.meter b) l o call said

    -- The calls that stop, and the meter.
    stays_at : {held : Held} {call : Order} {n place : ℕ} → DueIn held call (stopped_at n place) → Takes board kind b b held held call (stopped_at n place)
    stays_at due = record { kept = board.keeps.still _; goes = λ l o d. stop_at_goes board.make kind d (due l o d) }

    stays : {held : Held} {call : Order} {n : ℕ} → n < 18 → DueIn held call (stopped n) → Takes board kind b b held held call (stopped n)
    stays h due = record { kept = board.keeps.still _; goes = λ l o d. stop_goes board.make kind d h (due l o d) }

    pub read_meter : (held : Held) {n : ℕ} → n ≡ board.make.shows size (board.meter b) → Takes board kind b b held held to_meter (number n)
    read_meter held e = record {
      kept = board.keeps.still _;
      goes = λ l o d. record {
        done = record {
          due = subst (λ z. Due board.make kind size (board.meter b) l o to_meter (number z)) (sym e) meter_read;
          touches = [];
          makes = none_untouching (λ t. elim t [ ]);
          moves = refl;
          sized = refl;
          left = refl;
        };
        sound = d;
        unchanged = λ a. refl;
        not_the_boards = λ k x. number_no_stop x;
      };
    }

    -- Load with no frame open.
    module _ (state : State) (rule : Rule) (u : Unopened state) where
      none : (l : Option (List ℕ)) (o : Option Frame) → Sound board.make kind l o (state, rule) (board.cells b) (board.meter b) → o ≡ None
      none l o d = unopened board.make kind l o (board.cells b) (board.meter b) state rule u d

      module _ {p : List ℕ} where
        pub load_fault : {n place : ℕ} → Faulty p n place → Takes board kind b b (state, rule) (state, rule) (to_load p) (stopped_at n place)
        load_fault f = stays_at (λ l o d. due_at board.make kind refl (none l o d) (load_of_a_fault f))

        pub load_wide : {n : ℕ} {words : List ℕ} → RuleOf p n words → size ≤ n → Takes board kind b b (state, rule) (state, rule) (to_load p) (stopped_at 8 (length p))
        load_wide r h = stays_at (λ l o d. let e = end_is r in due_at board.make kind refl (none l o d) (load_too_wide r.accepted (omega arith)))

        pub load_goes : {new : Rule} {n : ℕ} → n ≡ new.last → RuleOf p new.last new.words → n < size → Takes board kind b b (state, rule) (Ready, new) (to_load p) (number n)
        load_goes {new} {n} e r h =
            let f : end_of r.accepted ≡ n = sym (e ∙ end_is r) in
            record {
              kept = board.keeps.still _;
              goes = λ l o d. record {
                done = record {
                  due = due_at board.make kind refl (none l o d) (subst (λ z. Due board.make kind size (board.meter b) l None (to_load p) (number z)) f (load_accepted r.accepted (omega arith)));
                  touches = [];
                  makes = none_untouching (λ t. elim t [ ]);
                  moves = refl;
                  sized = refl;
                  left = refl;
                };
                sound = (p, refl, none l o d, record { table = r; fits = omega arith });
                unchanged = λ a. absurd (a by_number);
                not_the_boards = λ m x. number_no_stop x;
              };
            }

    module _ {renter : ℕ} where
      pub begin_empty : {rule : Rule} {m : ℕ} → Takes board kind b b (Empty, rule) (Empty, rule) (to_begin renter m) (stopped 10)
      begin_empty = stays (omega arith) (λ l o d. due_at board.make kind d.0 refl begin_without_rule)

      module _ {state : State} {rule : Rule} (u : Unopened state) where
        pub feed_closed : {byte : ℕ} → Takes board kind b b (state, rule) (state, rule) (to_feed renter byte) (stopped 12)
        feed_closed = stays (omega arith) (λ l o d. due_at board.make kind refl (unopened board.make kind l o (board.cells b) (board.meter b) state rule u d) feed_without_frame)

        pub finish_closed : Takes board kind b b (state, rule) (state, rule) (to_finish renter) (stopped 12)
        finish_closed = stays (omega arith) (λ l o d. due_at board.make kind refl (unopened board.make kind l o (board.cells b) (board.meter b) state rule u d) finish_without_frame)

        pub drop_closed : Takes board kind b b (state, rule) (state, rule) (to_drop renter) (stopped 12)
        drop_closed = stays (omega arith) (λ l o d. due_at board.make kind refl (unopened board.make kind l o (board.cells b) (board.meter b) state rule u d) drop_without_frame)

    module _ (rule : Rule) where
      -- Begin.
      module _ (renter m : ℕ) where
        pub begin_long : most_bytes < m → Takes board kind b b (Ready, rule) (Ready, rule) (to_begin renter m) (stopped 16)
        begin_long h = stays (omega arith) (λ l o d. let (p, e, f, fit) = d in due_at board.make kind e f (begin_too_long h))

        module _ {all last : ℕ} (is : all ≡ frame_touches last m) (at : last ≡ rule.last) (short : m ≤ most_bytes) where
          all_is : all ≡ frame_touches rule.last m
          all_is = subst (λ z. all ≡ frame_touches z m) at is

          pub begin_poor : allows < all → Takes board kind b b (Ready, rule) (Ready, rule) (to_begin renter m) (stopped 17)
          begin_poor h =
              stays (omega arith) (λ l o d.
              let (p, e, f, fit) = d in
              due_at board.make kind e f (begin_without_allowance fit.table.accepted short (subst (λ z. allows < z) (all_is ∙ ap (λ z. frame_touches z m) (end_is fit.table)) h)))

          module _ (enough : all ≤ allows) where
            enough_is : frame_touches rule.last m ≤ allows
            enough_is = subst (λ z. z ≤ allows) all_is enough

            pub begin_refused : {b' : B} (stop : Stop) → Call board b rule beginning_of (begun_by kind) b' (Err stop) → Takes board kind b b' (Ready, rule) (Ready, rule) (to_begin renter m) (stopped (stop_number stop))
            begin_refused {b'} stop g = record { kept = g.kept; goes = λ l o d. let (p, e, f, fit) = d in begin_never board.make kind (board.cells b) (board.meter b) rule p fit renter m enough_is g.done }

            pub begin_goes : {b' : B} (touches : ℕ) → Call board b rule beginning_of (begun_by kind) b' (Ok touches) → Takes board kind b b' (Ready, rule) (Open (record { renter = renter; length = m; fed = 0; touches = touches }), rule) (to_begin renter m) (number all)
            begin_goes {b'} touches g = record {
              kept = g.kept;
              goes = λ l o d.
                  let (p, e, f, fit) = d in
                  goes_at board.make kind e f
                  (subst (λ z. Goes board.make kind (Some p) None (Ready, rule) (board.cells b) (board.meter b) (to_begin renter m) (number z) (Open (record { renter = renter; length = m; fed = 0; touches = touches }), rule) (board.cells b') (board.meter b')) (sym all_is)
                  (begin_done board.make kind (board.cells b) (board.meter b) rule p fit renter m (board.cells b') (board.meter b') touches short enough_is g.done.1 (Ready, rule)));
            }

      -- The calls on a frame that is open.
      module _ (own : OpenFrame) where
        pub load_open : {p : List ℕ} → Takes board kind b b (Open own, rule) (Open own, rule) (to_load p) (stopped_at 9 0)
        load_open = stays_at (λ l o d. let (q, f, e, g, u) = d in due_at board.make kind refl g load_while_open)

        module _ (renter : ℕ) where
          pub begin_open : {m : ℕ} → Takes board kind b b (Open own, rule) (Open own, rule) (to_begin renter m) (stopped 11)
          begin_open = stays (omega arith) (λ l o d. let (p, f, e, g, u) = d in due_at board.make kind e g begin_while_open)

          module _ (other : own.renter ≢ renter) where
            pub feed_other : {byte : ℕ} → Takes board kind b b (Open own, rule) (Open own, rule) (to_feed renter byte) (stopped 13)
            feed_other = stays (omega arith) (λ l o d. let (p, f, e, g, u) = d in due_at board.make kind e g (feed_of_another (λ x. other (u.renter ∙ x))))

            pub finish_other : Takes board kind b b (Open own, rule) (Open own, rule) (to_finish renter) (stopped 13)
            finish_other = stays (omega arith) (λ l o d. let (p, f, e, g, u) = d in due_at board.make kind e g (finish_of_another (λ x. other (u.renter ∙ x))))

            pub drop_other : Takes board kind b b (Open own, rule) (Open own, rule) (to_drop renter) (stopped 13)
            drop_other = stays (omega arith) (λ l o d. let (p, f, e, g, u) = d in due_at board.make kind e g (drop_of_another (λ x. other (u.renter ∙ x))))

          module _ (mine : own.renter ≡ renter) where
            pub feed_full : {byte : ℕ} → own.length ≤ own.fed → Takes board kind b b (Open own, rule) (Open own, rule) (to_feed renter byte) (stopped 14)
            feed_full h = stays (omega arith) (λ l o d.
                let (p, f, e, g, u) = d in
                let q = u.promised in
                let w = u.fed in
                due_at board.make kind e g (feed_after_the_last (sym u.renter ∙ mine) (omega arith)))

            pub finish_early : own.fed < own.length → Takes board kind b b (Open own, rule) (Open own, rule) (to_finish renter) (stopped 15)
            finish_early h = stays (omega arith) (λ l o d.
                let (p, f, e, g, u) = d in
                let q = u.promised in
                let w = u.fed in
                due_at board.make kind e g (finish_before_the_last (sym u.renter ∙ mine) (omega arith)))

            module _ {b' : B} where
              module _ (byte : ℕ) (before : own.fed < own.length) where
                pub feed_refused : (stop : Stop) → Call board b rule feeding_of (fed_by kind byte (own.fed + 1)) b' (Err stop) → Takes board kind b b' (Open own, rule) (Open own, rule) (to_feed renter byte) (stopped (stop_number stop))
                feed_refused stop g = record { kept = g.kept; goes = λ l o d. let (p, f, e, h, u) = d in feed_never board.make kind (board.cells b) (board.meter b) rule p f own u renter byte before g.done }

                pub feed_goes : (more : ℕ) → byte < 256 → Call board b rule feeding_of (fed_by kind byte (own.fed + 1)) b' (Ok more)
                    → Takes board kind b b' (Open own, rule) (Open (record { renter = own.renter; length = own.length; fed = own.fed + 1; touches = (own.touches + more) % 2 ^ 64 }), rule) (to_feed renter byte) (number (own.length - (own.fed + 1)))
                feed_goes more small g = record {
                  kept = g.kept;
                  goes = λ l o d.
                      let (p, f, e, h, u) = d in
                      goes_at board.make kind e h (feed_done board.make kind (board.cells b) (board.meter b) rule p f own u renter byte (board.cells b') (board.meter b') more small mine before g.done.1 (Open own, rule) _ refl);
                }

              pub finish_refused : (stop : Stop) → ReadingCall board b rule finishing_of (wiped_by kind) b' (Err stop) → Takes board kind b b' (Open own, rule) (Open own, rule) (to_finish renter) (stopped (stop_number stop))
              finish_refused stop g = record { kept = g.kept; goes = λ l o d. let (p, f, e, h, u) = d in finish_never board.make kind (board.cells b) (board.meter b) rule p f own u renter g.done }

              pub finish_goes : (mark : M) (more : ℕ) → own.length ≤ own.fed → ReadingCall board b rule finishing_of (wiped_by kind) b' (Ok (mark, more))
                  → Takes board kind b b' (Open own, rule) (Ready, rule) (to_finish renter) (verdict mark ((own.touches + more) % 2 ^ 64))
              finish_goes mark more all g = record {
                kept = g.kept;
                goes = λ l o d.
                    let (p, f, e, h, u) = d in
                    goes_at board.make kind e h (finish_done board.make kind (board.cells b) (board.meter b) rule p f own u renter (Open own, rule) (board.cells b') (board.meter b') mark more mine all g.done.0 g.done.2);
              }

              pub drop_refused : (stop : Stop) → Call board b rule wiping_of (wiped_by kind) b' (Err stop) → Takes board kind b b' (Open own, rule) (Open own, rule) (to_drop renter) (stopped (stop_number stop))
              drop_refused stop g = record { kept = g.kept; goes = λ l o d. let (p, f, e, h, u) = d in drop_never board.make kind (board.cells b) (board.meter b) rule p f own u renter g.done }

              pub drop_goes : (more : ℕ) → Call board b rule wiping_of (wiped_by kind) b' (Ok more) → Takes board kind b b' (Open own, rule) (Ready, rule) (to_drop renter) (number ((own.touches + more) % 2 ^ 64))
              drop_goes more g = record {
                kept = g.kept;
                goes = λ l o d.
                    let (p, f, e, h, u) = d in
                    goes_at board.make kind e h (drop_done board.make kind (board.cells b) (board.meter b) rule p f own u renter (Open own, rule) (board.cells b') (board.meter b') more mine g.done.1);
              }
