-- The calls that touch the board, on a sound screen.
use Rattle.std.proofs.Common.{◌≡◌, ℕ, suc, ◌+◌, ◌-◌, ◌*◌, ◌%◌, ◌^◌, ◌<◌, ◌≤◌, List, [], ◌∷◌, ◌++◌, length, get_or, Some, None, sym, refl, ap, ◌∙◌, subst, mod-eq_of_lt, mul-le-mul, mul-zero, mul-suc, arith, length-append}
use Rattle.board.specs.Boards.{Make}
use Rattle.conduct.specs.Calls.{Frame, by_number, by_verdict, frame, number, to_begin, to_drop, to_feed, to_finish, verdict}
use Rattle.conduct.specs.Rules.{Blank, Due, OfLoaded, begin_accepted, begins, by_the_table, drop_accepted, drops, end_of, feed_accepted, feeds, finish_accepted, finishes}
use Rattle.language.proofs.Answered.{one_answer}
use Rattle.language.specs.Links.{last_position}
use Rattle.language.specs.Patterns.{Accepted, Tree, alternatives}
use Rattle.mark.specs.Limits.{most_bytes}
use Rattle.mark.specs.Marks.{Kind}
use Rattle.screen.proofs.Lengths.{length_beginning, length_feeding, length_writes}
use Rattle.method.proofs.Others.{leave_others, stepped_over_others}
use Rattle.method.specs.Cells.{across, begun, fed, placed, scanned, settled, stepped_over, wiped}
use Rattle.screen.specs.Schedules.{dropped_touches, frame_touches}
use Rattle.method.specs.Theorems.{LeavesOthers}
use Rattle.screen.proofs.Wholes.{finish_length}
use Rattle.screen.specs.ByRule.{beginning_of, begun_by, fed_by, feeding_of, finishing_of, wiped_by, wiping_of}
use Rattle.screen.specs.Moving.{Lacks, Moves, NotBegun, a_cell, allowance}
use Rattle.rule.specs.Words.{first_of, second_of, takes_at}
use Rattle.rule.specs.declared.table.Rule.{Rule}
use Rattle.calls.proofs.Loading.{end_is}
use Rattle.calls.proofs.Stops.{number_no_stop, verdict_no_stop}
use Rattle.calls.specs.Sound.{Fitted, Goes, Held, Sound, Underway, made_touches, rest_touches}
use Rattle.calls.specs.declared.frame.OpenFrame.{OpenFrame}
use Rattle.calls.specs.declared.frame.State.TheVariants.{Open, Ready}
use Rattle.std.proofs.ByRecursion.{All-push}
use Rattle.std.proofs.lemmas.List.{get_or_default}
use Rattle.theory.proofs.ByteStep.{filled_at}
use Rattle.theory.proofs.Frames.{begun_holds, begun_long, fed_holds, fed_long}
use Rattle.theory.proofs.Tables.{table_tells}
use Rattle.theory.proofs.Verdicts.{last_cell}
use Rattle.theory.specs.Meaning.{Holds}
use Rattle.theory.specs.Verdicts.{Verdict}

-- what holds of the tree of a pattern holds of the tree of the pattern loaded
pub of_loaded : {p : List ℕ} (a : Accepted p) (P : Tree alternatives → Type 0) → P a.tree → OfLoaded (Some p) P
of_loaded {p} a P x q b e =
    let f : p ≡ q = cc in
    subst (λ z. (c : Accepted z) → P c.tree) f (λ c. subst P ((one_answer p).one_tree a c) x) b

-- movements one after another leave what each leaves
others_on : {M : Type 0} {n : ℕ} {a b c : List M} → LeavesOthers n a b → LeavesOthers n b c → LeavesOthers n a c
others_on x y = record { long = y.long ∙ x.long; others = λ j d h. y.others j d h ∙ x.others j d h }

module _ {M : Type 0} (kind : Kind M) (words : List ℕ) (n : ℕ) where
  abbrev cells_settled : List M → List M
  cells_settled cells = settled kind.join kind.nothing (first_of words) (second_of words) n cells

  settled_others : (cells : List M) → LeavesOthers n cells (cells_settled cells)
  settled_others cells =
      let once = scanned kind.join kind.nothing (first_of words) (second_of words) n cells in
      others_on ((leave_others M).scanning kind.join kind.nothing (first_of words) (second_of words) n cells)
      ((leave_others M).scanning kind.join kind.nothing (first_of words) (second_of words) n once)

  pub begun_others : (cells : List M) → LeavesOthers n cells (begun kind (first_of words) (second_of words) (takes_at words) n cells)
  unfolding begun
  begun_others cells = others_on ((leave_others M).placing (kind.seed 0) kind.nothing n cells) (settled_others (placed (kind.seed 0) kind.nothing n cells))

  pub fed_others : (i c : ℕ) (cells : List M) → LeavesOthers n cells (fed kind (first_of words) (second_of words) (takes_at words) n i c cells)
  unfolding fed
  fed_others i c cells =
      let over = across kind.nothing (takes_at words c) in
      others_on (stepped_over_others kind.nothing over (kind.seed i) n cells) (settled_others (stepped_over kind.nothing over (kind.seed i) n cells))

-- a wiped cell holds nothing
pub wiped_blank : {M : Type 0} (kind : Kind M) (n : ℕ) (cells : List M) → n < length cells → (j : ℕ) (default : M) → j ≤ n → get_or (wiped kind.nothing n cells) j default ≡ kind.nothing
wiped_blank kind n cells h j default g = filled_at (λ j. kind.nothing) default (suc n) 0 cells (omega arith) j (omega arith) (omega arith)

-- the touches of a frame, byte by byte
pub rest_less : (n i : ℕ) → rest_touches n (suc i) ≡ (10 * n + 9) + rest_touches n i
rest_less n i = let p = mul-suc n i in omega arith

pub made_more : (n k : ℕ) → made_touches n (suc k) ≡ made_touches n k + (10 * n + 9)
made_more n k = let p = mul-suc n k in omega arith

-- the count of a frame is far from the end of its memory
pub few_touches : (n k : ℕ) → n < 1023 → k ≤ most_bytes → made_touches n k + 11000 < 2 ^ 64
few_touches n k h g = let q : n ≤ 1023 = omega arith in let p : n * k ≤ 1023 * 4096 = mul-le-mul q g in omega arith

-- a board that has what it takes lacks nothing
lacks_nothing : {A : Type 0} {size allows last touches number : ℕ} → last < size → touches ≤ allows → Lacks size allows last touches number → A
lacks_nothing f g (a_cell h) = let z : ⊥ = omega arith in absurd z
lacks_nothing f g (allowance h k) = let z : ⊥ = omega arith in absurd z

-- Begin.
module _ {M X : Type 0} (make : Make X) (kind : Kind M) (cells : List M) (meter : X) (rule : Rule) (p : List ℕ) (fitted : Fitted p rule (length cells)) (renter m : ℕ) where
  pub begin_never : {A : Type 0} {number : ℕ} {after cells' : List M} {meter' : X} → frame_touches rule.last m ≤ make.allowed (length cells) meter
      → NotBegun make cells meter rule.last (beginning_of rule) after cells' meter' number → A
  begin_never h b = let l = length_beginning (first_of rule.words) (second_of rule.words) rule.last in lacks_nothing fitted.fits (omega arith) b.lacks

  module _ (cells' : List M) (meter' : X) (touches : ℕ) (g : m ≤ most_bytes) (h : frame_touches rule.last m ≤ make.allowed (length cells) meter)
      (mv : Moves make cells meter (beginning_of rule) (begun_by kind rule cells) cells' meter' touches) where
    begin_holds : Holds kind fitted.table.accepted.tree [] cells'
    begin_holds =
        let t = fitted.table.accepted.tree in
        subst (λ z. Holds kind t [] z) (sym mv.holds)
        (begun_holds kind t rule.last (first_of rule.words) (second_of rule.words) (takes_at rule.words) (table_tells t rule.last rule.words fitted.table.table) cells fitted.fits)

    begin_size : length cells' ≡ length cells
    begin_size = ap length mv.holds ∙ begun_long kind (first_of rule.words) (second_of rule.words) (takes_at rule.words) rule.last cells

    begin_underway : Underway make kind p (frame renter m []) (record { renter = renter; length = m; fed = 0; touches = touches }) rule cells' meter'
    begin_underway =
        let size = begin_size in
        let l = length_beginning (first_of rule.words) (second_of rule.words) rule.last in
        let c = mv.counted in
        let last = mv.lasts in
        let none = mul-zero rule.last in
        let all : m - 0 ≡ m = omega arith in
        let same : make.allowed (length cells') meter' ≡ make.allowed (length cells) meter' = ap (λ z. make.allowed z meter') size in
        record {
          fitted = record { table = fitted.table; fits = let k = fitted.fits in omega arith };
          renter = refl;
          promised = refl;
          fed = refl;
          in_bounds = omega arith;
          short = g;
          bytes = tt;
          holds = begin_holds;
          counted = omega arith;
          allowed = subst (λ z. rest_touches rule.last z ≤ make.allowed (length cells') meter') (sym all) (omega arith);
        }

    pub begin_done : (held : Held) → Goes make kind (Some p) None held cells meter (to_begin renter m) (number (frame_touches rule.last m)) (Open (record { renter = renter; length = m; fed = 0; touches = touches }), rule) cells' meter'
    begin_done held =
        let a = fitted.table.accepted in
        let e = end_is fitted.table in
        let others : LeavesOthers rule.last cells cells' = subst (LeavesOthers rule.last cells) (sym mv.holds) (begun_others kind rule.words rule.last cells) in
        record {
          done = record {
            due =
                subst (λ z. Due make kind (length cells) meter (Some p) None (to_begin renter m) (number (frame_touches z m))) (sym e)
                (begin_accepted a g (subst (λ z. frame_touches z m ≤ make.allowed (length cells) meter) e h));
            touches = beginning_of rule;
            makes = by_the_table rule.words begins by_number fitted.table;
            moves = mv.moves;
            sized = begin_size;
            left = of_loaded a (λ t. Holds kind t [] cells' × LeavesOthers (last_position t) cells cells') (begin_holds, subst (λ z. LeavesOthers z cells cells') e others);
          };
          sound = (p, frame renter m [], refl, refl, begin_underway);
          unchanged = λ x. absurd (x by_number);
          not_the_boards = λ k x. number_no_stop x;
        }

-- A call on a frame that is open.
module _ {M X : Type 0} (make : Make X) (kind : Kind M) (cells : List M) (meter : X) (rule : Rule) (p : List ℕ) (f : Frame) (own : OpenFrame) (u : Underway make kind p f own rule cells meter) where
  abbrev n : ℕ
  n = rule.last

  -- the count as it is kept is the count
  count_is : (more : ℕ) → more ≤ 11000 → (own.touches + more) % 2 ^ 64 ≡ made_touches n (length f.bytes) + more
  count_is more h =
      let small = rule.fits in
      let c = u.counted in
      let b = u.in_bounds in
      let s = u.short in
      let few = few_touches n (length f.bytes) small (omega arith) in
      let fits : own.touches + more < 2 ^ 64 = omega arith in
      mod-eq_of_lt fits ∙ ap (λ z. z + more) c

  -- Feed.
  module _ (renter byte : ℕ) where
    pub feed_never : {A : Type 0} {number : ℕ} {after cells' : List M} {meter' : X} → own.fed < own.length
        → NotBegun make cells meter n (feeding_of rule) after cells' meter' number → A
    feed_never h b =
        let l = length_feeding (first_of rule.words) (second_of rule.words) n in
        let a = u.promised in
        let c = u.fed in
        let e : f.length - length f.bytes ≡ suc (f.length - suc (length f.bytes)) = omega arith in
        let r = u.allowed in
        let s : rest_touches n (f.length - length f.bytes) ≡ (10 * n + 9) + rest_touches n (f.length - suc (length f.bytes)) = ap (rest_touches n) e ∙ rest_less n (f.length - suc (length f.bytes)) in
        lacks_nothing u.fitted.fits (omega arith) b.lacks

    module _ (cells' : List M) (meter' : X) (more : ℕ) (b : byte < 256) (mine : own.renter ≡ renter) (before : own.fed < own.length)
        (mv : Moves make cells meter (feeding_of rule) (fed_by kind byte (own.fed + 1) rule cells) cells' meter' more) where
      abbrev now : OpenFrame
      now = record { renter = own.renter; length = own.length; fed = own.fed + 1; touches = (own.touches + more) % 2 ^ 64 }

      abbrev after : Frame
      after = frame f.renter f.length (f.bytes ++ (byte ∷ []))

      feed_holds : Holds kind u.fitted.table.accepted.tree (f.bytes ++ (byte ∷ [])) cells'
      feed_holds =
          let t = u.fitted.table.accepted.tree in
          let i : own.fed + 1 ≡ suc (length f.bytes) = let c = u.fed in omega arith in
          let e = mv.holds ∙ ap (λ z. fed_by kind byte z rule cells) i in
          subst (λ z. Holds kind t (f.bytes ++ (byte ∷ [])) z) (sym e)
          (fed_holds kind t n (first_of rule.words) (second_of rule.words) (takes_at rule.words) (table_tells t n rule.words u.fitted.table.table) f.bytes byte b cells u.fitted.fits u.holds)

      feed_size : length cells' ≡ length cells
      feed_size = ap length mv.holds ∙ fed_long kind (first_of rule.words) (second_of rule.words) (takes_at rule.words) n (own.fed + 1) byte cells

      feed_underway : Underway make kind p after now rule cells' meter'
      feed_underway =
          let size = feed_size in
          let l = length_feeding (first_of rule.words) (second_of rule.words) n in
          let small = rule.fits in
          let c = mv.counted in
          let last = mv.lasts in
          let k : length (f.bytes ++ (byte ∷ [])) ≡ suc (length f.bytes) = length-append f.bytes (byte ∷ []) ∙ omega arith in
          let w = u.fed in
          let q = u.promised in
          let e : f.length - length f.bytes ≡ suc (f.length - suc (length f.bytes)) = omega arith in
          let r = u.allowed in
          let s : rest_touches n (f.length - length f.bytes) ≡ (10 * n + 9) + rest_touches n (f.length - suc (length f.bytes)) = ap (rest_touches n) e ∙ rest_less n (f.length - suc (length f.bytes)) in
          let same : make.allowed (length cells') meter' ≡ make.allowed (length cells) meter' = ap (λ z. make.allowed z meter') size in
          record {
            fitted = record { table = u.fitted.table; fits = let h = u.fitted.fits in omega arith };
            renter = u.renter;
            promised = q;
            fed = omega arith;
            in_bounds = omega arith;
            short = u.short;
            bytes = All-push (λ c. c < 256) f.bytes byte u.bytes b;
            holds = feed_holds;
            counted = count_is more (omega arith) ∙ (let m = made_more n (length f.bytes) in ap (λ z. made_touches n (length f.bytes) + z) (c ∙ l) ∙ sym m) ∙ ap (made_touches n) (sym k);
            allowed = subst (λ z. rest_touches n (f.length - z) ≤ make.allowed (length cells') meter') (sym k) (omega arith);
          }

      pub feed_done : (held : Held) (answer : ℕ) → answer ≡ own.length - (own.fed + 1) → Goes make kind (Some p) (Some f) held cells meter (to_feed renter byte) (number answer) (Open now, rule) cells' meter'
      feed_done held answer is =
          let a = u.fitted.table.accepted in
          let e = end_is u.fitted.table in
          let q = u.promised in
          let w = u.fed in
          let g : f.length - suc (length f.bytes) ≡ answer = omega arith in
          let others : LeavesOthers n cells cells' = subst (LeavesOthers n cells) (sym mv.holds) (fed_others kind rule.words n (own.fed + 1) byte cells) in
          record {
            done = record {
              due = subst (λ z. Due make kind (length cells) meter (Some p) (Some f) (to_feed renter byte) (number z)) g (feed_accepted (sym u.renter ∙ mine) (omega arith));
              touches = feeding_of rule;
              makes = by_the_table rule.words feeds by_number u.fitted.table;
              moves = mv.moves;
              sized = feed_size;
              left = λ f' x.
                  let y : f ≡ f' = cc in
                  subst (λ z. OfLoaded (Some p) (λ t. Holds kind t (z.bytes ++ (byte ∷ [])) cells' × LeavesOthers (last_position t) cells cells')) y
                  (of_loaded a (λ t. Holds kind t (f.bytes ++ (byte ∷ [])) cells' × LeavesOthers (last_position t) cells cells') (feed_holds, subst (λ z. LeavesOthers z cells cells') e others));
            };
            sound = (p, after, refl, refl, feed_underway);
            unchanged = λ x. absurd (x by_number);
            not_the_boards = λ k x. number_no_stop x;
          }

  -- the cells of a frame that has ended
  module _ (cells' : List M) (e : cells' ≡ wiped_by kind rule cells) where
    wiped_size : length cells' ≡ length cells
    wiped_size = ap length e ∙ ((leave_others M).wiping kind.nothing n cells).long

    wiped_left : OfLoaded (Some p) (λ t. Blank kind t cells' × LeavesOthers (last_position t) cells cells')
    wiped_left =
        let g = end_is u.fitted.table in
        of_loaded u.fitted.table.accepted (λ t. Blank kind t cells' × LeavesOthers (last_position t) cells cells') (
          (λ j d h. ap (λ z. get_or z j d) e ∙ wiped_blank kind n cells u.fitted.fits j d (omega arith)),
          subst (λ z. LeavesOthers z cells cells') g (subst (LeavesOthers n cells) (sym e) ((leave_others M).wiping kind.nothing n cells)),
        )

    ended : Sound make kind (Some p) None (Ready, rule) cells' meter
    ended = (p, refl, refl, record { table = u.fitted.table; fits = let h = u.fitted.fits in let s = wiped_size in omega arith })

  -- Finish.
  module _ (renter : ℕ) where
    pub finish_never : {A : Type 0} {number : ℕ} {after cells' : List M} {meter' : X}
        → NotBegun make cells meter n (finishing_of rule) after cells' meter' number → A
    finish_never b = let l = finish_length rule.words n in let r = u.allowed in lacks_nothing u.fitted.fits (omega arith) b.lacks

    pub finish_done : (held : Held) (cells' : List M) (meter' : X) (mark : M) (more : ℕ) → own.renter ≡ renter → own.length ≤ own.fed → mark ≡ get_or cells n mark
        → Moves make cells meter (finishing_of rule) (wiped_by kind rule cells) cells' meter' more
        → Goes make kind (Some p) (Some f) held cells meter (to_finish renter) (verdict mark ((own.touches + more) % 2 ^ 64)) (Ready, rule) cells' meter'
    finish_done held cells' meter' mark more mine all is mv =
        let a = u.fitted.table.accepted in
        let t = a.tree in
        let e = end_is u.fitted.table in
        let q = u.promised in
        let w = u.fed in
        let b = u.in_bounds in
        let c = mv.counted in
        let l = finish_length rule.words n in
        let small = rule.fits in
        let k : f.length ≡ length f.bytes = omega arith in
        let count : (own.touches + more) % 2 ^ 64 ≡ frame_touches (end_of a) f.length =
        count_is more (omega arith) ∙ (let z : made_touches n (length f.bytes) + more ≡ frame_touches n (length f.bytes) = omega arith in z) ∙ ap (frame_touches n) (sym k) ∙ ap (λ z. frame_touches z f.length) e in
        let there : get_or cells (last_position t) kind.nothing ≡ mark = ap (λ z. get_or cells z kind.nothing) (sym e) ∙ get_or_default cells n kind.nothing mark u.fitted.fits ∙ sym is in
        let due : Due make kind (length cells) meter (Some p) (Some f) (to_finish renter) (verdict mark (frame_touches (end_of a) f.length)) =
        finish_accepted a (sym u.renter ∙ mine) k (subst (λ z. Verdict kind t f.bytes z) there (last_cell M kind t f.bytes cells u.holds)) in
        record {
          done = record {
            due = subst (λ z. Due make kind (length cells) meter (Some p) (Some f) (to_finish renter) (verdict mark z)) (sym count) due;
            touches = finishing_of rule;
            makes = by_the_table rule.words finishes by_verdict u.fitted.table;
            moves = mv.moves;
            sized = wiped_size cells' mv.holds;
            left = wiped_left cells' mv.holds;
          };
          sound = ended cells' mv.holds;
          unchanged = λ x. absurd (x by_verdict);
          not_the_boards = λ k x. verdict_no_stop x;
        }

  -- Drop.
  module _ (renter : ℕ) where
    pub drop_never : {A : Type 0} {number : ℕ} {after cells' : List M} {meter' : X} → NotBegun make cells meter n (wiping_of rule) after cells' meter' number → A
    drop_never b = let l = length_writes (suc n) 0 in let r = u.allowed in lacks_nothing u.fitted.fits (omega arith) b.lacks

    pub drop_done : (held : Held) (cells' : List M) (meter' : X) (more : ℕ) → own.renter ≡ renter → Moves make cells meter (wiping_of rule) (wiped_by kind rule cells) cells' meter' more
        → Goes make kind (Some p) (Some f) held cells meter (to_drop renter) (number ((own.touches + more) % 2 ^ 64)) (Ready, rule) cells' meter'
    drop_done held cells' meter' more mine mv =
        let a = u.fitted.table.accepted in
        let e = end_is u.fitted.table in
        let c = mv.counted in
        let l = length_writes (suc n) 0 in
        let small = rule.fits in
        let count : (own.touches + more) % 2 ^ 64 ≡ dropped_touches (end_of a) (length f.bytes) =
        count_is more (omega arith) ∙ (let z : made_touches n (length f.bytes) + more ≡ dropped_touches n (length f.bytes) = omega arith in z) ∙ ap (λ z. dropped_touches z (length f.bytes)) e in
        record {
          done = record {
            due = subst (λ z. Due make kind (length cells) meter (Some p) (Some f) (to_drop renter) (number z)) (sym count) (drop_accepted a (sym u.renter ∙ mine));
            touches = wiping_of rule;
            makes = by_the_table rule.words drops by_number u.fitted.table;
            moves = mv.moves;
            sized = wiped_size cells' mv.holds;
            left = wiped_left cells' mv.holds;
          };
          sound = ended cells' mv.holds;
          unchanged = λ x. absurd (x by_number);
          not_the_boards = λ k x. number_no_stop x;
        }
