-- What the cells hold when a frame has begun, and after each byte.
use Rattle.std.proofs.Common.{◌≡◌, ℕ, zero, suc, ◌+◌, ◌<◌, ◌≤◌, Bool, true, false, cond, List, [], ◌∷◌, ◌++◌, length, get_or, drop, Option, sym, refl, ap, ◌∙◌, subst, append_assoc, append-nil, arith, length-append, length-set, get_or-set_other, get_or-set_same}
use Rattle.language.specs.Links.{LinksOf, last_position}
use Rattle.language.specs.Patterns.{Tree, alternatives}
use Rattle.language.specs.Ways.{Chain, Takes, over, stay}
use Rattle.mark.specs.Joins.{Contained, JoinOf}
use Rattle.mark.specs.Marks.{Kind, Laws}
use Rattle.method.proofs.Others.{leave_others, stepped_over_others}
use Rattle.method.specs.Cells.{across, begun, cells_after, fed, fed_all, first_mark, placed, scanned, settled, shift_over, stepped_over}
use Rattle.theory.proofs.ByteStep.{filled_at, shift_next}
use Rattle.theory.proofs.Joins.{Made, Moves, join_of, join_of_via, made_each, made_is, made_none, made_of, made_one, made_pass, moves_under, under_trans}
use Rattle.theory.proofs.TwoScans.{chain_end, settles}
use Rattle.theory.proofs.Ways.{carried, carried_same, lengthen, respelt, split, still}
use Rattle.theory.specs.Meaning.{Arrival, Behind, Bytes, Holds, Tells}
use Rattle.theory.specs.Theorems.{CellsHoldAfterEachByte}
use lib.Seq.{drop-append-add, drop-append-le}
use native.Mathlib.Decide.{dec_le}

cond_true : {M : Type 0} (v : Bool) (m n : M) → v ≡ true → cond v m n ≡ m
cond_true true m n h = refl
cond_true false m n h = let z : ◌≡◌ {A = ℕ} 0 1 = cc in let y : ⊥ = omega arith in absurd y

drop_nil : (p : ℕ) → drop {A = ℕ} p [] ≡ []
drop_nil zero = refl
drop_nil (suc p) = refl

-- Marks may change on their way, by a move over each position that takes a byte: over joins it gives joins, of nothing nothing.
module _ {M : Type 0} (join : M → M → M) (nothing : M) (laws : Laws join nothing)
    (pass : ℕ → M → M) (moves : (j : ℕ) → Moves join nothing (pass j)) (seed : ℕ → M)
    (t : Tree alternatives) (first second : ℕ → Option ℕ) (takes : ℕ → ℕ → Bool) (tells : Tells t (last_position t) first second takes) where
  abbrev end : ℕ
  end = last_position t

  abbrev mark : (w : List ℕ) (k : ℕ) → Arrival t w k → M
  mark w k a = carried pass a.way (seed a.place)

  abbrev Held : List ℕ → List M → Type 0
  Held w cs = (k : ℕ) → k ≤ end → JoinOf join nothing (mark w k) (get_or cs k nothing)

  abbrev settle : List M → List M
  settle cs = settled join nothing first second end cs

  settled_cell : (cs : List M) → end < length cs → (k : ℕ) → k ≤ end → JoinOf join nothing (λ (i : Behind t k). get_or cs i.position nothing) (get_or (settle cs) k nothing)
  settled_cell cs e k h = settles t join nothing laws first second tells.links cs e k h

  -- two scans of cells that are themselves made of a family's members along each chain
  settled_held : (w : List ℕ) (cs : List M) → end < length cs
      → ((k : ℕ) → k ≤ end → (m : M) → ((i : Behind t k) → Contained join (get_or cs i.position nothing) m) → (a : Arrival t w k) → Contained join (mark w k a) m)
      → ((k : ℕ) → k ≤ end → (i : ℕ) → Chain (LinksOf t) i k → Made join nothing (mark w k) (get_or cs i nothing))
      → Held w (settle cs)
  settled_held w cs e above made k h =
      let s = settled_cell cs e k h in
      let from : Behind t k → M = λ i. get_or cs i.position nothing in
      join_of join nothing laws (mark w k) (above k h _ s.contains)
      (made_each join nothing laws from (mark w k) (λ i. made k h i.position i.chain) (made_of join nothing laws from s))

  -- The beginning.
  module _ (cs : List M) (long : end < length cs) where
    abbrev blank : List M
    blank = placed (seed 0) nothing end cs

    blank_at : (k : ℕ) → k ≤ end → get_or blank k nothing ≡ first_mark (seed 0) nothing k
    blank_at k h = filled_at (first_mark (seed 0) nothing) nothing (suc end) 0 cs (omega arith) k (omega arith) (omega arith)

    begin_above : (k : ℕ) → k ≤ end → (m : M) → ((i : Behind t k) → Contained join (get_or blank i.position nothing) m) → (a : Arrival t [] k) → Contained join (mark [] k a) m
    begin_above k h m f a =
        let r = still pass a.way (drop_nil a.place) in
        let g = a.within in
        let e : a.place ≡ 0 = omega arith in
        subst (λ x. Contained join x m) (blank_at 0 (omega arith) ∙ sym (r.same (seed a.place) ∙ ap seed e)) (f (record { position = 0; chain = r.chain }))

    begin_made : (k : ℕ) → k ≤ end → (i : ℕ) → Chain (LinksOf t) i k → Made join nothing (mark [] k) (get_or blank i nothing)
    begin_made k h zero c =
        let r = lengthen pass stay c in
        made_is join nothing laws (mark [] k) (blank_at 0 (omega arith) ∙ sym (r.same (seed 0))) (made_one join nothing laws (mark [] k) (record { place = 0; within = omega arith; way = r.way }))
    begin_made k h (suc i) c = made_is join nothing laws (mark [] k) (blank_at (suc i) (chain_end t c h)) (made_none join nothing laws (mark [] k))

    pub begin_holds : Held [] (settle blank)
    begin_holds = settled_held [] blank (let l = ((leave_others M).placing (seed 0) nothing end cs).long in omega arith) begin_above begin_made

  -- One byte.
  module _ (w : List ℕ) (c : ℕ) (byte : c < 256) (cs : List M) (long : end < length cs) (old : Held w cs) where
    abbrev n : ℕ
    n = suc (length w)

    abbrev w' : List ℕ
    w' = w ++ (c ∷ [])

    abbrev come_over : ℕ → M → M
    come_over j m = cond (takes c j) (pass j m) nothing

    abbrev ms : List M
    ms = stepped_over nothing come_over (seed n) end cs

    ms_first : get_or ms 0 nothing ≡ seed n
    ms_first = get_or-set_same (shift_over nothing come_over end cs) 0 (seed n) nothing (let l = (stepped_over_others nothing come_over (seed n) end cs).long in omega (arith, length-set (shift_over nothing come_over end cs) 0 (seed n)))

    ms_next : (j : ℕ) → suc j ≤ end → get_or ms (suc j) nothing ≡ come_over j (get_or cs j nothing)
    ms_next j h =
        get_or-set_other (shift_over nothing come_over end cs) 0 (suc j) (seed n) nothing (omega arith) ∙
        shift_next nothing come_over end cs (omega arith) j h

    early : (p : ℕ) → p ≤ length w → drop p w' ≡ drop p w ++ (c ∷ [])
    early p h = drop-append-le p w (c ∷ []) h

    late : (p : ℕ) → p ≡ n → drop p w' ≡ []
    late p h = let e : p ≡ length w + 1 = omega arith in ap (λ x. drop x w') e ∙ drop-append-add w (c ∷ []) 1

    length_w' : length w' ≡ n
    length_w' = length-append w (c ∷ []) ∙ omega arith

    feed_above : (k : ℕ) → k ≤ end → (m : M) → ((i : Behind t k) → Contained join (get_or ms i.position nothing) m) → (a : Arrival t w' k) → Contained join (mark w' k a) m
    feed_above k h m f a =
        elim (dec_le a.place (length w)) [
          | yes d ↦
              let r = split pass a.way (drop a.place w) c (early a.place d) in
              let j = r.at in
              let there : suc j ≤ end = chain_end t r.chain h in
              let low = (old j (omega arith)).contains (record { place = a.place; within = d; way = r.before }) in
              let e : get_or ms (suc j) nothing ≡ pass j (get_or cs j nothing) =
              ms_next j there ∙ cond_true (takes c j) (pass j (get_or cs j nothing)) nothing ((tells.bytes c j byte there).1 r.taken) in
              let last = f (record { position = suc j; chain = r.chain }) in
              subst (λ x. Contained join x m) (sym (r.same (seed a.place)))
              (under_trans join nothing laws _ (pass j (get_or cs j nothing)) m
              (moves_under join nothing laws (pass j) (moves j) _ (get_or cs j nothing) low)
              (subst (λ x. Contained join x m) e last))
          | no d ↦
              let in_w = a.within in
              let q = length_w' in
              let e : a.place ≡ n = omega arith in
              let r = still pass a.way (late a.place e) in
              subst (λ x. Contained join x m) (ms_first ∙ ap seed (sym e) ∙ sym (r.same (seed a.place))) (f (record { position = 0; chain = r.chain }))
        ]

    kept_made : (k : ℕ) (v : Bool) (m : M) → (v ≡ true → Made join nothing (mark w' k) m) → Made join nothing (mark w' k) (cond v m nothing)
    kept_made k true m f = f refl
    kept_made k false m f = made_none join nothing laws (mark w' k)

    over_made : (k j : ℕ) → Takes t j c → Chain (LinksOf t) (suc j) k → (a : Arrival t w j) → Made join nothing (mark w' k) (pass j (mark w j a))
    over_made k j g ch a =
        let r = lengthen pass (over a.way g) ch in
        let s = respelt pass r.way (drop a.place w') (sym (early a.place a.within)) in
        let q = length_w' in
        let in_w = a.within in
        let e : pass j (mark w j a) ≡ carried pass s.way (seed a.place) = sym (s.same (seed a.place) ∙ r.same (seed a.place)) in
        made_is join nothing laws (mark w' k) e
        (made_one join nothing laws (mark w' k) (record { place = a.place; within = omega arith; way = s.way }))

    feed_made : (k : ℕ) → k ≤ end → (i : ℕ) → Chain (LinksOf t) i k → Made join nothing (mark w' k) (get_or ms i nothing)
    feed_made k h zero ch =
        let r = lengthen pass stay ch in
        let s = respelt pass r.way (drop n w') (sym (late n refl)) in
        let q = length_w' in
        made_is join nothing laws (mark w' k) (ms_first ∙ sym (s.same (seed n) ∙ r.same (seed n)))
        (made_one join nothing laws (mark w' k) (record { place = n; within = omega arith; way = s.way }))
    feed_made k h (suc j) ch =
        let there : suc j ≤ end = chain_end t ch h in
        made_is join nothing laws (mark w' k) (ms_next j there)
        (kept_made k (takes c j) (pass j (get_or cs j nothing)) (λ v.
        made_each join nothing laws (λ (a : Arrival t w j). pass j (mark w j a)) (mark w' k)
        (over_made k j ((tells.bytes c j byte there).0 v) ch)
        (made_pass join nothing laws (mark w j) (pass j) (moves j) (made_of join nothing laws (mark w j) (old j (omega arith))))))

    pub feed_holds : Held w' (settle ms)
    feed_holds = settled_held w' ms (let l = (stepped_over_others nothing come_over (seed n) end cs).long in omega arith) feed_above feed_made

-- Beginning and feeding leave as many cells as there were.
module _ {M : Type 0} (kind : Kind M) (first second : ℕ → Option ℕ) (takes : ℕ → ℕ → Bool) (n : ℕ) where
  settled_long : (cells : List M) → length (settled kind.join kind.nothing first second n cells) ≡ length cells
  settled_long cells =
      ((leave_others M).scanning kind.join kind.nothing first second n (scanned kind.join kind.nothing first second n cells)).long ∙
      ((leave_others M).scanning kind.join kind.nothing first second n cells).long

  pub begun_long : (cells : List M) → length (begun kind first second takes n cells) ≡ length cells
  unfolding begun
  begun_long cells = settled_long (placed (kind.seed 0) kind.nothing n cells) ∙ ((leave_others M).placing (kind.seed 0) kind.nothing n cells).long

  pub fed_long : (i c : ℕ) (cells : List M) → length (fed kind first second takes n i c cells) ≡ length cells
  unfolding fed
  fed_long i c cells =
      let over = across kind.nothing (takes c) in
      settled_long (stepped_over kind.nothing over (kind.seed i) n cells) ∙ (stepped_over_others kind.nothing over (kind.seed i) n cells).long

-- Marks that do not change on their way.
module _ {M : Type 0} (kind : Kind M) (t : Tree alternatives) where
  abbrev Carried : List ℕ → List M → Type 0
  Carried w cells =
      (k : ℕ) → k ≤ last_position t → JoinOf kind.join kind.nothing (λ (a : Arrival t w k). carried (λ j m. m) a.way (kind.seed a.place)) (get_or cells k kind.nothing)

  as_seeded : (w : List ℕ) (cells : List M) → Carried w cells → Holds kind t w cells
  as_seeded w cells f k h =
      join_of_via kind.join kind.nothing kind.laws _ (λ (a : Arrival t w k). kind.seed a.place) (λ a. a) (λ a. a)
      (λ a. carried_same a.way (kind.seed a.place)) (λ a. sym (carried_same a.way (kind.seed a.place))) (f k h)

  as_carried : (w : List ℕ) (cells : List M) → Holds kind t w cells → Carried w cells
  as_carried w cells f k h =
      join_of_via kind.join kind.nothing kind.laws (λ (a : Arrival t w k). kind.seed a.place) _ (λ a. a) (λ a. a)
      (λ a. sym (carried_same a.way (kind.seed a.place))) (λ a. carried_same a.way (kind.seed a.place)) (f k h)

  unmoved : (j : ℕ) → Moves kind.join kind.nothing (λ (m : M). m)
  unmoved j = record { of_join = λ x y. refl; of_nothing = refl }

  module _ (n : ℕ) (first second : ℕ → Option ℕ) (takes : ℕ → ℕ → Bool) (tells : Tells t n first second takes) where
    to_end : Tells t (last_position t) first second takes
    to_end = subst (λ z. Tells t z first second takes) tells.ends tells

    -- a frame that has begun holds so
    pub begun_holds : (cells : List M) → n < length cells → Holds kind t [] (begun kind first second takes n cells)
    unfolding begun
    begun_holds cells h =
        let e = tells.ends in
        subst (λ z. Holds kind t [] (begun kind first second takes z cells)) (sym e)
        (as_seeded [] (begun kind first second takes (last_position t) cells)
        (begin_holds kind.join kind.nothing kind.laws (λ j m. m) unmoved kind.seed t first second takes to_end cells (omega arith)))

    -- and each byte keeps it so
    pub fed_holds : (w : List ℕ) (c : ℕ) → c < 256 → (cells : List M) → n < length cells → Holds kind t w cells
        → Holds kind t (w ++ (c ∷ [])) (fed kind first second takes n (suc (length w)) c cells)
    unfolding fed
    fed_holds w c b cells h old =
        let e = tells.ends in
        subst (λ z. Holds kind t (w ++ (c ∷ [])) (fed kind first second takes z (suc (length w)) c cells)) (sym e)
        (as_seeded (w ++ (c ∷ [])) (fed kind first second takes (last_position t) (suc (length w)) c cells)
        (feed_holds kind.join kind.nothing kind.laws (λ j m. m) unmoved kind.seed t first second takes to_end w c b cells (omega arith) (as_carried w cells old)))

    -- the bytes x fed after w
    fed_all_holds : (x w : List ℕ) (i : ℕ) (cells : List M) → length w ≡ i → n < length cells → Bytes x → Holds kind t w cells
        → Holds kind t (w ++ x) (fed_all kind first second takes n i x cells)
    unfolding fed_all
    fed_all_holds [] w i cells e h b old = subst (λ v. Holds kind t v cells) (sym (append-nil w)) old
    fed_all_holds (c ∷ x) w i cells e h (b, bs) old =
        let next = fed kind first second takes n (suc i) c cells in
        let long = fed_long kind first second takes n (suc i) c cells in
        let now : Holds kind t (w ++ (c ∷ [])) next = subst (λ z. Holds kind t (w ++ (c ∷ [])) (fed kind first second takes n (suc z) c cells)) e (fed_holds w c b cells h old) in
        subst (λ v. Holds kind t v (fed_all kind first second takes n (suc i) x next)) (append_assoc w (c ∷ []) x)
        (fed_all_holds x (w ++ (c ∷ [])) (suc i) next (length-append w (c ∷ []) ∙ omega arith) (omega arith) bs now)

pub cells_hold : (M : Type 0) → CellsHoldAfterEachByte M
unfolding cells_after
cells_hold M kind t n first second takes tells cells h w b =
    let long = begun_long kind first second takes n cells in
    fed_all_holds kind t n first second takes tells w [] 0 (begun kind first second takes n cells) refl (omega arith) b (begun_holds kind t n first second takes tells cells h)
