-- One forward walk through the live states writes the first complete row. Assumes nothing.
use Rattle.std.proofs.Common.{◌≡◌, ℕ, suc, ◌+◌, ◌*◌, ◌<◌, ◌≤◌, true, List, length, get_or, take, set, Some, None, sym, refl, ap, ◌∙◌, subst, inl, inr, zero-add, add-one, arith}
use Rattle.std.proofs.lemmas.List.{length-take-le, get_or-set_same, get_or-set_other, get_or-take, ext_get_or}
use Rattle.std.proofs.lemmas.Bool.{cases_eq}
use Rattle.words.specs.Sets.{In, Lowest}
use Rattle.tallies.specs.Machines.{outcome, state}
use Rattle.tallies.proofs.Reading.{state_one, state_more}
use Rattle.layers.specs.Scratch.{Lives}
use Rattle.verdicts.specs.Verdicts.{Palettes}
use Rattle.layers.specs.Rows.{Model, Complete, Possible, Live, First}
use Rattle.verdicts.proofs.Telling.{live_word, word_live}
use Rattle.layers.proofs.Rows.{Front, front_first, front_next, front_whole, through_of}

-- the parts up to i of the strip are the beginning of the first complete row; v is the last of them and s the tally after it
pub record Begun (m : Model) (ps : List ℕ) (allowed : ℕ) (strip : List ℕ) (i v s : ℕ) : Type 0 where
  pub front : Front m ps strip i v s
  pub live : Live m ps allowed i v s
  pub least : (ys : List ℕ) → Complete m ps allowed ys → (k : ℕ) → k ≤ i → ((j : ℕ) → j < k → get_or ys j 0 ≡ get_or strip j 0)
      → get_or ys k 0 < get_or strip k 0 → ⊥

-- where two rows agree below n, their first n parts are the same
same_parts : (xs ys : List ℕ) (n : ℕ) → n ≤ length xs → n ≤ length ys → ((j : ℕ) → j < n → get_or xs j 0 ≡ get_or ys j 0) → take n xs ≡ take n ys
same_parts xs ys n a b same = ext_get_or 0 (take n xs) (take n ys) (size ∙ sym (length-take-le n ys b))
    (λ j l. let k : j < n = omega (arith, size) in get_or-take n xs j 0 k ∙ same j k ∙ sym (get_or-take n ys j 0 k))
  where
    size : length (take n xs) ≡ n
    size = length-take-le n xs a

module _ (m : Model) (ps : List ℕ) (allowed : ℕ) where
  -- the first state of a complete row is live
  live_first : (xs : List ℕ) → Complete m ps allowed xs → Live m ps allowed 0 (get_or xs 0 0) (m.machine.start (get_or xs 0 0))
  live_first xs whole = (xs, (whole, refl, state_one m.machine xs whole.some))

  -- and so is the one after each
  live_next : (xs : List ℕ) (i v s : ℕ) → Complete m ps allowed xs → suc i < length xs → get_or xs i 0 ≡ v → state m.machine (take (suc i) xs) ≡ s
      → (m.pairs v (get_or xs (suc i) 0) ≡ true) × Live m ps allowed (suc i) (get_or xs (suc i) 0) (m.machine.step s v (get_or xs (suc i) 0))
  live_next xs i v s whole inside at tally =
      (rw (add-one, at) at (whole.joined i (omega arith)), (xs, (whole, refl, rw add-one (cc (state_more m.machine xs i inside)))))

  -- what is live at a part is in its palette
  pub live_chosen : (i v s : ℕ) → i < length ps → Live m ps allowed i v s → In v (get_or ps i 0)
  live_chosen i v s inside (xs, (whole, at, tally)) = rw at at (whole.chosen i (omega arith))

  -- where a row is possible, some hatching is live at the first part
  pub live_starts : Possible m ps allowed → (v : ℕ) × Live m ps allowed 0 v (m.machine.start v)
  live_starts (xs, whole) = (get_or xs 0 0, live_first xs whole)

  -- a live state leads to one at the next part
  pub live_goes_on : (i v s : ℕ) → suc i < length ps → Live m ps allowed i v s
      → (w : ℕ) × ((m.pairs v w ≡ true) × Live m ps allowed (suc i) w (m.machine.step s v w))
  live_goes_on i v s inside (xs, (whole, at, tally)) = (get_or xs (suc i) 0, live_next xs i v s whole (omega arith) at (rw add-one at tally))

  -- the least live hatching begins the first complete row
  pub begun_first : (strip : List ℕ) (v : ℕ) → length ps ≤ length strip → Live m ps allowed 0 v (m.machine.start v)
      → ((u : ℕ) → u < v → Live m ps allowed 0 u (m.machine.start u) → ⊥) → Begun m ps allowed (set strip 0 v) 0 v (m.machine.start v)
  begun_first strip v room live none = record {
    front = front_first m ps strip v room (omega arith) (live_chosen 0 v (m.machine.start v) (omega arith) live);
    live = live;
    least = λ ys whole k l same less.
        let first : k ≡ 0 = omega arith in
        none (get_or ys 0 0) (rw (first, get_or-set_same strip 0 v 0 (omega arith)) at less) (live_first ys whole);
  }

  -- the least live hatching that a pair and a step lead to goes on with it
  pub begun_next : (strip : List ℕ) (i v s w : ℕ) → suc i < length ps → Begun m ps allowed strip i v s → m.pairs v w ≡ true
      → Live m ps allowed (suc i) w (m.machine.step s v w)
      → ((u : ℕ) → u < w → m.pairs v u ≡ true → Live m ps allowed (suc i) u (m.machine.step s v u) → ⊥)
      → Begun m ps allowed (set strip (suc i) w) (suc i) w (m.machine.step s v w)
  begun_next strip i v s w inside begun pair live none = record {
    front = front_next m ps strip i v s w inside begun.front (live_chosen (suc i) w (m.machine.step s v w) inside live) pair;
    live = live;
    least = λ ys whole k l same less. elim (cases_eq k (suc i)) [
      | inl e ↦ last ys whole (λ j q. same j (omega arith) ∙ before j q) (rw (e, get_or-set_same strip (suc i) w 0 (omega arith)) at less)
      | inr ne ↦ begun.least ys whole k (omega arith) (λ j q. same j q ∙ before j (omega arith)) (rw (before k (omega arith)) at less)
    ];
  }
    where
      before : (j : ℕ) → j < suc i → get_or (set strip (suc i) w) j 0 ≡ get_or strip j 0
      before j l = get_or-set_other strip (suc i) j w 0 (omega arith)

      last : (ys : List ℕ) → Complete m ps allowed ys → ((j : ℕ) → j < suc i → get_or ys j 0 ≡ get_or strip j 0) → get_or ys (suc i) 0 < w → ⊥
      last ys whole same less =
          let parts : take (suc i) ys ≡ take (suc i) strip = same_parts ys strip (suc i) (omega arith) (omega arith) same in
          let next = live_next ys i v s whole (omega arith) (same i (omega arith) ∙ begun.front.last) (ap (state m.machine) parts ∙ begun.front.tally) in
          none (get_or ys (suc i) 0) less next.0 next.1

  -- with its last part it is the first complete row
  pub first_of : (strip : List ℕ) (i v s : ℕ) → suc i ≡ length ps → Begun m ps allowed strip i v s
      → First m ps allowed (take (length ps) strip) × (outcome m.machine (take (length ps) strip) ≡ m.machine.result s)
  first_of strip i v s end begun =
      subst (λ (n : ℕ). First m ps allowed (take n strip) × (outcome m.machine (take n strip) ≡ m.machine.result s)) end (
        record {
          complete = front_whole m ps allowed strip i v s end begun.front (through_of m ps allowed 0 i v s (omega arith) begun.live).1;
          none_before = λ ys whole (k, (inside, same, less)).
              begun.least ys whole k (omega arith) (λ j l. same j l ∙ at j (omega arith)) (rw (at k (omega arith)) at less);
        },
        ap m.machine.result begun.front.tally,
      )
    where
      at : (j : ℕ) → j ≤ i → get_or (take (suc i) strip) j 0 ≡ get_or strip j 0
      at j l = get_or-take (suc i) strip j 0 (omega arith)

-- ---- the walk by what the words hold

module _ (m : Model) (ps : List ℕ) (allowed : ℕ) (words : List ℕ) (small : Palettes ps) (lives : Lives m ps allowed words) where
  -- a row can begin with v, or go on with w at part k after v and the state s
  abbrev Begins : ℕ → Type 0
  Begins v = In v (get_or ps 0 0) × In (m.machine.start v) (get_or words v 0)

  abbrev GoesOn : ℕ → ℕ → ℕ → ℕ → Type 0
  GoesOn k v s w = In w (get_or ps k 0) × ((m.pairs v w ≡ true) × In (m.machine.step s v w) (get_or words (32 * k + w) 0))

  -- the words say so exactly where the state is live
  live_begin : (v : ℕ) → 0 < length ps → Begins v → Live m ps allowed 0 v (m.machine.start v)
  live_begin v some (chosen, member) =
      live_word m ps allowed words small lives 0 v (m.machine.start v) some
      (small 0 v chosen, (omega (arith, lives.room), rw (zero-add v) member))

  begin_live : (v : ℕ) → 0 < length ps → Live m ps allowed 0 v (m.machine.start v) → Begins v
  begin_live v some live =
      (live_chosen m ps allowed 0 v (m.machine.start v) some live, rw (zero-add v) at (word_live m ps allowed words small lives 0 v (m.machine.start v) some live).1.1)

  live_go : (k v s w : ℕ) → k < length ps → GoesOn k v s w → Live m ps allowed k w (m.machine.step s v w)
  live_go k v s w inside (chosen, (pair, member)) =
      live_word m ps allowed words small lives k w (m.machine.step s v w) inside
      (small k w chosen, (omega (arith, lives.room), member))

  go_live : (k v s w : ℕ) → k < length ps → m.pairs v w ≡ true → Live m ps allowed k w (m.machine.step s v w) → GoesOn k v s w
  go_live k v s w inside pair live =
      (live_chosen m ps allowed k w (m.machine.step s v w) inside live, (pair, (word_live m ps allowed words small lives k w (m.machine.step s v w) inside live).1.1))

  pub walk_first : (strip : List ℕ) (v : ℕ) → length ps ≤ length strip → 0 < length ps → Lowest Begins 0 (Some v)
      → Begun m ps allowed (set strip 0 v) 0 v (m.machine.start v)
  walk_first strip v room some low =
      begun_first m ps allowed strip v room (live_begin v some low.1) (λ u less live. low.2 u (omega arith) less (begin_live u some live))

  pub walk_none : 0 < length ps → Lowest Begins 0 None → Possible m ps allowed → ⊥
  walk_none some none possible = let t = live_starts m ps allowed possible in none t.0 (omega arith) (begin_live t.0 some t.1)

  pub walk_next : (strip : List ℕ) (i k v s w : ℕ) → suc i ≡ k → k < length ps → Begun m ps allowed strip i v s → Lowest (GoesOn k v s) 0 (Some w)
      → Begun m ps allowed (set strip k w) k w (m.machine.step s v w)
  walk_next strip i k v s w e inside begun low =
      subst (λ (q : ℕ). Begun m ps allowed (set strip q w) q w (m.machine.step s v w)) e
      (begun_next m ps allowed strip i v s w (omega arith) begun low.1.1.0
      (subst (λ (q : ℕ). Live m ps allowed q w (m.machine.step s v w)) (sym e) (live_go k v s w inside low.1))
      (λ u less pair live. low.2 u (omega arith) less
      (go_live k v s u inside pair (subst (λ (q : ℕ). Live m ps allowed q u (m.machine.step s v u)) e live))))

  -- a walk that has begun does not end before the last part
  pub walk_on : (strip : List ℕ) (i k v s : ℕ) → suc i ≡ k → k < length ps → Begun m ps allowed strip i v s → Lowest (GoesOn k v s) 0 None → ⊥
  walk_on strip i k v s e inside begun none =
      let t = live_goes_on m ps allowed i v s (omega arith) begun.live in
      none t.0 (omega arith) (go_live k v s t.0 inside t.1.0 (subst (λ (q : ℕ). Live m ps allowed q t.0 (m.machine.step s v t.0)) e t.1.1))
