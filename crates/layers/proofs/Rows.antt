-- A state is live exactly where the two passes find it. Assumes nothing.
use Rattle.std.proofs.Common.{◌≡◌, ℕ, zero, suc, ◌+◌, ◌-◌, ◌*◌, ◌<◌, ◌≤◌, true, List, length, get_or, take, set, sym, ap, ◌∙◌, subst, subst₂, inl, inr, add-one, arith}
use Rattle.std.proofs.lemmas.List.{length-set, length-take-le, get_or-set_same, get_or-set_other, get_or-take, take_all, take-take, take-set-le}
use Rattle.std.proofs.lemmas.Bool.{cases_eq}
use Rattle.words.specs.Sets.{In}
use Rattle.words.proofs.Walking.{holds_like}
use Rattle.tallies.specs.Machines.{state}
use Rattle.tallies.proofs.Reading.{state_one, state_more}
use Rattle.layers.specs.Rows.{Model, Complete, Live}
use Rattle.layers.specs.Passes.{Reachable, Completable, Through}
use Rattle.layers.specs.Layers.{Stored}
use Rattle.layers.specs.Scratch.{HasRoom, Lives}

-- the strip has room for a row, and its parts up to i are chosen and joined; v is the last of them and s the tally after it
pub record Front (m : Model) (ps strip : List ℕ) (i v s : ℕ) : Type 0 where
  pub room : length ps ≤ length strip
  pub chosen : (j : ℕ) → j ≤ i → In (get_or strip j 0) (get_or ps j 0)
  pub joined : (j : ℕ) → j < i → m.pairs (get_or strip j 0) (get_or strip (suc j) 0) ≡ true
  pub last : get_or strip i 0 ≡ v
  pub tally : state m.machine (take (suc i) strip) ≡ s

module _ (m : Model) (ps : List ℕ) where
  -- one part is written
  pub front_first : (strip : List ℕ) (v : ℕ) → length ps ≤ length strip → 0 < length ps → In v (get_or ps 0 0)
      → Front m ps (set strip 0 v) 0 v (m.machine.start v)
  front_first strip v room some chosen = record {
    room = simp length-set room;
    chosen = λ j l. let first : j ≡ 0 = omega arith in rw (first, here) chosen;
    joined = λ j l. absurd (omega arith);
    last = here;
    tally = state_one m.machine (set strip 0 v) (simp length-set (omega arith)) ∙ ap m.machine.start here;
  }
    where
      here : get_or (set strip 0 v) 0 0 ≡ v
      here = get_or-set_same strip 0 v 0 (omega arith)

  -- one part more is written
  pub front_next : (strip : List ℕ) (i v s w : ℕ) → suc i < length ps → Front m ps strip i v s → In w (get_or ps (suc i) 0) → m.pairs v w ≡ true
      → Front m ps (set strip (suc i) w) (suc i) w (m.machine.step s v w)
  front_next strip i v s w inside front chosen pair = record {
    room = simp length-set front.room;
    chosen = λ j l. elim (cases_eq j (suc i)) [
      | inl e ↦ rw (e, here) chosen
      | inr ne ↦ rw (before j (omega arith)) (front.chosen j (omega arith))
    ];
    joined = λ j l. elim (cases_eq j i) [
      | inl e ↦ cc (here, before i (omega arith))
      | inr ne ↦ rw (before j (omega arith), before (suc j) (omega arith)) (front.joined j (omega arith))
    ];
    last = here;
    tally = cc (
      state_more m.machine (set strip (suc i) w) i (simp length-set (omega arith)),
      take-set-le (suc i) strip (suc i) w (omega arith),
      here,
      before i (omega arith),
    );
  }
    where
      here : get_or (set strip (suc i) w) (suc i) 0 ≡ w
      here = get_or-set_same strip (suc i) w 0 (omega arith)

      before : (j : ℕ) → j ≤ i → get_or (set strip (suc i) w) j 0 ≡ get_or strip j 0
      before j l = get_or-set_other strip (suc i) j w 0 (omega arith)

  -- every part is written, and the result is allowed
  pub front_whole : (allowed : ℕ) (strip : List ℕ) (i v s : ℕ) → suc i ≡ length ps → Front m ps strip i v s → In (m.machine.result s) allowed
      → Complete m ps allowed (take (suc i) strip)
  front_whole allowed strip i v s end front ends = record {
    some = omega (arith, size);
    parts = size ∙ end;
    chosen = λ j l. rw (at j (omega (arith, size))) (front.chosen j (omega (arith, size)));
    joined = λ j l. rw (add-one, at j (omega (arith, size)), at (suc j) (omega (arith, size))) (front.joined j (omega (arith, size)));
    ends = subst (λ (q : ℕ). In (m.machine.result q) allowed) (sym front.tally) ends;
  }
    where
      size : length (take (suc i) strip) ≡ suc i
      size = length-take-le (suc i) strip (omega arith)

      at : (j : ℕ) → j < suc i → get_or (take (suc i) strip) j 0 ≡ get_or strip j 0
      at j l = get_or-take (suc i) strip j 0 l

module _ (m : Model) (ps : List ℕ) (allowed : ℕ) where
  -- a state that can be reached is reached on some strip
  front_of : (i v s : ℕ) → i < length ps → Reachable m ps i v s → (strip : List ℕ) × Front m ps strip i v s
  front_of zero v s some (chosen, starts) = (set ps 0 v, rw starts at (front_first m ps ps v (omega arith) some chosen))
  front_of (suc i) v s inside (chosen, (u, (pair, (p, (before, steps))))) = go (front_of i u p (omega arith) before)
    where
      go : (strip : List ℕ) × Front m ps strip i u p → (strip : List ℕ) × Front m ps strip (suc i) v s
      go (strip, front) = (set strip (suc i) v, rw steps at (front_next m ps strip i u p v inside front chosen pair))

  -- some complete row begins with the parts up to i of the strip
  abbrev Continued : List ℕ → ℕ → Type 0
  Continued strip i = (xs : List ℕ) × (Complete m ps allowed xs × (take (suc i) xs ≡ take (suc i) strip))

  -- from a state that can be completed a strip can be continued
  continued_of : (d i v s : ℕ) (strip : List ℕ) → suc i + d ≡ length ps → Front m ps strip i v s → Completable m ps allowed d i v s → Continued strip i
  continued_of zero i v s strip e front ends =
      (take (suc i) strip, (front_whole m ps allowed strip i v s (omega arith) front ends, take-take (suc i) (suc i) strip (omega arith)))
  continued_of (suc d) i v s strip e front (w, (chosen, pair, rest)) =
      go (continued_of d (suc i) w (m.machine.step s v w) (set strip (suc i) w) (omega arith)
      (front_next m ps strip i v s w (omega arith) front chosen pair) rest)
    where
      shorter : (xs : List ℕ) → take (suc i) (take (suc (suc i)) xs) ≡ take (suc i) xs
      shorter xs = take-take (suc i) (suc (suc i)) xs (omega arith)

      go : Continued (set strip (suc i) w) (suc i) → Continued strip i
      go (xs, (whole, same)) = (
        xs,
        (whole, sym (shorter xs) ∙ ap (take (suc i)) same ∙ shorter (set strip (suc i) w) ∙ take-set-le (suc i) strip (suc i) w (omega arith)),
      )

  -- what both passes find is live
  pub live_of : (d i v s : ℕ) → suc i + d ≡ length ps → Through m ps allowed d i v s → Live m ps allowed i v s
  live_of d i v s e (reached, rest) = go (front_of i v s (omega arith) reached)
    where
      at : (xs : List ℕ) → get_or (take (suc i) xs) i 0 ≡ get_or xs i 0
      at xs = get_or-take (suc i) xs i 0 (omega arith)

      more : (strip : List ℕ) → Front m ps strip i v s → Continued strip i → Live m ps allowed i v s
      more strip front (xs, (whole, same)) = (
        xs,
        (
          whole,
          sym (at xs) ∙ ap (λ (l : List ℕ). get_or l i 0) same ∙ at strip ∙ front.last,
          rw add-one (ap (state m.machine) same ∙ front.tally),
        ),
      )

      go : (strip : List ℕ) × Front m ps strip i v s → Live m ps allowed i v s
      go (strip, front) = more strip front (continued_of d i v s strip e front rest)

  module _ (xs : List ℕ) (whole : Complete m ps allowed xs) where
    -- each state of a complete row can be reached
    reachable_of : (i : ℕ) → i < length xs → Reachable m ps i (get_or xs i 0) (state m.machine (take (suc i) xs))
    reachable_of zero some = (whole.chosen zero some, sym (state_one m.machine xs some))
    reachable_of (suc i) inside = (
      whole.chosen (suc i) inside,
      (
        get_or xs i 0,
        (
          rw add-one at (whole.joined i (omega arith)),
          (state m.machine (take (suc i) xs), (reachable_of i (omega arith), sym (state_more m.machine xs i inside))),
        ),
      ),
    )

    -- and each can be completed
    completable_of : (d i : ℕ) → suc i + d ≡ length xs → Completable m ps allowed d i (get_or xs i 0) (state m.machine (take (suc i) xs))
    completable_of zero i e = rw (take_all (suc i) xs (omega arith)) whole.ends
    completable_of (suc d) i e = (
      get_or xs (suc i) 0,
      (
        whole.chosen (suc i) (omega arith),
        rw add-one at (whole.joined i (omega arith)),
        rw (state_more m.machine xs i (omega arith)) at (completable_of d (suc i) (omega arith)),
      ),
    )

  -- what is live both passes find
  pub through_of : (d i v s : ℕ) → suc i + d ≡ length ps → Live m ps allowed i v s → Through m ps allowed d i v s
  through_of d i v s e (xs, (whole, at, tally)) =
      subst₂ (λ (a b : ℕ). Through m ps allowed d i a b) at (rw add-one at tally)
      (reachable_of xs whole i (omega arith), completable_of xs whole d i (omega arith))

  -- words that hold what both passes find hold the live states
  pub lives_of : (words : List ℕ) → HasRoom (length ps) words → ((i : ℕ) → i < length ps → Stored words i (Through m ps allowed (length ps - suc i) i))
      → Lives m ps allowed words
  lives_of words room through = record {
    room = room;
    live = λ i h v l.
        let d : ℕ = length ps - suc i in
        let e : suc i + d ≡ length ps = omega arith in
        holds_like (get_or words (32 * i + v) 0) (Through m ps allowed d i v) (Live m ps allowed i v) (through i h v l)
        (λ s. (live_of d i v s e, through_of d i v s e));
  }
