-- The plateau counter comes to the LONGESTPLATEAU. Assumes nothing.
use Rattle.std.proofs.Common.{◌≡◌, ℕ, zero, suc, ◌+◌, ◌-◌, ◌<◌, ◌≤◌, min, max, eqb, ltb, ◌⊎◌, List, length, get_or, take, sym, ap, ◌∙◌, subst, ap₂, inl, inr, arith}
use Rattle.std.proofs.lemmas.List.{take_all}
use Rattle.std.proofs.lemmas.Bool.{lt-ltb, eq-eqb, ne_eqb, cond-true, cond-false, cases_eq, cases_lt}
use Rattle.tallies.specs.Machines.{outcome, state}
use Rattle.tallies.specs.Rows.{Finished}
use Rattle.tallies.specs.Plateaus.{LongestPlateau, current_run, longest_run, plateau_machine, run_after, runs}
use Rattle.tallies.proofs.Reading.{state_one, state_more}

-- the k hatchings from position i on are equal
abbrev Same : List ℕ → ℕ → ℕ → Type 0
Same xs i k = (j : ℕ) → j < k → get_or xs (i + j) 0 ≡ get_or xs i 0

-- the run that ends right before position n has length k
record Ending (xs : List ℕ) (n k : ℕ) : Type 0 where
  some : 0 < k
  fits : k ≤ n
  same : Same xs (n - k) k
  most : (i j : ℕ) → i + j ≡ n → Same xs i j → j ≤ k

-- the longest run before position n has length m
record Longest (xs : List ℕ) (n m : ℕ) : Type 0 where
  at : ℕ
  within : at + m ≤ n
  same : Same xs at m
  most : (i k : ℕ) → i + k ≤ n → Same xs i k → k ≤ m

module _ (xs : List ℕ) where
  one_same : (i : ℕ) → Same xs i 1
  one_same i j h = ap (λ (p : ℕ). get_or xs p 0) (omega arith)

  ending_one : Ending xs 1 1
  ending_one = record { some = omega arith; fits = omega arith; same = one_same 0; most = λ i j e s. omega arith }

  longest_one : Longest xs 1 1
  longest_one = record { at = 0; within = omega arith; same = one_same 0; most = λ i k h s. omega arith }

  -- the next hatching is the same: the run goes on
  ending_equal : (i k : ℕ) → Ending xs (suc i) k → get_or xs i 0 ≡ get_or xs (suc i) 0 → Ending xs (suc (suc i)) (suc k)
  ending_equal i k e equal = record {
    some = omega arith;
    fits = omega (arith, e.fits);
    same = same;
    most = λ p j at s. most p j at s;
  }
    where
      begin : suc (suc i) - suc k ≡ suc i - k
      begin = omega (arith, e.fits)

      last : get_or xs (suc i - k + (k - 1)) 0 ≡ get_or xs (suc i - k) 0
      last = e.same (k - 1) (omega (arith, e.some))

      here : suc i - k + (k - 1) ≡ i
      here = omega (arith, e.some, e.fits)

      added : (j : ℕ) → j < suc k → get_or xs (suc i - k + j) 0 ≡ get_or xs (suc i - k) 0
      added j h = elim (cases_lt j k) [
        | inl before ↦ e.same j before
        | inr after ↦
            let there : suc i - k + j ≡ suc i = omega (arith, e.fits) in
            ap (λ (p : ℕ). get_or xs p 0) there ∙ sym equal ∙ ap (λ (p : ℕ). get_or xs p 0) (sym here) ∙ last
      ]

      same : Same xs (suc (suc i) - suc k) (suc k)
      same = subst (λ (p : ℕ). Same xs p (suc k)) (sym begin) added

      most : (p j : ℕ) → p + j ≡ suc (suc i) → Same xs p j → j ≤ suc k
      most p zero at s = omega arith
      most p (suc j) at s = omega (arith, e.most p j (omega arith) (λ q l. s q (omega arith)))

  -- the next hatching is another: a run of one begins
  ending_other : (i : ℕ) → (get_or xs i 0 ≡ get_or xs (suc i) 0 → ⊥) → Ending xs (suc (suc i)) 1
  ending_other i other = record {
    some = omega arith;
    fits = omega arith;
    same = one_same (suc (suc i) - 1);
    most = most;
  }
    where
      most : (p j : ℕ) → p + j ≡ suc (suc i) → Same xs p j → j ≤ 1
      most p zero at s = omega arith
      most p (suc zero) at s = omega arith
      most p (suc (suc j)) at s =
          let before : p + j ≡ i = omega arith in
          let here : p + suc j ≡ suc i = omega arith in
          absurd (other (ap (λ (q : ℕ). get_or xs q 0) (sym before) ∙ s j (omega arith) ∙ sym (s (suc j) (omega arith)) ∙ ap (λ (q : ℕ). get_or xs q 0) here))

  -- one position more: the longest is the one so far, or the run that ends here
  longest_more : (n m k : ℕ) → Longest xs n m → Ending xs (suc n) k → Longest xs (suc n) (max m k)
  longest_more n m k l e = elim (cases_lt m k) [
    | inl more ↦ record {
      at = suc n - k;
      within = omega (arith, e.fits);
      same = λ j h. e.same j (omega arith);
      most = most;
    }
    | inr enough ↦ record {
      at = l.at;
      within = omega (arith, l.within);
      same = λ j h. l.same j (omega arith);
      most = most;
    }
  ]
    where
      most : (i j : ℕ) → i + j ≤ suc n → Same xs i j → j ≤ max m k
      most i j h s = elim (cases_lt n (i + j)) [
        | inl ends ↦ omega (arith, e.most i j (omega arith) s)
        | inr inside ↦ omega (arith, l.most i j inside s)
      ]

-- ---- the counter

-- a step of the counter inside its range
pub plateau_step : (s v w : ℕ) → s < 64 → v < 32 → w < 32
    → plateau_machine.step s v w ≡ runs (run_after (current_run s) v w) (max (longest_run s) (run_after (current_run s) v w))
plateau_step s v w hs hv hw = rw (lt-ltb s 64 hs, lt-ltb v 32 hv, lt-ltb w 32 hw)

-- the state of a current run k and a longest run m, whatever their lengths
abbrev capped : ℕ → ℕ → ℕ
capped k m = runs (min k 8) (min m 8)

capped_lt : (k m : ℕ) → capped k m < 64
capped_lt k m = omega arith

longest_capped : (k m : ℕ) → 0 < m → longest_run (capped k m) ≡ min m 8
longest_capped k m some = omega arith

max_capped : (m j : ℕ) → max (min m 8) (min j 8) ≡ min (max m j) 8
max_capped m j = omega arith

-- the next state, where the current run becomes r, which is j up to 8
capped_next : (k m j r : ℕ) → 0 < m → r ≡ min j 8 → runs r (max (longest_run (capped k m)) r) ≡ capped j (max m j)
capped_next k m j r some e = ap₂ runs e (ap₂ max (longest_capped k m some) e ∙ max_capped m j)

-- What the counter knows after position i.
record Known (xs : List ℕ) (i : ℕ) : Type 0 where
  current : ℕ
  longest : ℕ
  ending : Ending xs (suc i) current
  most : Longest xs (suc i) longest
  some : 0 < longest
  is : state plateau_machine (take (suc i) xs) ≡ capped current longest

module _ (xs : List ℕ) (row : Finished xs) where
  hatched : (i : ℕ) → i < length xs → get_or xs i 0 < 32
  hatched i h = omega (arith, row.1 i h)

  known : (i : ℕ) → i < length xs → Known xs i
  known zero h = record {
    current = 1;
    longest = 1;
    ending = ending_one xs;
    most = longest_one xs;
    some = omega arith;
    is = state_one plateau_machine xs h ∙ cond-true (ltb (get_or xs 0 0) 32) 0 0 (lt-ltb (get_or xs 0 0) 32 (hatched zero h));
  }
  known (suc i) h = next (known i (omega arith)) (cases_eq (get_or xs i 0) (get_or xs (suc i) 0))
    where
      -- the state one position on, where the current run becomes j
      moved : (k m j : ℕ) → 0 < m → state plateau_machine (take (suc i) xs) ≡ capped k m
          → run_after (current_run (capped k m)) (get_or xs i 0) (get_or xs (suc i) 0) ≡ min j 8
          → state plateau_machine (take (suc (suc i)) xs) ≡ capped j (max m j)
      moved k m j some is after =
          state_more plateau_machine xs i h ∙ ap (λ (s : ℕ). plateau_machine.step s (get_or xs i 0) (get_or xs (suc i) 0)) is
          ∙ plateau_step (capped k m) (get_or xs i 0) (get_or xs (suc i) 0) (capped_lt k m) (hatched i (omega arith)) (hatched (suc i) h)
          ∙ capped_next k m j (run_after (current_run (capped k m)) (get_or xs i 0) (get_or xs (suc i) 0)) some after

      next : Known xs i → (get_or xs i 0 ≡ get_or xs (suc i) 0) ⊎ (get_or xs i 0 ≡ get_or xs (suc i) 0 → ⊥) → Known xs (suc i)
      next n (inl equal) =
          let k = n.current in
          let m = n.longest in
          let e = ending_equal xs i k n.ending equal in
          let after : run_after (current_run (capped k m)) (get_or xs i 0) (get_or xs (suc i) 0) ≡ min (suc k) 8 =
          cond-true (eqb (get_or xs i 0) (get_or xs (suc i) 0)) (min (current_run (capped k m) + 1) 8) 1 (eq-eqb (get_or xs i 0) (get_or xs (suc i) 0) equal)
          ∙ omega (arith, n.ending.some) in
          record {
            current = suc k;
            longest = max m (suc k);
            ending = e;
            most = longest_more xs (suc i) m (suc k) n.most e;
            some = omega arith;
            is = moved k m (suc k) n.some n.is after;
          }
      next n (inr other) =
          let k = n.current in
          let m = n.longest in
          let e = ending_other xs i other in
          let after : run_after (current_run (capped k m)) (get_or xs i 0) (get_or xs (suc i) 0) ≡ min 1 8 =
          cond-false (eqb (get_or xs i 0) (get_or xs (suc i) 0)) (min (current_run (capped k m) + 1) 8) 1 (ne_eqb (get_or xs i 0) (get_or xs (suc i) 0) other) in
          record {
            current = 1;
            longest = max m 1;
            ending = e;
            most = longest_more xs (suc i) m 1 n.most e;
            some = omega arith;
            is = moved k m 1 n.some n.is after;
          }

  -- the counter's result is the longest plateau, up to 8
  pub plateau_outcome : (m : ℕ) × (LongestPlateau xs m × (outcome plateau_machine xs ≡ min m 8))
  plateau_outcome = (n.longest, (plateau, counted))
    where
      n : Known xs (length xs - 1)
      n = known (length xs - 1) (omega (arith, row.0))

      size : suc (length xs - 1) ≡ length xs
      size = omega (arith, row.0)

      plateau : LongestPlateau xs n.longest
      plateau = record {
        some = (n.most.at, record { within = omega (arith, n.most.within, size); equal = n.most.same });
        most = λ i k run. n.most.most i k (omega (arith, run.within, size)) run.equal;
      }

      is : state plateau_machine xs ≡ capped n.current n.longest
      is = ap (state plateau_machine) (sym (take_all (suc (length xs - 1)) xs (omega (arith, size)))) ∙ n.is

      counted : outcome plateau_machine xs ≡ min n.longest 8
      counted =
          ap plateau_machine.result is
          ∙ cond-true (ltb (capped n.current n.longest) 64) (longest_run (capped n.current n.longest)) 0
          (lt-ltb (capped n.current n.longest) 64 (capped_lt n.current n.longest))
          ∙ omega (arith, n.some)
