-- How a machine reads a row, one hatching after the other. Assumes nothing.
use Rattle.std.proofs.Common.{◌≡◌, ℕ, zero, suc, ◌<◌, List, [], ◌∷◌, length, get_or, take, drop, fold, refl, arith}
use Rattle.std.specs.List.{zip}
use Rattle.tallies.specs.Machines.{Machine, onward, state}

module _ (m : Machine) where
  -- the state after a hatching and the next
  abbrev pub stepped : ℕ → ℕ × ℕ → ℕ
  stepped s p = m.step s p.0 p.1

  onward_pairs : (s v : ℕ) (ws : List ℕ) → fold stepped s (zip (v ∷ ws) ws) ≡ onward m s v ws
  onward_pairs s v [] = refl
  onward_pairs s v (w ∷ ws) = onward_pairs (m.step s v w) w ws

  -- a row is its first hatching, and then a step for each hatching and the next
  pub state_pairs : (xs : List ℕ) → 0 < length xs → fold stepped (m.start (get_or xs 0 0)) (zip xs (drop 1 xs)) ≡ state m xs
  state_pairs [] some = absurd (omega arith)
  state_pairs (x ∷ xs) some = onward_pairs (m.start x) x xs

  onward_more : (s v : ℕ) (ws : List ℕ) (i : ℕ) → suc i < length ws
      → onward m s v (take (suc (suc i)) ws) ≡ m.step (onward m s v (take (suc i) ws)) (get_or ws i 0) (get_or ws (suc i) 0)
  onward_more s v [] i h = absurd (omega arith)
  onward_more s v (w ∷ []) i h = absurd (omega arith)
  onward_more s v (w ∷ (x ∷ ws)) zero h = refl
  onward_more s v (w ∷ (x ∷ ws)) (suc i) h = onward_more (m.step s v w) w (x ∷ ws) i (omega arith)

  -- one hatching
  pub state_one : (xs : List ℕ) → 0 < length xs → state m (take 1 xs) ≡ m.start (get_or xs 0 0)
  state_one [] some = absurd (omega arith)
  state_one (x ∷ xs) some = refl

  -- one hatching more
  pub state_more : (xs : List ℕ) (i : ℕ) → suc i < length xs
      → state m (take (suc (suc i)) xs) ≡ m.step (state m (take (suc i) xs)) (get_or xs i 0) (get_or xs (suc i) 0)
  state_more [] i h = absurd (omega arith)
  state_more (x ∷ []) i h = absurd (omega arith)
  state_more (x ∷ (y ∷ ys)) zero h = refl
  state_more (x ∷ (y ∷ ys)) (suc i) h = onward_more (m.start x) x (y ∷ ys) i (omega arith)
