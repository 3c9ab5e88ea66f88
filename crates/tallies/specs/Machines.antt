-- What a tally means, and how it reads a row. Assumes nothing.
use Rattle.std.specs.Prelude.{◌≡◌, ℕ, ◌<◌, ◌≤◌, cond, ◌&&◌, ◌⊎◌, List, [], ◌∷◌, nat_lt}
use Rattle.words.specs.Sets.{In}

-- The three functions of a tally.
pub record Machine : Type 0 where
  -- the state after the first hatching of a row
  pub start : ℕ → ℕ
  -- the state after w, where it was s after v
  pub step : ℕ → ℕ → ℕ → ℕ
  -- the number that the last state comes to
  pub result : ℕ → ℕ

-- For a state not below n, or a hatching above 31, all three answer 0.
pub record ZeroOutside (n : ℕ) (m : Machine) : Type 0 where
  pub start : (v : ℕ) → 31 < v → m.start v ≡ 0
  pub step : (s v w : ℕ) → (n ≤ s) ⊎ ((31 < v) ⊎ (31 < w)) → m.step s v w ≡ 0
  pub result : (s : ℕ) → n ≤ s → m.result s ≡ 0

-- What a tally of n states keeps, of which machine t is the meaning of the tally t.
pub record TallyLaws {T : Type 0} (n : ℕ) (machine : T → Machine) : Type 0 where
  -- there is a state, and there are at most 64
  pub some : 0 < n
  pub few : n ≤ 64
  -- each state given is one of the n
  pub starts : (t : T) (v : ℕ) → (machine t).start v < n
  pub steps : (t : T) (s v w : ℕ) → (machine t).step s v w < n
  -- each result is below 64
  pub results : (t : T) (s : ℕ) → (machine t).result s < 64
  -- 0 for a state that is none of the n, or a hatching above 31
  pub outside : (t : T) → ZeroOutside n (machine t)

-- the machine m on n states and the hatchings below 32, and 0 outside
abbrev pub on_states : ℕ → Machine → Machine
on_states n m = record {
  start = λ v. cond (nat_lt v 32) (m.start v) 0;
  step = λ s v w. cond (nat_lt s n && (nat_lt v 32 && nat_lt w 32)) (m.step s v w) 0;
  result = λ s. cond (nat_lt s n) (m.result s) 0;
}

-- t comes from a state of the set, by the step from v to w
abbrev pub Image : Machine → ℕ → ℕ → ℕ → ℕ → Type 0
Image m set v w t = (s : ℕ) × (In s set × (m.step s v w ≡ t))

-- s is a state of the set, and the step from v to w takes it into the target
abbrev pub Preimage : Machine → ℕ → ℕ → ℕ → ℕ → ℕ → Type 0
Preimage m set v w target s = In s set × In (m.step s v w) target

-- the state after the hatchings ws, where it was s after v
abbrev pub onward : Machine → ℕ → ℕ → List ℕ → ℕ
onward m s v [] = s
onward m s v (w ∷ ws) = onward m (m.step s v w) w ws

-- the state after a row
abbrev pub state : Machine → List ℕ → ℕ
state m [] = 0
state m (v ∷ vs) = onward m (m.start v) v vs

-- the result of a row
abbrev pub outcome : Machine → List ℕ → ℕ
outcome m xs = m.result (state m xs)
