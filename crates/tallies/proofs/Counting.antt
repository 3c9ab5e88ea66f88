-- The stretch counter comes to the SEQBIN count. Assumes nothing.
use Rattle.std.proofs.Common.{◌≡◌, ℕ, zero, suc, ◌+◌, ◌-◌, ◌<◌, ◌≤◌, min, Bool, true, false, cond, not, ltb, List, length, get_or, take, sym, refl, ap, ◌∙◌, add-one, arith}
use Rattle.std.proofs.lemmas.List.{take_all}
use Rattle.std.proofs.lemmas.Bool.{lt-ltb, cond-true}
use Rattle.tallies.specs.Machines.{outcome, state}
use Rattle.tallies.specs.Rows.{Finished}
use Rattle.tallies.specs.Stretches.{how_many, seqbin, stretch_machine}
use Rattle.tallies.proofs.Reading.{state_one, state_more}

how_many_le : (p : ℕ → Bool) (n : ℕ) → how_many p n ≤ n
unfolding how_many
how_many_le p zero = omega arith
how_many_le p (suc n) = elim (p n) as (λ b. cond b 1 0 + how_many p n ≤ suc n) [
  | true ↦ omega (arith, how_many_le p n)
  | false ↦ omega (arith, how_many_le p n)
]

how_many_none : (p : ℕ → Bool) → how_many p 0 ≡ 0
unfolding how_many
how_many_none p = refl

-- one position more
how_many_suc : (p : ℕ → Bool) (n : ℕ) → how_many p (suc n) ≡ cond (p n) 1 0 + how_many p n
unfolding how_many
how_many_suc p n = refl

module _ (C : ℕ → ℕ → Bool) where
  -- a step of the counter inside its range
  pub stretch_step : (s v w : ℕ) → s < 64 → v < 32 → w < 32 → (stretch_machine C).step s v w ≡ cond (C v w) s (min (s + 1) 63)
  stretch_step s v w hs hv hw = rw (lt-ltb s 64 hs, lt-ltb v 32 hv, lt-ltb w 32 hw)

  module _ (xs : List ℕ) (row : Finished xs) where
    hatched : (i : ℕ) → i < length xs → get_or xs i 0 < 32
    hatched i h = omega (arith, row.1 i h)

    -- a hatching and the next are not a pair
    abbrev breaks : ℕ → Bool
    breaks i = not (C (get_or xs i 0) (get_or xs (i + 1) 0))

    counted : (b : Bool) (n : ℕ) → cond b (min (1 + n) 63) (min (min (1 + n) 63 + 1) 63) ≡ min (1 + (cond (not b) 1 0 + n)) 63
    counted true n = omega arith
    counted false n = omega arith

    stretch_at : (i : ℕ) → i < length xs → state (stretch_machine C) (take (suc i) xs) ≡ min (1 + how_many breaks i) 63
    stretch_at zero h = state_one (stretch_machine C) xs h ∙ cond-true (ltb (get_or xs 0 0) 32) 1 0 (lt-ltb (get_or xs 0 0) 32 (hatched zero h)) ∙ omega (arith, how_many_none breaks)
    stretch_at (suc i) h =
        let s : ℕ = state (stretch_machine C) (take (suc i) xs) in
        let before : s ≡ min (1 + how_many breaks i) 63 = stretch_at i (omega arith) in
        state_more (stretch_machine C) xs i h
        ∙ stretch_step s (get_or xs i 0) (get_or xs (suc i) 0) (omega arith) (hatched i (omega arith)) (hatched (suc i) h)
        ∙ ap (λ (x : ℕ). cond (C (get_or xs i 0) (get_or xs (suc i) 0)) x (min (x + 1) 63)) before
        ∙ counted (C (get_or xs i 0) (get_or xs (suc i) 0)) (how_many breaks i)
        ∙ ap (λ (j : ℕ). min (1 + (cond (not (C (get_or xs i 0) (get_or xs j 0))) 1 0 + how_many breaks i)) 63) (sym (add-one i))
        ∙ ap (λ (n : ℕ). min (1 + n) 63) (sym (how_many_suc breaks i))

    -- the counter's result is the SEQBIN count, up to 63
    pub stretch_outcome : outcome (stretch_machine C) xs ≡ min (seqbin C xs) 63
    stretch_outcome =
        let some : 0 < length xs = row.0 in
        let whole : suc (length xs - 1) ≡ length xs = omega arith in
        let last : state (stretch_machine C) (take (suc (length xs - 1)) xs) ≡ min (seqbin C xs) 63 = stretch_at (length xs - 1) (omega arith) in
        let all : take (suc (length xs - 1)) xs ≡ xs = take_all (suc (length xs - 1)) xs (omega arith) in
        let s : ℕ = state (stretch_machine C) xs in
        let is : s ≡ min (seqbin C xs) 63 = ap (state (stretch_machine C)) (sym all) ∙ last in
        cond-true (ltb s 64) s 0 (lt-ltb s 64 (omega arith)) ∙ is

    -- no row of at most 60 parts comes to the cap
    pub seqbin_exact : length xs ≤ 60 → min (seqbin C xs) 63 ≡ seqbin C xs
    seqbin_exact short = omega (arith, how_many_le breaks (length xs - 1))
