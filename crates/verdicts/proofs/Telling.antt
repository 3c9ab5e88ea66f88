-- What the live states of a row tell of its complete rows. Assumes nothing.
use Rattle.std.proofs.Common.{◌≡◌, ℕ, suc, ◌+◌, ◌^◌, ◌<◌, Bool, List, length, get_or, take, Decides, sym, refl, ap, ◌∙◌, subst, arith}
use Rattle.std.proofs.lemmas.List.{take_all}
use Rattle.words.specs.Sets.{In, Holds}
use Rattle.words.proofs.Bits.{in_below}
use Rattle.words.proofs.Walking.{holds_like}
use Rattle.tallies.specs.Machines.{state}
use Rattle.layers.specs.Scratch.{Lives}
use Rattle.verdicts.specs.Verdicts.{Palettes, PartHas, WordHas}
use Rattle.layers.specs.Rows.{Model, Complete, Live, Possible, Uses, Yields}

-- words of 32 have no number above 31
pub palettes_of : (ps : List ℕ) → ((i : ℕ) → get_or ps i 0 < 2 ^ 32) → Palettes ps
palettes_of ps fit i v = in_below 32 (get_or ps i 0) v (fit i)

module _ (m : Model) (ps : List ℕ) (allowed : ℕ) (words : List ℕ) (small : Palettes ps) (lives : Lives m ps allowed words) where
  -- a word has a state exactly where it is live
  pub live_word : (i v s : ℕ) → i < length ps → WordHas words i v s → Live m ps allowed i v s
  live_word i v s inside (below, (room, member)) = (lives.live i inside v below s).0 member

  pub word_live : (i v s : ℕ) → i < length ps → Live m ps allowed i v s → WordHas words i v s
  word_live i v s inside (xs, (whole, at, tally)) = (below, (omega (arith, lives.room), (lives.live i inside v below s).1 (xs, (whole, at, tally))))
    where
      below : v < 32
      below = small i v (subst (λ (x : ℕ). In x (get_or ps i 0)) at (whole.chosen i (omega (arith, whole.parts))))

  pub uses_of : (i r : ℕ) → i < length ps → Holds r (λ v. (s : ℕ) × WordHas words i v s) → Holds r (Uses m ps allowed i)
  uses_of i r inside h = holds_like r (λ v. (s : ℕ) × WordHas words i v s) (Uses m ps allowed i) h (λ v. (
    λ t. let l = live_word i v t.0 inside t.1 in (l.0, (l.1.0, l.1.1)),
    λ t. (state m.machine (take (i + 1) t.0), word_live i v _ inside (t.0, (t.1.0, t.1.1, refl))),
  ))

  pub yields_of : (i r : ℕ) → suc i ≡ length ps → Holds r (λ k. (s : ℕ) × (PartHas words i s × (m.machine.result s ≡ k))) → Holds r (Yields m ps allowed)
  yields_of i r last h =
      holds_like r (λ k. (s : ℕ) × (PartHas words i s × (m.machine.result s ≡ k))) (Yields m ps allowed) h (λ k. (into k, out k))
    where
      -- the tally after the last part is that of the row
      ended : (xs : List ℕ) → Complete m ps allowed xs → state m.machine (take (i + 1) xs) ≡ state m.machine xs
      ended xs whole = ap (state m.machine) (take_all (i + 1) xs (omega (arith, whole.parts)))

      into : (k : ℕ) → (s : ℕ) × (PartHas words i s × (m.machine.result s ≡ k)) → Yields m ps allowed k
      into k (s, ((v, has), is)) =
          let l = live_word i v s (omega arith) has in
          (l.0, (l.1.0, ap m.machine.result (sym (ended l.0 l.1.0) ∙ l.1.2) ∙ is))

      out : (k : ℕ) → Yields m ps allowed k → (s : ℕ) × (PartHas words i s × (m.machine.result s ≡ k))
      out k (xs, (whole, is)) =
          let s : ℕ = state m.machine (take (i + 1) xs) in
          (s, ((get_or xs i 0, word_live i (get_or xs i 0) s (omega arith) (xs, (whole, refl, refl))), ap m.machine.result (ended xs whole) ∙ is))

  -- a row is possible where the first part has a live state
  pub possible_of : (b : Bool) → 0 < length ps → Decides b ((s : ℕ) × PartHas words 0 s) → Decides b (Possible m ps allowed)
  possible_of b some h = (
    λ t. let x = h.0 t in let l = live_word 0 x.1.0 x.0 some x.1.1 in (l.0, l.1.0),
    λ (xs, whole).
        let s : ℕ = state m.machine (take 1 xs) in
        h.1 (s, (get_or xs 0 0, word_live 0 (get_or xs 0 0) s some (xs, (whole, refl, refl)))),
  )
