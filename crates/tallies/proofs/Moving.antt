-- What a step makes of whole sets, where it moves each state as a map does. Assumes nothing.
use Rattle.std.proofs.Common.{◌≡◌, ℕ, ◌^◌, ◌<◌, Bool, true, false, sym, refl, ap, ◌∙◌, arith}
use Rattle.std.proofs.lemmas.Bool.{eq-eqb, ne_eqb}
use Rattle.words.specs.Sets.{In, Holds}
use Rattle.words.proofs.Bits.{in_below}
use Rattle.words.proofs.Walking.{holds_like}
use Rattle.moves.specs.Maps.{Image as Moved, Preimage as MovedInto, one_up, first_row, row_down, to_diagonal}
use Rattle.tallies.specs.Machines.{Machine, Image, Preimage}
use Rattle.tallies.specs.Plateaus.{plateau_machine}
use Rattle.tallies.specs.Stretches.{stretch_machine}
use Rattle.tallies.proofs.Counting.{stretch_step}
use Rattle.tallies.proofs.Running.{plateau_step}

-- the step from v to w moves each state as f does
module _ (m : Machine) (v w : ℕ) (f : ℕ → ℕ) (is : (s : ℕ) → s < 64 → m.step s v w ≡ f s) (set : ℕ) (fits : set < 2 ^ 64) where
  at : (s : ℕ) → In s set → m.step s v w ≡ f s
  at s i = is s (in_below 64 set s fits i)

  -- the image under f is the image under the step
  pub image_by : (r : ℕ) → Holds r (Moved f set) → Holds r (Image m set v w)
  image_by r h = holds_like r (Moved f set) (Image m set v w) h (λ t. (
    λ p. (p.0, (p.1.0, at p.0 p.1.0 ∙ p.1.1)),
    λ p. (p.0, (p.1.0, sym (at p.0 p.1.0) ∙ p.1.1)),
  ))

  -- what the set has of the preimage under f is the preimage under the step
  pub preimage_by : (target into r : ℕ) → Holds into (MovedInto f target) → Holds r (λ s. In s set × In s into) → Holds r (Preimage m set v w target)
  preimage_by target into r moved h = holds_like r (λ s. In s set × In s into) (Preimage m set v w target) h (λ s. (
    λ p. (p.0, rw (at s p.0) ((moved s).0 p.1).1),
    λ p. (p.0, (moved s).1 (in_below 64 set s fits p.0, rw (at s p.0) at p.1)),
  ))

-- where each number stays, a set is its own image
pub image_same : (set : ℕ) → Holds set (Moved (λ s. s) set)
image_same set k = (λ i. (k, (i, refl)), λ p. rw p.1.1 at p.1.0)

-- and its own preimage
pub preimage_same : (set : ℕ) → set < 2 ^ 64 → Holds set (MovedInto (λ s. s) set)
preimage_same set fits k = (λ i. (in_below 64 set k fits i, i), λ p. p.1)

module _ (f g : ℕ → ℕ) where
  -- the image under f, and of that the image under g
  pub image_then : (set a r : ℕ) → Holds a (Moved f set) → Holds r (Moved g a) → Holds r (Moved (λ s. g (f s)) set)
  image_then set a r first next k = (
    λ i. let p = (next k).0 i in let q = (first p.0).0 p.1.0 in (q.0, (q.1.0, ap g q.1.1 ∙ p.1.1)),
    λ p. (next k).1 (f p.0, ((first (f p.0)).1 (p.0, (p.1.0, refl)), p.1.1)),
  )

  -- the preimage under g, and of that the preimage under f
  pub preimage_then : ((s : ℕ) → f s < 64) → (set a r : ℕ) → Holds a (MovedInto g set) → Holds r (MovedInto f a) → Holds r (MovedInto (λ s. g (f s)) set)
  preimage_then small set a r next first s = (
    λ i. let p = (first s).0 i in (p.0, ((next (f s)).0 p.1).1),
    λ p. (first s).1 (p.0, (next (f s)).1 (small s, p.1)),
  )

-- ---- the counters inside their range

module _ (v w : ℕ) (hv : v < 32) (hw : w < 32) where
  -- a pair of the rule: the count stays
  pub stretch_stays : (C : ℕ → ℕ → Bool) → C v w ≡ true → (s : ℕ) → s < 64 → (stretch_machine C).step s v w ≡ s
  stretch_stays C pair s l = stretch_step C s v w l hv hw ∙ rw pair

  -- no pair: the count goes up
  pub stretch_rises : (C : ℕ → ℕ → Bool) → C v w ≡ false → (s : ℕ) → s < 64 → (stretch_machine C).step s v w ≡ one_up s
  stretch_rises C none s l = stretch_step C s v w l hv hw ∙ rw none

  -- equal hatchings: the run goes on
  pub plateau_goes_on : v ≡ w → (s : ℕ) → s < 64 → plateau_machine.step s v w ≡ to_diagonal (row_down s)
  plateau_goes_on equal s l = plateau_step s v w l hv hw ∙ rw (eq-eqb v w equal) (omega arith)

  -- another hatching: a run of one begins
  pub plateau_begins : (v ≡ w → ⊥) → (s : ℕ) → s < 64 → plateau_machine.step s v w ≡ first_row s
  plateau_begins other s l = plateau_step s v w l hv hw ∙ rw (ne_eqb v w other) (omega arith)
