-- What the program tells of a row. Assumes nothing.
use Rattle.std.specs.Prelude.{◌≡◌, ℕ, min, List}
use Rattle.rules.specs.declared.formula.FormulaRule.TheVariants.{Always, Equal, Different, Less, AtMost, Within, BothAtLeast}
use Rattle.rules.specs.Formulas.{formula_pairs}
use Rattle.tallies.specs.Plateaus.{LongestPlateau}
use Rattle.tallies.specs.Stretches.{seqbin}
use Rattle.counting.specs.declared.counts.Counts.{Counts}

-- The SEQBIN count of the row over each formula, and its LONGESTPLATEAU up to 8.
pub record Counted (r : ℕ) (xs : List ℕ) (c : Counts) : Type 0 where
  pub always : c.always ≡ seqbin (formula_pairs Always) xs
  pub equal : c.equal ≡ seqbin (formula_pairs Equal) xs
  pub different : c.different ≡ seqbin (formula_pairs Different) xs
  pub less : c.less ≡ seqbin (formula_pairs Less) xs
  pub at_most : c.at_most ≡ seqbin (formula_pairs AtMost) xs
  pub within : c.within ≡ seqbin (formula_pairs (Within r)) xs
  pub both_at_least : c.both_at_least ≡ seqbin (formula_pairs (BothAtLeast r)) xs
  pub longest_run : (m : ℕ) × (LongestPlateau xs m × (c.longest_run ≡ min m 8))
