-- The seven formulas and their codes. Assumes nothing.
use Rattle.std.specs.Prelude.{◌≡◌, ℕ, ◌+◌, ◌-◌, Bool, true, not, ◌&&◌, ◌==◌, nat_le, nat_lt}
use Rattle.rules.specs.declared.formula.FormulaRule.{FormulaRule}
use Rattle.rules.specs.declared.formula.FormulaRule.TheVariants.{Always, Equal, Different, Less, AtMost, Within, BothAtLeast}
use Rattle.rules.specs.Pairs.{on_hatchings}

-- how far two numbers are apart
abbrev pub distance : ℕ → ℕ → ℕ
distance a b = (a - b) + (b - a)

-- what a formula says of two numbers
abbrev pub formula : FormulaRule → ℕ → ℕ → Bool
formula Always a b = true
formula Equal a b = a == b
formula Different a b = not (a == b)
formula Less a b = nat_lt a b
formula AtMost a b = nat_le a b
formula (Within r) a b = nat_le (distance a b) r
formula (BothAtLeast r) a b = nat_le r a && nat_le r b

-- the pairs of a formula rule: the two hatchings of which its formula is true
abbrev pub formula_pairs : FormulaRule → ℕ → ℕ → Bool
formula_pairs f = on_hatchings (formula f)

-- the codes of the formulas, in their order
abbrev pub formula_code : FormulaRule → ℕ
formula_code Always = 0
formula_code Equal = 1
formula_code Different = 2
formula_code Less = 3
formula_code AtMost = 4
formula_code (Within r) = 5
formula_code (BothAtLeast r) = 6

-- the number that the formula carries is r, if it carries one
abbrev pub Carries : FormulaRule → ℕ → Type 0
Carries Always r = Unit {0}
Carries Equal r = Unit {0}
Carries Different r = Unit {0}
Carries Less r = Unit {0}
Carries AtMost r = Unit {0}
Carries (Within q) r = q ≡ r
Carries (BothAtLeast q) r = q ≡ r
