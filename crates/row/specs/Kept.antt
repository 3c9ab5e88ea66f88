-- The rule and the tally that a row keeps, as one model. Assumes nothing.
use Rattle.std.specs.Prelude.{◌≡◌, ℕ, Bool}
use Rattle.tallies.specs.Machines.{Machine}
use Rattle.bare.specs.Agreement.{Agrees}
use Rattle.bare.specs.Bare.{Bare}
use Rattle.layers.specs.Rows.{Model, model}
use Rattle.row.specs.declared.calls.Row.{Row}

-- rule and tally are those that were handed in
pub record Keeps {R T : Type 0} (a b : Row R T) : Type 0 where
  pub rule : b.rule ≡ a.rule
  pub tally : b.tally ≡ a.tally

-- whatever bare record the row agrees with before a call, it agrees after it with one that the call makes of it
abbrev pub Carries : {R T : Type 0} → (R → ℕ → ℕ → Bool) → (T → Machine) → (Model → Bare → Bare → Type 0) → Row R T → Row R T → Type 0
Carries pairs machine Call a b = (x : Bare) → Agrees m x a.«record» → (y : Bare) × (Call m x y × Agrees m y b.«record»)
  where
    m : Model
    m = model (pairs a.rule) (machine a.tally)
