use Rattle.std.proofs.Common.{◌≡◌, ℕ, ◌+◌, ◌<◌, ◌≤◌, get_or}
use Rattle.words.specs.Sets.{In, Holds}
use Rattle.verdicts.specs.Verdicts.{WordHas}
use Rattle.bare.specs.Settling.{total}
use Rattle.row.proofs.settling.narrow.Given as goal

-- the palettes below i are narrowed, and the others are as they were
abbrev pub invariant-loop-i : goal.invariant-loop-i
invariant-loop-i l =
    ((j : ℕ) → j < l.i → Holds (get_or l.palettes j 0) (λ v. In v (get_or l.initial.palettes j 0) × ((s : ℕ) × WordHas l.live j v s)))
    × ((j : ℕ) → l.i ≤ j → get_or l.palettes j 0 ≡ get_or l.initial.palettes j 0)
    × (total l.initial.palettes ≡ total l.palettes + l.fallen)
