-- How a row stands. Assumes nothing.
use Rattle.std.specs.Prelude.{◌≡◌, ℕ, Bool, true, false, List, codes}
use Rattle.record.specs.declared.stand.Stand.{Stand}
use Rattle.record.specs.declared.stand.Stand.TheVariants.{Blank, Open, Settled, Dead}

-- the number of a stand
abbrev pub stand_number : Stand → ℕ
stand_number Blank = 0
stand_number Open = 1
stand_number Settled = 2
stand_number Dead = 3

-- what is printed of a stand
abbrev pub stand_name : Stand → List ℕ
stand_name Blank = codes "blank"
stand_name Open = codes "open"
stand_name Settled = codes "settled"
stand_name Dead = codes "dead"

-- whether there is no row yet
abbrev pub is_blank : Stand → Bool
is_blank Blank = true
is_blank Open = false
is_blank Settled = false
is_blank Dead = false

-- the stand s becomes t: open where P is true, and else it remains
abbrev pub OpensIf : Type 0 → Stand → Stand → Type 0
OpensIf P s t = (P → t ≡ Open) × ((P → ⊥) → t ≡ s)
