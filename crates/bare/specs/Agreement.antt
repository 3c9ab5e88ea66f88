-- When a row's record agrees with a bare record: all that is told of the one is true of the other. Assumes nothing.
use Rattle.std.specs.Prelude.{◌≡◌, ◌↔◌, ℕ, ◌<◌, List, [], ◌∷◌, length, take, slice_index}
use Rattle.words.specs.Sets.{In}
use Rattle.record.specs.declared.record.Record.{Record}
use Rattle.record.specs.declared.stand.Stand.{Stand}
use Rattle.record.specs.declared.stand.Stand.TheVariants.{Blank, Open, Settled, Dead}
use Rattle.record.specs.declared.moment.Moment.{Moment}
use Rattle.record.specs.declared.undo.UndoTable.{UndoTable}
use Rattle.record.specs.Copies.{copy_of}
use Rattle.layers.specs.Rows.{Model, Complete, Uses, Yields}
use Rattle.bare.specs.Bare.{Bare}

-- settled or dead
abbrev pub Judged : Stand → Type 0
Judged Blank = ⊥
Judged Open = ⊥
Judged Settled = Unit {0}
Judged Dead = Unit {0}

-- What a row of n parts has, s, agrees with what the bare record has, p.
pub record MomentAgrees (m : Model) (n : ℕ) (p s : Moment) : Type 0 where
  pub stand : s.stand ≡ p.stand
  pub size : length p.palettes ≡ n
  -- they have the same complete rows
  pub rows : (xs : List ℕ) → Complete m p.palettes p.results xs ↔ Complete m (take n s.palettes) s.results xs
  -- once settled or dead, a hatching stands exactly where some complete row uses it,
  pub hatchings : Judged p.stand → (i v : ℕ) → i < n → In v (slice_index s.palettes i) ↔ Uses m p.palettes p.results i v
  -- and a result is left exactly when some complete row has it
  pub results : Judged p.stand → (k : ℕ) → In k s.results ↔ Yields m p.palettes p.results k

-- each mark agrees with its copy; the oldest copy is 0
abbrev pub MarksAgree : Model → ℕ → List Moment → UndoTable → Type 0
MarksAgree m n [] undo = Unit {0}
MarksAgree m n (p ∷ older) undo = MomentAgrees m n p (copy_of undo (length older)) × MarksAgree m n older undo

pub record Agrees (m : Model) (b : Bare) (a : Record) : Type 0 where
  pub parts : a.n ≡ b.n
  pub hatchings : a.d ≡ b.d
  pub now : MomentAgrees m b.n b.current a.current
  pub held : a.marks ≡ length b.marks
  pub marks : MarksAgree m b.n b.marks a.undo
