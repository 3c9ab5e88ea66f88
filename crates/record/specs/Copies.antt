-- The copies that the marks keep. Assumes nothing.
use Rattle.std.specs.Prelude.{ℕ, [], slice_index_or}
use Rattle.record.specs.declared.moment.Moment.{Moment}
use Rattle.record.specs.declared.stand.Stand.TheVariants.{Blank}
use Rattle.record.specs.declared.undo.UndoTable.{UndoTable}

-- what a reading behind the end of the table gives
abbrev pub no_copy : Moment
no_copy = record { palettes = []; results = 0; stand = Blank }

-- the copy of mark k, the oldest being 0
abbrev pub copy_of : UndoTable → ℕ → Moment
copy_of undo k = slice_index_or undo.saved k no_copy
