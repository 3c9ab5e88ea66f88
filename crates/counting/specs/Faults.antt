-- What is wrong with a line, by what is wrong with its row. Assumes nothing.
use Rattle.std.specs.Prelude.{◌≡◌, ℕ, ◌<◌, ◌≤◌, ◌⊎◌, List, length}
use Rattle.tallies.specs.Rows.{Faulty}
use Rattle.tallies.specs.declared.finished.RowFault.{RowFault}
use Rattle.tallies.specs.declared.finished.RowFault.TheVariants.{Empty, TooHigh as Above}
use Rattle.counting.specs.declared.fault.LineFault.{LineFault}
use Rattle.counting.specs.declared.fault.LineFault.TheVariants.{NoParts, NoNumber, TooHigh, TooMany, Memory}
use Rattle.counting.specs.Lines.{FirstUnread, Reads, words}

-- the same fault, told of a line
abbrev pub of_row : RowFault → LineFault
of_row Empty = NoParts
of_row (Above i) = TooHigh i

-- what keeps numbers from being counted: more than 60 parts first, then the row's own fault
abbrev pub Uncounted : List ℕ → LineFault → Type 0
Uncounted xs NoParts = Faulty xs Empty
Uncounted xs (NoNumber k) = ⊥
Uncounted xs (TooHigh i) = (length xs ≤ 60) × Faulty xs (Above i)
Uncounted xs (TooMany n) = (n ≡ length xs) × (60 < n)
Uncounted xs Memory = ⊥

-- what keeps a line from being read: a word that is no number, or want of memory
abbrev pub Unread : List (List ℕ) → LineFault → Type 0
Unread ws NoParts = ⊥
Unread ws (NoNumber k) = FirstUnread ws k
Unread ws (TooHigh i) = ⊥
Unread ws (TooMany n) = ⊥
Unread ws Memory = Unit {0}

-- what is told of a line that is not counted
abbrev pub Told : List ℕ → LineFault → Type 0
Told line f = Unread (words line) f ⊎ ((row : List ℕ) × (Reads line row × Uncounted row f))
