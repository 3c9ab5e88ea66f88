-- Why a call is refused: the first cause that holds. Assumes nothing.
use Rattle.std.specs.Prelude.{ℕ, ◌*◌, ◌^◌, Bool, true, false, not, ◌||◌, List, length, Some, None, Option, ◌==◌, nat_le, nat_lt}
use Rattle.std.specs.List.{list_any}
use Rattle.record.specs.declared.refusal.Refusal.{Refusal}
use Rattle.record.specs.declared.refusal.Refusal.TheVariants.{NoRow, WrongSize, HighPalette, NoPart, NoHatching, NoResult, FullMarks, NoMark, ShortScratch}
use Rattle.record.specs.declared.stand.Stand.{Stand}
use Rattle.record.specs.Stands.{is_blank}

-- the number of a refusal
abbrev pub refusal_number : Refusal → ℕ
refusal_number NoRow = 1
refusal_number WrongSize = 2
refusal_number HighPalette = 3
refusal_number NoPart = 4
refusal_number NoHatching = 5
refusal_number NoResult = 6
refusal_number FullMarks = 7
refusal_number NoMark = 8
refusal_number ShortScratch = 9

-- the cause e where its test passes, and else what the later tests find
abbrev pub checked : Bool → Refusal → Option Refusal → Option Refusal
checked true e later = Some e
checked false e later = later

-- k is not one of 1 to the most
abbrev pub out_of_range : ℕ → ℕ → Bool
out_of_range most k = k == 0 || nat_lt most k

-- the palette has a hatching at or above d: as a number it is 2 ^ d or more
abbrev pub too_high : ℕ → ℕ → Bool
too_high d palette = nat_le (2 ^ d) palette

-- one of the palettes has
abbrev pub any_too_high : ℕ → List ℕ → Bool
any_too_high d = list_any (too_high d)

-- to lay n parts and d hatchings
abbrev pub lay_refusal : ℕ → ℕ → List ℕ → Option Refusal
lay_refusal n d palettes =
    checked (out_of_range 60 n || out_of_range 32 d || not (length palettes == n)) WrongSize
    (checked (any_too_high d palettes) HighPalette None)

-- to withdraw a hatching from a part, in a row of n parts and d hatchings
abbrev pub withdraw_refusal : Stand → ℕ → ℕ → ℕ → ℕ → Option Refusal
withdraw_refusal stand n d part hatching =
    checked (is_blank stand) NoRow (checked (nat_le n part) NoPart (checked (nat_le d hatching) NoHatching None))

-- to no longer allow a result
abbrev pub limit_refusal : Stand → ℕ → Option Refusal
limit_refusal stand result = checked (is_blank stand) NoRow (checked (nat_lt 63 result) NoResult None)

-- to mark, where so many marks are held
abbrev pub mark_refusal : Stand → ℕ → Option Refusal
mark_refusal stand marks = checked (is_blank stand) NoRow (checked (nat_le 8 marks) FullMarks None)

-- to go back, where so many marks are held
abbrev pub back_refusal : Stand → ℕ → Option Refusal
back_refusal stand marks = checked (is_blank stand) NoRow (checked (marks == 0) NoMark None)

-- to look at a part, in a row of n parts
abbrev pub look_refusal : Stand → ℕ → ℕ → Option Refusal
look_refusal stand n part = checked (is_blank stand) NoRow (checked (nat_le n part) NoPart None)

-- to settle a row of n parts, with a scratch of so many words
abbrev pub settle_refusal : Stand → ℕ → ℕ → Option Refusal
settle_refusal stand n words = checked (is_blank stand) NoRow (checked (nat_lt words (32 * n)) ShortScratch None)
