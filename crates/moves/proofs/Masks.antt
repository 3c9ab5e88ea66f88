-- The masks of the code for the diagonal. Assumes nothing.
use Rattle.std.proofs.Common.{ℕ, ◌-◌, ◌^◌}

abbrev pub diagonal : ℕ
diagonal = 0x8040_2010_0804_0201

-- the cells left of the diagonal
abbrev pub left : ℕ
left = 0x7f3f_1f0f_0703_0100

-- `!left`, at 64 bits
abbrev pub not_left : ℕ
not_left = 2 ^ 64 - 1 - left
