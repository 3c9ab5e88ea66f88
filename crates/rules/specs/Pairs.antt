-- Sets of ordered pairs of hatchings, by their test. Assumes nothing.
use Rattle.std.specs.Prelude.{ℕ, Bool, ◌&&◌, nat_lt}

-- the pairs of p whose two numbers are hatchings, that is below 32
abbrev pub on_hatchings : (ℕ → ℕ → Bool) → ℕ → ℕ → Bool
on_hatchings p a b = nat_lt a 32 && (nat_lt b 32 && p a b)

-- the pairs of p, turned round
abbrev pub mirrored : (ℕ → ℕ → Bool) → ℕ → ℕ → Bool
mirrored p a b = p b a
