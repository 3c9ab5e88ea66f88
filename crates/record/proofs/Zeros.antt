-- A list of zeros: each is the empty set. Assumes nothing.
use Rattle.std.proofs.Common.{◌≡◌, ℕ, List, ◌++◌, drop, get_or, replicate, subst, arith}
use Rattle.std.proofs.lemmas.List.{places}
use Rattle.words.proofs.Membership.{holds_zero}
use Rattle.words.specs.Sets.{In}

pub none_in_zeros : (n i v : ℕ) → In v (get_or (replicate {A = ℕ} n 0) i 0) → ⊥
none_in_zeros n i v member =
    let zero_there : get_or (replicate {A = ℕ} n 0) i 0 ≡ 0 = grind (arith, places) in
    (holds_zero v).0 (subst (In v) zero_there member)

-- a list written over the front of it reads as that list
pub zeros_behind : (n k : ℕ) (xs : List ℕ) (i : ℕ) → get_or (xs ++ drop k (replicate {A = ℕ} n 0)) i 0 ≡ get_or xs i 0
zeros_behind n k xs i = grind (arith, places)
