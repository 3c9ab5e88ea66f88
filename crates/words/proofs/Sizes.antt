-- How many members a set has. Assumes nothing.
use Rattle.std.proofs.Common.{◌≡◌, ℕ, zero, suc, ◌+◌, ◌/◌, ◌%◌, ◌^◌, ◌<◌, ◌≤◌, sym, refl, ap, ◌∙◌, subst, ap₂, inl, inr, mod-lt, one-add, arith, shr_lt}
use lib.Count.{ones, ones_step, ones_cat}
use lib.Pow.{split}
use Rattle.std.proofs.lemmas.Nat.{pow_pos}
use Rattle.std.proofs.lemmas.Bool.{cases_eq}
use Rattle.words.specs.Sets.{bit, In, size}
use Rattle.words.proofs.Bits.{bit_lt, bit_mod}

size_same : (n a b : ℕ) → ((k : ℕ) → k < n → bit a k ≡ bit b k) → size n a ≡ size n b
unfolding size
size_same zero a b h = refl
size_same (suc n) a b h = ap₂ (λ (x y : ℕ). x + y) (h n (omega arith)) (size_same n a b (λ k l. h k (omega arith)))

ones_digit : (q : ℕ) → q < 2 → ones q ≡ q % 2
unfolding ones
ones_digit q lt = let e : q / 2 ≡ 0 = omega arith in ones_step q ∙ ap (λ (x : ℕ). q % 2 + ones x) e ∙ omega arith

-- a set whose numbers are all below m has as many of them below any n from m on
pub size_below : (m w n : ℕ) → ((k : ℕ) → In k w → k < m) → m ≤ n → size n w ≡ size m w
unfolding size
size_below m w zero below le = let none : zero ≡ m = omega arith in ap (λ (x : ℕ). size x w) none
size_below m w (suc n) below le = elim (cases_eq (suc n) m) [
  | inl e ↦ ap (λ (x : ℕ). size x w) e
  | inr ne ↦ let few : m ≤ n = omega (arith, le, ne) in omega (arith, absent few, size_below m w n below few)
]
  where
    absent : m ≤ n → bit w n ≡ 0
    absent past = elim (cases_eq (bit w n) 1) [
      | inl i ↦ absurd (omega (arith, past, below n i))
      | inr none ↦ omega (arith, bit_lt w n)
    ]

-- a set within another has no more members
pub size_within : (n a b : ℕ) → ((k : ℕ) → In k a → In k b) → size n a ≤ size n b
unfolding size
size_within zero a b within = omega arith
size_within (suc n) a b within = elim (cases_eq (bit a n) 1) [
  | inl i ↦ omega (arith, within n i, size_within n a b within)
  | inr ne ↦ omega (arith, bit_lt a n, size_within n a b within)
]

-- and no set has more than its bits
pub size_le : (n w : ℕ) → size n w ≤ n
unfolding size
size_le zero w = omega arith
size_le (suc n) w = omega (arith, bit_lt w n, size_le n w)

-- `count_ones` counts the members
pub ones_size : (n w : ℕ) → w < 2 ^ n → ones w ≡ size n w
unfolding ones bit size
ones_size zero w lt = let e : w ≡ 0 = omega arith in ap ones e
ones_size (suc n) w lt =
    let q : ℕ = w / 2 ^ n in
    let r : ℕ = w % 2 ^ n in
    ap ones (sym (split w n)) ∙ ones_cat n q r (mod-lt w (pow_pos n))
    ∙ ap₂ (λ (x y : ℕ). x + y)
    (ones_digit q (shr_lt 1 n (subst (λ (x : ℕ). w < 2 ^ x) (sym (one-add n)) lt)))
    (ones_size n r (mod-lt w (pow_pos n)) ∙ size_same n r w (λ k l. bit_mod w n k l))
