-- What the operations on words make of each bit. Assumes nothing.
use Rattle.std.proofs.Common.{◌≡◌, ℕ, zero, suc, ◌+◌, ◌-◌, ◌*◌, ◌/◌, ◌%◌, ◌^◌, ◌<◌, ◌≤◌, min, max, cond, eqb, ◌⊎◌, sym, refl, ap, ◌∙◌, subst, inl, inr, pow-suc, div-one, mul-div_cancel, one-add, arith}
use native.Mathlib.Nat.{zero-div, div_self, div-eq_of_lt}
use lib.Arith.{bin_ind}
use lib.Bits.{bit_and, bit_or, or_step, and_step, or_shr, and_shr, and_mask}
use lib.Pow.{mod-mod-pow}
use Rattle.std.proofs.lemmas.Nat.{pow_pos, field_of, pow-add, pow_below, one_shl, shr-shr}
use Rattle.std.proofs.lemmas.Bool.{eq-eqb, ne_eqb, cases_order, cond-true, cond-false}
use Rattle.words.specs.Sets.{bit, In}

pub bit_lt : (w k : ℕ) → bit w k < 2
unfolding bit
bit_lt w k = omega arith

pub bit_zero : (k : ℕ) → bit 0 k ≡ 0
unfolding bit
bit_zero k = ap (λ (x : ℕ). x % 2) (zero-div (2 ^ k))

pub bit_low : (w : ℕ) → bit w 0 ≡ w % 2
unfolding bit
bit_low w = ap (λ (x : ℕ). x % 2) (div-one w)

-- what `w >> i` has
pub bit_shr : (w i k : ℕ) → bit (w / 2 ^ i) k ≡ bit w (i + k)
unfolding bit
bit_shr w i k = ap (λ (x : ℕ). x % 2) (shr-shr w i k)

pub bit_half : (w k : ℕ) → bit (w / 2) k ≡ bit w (suc k)
bit_half w k = bit_shr w 1 k ∙ ap (bit w) (one-add k)

pub bit_bit_or : (a b k : ℕ) → bit (bit_or a b) k ≡ max (bit a k) (bit b k)
unfolding bit
bit_bit_or a b k = ap (λ (x : ℕ). x % 2) (or_shr a b k) ∙ omega (arith, or_step (a / 2 ^ k) (b / 2 ^ k))

pub bit_bit_and : (a b k : ℕ) → bit (bit_and a b) k ≡ min (bit a k) (bit b k)
unfolding bit
bit_bit_and a b k = ap (λ (x : ℕ). x % 2) (and_shr a b k) ∙ omega (arith, and_step (a / 2 ^ k) (b / 2 ^ k))

-- what `w >> k & 1` is
pub shown_bit : (w k : ℕ) → bit_and (w / 2 ^ k) 1 ≡ bit w k
unfolding bit
shown_bit w k = and_mask (w / 2 ^ k) 1

-- the bits of the word that holds k alone
abbrev pub only : ℕ → ℕ → ℕ
only k j = cond (eqb j k) 1 0

pub only_same : (k : ℕ) → only k k ≡ 1
only_same k = cond-true (eqb k k) 1 0 (eq-eqb k k refl)

pub only_other : (k j : ℕ) → (j ≡ k → ⊥) → only k j ≡ 0
only_other k j h = cond-false (eqb j k) 1 0 (ne_eqb j k h)

pow_over : (j d : ℕ) → 2 ^ (d + j) / 2 ^ j ≡ 2 ^ d
pow_over j d = ap (λ (x : ℕ). x / 2 ^ j) (pow-add 2 d j) ∙ mul-div_cancel (2 ^ d) (pow_pos j)

bit_pow : (k j : ℕ) → bit (2 ^ k) j ≡ only k j
unfolding bit
bit_pow k j = go (cases_order j k)
  where
    go : (j ≡ k) ⊎ ((j < k) ⊎ (k < j)) → 2 ^ k / 2 ^ j % 2 ≡ only k j
    go (inl e) =
        ap (λ (x : ℕ). 2 ^ k / 2 ^ x % 2) e ∙ ap (λ (x : ℕ). x % 2) (div_self (pow_pos k))
        ∙ sym (cond-true (eqb j k) 1 0 (eq-eqb j k e))
    go (inr (inl l)) =
        let d = k - (j + 1) in
        let e : k ≡ (d + 1) + j = omega arith in
        let p : 2 ^ (d + 1) ≡ 2 ^ d * 2 = pow-add 2 d 1 in
        ap (λ (x : ℕ). 2 ^ x / 2 ^ j % 2) e ∙ ap (λ (x : ℕ). x % 2) (pow_over j (d + 1) ∙ p) ∙ omega arith
        ∙ sym (only_other k j (omega arith))
    go (inr (inr l)) =
        ap (λ (x : ℕ). x % 2) (div-eq_of_lt (pow_below k j l)) ∙ sym (only_other k j (omega arith))

-- what `1 << k` is, at a type of n bits
pub bit_shl : (n k j : ℕ) → k < n → bit ((1 * 2 ^ k) % 2 ^ n) j ≡ only k j
bit_shl n k j h = ap (λ (x : ℕ). bit x j) (one_shl k n h) ∙ bit_pow k j

-- what `!w` is, at a type of n bits
pub bit_not : (k n w : ℕ) → w < 2 ^ n → k < n → bit (2 ^ n - 1 - w) k ≡ 1 - bit w k
bit_not zero zero w lt h = absurd (omega arith)
bit_not zero (suc n) w lt h =
    bit_low (2 ^ suc n - 1 - w) ∙ omega (arith, pow-suc 2 n, bit_low w)
bit_not (suc k) zero w lt h = absurd (omega arith)
bit_not (suc k) (suc n) w lt h =
    let twice : 2 ^ suc n ≡ 2 ^ n * 2 = pow-suc 2 n in
    let half : (2 ^ suc n - 1 - w) / 2 ≡ 2 ^ n - 1 - w / 2 = omega (arith, twice) in
    sym (bit_half (2 ^ suc n - 1 - w) k) ∙ ap (λ (x : ℕ). bit x k) half ∙ bit_not k n (w / 2) (omega (arith, twice)) (omega arith)
    ∙ ap (λ (x : ℕ). 1 - x) (bit_half w k)

-- a word of n bits has none from n on
pub bit_past : (n w k : ℕ) → w < 2 ^ n → n ≤ k → bit w k ≡ 0
unfolding bit
bit_past n w k h l = ap (λ (x : ℕ). x % 2) (div-eq_of_lt {n = w} {m = 2 ^ k} (go (cases_order n k)))
  where
    go : (n ≡ k) ⊎ ((n < k) ⊎ (k < n)) → w < 2 ^ k
    go (inl e) = subst (λ (x : ℕ). w < 2 ^ x) e h
    go (inr (inl m)) = omega (arith, pow_below n k m)
    go (inr (inr m)) = omega arith

pub in_below : (n w k : ℕ) → w < 2 ^ n → In k w → k < n
in_below n w k h i = go (cases_order n k)
  where
    go : (n ≡ k) ⊎ ((n < k) ⊎ (k < n)) → k < n
    go (inl e) = omega (arith, bit_past n w k h (omega arith))
    go (inr (inl m)) = omega (arith, bit_past n w k h (omega arith))
    go (inr (inr m)) = m

-- only 0 has no bit
pub no_bits : (w : ℕ) → ((k : ℕ) → bit w k ≡ 0) → w ≡ 0
no_bits = bin_ind (λ (w : ℕ). ((k : ℕ) → bit w k ≡ 0) → w ≡ 0) (λ h. refl)
    (λ w ih h. let e : w / 2 ≡ 0 = ih (λ k. bit_half w k ∙ h (suc k)) in omega (arith, bit_low w, h 0))

-- the bits below n of what is left below 2 ^ n
pub bit_mod : (w n k : ℕ) → k < n → bit (w % 2 ^ n) k ≡ bit w k
unfolding bit
bit_mod w n k lt =
    let j : ℕ = n - k - 1 in
    let e : n ≡ (j + 1) + k = omega arith in
    ap (λ (x : ℕ). w % 2 ^ x / 2 ^ k % 2) e ∙ ap (λ (x : ℕ). x % 2) (field_of w (j + 1) k) ∙ mod-mod-pow (w / 2 ^ k) j 1
