-- What each operation of a set does to its members, at a word of n bits. Assumes nothing.
use Rattle.std.proofs.Common.{◌≡◌, ℕ, zero, suc, ◌+◌, ◌-◌, ◌*◌, ◌/◌, ◌%◌, ◌^◌, ◌<◌, ◌≤◌, min, max, eqb, ltb, ◌⊎◌, Decides, sym, refl, ap, ◌∙◌, subst, inl, inr, pow-suc, mod-lt, arith}
use lib.Arith.{bin_ind}
use lib.Bits.{bit_and, bit_or, and_mask}
use lib.Count.{count_trailing_zeros, under}
use Rattle.std.proofs.lemmas.Nat.{one_shl, pow_below, pow_pos, shr_le}
use Rattle.std.proofs.lemmas.Bool.{eqb-true, eq-eqb, ltb-true, lt-ltb, cases_eq}
use Rattle.words.specs.Sets.{bit, In, Holds}
use Rattle.words.proofs.Bits.{bit_lt, bit_mod, bit_zero, bit_low, bit_shr, bit_half, bit_bit_or, bit_bit_and, shown_bit, only, only_same, only_other, bit_shl, bit_not, in_below, no_bits}

-- 0 is the empty set
pub holds_zero : Holds 0 (λ _. ⊥)
holds_zero k = (λ i. omega (arith, bit_zero k), λ x. absurd x)

pub decides_zero : (w : ℕ) → Decides (eqb w 0) ((k : ℕ) → In k w → ⊥)
decides_zero w = (
  λ t k i. omega (arith, bit_zero k, ap (λ (x : ℕ). bit x k) (eqb-true w 0 t)),
  λ none. eq-eqb w 0 (no_bits w (λ k. zero_of k (none k))),
)
  where
    zero_of : (k : ℕ) → (In k w → ⊥) → bit w k ≡ 0
    zero_of k no_k = elim (cases_eq (bit w k) 1) [ inl i ↦ absurd (no_k i) | inr ne ↦ omega (arith, bit_lt w k) ]

-- the lowest n bits of a word
pub holds_low : (n w : ℕ) → Holds (bit_and w (2 ^ n - 1)) (λ k. In k w × (k < n))
holds_low n w = subst (λ (x : ℕ). Holds x (λ k. In k w × (k < n))) (sym (and_mask w n)) cut
  where
    cut : Holds (w % 2 ^ n) (λ k. In k w × (k < n))
    cut k = (
      λ i. let small = in_below n (w % 2 ^ n) k (mod-lt w (pow_pos n)) i in (sym (bit_mod w n k small) ∙ i, small),
      λ t. bit_mod w n k t.1 ∙ t.0,
    )

-- `w >> k & 1 == 1`
pub decides_member : (w k : ℕ) → Decides (eqb (bit_and (w / 2 ^ k) 1) 1) (In k w)
decides_member w k =
    (λ t. sym (shown_bit w k) ∙ eqb-true (bit_and (w / 2 ^ k) 1) 1 t, λ i. eq-eqb (bit_and (w / 2 ^ k) 1) 1 (shown_bit w k ∙ i))

-- a test that k is below the width, for a k that is not
pub decides_past : (n w k : ℕ) → w < 2 ^ n → n ≤ k → Decides (ltb k n) (In k w)
decides_past n w k fits past = (λ t. absurd (omega (arith, ltb-true k n t)), λ i. lt-ltb k n (in_below n w k fits i))

pub holds_union : (a b : ℕ) → Holds (bit_or a b) (λ k. In k a ⊎ In k b)
holds_union a b k = (into, out)
  where
    into : In k (bit_or a b) → In k a ⊎ In k b
    into i = elim (cases_eq (bit a k) 1) [
      | inl yes_a ↦ inl yes_a
      | inr not_a ↦ inr (omega (arith, bit_bit_or a b k, bit_lt a k, bit_lt b k))
    ]

    out : In k a ⊎ In k b → In k (bit_or a b)
    out (inl i) = omega (arith, bit_bit_or a b k, bit_lt b k)
    out (inr i) = omega (arith, bit_bit_or a b k, bit_lt a k)

module _ (n w k : ℕ) (small : k < n) where
  -- `w | 1 << k`
  pub holds_with : Holds (bit_or w ((1 * 2 ^ k) % 2 ^ n)) (λ j. In j w ⊎ ((j ≡ k) × (k < n)))
  holds_with j = (into, out)
    where
      is : bit (bit_or w ((1 * 2 ^ k) % 2 ^ n)) j ≡ max (bit w j) (only k j)
      is = bit_bit_or w ((1 * 2 ^ k) % 2 ^ n) j ∙ ap (max (bit w j)) (bit_shl n k j small)

      into : In j (bit_or w ((1 * 2 ^ k) % 2 ^ n)) → In j w ⊎ ((j ≡ k) × (k < n))
      into i = elim (cases_eq j k) [
        | inl e ↦ inr (e, small)
        | inr ne ↦ inl (omega (arith, is, only_other k j ne))
      ]

      out : In j w ⊎ ((j ≡ k) × (k < n)) → In j (bit_or w ((1 * 2 ^ k) % 2 ^ n))
      out (inl i) = omega (arith, is, bit_lt (bit_or w ((1 * 2 ^ k) % 2 ^ n)) j)
      out (inr e) = omega (arith, is, bit_lt w j, subst (λ (x : ℕ). only k x ≡ 1) (sym e.0) (only_same k))

  -- `w & !(1 << k)`
  pub holds_without : w < 2 ^ n → Holds (bit_and w (2 ^ n - 1 - (1 * 2 ^ k) % 2 ^ n)) (λ j. In j w × (j ≡ k → ⊥))
  holds_without fits j = (into, out)
    where
      is : j < n → bit (bit_and w (2 ^ n - 1 - (1 * 2 ^ k) % 2 ^ n)) j ≡ min (bit w j) (1 - only k j)
      is h =
          bit_bit_and w (2 ^ n - 1 - (1 * 2 ^ k) % 2 ^ n) j
          ∙ ap (min (bit w j)) (bit_not j n ((1 * 2 ^ k) % 2 ^ n) (omega (arith, one_shl k n small, pow_below k n small)) h ∙ ap (λ (x : ℕ). 1 - x) (bit_shl n k j small))

      into : In j (bit_and w (2 ^ n - 1 - (1 * 2 ^ k) % 2 ^ n)) → In j w × (j ≡ k → ⊥)
      into i =
          let member : In j w = omega (arith, bit_bit_and w (2 ^ n - 1 - (1 * 2 ^ k) % 2 ^ n) j, bit_lt w j) in
          (member, λ e. omega (arith, is (in_below n w j fits member), subst (λ (x : ℕ). only k x ≡ 1) (sym e) (only_same k)))

      out : In j w × (j ≡ k → ⊥) → In j (bit_and w (2 ^ n - 1 - (1 * 2 ^ k) % 2 ^ n))
      out (member, ne) = omega (arith, is (in_below n w j fits member), only_other k j ne)

-- a number past the width is neither put in nor taken out
pub holds_with_past : (n w k : ℕ) → n ≤ k → Holds w (λ j. In j w ⊎ ((j ≡ k) × (k < n)))
holds_with_past n w k past j = (inl, λ t. elim t [ inl i ↦ i | inr e ↦ absurd (omega (arith, e.1)) ])

pub holds_without_past : (n w k : ℕ) → w < 2 ^ n → n ≤ k → Holds w (λ j. In j w × (j ≡ k → ⊥))
holds_without_past n w k fits past j = (λ i. (i, λ e. omega (arith, in_below n w j fits i)), λ t. t.0)

-- the trailing zeros are the lowest member
pub lowest_in : (n w : ℕ) → 0 < w → w < 2 ^ n → (In (count_trailing_zeros n w) w) × ((j : ℕ) → j < count_trailing_zeros n w → In j w → ⊥)
unfolding count_trailing_zeros
lowest_in zero w pos lt = absurd (omega arith)
lowest_in (suc n) w pos lt = go (w % 2) refl (λ p. lowest_in n (w / 2) p (omega (arith, pow-suc 2 n)))
  where
    go : (d : ℕ) → w % 2 ≡ d → (0 < w / 2 → (In (count_trailing_zeros n (w / 2)) (w / 2)) × ((j : ℕ) → j < count_trailing_zeros n (w / 2) → In j (w / 2) → ⊥))
        → (In (under d (count_trailing_zeros n (w / 2))) w) × ((j : ℕ) → j < under d (count_trailing_zeros n (w / 2)) → In j w → ⊥)
    go zero e above =
        let r : (In (count_trailing_zeros n (w / 2)) (w / 2)) × ((j : ℕ) → j < count_trailing_zeros n (w / 2) → In j (w / 2) → ⊥) = above (omega arith) in
        (sym (bit_half w (count_trailing_zeros n (w / 2))) ∙ r.0, below r.1)
      where
        below : ((j : ℕ) → j < count_trailing_zeros n (w / 2) → In j (w / 2) → ⊥) → (j : ℕ) → j < suc (count_trailing_zeros n (w / 2)) → In j w → ⊥
        below none zero l i = omega (arith, bit_low w)
        below none (suc j) l i = none j (omega arith) (bit_half w j ∙ i)
    go (suc d) e above = (omega (arith, bit_low w), λ j l i. omega arith)

-- a set that is not empty has a member
pub some_member : (n w : ℕ) → w < 2 ^ n → (((k : ℕ) → In k w → ⊥) → ⊥) → (k : ℕ) × In k w
some_member n w fits some = (count_trailing_zeros n w, (lowest_in n w (omega (arith, not_zero)) fits).0)
  where
    not_zero : w ≡ 0 → ⊥
    not_zero e = some (λ k i. (holds_zero k).0 (subst (In k) e i))

-- the lowest member of `w >> from`, as one of w
pub lowest_above : (n w from : ℕ) → w < 2 ^ n → (w / 2 ^ from ≡ 0 → ⊥)
    → (from ≤ from + count_trailing_zeros n (w / 2 ^ from))
    × In (from + count_trailing_zeros n (w / 2 ^ from)) w
    × ((j : ℕ) → from ≤ j → j < from + count_trailing_zeros n (w / 2 ^ from) → In j w → ⊥)
lowest_above n w from fits some = (omega arith, sym (bit_shr w from (count_trailing_zeros n (w / 2 ^ from))) ∙ low.0, below)
  where
    low : (In (count_trailing_zeros n (w / 2 ^ from)) (w / 2 ^ from)) × ((j : ℕ) → j < count_trailing_zeros n (w / 2 ^ from) → In j (w / 2 ^ from) → ⊥)
    low = lowest_in n (w / 2 ^ from) (omega arith) (omega (arith, shr_le w from))

    below : (j : ℕ) → from ≤ j → j < from + count_trailing_zeros n (w / 2 ^ from) → In j w → ⊥
    below j l h i =
        let e : from + (j - from) ≡ j = omega arith in
        low.1 (j - from) (omega arith) (bit_shr w from (j - from) ∙ ap (bit w) e ∙ i)

pub lowest_inside : (n w from : ℕ) → w < 2 ^ n → (w / 2 ^ from ≡ 0 → ⊥) → from + count_trailing_zeros n (w / 2 ^ from) < n
lowest_inside n w from fits some = in_below n w (from + count_trailing_zeros n (w / 2 ^ from)) fits (lowest_above n w from fits some).1

-- nothing is left of `w >> from`
pub none_above : (w from : ℕ) → w / 2 ^ from ≡ 0 → (k : ℕ) → from ≤ k → In k w → ⊥
none_above w from e k l i =
    let at : from + (k - from) ≡ k = omega arith in
    let shown : bit (w / 2 ^ from) (k - from) ≡ 1 = bit_shr w from (k - from) ∙ ap (bit w) at ∙ i in
    omega (arith, shown, ap (λ (x : ℕ). bit x (k - from)) e, bit_zero (k - from))

pub none_past : (n w from : ℕ) → w < 2 ^ n → n ≤ from → (k : ℕ) → from ≤ k → In k w → ⊥
none_past n w from fits past k l i = omega (arith, in_below n w k fits i)

pub holds_intersection : (a b : ℕ) → Holds (bit_and a b) (λ k. In k a × In k b)
holds_intersection a b k = (
  λ i. (omega (arith, bit_bit_and a b k, bit_lt a k, bit_lt b k), omega (arith, bit_bit_and a b k, bit_lt a k, bit_lt b k)),
  λ t. omega (arith, bit_bit_and a b k, t.0, t.1),
)

-- a set within another is no greater as a number
within_le : (b a : ℕ) → ((k : ℕ) → In k a → In k b) → a ≤ b
within_le = bin_ind (λ (b : ℕ). (a : ℕ) → ((k : ℕ) → In k a → In k b) → a ≤ b)
    (λ a within. omega (arith, no_bits a (λ k. none a k (within k))))
    (λ b ih a within.
    let half : a / 2 ≤ b / 2 = ih (a / 2) (λ k i. bit_half b k ∙ within (suc k) (sym (bit_half a k) ∙ i)) in
    elim (cases_eq (bit a 0) 1) [
      | inl i ↦ omega (arith, half, bit_low a, bit_low b, within 0 i)
      | inr ne ↦ omega (arith, half, bit_low a, bit_low b, bit_lt a 0)
    ])
  where
    none : (a k : ℕ) → (In k a → In k 0) → bit a k ≡ 0
    none a k f = elim (cases_eq (bit a k) 1) [
      | inl i ↦ absurd (omega (arith, f i, bit_zero k))
      | inr ne ↦ omega (arith, bit_lt a k)
    ]

-- without one of its numbers, a set is less as a number
pub less_without : (w r k : ℕ) → In k w → Holds r (λ j. In j w × (j ≡ k → ⊥)) → r < w
less_without w r k member h = elim (cases_eq r w) [
  | inl same ↦ absurd (((h k).0 (ap (λ (x : ℕ). bit x k) same ∙ member)).1 refl)
  | inr other ↦ omega (arith, within_le w r (λ j i. ((h j).0 i).0))
]
