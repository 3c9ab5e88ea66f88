-- Shifts, masks and unions work on a set member by member. Assumes nothing.
use Rattle.std.proofs.Common.{◌≡◌, ℕ, zero, suc, ◌+◌, ◌-◌, ◌*◌, ◌/◌, ◌%◌, ◌^◌, ◌⊎◌, sym, refl, ap, ◌∙◌, subst, inl, inr, mul-one, arith}
use mathlib.Core.Path.{fun_ext}
use lib.Bits.{bit_and, bit_or, and_mask, shifted_half, shifted_even}
use Rattle.std.proofs.lemmas.Nat.{one_shl}
use Rattle.std.proofs.lemmas.Bool.{cases_eq}
use Rattle.words.specs.Sets.{bit, In, Holds}
use Rattle.words.proofs.Bits.{bit_lt, bit_low, bit_half, bit_shr, bit_bit_and, bit_shl, only, only_same, only_other}
use Rattle.words.proofs.Membership.{holds_union}

-- the set of s alone
pub holds_alone : (s : ℕ) → Holds (2 ^ s) (λ k. s ≡ k)
holds_alone s k = (into, λ e. subst (λ (x : ℕ). In x (2 ^ s)) e (is s ∙ only_same s))
  where
    is : (j : ℕ) → bit (2 ^ s) j ≡ only s j
    is j = ap (λ (x : ℕ). bit x j) (sym (one_shl s (suc s) (omega arith))) ∙ bit_shl (suc s) s j (omega arith)

    into : In k (2 ^ s) → s ≡ k
    into i = elim (cases_eq k s) [ inl e ↦ sym e | inr ne ↦ absurd (omega (arith, is k, only_other s k ne)) ]

-- k is in what F makes of some member of w, taken alone
abbrev pub Made : (ℕ → ℕ) → ℕ → ℕ → Type 0
Made F w k = (s : ℕ) × (In s w × In k (F (2 ^ s)))

-- what F makes of a set is what it makes of its members, each taken alone
pub record Memberwise (F : ℕ → ℕ) : Type 0 where
  pub holds : (w : ℕ) → Holds (F w) (Made F w)

-- bit k of what F makes is always 0, or always the same bit of the word
abbrev Reads : (ℕ → ℕ) → ℕ → Type 0
Reads F k = ((w : ℕ) → bit (F w) k ≡ 0) ⊎ ((j : ℕ) × ((w : ℕ) → bit (F w) k ≡ bit w j))

-- what reads its bits so works member by member
reading : {F : ℕ → ℕ} → ((k : ℕ) → Reads F k) → Memberwise F
reading {F} reads = record { holds = λ w k. go w k (reads k) }
  where
    go : (w k : ℕ) → Reads F k → (In k (F w) → Made F w k) × (Made F w k → In k (F w))
    go w k (inl never) = (λ i. absurd (omega (arith, never w)), λ t. absurd (omega (arith, never (2 ^ t.0), t.1.1)))
    go w k (inr (j, is)) = (
      λ i. (j, (sym (is w) ∙ i, is (2 ^ j) ∙ (holds_alone j j).1 refl)),
      λ t. is w ∙ subst (λ (x : ℕ). In x w) ((holds_alone t.0 j).0 (sym (is (2 ^ t.0)) ∙ t.1.1)) t.1.0,
    )

-- the word itself
pub same : Memberwise (λ w. w)
same = reading (λ k. inr (k, λ w. refl))

-- `w >> i`
pub shr : (i : ℕ) → Memberwise (λ w. w / 2 ^ i)
shr i = reading (λ k. inr (i + k, λ w. bit_shr w i k))

-- `w & c`
pub and : (c : ℕ) → Memberwise (λ w. bit_and w c)
and c = reading (λ k. go k (cases_eq (bit c k) 1))
  where
    go : (k : ℕ) → (bit c k ≡ 1) ⊎ (bit c k ≡ 1 → ⊥) → Reads (λ w. bit_and w c) k
    go k (inl one) = inr (k, λ w. omega (arith, bit_bit_and w c k, bit_lt w k))
    go k (inr none) = inl (λ w. omega (arith, bit_bit_and w c k, bit_lt c k))

-- `v | w`, where F makes v and G makes w
pub or : {F G : ℕ → ℕ} → Memberwise F → Memberwise G → Memberwise (λ w. bit_or (F w) (G w))
or {F} {G} f g = record { holds = λ w k. (apart w k, whole w k) }
  where
    both : (w : ℕ) → Holds (bit_or (F w) (G w)) (λ k. In k (F w) ⊎ In k (G w))
    both w = holds_union (F w) (G w)

    apart : (w k : ℕ) → In k (bit_or (F w) (G w)) → Made (λ v. bit_or (F v) (G v)) w k
    apart w k i = elim ((both w k).0 i) [
      | inl a ↦ let t = (f.holds w k).0 a in (t.0, (t.1.0, (both (2 ^ t.0) k).1 (inl t.1.1)))
      | inr b ↦ let t = (g.holds w k).0 b in (t.0, (t.1.0, (both (2 ^ t.0) k).1 (inr t.1.1)))
    ]

    whole : (w k : ℕ) → Made (λ v. bit_or (F v) (G v)) w k → In k (bit_or (F w) (G w))
    whole w k (s, (i, x)) = elim ((both (2 ^ s) k).0 x) [
      | inl a ↦ (both w k).1 (inl ((f.holds w k).1 (s, (i, a))))
      | inr b ↦ (both w k).1 (inr ((g.holds w k).1 (s, (i, b))))
    ]

-- F, and then G
infixl 40 ◌⨾◌
pub ◌⨾◌ : {F G : ℕ → ℕ} → Memberwise F → Memberwise G → Memberwise (λ w. G (F w))
◌⨾◌ {F} {G} f g = record { holds = λ w k. (apart w k, whole w k) }
  where
    apart : (w k : ℕ) → In k (G (F w)) → Made (λ v. G (F v)) w k
    apart w k i =
        let t = (g.holds (F w) k).0 i in
        let u = (f.holds w t.0).0 t.1.0 in
        (u.0, (u.1.0, (g.holds (F (2 ^ u.0)) k).1 (t.0, (u.1.1, t.1.1))))

    whole : (w k : ℕ) → Made (λ v. G (F v)) w k → In k (G (F w))
    whole w k (s, (i, x)) =
        let t = (g.holds (F (2 ^ s)) k).0 x in
        (g.holds (F w) k).1 (t.0, ((f.holds w t.0).1 (s, (i, t.1.0)), t.1.1))

-- `w << i` at 64 bits, which is a product under a mask
pub shl : (i : ℕ) → Memberwise (λ w. (w * 2 ^ i) % 2 ^ 64)
shl i = subst Memberwise (fun_ext (λ w. and_mask (w * 2 ^ i) 64)) (reading (reads i) ⨾ and (2 ^ 64 - 1))
  where
    reads : (j k : ℕ) → Reads (λ w. w * 2 ^ j) k
    reads zero k = inr (k, λ w. ap (λ (x : ℕ). bit x k) (mul-one w))
    reads (suc j) zero = inl (λ w. bit_low (w * 2 ^ suc j) ∙ shifted_even w j)
    reads (suc j) (suc k) = elim (reads j k) [
      | inl never ↦ inl (λ w. half w ∙ never w)
      | inr r ↦ inr (r.0, λ w. half w ∙ r.1 w)
    ]
      where
        half : (w : ℕ) → bit (w * 2 ^ suc j) (suc k) ≡ bit (w * 2 ^ j) k
        half w = sym (bit_half (w * 2 ^ suc j) k) ∙ ap (λ (x : ℕ). bit x k) (shifted_half w j)
