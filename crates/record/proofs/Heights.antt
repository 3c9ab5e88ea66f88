-- Palettes that have a hatching at or above d. Assumes nothing.
use Rattle.std.proofs.Common.{◌≡◌, ℕ, zero, suc, ◌^◌, ◌<◌, ◌≤◌, false, List, [], ◌∷◌, get_or, is_some, Some, None, Decides, Option, sym, inl, inr, arith}
use Rattle.std.proofs.lemmas.Nat.{le-div, pow_pos}
use Rattle.std.proofs.lemmas.Bool.{leb-true, le-leb, leb-false, cases_Bool, cases_lt, or_parts}
use Rattle.words.proofs.Bits.{in_below}
use Rattle.words.proofs.Membership.{holds_zero, lowest_above}
use Rattle.words.specs.Sets.{In, Lowest}
use Rattle.record.specs.Refusals.{too_high, any_too_high}

-- of a word of n bits, the test tells whether it has one
pub decides_high : (n d w : ℕ) → w < 2 ^ n → Decides (too_high d w) ((v : ℕ) × ((d ≤ v) × In v w))
decides_high n d w fits = (
  λ t. let r = lowest_above n w d fits (λ e. omega (arith, le-div 1 w (2 ^ d) (pow_pos d) (omega (arith, leb-true (2 ^ d) w t)))) in (_, (r.0, r.1)),
  λ t. elim (cases_lt w (2 ^ d)) [
    | inl less ↦ absurd (omega (arith, in_below d w t.0 less t.1.1, t.1.0))
    | inr more ↦ le-leb (2 ^ d) w more
  ],
)

-- what was looked for at or above d was found
pub found_high : (n d w : ℕ) (found : Option ℕ) → w < 2 ^ n → Lowest (λ v. In v w) d found → is_some found ≡ too_high d w
found_high n d w (Some v) fits low = sym ((decides_high n d w fits).1 (v, (low.0, low.1)))
found_high n d w None fits none = elim (cases_Bool (too_high d w)) [
  | inl yes_high ↦ let t = (decides_high n d w fits).0 yes_high in absurd (none t.0 t.1.0 t.1.1)
  | inr not_high ↦ sym not_high
]

-- of a list of palettes, none of them so high
pub each_low : (d : ℕ) (ws : List ℕ) → any_too_high d ws ≡ false → (i v : ℕ) → In v (get_or ws i 0) → v < d
each_low d [] none i v member = absurd ((holds_zero v).0 member)
each_low d (w ∷ ws) none zero v member =
    in_below d w v (leb-false (2 ^ d) w (or_parts (too_high d w) (any_too_high d ws) none).0) member
each_low d (w ∷ ws) none (suc i) v member = each_low d ws (or_parts (too_high d w) (any_too_high d ws) none).1 i v member
