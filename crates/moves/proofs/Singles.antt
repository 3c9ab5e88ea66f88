-- What works member by member is right where it is right of each number alone, and that is computed. Assumes nothing.
use Rattle.std.proofs.Common.{◌≡◌, ℕ, zero, suc, ◌/◌, ◌^◌, ◌<◌, Bool, true, ◌&&◌, eqb, ltb, sym, refl, ◌∙◌, subst, inl, inr, arith}
use lib.Bits.{bit_and}
use Rattle.std.proofs.lemmas.Bool.{eqb-true, ltb-true, and_parts, cases_eq}
use Rattle.words.specs.Sets.{bit, In, Holds}
use Rattle.words.proofs.Bits.{shown_bit, only, only_same, only_other, in_below}
use Rattle.moves.specs.Maps.{Image, Preimage}
use Rattle.moves.proofs.Memberwise.{Memberwise, holds_alone}

-- the test passes at each number below n
abbrev pub all : ℕ → (ℕ → Bool) → Bool
all zero p = true
all (suc n) p = p n && all n p

all_at : (n : ℕ) (p : ℕ → Bool) → all n p ≡ true → (k : ℕ) → k < n → p k ≡ true
all_at zero p t k l = absurd (omega arith)
all_at (suc n) p t k l =
    let parts : (p n ≡ true) × (all n p ≡ true) = and_parts (p n) (all n p) t in
    elim (cases_eq k n) [
      | inl e ↦ subst (λ (x : ℕ). p x ≡ true) (sym e) parts.0
      | inr ne ↦ all_at n p parts.1 k (omega arith)
    ]

-- what F makes of a set, where a test tells of each number alone what F makes of it
moved : {F : ℕ → ℕ} (P : ℕ → ℕ → Type 0) (test : ℕ → ℕ → Bool) → Memberwise F
    → ((s x : ℕ) → test s x ≡ true → Holds x (P s)) → all 64 (λ s. test s (F (2 ^ s))) ≡ true
    → (w : ℕ) → w < 2 ^ 64 → Holds (F w) (λ k. (s : ℕ) × (In s w × P s k))
moved {F} P test by told right w fits k = (
  λ i. let t = (by.holds w k).0 i in (t.0, (t.1.0, (alone t.0 t.1.0).0 t.1.1)),
  λ t. (by.holds w k).1 (t.0, (t.1.0, (alone t.0 t.1.0).1 t.1.1)),
)
  where
    alone : (s : ℕ) → In s w → (In k (F (2 ^ s)) → P s k) × (P s k → In k (F (2 ^ s)))
    alone s i = told s (F (2 ^ s)) (all_at 64 (λ n. test n (F (2 ^ n))) right s (in_below 64 w s fits i)) k

-- whether x is the set of what f makes of s
abbrev pub takes : (ℕ → ℕ) → ℕ → ℕ → Bool
takes f s x = eqb x (2 ^ f s)

takes_holds : (f : ℕ → ℕ) (s x : ℕ) → takes f s x ≡ true → Holds x (λ k. f s ≡ k)
takes_holds f s x t = subst (λ (y : ℕ). Holds y (λ k. f s ≡ k)) (sym (eqb-true x (2 ^ f s) t)) (holds_alone (f s))

-- whether x is the set of the numbers below 64 of which f makes t
abbrev pub gathers : (ℕ → ℕ) → ℕ → ℕ → Bool
gathers f t x = ltb x (2 ^ 64) && all 64 (λ s. eqb (bit_and (x / 2 ^ s) 1) (only t (f s)))

gathers_holds : (f : ℕ → ℕ) (t x : ℕ) → gathers f t x ≡ true → Holds x (λ s. (s < 64) × (f s ≡ t))
gathers_holds f t x g s = (into, λ h. shown h.0 ∙ subst (λ (y : ℕ). only t y ≡ 1) (sym h.1) (only_same t))
  where
    each : ℕ → Bool
    each k = eqb (bit_and (x / 2 ^ k) 1) (only t (f k))

    parts : (ltb x (2 ^ 64) ≡ true) × (all 64 each ≡ true)
    parts = and_parts (ltb x (2 ^ 64)) (all 64 each) g

    shown : s < 64 → bit x s ≡ only t (f s)
    shown l = sym (shown_bit x s) ∙ eqb-true (bit_and (x / 2 ^ s) 1) (only t (f s)) (all_at 64 each parts.1 s l)

    into : In s x → (s < 64) × (f s ≡ t)
    into i =
        let l : s < 64 = in_below 64 x s (ltb-true x (2 ^ 64) parts.0) i in
        (l, elim (cases_eq (f s) t) [ inl e ↦ e | inr ne ↦ absurd (omega (arith, shown l, only_other t (f s) ne)) ])

-- F makes the image under f of each set
pub holds_image : (f : ℕ → ℕ) {F : ℕ → ℕ} → Memberwise F → all 64 (λ s. takes f s (F (2 ^ s))) ≡ true
    → (w : ℕ) → w < 2 ^ 64 → Holds (F w) (Image f w)
holds_image f by right = moved (λ s k. f s ≡ k) (takes f) by (takes_holds f) right

-- F makes the preimage under f of each set
pub holds_preimage : (f : ℕ → ℕ) {F : ℕ → ℕ} → Memberwise F → all 64 (λ t. gathers f t (F (2 ^ t))) ≡ true
    → (w : ℕ) → w < 2 ^ 64 → Holds (F w) (Preimage f w)
holds_preimage f by right w fits s =
    let m = moved (λ t s. (s < 64) × (f s ≡ t)) (gathers f) by (gathers_holds f) right w fits s in
    (λ i. let t = m.0 i in (t.1.1.0, subst (λ (y : ℕ). In y w) (sym t.1.1.1) t.1.0), λ h. m.1 (f s, (h.1, (h.0, refl))))
