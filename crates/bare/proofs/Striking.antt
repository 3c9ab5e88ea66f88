-- What is struck from a set, and which complete rows are left then. Assumes nothing.
use Rattle.std.proofs.Common.{◌≡◌, ◌↔◌, ℕ, zero, suc, ◌+◌, ◌-◌, ◌/◌, ◌^◌, ◌<◌, ◌≤◌, Bool, cond, eqb, List, length, get_or, take, set, sym, refl, ap, ◌∙◌, subst, subst₂, inl, inr, pow-suc, arith}
use lib.Dec.{eqb-suc-suc}
use Rattle.std.proofs.lemmas.List.{length-set, length-take, get_or-set_same, get_or-set_other, get_or-take, get_or_past}
use Rattle.std.proofs.lemmas.Bool.{cases_eq, cases_lt, cond_both, eqb-true, eqb-false}
use Rattle.words.specs.Sets.{bit, In, Holds}
use Rattle.words.proofs.Bits.{bit_lt, bit_low, bit_half, bit_past, only, only_same, only_other}
use Rattle.tallies.specs.Machines.{outcome}
use Rattle.record.specs.Calls.{Without}
use Rattle.layers.specs.Rows.{Model, Complete, Uses, Yields}
use Rattle.bare.specs.Bare.{without}

-- ---- one number struck from a set

-- a set is no less, as a number, than the power of two of a member
pow_le : (w k : ℕ) → In k w → 2 ^ k ≤ w
pow_le w k member = elim (cases_lt w (2 ^ k)) [
  | inl less ↦ absurd (omega (arith, bit_past k w k less (omega arith)))
  | inr more ↦ more
]

-- less that power, it has one bit less
bit_less : (k w j : ℕ) → In k w → bit (w - 2 ^ k) j + only k j ≡ bit w j
bit_less zero w zero member = omega (arith, bit_low (w - 1), bit_low w)
bit_less zero w (suc j) member =
    let half : (w - 1) / 2 ≡ w / 2 = omega (arith, bit_low w) in
    omega (arith, bit_half (w - 1) j, bit_half w j, ap (λ (x : ℕ). bit x j) half, only_other 0 (suc j) (omega arith))
bit_less (suc k) w zero member = omega (arith, only_other (suc k) 0 (omega arith), bit_low (w - 2 ^ suc k), bit_low w, pow-suc 2 k, pow_le w (suc k) member)
bit_less (suc k) w (suc j) member =
    let same : only (suc k) (suc j) ≡ only k j = ap (λ (t : Bool). cond t 1 0) (eqb-suc-suc j k) in
    let half : (w - 2 ^ suc k) / 2 ≡ w / 2 - 2 ^ k = omega (arith, pow-suc 2 k) in
    omega (arith, bit_half (w - 2 ^ suc k) j, bit_half w j, ap (λ (x : ℕ). bit x j) half, same, bit_less k (w / 2) j (bit_half w k ∙ member))

-- without a member, or as it is where the number is no member
pub holds_less : (w k : ℕ) → Without w k (without w k)
holds_less w k = cond_both (eqb (bit w k) 1) (w - 2 ^ k) w (Without w k)
    (λ t. struck (eqb-true (bit w k) 1 t))
    (λ f j. (λ i. (i, λ e. eqb-false (bit w k) 1 f (subst (λ (x : ℕ). In x w) e i)), λ t. t.0))
  where
    struck : In k w → Without w k (w - 2 ^ k)
    struck member j = (
      λ i. (omega (arith, bit_less k w j member, bit_lt w j), λ e. omega (arith, bit_less k w j member, bit_lt w j, ap (only k) e, only_same k)),
      λ t. omega (arith, bit_less k w j member, only_other k j t.1, t.0),
    )

-- what is not in a set takes nothing with it
pub none_less : (w v r : ℕ) → Without w v r → (In v w → ⊥) → (u : ℕ) → In u r ↔ In u w
none_less w v r struck none u = (λ i. ((struck u).0 i).0, λ i. (struck u).1 (i, λ e. none (subst (λ (x : ℕ). In x w) e i)))

-- ---- one hatching struck from one palette

-- the palettes ps become qs: the part is without v
pub record Struck (part v : ℕ) (ps qs : List ℕ) : Type 0 where
  pub size : length qs ≡ length ps
  pub here : Without (get_or ps part 0) v (get_or qs part 0)
  pub others : (i : ℕ) → (i ≡ part → ⊥) → get_or qs i 0 ≡ get_or ps i 0

module _ {part v : ℕ} {ps qs : List ℕ} (struck : Struck part v ps qs) where
  -- what stands then
  struck_at : (i u : ℕ) → In u (get_or qs i 0) ↔ (In u (get_or ps i 0) × ((i ≡ part) × (u ≡ v) → ⊥))
  struck_at i u = elim (cases_eq i part) [
    | inl e ↦ rw e (λ j. let t = (struck.here u).0 j in (t.0, λ x. t.1 x.1), λ t. (struck.here u).1 (t.0, λ x. t.1 (refl, x)))
    | inr ne ↦ rw (struck.others i ne) (λ j. (j, λ x. ne x.0), λ t. t.0)
  ]

  -- where v did not stand, nothing falls
  pub none_struck : (In v (get_or ps part 0) → ⊥) → (i u : ℕ) → In u (get_or qs i 0) ↔ In u (get_or ps i 0)
  none_struck none i u = (
    λ j. ((struck_at i u).0 j).0,
    λ j. (struck_at i u).1 (j, λ e. none (subst₂ (λ (k x : ℕ). In x (get_or ps k 0)) e.0 e.1 j)),
  )

  -- so it is with the first n palettes
  pub struck_take : (n : ℕ) → part < n → Struck part v (take n ps) (take n qs)
  struck_take n inside = record {
    size = simp (length-take, struck.size);
    here = rw (get_or-take n ps part 0 inside, get_or-take n qs part 0 inside) struck.here;
    others = λ i ne. elim (cases_lt i n) [
      | inl l ↦ get_or-take n qs i 0 l ∙ struck.others i ne ∙ sym (get_or-take n ps i 0 l)
      | inr l ↦ get_or_past (take n qs) i 0 (simp length-take (omega arith)) ∙ sym (get_or_past (take n ps) i 0 (simp length-take (omega arith)))
    ];
  }

-- as the bare record does it
pub struck_set : (part v : ℕ) (ps : List ℕ) → part < length ps → Struck part v ps (set ps part (without (get_or ps part 0) v))
struck_set part v ps inside = record {
  size = length-set ps part (without (get_or ps part 0) v);
  here = rw (get_or-set_same ps part (without (get_or ps part 0) v) 0 inside) (holds_less (get_or ps part 0) v);
  others = λ i ne. get_or-set_other ps part i (without (get_or ps part 0) v) 0 ne;
}

-- ---- the complete rows

-- the same complete rows
abbrev pub SameRows : Model → List ℕ → ℕ → List ℕ → ℕ → Type 0
SameRows m ps r qs t = (xs : List ℕ) → Complete m ps r xs ↔ Complete m qs t xs

-- some complete row of which X is true
abbrev pub SomeRow : Model → List ℕ → ℕ → (List ℕ → Type 0) → Type 0
SomeRow m ps r X = (xs : List ℕ) × (Complete m ps r xs × X xs)

-- the complete rows of which X is not true are left
abbrev pub Fewer : Model → (List ℕ → Type 0) → List ℕ → ℕ → List ℕ → ℕ → Type 0
Fewer m X ps r qs t = (xs : List ℕ) → Complete m qs t xs ↔ (Complete m ps r xs × (X xs → ⊥))

module _ {m : Model} where
  -- a complete row is complete still where all that it has still stands
  complete_still : {ps qs : List ℕ} {r t : ℕ} {xs : List ℕ} → length qs ≡ length ps
      → ((i : ℕ) → i < length ps → In (get_or xs i 0) (get_or ps i 0) → In (get_or xs i 0) (get_or qs i 0))
      → (In (outcome m.machine xs) r → In (outcome m.machine xs) t) → Complete m ps r xs → Complete m qs t xs
  complete_still size stands allowed whole = record {
    some = whole.some;
    parts = whole.parts ∙ sym size;
    chosen = λ i l. stands i (omega (arith, whole.parts)) (whole.chosen i l);
    joined = whole.joined;
    ends = allowed whole.ends;
  }

  -- of the same rows the same is true
  pub some_like : {ps qs : List ℕ} {r t : ℕ} (X : List ℕ → Type 0) → SameRows m ps r qs t → SomeRow m ps r X ↔ SomeRow m qs t X
  some_like X same = (λ x. (x.0, ((same x.0).0 x.1.0, x.1.1)), λ x. (x.0, ((same x.0).1 x.1.0, x.1.1)))

  -- where X is true of no complete row, none falls
  pub none_fewer : {ps qs : List ℕ} {r t : ℕ} (X : List ℕ → Type 0) → Fewer m X ps r qs t → (SomeRow m ps r X → ⊥) → SameRows m ps r qs t
  none_fewer X fewer none xs = (λ whole. (fewer xs).1 (whole, λ x. none (xs, (whole, x))), λ whole. ((fewer xs).0 whole).0)

  -- a part without v: the rows that have v there fall
  pub fewer_struck : {ps qs : List ℕ} {r part v : ℕ} → part < length ps → Struck part v ps qs → Fewer m (λ xs. get_or xs part 0 ≡ v) ps r qs r
  fewer_struck {ps} {qs} {r} {part} {v} inside struck xs = (
    λ whole. (
      complete_still (sym struck.size) (λ i l x. ((at i).0 x).0) (λ i. i) whole,
      λ e. ((at part).0 (whole.chosen part (omega (arith, whole.parts, struck.size)))).1 (refl, e),
    ),
    λ t. complete_still struck.size (λ i l x. (at i).1 (x, λ e. t.1 (subst (λ (j : ℕ). get_or xs j 0 ≡ v) e.0 e.1))) (λ i. i) t.0,
  )
    where
      at : (i : ℕ) → In (get_or xs i 0) (get_or qs i 0) ↔ (In (get_or xs i 0) (get_or ps i 0) × ((i ≡ part) × (get_or xs i 0 ≡ v) → ⊥))
      at i = struck_at struck i (get_or xs i 0)

  -- the results without k: the rows that have it fall
  pub fewer_limited : {ps : List ℕ} (r t k : ℕ) → Without r k t → Fewer m (λ xs. outcome m.machine xs ≡ k) ps r ps t
  fewer_limited r t k struck xs = (
    λ whole. (complete_still refl (λ i l x. x) (λ i. (at.0 i).0) whole, (at.0 whole.ends).1),
    λ x. complete_still refl (λ i l x. x) (λ i. at.1 (i, x.1)) x.0,
  )
    where
      at : In (outcome m.machine xs) t ↔ (In (outcome m.machine xs) r × (outcome m.machine xs ≡ k → ⊥))
      at = struck (outcome m.machine xs)

  -- where only what some complete row has is left, none falls
  pub same_used : {ps qs : List ℕ} {r t : ℕ} → length qs ≡ length ps → ((i : ℕ) → i < length ps → Holds (get_or qs i 0) (Uses m ps r i))
      → Holds t (Yields m ps r) → SameRows m ps r qs t
  same_used {ps} {qs} {r} {t} size used had xs = (
    λ whole. complete_still size (λ i l x. (used i l (get_or xs i 0)).1 (xs, (whole, refl))) (λ i. (had (outcome m.machine xs)).1 (xs, (whole, refl))) whole,
    complete_still (sym size)
        (λ i l x. let y = (used i (omega arith) (get_or xs i 0)).0 x in subst (λ (u : ℕ). In u (get_or ps i 0)) y.1.1 (y.1.0.chosen i (omega (arith, y.1.0.parts))))
        (λ i. let y = (had (outcome m.machine xs)).0 i in subst (λ (u : ℕ). In u r) y.1.1 y.1.0.ends),
  )
