-- Loops that build sets. Assumes nothing.
use Rattle.std.proofs.Common.{◌≡◌, ℕ, ◌+◌, ◌<◌, ◌⊎◌, List, length, get_or, set, replicate, Some, sym, refl, ◌∙◌, subst, inl, inr, arith}
use Rattle.std.proofs.lemmas.List.{length-set, get_or-set_same, get_or-set_other, get_or-replicate, get_or_past, length-replicate}
use Rattle.std.proofs.lemmas.Bool.{cases_eq, cases_lt}
use Rattle.words.specs.Sets.{bit, In, Holds, HoldsEach, Takes}
use Rattle.words.proofs.Membership.{holds_zero}

-- the same set, said otherwise
pub holds_like : (w : ℕ) (P Q : ℕ → Type 0) → Holds w P → ((k : ℕ) → (P k → Q k) × (Q k → P k)) → Holds w Q
holds_like w P Q h same k = (λ i. (same k).0 ((h k).0 i), λ q. (h k).1 ((same k).1 q))

-- m put into a set of n bits, where P is true of m alone
pub joined_one : (n all r m : ℕ) (P : ℕ → Type 0) → Holds r (λ j. In j all ⊎ ((j ≡ m) × (m < n))) → m < n
    → ((k : ℕ) → (P k → k ≡ m) × (k ≡ m → P k)) → Holds r (λ k. In k all ⊎ P k)
joined_one n all r m P h small only k = (
  λ i. elim ((h k).0 i) [ inl j ↦ inl j | inr e ↦ inr ((only k).1 e.0) ],
  λ t. (h k).1 (elim t [ inl j ↦ inl j | inr p ↦ inr ((only k).0 p, small) ]),
)

-- ---- a loop over all numbers in turn, which keeps those of which P is true

module _ (P : ℕ → Type 0) where
  pub sift_none : Holds 0 (λ k. (k < 0) × P k)
  sift_none k = (λ i. absurd ((holds_zero k).0 i), λ t. absurd (omega (arith, t.0)))

  -- P is true of i, which is put into a set of n bits
  pub sift_take : (n i all r : ℕ) → i < n → P i → Holds r (λ j. In j all ⊎ ((j ≡ i) × (i < n))) → Holds all (λ k. (k < i) × P k) → Holds r (λ k. (k < i + 1) × P k)
  sift_take n i all r small passes joined h k = (
    λ j. elim ((joined k).0 j) [ inl old ↦ let t = (h k).0 old in (omega (arith, t.0), t.1) | inr e ↦ (omega (arith, e.0), subst P (sym e.0) passes) ],
    λ t. (joined k).1 (elim (cases_eq k i) [ inl e ↦ inr (e, small) | inr ne ↦ inl ((h k).1 (omega (arith, t.0), t.1)) ]),
  )

  -- P is not true of i
  pub sift_skip : (i all : ℕ) → (P i → ⊥) → Holds all (λ k. (k < i) × P k) → Holds all (λ k. (k < i + 1) × P k)
  sift_skip i all no_i h k = (
    λ j. let t = (h k).0 j in (omega (arith, t.0), t.1),
    λ t. elim (cases_eq k i) [ inl e ↦ absurd (no_i (subst P e t.1)) | inr ne ↦ (h k).1 (omega (arith, t.0), t.1) ],
  )

-- ---- a loop over the members of a set

-- what the loop still has to go through is of the whole set
abbrev pub Within : ℕ → ℕ → Type 0
Within rest whole = (k : ℕ) → In k rest → In k whole

within_all : (rest whole : ℕ) → rest ≡ whole → Within rest whole
within_all rest whole e = subst (Within rest) e (λ k i. i)

within_more : (n whole rest less s : ℕ) → Takes n rest (Some s) less → Within rest whole → Within less whole
within_more n whole rest less s taken within k i = within k ((taken.3 k).0 i).0

-- a member that the loop has left behind is s, or was so before
past : (n rest less s p : ℕ) → Takes n rest (Some s) less → (In p less → ⊥) → (p ≡ s) ⊎ (In p rest → ⊥)
past n rest less s p taken gone = elim (cases_eq p s) [
  | inl e ↦ inl e
  | inr ne ↦ inr (λ i. gone ((taken.3 p).1 (i, ne)))
]

-- ---- a set that gathers what each member gives: F p k says that the member p gives k

-- a member that the loop has left behind gives k
abbrev Gathered : (ℕ → ℕ → Type 0) → ℕ → ℕ → ℕ → Type 0
Gathered F whole rest k = (p : ℕ) × (In p whole × ((In p rest → ⊥) × F p k))

-- what the loop keeps true of the set that it gathers
abbrev pub Gathering : (ℕ → ℕ → Type 0) → ℕ → ℕ → ℕ → Type 0
Gathering F whole rest all = Within rest whole × Holds all (Gathered F whole rest)

module _ (F : ℕ → ℕ → Type 0) (whole : ℕ) where
  pub gather_none : (rest : ℕ) → rest ≡ whole → Gathering F whole rest 0
  gather_none rest e = (
    within_all rest whole e,
    λ k. (λ i. absurd ((holds_zero k).0 i), λ t. absurd (t.1.1.0 (subst (In t.0) (sym e) t.1.0))),
  )

  -- the member s gives what r has more than `all`
  pub gather_more : (n rest less s all r : ℕ) → Takes n rest (Some s) less → Holds r (λ k. In k all ⊎ F s k)
      → Gathering F whole rest all → Gathering F whole less r
  gather_more n rest less s all r taken joined (within, h) = (
    within_more n whole rest less s taken within,
    λ k. (λ i. into k ((joined k).0 i), λ t. (joined k).1 (out k t (past n rest less s t.0 taken t.1.1.0))),
  )
    where
      into : (k : ℕ) → In k all ⊎ F s k → Gathered F whole less k
      into k (inl i) = let t = (h k).0 i in (t.0, (t.1.0, (λ j. t.1.1.0 ((taken.3 t.0).0 j).0, t.1.1.1)))
      into k (inr f) = (s, (within s taken.1, (λ j. ((taken.3 s).0 j).1 refl, f)))

      out : (k : ℕ) (t : Gathered F whole less k) → (t.0 ≡ s) ⊎ (In t.0 rest → ⊥) → In k all ⊎ F s k
      out k t (inl e) = inr (subst (λ (p : ℕ). F p k) e t.1.1.1)
      out k t (inr gone) = inl ((h k).1 (t.0, (t.1.0, (gone, t.1.1.1))))

  pub gather_all : (rest all : ℕ) → ((k : ℕ) → In k rest → ⊥) → Gathering F whole rest all → Holds all (λ k. (p : ℕ) × (In p whole × F p k))
  gather_all rest all done (within, h) k = (λ i. let t = (h k).0 i in (t.0, (t.1.0, t.1.1.1)), λ t. (h k).1 (t.0, (t.1.0, (done t.0, t.1.1))))

-- each member s gives the number f s, which is put into a set of n bits
pub gather_value : (f : ℕ → ℕ) (whole n rest less s all r m : ℕ) → Takes n rest (Some s) less → f s ≡ m → m < n
    → Holds r (λ j. In j all ⊎ ((j ≡ m) × (m < n))) → Gathering (λ p k. f p ≡ k) whole rest all → Gathering (λ p k. f p ≡ k) whole less r
gather_value f whole n rest less s all r m taken is small joined h =
    gather_more (λ p k. f p ≡ k) whole n rest less s all r taken
    (joined_one n all r m (λ k. f s ≡ k) joined small (λ k. (λ e. sym e ∙ is, λ e. is ∙ sym e))) h

-- ---- a list of m sets that gets one for each member: given v x says that x may be the set of the member v

-- what the loop keeps true: the members that it has left behind have what was given for them, the others the empty set
pub record Filling (m : ℕ) (given : ℕ → ℕ → Type 0) (whole rest : ℕ) (sets : List ℕ) : Type 0 where
  pub within : Within rest whole
  pub size : length sets ≡ m
  pub laid : (v : ℕ) → In v whole → (In v rest → ⊥) → given v (get_or sets v 0)
  pub empty : (v : ℕ) → (In v whole → In v rest) → get_or sets v 0 ≡ 0

-- a list with empty sets alone
pub none_there : (n v : ℕ) → get_or (replicate {A = ℕ} n 0) v 0 ≡ 0
none_there n v = elim (cases_lt v n) [ inl l ↦ get_or-replicate n v 0 0 l | inr l ↦ get_or_past (replicate n 0) v 0 (rw (length-replicate {A = ℕ} n 0) l) ]

module _ (m : ℕ) (given : ℕ → ℕ → Type 0) (whole : ℕ) where
  pub fill_none : (rest : ℕ) → rest ≡ whole → Filling m given whole rest (replicate m 0)
  fill_none rest e = record {
    within = λ v i. subst (In v) e i;
    size = length-replicate {A = ℕ} m 0;
    laid = λ v i gone. absurd (gone (subst (In v) (sym e) i));
    empty = λ v h. none_there m v;
  }

  -- the member s, of a set of n bits, gets the set x
  pub fill_more : (n rest less s x : ℕ) (sets : List ℕ) → Takes n rest (Some s) less → s < m → given s x
      → Filling m given whole rest sets → Filling m given whole less (set sets s x)
  fill_more n rest less s x sets taken small gives h = record {
    within = λ v i. h.within v ((taken.3 v).0 i).0;
    size = length-set sets s x ∙ h.size;
    laid = λ v i gone. elim (cases_eq v s) [
      | inl e ↦ rw (e, get_or-set_same sets s x 0 fits) gives
      | inr ne ↦ rw (get_or-set_other sets s v x 0 ne) (h.laid v i (λ j. gone ((taken.3 v).1 (j, ne))))
    ];
    empty = λ v kept. elim (cases_eq v s) [
      | inl e ↦ absurd (((taken.3 v).0 (kept (h.within v (subst (λ (q : ℕ). In q rest) (sym e) taken.1)))).1 e)
      | inr ne ↦ get_or-set_other sets s v x 0 ne ∙ h.empty v (λ i. ((taken.3 v).0 (kept i)).0)
    ];
  }
    where
      fits : s < length sets
      fits = omega (arith, small, h.size)

-- sets of which the members' are known and the others are empty
pub each_holds : (whole : ℕ) (sets : List ℕ) (P : ℕ → ℕ → Type 0) → ((v : ℕ) → In v whole → Holds (get_or sets v 0) (P v))
    → ((v : ℕ) → (In v whole → ⊥) → get_or sets v 0 ≡ 0) → HoldsEach sets (λ v s. In v whole × P v s)
each_holds whole sets P members others v s = (
  λ i. elim (cases_eq (bit whole v) 1) [
    | inl there ↦ (there, (members v there s).0 i)
    | inr not_there ↦ absurd ((holds_zero s).0 (subst (In s) (others v not_there) i))
  ],
  λ t. (members v t.0 s).1 t.1,
)

-- and so where the loop has left all members behind
pub fill_holds : (m : ℕ) (F : ℕ → ℕ → Type 0) (whole rest : ℕ) (sets : List ℕ) → ((k : ℕ) → In k rest → ⊥)
    → Filling m (λ v x. Holds x (F v)) whole rest sets → HoldsEach sets (λ v k. In v whole × F v k)
fill_holds m F whole rest sets done h =
    each_holds whole sets F (λ v i. h.laid v i (done v)) (λ v no. h.empty v (λ i. absurd (no i)))
