-- The members of a set, asked one after the other until one passes. Assumes nothing.
use Rattle.std.proofs.Common.{Option, Some, None, true, false, ◌≡◌, ℕ, Bool, List, [], ◌∷◌, Bor, IfSome, sym, subst, inl, inr}
use Rattle.std.proofs.lemmas.Bool.{cases_eq}
use Rattle.std.specs.Iterator.{FindsItem, YieldsThen}
use Rattle.std.specs.List.{FoldsTo}
use Rattle.std.specs.Fn.{CalledAt, Mut}
use Rattle.words.specs.Sets.{In, Takes}
use Rattle.verdicts.specs.Verdicts.{IsLowest}

-- the lowest member that passes is so of the whole set, where the member x, taken out of it, does not pass
lowest_more : (Says : ℕ → Bool → Type 0) (n whole less x : ℕ) (r : Option ℕ) → Takes n whole (Some x) less → Says x false
    → IsLowest Says less r → IsLowest Says whole r
lowest_more Says n whole less x r taken fails low = by_result r low
  where
    passes_by : (u : ℕ) → In u whole → (In u less → Says u false) → Says u false
    passes_by u i others = elim (cases_eq u x) [
      | inl e ↦ subst (λ (q : ℕ). Says q false) (sym e) fails
      | inr ne ↦ others ((taken.3 u).1 (i, ne))
    ]

    by_result : (r : Option ℕ) → IsLowest Says less r → IsLowest Says whole r
    by_result (Some k) h = record {
      found = (((taken.3 k).0 h.found.0).0, h.found.1);
      passed = λ u l i. passes_by u i (h.passed u l);
      none = h.none;
    }
    by_result None h = record { found = h.found; passed = h.passed; none = λ u i. passes_by u i (h.none u) }

module _ {S : Type 0} (n : ℕ) (word : S → ℕ) where
  -- a call takes the lowest member
  abbrev Steps : S → Option ℕ → S → Type 0
  Steps s r t = Takes n (word s) r (word t)

  module _ {F : Type 0} {g : Mut F (Bor ℕ × Unit {0}) Bool} (f : F) (u : S) (r : Option ℕ) (Says : ℕ → Bool → Type 0)
      (yes : (x : ℕ) (q : F) → CalledAt g f x true q → Says x true) (fails : (x : ℕ) (q : F) → CalledAt g f x false q → (q ≡ f) × Says x false) where
    -- so where the next call ends the run
    lowest_now : (s : S) (o : Option ℕ) → Steps s o u → IfSome o (λ x. (h : F) × CalledAt g f x true h) → IsLowest Says (word s) o
    lowest_now s (Some x) step last = record { found = (step.1, yes x last.0 last.1); passed = λ k l i. absurd (step.2 k l i); none = tt }
    lowest_now s None step last = record { found = tt; passed = tt; none = λ k i. absurd (step k i) }

    -- and where calls that found no member to pass come first
    lowest_after : (xs : List ℕ) (s : S) (j : F) → YieldsThen Steps s xs r u → FoldsTo (λ p x q. CalledAt g p x false q) f xs j
        → IfSome r (λ x. (h : F) × CalledAt g j x true h) → IsLowest Says (word s) r
    lowest_after [] s j (t, e, step) folds last =
        lowest_now s r (subst (λ k. Steps k r u) (sym e) step) (subst (λ k. IfSome r (λ x. (h : F) × CalledAt g k x true h)) (sym folds) last)
    lowest_after (x ∷ xs) s j (t, (k, taken, more), step) (q, called, folds) last =
        lowest_more Says n (word s) (word k) x r taken (fails x q called).1
        (lowest_after xs k j (t, more, step) (subst (λ p. FoldsTo (λ p x q. CalledAt g p x false q) p xs j) (fails x q called).0 folds) last)

    -- what `find` answers is the lowest that passes
    pub lowest_found : (s : S) → FindsItem Steps g s f r u → IsLowest Says (word s) r
    lowest_found s (xs, j, yields, folds, last) = lowest_after xs s j yields folds last
