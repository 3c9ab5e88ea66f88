-- What is left of palettes and results is what complete rows use and have. Assumes nothing.
use Rattle.std.proofs.Common.{◌≡◌, ℕ, ◌+◌, ◌-◌, ◌*◌, ◌<◌, ◌≤◌, List, ◌++◌, length, get_or, take, drop, Some, None, Option, sym, refl, ap, ◌∙◌, subst, inl, inr, arith}
use Rattle.std.proofs.Math.Seq.{take-append_seam}
use Rattle.std.proofs.lemmas.List.{get_or_past, get_or_append_left, get_or-append_right, get_or-drop, get_or-take, length-take}
use Rattle.std.proofs.lemmas.Bool.{cases_lt}
use Rattle.std.proofs.lemmas.List.Sums.{sum_by-le}
use Rattle.words.specs.Sets.{In, Holds, size}
use Rattle.words.proofs.Sizes.{size_le}
use Rattle.words.proofs.Membership.{holds_zero}
use Rattle.tallies.specs.Machines.{state}
use Rattle.layers.specs.Rows.{Model, Uses, Yields}
use Rattle.layers.specs.Scratch.{Lives}
use Rattle.record.specs.declared.record.Record.{Record}
use Rattle.record.specs.declared.refusal.Refusal.{Refusal}
use Rattle.record.specs.Replies.{By}
use Rattle.bare.specs.Settling.{parts_of, total}
use Rattle.verdicts.specs.Verdicts.{Palettes, WordHas}
use Rattle.verdicts.proofs.Telling.{live_word, word_live}

-- less said of a refused and of an accepted call
pub by_less : (cause : Option Refusal) {P Q : Refusal → Type 0} {X Y : Type 0} → ((e : Refusal) → P e → Q e) → (X → Y) → By cause P X → By cause Q Y
by_less (Some e) refused accepted t = refused e t
by_less None refused accepted t = accepted t

-- the palettes of a record have no number above 31
pub parts_small : (a : Record) → Palettes (parts_of a)
parts_small a i v member = elim (cases_lt i a.n) [
  | inl inside ↦ omega (arith, a.hatchings, a.drawn i v (rw (get_or-take a.n a.current.palettes i 0 inside) at member))
  | inr past ↦ absurd ((holds_zero v).0 (rw (get_or_past (parts_of a) i 0 (omega (arith, length-take a.n a.current.palettes))) at member))
]

-- palettes have at most 32 hatchings each
pub total_le : (ps : List ℕ) → total ps ≤ length ps * 32
total_le ps = sum_by-le (size 32) 32 ps (λ k d _. size_le 32 (get_or ps k d))

-- palettes whose first n became the front
module _ (old front : List ℕ) (n : ℕ) (size : length front ≡ n) where
  pub front_at : (i : ℕ) → i < n → get_or (front ++ drop n old) i 0 ≡ get_or front i 0
  front_at i l = get_or_append_left front (drop n old) 0 i (omega arith)

  pub behind_at : (i : ℕ) → n ≤ i → get_or (front ++ drop n old) i 0 ≡ get_or old i 0
  behind_at i l = get_or-append_right front (drop n old) n i 0 size l ∙ get_or-drop n old (i - n) 0 ∙ ap (λ (k : ℕ). get_or old k 0) (omega arith)

  pub take_front : take n (front ++ drop n old) ≡ front
  take_front = rw (sym size) (take-append_seam front (drop (length front) old))

module _ (m : Model) (ps : List ℕ) (allowed : ℕ) where
  -- of a palette, the hatchings whose word has a live state
  pub kept_used : (words : List ℕ) → Palettes ps → Lives m ps allowed words → (i r : ℕ) → i < length ps
      → Holds r (λ v. In v (get_or ps i 0) × ((s : ℕ) × WordHas words i v s)) → Holds r (Uses m ps allowed i)
  kept_used words small lives i r inside h v = (
    λ k. let t = (h v).0 k in let l = live_word m ps allowed words small lives i v t.1.0 inside t.1.1 in (l.0, (l.1.0, l.1.1)),
    λ (xs, (whole, at)).
        let s : ℕ = state m.machine (take (i + 1) xs) in
        let chosen : In v (get_or ps i 0) = subst (λ (x : ℕ). In x (get_or ps i 0)) at (whole.chosen i (omega (arith, whole.parts))) in
        (h v).1 (chosen, (s, word_live m ps allowed words small lives i v s inside (xs, (whole, at, refl)))),
  )

  -- of the allowed results, those that some complete row has
  pub kept_had : (had r : ℕ) → Holds had (Yields m ps allowed) → Holds r (λ k. In k allowed × In k had) → Holds r (Yields m ps allowed)
  kept_had had r yields h k = (
    λ i. (yields k).0 ((h k).0 i).1,
    λ (xs, (whole, is)). (h k).1 (subst (λ (x : ℕ). In x allowed) is whole.ends, (yields k).1 (xs, (whole, is))),
  )
