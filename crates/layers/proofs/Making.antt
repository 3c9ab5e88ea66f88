-- What the two loops of layer.rt make, also where what is given for each member is known. Assumes nothing.
use Rattle.std.proofs.Common.{◌≡◌, ℕ, ◌⊎◌, List, get_or, set, replicate, Some, sym, subst, inl, inr, arith}
use Rattle.std.proofs.lemmas.List.{get_or-set_same, get_or-set_other}
use Rattle.std.proofs.lemmas.Bool.{cases_eq}
use Rattle.words.specs.Sets.{In, Holds, HoldsEach, Takes}
use Rattle.words.proofs.Membership.{holds_zero}
use Rattle.words.proofs.Walking.{Filling, none_there, fill_none, fill_more, each_holds}
use Rattle.layers.specs.Layers.{IsLaid, IsUnited}

-- what the loop keeps true of a set that unites what was given: it has the states of a layer that is filled so
abbrev pub Uniting : (ℕ → ℕ → Type 0) → ℕ → ℕ → ℕ → Type 0
Uniting given whole rest all = (layer : List ℕ) × (Filling 32 given whole rest layer × Holds all (λ s. (v : ℕ) × In s (get_or layer v 0)))

module _ (given : ℕ → ℕ → Type 0) (whole : ℕ) where
  pub unite_none : (rest : ℕ) → rest ≡ whole → Uniting given whole rest 0
  unite_none rest e = (
    replicate 32 0,
    (
      fill_none 32 given whole rest e,
      λ s. (λ i. absurd ((holds_zero s).0 i), λ t. absurd ((holds_zero s).0 (subst (In s) (none_there 32 t.0) t.1))),
    ),
  )

  -- the member m gives what r has more than `all`
  pub unite_more : (rest less m x all r : ℕ) → Takes 32 rest (Some m) less → given m x → Holds r (λ s. In s all ⊎ In s x)
      → Uniting given whole rest all → Uniting given whole less r
  unite_more rest less m x all r taken gives joined (layer, (h, holds)) =
      (set layer m x, (fill_more 32 given whole 32 rest less m x layer taken taken.0 gives h, λ s. (λ i. into s ((joined s).0 i), λ t. (joined s).1 (out s t.0 t.1))))
    where
      here : get_or (set layer m x) m 0 ≡ x
      here = get_or-set_same layer m x 0 (omega (arith, taken.0, h.size))

      into : (s : ℕ) → In s all ⊎ In s x → (v : ℕ) × In s (get_or (set layer m x) v 0)
      into s (inl i) = old ((holds s).0 i)
        where
          old : (v : ℕ) × In s (get_or layer v 0) → (v : ℕ) × In s (get_or (set layer m x) v 0)
          old (v, j) = elim (cases_eq v m) [
            | inl e ↦ absurd ((holds_zero s).0 (subst (In s) (h.empty v (λ _. subst (λ (q : ℕ). In q rest) (sym e) taken.1)) j))
            | inr ne ↦ (v, subst (In s) (sym (get_or-set_other layer m v x 0 ne)) j)
          ]
      into s (inr i) = (m, subst (In s) (sym here) i)

      out : (s v : ℕ) → In s (get_or (set layer m x) v 0) → In s all ⊎ In s x
      out s v i = elim (cases_eq v m) [
        | inl e ↦ inr (subst (In s) here (subst (λ (q : ℕ). In s (get_or (set layer m x) q 0)) e i))
        | inr ne ↦ inl ((holds s).1 (v, subst (In s) (get_or-set_other layer m v x 0 ne) i))
      ]

  -- ---- where P says which states are given

  module _ (P : ℕ → ℕ → Type 0) (means : (v x : ℕ) → In v whole → given v x → Holds x (P v)) where
    pub holds_laid : (layer : List ℕ) → IsLaid given whole layer → HoldsEach layer (λ v s. In v whole × P v s)
    holds_laid layer h = each_holds whole layer P (λ v i. means v (get_or layer v 0) i (h.each v i)) h.others

    pub holds_united : (all : ℕ) → IsUnited given whole all → Holds all (λ s. (v : ℕ) × (In v whole × P v s))
    holds_united all (layer, (h, holds)) s = (
      λ i. let t = (holds s).0 i in (t.0, (holds_laid layer h t.0 s).0 t.1),
      λ t. (holds s).1 (t.0, (holds_laid layer h t.0 s).1 t.1),
    )
