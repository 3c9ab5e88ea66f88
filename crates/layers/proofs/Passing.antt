-- One layer from the next to it: what a step of either pass makes of what the words hold. Assumes nothing.
use Rattle.std.proofs.Common.{◌≡◌, ℕ, zero, suc, ◌+◌, ◌*◌, ◌^◌, ◌<◌, true, List, length, get_or, sym, refl, subst, inl, inr, arith}
use Rattle.std.proofs.lemmas.List.{get_or_past}
use Rattle.std.proofs.lemmas.Bool.{cases_eq, cases_lt}
use Rattle.words.specs.Sets.{In, Holds, HoldsEach}
use Rattle.words.proofs.Bits.{in_below}
use Rattle.words.proofs.Membership.{holds_zero}
use Rattle.neighbours.specs.Pairs.{PairInUse}
use Rattle.layers.specs.Layers.{Arrives, Departs, Stored}
use Rattle.layers.specs.Passes.{Reachable, Through}
use Rattle.layers.specs.Rows.{Model}
use Rattle.layers.specs.Scratch.{IsLoaded, Stores}

module _ (m : Model) (ps : List ℕ) where
  -- what can be reached at a part is in its palette
  reachable_chosen : (i v s : ℕ) → Reachable m ps i v s → In v (get_or ps i 0)
  reachable_chosen zero v s t = t.0
  reachable_chosen (suc i) v s t = t.0

  -- and so below 32, where the palettes are words of 32 bits
  pub reachable_small : ((j : ℕ) → get_or ps j 0 < 2 ^ 32) → (i v s : ℕ) → Reachable m ps i v s → v < 32
  reachable_small small i v s t = in_below 32 (get_or ps i 0) v (small i) (reachable_chosen i v s t)

  -- a state that can be reached is one of the tally's
  pub reachable_few : (n : ℕ) → ((v : ℕ) → m.machine.start v < n) → ((s v w : ℕ) → m.machine.step s v w < n) → (i v s : ℕ) → Reachable m ps i v s → s < n
  reachable_few n starts steps zero v s t = omega (arith, starts v, t.1)
  reachable_few n starts steps (suc i) v s (chosen, (u, (pair, (p, (reach, step))))) = omega (arith, steps p u v, step)

  -- a pair of the rule over two palettes side by side
  pair_of : (i v w : ℕ) → suc i < length ps → In v (get_or ps i 0) → In w (get_or ps (suc i) 0) → m.pairs v w ≡ true → PairInUse m.pairs ps v w
  pair_of i v w inside a b pair = ((i, (omega arith, a)), ((suc i, (inside, b)), pair))

  -- one layer forward
  reach_step : (i : ℕ) (layer next before : List ℕ) → suc i < length ps → HoldsEach before (λ w v. PairInUse m.pairs ps v w)
      → HoldsEach layer (Reachable m ps i)
      → HoldsEach next (λ w s. In w (get_or ps (suc i) 0) × Arrives m.machine layer (λ v. In v (get_or before w 0) × In v (get_or ps i 0)) w s)
      → HoldsEach next (Reachable m ps (suc i))
  reach_step i layer next before inside table reached made w s = (λ member. into ((made w s).0 member), λ t. (made w s).1 (out t))
    where
      into : In w (get_or ps (suc i) 0) × Arrives m.machine layer (λ v. In v (get_or before w 0) × In v (get_or ps i 0)) w s → Reachable m ps (suc i) w s
      into (chosen, (v, ((near, here), (p, (state, step))))) = (chosen, (v, (((table w v).0 near).1.1, (p, ((reached v p).0 state, step)))))

      out : Reachable m ps (suc i) w s → In w (get_or ps (suc i) 0) × Arrives m.machine layer (λ v. In v (get_or before w 0) × In v (get_or ps i 0)) w s
      out (chosen, (v, (pair, (p, (reach, step))))) =
          let here = reachable_chosen i v p reach in
          (chosen, (v, (((table w v).1 (pair_of i v w inside here chosen pair), here), (p, ((reached v p).1 reach, step)))))

  -- the same, where the next part is called k
  pub reach_more : (i k : ℕ) (layer next before : List ℕ) → suc i ≡ k → k < length ps → HoldsEach before (λ w v. PairInUse m.pairs ps v w)
      → HoldsEach layer (Reachable m ps i)
      → HoldsEach next (λ w s. In w (get_or ps k 0) × Arrives m.machine layer (λ v. In v (get_or before w 0) × In v (get_or ps i 0)) w s)
      → HoldsEach next (Reachable m ps k)
  reach_more i k layer next before e inside table reached =
      subst (λ (q : ℕ). HoldsEach next (λ w s. In w (get_or ps q 0) × Arrives m.machine layer (λ v. In v (get_or before w 0) × In v (get_or ps i 0)) w s) → HoldsEach next (Reachable m ps q))
      e (reach_step i layer next before (omega arith) table reached)

  module _ (allowed : ℕ) where
    -- the last layer
    pub through_last : (i n ending : ℕ) (layer kept : List ℕ) → HoldsEach layer (Reachable m ps i) → ((v s : ℕ) → Reachable m ps i v s → s < n)
        → Holds ending (λ s. (s < n) × In (m.machine.result s) allowed)
        → HoldsEach kept (λ v s. In v (get_or ps i 0) × (In s (get_or layer v 0) × In s ending))
        → HoldsEach kept (Through m ps allowed 0 i)
    through_last i n ending layer kept reached small ends made v s = (
      λ member. let t = (made v s).0 member in ((reached v s).0 t.1.0, ((ends s).0 t.1.1).1),
      λ t. (made v s).1 (reachable_chosen i v s t.0, ((reached v s).1 t.0, (ends s).1 (small v s t.0, t.1))),
    )

    -- one layer backward
    through_step : (i d : ℕ) (layer live kept after : List ℕ) → suc i < length ps → HoldsEach after (PairInUse m.pairs ps)
        → HoldsEach layer (Reachable m ps i) → HoldsEach live (Through m ps allowed d (suc i))
        → HoldsEach kept (λ v s. In v (get_or ps i 0) × Departs m.machine (get_or layer v 0) live (λ w. In w (get_or after v 0) × In w (get_or ps (suc i) 0)) v s)
        → HoldsEach kept (Through m ps allowed (suc d) i)
    through_step i d layer live kept after inside table reached lives made v s = (λ member. into ((made v s).0 member), λ t. (made v s).1 (out t))
      where
        into : In v (get_or ps i 0) × Departs m.machine (get_or layer v 0) live (λ w. In w (get_or after v 0) × In w (get_or ps (suc i) 0)) v s
            → Through m ps allowed (suc d) i v s
        into (chosen, (w, ((near, there), (state, lands)))) =
            ((reached v s).0 state, (w, (there, ((table v w).0 near).1.1, ((lives w (m.machine.step s v w)).0 lands).1)))

        out : Through m ps allowed (suc d) i v s
            → In v (get_or ps i 0) × Departs m.machine (get_or layer v 0) live (λ w. In w (get_or after v 0) × In w (get_or ps (suc i) 0)) v s
        out (reach, (w, (there, pair, rest))) =
            let chosen = reachable_chosen i v s reach in (
              chosen,
              (
                w,
                (
                  ((table v w).1 (pair_of i v w inside chosen there pair), there),
                  ((reached v s).1 reach, (lives w (m.machine.step s v w)).1 ((there, (v, (pair, (s, (reach, refl))))), rest)),
                ),
              ),
            )

    -- the same, where the next part is called k, and e parts are left after part i
    pub through_more : (i k d e : ℕ) (layer live kept after : List ℕ) → suc i ≡ k → suc d ≡ e → k < length ps → HoldsEach after (PairInUse m.pairs ps)
        → HoldsEach layer (Reachable m ps i) → HoldsEach live (Through m ps allowed d k)
        → HoldsEach kept (λ v s. In v (get_or ps i 0) × Departs m.machine (get_or layer v 0) live (λ w. In w (get_or after v 0) × In w (get_or ps k 0)) v s)
        → HoldsEach kept (Through m ps allowed e i)
    through_more i k d e layer live kept after next more inside table reached =
        subst (λ (r : ℕ). HoldsEach live (Through m ps allowed d k)
        → HoldsEach kept (λ v s. In v (get_or ps i 0) × Departs m.machine (get_or layer v 0) live (λ w. In w (get_or after v 0) × In w (get_or ps k 0)) v s)
        → HoldsEach kept (Through m ps allowed r i))
        more
        (subst (λ (q : ℕ). HoldsEach live (Through m ps allowed d q)
        → HoldsEach kept (λ v s. In v (get_or ps i 0) × Departs m.machine (get_or layer v 0) live (λ w. In w (get_or after v 0) × In w (get_or ps q 0)) v s)
        → HoldsEach kept (Through m ps allowed (suc d) i))
        next (through_step i d layer live kept after (omega arith) table reached))

-- ---- the words of a part as a layer of their own, and back

-- a layer that was loaded holds what the words of its part hold
pub loaded : {words layer : List ℕ} {i : ℕ} → IsLoaded i words layer → (P : ℕ → ℕ → Type 0) → ((v s : ℕ) → P v s → v < 32) → Stored words i P
    → HoldsEach layer P
loaded {words} {layer} {i} load P small h v = elim (cases_lt v 32) [
  | inl inside ↦ subst (λ (w : ℕ). Holds w (P v)) (sym (load.same v inside)) (h v inside)
  | inr past ↦ subst (λ (w : ℕ). Holds w (P v)) (sym (get_or_past layer v 0 (omega (arith, load.size))))
      (λ s. (λ i. absurd ((holds_zero s).0 i), λ p. absurd (omega (arith, small v s p))))
]

-- the words of a part where no layer was stored hold what they held
pub stored_other : {old new layer : List ℕ} {i : ℕ} → Stores i layer old new → (P : ℕ → ℕ → Type 0) (j : ℕ) → (j ≡ i → ⊥) → Stored old j P → Stored new j P
stored_other {old} {new} {layer} {i} store P j other h v inside = subst (λ (w : ℕ). Holds w (P v)) (sym same) (h v inside)
  where
    same : get_or new (32 * j + v) 0 ≡ get_or old (32 * j + v) 0
    same = elim (cases_lt j i) [ inl l ↦ store.below (32 * j + v) (omega arith) | inr l ↦ store.above (32 * j + v) (omega arith) ]

-- those of the part where one was stored hold what the layer holds
pub stored : {old new layer : List ℕ} {i : ℕ} → Stores i layer old new → (P : ℕ → ℕ → ℕ → Type 0) → HoldsEach layer (P i)
    → (j : ℕ) → ((j ≡ i → ⊥) → Stored old j (P j)) → Stored new j (P j)
stored {old} {new} {layer} {i} store P h j others = elim (cases_eq j i) [
  | inl e ↦ subst (λ (q : ℕ). Stored new q (P q)) (sym e) (λ v inside. subst (λ (w : ℕ). Holds w (P i v)) (sym (store.here v inside)) (h v))
  | inr ne ↦ stored_other store (P j) j ne (others ne)
]
