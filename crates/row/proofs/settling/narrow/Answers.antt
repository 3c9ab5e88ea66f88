use Rattle.std.proofs.Common.{◌≡◌, ℕ, ◌<◌, List, length, get_or, set, sym, ◌∙◌, subst, below_more, arith, rules}
use Rattle.std.proofs.lemmas.List.{get_or-set_same, get_or-set_other}
use Rattle.std.proofs.lemmas.List.Sums.{sum_by-set}
use Rattle.words.specs.Sets.{In, Holds, size}
use Rattle.words.proofs.Sizes.{size_within}
use Rattle.verdicts.specs.Verdicts.{WordHas}
use Rattle.row.proofs.settling.narrow.Goals as goal

pub loop-i-preserved : goal.loop-i-preserved
loop-i-preserved c =
    let i = c.loop-i.i in
    let old : List ℕ = c.args.palettes.now in
    let ps : List ℕ = c.loop-i.palettes in
    let rest : ℕ = c.intersection-rest.result in
    let inside : i < length ps = search rules in
    let here : get_or (set ps i rest) i 0 ≡ rest = get_or-set_same ps i rest 0 inside in
    let was : get_or ps i 0 ≡ get_or old i 0 = c.loop-i.invariant.1 i (omega arith) in
    let P : ℕ → ℕ → Type 0 = λ j v. In v (get_or old j 0) × ((s : ℕ) × WordHas c.args.live.now j v s) in
    let used : Holds c.used_at.result (λ v. (s : ℕ) × WordHas c.args.live.now i v s) = search rules in
    let narrowed : Holds rest (P i) = λ v. (
      λ k. let t = (c.intersection-rest.ensures v).0 k in (subst (In v) was t.0, (used v).0 t.1),
      λ t. (c.intersection-rest.ensures v).1 (subst (In v) (sym was) t.0, (used v).1 t.1),
    ) in
    let fell = size_within 32 rest (get_or ps i 0) (λ k j. ((c.intersection-rest.ensures k).0 j).0) in (
      below_more _ _
          (λ j l. subst (λ (w : ℕ). Holds w (P j)) (sym (get_or-set_other ps i j rest 0 (omega arith))) (c.loop-i.invariant.0 j l))
          (subst (λ (w : ℕ). Holds w (P i)) (sym here) narrowed),
      λ j l. get_or-set_other ps i j rest 0 (omega arith) ∙ c.loop-i.invariant.1 j (omega arith),
      omega (arith, sum_by-set (size 32) ps i rest 0 inside, c.loop-i.invariant.2, c.count.ensures, c.count-in-loop-i.ensures, fell),
    )
