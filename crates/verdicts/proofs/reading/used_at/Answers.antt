use Rattle.std.proofs.Common.{ℕ, ◌+◌, ◌<◌, slice_index, sym, subst, arith, rules}
use Rattle.std.proofs.lemmas.Bool.{both_ways}
use Rattle.words.specs.Sets.{In, Holds}
use Rattle.words.proofs.Walking.{sift_none, sift_take, sift_skip}
use Rattle.verdicts.specs.Verdicts.{WordHas}
use Rattle.verdicts.proofs.Telling.{uses_of}
use Rattle.verdicts.proofs.reading.used_at.Goals as goal
use Rattle.verdicts.proofs.reading.used_at.Goals.{then-has_state, else-has_state}

pub loop-v-init : goal.loop-v-init
loop-v-init c = sift_none _

pub loop-v-preserved : goal.loop-v-preserved
loop-v-preserved c =
    let v = c.loop-v.v in
    let P : ℕ → Type 0 = λ k. (s : ℕ) × In s (slice_index c.words_at-states-items.result.now k) in
    let G : ℕ → Type 0 = λ all. Holds all (λ k. (k < v + 1) × P k) in
    elim c.if-has_state.branch [
      | then-has_state w ↦ subst G (sym w.used-is) (sift_take P 32 v c.loop-v.used w.with-used.result (omega arith)
          (search rules) w.with-used.ensures c.loop-v.invariant)
      | else-has_state w ↦ subst G (sym w.used-is) (sift_skip P v c.loop-v.used (λ f. both_ways c.has_state.result w.if-has_state.false (c.has_state.ensures.1 f))
          c.loop-v.invariant)
    ]

pub returns-clause-uses : goal.returns-clause-uses
returns-clause-uses c =
    let live = c.args.live.now in
    let used : Holds c.loop-v.used (λ v. (s : ℕ) × WordHas live c.args.part v s) = search rules in
    λ m ps allowed small lives inside. uses_of m ps allowed live small lives c.args.part c.loop-v.used inside used
