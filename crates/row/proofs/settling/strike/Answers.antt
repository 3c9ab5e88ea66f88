use Rattle.std.proofs.Common.{◌≡◌, ℕ, suc, ◌-◌, ◌<◌, List, length, get_or, refl, inl, inr, arith, rules}
use Rattle.std.proofs.lemmas.List.{get_or-take, length-take-le}
use Rattle.std.proofs.lemmas.Bool.{cases_lt}
use Rattle.words.proofs.Sizes.{size_within}
use Rattle.layers.specs.Rows.{Model, model}
use Rattle.bare.specs.Settling.{parts_of}
use Rattle.row.proofs.Keeping.{kept_had, kept_used, parts_small, front_at, behind_at, take_front}
use Rattle.row.proofs.settling.strike.Goals as goal

pub invariant_of-row-clause-drawn : goal.invariant_of-row-clause-drawn
invariant_of-row-clause-drawn g c = λ i v member.
    let a = c.args.row.now in
    let old : List ℕ = a.current.palettes in
    let front : List ℕ = c.narrow-hatchings.new.palettes in
    let wide : length old ≡ 60 = a.places in
    let parts : length (parts_of a) ≡ a.n = length-take-le a.n old (omega (arith, a.parts)) in
    let size : length front ≡ a.n = omega (arith, parts, c.narrow-hatchings.ensures.size) in
    elim (cases_lt i a.n) [
      | inl l ↦ a.drawn i v (rw (get_or-take a.n old i 0 l) at ((c.narrow-hatchings.ensures.palettes i (omega (arith, parts)) v).0 (rw (front_at old front a.n size i l) at member)).0)
      | inr l ↦ a.drawn i v (rw (behind_at old front a.n size i l) at member)
    ]

pub returns : goal.returns
returns g c p lives =
    let a = c.args.row.now in
    let m : Model = model p (g.T.Tally.machine c.args.tally.now) in
    let ps : List ℕ = parts_of a in
    let old : List ℕ = a.current.palettes in
    let front : List ℕ = c.narrow-hatchings.new.palettes in
    let live = c.args.live.now in
    let narrowed = c.narrow-hatchings.ensures in
    let wide : length old ≡ 60 = a.places in
    let parts : length ps ≡ a.n = length-take-le a.n old (omega (arith, a.parts)) in
    let whole : length front ≡ a.n = omega (arith, parts, narrowed.size) in
    let some : 0 < length ps = omega (arith, c.requires, parts) in
    let last : suc (a.n - 1) ≡ length ps = omega (arith, parts, c.requires) in
    let had = c.results_at.ensures.yields m ps a.current.results (parts_small a) lives refl last in
    let within = size_within 64 c.intersection-had.result a.current.results (λ k j. ((c.intersection-had.ensures k).0 j).0) in
    let left = kept_had m ps a.current.results c.results_at.result c.intersection-had.result had c.intersection-had.ensures in
    let judged = c.judgement.ensures.stand m ps a.current.results (parts_small a) lives some in
    record {
      used = λ i l. let inside : i < length ps = omega (arith, parts) in
          rw (front_at old front a.n whole i l) (kept_used m ps a.current.results live (parts_small a) lives i (get_or front i 0) inside (narrowed.palettes i inside));
      others = behind_at old front a.n whole;
      had = search rules;
      settled = judged.0;
      dead = judged.1;
      fallen_hatchings = rw (take_front old front a.n whole) narrowed.fallen;
      fallen_results = omega (arith, c.count.ensures, c.count-2.ensures, within);
      same_size = record { n = refl; d = refl };
      same_marks = record { marks = refl; undo = refl };
    }
