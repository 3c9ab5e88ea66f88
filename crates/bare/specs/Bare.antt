-- The bare record: what the calls' arguments alone make of a record from which settle strikes nothing. Assumes nothing.
use Rattle.std.specs.Prelude.{◌≡◌, ℕ, ◌-◌, ◌^◌, if◌then◌else◌, List, [], ◌∷◌, length, ◌==◌, slice_index, slice_set}
use Rattle.words.specs.Sets.{bit}
use Rattle.record.specs.declared.moment.Moment.{Moment}
use Rattle.record.specs.declared.stand.Stand.TheVariants.{Blank, Open, Settled, Dead}
use Rattle.record.specs.Refusals.{lay_refusal, withdraw_refusal, limit_refusal, settle_refusal, mark_refusal, back_refusal}
use Rattle.record.specs.Replies.{By}
use Rattle.record.specs.Stands.{OpensIf}
use Rattle.layers.specs.Rows.{Model, Possible, Uses, Yields}

-- a palette for each part and none behind, now and in each mark, of which the youngest comes first
pub record Bare : Type 0 where
  pub n : ℕ
  pub d : ℕ
  pub current : Moment
  pub marks : List Moment

-- before the first lay
abbrev pub blank : Bare
blank = record { n = 0; d = 0; current = record { palettes = []; results = 0; stand = Blank }; marks = [] }

-- the set w without k
abbrev pub without : ℕ → ℕ → ℕ
without w k = if bit w k == 1 then w - 2 ^ k else w

-- all but the stand: what is left of n, d, palettes, results and marks
pub record Has (b : Bare) (n d : ℕ) (palettes : List ℕ) (results : ℕ) (marks : List Moment) : Type 0 where
  pub parts : b.n ≡ n
  pub hatchings : b.d ≡ d
  pub places : b.current.palettes ≡ palettes
  pub allowed : b.current.results ≡ results
  pub held : b.marks ≡ marks

-- Each call: b becomes c. A call with a cause of refusal alters nothing.

-- lay: it is as given, open, and without a mark
abbrev pub Lay : ℕ → ℕ → ℕ → List ℕ → Bare → Bare → Type 0
Lay n d results palettes b c =
    By (lay_refusal n d palettes) (λ _. c ≡ b)
    (c ≡ record { n = n; d = d; current = record { palettes = palettes; results = results; stand = Open }; marks = [] })

-- withdraw: the part is without v; open where some complete row used v there
abbrev pub Withdraw : Model → ℕ → ℕ → Bare → Bare → Type 0
Withdraw m part v b c =
    By (withdraw_refusal b.current.stand b.n b.d part v) (λ _. c ≡ b)
    (Has c b.n b.d (slice_set b.current.palettes part (without (slice_index b.current.palettes part) v)) b.current.results b.marks
    × OpensIf (Uses m b.current.palettes b.current.results part v) b.current.stand c.current.stand)

-- limit: the results are without k; open where some complete row had k
abbrev pub Limit : Model → ℕ → Bare → Bare → Type 0
Limit m k b c =
    By (limit_refusal b.current.stand k) (λ _. c ≡ b)
    (Has c b.n b.d b.current.palettes (without b.current.results k) b.marks
    × OpensIf (Yields m b.current.palettes b.current.results k) b.current.stand c.current.stand)

-- settle, with a scratch of so many words: nothing is struck; settled where there is a complete row, and else dead
abbrev pub Settle : Model → ℕ → Bare → Bare → Type 0
Settle m words b c =
    By (settle_refusal b.current.stand b.n words) (λ _. c ≡ b)
    (Has c b.n b.d b.current.palettes b.current.results b.marks
    × ((Possible m b.current.palettes b.current.results → c.current.stand ≡ Settled) × ((Possible m b.current.palettes b.current.results → ⊥) → c.current.stand ≡ Dead)))

-- mark: what it has is saved
abbrev pub Mark : Bare → Bare → Type 0
Mark b c =
    By (mark_refusal b.current.stand (length b.marks)) (λ _. c ≡ b)
    (c ≡ record { n = b.n; d = b.d; current = b.current; marks = b.current ∷ b.marks })

-- back: it has what the youngest mark saved, and that mark is dropped
abbrev pub Back : Bare → Bare → Type 0
Back b c =
    By (back_refusal b.current.stand (length b.marks)) (λ _. c ≡ b)
    ((b.marks ≡ c.current ∷ c.marks) × (c.n ≡ b.n) × (c.d ≡ b.d))
