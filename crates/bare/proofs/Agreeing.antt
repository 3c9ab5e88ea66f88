-- What a row has agrees with what the bare record has, and goes on to where both lose the same complete rows. Assumes nothing.
use Rattle.std.proofs.Common.{◌≡◌, ◌↔◌, ℕ, ◌<◌, false, ◌⊎◌, List, [], ◌∷◌, length, get_or, take, set, sym, refl, ◌∙◌, subst, inl, inr, arith}
use Rattle.std.proofs.lemmas.List.{get_or-set_same, get_or-set_other}
use Rattle.std.proofs.lemmas.Bool.{true≢false}
use Rattle.words.specs.Sets.{In}
use Rattle.tallies.specs.Machines.{outcome}
use Rattle.record.specs.declared.record.Record.{Record}
use Rattle.record.specs.declared.stand.Stand.{Stand}
use Rattle.record.specs.declared.stand.Stand.TheVariants.{Blank, Open, Settled, Dead}
use Rattle.record.specs.declared.moment.Moment.{Moment}
use Rattle.record.specs.declared.undo.UndoTable.{UndoTable}
use Rattle.record.specs.Calls.{SameSize, SameMarks}
use Rattle.record.specs.Copies.{no_copy, copy_of}
use Rattle.record.specs.Stands.{is_blank, OpensIf}
use Rattle.layers.specs.Rows.{Model}
use Rattle.bare.specs.Agreement.{Judged, MomentAgrees, MarksAgree, Agrees}
use Rattle.bare.specs.Bare.{Bare, Has}
use Rattle.bare.proofs.Striking.{Fewer, SameRows, SomeRow, some_like, none_fewer}

-- ---- exactly when

pub iff_back : {P Q : Type 0} → (P ↔ Q) → Q ↔ P
iff_back same = (same.1, same.0)

pub iff_on : {P Q R : Type 0} → (P ↔ Q) → (Q ↔ R) → P ↔ R
iff_on first second = (λ p. second.0 (first.0 p), λ r. first.1 (second.1 r))

-- ---- stands

-- a stand that is still judged has not been opened
judged_still : (P : Type 0) (s t : Stand) → OpensIf P s t → Judged t → (P → ⊥) × Judged s
judged_still P s t opens judged = (none, subst Judged (opens.1 none) judged)
  where
    none : P → ⊥
    none p = subst Judged (opens.0 p) judged

-- of an open row nothing need be known
pub opens_like : (P Q : Type 0) (s t : Stand) → is_blank s ≡ false → P ⊎ (P → ⊥) → (Judged s → P ↔ Q) → OpensIf P s t → OpensIf Q s t
opens_like P Q Blank t laid either exact opens = absurd (true≢false laid)
opens_like P Q Open t laid either exact opens = let opened : t ≡ Open = elim either [ inl p ↦ opens.0 p | inr none ↦ opens.1 none ] in (λ _. opened, λ _. opened)
opens_like P Q Settled t laid either exact opens = (λ q. opens.0 ((exact tt).1 q), λ none. opens.1 (λ p. none ((exact tt).0 p)))
opens_like P Q Dead t laid either exact opens = (λ q. opens.0 ((exact tt).1 q), λ none. opens.1 (λ p. none ((exact tt).0 p)))

-- ---- moments

-- a row of n parts has s and then t: it loses the complete rows of which X is true, and is open where P is; where P is not, nothing falls
pub record Loses (m : Model) (n : ℕ) (X : List ℕ → Type 0) (P : Type 0) (s t : Moment) : Type 0 where
  pub rows : Fewer m X (take n s.palettes) s.results (take n t.palettes) t.results
  pub opens : OpensIf P s.stand t.stand
  pub hatchings : (P → ⊥) → (i v : ℕ) → In v (get_or t.palettes i 0) ↔ In v (get_or s.palettes i 0)
  pub results : (P → ⊥) → (k : ℕ) → In k t.results ↔ In k s.results

-- it agrees still where the bare record loses the same rows, and P tells of a judged row whether it loses any
pub agrees_fewer : {m : Model} {n : ℕ} {p : Moment} {s t : Moment} {qs : List ℕ} {r : ℕ} {X : List ℕ → Type 0} {P : Type 0}
    → MomentAgrees m n p s → Loses m n X P s t → length qs ≡ n → Fewer m X p.palettes p.results qs r
    → (Judged p.stand → P ↔ SomeRow m p.palettes p.results X)
    → MomentAgrees m n (record { palettes = qs; results = r; stand = t.stand }) t
agrees_fewer {m} {n} {p} {s} {t} {qs} {r} {X} {P} agrees loses size fewer exact = record {
  stand = refl;
  size = size;
  rows = λ xs. (
    λ whole. let x = (fewer xs).0 whole in (loses.rows xs).1 ((agrees.rows xs).0 x.0, x.1),
    λ whole. let x = (loses.rows xs).0 whole in (fewer xs).1 ((agrees.rows xs).1 x.0, x.1),
  );
  hatchings = λ judged i v l. iff_on (loses.hatchings (was judged).0 i v)
      (iff_on (agrees.hatchings (was judged).1 i v l) (some_like (λ xs. get_or xs i 0 ≡ v) (still judged)));
  results = λ judged k. iff_on (loses.results (was judged).0 k)
      (iff_on (agrees.results (was judged).1 k) (some_like (λ xs. outcome m.machine xs ≡ k) (still judged)));
}
  where
    was : Judged t.stand → (P → ⊥) × Judged p.stand
    was judged = let old = judged_still P s.stand t.stand loses.opens judged in (old.0, subst Judged agrees.stand old.1)

    still : Judged t.stand → SameRows m p.palettes p.results qs r
    still judged = none_fewer X fewer (λ x. (was judged).0 ((exact (was judged).1).1 x))

-- ---- marks

-- marks agree with a table that has the same copies of them
marks_like : (m : Model) (n : ℕ) (moments : List Moment) (undo undo' : UndoTable)
    → ((k : ℕ) → k < length moments → copy_of undo' k ≡ copy_of undo k) → MarksAgree m n moments undo → MarksAgree m n moments undo'
marks_like m n [] undo undo' same agree = tt
marks_like m n (p ∷ older) undo undo' same agree = (
  subst (MomentAgrees m n p) (sym (same (length older) (omega arith))) agree.0,
  marks_like m n older undo undo' (λ k l. same k (omega arith)) agree.1,
)

-- one more mark, and its copy put behind those that are held
pub marks_more : {m : Model} {n : ℕ} {p : Moment} (moments : List Moment) {s : Moment} (undo undo' : UndoTable)
    → undo'.saved ≡ set undo.saved (length moments) s → length moments < length undo.saved
    → MomentAgrees m n p s → MarksAgree m n moments undo → MarksAgree m n (p ∷ moments) undo'
marks_more {m} {n} moments {s} undo undo' put room now agree = (
  rw (put, get_or-set_same undo.saved (length moments) s no_copy room) now,
  marks_like m n moments undo undo' (λ k l. rw (put, get_or-set_other undo.saved (length moments) k s no_copy (omega arith))) agree,
)

-- ---- records

-- a row with no mark that is neither settled nor dead agrees with what was laid
pub agrees_laid : (m : Model) (a : Record) (n d results : ℕ) (palettes : List ℕ) (stand : Stand) → (Judged stand → ⊥) → a.n ≡ n → a.d ≡ d
    → length palettes ≡ n → take n a.current.palettes ≡ palettes → a.current.results ≡ results → a.current.stand ≡ stand → a.marks ≡ 0
    → Agrees m (record { n = n; d = d; current = record { palettes = palettes; results = results; stand = stand }; marks = [] }) a
agrees_laid m a n d results palettes stand unjudged parts hatchings size front allowed stands held = record {
  parts = parts;
  hatchings = hatchings;
  now = record {
    stand = stands;
    size = size;
    rows = λ xs. rw (front, allowed) (λ i. i, λ i. i);
    hatchings = λ judged. absurd (unjudged judged);
    results = λ judged. absurd (unjudged judged);
  };
  held = held;
  marks = tt;
}

-- a bare record with what p has and with those marks, and else as it was
abbrev pub with : Bare → Moment → List Moment → Bare
with b p marks = record { n = b.n; d = b.d; current = p; marks = marks }

-- it has them
pub has_with : (b : Bare) (p : Moment) (marks : List Moment) → Has (with b p marks) b.n b.d p.palettes p.results marks
has_with b p marks = record { parts = refl; hatchings = refl; places = refl; allowed = refl; held = refl }

-- a row of the same size agrees with it where all that was changed agrees
pub agrees_with : {m : Model} {b : Bare} {a a' : Record} (p : Moment) (marks : List Moment) → Agrees m b a → SameSize a a'
    → MomentAgrees m b.n p a'.current → a'.marks ≡ length marks → MarksAgree m b.n marks a'.undo → Agrees m (with b p marks) a'
agrees_with p marks agrees size now held agree =
    record { parts = size.n ∙ agrees.parts; hatchings = size.d ∙ agrees.hatchings; now = now; held = held; marks = agree }

-- so does one of the same marks too
pub agrees_still : {m : Model} {b : Bare} {a a' : Record} (p : Moment) → Agrees m b a → SameSize a a' → SameMarks a a'
    → MomentAgrees m b.n p a'.current → Agrees m (with b p b.marks) a'
agrees_still {m} {b} p agrees size same now =
    agrees_with p b.marks agrees size now (same.marks ∙ agrees.held)
    (subst (MarksAgree m b.n b.marks) (sym same.undo) agrees.marks)
