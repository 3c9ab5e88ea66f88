-- Each call carries a row and the bare record that it agrees with to ones that agree. Assumes nothing.
use Rattle.std.proofs.Common.{◌≡◌, ◌↔◌, ℕ, ◌-◌, ◌<◌, ◌≤◌, Bool, true, false, not, ◌||◌, eqb, leb, ◌⊎◌, List, [], ◌∷◌, length, get_or, take, set, Some, None, Err, Option, Result, sym, refl, ap, ◌∙◌, subst, arith}
use Rattle.std.proofs.lemmas.List.{length-set, length-take, length-take-le, get_or-take, ext_get_or}
use Rattle.std.proofs.lemmas.Bool.{true≢false, cases_eq, leb-false, or_parts, not-false, eqb-true}
use Rattle.words.specs.Sets.{bit, In}
use Rattle.tallies.specs.Machines.{outcome}
use Rattle.record.specs.declared.moment.Moment.{Moment}
use Rattle.record.specs.declared.record.Record.{Record}
use Rattle.record.specs.declared.refusal.Refusal.{Refusal}
use Rattle.record.specs.declared.refusal.Refusal.TheVariants.{NoRow, WrongSize, NoPart, FullMarks, NoMark}
use Rattle.record.specs.declared.stand.Stand.{Stand}
use Rattle.record.specs.declared.stand.Stand.TheVariants.{Blank, Open}
use Rattle.record.specs.Calls.{SameSize, SameMarks, NothingLaid, Lays, Withdraws, Limits, Saves, GoesBack}
use Rattle.record.specs.Refusals.{checked, out_of_range, lay_refusal, withdraw_refusal, limit_refusal, settle_refusal, mark_refusal, back_refusal}
use Rattle.record.specs.Replies.{By, Replies}
use Rattle.record.specs.Stands.{is_blank, OpensIf}
use Rattle.layers.specs.Rows.{Model}
use Rattle.bare.specs.Agreement.{Judged, MomentAgrees, MarksAgree, Agrees}
use Rattle.bare.specs.Bare.{Bare, Has, blank, without, Lay, Withdraw, Limit, Settle, Mark, Back}
use Rattle.bare.specs.Settling.{Settles, parts_of}
use Rattle.bare.proofs.Agreeing.{iff_back, iff_on, Loses, agrees_laid, with, has_with, agrees_with, agrees_still, agrees_fewer, opens_like, marks_more}
use Rattle.bare.proofs.Striking.{Fewer, SameRows, SomeRow, Struck, holds_less, none_less, none_struck, struck_set, struck_take, fewer_struck, fewer_limited, same_used, some_like}

-- before the first lay
pub agrees_blank : (m : Model) (a : Record) → NothingLaid a → Agrees m blank a
agrees_blank m a nothing =
    agrees_laid m a 0 0 0 [] Blank (λ judged. judged) nothing.n nothing.d refl refl
    (ap (λ (c : Moment). c.results) nothing.current) (ap (λ (c : Moment). c.stand) nothing.current) nothing.marks

-- ---- what becomes of the row's complete rows

module _ (m : Model) (a a' : Record) where
  -- those with v at the part fall
  withdraw_loses : (n part v k : ℕ) → n ≤ length a.current.palettes → length a'.current.palettes ≡ length a.current.palettes → part < n → Withdraws a part v k a'
      → Loses m n (λ xs. get_or xs part 0 ≡ v) (In v (get_or a.current.palettes part 0)) a.current a'.current
  withdraw_loses n part v k room size inside call = record {
    rows = rw call.results (fewer_struck (simp (length-take-le n a.current.palettes room) inside) (struck_take struck n inside));
    opens = call.stand;
    hatchings = none_struck struck;
    results = λ _ k. rw call.results (λ i. i, λ i. i);
  }
    where
      struck : Struck part v a.current.palettes a'.current.palettes
      struck = record { size = size; here = call.palette; others = call.others }

  -- those with the result fall
  limit_loses : (n result k : ℕ) → Limits a result k a' → Loses m n (λ xs. outcome m.machine xs ≡ result) (In result a.current.results) a.current a'.current
  limit_loses n result k call = record {
    rows = rw call.palettes (fewer_limited a.current.results a'.current.results result call.results);
    opens = call.stand;
    hatchings = λ _ i v. rw call.palettes (λ j. j, λ j. j);
    results = none_less a.current.results result a'.current.results call.results;
  }

  -- none falls
  settle_rows : (h k : ℕ) → length a'.current.palettes ≡ length a.current.palettes → Settles m a h k a'
      → SameRows m (parts_of a) a.current.results (take a.n a'.current.palettes) a'.current.results
  settle_rows h k size call = same_used (simp (length-take, size))
      (λ i l. let inside : i < a.n = omega (arith, length-take a.n a.current.palettes) in rw (get_or-take a.n a'.current.palettes i 0 inside) (call.used i inside)) call.had

-- ---- the calls

-- where no cause is found the first test fails, and the later ones find none
checks : (test : Bool) (e : Refusal) (later : Option Refusal) → checked test e later ≡ None → (test ≡ false) × (later ≡ None)
checks true e later none = let z : ◌≡◌ {A = ℕ} 0 1 = cc in absurd (omega arith)
checks false e later none = (refl, none)

module _ (m : Model) (b : Bare) (a a' : Record) (agrees : Agrees m b a) where
  -- a refused call alters neither record, so it is enough to carry them over an accepted one
  carried : {R : Type 0} (r : Result R Refusal) (cause same_cause : Option Refusal) (Accepted : Type 0) (Becomes : Bare → Type 0) → cause ≡ same_cause
      → (same_cause ≡ None → Accepted → (c : Bare) × (Becomes c × Agrees m c a'))
      → By cause (λ e. (r ≡ Err e) × (a' ≡ a)) Accepted
      → (c : Bare) × (By same_cause (λ _. c ≡ b) (Becomes c) × Agrees m c a')
  carried r cause same_cause Accepted Becomes same accept by =
      go same_cause accept (subst (λ (o : Option Refusal). By o (λ e. (r ≡ Err e) × (a' ≡ a)) Accepted) same by)
    where
      go : (o : Option Refusal) → (o ≡ None → Accepted → (c : Bare) × (Becomes c × Agrees m c a')) → By o (λ e. (r ≡ Err e) × (a' ≡ a)) Accepted
          → (c : Bare) × (By o (λ _. c ≡ b) (Becomes c) × Agrees m c a')
      go (Some e) accept refused = (b, (refl, subst (Agrees m b) (sym refused.1) agrees))
      go None accept accepted = accept refl accepted

  -- over one by which both lose the same complete rows
  carried_fewer : (qs : List ℕ) (r : ℕ) (X : List ℕ → Type 0) (P : Type 0) → is_blank b.current.stand ≡ false → P ⊎ (P → ⊥)
      → Loses m b.n X P a.current a'.current → length qs ≡ b.n → Fewer m X b.current.palettes b.current.results qs r
      → (Judged b.current.stand → P ↔ SomeRow m b.current.palettes b.current.results X) → SameSize a a' → SameMarks a a'
      → (c : Bare) × ((Has c b.n b.d qs r b.marks × OpensIf (SomeRow m b.current.palettes b.current.results X) b.current.stand c.current.stand) × Agrees m c a')
  carried_fewer qs r X P laid either loses size fewer exact same_size same_marks = (
    with b now b.marks,
    (
      (
        has_with b now b.marks,
        opens_like P (SomeRow m b.current.palettes b.current.results X) b.current.stand a'.current.stand laid either exact
            (subst (λ (s : Stand). OpensIf P s a'.current.stand) agrees.now.stand loses.opens),
      ),
      agrees_still now agrees same_size same_marks (agrees_fewer agrees.now loses size fewer exact),
    ),
  )
    where
      now : Moment
      now = record { palettes = qs; results = r; stand = a'.current.stand }

  -- lay: both have what is given, and no mark
  pub carries_lay : (n d results : ℕ) (palettes : List ℕ) (r : Result ℕ Refusal)
      → Replies (lay_refusal n d palettes) a r a' (Lays a n d results palettes)
      → (c : Bare) × (Lay n d results palettes b c × Agrees m c a')
  carries_lay n d results palettes r =
      let size : length a'.current.palettes ≡ 60 = a'.places in
      carried r (lay_refusal n d palettes) (lay_refusal n d palettes) _ _ refl
      (λ none (k, (answer, call)).
      let right_size = (checks (out_of_range 60 n || out_of_range 32 d || not (eqb (length palettes) n)) WrongSize _ none).0 in
      let given : length palettes ≡ n = eqb-true (length palettes) n (not-false _ (or_parts (out_of_range 60 n || out_of_range 32 d) _ right_size).1) in
      let whole : length (take n a'.current.palettes) ≡ n = length-take-le n a'.current.palettes (omega arith) in
      let front = ext_get_or 0 (take n a'.current.palettes) palettes (omega arith) (λ i l. get_or-take n a'.current.palettes i 0 (omega arith) ∙ call.places i) in
      (_, (refl, agrees_laid m a' n d results palettes Open (λ judged. judged) call.parts call.hatchings given front call.allowed call.stand call.marks)))

  -- withdraw: the rows with v at the part fall from both; once judged, v stood there exactly where one of them did
  pub carries_withdraw : (part v : ℕ) (r : Result ℕ Refusal)
      → Replies (withdraw_refusal a.current.stand a.n a.d part v) a r a' (Withdraws a part v)
      → (c : Bare) × (Withdraw m part v b c × Agrees m c a')
  carries_withdraw part v r =
      let size : length a.current.palettes ≡ 60 = a.places in
      let size' : length a'.current.palettes ≡ 60 = a'.places in
      carried r (withdraw_refusal a.current.stand a.n a.d part v) (withdraw_refusal b.current.stand b.n b.d part v) _ _ (cc)
      (λ none (k, (answer, call)).
      let laid = checks (is_blank b.current.stand) NoRow _ none in
      let inside : part < b.n = leb-false b.n part (checks (leb b.n part) NoPart _ laid.1).0 in
      let inside' : part < length b.current.palettes = omega (arith, agrees.now.size) in
      carried_fewer (set b.current.palettes part (without (get_or b.current.palettes part 0) v)) b.current.results _ _ laid.0 (cases_eq (bit (get_or a.current.palettes part 0) v) 1)
      (withdraw_loses m a a' b.n part v k (omega arith) (omega arith) inside call)
      (length-set b.current.palettes part (without (get_or b.current.palettes part 0) v) ∙ agrees.now.size)
      (fewer_struck inside' (struck_set part v b.current.palettes inside'))
      (λ judged. agrees.now.hatchings judged part v inside)
      call.same_size call.same_marks)

  -- limit: so it is with the rows that have the result
  pub carries_limit : (k : ℕ) (r : Result ℕ Refusal) → Replies (limit_refusal a.current.stand k) a r a' (Limits a k)
      → (c : Bare) × (Limit m k b c × Agrees m c a')
  carries_limit k r =
      carried r (limit_refusal a.current.stand k) (limit_refusal b.current.stand k) _ _ (cc)
      (λ none (left, (answer, call)).
      carried_fewer b.current.palettes (without b.current.results k) _ _ (checks (is_blank b.current.stand) NoRow _ none).0 (cases_eq (bit a.current.results k) 1)
      (limit_loses m a a' b.n k left call)
      agrees.now.size
      (fewer_limited b.current.results (without b.current.results k) k (holds_less b.current.results k))
      (λ judged. agrees.now.results judged k)
      call.same_size call.same_marks)

  -- settle: the complete rows remain, and the row has exactly what they have
  pub carries_settle : (words : ℕ) (r : Result (ℕ × ℕ) Refusal)
      → Replies (settle_refusal a.current.stand a.n words) a r a' (λ k. Settles m a k.0 k.1)
      → (c : Bare) × (Settle m words b c × Agrees m c a')
  carries_settle words r =
      let size : length a.current.palettes ≡ 60 = a.places in
      let size' : length a'.current.palettes ≡ 60 = a'.places in
      carried r (settle_refusal a.current.stand a.n words) (settle_refusal b.current.stand b.n words) _ _ (cc)
      (λ none (k, (answer, call)).
      let now : Moment = record { palettes = b.current.palettes; results = b.current.results; stand = a'.current.stand } in
      let rows : SameRows m b.current.palettes b.current.results (parts_of a) a.current.results = rw agrees.parts agrees.now.rows in (
        with b now b.marks,
        (
          (has_with b now b.marks, (λ x. call.settled (x.0, (rows x.0).0 x.1), λ impossible. call.dead (λ x. impossible (x.0, (rows x.0).1 x.1)))),
          agrees_still now agrees call.same_size call.same_marks (record {
            stand = refl;
            size = agrees.now.size;
            rows = λ xs. rw agrees.parts at (iff_on (rows xs) (settle_rows m a a' k.0 k.1 (omega arith) call xs));
            hatchings = λ _ i v l. iff_on (call.used i (omega (arith, agrees.parts)) v) (iff_back (some_like _ rows));
            results = λ _ v. iff_on (call.had v) (iff_back (some_like _ rows));
          }),
        ),
      ))

  -- mark: what agrees now is saved by both
  pub carries_mark : (r : Result ℕ Refusal) → Replies (mark_refusal a.current.stand a.marks) a r a' (Saves a)
      → (c : Bare) × (Mark b c × Agrees m c a')
  carries_mark r =
      let size : length a.undo.saved ≡ 8 = a.copies in
      carried r (mark_refusal a.current.stand a.marks) (mark_refusal b.current.stand (length b.marks)) _ _ (cc)
      (λ none (k, (answer, call)).
      let laid = checks (is_blank b.current.stand) NoRow _ none in
      let inside : length b.marks < 8 = leb-false 8 (length b.marks) (checks (leb 8 (length b.marks)) FullMarks _ laid.1).0 in (
        with b b.current (b.current ∷ b.marks),
        (
          refl,
          agrees_with b.current (b.current ∷ b.marks) agrees call.same_size
              (subst (MomentAgrees m b.n b.current) (sym call.same) agrees.now)
              (omega (arith, agrees.held, call.marks))
              (marks_more b.marks a.undo a'.undo (rw agrees.held at call.undo) (omega arith) agrees.now agrees.marks),
        ),
      ))

  -- back: both have again what their youngest mark saved
  pub carries_back : (r : Result ℕ Refusal) → Replies (back_refusal a.current.stand a.marks) a r a' (GoesBack a)
      → (c : Bare) × (Back b c × Agrees m c a')
  carries_back r =
      carried r (back_refusal a.current.stand a.marks) (back_refusal b.current.stand (length b.marks)) _ _ (cc)
      (λ none (k, (answer, call)).
      let laid = checks (is_blank b.current.stand) NoRow _ none in
      let youngest = some_mark b.marks (checks (eqb (length b.marks) 0) NoMark _ laid.1).0 in
      let p = youngest.0 in
      let older = youngest.1.0 in
      let agree : MarksAgree m b.n (p ∷ older) a.undo = rw youngest.1.1 at agrees.marks in
      let left : a.marks - 1 ≡ length older = omega (arith, agrees.held, ap length youngest.1.1) in (
        with b p older,
        (
          (youngest.1.1, refl, refl),
          agrees_with p older agrees call.same_size (rw (call.again, left) agree.0) (call.marks ∙ left) (rw call.undo agree.1),
        ),
      ))
    where
      some_mark : (moments : List Moment) → eqb (length moments) 0 ≡ false → (p : Moment) × ((older : List Moment) × (moments ≡ p ∷ older))
      some_mark [] none = absurd (true≢false none)
      some_mark (p ∷ older) none = (p, (older, refl))

-- how each call carries them over
pub ruleset carrying = (carries_lay, carries_withdraw, carries_limit, carries_settle, carries_mark, carries_back)
