use Rattle.std.proofs.Common.{◌≡◌, ℕ, true, List, [], ◌∷◌, ◌++◌, get_or, Result, Ok, Err, MatchOption, ap, arith, rules}
use Rattle.std.specs.Result.{OkIff, result_ok}
use lib.Utf8.{encode}
use Rattle.std.specs.Str.{all_ascii_digits}
use Rattle.std.proofs.lemmas.Str.Parse.{IsNumeralModel, numerals_by_fold, parse_plain}
use Rattle.counting.specs.Lines.{WholeNumber, decimal_after, decimal_value}
use Rattle.counting.proofs.line.whole_number.Goals as goal

-- the texts of digits and what they write, as std's lemmas on `parse` want them
own : IsNumeralModel (λ ds. all_ascii_digits ds ≡ true) decimal_value
own = numerals_by_fold (λ ds. all_ascii_digits ds ≡ true) (search rules) decimal_after (search rules)

-- a text that does not start with a plus
no_plus : (bs : List ℕ) → ((rest : List ℕ) → bs ≡ encode 43 ++ rest → ⊥) → get_or bs 0 0 ≡ 43 → ⊥
unfolding encode
no_plus [] h e = omega arith
no_plus (b ∷ bs) h e = h bs (ap (λ (x : ℕ). x ∷ bs) e)

-- what is read, as an option
told : {E : Type 0} (P : Type 0) (v : ℕ) (r : Result ℕ E) → OkIff r P v → MatchOption (result_ok r) (P → ⊥) (λ k. P × (k ≡ v))
told P v (Ok n) read = read
told P v (Err e) read = read

pub returns : goal.returns
returns c =
    let bs = c.args.text.now in
    let read = parse_plain own 32 bs c.parse.result c.parse.ensures.value.0 (no_plus bs c.if-starts_with.ensures.cases) in
    let number = told (WholeNumber bs) (decimal_value bs) c.parse.result read in
    search rules
