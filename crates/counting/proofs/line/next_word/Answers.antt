use Rattle.std.proofs.Common.{◌≡◌, ◌<◌, true, false, [], ◌∷◌, length, get_or, sym, ap, ◌∙◌, ap₂, rules}
use Rattle.counting.specs.Lines.{blank, words}
use Rattle.counting.proofs.Splitting.{Front, first_word, no_words, words_behind_blanks}
use Rattle.counting.proofs.line.next_word.Goals as goal

pub returns-in_err-start-clause-word : goal.returns-in_err-start-clause-word
returns-in_err-start-clause-word c =
    let none : words c.args.text.now ≡ [] = no_words c.args.text.now (search rules) in
    search rules

pub returns-clause-word : goal.returns-clause-word
returns-clause-word c =
    let text = c.args.text.now in
    let rest = c.split_at.result.1.now in
    let start = c.in_ok-start.start in
    let end = c.unwrap_or-end.result in
    let blanks : Front true text start = search rules in
    let inked : Front false rest end = search rules in
    let stops : end < length rest → blank (get_or rest end 0) ≡ true = search rules in
    let some : 0 < end = search rules in
    let two = c.split_at-2.ensures in
    words_behind_blanks text start blanks ∙ ap words (sym c.split_at.ensures.back) ∙ first_word rest end some (search rules) inked stops
    ∙ ap₂ (λ w r. w ∷ words r) (sym two.front) (sym two.back)
