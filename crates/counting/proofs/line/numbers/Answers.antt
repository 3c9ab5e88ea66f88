use Rattle.std.proofs.Common.{◌≡◌, ◌+◌, Err, [], ◌∷◌, ◌++◌, map, length, take, drop, vec_items, sym, ap, ◌∙◌, arith, rules, length-drop}
use Rattle.std.proofs.lemmas.List.{length_push, take_all}
use Rattle.counting.specs.declared.fault.LineFault.TheVariants.{NoNumber}
use Rattle.counting.specs.Lines.{number_of, words}
use Rattle.counting.proofs.Unread.{first_unread, next_read, read_more}
use Rattle.counting.proofs.line.numbers.Goals as goal

pub returns-in_err-n : goal.returns-in_err-n
returns-in_err-n c =
    let ws = words c.args.line.now in
    let ns = vec_items c.loop-word.found in
    let word = c.in-Some.word.now in
    let next = next_read ws (length ns) word (words c.in-Some.behind.now) (sym c.loop-word.invariant.left ∙ c.in-Some.ensures.word) in
    let told : c.from_residual.result ≡ Err (NoNumber c.len.result) = search rules in
    rw told (first_unread ws (length ns) ns c.loop-word.invariant.read word next.0 c.len.result (search rules) (search rules))

pub loop-word-preserved : goal.loop-word-preserved
loop-word-preserved c =
    let ws = words c.args.line.now in
    let ns = vec_items c.loop-word.found in
    let word = c.in-Some.word.now in
    let next = next_read ws (length ns) word (words c.in-Some.behind.now) (sym c.loop-word.invariant.left ∙ c.in-Some.ensures.word) in
    let more = vec_items c.push.new.self in
    let pushed : more ≡ ns ++ (c.in_ok-n.n ∷ []) = search rules in
    let size : length more ≡ length ns + 1 = ap length pushed ∙ length_push ns c.in_ok-n.n in
    record {
      left = next.1 ∙ ap (λ k. drop k ws) (sym size);
      read = ap (λ k. map number_of (take k ws)) size ∙ read_more ws (length ns) ns c.loop-word.invariant.read word next.0 c.in_ok-n.n more (search rules) pushed;
    }

pub returns : goal.returns
returns c =
    let ws = words c.args.line.now in
    let n = length (vec_items c.loop-word.found) in
    let none : words c.loop-word.rest.now ≡ [] = search rules in
    ap (map number_of) (sym (take_all n ws (omega (arith, length-drop n ws, ap length (sym c.loop-word.invariant.left ∙ none))))) ∙ c.loop-word.invariant.read
