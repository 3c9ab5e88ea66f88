use Rattle.std.proofs.Common.{◌≡◌, map, length, take, drop, Some, vec_items}
use Rattle.counting.specs.Lines.{number_of, words}
use Rattle.counting.proofs.line.numbers.Given as goal

abbrev pub invariant-loop-word : goal.invariant-loop-word
invariant-loop-word l = record {
  -- the rest has the words that are left
  left : words l.rest ≡ drop (length (vec_items l.found)) (words l.line);
  -- the words before it write the numbers that were found
  read : map number_of (take (length (vec_items l.found)) (words l.line)) ≡ map Some (vec_items l.found);
}

abbrev pub decreases-loop-word : goal.decreases-loop-word
decreases-loop-word l = length l.rest
