use Rattle.std.proofs.Common.{◌≡◌, min, take, drop}
use Rattle.std.specs.Str.{all_ascii_digits}
use Rattle.counting.specs.Lines.{decimal_value}
use Rattle.counting.proofs.line.number.Given as goal

abbrev pub invariant-loop-b : goal.invariant-loop-b
invariant-loop-b l =
    (all_ascii_digits (drop l.b-index l.word) ≡ all_ascii_digits l.word) × (l.value ≡ min (decimal_value (take l.b-index l.word)) 4294967295)
