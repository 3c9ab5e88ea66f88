-- A line of text as numbers apart by blanks. Assumes nothing.
use Rattle.std.specs.Prelude.{◌≡◌, ℕ, ◌+◌, ◌-◌, ◌*◌, ◌^◌, ◌<◌, min, Bool, true, cond, ◌||◌, List, [], ◌∷◌, ◌++◌, map, length, is_some, Some, None, fold, Option, ◌==◌, slice_index_or}
use Rattle.std.specs.Str.{all_ascii_digits}

-- a blank is a space, a tab or a carriage return
abbrev pub blank : ℕ → Bool
blank b = b == 32 || (b == 9 || b == 13)

-- a word that has ended, in front of the words behind it; between two blanks there is none
abbrev pub ended : List ℕ → List (List ℕ) → List (List ℕ)
ended [] rest = rest
ended (b ∷ word) rest = (b ∷ word) ∷ rest

-- the words of a line whose first word has begun with the bytes `word`
abbrev pub words_after : List ℕ → List ℕ → List (List ℕ)
words_after word [] = ended word []
words_after word (b ∷ bs) = cond (blank b) (ended word (words_after [] bs)) (words_after (word ++ (b ∷ [])) bs)

-- the words of a line: what stands between blanks
abbrev pub words : List ℕ → List (List ℕ)
words line = words_after [] line

-- the decimal number that digits write behind those of n
abbrev pub decimal_after : ℕ → List ℕ → ℕ
decimal_after n digits = fold (λ m b. 10 * m + (b - 48)) n digits

-- the decimal number that digits write
abbrev pub decimal_value : List ℕ → ℕ
decimal_value digits = decimal_after 0 digits

-- a text that is a number of 32 bits: digits, at least one, and no sign
abbrev pub WholeNumber : List ℕ → Type 0
WholeNumber text = (all_ascii_digits text ≡ true) × (0 < length text) × (decimal_value text < 2 ^ 32)

-- the number that a word writes, up to the largest of 32 bits; none where a byte is no digit
abbrev pub number_of : List ℕ → Option ℕ
number_of word = cond (all_ascii_digits word) (Some (min (decimal_value word) 4294967295)) None

-- word k is the first that writes no number
pub record FirstUnread (ws : List (List ℕ)) (k : ℕ) : Type 0 where
  pub inside : k < length ws
  pub unread : number_of (slice_index_or ws k []) ≡ None
  pub before : (j : ℕ) → j < k → is_some (number_of (slice_index_or ws j [])) ≡ true

-- the words of the line write the numbers of the row
abbrev pub Reads : List ℕ → List ℕ → Type 0
Reads line row = map number_of (words line) ≡ map Some row
