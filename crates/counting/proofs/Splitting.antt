-- How a line falls into words. Assumes nothing.
use Rattle.std.proofs.Common.{◌≡◌, ℕ, zero, suc, ◌<◌, ◌≤◌, Bool, true, false, List, [], ◌∷◌, ◌++◌, length, get_or, take, drop, sym, refl, ap, ◌∙◌, ap₂, arith}
use Rattle.std.proofs.lemmas.List.{append-nil, append_assoc, drop_all}
use Rattle.std.proofs.lemmas.Bool.{cond-true, cond-false}
use Rattle.counting.specs.Lines.{blank, ended, words, words_after}

-- the first n bytes are blanks, or, where the kind is false, none is
abbrev pub Front : Bool → List ℕ → ℕ → Type 0
Front kind text n = (k : ℕ) → k < n → blank (get_or text k 0) ≡ kind

-- blanks in front make no word
pub words_behind_blanks : (text : List ℕ) (n : ℕ) → Front true text n → words text ≡ words (drop n text)
words_behind_blanks text zero front = refl
words_behind_blanks [] (suc n) front = refl
words_behind_blanks (b ∷ bs) (suc n) front =
    cond-true (blank b) (words bs) (words_after (b ∷ []) bs) (front 0 (omega arith)) ∙ words_behind_blanks bs n (λ k l. front (suc k) (omega arith))

-- and blanks alone make none
pub no_words : (text : List ℕ) → Front true text (length text) → words text ≡ []
no_words text front = words_behind_blanks text (length text) front ∙ ap words (drop_all (length text) text (omega arith))

-- a word goes on to the next blank
words_on : (word text : List ℕ) (n : ℕ) → Front false text n → (n < length text → blank (get_or text n 0) ≡ true) → words_after word text ≡ ended (word ++ take n text) (words (drop n text))
words_on word [] zero front stops = ap (λ (w : List ℕ). ended w []) (sym (append-nil word))
words_on word [] (suc n) front stops = ap (λ (w : List ℕ). ended w []) (sym (append-nil word))
words_on word (b ∷ bs) zero front stops =
    let e : blank b ≡ true = stops (omega arith) in
    cond-true (blank b) (ended word (words bs)) (words_after (word ++ (b ∷ [])) bs) e
    ∙ ap₂ ended (sym (append-nil word)) (sym (cond-true (blank b) (words bs) (words_after (b ∷ []) bs) e))
words_on word (b ∷ bs) (suc n) front stops =
    cond-false (blank b) (ended word (words bs)) (words_after (word ++ (b ∷ [])) bs) (front 0 (omega arith))
    ∙ words_on (word ++ (b ∷ [])) bs n (λ k l. front (suc k) (omega arith)) (λ l. stops (omega arith))
    ∙ ap (λ (w : List ℕ). ended w (words (drop n bs))) (append_assoc word (b ∷ []) (take n bs))

-- a text that does not begin with a blank begins with a word
pub first_word : (text : List ℕ) (n : ℕ) → 0 < n → n ≤ length text → Front false text n → (n < length text → blank (get_or text n 0) ≡ true)
    → words text ≡ take n text ∷ words (drop n text)
first_word text zero some within front stops = absurd (omega arith)
first_word [] (suc n) some within front stops = absurd (omega arith)
first_word (b ∷ bs) (suc n) some within front stops = words_on [] (b ∷ bs) (suc n) front stops
