-- The words of a line that were read, and the first that was not. Assumes nothing.
use Rattle.std.proofs.Common.{◌≡◌, ℕ, ◌+◌, ◌<◌, ◌≤◌, true, List, [], ◌∷◌, ◌++◌, map, length, get_or, take, drop, is_some, Some, None, Option, sym, ap, ◌∙◌, ap₂, arith, length-drop}
use Rattle.std.proofs.lemmas.List.{drop_more, get_or_default, get_or-map, get_or-take, length-map, length-take-le, map-append, take_more}
use Rattle.counting.specs.Lines.{FirstUnread, number_of}

-- where a word is the first behind n others
pub next_read : (ws : List (List ℕ)) (n : ℕ) (word : List ℕ) (behind : List (List ℕ)) → drop n ws ≡ word ∷ behind
    → ((n < length ws) × (word ≡ get_or ws n word)) × (behind ≡ drop (n + 1) ws)
next_read ws n word behind left = ((inside, ap (λ (l : List (List ℕ)). get_or l 0 word) next), ap (λ (l : List (List ℕ)). drop 1 l) next)
  where
    inside : n < length ws
    inside = omega (arith, length-drop n ws, ap length left)

    next : word ∷ behind ≡ get_or ws n word ∷ drop (n + 1) ws
    next = sym left ∙ drop_more ws n word inside

-- the first n words write the numbers
module _ (ws : List (List ℕ)) (n : ℕ) (ns : List ℕ) (read : map number_of (take n ws) ≡ map Some ns) where
  -- as many words as numbers
  size : n ≤ length ws → n ≡ length ns
  size within = sym (length-take-le n ws within) ∙ sym (length-map (take n ws) number_of) ∙ ap length read ∙ length-map ns Some

  module _ (word : List ℕ) (turn : (n < length ws) × (word ≡ get_or ws n word)) where
    -- the next writes none
    pub first_unread : (k : ℕ) → number_of word ≡ None → k ≡ length ns → FirstUnread ws k
    first_unread k none is = record {
      inside = omega (arith, here, turn.0);
      unread = ap (λ (i : ℕ). number_of (get_or ws i [])) here ∙ ap number_of (get_or_default ws n [] word turn.0 ∙ sym turn.1) ∙ none;
      before = before;
    }
      where
        here : k ≡ n
        here = omega (arith, is, size (omega (arith, turn.0)))

        before : (j : ℕ) → j < k → is_some (number_of (get_or ws j [])) ≡ true
        before j l =
            let first : j < n = omega (arith, here) in
            let taken : j < length (take n ws) = omega (arith, length-take-le n ws (omega (arith, turn.0))) in
            let found : j < length ns = omega (arith, is) in
            ap (λ (w : List ℕ). is_some (number_of w)) (sym (get_or-take n ws j [] first))
            ∙ ap is_some (sym (get_or-map number_of (take n ws) j [] None taken) ∙ ap (λ (os : List (Option ℕ)). get_or os j None) read ∙ get_or-map Some ns j 0 None found)

    -- the next writes one more
    pub read_more : (x : ℕ) (more : List ℕ) → number_of word ≡ Some x → more ≡ ns ++ (x ∷ []) → map number_of (take (n + 1) ws) ≡ map Some more
    read_more x more is pushed =
        ap (map number_of) (take_more ws n word turn.0) ∙ map-append number_of (take n ws) (get_or ws n word ∷ [])
        ∙ ap₂ (λ (a b : List (Option ℕ)). a ++ b) read (ap (λ (w : List ℕ). number_of w ∷ []) (sym turn.1) ∙ ap (λ (o : Option ℕ). o ∷ []) is)
        ∙ sym (map-append Some ns (x ∷ [])) ∙ ap (map Some) (sym pushed)
