-- A slice of words as layers: the words of part i are those of chunk i. Assumes nothing.
use Rattle.std.proofs.Common.{◌≡◌, ℕ, zero, suc, ◌+◌, ◌*◌, ◌/◌, ◌<◌, ◌≤◌, List, [], length, get_or, drop, sym, ap, ◌∙◌, subst, arith}
use Rattle.std.proofs.lemmas.List.{length-take-le, length-drop, get_or-take, get_or-drop}
use Rattle.std.specs.Simd.{first_chunks}
use Rattle.layers.specs.Scratch.{IsLoaded}

-- each chunk of n words has n
chunk_size : (n k i : ℕ) (xs d : List ℕ) → i < k → k * n ≤ length xs → length (get_or (first_chunks n k xs) i d) ≡ n
chunk_size n zero i xs d inside room = absurd (omega arith)
chunk_size n (suc k) zero xs d inside room = length-take-le n xs (omega arith)
chunk_size n (suc k) (suc i) xs d inside room = chunk_size n k i (drop n xs) d (omega arith) (simp length-drop (omega arith))

-- and those of chunk i are the words from n × i on
chunk_word : (n k i v : ℕ) (xs d : List ℕ) → i < k → v < n → get_or (get_or (first_chunks n k xs) i d) v 0 ≡ get_or xs (n * i + v) 0
chunk_word n zero i v xs d inside small = absurd (omega arith)
chunk_word n (suc k) zero v xs d inside small = get_or-take n xs v 0 small ∙ ap (λ (j : ℕ). get_or xs j 0) (omega arith)
chunk_word n (suc k) (suc i) v xs d inside small =
    chunk_word n k i v (drop n xs) d (omega arith) small ∙ get_or-drop n xs (n * i + v) 0 ∙ ap (λ (j : ℕ). get_or xs j 0) (omega arith)

-- so chunk i of 32 words is the layer of part i
pub chunk_loaded : (words : List ℕ) (chunks : List (List ℕ)) (i : ℕ) → chunks ≡ first_chunks 32 (length words / 32) words → i < length words / 32
    → IsLoaded i words (get_or chunks i [])
chunk_loaded words chunks i cut inside =
    let k : ℕ = length words / 32 in
    let room : k * 32 ≤ length words = omega arith in
    subst (λ (q : List (List ℕ)). IsLoaded i words (get_or q i [])) (sym cut)
    (record { size = chunk_size 32 k i words [] inside room; same = λ v small. chunk_word 32 k i v words [] inside small })
