-- Laws of words put into a buffer: what four stores do, and that putting words and then others behind them is putting both.
use Rattle.std.proofs.Common.{ℕ, ◌+◌, ◌-◌, ◌*◌, ◌/◌, ◌≤◌, ◌<◌, true, false, List, [], ◌∷◌, ◌++◌, append_assoc, append-nil, ◌≡◌, add-zero, arith, leb-true, length, take, drop, length-append, length-drop, take-append-drop, take_at, drop-drop, length-take-le, w32}
use Rattle.std.proofs.Math.Seq.{take-append_seam, take-append-le, drop-append-le, drop-append-add}
use Rattle.word.proofs.WordLaws.{bytes_append, bytes_length}
use Rattle.std.specs.Int.{to_be_bytes}
use Rattle.word.specs.Word.{bytes_of}
use Rattle.word.specs.Steps.Write.{put_bytes, fits, put_words}

pub fits_in : (buffer : List ℕ) (index count : ℕ) → index + count ≤ length buffer / 4 → fits buffer index count ≡ true
unfolding fits
fits_in buffer index count h = grind arith

pub fits_out : (buffer : List ℕ) (index count : ℕ) → length buffer / 4 < index + count → fits buffer index count ≡ false
unfolding fits
fits_out buffer index count h = grind arith

pub put_in : (buffer : List ℕ) (index : ℕ) (words : List ℕ) → index + length words ≤ length buffer / 4 → put_words buffer index words ≡ put_bytes buffer (index * 4) (bytes_of words)
unfolding put_words
put_in buffer index words h = grind (arith, fits_in)

pub put_out : (buffer : List ℕ) (index : ℕ) (words : List ℕ) → length buffer / 4 < index + length words → put_words buffer index words ≡ buffer
unfolding put_words
put_out buffer index words h = grind (arith, fits_out)

-- the four bytes of a word, written at once
pub store_word : (buffer bytes : List ℕ) (index w : ℕ) → index < length buffer / 4 → bytes ≡ to_be_bytes w32 w
    → take (index * 4) buffer ++ (bytes ++ drop (index * 4 + 4 - index * 4) (drop (index * 4) buffer)) ≡ put_words buffer index (w ∷ [])
unfolding put_bytes bytes_of
store_word buffer bytes index w h e = grind (arith, put_in, drop-drop, append_assoc)

-- ---- one after the other

module _ (buffer : List ℕ) (at : ℕ) (x y : List ℕ) (h : at + length x + length y ≤ length buffer) where
  start : List ℕ
  start = take at buffer ++ x

  start_length : length start ≡ at + length x
  unfolding start
  start_length = grind (arith, length-append, length-take-le)

  put_bytes_append : put_bytes (put_bytes buffer at x) (at + length x) y ≡ put_bytes buffer at (x ++ y)
  unfolding put_bytes start
  put_bytes_append =
      grind (arith, start_length, take_at start (drop (at + length x) buffer), drop-append-add start (drop (at + length x) buffer), drop-drop (length y) (at + length x) buffer, append_assoc (take at buffer), length-append x y)

pub put_bytes_length : (buffer : List ℕ) (at : ℕ) (x : List ℕ) → at + length x ≤ length buffer → length (put_bytes buffer at x) ≡ length buffer
unfolding put_bytes
put_bytes_length buffer at x h = grind (arith, length-append, length-take-le, length-drop)

pub put_length : (buffer : List ℕ) (index : ℕ) (words : List ℕ) → length (put_words buffer index words) ≡ length buffer
unfolding put_words fits
put_length buffer index words = grind (arith, leb-true, put_bytes_length, bytes_length)

pub put_append : (buffer : List ℕ) (index : ℕ) (x y : List ℕ) → index + length x + length y ≤ length buffer / 4 → put_words (put_words buffer index x) (index + length x) y ≡ put_words buffer index (x ++ y)
put_append buffer index x y h =
    grind (arith, put_in, put_length buffer index x, put_bytes_append buffer (index * 4) (bytes_of x) (bytes_of y), bytes_length x, bytes_length y, bytes_append x y, length-append x y)

-- no words
pub put_none : (buffer : List ℕ) (index : ℕ) → put_words buffer index [] ≡ buffer
unfolding put_words put_bytes bytes_of
put_none buffer index = grind (arith, append-nil, add-zero, take-append-drop)

-- ---- one before the other

module _ (u v : List ℕ) where
  put_left : (at : ℕ) (x : List ℕ) → at + length x ≤ length u → put_bytes (u ++ v) at x ≡ put_bytes u at x ++ v
  unfolding put_bytes
  put_left at x h = grind (arith, take-append-le, drop-append-le, append_assoc)

  put_right : (x : List ℕ) → put_bytes (u ++ v) (length u) x ≡ u ++ (x ++ drop (length x) v)
  unfolding put_bytes
  put_right x = grind (arith, take-append_seam, drop-append-add, append_assoc)

swap_apart : (u v : List ℕ) (i : ℕ) (x y : List ℕ) → i + length x ≤ length u → put_bytes (put_bytes (u ++ v) (length u) y) i x ≡ put_bytes (put_bytes (u ++ v) i x) (length u) y
swap_apart u v i x y h = grind (arith, put_right u v y, put_left u v i x, put_left u (y ++ drop (length y) v) i x, put_right (put_bytes u i x) v y, put_bytes_length u i x)

-- bytes that do not overlap can be put in either order
put_bytes_swap : (buffer : List ℕ) (i j : ℕ) (x y : List ℕ) → i + length x ≤ j → j + length y ≤ length buffer → put_bytes (put_bytes buffer j y) i x ≡ put_bytes (put_bytes buffer i x) j y
put_bytes_swap buffer i j x y h k = grind (arith, swap_apart (take j buffer) (drop j buffer) i x y, take-append-drop j buffer, length-take-le j buffer)

pub put_swap : (buffer : List ℕ) (i j : ℕ) (x y : List ℕ) → i + length x ≤ j → j + length y ≤ length buffer / 4 → put_words (put_words buffer j y) i x ≡ put_words (put_words buffer i x) j y
put_swap buffer i j x y h k = grind (arith, put_length, put_in, put_bytes_swap, bytes_length)
