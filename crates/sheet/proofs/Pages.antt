-- Pages that are written a character or a line at a time, and loops over the figures of a layer. Assumes nothing.
use mathlib.Core.Path.{◌≡◌, sym, ap, ◌∙◌}
use mathlib.Core.Bool.{Bool, cond}
use mathlib.Core.List.{List, [], ◌∷◌, ◌++◌}
use Prim.Native.Nat.{ℕ, zero, suc, ◌+◌, ◌-◌, ◌≤◌, ◌<◌}
use native.Mathlib.Numerals.{add-one}
use native.Mathlib.Omega.{arith}
use lib.Dec.{ltb}
use lib.ListN.{length, get_or, drop, drop_of_length-le}
use lib.Seq.{drop-cons}
use lib.Ieee.{Float}
use borrow.Author.Tests.{lt-ltb, le-ltb}
use Rattle.figures.specs.Figures.{greater}
use Rattle.text.specs.Numerals.{decimal}
use Rattle.sheet.specs.Grades.{mark}
use Rattle.sheet.specs.Sheet.{place, marks, row_line, row_of, row_lines, most_of}

-- ---- a number in three places

abbrev placed : ℕ → Bool → Bool → List ℕ
placed n a b = cond a (32 ∷ 32 ∷ decimal n) (cond b (32 ∷ decimal n) (decimal n))

pub place_one : (n : ℕ) → n < 10 → 32 ∷ 32 ∷ decimal n ≡ place n
unfolding place
place_one n h = ap (λ (a : Bool). placed n a (ltb n 100)) (sym (lt-ltb n 10 h))

pub place_two : (n : ℕ) → 10 ≤ n → n < 100 → 32 ∷ decimal n ≡ place n
unfolding place
place_two n h k = λ i. placed n (sym (le-ltb n 10 h) i) (sym (lt-ltb n 100 k) i)

pub place_three : (n : ℕ) → 10 ≤ n → 100 ≤ n → decimal n ≡ place n
unfolding place
place_three n h k = λ i. placed n (sym (le-ltb n 10 h) i) (sym (le-ltb n 100 k) i)

-- ---- one figure more

pub marks_next : (g : Float) (row : List Float) (i : ℕ) {b : ℕ} (d : Float) → i < length row → b ≡ mark (get_or row i d) g
    → marks g (drop i row) ≡ (b ∷ []) ++ marks g (drop (i + 1) row)
unfolding marks
marks_next g row i d h f =
    ap (λ (l : List Float). marks g l) (drop-cons row i d h)
    ∙ (λ j. sym f j ∷ marks g (drop (sym (add-one i) j) row))

pub marks_none : (g : Float) (row : List Float) (i : ℕ) → length row ≤ i → marks g (drop i row) ≡ []
unfolding marks
marks_none g row i h = ap (λ (l : List Float). marks g l) (drop_of_length-le row h)

pub most_more : (l : List Float) (i : ℕ) (d a b r : Float) → i < length l → b ≡ greater a (get_or l i d)
    → most_of a (drop i l) ≡ r → most_of b (drop (i + 1) l) ≡ r
unfolding most_of
most_more l i d a b r h e k =
    ap (λ (n : ℕ). most_of b (drop n l)) (add-one i)
    ∙ ap (λ (x : Float). most_of x (drop (suc i) l)) e
    ∙ ap (most_of a) (sym (drop-cons l i d h))
    ∙ k

pub most_end : (l : List Float) (i : ℕ) (a r : Float) → length l ≤ i → most_of a (drop i l) ≡ r → a ≡ r
unfolding most_of
most_end l i a r h e = ap (most_of a) (sym (drop_of_length-le l h)) ∙ e

-- ---- one line more

pub rows_next : (x : ℕ) (g : Float) (layer : List Float) (left : ℕ) → 0 < left
    → row_lines x g layer left ≡ row_line g (left - 1) (row_of x (left - 1) layer) ++ row_lines x g layer (left - 1)
unfolding row_lines
rows_next x g layer zero h = absurd (omega arith)
rows_next x g layer (suc y) h =
    let one : y ≡ suc y - 1 = omega arith in
    ap (λ (n : ℕ). row_line g n (row_of x n layer) ++ row_lines x g layer n) one

pub rows_none : (x : ℕ) (g : Float) (layer : List Float) (left : ℕ) → left ≡ 0 → row_lines x g layer left ≡ []
unfolding row_lines
rows_none x g layer left z = ap (λ (n : ℕ). row_lines x g layer n) z
