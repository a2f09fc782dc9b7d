-- How long a page is, and what its parts are made of. Assumes nothing.
use Rattle.std.specs.Prelude.{◌≡◌, refl, Bool, true, false, cond, List, [], ◌∷◌, ◌++◌, ℕ, zero, suc, ◌+◌, ◌*◌, ◌/◌, ◌%◌, ◌≤◌, ◌<◌, T, ltb, length, drop, Float}
use Rattle.std.proofs.Common.{sym, ap, ◌∙◌, subst, zero-mul, suc-mul, le_trans, arith, length-append, length-drop, length-take-le, lt-ltb, le-ltb, ltb-true, ltb-false}
use Rattle.std.specs.Float.{binary32}
use Rattle.std.specs.Float.Ieee.{to_bits, lt}
use Rattle.std.specs.Float.Ieee.Bits.{is_true}
use Rattle.std.specs.Float.Ieee.Scale.{finite}
use Rattle.refusals.specs.TestLaws.{and_l, and_r}
use Rattle.float.specs.Zero.{+0}
use Rattle.figures.proofs.Parts.{place_in}
use Rattle.figures.specs.Figures.{every, greater}
use Rattle.text.specs.Numerals.{digit, tens, decimal, hex8}
use Rattle.text.specs.Lengths.{sixteens_length}
use Rattle.sheet.specs.Sheet.{newline, place, layer_word, head_line, marks, row_line, row_of, row_lines, most_of, page_of}

-- ---- how many digits a number below 1000 has

tens_one : (k n : ℕ) → n < 10 → length (tens k n) ≡ 1
unfolding tens
tens_one zero n h = refl
tens_one (suc k) n h = ap (λ (t : Bool). length (cond t (digit n ∷ []) (tens k (n / 10) ++ (digit (n % 10) ∷ [])))) (lt-ltb n 10 h)

tens_more : (k n m : ℕ) → 10 ≤ n → length (tens k (n / 10)) ≡ m → length (tens (suc k) n) ≡ suc m
unfolding tens
tens_more k n m h e =
    ap (λ (t : Bool). length (cond t (digit n ∷ []) (tens k (n / 10) ++ (digit (n % 10) ∷ [])))) (le-ltb n 10 h)
    ∙ length-append (tens k (n / 10)) (digit (n % 10) ∷ [])
    ∙ omega (arith, e)

one_digit : (n : ℕ) → n < 10 → length (decimal n) ≡ 1
unfolding decimal
one_digit n h = tens_one n n h

two_digits : (n : ℕ) → 10 ≤ n → n < 100 → length (decimal n) ≡ 2
unfolding decimal
two_digits zero h k = absurd (omega arith)
two_digits (suc m) h k = tens_more m (suc m) 1 h (tens_one m (suc m / 10) (omega arith))

three_digits : (n : ℕ) → 100 ≤ n → n < 1000 → length (decimal n) ≡ 3
unfolding decimal
three_digits zero h k = absurd (omega arith)
three_digits (suc zero) h k = absurd (omega arith)
three_digits (suc (suc m)) h k =
    let n = suc (suc m) in
    tens_more (suc m) n 2 (omega arith) (tens_more m (n / 10) 1 (omega arith) (tens_one m (n / 10 / 10) (omega arith)))

pub place_length : (n : ℕ) → n < 1000 → length (place n) ≡ 3
unfolding place
place_length n h = by_one (ltb n 10) refl
  where
    by_two : (t : Bool) → ltb n 100 ≡ t → 10 ≤ n → length (cond t (32 ∷ decimal n) (decimal n)) ≡ 3
    by_two true e l = omega (arith, two_digits n l (ltb-true n 100 e))
    by_two false e l = three_digits n (ltb-false n 100 e) h

    by_one : (t : Bool) → ltb n 10 ≡ t → length (cond t (32 ∷ 32 ∷ decimal n) (cond (ltb n 100) (32 ∷ decimal n) (decimal n))) ≡ 3
    by_one true e = omega (arith, one_digit n (ltb-true n 10 e))
    by_one false e = by_two (ltb n 100) refl (ltb-false n 10 e)

-- ---- how long the lines are

head_length : (k : ℕ) (g : Float) → k < 1000 → length (head_line k g) ≡ 19
unfolding head_line layer_word
head_length k g h =
    let bits = hex8 (to_bits binary32 g) in
    omega (
      arith,
      place_length k h,
      sixteens_length 8 (to_bits binary32 g),
      length-append layer_word ((32 ∷ []) ++ (place k ++ ((32 ∷ []) ++ (bits ++ newline)))),
      length-append (place k) ((32 ∷ []) ++ (bits ++ newline)),
      length-append bits newline,
    )

pub marks_length : (g : Float) (l : List Float) → length (marks g l) ≡ length l
unfolding marks
marks_length g [] = refl
marks_length g (v ∷ l) = ap suc (marks_length g l)

row_length : (g : Float) (y : ℕ) (row : List Float) → y < 1000 → length (row_line g y row) ≡ length row + 5
unfolding row_line
row_length g y row h =
    omega (
      arith,
      place_length y h,
      marks_length g row,
      length-append (place y) ((32 ∷ []) ++ (marks g row ++ newline)),
      length-append (32 ∷ []) (marks g row ++ newline),
      length-append (marks g row) newline,
    )

-- ---- rows of a layer

pub row_long : (x y : ℕ) (layer : List Float) → y * x + x ≤ length layer → length (row_of x y layer) ≡ x
row_long x y layer h = length-take-le x (drop (y * x) layer) (omega (arith, length-drop (y * x) layer))

rows_length : (x : ℕ) (g : Float) (layer : List Float) (y : ℕ) → y * x ≤ length layer → y ≤ 1000 → length (row_lines x g layer y) ≡ y * (x + 5)
unfolding row_lines
rows_length x g layer zero h k = sym (zero-mul (x + 5))
rows_length x g layer (suc y) h k =
    let fits : y * x + x ≤ length layer = le_trans (place_in x (suc y) y (omega arith)) h in
    let row = row_of x y layer in
    length-append (row_line g y row) (row_lines x g layer y)
    ∙ omega (arith, row_length g y row (omega arith), row_long x y layer fits, rows_length x g layer y (omega arith) (omega arith), suc-mul y (x + 5))

-- a heading of 19 bytes, and x + 5 for each row
pub page_length : (x y k : ℕ) (layer : List Float) → k < 1000 → y ≤ 1000 → y * x ≤ length layer → length (page_of x y k layer) ≡ 19 + y * (x + 5)
unfolding page_of
page_length x y k layer h l fits =
    let g = most_of +0 layer in
    length-append (head_line k g) (row_lines x g layer y) ∙ omega (arith, head_length k g h, rows_length x g layer y fits l)

-- ---- figures that are finite

greater_finite : (a v : Float) → T (finite a) → T (finite v) → T (finite (greater a v))
greater_finite a v p q = go (lt a v)
  where
    go : (t : Bool) → T (finite (cond t v a))
    go true = q
    go false = p

pub most_finite : (a : Float) (l : List Float) → T (finite a) → T (every finite l) → T (finite (most_of a l))
unfolding most_of every
most_finite a [] p t = p
most_finite a (v ∷ l) p t = most_finite (greater a v) l (greater_finite a v p (and_l (finite v) (every finite l) t)) (and_r (finite v) (every finite l) t)

pub greatest_real : (l : List Float) {g : Float} → T (every finite l) → g ≡ most_of +0 l → finite g ≡ true
greatest_real l t e = is_true _ (subst (λ (v : Float). T (finite v)) (sym e) (most_finite +0 l tt t))
