-- Coordinates and bits behind a blank, from the steps that write them. A local holds an i32 as its bits. Assumes nothing.
use mathlib.Core.Path.{◌≡◌, sym, ap, ◌∙◌}
use mathlib.Core.List.{List, [], ◌∷◌, ◌++◌}
use Prim.Native.Nat.{ℕ, ◌+◌, ◌<◌, ◌≤◌}
use native.Mathlib.Numerals.{add-one}
use lib.IntN.{ℤ}
use lib.ListN.{length, get_or, drop, drop_of_length-le}
use lib.Seq.{drop-cons}
use lib.Ieee.{Float, nan, binary32, to_bits}
use mir.Syntax.{w32}
use mir.Val.{SFits, to_z, of_z}
use mir.Facts.{to_z-of_z}
use Rattle.refusals.proofs.ListLaws.{get_d_any}
use Rattle.float.specs.Zero.{+0}
use Rattle.layout.specs.Coordinates.{Coord}
use Rattle.sparse_grid.specs.Tables.{Grid, block_at}
use Rattle.text.specs.Numerals.{signed_text, hex8}
use Rattle.text.specs.declared.Page.{Page}
use Rattle.text.specs.Written.{Writes}
use Rattle.text.proofs.Writing.{◌then◌, as_text}
use Rattle.report.specs.Report.{newline, number, coordinate, triple, bits, root_line, root_lines, refused_word, refused_line}
use Rattle.report.specs.Lines.{numbers}

-- an i32 as a local holds it
abbrev pub held : ℤ → ℤ
held z = to_z w32 (of_z w32 z)

pub put_coordinate : {p q r : Page} {z : ℤ} → SFits w32 z → Writes p (32 ∷ []) q → Writes q (signed_text (held z)) r → Writes p (coordinate z) r
unfolding coordinate
put_coordinate f d e = as_text (d then e) (ap (λ (x : ℤ). 32 ∷ signed_text x) (to_z-of_z f))

-- three i32 that fit
pub record Fit (k : Coord) : Type 0 where
  pub x : SFits w32 k.x
  pub y : SFits w32 k.y
  pub z : SFits w32 k.z

pub put_triple : {p q r s : Page} {k : Coord} → Fit k → Writes p (coordinate (held k.x)) q → Writes q (coordinate (held k.y)) r
    → Writes r (coordinate (held k.z)) s → Writes p (triple k) s
unfolding triple
put_triple fit d e f =
    as_text (d then e then f)
    (λ i. coordinate (to_z-of_z fit.x i) ++ (coordinate (to_z-of_z fit.y i) ++ coordinate (to_z-of_z fit.z i)))

-- three i32 that a call is handed
pub held_triple : {p q : Page} {k : Coord} → Fit k → Writes p (triple (record { x = held k.x; y = held k.y; z = held k.z })) q → Writes p (triple k) q
held_triple fit e = as_text e (λ i. triple (record { x = to_z-of_z fit.x i; y = to_z-of_z fit.y i; z = to_z-of_z fit.z i }))

pub put_bits : {p q r : Page} {n : ℕ} (v : Float) → n ≡ to_bits binary32 v → Writes p (32 ∷ []) q → Writes q (hex8 n) r → Writes p (bits v) r
unfolding bits
put_bits v h d e = as_text (d then e) (ap (λ (k : ℕ). 32 ∷ hex8 k) h)

-- one root more
pub root_more : {p q r : Page} (g : Grid) (i : ℕ) → Writes p (root_lines g i) q → Writes q (root_line (block_at g i) (get_or g.root_values i +0)) r
    → Writes p (root_lines g (i + 1)) r
unfolding root_lines
root_more g i e f = as_text (e then f) (ap (root_lines g) (sym (add-one i)))

-- a value that was read from its slice
pub read_bits : {p q : Page} (values : List Float) (i : ℕ) → i < length values → Writes p (bits (get_or values i nan)) q
    → Writes p (bits (get_or values i +0)) q
read_bits values i h e = as_text e (ap bits (get_d_any values i nan +0 h))

-- ---- the numbers of a line: the next one, and the end

pub numbers_next : (values : List ℕ) (i : ℕ) → i < length values → numbers (drop i values) ≡ number (get_or values i 0) ++ numbers (drop (i + 1) values)
numbers_next values i h = ap numbers (drop-cons values i 0 h) ∙ ap (λ (k : ℕ). number (get_or values i 0) ++ numbers (drop k values)) (sym (add-one i))

pub numbers_end : (values : List ℕ) (i : ℕ) → length values ≤ i → numbers (drop i values) ≡ newline
numbers_end values i h = ap numbers (drop_of_length-le values h)

pub refused_text : {p q : Page} {n m : ℕ} → n ≡ m → Writes p (refused_word ++ numbers (n ∷ [])) q → Writes p (refused_line m) q
unfolding refused_line
refused_text e w = as_text w (ap (λ (k : ℕ). refused_word ++ (number k ++ newline)) e)
