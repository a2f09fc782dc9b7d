-- What the worked examples speak of: operations on patterns. The examples are proofs/Examples.
use Rattle.std.specs.Prelude.{ℕ, ℤ, pos}
use Rattle.std.specs.Float.{binary32, binary64}
use Rattle.std.specs.Float.Ieee.{of_bits, to_bits, of_int, sub}
use Rattle.refusals.specs.Results.{Result}
use Rattle.float.specs.Fused.{fma, narrow, trunc}
use Rattle.float.specs.Coordinate.{coordinate}

abbrev pub mul_add : ℕ → ℕ → ℕ → ℕ
mul_add a b c = to_bits binary32 (fma binary32 (of_bits binary32 a) (of_bits binary32 b) (of_bits binary32 c))

abbrev pub narrowed : ℕ → ℕ
narrowed b = to_bits binary32 (narrow (of_bits binary64 b))

-- the low end of the first box: less 1 in f64, truncated, as an i32
abbrev pub low : ℕ → Result ℤ
low b = coordinate (trunc binary64 (sub binary64 (of_bits binary32 b) (of_int binary64 (pos 1))))
