-- An input and its first 32,769 bytes have the same text: a text is of at most 32,768 bytes, and all that are longer have one line.
use Rattle.std.proofs.Common.{◌≡◌, ℕ, ◌+◌, ◌≤◌, min, Bool, true, false, leb, List, ◌++◌, length, take, drop, ap, ◌∙◌, refl, arith, subst, Option, None, Some, IfSome, Result, Ok, Err, OnOk}
use Rattle.std.proofs.lemmas.List.{length-take, take_all}
use Rattle.std.proofs.Math.Seq.{take-append_seam}
use Rattle.std.proofs.lemmas.Bool.Decides.{nat_tests}
use Rattle.std.specs.Io.KnownBytes.{Appends}
use Rattle.report.specs.Report.{Says, printed_of}

-- a text that has room stands whole at the front of a slice
pub stands : (text l : List ℕ) {o : List ℕ} {r : ℕ} → r ≡ min (length text) (length l) → o ≡ take (length l) text ++ drop (length text) l
    → {n : ℕ} → length text ≤ n → length l ≡ n → take r o ≡ text
stands text l {r = r} v o h k =
    let fits : length text ≤ length l = omega (arith, h, k) in
    let whole_text = take_all (length l) text fits in
    let r_is : r ≡ length text = omega (arith, v, fits) in
    (λ i. take (r_is i) (o i)) ∙ ap (λ t. take (length text) (t ++ drop (length text) l)) whole_text ∙ take-append_seam text (drop (length text) l)

-- ---- an input and its front

whole : (xs : List ℕ) → leb (length xs) 32768 ≡ true → take 32769 xs ≡ xs
whole xs h =
    let fits : length xs ≤ 32769 = grind (arith, nat_tests) in
    take_all 32769 xs fits

above : (n k : ℕ) → leb k n ≡ false → leb (min (n + 1) k) n ≡ false
above n k h = grind (arith, nat_tests)

stays_long : (xs : List ℕ) → leb (length xs) 32768 ≡ false → leb (length (take 32769 xs)) 32768 ≡ false
stays_long xs h = rw length-take (above 32768 (length xs) h)

module _ (text : Says) where
  by_length : (xs : List ℕ) (short : Bool) → leb (length xs) 32768 ≡ short → printed_of text (take 32769 xs) ≡ printed_of text xs
  unfolding printed_of
  by_length xs true h = ap (printed_of text) (whole xs h)
  by_length xs false h = let e = stays_long xs h in rw (e, h)

  -- what is written is the text of the whole input: `read` is the front of it, and `out` is the text of `read`
  pub written : {E : Type 0} {T : Type 0} (r : Result T E) (known old new : Option (List ℕ)) (read out : List ℕ)
      → IfSome known (λ all. read ≡ take 32769 all) → out ≡ printed_of text read → OnOk r (Appends old new out)
      → OnOk r (IfSome known (λ bytes. Appends old new (printed_of text bytes)))
  written (Err e) known old new read out f t a = tt
  written (Ok x) None old new read out f t a = tt
  written (Ok x) (Some all) old new read out f t a =
      subst (λ (text : List ℕ). Appends old new text) (t ∙ ap (printed_of text) f ∙ by_length all (leb (length all) 32768) refl) a
