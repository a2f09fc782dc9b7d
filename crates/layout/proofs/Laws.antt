-- Laws that the proofs of several functions cite: the end test, a byte past the end, and the two ways out of a read.
use mathlib.Core.Path.{◌≡◌, refl, sym, ap, ◌∙◌}
use mathlib.Core.Bool.{Bool, true, false}
use Prim.Native.Nat.{ℕ, ◌+◌, ◌-◌, ◌<◌, ◌≤◌}
use native.Mathlib.Omega.{arith}
use mathlib.Core.List.{List}
use lib.Dec.{leb}
use lib.ListN.{length}
use Rattle.refusals.specs.Results.{ok, refused}
use Rattle.layout.specs.Reads.{read_field}
use Rattle.layout.proofs.ReadLaws.{read_inside, read_past}
use borrow.Author.Tests.{leb-true, leb-false, le-leb, lt-leb}

-- the end test in a form that forms no sum
pub end_test : (at width n : ℕ) → width ≤ n → leb at (n - width) ≡ leb (at + width) n
end_test at width n h = go (leb (at + width) n) (leb-true (at + width) n) (leb-false (at + width) n)
  where
    go : (t : Bool) → (t ≡ true → at + width ≤ n) → (t ≡ false → n < at + width) → leb at (n - width) ≡ t
    go true p q = le-leb at (n - width) (let e = p refl in omega arith)
    go false p q = lt-leb at (n - width) (let e = q refl in omega arith)

-- a test that came out true
pub within : {r : Bool} (m n : ℕ) → r ≡ leb m n → r ≡ true → m ≤ n
within m n e t = leb-true m n (sym e ∙ t)

-- the two ways out of a read, after its end test with the width w
module _ {A : Type 0} (field : List ℕ → ℕ → A) {width w : ℕ} (b : List ℕ) (at : ℕ) {t : Bool} (same : w ≡ width) (e : t ≡ leb (at + w) (length b)) where
  tested : t ≡ leb (at + width) (length b)
  tested = e ∙ ap (λ (n : ℕ). leb (at + n) (length b)) same

  pub read_value : {v : A} → t ≡ true → v ≡ field b at → ok v ≡ read_field field width b at
  read_value h f = ap ok f ∙ sym (read_inside field width b at (within (at + width) (length b) tested h))

  pub read_refused : t ≡ false → refused 5 ≡ read_field field width b at
  read_refused h = sym (read_past field width b at (leb-false (at + width) (length b) (sym tested ∙ h)))
