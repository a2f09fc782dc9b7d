-- Laws of the reads that refuse: which of the two answers a read gives.
use Rattle.std.specs.Prelude.{◌≡◌, Bool, false, List, ℕ, ◌+◌, ◌<◌, ◌≤◌, length}
use Rattle.std.proofs.Math.Path.{ap}
use Rattle.std.proofs.Common.{le-leb}
use Rattle.std.proofs.lemmas.Bool.{lt-leb}
use Rattle.refusals.specs.Results.{ok, refused, need, said}
use Rattle.layout.specs.Bytes.{u32_at}
use Rattle.layout.specs.Reads.{read_field}

module _ {A : Type 0} (field : List ℕ → ℕ → A) (width : ℕ) (b : List ℕ) (at : ℕ) where
  pub read_inside : at + width ≤ length b → read_field field width b at ≡ ok (field b at)
  unfolding read_field
  read_inside h = ap (λ (t : Bool). need t 5 (ok (field b at))) (le-leb (at + width) (length b) h)

  pub read_past : length b < at + width → read_field field width b at ≡ refused 5
  unfolding read_field
  read_past h = ap (λ (t : Bool). need t 5 (ok (field b at))) (lt-leb (at + width) (length b) h)

-- what a read past the end says: its number, and zero in place of a value
pub past_said : (b : List ℕ) (at : ℕ) → length b < at + 4 → said 0 (read_field u32_at 4 b at) ≡ record { accepted = false; number = 5; value = 0 }
past_said b at h = ap (said 0) (read_past u32_at 4 b at h)
