-- The faults that are tested before the tree is read. Assumes nothing.
use mathlib.Core.Path.{◌≡◌, sym, ◌∙◌}
use mathlib.Core.List.{List}
use mathlib.Core.Bool.{Bool, true, false}
use Prim.Native.Nat.{ℕ, ◌≤◌, ◌<◌}
use native.Mathlib.Omega.{arith}
use lib.ListN.{length}
use borrow.Author.Tests.{lt-ltb, le-ltb, le-leb, lt-leb}
use Rattle.medium.specs.Medium.{Medium, make_medium, each, bounds_fault}
use Rattle.decode.specs.Inner.World.{SameWorld}
use Rattle.nanovdb.specs.Decode.{medium_at, medium_of, header_passes, bytes_fault}

module _ (b : List ℕ) where
  pub fault_long : 4294967295 < length b → 1 ≡ bytes_fault b
  unfolding bytes_fault
  fault_long h = sym (rw (le-ltb (length b) 4294967296 (omega arith)))

  module _ (short : length b ≤ 4294967295) where
    pub fault_short : length b < 672 → 2 ≡ bytes_fault b
    unfolding bytes_fault
    fault_short h = sym (rw (lt-ltb (length b) 4294967296 (omega arith), lt-leb 672 (length b) h))

    module _ (long : 672 ≤ length b) where
      pub fault_header : {r : Bool} → r ≡ header_passes b → r ≡ false → 3 ≡ bytes_fault b
      unfolding bytes_fault
      fault_header e f = sym (rw (lt-ltb (length b) 4294967296 (omega arith), le-leb 672 (length b) long, sym e ∙ f))

      -- the world box does not depend on where the root stands
      pub fault_bounds : {r : Bool} {n : ℕ} {m : Medium} → r ≡ header_passes b → r ≡ true → SameWorld m (medium_at b 0)
          → n ≡ each (bounds_fault m) → n ≡ bytes_fault b
      unfolding bytes_fault bounds_fault medium_of medium_at
      fault_bounds {m = m} e f same faults =
          faults ∙ (λ k. each (bounds_fault (make_medium (same.low k) (same.high k) m.index_low m.index_high m.map m.translation m.cells)))
          ∙ sym (rw (lt-ltb (length b) 4294967296 (omega arith), le-leb 672 (length b) long, sym e ∙ f))
