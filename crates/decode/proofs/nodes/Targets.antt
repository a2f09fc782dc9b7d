-- A child's target: its parent's place, moved by a signed number. Assumes nothing.
use Rattle.std.specs.Prelude.{◌≡◌, refl, Bool, true, false, cond, ℕ, suc, ◌+◌, ◌-◌, ◌%◌, ◌<◌, eqb, ltb, ℤ, pos, negsuc, ◌+ℤ◌, unsigned_abs}
use Rattle.std.specs.Int.{FitsUnsigned}
use Rattle.std.proofs.Common.{sym, ap, ◌∙◌, subst, arith, w64, to_z, of_z, eq-eqb, ne_eqb}
use lib.Signed.{mag}
use mir.Facts.{to_z-of_z}
use borrow.Author.Tests.{lt-ltb, le-ltb, ltb-true, ltb-false}
use borrow.Author.Differences.{at_most_in, below_in}
use Rattle.refusals.specs.Results.{ok, refused, need}
use Rattle.layout.specs.Bytes.{signed}
use Rattle.layout.proofs.Signs.{signed_to_z}
use Rattle.nanovdb.specs.Nodes.{child_target}

module _ (base : ℕ) where
  -- a sum that is below 0 fits no place
  to_place : (z : ℤ) (to : ℕ) → FitsUnsigned w64 (pos base +ℤ z) → to ≡ unsigned_abs (pos base +ℤ z)
      → need (eqb (to % 32) 0) 8 (ok to) ≡ child_target base z
  to_place (pos k) to f e = ap (λ (t : ℕ). need (eqb (t % 32) 0) 8 (ok t)) e
  to_place (negsuc k) to f e = go (ltb base (suc k)) refl f e
    where
      go : (t : Bool) → ltb base (suc k) ≡ t → FitsUnsigned w64 (cond t (negsuc (suc k - suc base)) (pos (base - suc k)))
          → to ≡ unsigned_abs (cond t (negsuc (suc k - suc base)) (pos (base - suc k)))
          → need (eqb (to % 32) 0) 8 (ok to) ≡ child_target base (negsuc k)
      go true h f e = absurd (f.0.le)
      go false h f e =
          let above = ltb-false base (suc k) h in
          let is : to ≡ base - (k + 1) = e ∙ omega arith in
          ap (λ (t : ℕ). need (eqb (t % 32) 0) 8 (ok t)) is ∙ sym (rw (lt-ltb k base (omega arith)))

  no_place : (z : ℤ) → base < 4294967296 → mag z < 9223372036854775808 → (FitsUnsigned w64 (pos base +ℤ z) → ⊥) → refused 8 ≡ child_target base z
  no_place (pos k) low small none =
      absurd (none (at_most_in (pos 0) (pos (base + k)) (omega arith), below_in (pos (base + k)) (pos 18446744073709551616) (omega arith)))
  no_place (negsuc k) low small none = go (ltb base (suc k)) refl none
    where
      go : (t : Bool) → ltb base (suc k) ≡ t → (FitsUnsigned w64 (cond t (negsuc (suc k - suc base)) (pos (base - suc k))) → ⊥)
          → refused 8 ≡ child_target base (negsuc k)
      go true h none = let below = ltb-true base (suc k) h in sym (rw (le-ltb k base (omega arith)))
      go false h none =
          absurd (none (at_most_in (pos 0) (pos (base - suc k)) (omega arith), below_in (pos (base - suc k)) (pos 18446744073709551616) (omega arith)))

-- v is the number of the bits, which a local holds as bits again
module _ (base bits : ℕ) (v : ℤ) (fits : mag v < 9223372036854775808) (is : v ≡ to_z w64 bits) where
  kept : to_z w64 (of_z w64 v) ≡ v
  kept = to_z-of_z {w = w64} (record { sfits = fits })

  seen : to_z w64 (of_z w64 v) ≡ signed 64 bits
  seen = kept ∙ is ∙ signed_to_z w64 bits refl

  moved : (to : ℕ) → FitsUnsigned w64 (pos base +ℤ to_z w64 (of_z w64 v)) × (to ≡ unsigned_abs (pos base +ℤ to_z w64 (of_z w64 v)))
      → need (eqb (to % 32) 0) 8 (ok to) ≡ child_target base (signed 64 bits)
  moved to (f, e) = to_place base (to_z w64 (of_z w64 v)) to f e ∙ ap (child_target base) seen

  pub target_whole : (to : ℕ) → FitsUnsigned w64 (pos base +ℤ to_z w64 (of_z w64 v)) × (to ≡ unsigned_abs (pos base +ℤ to_z w64 (of_z w64 v)))
      → to % 32 ≡ 0 → ok to ≡ child_target base (signed 64 bits)
  target_whole to s e = sym (ap (λ (t : Bool). need t 8 (ok to)) (eq-eqb (to % 32) 0 e)) ∙ moved to s

  pub target_uneven : (to : ℕ) → FitsUnsigned w64 (pos base +ℤ to_z w64 (of_z w64 v)) × (to ≡ unsigned_abs (pos base +ℤ to_z w64 (of_z w64 v)))
      → (to % 32 ≡ 0 → ⊥) → refused 8 ≡ child_target base (signed 64 bits)
  target_uneven to s e = sym (ap (λ (t : Bool). need t 8 (ok to)) (ne_eqb (to % 32) 0 e)) ∙ moved to s

  pub target_none : base < 4294967296 → (FitsUnsigned w64 (pos base +ℤ to_z w64 (of_z w64 v)) → ⊥) → refused 8 ≡ child_target base (signed 64 bits)
  target_none low none =
      no_place base (to_z w64 (of_z w64 v)) low (subst (λ (z : ℤ). mag z < 9223372036854775808) (sym kept) fits) none ∙ ap (child_target base) seen
