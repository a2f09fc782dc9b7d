-- The order, the slots and the blocks of biased numbers, and how code lifts a number. Assumes nothing.
use Rattle.std.specs.Prelude.{◌≡◌, ℕ, suc, ◌+◌, ◌-◌, ◌/◌, ◌%◌, ◌<◌, ◌≤◌, Bool, cond, ℤ, pos, negsuc, ◌+ℤ◌, ◌≤ℤ◌, ◌==◌, refl}
use native.Mathlib.Omega.{arith}
use Rattle.std.proofs.Common.{sym, ap, ◌∙◌, subst, leb→le, le→leb, eq-eqb, ne_eqb, lt-ltb, le-ltb}
use Rattle.std.specs.Int.Signed.{shr_z, mag}
use Rattle.layout.specs.Coordinates.{mod_z, eq_z}
use Rattle.sparse_grid.specs.Count.{split_eq, split_lt}
use Rattle.sparse_grid.specs.Biased.{back, raised}

pub back_low : (h n : ℕ) → n < h → back h n ≡ negsuc (h - (n + 1))
unfolding back
back_low h n l = ap (λ (b : Bool). cond b (negsuc (h - (n + 1))) (pos (n - h))) (lt-ltb n h l)

pub back_high : (h n : ℕ) → h ≤ n → back h n ≡ pos (n - h)
unfolding back
back_high h n l = ap (λ (b : Bool). cond b (negsuc (h - (n + 1))) (pos (n - h))) (le-ltb n h l)

-- ---- the order

pub back_le : (h a b : ℕ) → a ≤ b → back h a ≤ℤ back h b
back_le h a b l =
    split_lt a h
    (λ p. split_lt b h
    (λ q. rw (back_low h a p, back_low h b q) (record { le = le→leb (h - (b + 1)) (h - (a + 1)) (omega arith) }))
    (λ q. rw (back_low h a p, back_high h b q) (record { le = tt })))
    (λ p. rw (back_high h a p, back_high h b (omega arith)) (record { le = le→leb (a - h) (b - h) (omega arith) }))

pub le_back : (h a b : ℕ) → back h a ≤ℤ back h b → a ≤ b
le_back h a b k =
    split_lt a h
    (λ p. split_lt b h
    (λ q. let i = leb→le (h - (b + 1)) (h - (a + 1)) (rw (back_low h a p, back_low h b q) at k).le in omega arith)
    (λ q. omega arith))
    (λ p. split_lt b h
    (λ q. absurd (rw (back_high h a p, back_low h b q) at k).le)
    (λ q. let i = leb→le (a - h) (b - h) (rw (back_high h a p, back_high h b q) at k).le in omega arith))

-- what lies between two biased numbers is one
pub back_between : (h a b : ℕ) (z : ℤ) → back h a ≤ℤ z → z ≤ℤ back h b → (n : ℕ) × (z ≡ back h n) × (a ≤ n) × (n ≤ b)
back_between h a b (pos k) l u =
    let e : pos k ≡ back h (h + k) = sym (back_high h (h + k) (omega arith) ∙ ap pos (omega arith)) in
    (h + k, e, le_back h a (h + k) (subst (λ (z : ℤ). back h a ≤ℤ z) e l), le_back h (h + k) b (subst (λ (z : ℤ). z ≤ℤ back h b) e u))
back_between h a b (negsuc k) l u =
    split_lt a h
    (λ p. let i = leb→le k (h - (a + 1)) (rw (back_low h a p) at l).le in
    let e : negsuc k ≡ back h (h - (k + 1)) = sym (back_low h (h - (k + 1)) (omega arith) ∙ ap negsuc (omega arith)) in
    (h - (k + 1), e, le_back h a (h - (k + 1)) (subst (λ (z : ℤ). back h a ≤ℤ z) e l), le_back h (h - (k + 1)) b (subst (λ (z : ℤ). z ≤ℤ back h b) e u)))
    (λ p. absurd (rw (back_high h a p) at l).le)

pub eq_z_back : (h a b : ℕ) → eq_z (back h a) (back h b) ≡ (a == b)
eq_z_back h a b =
    split_lt a h
    (λ p. split_lt b h
    (λ q. rw (back_low h a p, back_low h b q) (both (h - (a + 1)) (h - (b + 1)) a b (λ e. omega arith) (λ e. omega arith)))
    (λ q. rw (back_low h a p, back_high h b q) (sym (ne_eqb a b (λ e. omega arith)))))
    (λ p. split_lt b h
    (λ q. rw (back_high h a p, back_low h b q) (sym (ne_eqb a b (λ e. omega arith))))
    (λ q. rw (back_high h a p, back_high h b q) (both (a - h) (b - h) a b (λ e. omega arith) (λ e. omega arith))))
  where
    both : (a b c d : ℕ) → (a ≡ b → c ≡ d) → (c ≡ d → a ≡ b) → (a == b) ≡ (c == d)
    both a b c d i o = split_eq a b (λ e. eq-eqb a b e ∙ sym (eq-eqb c d (i e))) (λ n. ne_eqb a b n ∙ sym (ne_eqb c d (λ e. n (o e))))

-- ---- slots and blocks

pub mod_8 : (n : ℕ) → mod_z (back 2147483648 n) 8 ≡ n % 8
mod_8 n = split_lt n 2147483648 (λ p. rw (back_low 2147483648 n p) (omega arith)) (λ p. rw (back_high 2147483648 n p) (omega arith))

pub mod_128 : (n : ℕ) → mod_z (back 2147483648 n) 128 ≡ n % 128
mod_128 n = split_lt n 2147483648 (λ p. rw (back_low 2147483648 n p) (omega arith)) (λ p. rw (back_high 2147483648 n p) (omega arith))

pub mod_4096 : (n : ℕ) → mod_z (back 2147483648 n) 4096 ≡ n % 4096
mod_4096 n = split_lt n 2147483648 (λ p. rw (back_low 2147483648 n p) (omega arith)) (λ p. rw (back_high 2147483648 n p) (omega arith))

pub shr_4096 : (n : ℕ) → shr_z (back 2147483648 n) 4096 ≡ back 524288 (n / 4096)
shr_4096 n =
    split_lt n 2147483648
    (λ p. rw (back_low 2147483648 n p) (sym (back_low 524288 (n / 4096) (omega arith) ∙ ap negsuc (omega arith))))
    (λ p. rw (back_high 2147483648 n p) (sym (back_high 524288 (n / 4096) (omega arith) ∙ ap pos (omega arith))))

-- ---- a negative number and one that is not, added

plus_low : (k d : ℕ) → d < suc k → negsuc k +ℤ pos d ≡ negsuc (suc k - suc d)
plus_low k d l = ap (λ (b : Bool). cond b (negsuc (suc k - suc d)) (pos (d - suc k))) (lt-ltb d (suc k) l)

plus_high : (k d : ℕ) → suc k ≤ d → negsuc k +ℤ pos d ≡ pos (d - suc k)
plus_high k d l = ap (λ (b : Bool). cond b (negsuc (suc k - suc d)) (pos (d - suc k))) (le-ltb d (suc k) l)

-- ---- how the code lifts a number

pub lift : (z : ℤ) → mag z < 2147483648 → (n : ℕ) × (z ≡ back 2147483648 n) × (n < 4294967296) × (z +ℤ pos 2147483648 ≡ pos n)
lift (pos k) h =
    let e : k + 2147483648 - 2147483648 ≡ k = omega arith in
    (k + 2147483648, sym (back_high 2147483648 (k + 2147483648) (omega arith) ∙ ap pos e), omega arith, refl)
lift (negsuc k) h =
    let e : 2147483648 - (2147483648 - suc k + 1) ≡ k = omega arith in (
      2147483648 - suc k,
      sym (back_low 2147483648 (2147483648 - suc k) (omega arith) ∙ ap negsuc e),
      omega arith,
      plus_high k 2147483648 (omega arith),
    )

-- ---- a block's number, raised

module _ (k : ℕ) (h : k ≤ 524287) where
  pub raised_pos : raised (pos k) ≡ 524288 + k
  unfolding raised
  raised_pos = omega arith

  pub raised_neg : raised (negsuc k) ≡ 524288 - (k + 1)
  unfolding raised
  raised_neg = rw (plus_high k 524288 (omega arith)) (omega arith)

pub raised_back : (n : ℕ) → n < 4294967296 → raised (back 2147483648 n) ≡ (n + 2148007936) % 4294967296
unfolding raised
raised_back n l =
    split_lt n 2147483648
    (λ p. rw (back_low 2147483648 n p) (low (2147483648 - (n + 1)) (omega arith)))
    (λ p. rw (back_high 2147483648 n p) (omega arith))
  where
    low : (k : ℕ) → n + (k + 1) ≡ 2147483648 → mod_z (negsuc k +ℤ pos 524288) 4294967296 ≡ (n + 2148007936) % 4294967296
    low k e =
        split_lt 524288 (suc k)
        (λ p. rw (plus_low k 524288 p) (omega arith))
        (λ p. rw (plus_high k 524288 p) (omega arith))
