-- The key of a tile names a block exactly where its three signed fields are the block's; bounds of slots and of 32-bit fields. Assumes nothing.
use Rattle.std.specs.Prelude.{◌≡◌, List, Bool, true, false, not, ◌&&◌, cond, ℕ, ◌+◌, ◌-◌, ◌*◌, ◌/◌, ◌%◌, ◌^◌, ◌≤◌, ◌<◌, ℤ, pos, negsuc, T, eqb, ltb, Float}
use Rattle.std.proofs.Common.{sym, ap, ◌∙◌, mod-lt, arith, ne_eqb, eqb→eq, ltb→lt, nltb→le}
use Rattle.std.proofs.Math.Nat.{div-div-eq-div-mul}
use Rattle.std.specs.Int.Signed.{mag, shr_z}
use Rattle.std.specs.Float.{nan, inf, fin, binary32}
use Rattle.std.specs.Float.Ieee.{of_bits, to_bits, is_nan}
use Rattle.std.specs.Float.Ieee.Scale.{finite}
use Rattle.std.specs.Float.Ieee.Bits.{to_bits-of_bits}
use Rattle.refusals.specs.TestLaws.{and_l, and_r, and_i, same_test, eq→eqb}
use Rattle.layout.specs.Bytes.{le, signed, u32_at, Bytes}
use Rattle.layout.specs.Coordinates.{Coord, mod_z, slot, eq_z, same_block, block_of, Signed32}
use Rattle.layout.specs.Walk.{key}
use Rattle.nanovdb.specs.Tree.{field, key_passes}

pub mod_z_lt : (z : ℤ) (m : ℕ) → 0 < m → mod_z z m < m
mod_z_lt (pos a) m h = mod-lt a h
mod_z_lt (negsuc a) m h = omega arith

-- ---- one field

pub field_same : (f : ℕ) (z : ℤ) → f < 1048576 → mag z < 524288 → eq_z (signed 20 f) z ≡ eqb f (mod_z z 1048576)
unfolding signed
field_same f z hf hz = go (ltb f 524288) z (ltb→lt f 524288) (nltb→le f 524288) hz
  where
    go : (x : Bool) (z : ℤ) → (T x → f < 524288) → (T (not x) → 524288 ≤ f) → mag z < 524288
        → eq_z (cond x (pos f) (negsuc (1048576 - (f + 1)))) z ≡ eqb f (mod_z z 1048576)
    go true (pos a) p q h = ap (eqb f) (small a h)
      where
        small : (a : ℕ) → a < 524288 → a ≡ a % 1048576
        small a h = omega arith
    go true (negsuc a) p q h = let low = p tt in sym (ne_eqb f (1048576 - (a % 1048576 + 1)) (λ (e : f ≡ 1048576 - (a % 1048576 + 1)). omega arith))
    go false (pos a) p q h = let high = q tt in sym (ne_eqb f (a % 1048576) (λ (e : f ≡ a % 1048576). omega arith))
    go false (negsuc a) p q h =
        let high = q tt in
        same_test (eqb (1048576 - (f + 1)) a) (eqb f (1048576 - (a % 1048576 + 1)))
        (λ t. let e = eqb→eq (1048576 - (f + 1)) a t in eq→eqb f (1048576 - (a % 1048576 + 1)) (omega arith))
        (λ t. let e = eqb→eq f (1048576 - (a % 1048576 + 1)) t in eq→eqb (1048576 - (f + 1)) a (omega arith))

shr_in : (z : ℤ) → mag z < 2147483648 → mag (shr_z z 4096) < 524288
shr_in (pos a) h = omega arith
shr_in (negsuc a) h = omega arith

-- ---- three fields

parts : (k q₀ q₁ q₂ q₃ y z : ℕ) → k ≡ q₀ * 2 ^ 20 + z → q₀ ≡ q₁ * 2 → q₁ ≡ q₂ * 2 ^ 20 + y → q₂ ≡ q₃ * 2 → k ≡ q₃ * 2 ^ 42 + y * 2 ^ 21 + z
parts k q₀ q₁ q₂ q₃ y z a b c d = omega arith

split : (k : ℕ) → k < 2 ^ 62 → k / 2 ^ 20 % 2 ≡ 0 → k / 2 ^ 41 % 2 ≡ 0 → k ≡ k / 2 ^ 42 % 2 ^ 20 * 2 ^ 42 + k / 2 ^ 21 % 2 ^ 20 * 2 ^ 21 + k / 2 ^ 0 % 2 ^ 20
split k h a b =
    let p : k / 2 ^ 20 / 2 ≡ k / 2 ^ 21 = div-div-eq-div-mul k (2 ^ 20) 2 in
    let q : k / 2 ^ 21 / 2 ^ 20 ≡ k / 2 ^ 41 = div-div-eq-div-mul k (2 ^ 21) (2 ^ 20) in
    let r : k / 2 ^ 41 / 2 ≡ k / 2 ^ 42 = div-div-eq-div-mul k (2 ^ 41) 2 in
    parts k (k / 2 ^ 20) (k / 2 ^ 21) (k / 2 ^ 41) (k / 2 ^ 42 % 2 ^ 20) (k / 2 ^ 21 % 2 ^ 20) (k / 2 ^ 0 % 2 ^ 20)
    (omega arith) (halved (k / 2 ^ 20) (k / 2 ^ 21) p a) (whole (k / 2 ^ 21) (k / 2 ^ 41) q) (halved (k / 2 ^ 41) (k / 2 ^ 42 % 2 ^ 20) (r ∙ top k h) b)
  where
    halved : (n m : ℕ) → n / 2 ≡ m → n % 2 ≡ 0 → n ≡ m * 2
    halved n m p q = omega arith

    whole : (n m : ℕ) → n / 2 ^ 20 ≡ m → n ≡ m * 2 ^ 20 + n % 2 ^ 20
    whole n m p = omega arith

    top : (k : ℕ) → k < 2 ^ 62 → k / 2 ^ 42 ≡ k / 2 ^ 42 % 2 ^ 20
    top k h = omega arith

three : (f g h l m n : ℕ) → f < 1048576 → g < 1048576 → h < 1048576 → l < 1048576 → m < 1048576 → n < 1048576
    → eqb (f * 2 ^ 42 + g * 2 ^ 21 + h) (l * 2 ^ 42 + m * 2 ^ 21 + n) ≡ (eqb f l && eqb g m && eqb h n)
three f g h l m n hf hg hh hl hm hn = same_test (eqb (f * 2 ^ 42 + g * 2 ^ 21 + h) (l * 2 ^ 42 + m * 2 ^ 21 + n)) (eqb f l && eqb g m && eqb h n)
    (λ t.
    let e = eqb→eq (f * 2 ^ 42 + g * 2 ^ 21 + h) (l * 2 ^ 42 + m * 2 ^ 21 + n) t in
    and_i (eqb f l && eqb g m) (eqb h n) (and_i (eqb f l) (eqb g m) (eq→eqb f l (omega arith)) (eq→eqb g m (omega arith))) (eq→eqb h n (omega arith)))
    (λ t.
    let s = and_l (eqb f l && eqb g m) (eqb h n) t in
    let a = eqb→eq f l (and_l (eqb f l) (eqb g m) s) in
    let c = eqb→eq g m (and_r (eqb f l) (eqb g m) s) in
    let d = eqb→eq h n (and_r (eqb f l && eqb g m) (eqb h n) t) in
    eq→eqb (f * 2 ^ 42 + g * 2 ^ 21 + h) (l * 2 ^ 42 + m * 2 ^ 21 + n) (omega arith))

-- a tile's key is the coordinate's exactly where the blocks are the same
pub key_same : (k : ℕ) (c : Coord) → T (key_passes k) → Signed32 c
    → eqb k (key c) ≡ same_block (record { x = field k 42; y = field k 21; z = field k 0 }) (block_of c)
key_same k c t s =
    let u = and_l (ltb k (2 ^ 62) && eqb (k / 2 ^ 20 % 2) 0) (eqb (k / 2 ^ 41 % 2) 0) t in
    let whole = split k (ltb→lt k (2 ^ 62) (and_l (ltb k (2 ^ 62)) (eqb (k / 2 ^ 20 % 2) 0) u))
    (eqb→eq (k / 2 ^ 20 % 2) 0 (and_r (ltb k (2 ^ 62)) (eqb (k / 2 ^ 20 % 2) 0) u))
    (eqb→eq (k / 2 ^ 41 % 2) 0 (and_r (ltb k (2 ^ 62) && eqb (k / 2 ^ 20 % 2) 0) (eqb (k / 2 ^ 41 % 2) 0) t)) in
    ap (λ (n : ℕ). eqb n (key c)) whole
    ∙ three (f 42) (f 21) (f 0) (m c.x) (m c.y) (m c.z) (in_f 42) (in_f 21) (in_f 0) (in_m c.x) (in_m c.y) (in_m c.z)
    ∙ sym (all (same 42 c.x s.x) (same 21 c.y s.y) (same 0 c.z s.z))
  where
    f : ℕ → ℕ
    f n = k / 2 ^ n % 2 ^ 20

    m : ℤ → ℕ
    m z = mod_z (shr_z z 4096) (2 ^ 20)

    in_f : (n : ℕ) → f n < 1048576
    in_f n = mod-lt (k / 2 ^ n) (omega arith)

    in_m : (z : ℤ) → m z < 1048576
    in_m z = mod_z_lt (shr_z z 4096) 1048576 (omega arith)

    same : (n : ℕ) (z : ℤ) → mag z < 2 ^ 31 → eq_z (field k n) (shr_z z 4096) ≡ eqb (f n) (m z)
    same n z h = field_same (f n) (shr_z z 4096) (in_f n) (shr_in z h)

    all : {a b d a' b' d' : Bool} → a ≡ a' → b ≡ b' → d ≡ d' → (a && b && d) ≡ (a' && b' && d')
    all p q r = λ i. p i && q i && r i

-- ---- bounds

pub slot_leaf : (c : Coord) → slot 8 1 c < 512
slot_leaf c = omega (arith, mod_z_lt c.x (8 * 1) (omega arith), mod_z_lt c.y (8 * 1) (omega arith), mod_z_lt c.z (8 * 1) (omega arith))

pub slot_lower : (c : Coord) → slot 16 8 c < 4096
slot_lower c = omega (arith, mod_z_lt c.x (16 * 8) (omega arith), mod_z_lt c.y (16 * 8) (omega arith), mod_z_lt c.z (16 * 8) (omega arith))

pub slot_upper : (c : Coord) → slot 32 128 c < 32768
slot_upper c = omega (arith, mod_z_lt c.x (32 * 128) (omega arith), mod_z_lt c.y (32 * 128) (omega arith), mod_z_lt c.z (32 * 128) (omega arith))

pub u32_lt : (b : List ℕ) (at : ℕ) → Bytes b → u32_at b at < 2 ^ 32
unfolding le
u32_lt b at h = omega (arith, h at, h (at + 1), h (at + 1 + 1), h (at + 1 + 1 + 1))

-- a value that is finite has the bits that it was read from
not_nan : (v : Float) → T (finite v) → T (not (is_nan v))
unfolding is_nan
not_nan nan t = absurd t
not_nan (inf s) t = absurd t
not_nan (fin s m e) t = tt

pub bits_kept : (n : ℕ) → n < 2 ^ 32 → T (finite (of_bits binary32 n)) → to_bits binary32 (of_bits binary32 n) ≡ n
bits_kept n h t = to_bits-of_bits binary32 n h (not_nan (of_bits binary32 n) t)
