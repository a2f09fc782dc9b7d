-- Spans of at least 2,144 bytes, one beside the other in the bytes, are few: no two start in one stretch of 2,144 bytes.
-- So a node's number stays far below 2^32. Assumes nothing.
use Rattle.std.specs.Prelude.{◌≡◌, refl, List, [], ◌∷◌, ◌++◌, Bool, true, false, ◌&&◌, ◌||◌, ℕ, ◌+◌, ◌*◌, ◌/◌, ◌≤◌, ◌<◌, eqb, ltb, length}
use Rattle.std.proofs.Common.{sym, ap, ◌∙◌, arith, eq-eqb, ne_eqb, lt-ltb}
use Rattle.sparse_grid.specs.Count.{sum, bit, sum_one, sum_most, sum_nil, split_eq}
use Rattle.nanovdb.specs.Spans.{Span, overlaps}

-- each span lies inside `len` bytes and overlaps none of those behind it
unfoldable pub Packed : ℕ → List Span → Type 0
Packed len [] = Unit {0}
Packed len (s ∷ l) = (s.start + 2144 ≤ s.end) × (s.end ≤ len) × (overlaps l s.start s.end ≡ false) × Packed len l

-- ---- one span more, at the end

pub no_either : (a b : Bool) → (a || b) ≡ false → (a ≡ false) × (b ≡ false)
no_either true b e = absurd (let z : ◌≡◌ {A = Bool} true false = e in yes z)
  where
    yes : true ≡ false → ⊥
    yes z = let n : ◌≡◌ {A = ℕ} 0 1 = cc in omega arith
no_either false b e = (refl, e)

and_turned : (a b : Bool) → (a && b) ≡ (b && a)
and_turned true true = refl
and_turned true false = refl
and_turned false true = refl
and_turned false false = refl

overlaps_last : (l : List Span) (s : Span) (from to : ℕ) → overlaps l from to ≡ false → (ltb s.start to && ltb from s.end) ≡ false
    → overlaps (l ++ (s ∷ [])) from to ≡ false
unfolding overlaps
overlaps_last [] s from to e f = rw f
overlaps_last (r ∷ l) s from to e f =
    let (a, b) = no_either (ltb r.start to && ltb from r.end) (overlaps l from to) e in
    rw (a, overlaps_last l s from to b f)

pub packed_more : (len : ℕ) (l : List Span) (s : Span) → Packed len l → s.start + 2144 ≤ s.end → s.end ≤ len
    → overlaps l s.start s.end ≡ false → Packed len (l ++ (s ∷ []))
unfolding Packed overlaps
packed_more len [] s p wide inside apart = (wide, inside, refl, tt)
packed_more len (r ∷ l) s p wide inside apart =
    let (a, b) = no_either (ltb r.start s.end && ltb s.start r.end) (overlaps l s.start s.end) apart in (
      p.0,
      p.1,
      overlaps_last l s r.start r.end p.2 (and_turned (ltb s.start r.end) (ltb r.start s.end) ∙ a),
      packed_more len l s p.3 wide inside b,
    )

-- ---- how many spans start in stretch q

unfoldable starts : List Span → ℕ → ℕ
starts [] q = 0
starts (s ∷ l) q = bit (eqb (s.start / 2144) q) + starts l q

-- none starts in the stretch of a span that overlaps none
starts_none : (len : ℕ) (l : List Span) (from to : ℕ) → Packed len l → from + 2144 ≤ to → overlaps l from to ≡ false → starts l (from / 2144) ≡ 0
unfolding Packed overlaps starts
starts_none len [] from to p wide apart = refl
starts_none len (r ∷ l) from to p wide apart =
    let (a, b) = no_either (ltb r.start to && ltb from r.end) (overlaps l from to) apart in
    let rest = starts_none len l from to p.3 wide b in
    let here : eqb (r.start / 2144) (from / 2144) ≡ false = ne_eqb _ _ (λ e. clash r.start r.end from to e p.0 wide a) in
    let h : bit (eqb (r.start / 2144) (from / 2144)) ≡ 0 = ap bit here in
    omega arith
  where
    clash : (s e from to : ℕ) → s / 2144 ≡ from / 2144 → s + 2144 ≤ e → from + 2144 ≤ to → (ltb s to && ltb from e) ≡ false → ⊥
    clash s e from to same w v f =
        let x : ltb s to ≡ true = lt-ltb s to (omega arith) in
        let y : ltb from e ≡ true = lt-ltb from e (omega arith) in
        let n : ◌≡◌ {A = Bool} true false = sym (rw (x, y)) ∙ f in
        (let z : ◌≡◌ {A = ℕ} 0 1 = cc in omega arith)

-- every stretch has at most one, and every span starts in a stretch of the bytes
starts_most : (len : ℕ) (l : List Span) → Packed len l → (q : ℕ) → starts l q ≤ 1
unfolding Packed starts
starts_most len [] p q = omega arith
starts_most len (s ∷ l) p q =
    split_eq (s.start / 2144) q
    (λ e.
    let n = starts_none len l s.start s.end p.3 p.0 p.2 in
    let h : starts l q ≡ 0 = ap (starts l) (sym e) ∙ n in
    omega (arith, bit_most (eqb (s.start / 2144) q)))
    (λ d. let h = starts_most len l p.3 q in let b : bit (eqb (s.start / 2144) q) ≡ 0 = ap bit (ne_eqb _ _ d) in omega arith)
  where
    bit_most : (b : Bool) → bit b ≤ 1
    bit_most true = omega arith
    bit_most false = omega arith

starts_sum : (len : ℕ) (l : List Span) → Packed len l → sum (len / 2144) (starts l) ≡ length l
unfolding Packed starts
starts_sum len [] p = sum_nil (len / 2144) (starts []) (λ t. refl)
starts_sum len (s ∷ l) p =
    let h = starts_sum len l p.3 in
    let k = sum_one (len / 2144) (starts l) (starts (s ∷ l)) (s.start / 2144) (below s.start s.end p.0 p.1) (here s) (λ t b d. other s t d) in
    omega arith
  where
    below : (a e : ℕ) → a + 2144 ≤ e → e ≤ len → a / 2144 < len / 2144
    below a e w i = omega arith

    here : (s : Span) → starts (s ∷ l) (s.start / 2144) ≡ starts l (s.start / 2144) + 1
    here s = let h : bit (eqb (s.start / 2144) (s.start / 2144)) ≡ 1 = ap bit (eq-eqb (s.start / 2144) (s.start / 2144) refl) in omega arith

    other : (s : Span) (t : ℕ) → (t ≡ s.start / 2144 → ⊥) → starts (s ∷ l) t ≡ starts l t
    other s t d = let h : bit (eqb (s.start / 2144) t) ≡ 0 = ap bit (ne_eqb (s.start / 2144) t (λ e. d (sym e))) in omega arith

pub packed_few : (len : ℕ) (l : List Span) → Packed len l → length l * 2144 ≤ len
packed_few len l p =
    let s = starts_sum len l p in
    let m = sum_most (len / 2144) 1 (starts l) (λ t h. starts_most len l p t) in
    omega arith
