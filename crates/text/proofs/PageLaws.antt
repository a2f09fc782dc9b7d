-- Laws of pages: text after text, and a page that is written from its front. Assumes nothing.
use Rattle.std.specs.Prelude.{◌≡◌, refl, Bool, true, false, cond, List, [], ◌∷◌, ◌++◌, ℕ, suc, ◌+◌, ◌<◌, ◌≤◌, min, ltb, length, set, take, drop}
use Rattle.std.proofs.Common.{sym, ap, ◌∙◌, append_assoc, arith, length-append, length-set, lt-ltb, le-ltb}
use Rattle.std.proofs.Math.Seq.{set-append_seam, take-nil, drop-nil}
use Rattle.text.specs.Page.{Page, page, put, puts}

-- text after text
pub puts_append : (p : Page) (xs ys : List ℕ) → puts p (xs ++ ys) ≡ puts (puts p xs) ys
unfolding puts
puts_append p [] ys = refl
puts_append p (x ∷ xs) ys = puts_append (put p x) xs ys

-- the page q is p with the text bs written
pub record Wrote (p : Page) (bs : List ℕ) (q : Page) : Type 0 where
  pub is : q ≡ puts p bs

pub wrote : {p q : Page} {bs : List ℕ} → q ≡ puts p bs → Wrote p bs q
wrote e = record { is = e }

-- two texts, one after the other
infixr 40 ◌then◌
pub ◌then◌ : {p q r : Page} {xs ys : List ℕ} → Wrote p xs q → Wrote q ys r → Wrote p (xs ++ ys) r
◌then◌ {p} {xs = xs} {ys = ys} e f = record { is = f.is ∙ ap (λ (x : Page). puts x ys) e.is ∙ sym (puts_append p xs ys) }

-- another text that is the same
pub same_text : {p q : Page} {xs ys : List ℕ} → Wrote p xs q → xs ≡ ys → Wrote p ys q
same_text {p} e h = record { is = e.is ∙ ap (puts p) h }

put_length : (p : Page) (b : ℕ) → length (put p b).cells ≡ length p.cells
put_length p b = by_test (ltb p.at (length p.cells))
  where
    by_test : (t : Bool) → length (cond t (page (set p.cells p.at b) (p.at + 1)) p).cells ≡ length p.cells
    by_test true = length-set p.cells p.at b
    by_test false = refl

-- the slice keeps its length
pub puts_length : (p : Page) (bs : List ℕ) → length (puts p bs).cells ≡ length p.cells
unfolding puts
puts_length p [] = refl
puts_length p (b ∷ bs) = puts_length (put p b) bs ∙ put_length p b

pub wrote_length : {p q : Page} {bs : List ℕ} → Wrote p bs q → length q.cells ≡ length p.cells
wrote_length {p} {bs = bs} e = ap (λ (x : Page). length x.cells) e.is ∙ puts_length p bs

-- a byte that has room, and one that has none
pub put_room : (l : List ℕ) (at b : ℕ) → at < length l → put (page l at) b ≡ page (set l at b) (at + 1)
put_room l at b h = ap (λ (t : Bool). cond t (page (set l at b) (at + 1)) (page l at)) (lt-ltb at (length l) h)

pub put_full : (l : List ℕ) (at b : ℕ) → length l ≤ at → put (page l at) b ≡ page l at
put_full l at b h = ap (λ (t : Bool). cond t (page (set l at b) (at + 1)) (page l at)) (le-ltb at (length l) h)

-- behind the text t that a page begins with
puts_behind : (t l bs : List ℕ)
    → puts (page (t ++ l) (length t)) bs ≡ page (t ++ (take (length l) bs ++ drop (length bs) l)) (length t + min (length bs) (length l))
unfolding puts
puts_behind t l [] =
    let e : length t ≡ length t + min 0 (length l) = omega arith in
    ap (λ (n : ℕ). page (t ++ l) n) e ∙ ap (λ (x : List ℕ). page (t ++ (x ++ l)) (length t + min 0 (length l))) (sym (take-nil (length l)))
puts_behind t [] (b ∷ bs) =
    let e : length t + min (length bs) 0 ≡ length t + min (suc (length bs)) 0 = omega arith in
    ap (λ (p : Page). puts p bs) (put_full (t ++ []) (length t) b (omega (arith, length-append t [])))
    ∙ puts_behind t [] bs
    ∙ ap (λ (n : ℕ). page (t ++ drop (length bs) []) n) e
    ∙ ap (λ (x : List ℕ). page (t ++ x) (length t + min (suc (length bs)) 0)) (drop-nil (length bs))
puts_behind t (x ∷ l) (b ∷ bs) =
    let n : length (t ++ (b ∷ [])) ≡ length t + 1 = length-append t (b ∷ []) in
    let e : length (t ++ (b ∷ [])) + min (length bs) (length l) ≡ length t + min (suc (length bs)) (suc (length l)) = omega arith in
    ap (λ (p : Page). puts p bs)
    (put_room (t ++ (x ∷ l)) (length t) b (omega (arith, length-append t (x ∷ l)))
    ∙ (λ i. page ((set-append_seam t x l b ∙ sym (append_assoc t (b ∷ []) l)) i) (sym n i)))
    ∙ puts_behind (t ++ (b ∷ [])) l bs
    ∙ (λ i. page (append_assoc t (b ∷ []) (take (length l) bs ++ drop (length bs) l) i) (e i))

-- a page that is written from its front holds as much of the text as has room, and behind it what it held
pub puts_front : (l bs : List ℕ) → puts (page l 0) bs ≡ page (take (length l) bs ++ drop (length bs) l) (min (length bs) (length l))
puts_front l bs =
    let e : 0 + min (length bs) (length l) ≡ min (length bs) (length l) = omega arith in
    puts_behind [] l bs ∙ ap (λ (n : ℕ). page (take (length l) bs ++ drop (length bs) l) n) e
