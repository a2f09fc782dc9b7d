-- A table that is filled place by place.
use Rattle.std.proofs.Common.{◌≡◌, ℕ, suc, ◌+◌, ◌-◌, ◌*◌, ◌<◌, List, drop, set, sym, ap, ◌∙◌, arith, Option, None, Some, IfSome}
use Rattle.std.proofs.lemmas.List.{drop-drop}
use Rattle.layout.specs.Bytes.{u32_at}
use Rattle.replay.specs.Filled.{filled}

-- after i of the n places of a list that is known: what the rest of the places still do to the table, and what is left of the list
abbrev pub IsFilling : {A : Type 0} (value : List ℕ → A) (n i : ℕ) (known left : Option (List ℕ)) (start table : List A) → Type 0
IsFilling value n i known left start table =
    IfSome known (λ all. (filled value (n - i) (drop (8 * i) all) table ≡ filled value n all start) × (left ≡ Some (drop (8 * i) all)))

-- one place more: of what was left, `at` and `x` are read, and `rest` is left behind them
pub goes_on : {A : Type 0} (value : List ℕ → A) (n i : ℕ) (known left rest : Option (List ℕ)) (start table put : List A) (at : ℕ) (x : A) → i < n
    → IfSome left (λ all. rest ≡ Some (drop 8 all)) → IfSome left (λ all. at ≡ u32_at all 0) → IfSome left (λ all. x ≡ value all)
    → put ≡ set table at x → IsFilling value n i known left start table → IsFilling value n (i + 1) known rest start put
goes_on value n i None left rest start table put at x lt r a v p inv = tt
goes_on value n i (Some all) left rest start table put at x lt r a v p inv =
    let one : n - i ≡ suc (n - (i + 1)) = omega arith in
    let places : 8 * i + 8 ≡ 8 * (i + 1) = omega arith in
    let next : drop 8 (drop (8 * i) all) ≡ drop (8 * (i + 1)) all = drop-drop 8 (8 * i) all ∙ ap (λ (k : ℕ). drop k all) places in
    let here = rw inv.1 at r in
    let place = rw inv.1 at a in
    let word = rw inv.1 at v in
    let before = rw one at inv.0 in
    (rw (sym next, p, place, word) before, here ∙ ap Some next)
