-- Reads into a part of a list: what they take of an input stands behind the front, and the front grows by it.
use Rattle.std.proofs.Common.{◌≡◌, ℕ, ◌+◌, ◌≤◌, List, ◌++◌, length, take, drop, sym, ap, subst, ◌∙◌, Option, None, Some}
use Rattle.std.proofs.lemmas.List.{drop_at, take-append-le, append_assoc}
use Rattle.std.proofs.Math.Seq.{take-add}
use Rattle.std.specs.Io.KnownBytes.{Consumes}

-- what was read into the part stands behind the front
pub in_place : (a b : Option (List ℕ)) (n : ℕ) (front part rest : List ℕ) (at : ℕ) → length front ≡ at → n ≤ length part → Consumes a b (take n part)
    → Consumes a b (take n (drop at (front ++ (part ++ rest))))
in_place a b n front part rest at long fits read =
    subst (Consumes a b) (sym (ap (take n) (drop_at front (part ++ rest) at long) ∙ take-append-le n part rest fits)) read

-- of two reads, one behind the other, both together
pub joined : (a b c : Option (List ℕ)) (xs ys : List ℕ) (f n : ℕ) → take f ys ≡ take f xs → Consumes a b (take f xs)
    → Consumes b c (take n (drop f ys)) → Consumes a c (take (f + n) ys)
joined None b c xs ys f n front before read = tt
joined (Some all) None c xs ys f n front before read = elim before [ ]
joined (Some all) (Some left) None xs ys f n front before read = elim read [ ]
joined (Some all) (Some left) (Some rest) xs ys f n front before read =
    let parts : take (f + n) ys ≡ take f xs ++ take n (drop f ys) = rw front at (take-add f n ys) in
    rw (parts, before, read) (sym (append_assoc (take f xs) (take n (drop f ys)) rest))
