-- Lists that grow at the end: what stood at a place stays there. Assumes nothing.
use Rattle.std.specs.Prelude.{◌≡◌, refl, ℕ, ◌≤◌, ◌<◌, length, get_or}
use Rattle.std.proofs.Common.{sym, ap, ◌∙◌, arith, length-append}
use mathlib.Core.List.{List, [], ◌++◌, append_assoc}
use Rattle.std.proofs.Math.ListN.{get_or-append}

pub record Prefix {A : Type 0} (l m : List A) : Type 0 where
  pub rest : List A
  pub is : m ≡ l ++ rest

pub prefix_same : {A : Type 0} {l m : List A} → m ≡ l → Prefix l m
prefix_same {l = l} e = record { rest = []; is = e ∙ sym (mathlib.Core.List.append-nil l) }

pub prefix_more : {A : Type 0} (l r : List A) → Prefix l (l ++ r)
prefix_more l r = record { rest = r; is = refl }

pub prefix_trans : {A : Type 0} {l m n : List A} → Prefix l m → Prefix m n → Prefix l n
prefix_trans {l = l} p q = record { rest = p.rest ++ q.rest; is = q.is ∙ rw p.is (append_assoc l p.rest q.rest) }

pub prefix_length : {A : Type 0} {l m : List A} → Prefix l m → length l ≤ length m
prefix_length {l = l} p = omega (arith, ap length p.is, length-append l p.rest)

pub prefix_at : {A : Type 0} {l m : List A} → Prefix l m → (i : ℕ) (d : A) → i < length l → get_or m i d ≡ get_or l i d
prefix_at {l = l} p i d h = rw p.is (get_or-append l p.rest d i h)
