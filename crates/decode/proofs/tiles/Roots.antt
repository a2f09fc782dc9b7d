-- A root record is put behind the others. Assumes nothing.
use mathlib.Core.Path.{◌≡◌, refl, sym, ap, ◌∙◌}
use mathlib.Core.List.{List, [], ◌∷◌, ◌++◌, map, append_assoc}
use Prim.Native.Nat.{ℕ, ◌+◌, ◌*◌, ◌/◌, ◌%◌, ◌≤◌, ◌<◌}
use native.Mathlib.Omega.{arith}
use lib.IntN.{ℤ, pos}
use lib.ListN.{length, set, length-append, length-map, length-set}
use lib.Ieee.{Float}
use Rattle.float.specs.Zero.{+0}
use Rattle.lent.specs.Padded.{padded}
use Rattle.lent.proofs.PaddedLaws.{padded_push}
use Rattle.layout.specs.Bytes.{signed}
use Rattle.sparse_grid.specs.declared.Entry.{Entry}
use Rattle.nanovdb.specs.Tree.{Root, field, root_of}
use Rattle.nanovdb.specs.Decode.{link_of, value_of, blocks_of}
use Rattle.decode.specs.Inner.Rooted.{RootTabs, root_tabs, RootPut}
use Rattle.decode.proofs.nodes.Tables.{map_snoc}

pub blocks_length : (rs : List Root) → length (blocks_of rs) ≡ 3 * length rs
unfolding blocks_of
blocks_length [] = refl
blocks_length (r ∷ rs) = let h = blocks_length rs in omega arith

blocks_snoc : (rs : List Root) (r : Root) → blocks_of (rs ++ (r ∷ [])) ≡ blocks_of rs ++ (r.x ∷ r.y ∷ r.z ∷ [])
unfolding blocks_of
blocks_snoc [] r = refl
blocks_snoc (s ∷ rs) r = ap (λ (l : List ℤ). s.x ∷ s.y ∷ s.z ∷ l) (blocks_snoc rs r)

-- ---- three numbers more

pushed : {A : Type 0} (n : ℕ) (z : A) (l : List A) (at : ℕ) (v : A) → length l ≡ at → at < n → set (padded n z l) at v ≡ padded n z (l ++ (v ∷ []))
pushed n z l at v e h = ap (λ (k : ℕ). set (padded n z l) k v) (sym e) ∙ padded_push n z l v (omega arith)

three : (n : ℕ) (l : List ℤ) (at : ℕ) (x y z : ℤ) → length l ≡ at → at + 3 ≤ n
    → set (set (set (padded n (pos 0) l) at x) (at + 1) y) (at + 2) z ≡ padded n (pos 0) (l ++ (x ∷ y ∷ z ∷ []))
three n l at x y z e h =
    let one : length (l ++ (x ∷ [])) ≡ at + 1 = length-append l (x ∷ []) ∙ ap (λ (k : ℕ). k + 1) e in
    let two : length ((l ++ (x ∷ [])) ++ (y ∷ [])) ≡ at + 2 = length-append (l ++ (x ∷ [])) (y ∷ []) ∙ omega arith in
    ap (λ (t : List ℤ). set (set t (at + 1) y) (at + 2) z) (pushed n (pos 0) l at x e (omega arith))
    ∙ ap (λ (t : List ℤ). set t (at + 2) z) (pushed n (pos 0) (l ++ (x ∷ [])) (at + 1) y one (omega arith))
    ∙ pushed n (pos 0) ((l ++ (x ∷ [])) ++ (y ∷ [])) (at + 2) z two (omega arith)
    ∙ ap (padded n (pos 0)) (append_assoc (l ++ (x ∷ [])) (y ∷ []) (z ∷ []) ∙ append_assoc l (x ∷ []) (y ∷ z ∷ []))

-- ---- one root more

-- the block's three numbers stored
abbrev stored : ℕ → List ℤ → ℤ → ℤ → ℤ → List ℤ
stored i blocks x y z = set (set (set blocks (3 * i) x) (3 * i + 1) y) (3 * i + 2) z

module _ {i : ℕ} (key link : ℕ) (value : Float) (q : RootTabs) {x y z : ℤ}
    (room : 3 * i + 3 ≤ length q.blocks) (rooml : i < length q.links) (roomv : i < length q.values)
    (isx : x ≡ signed 20 (key / 4398046511104 % 1048576)) (isy : y ≡ signed 20 (key / 2097152 % 1048576)) (isz : z ≡ signed 20 (key % 1048576)) where
  stored_length : length (stored i q.blocks x y z) ≡ length q.blocks
  stored_length = simp length-set

  fields : (e : Entry) (r : Root) → r ≡ root_of key e → (x ∷ y ∷ z ∷ []) ≡ (r.x ∷ r.y ∷ r.z ∷ [])
  fields e r is =
      let w : key / 1 % 1048576 ≡ key % 1048576 = omega arith in
      let last : z ≡ field key 0 = isz ∙ ap (signed 20) (sym w) in
      (λ j. isx j ∷ isy j ∷ last j ∷ []) ∙ ap (λ (s : Root). s.x ∷ s.y ∷ s.z ∷ []) (sym is)

  pub root_put : RootPut i key link value q (root_tabs (stored i q.blocks x y z) (set q.links i link) (set q.values i value))
  root_put = record {
    blocks_kept = stored_length;
    links_kept = length-set q.links i link;
    values_kept = length-set q.values i value;
    put = λ rs e h size islink isvalue.
        let n = length q.blocks in
        record {
          blocks =
              ap (λ (t : List ℤ). stored i t x y z) h.blocks
              ∙ three n (blocks_of rs) (3 * i) x y z (blocks_length rs ∙ ap (λ (k : ℕ). 3 * k) size) room
              ∙ ap (λ (l : List ℤ). padded n (pos 0) (blocks_of rs ++ l)) (fields e (root_of key e) refl)
              ∙ ap (padded n (pos 0)) (sym (blocks_snoc rs (root_of key e)))
              ∙ ap (λ (k : ℕ). padded k (pos 0) (blocks_of (rs ++ (root_of key e ∷ [])))) (sym stored_length);
          links = column 0 (λ (r : Root). link_of r.entry) rs e q.links link h.links size rooml islink;
          values = column +0 (λ (r : Root). value_of r.entry) rs e q.values value h.values size roomv isvalue;
        };
  }
    where
      column : {B : Type 0} (nil : B) (f : Root → B) (rs : List Root) (e : Entry) (t : List B) (v : B)
          → t ≡ padded (length t) nil (map f rs) → length rs ≡ i → i < length t → f (root_of key e) ≡ v
          → set t i v ≡ padded (length (set t i v)) nil (map f (rs ++ (root_of key e ∷ [])))
      column {B} nil f rs e t v h size room is =
          ap (λ (s : List B). set s i v) h ∙ pushed (length t) nil (map f rs) i v (length-map rs f ∙ size) room
          ∙ ap (λ (w : B). padded (length t) nil (map f rs ++ (w ∷ []))) (sym is) ∙ ap (padded (length t) nil) (sym (map_snoc f rs (root_of key e)))
          ∙ ap (λ (k : ℕ). padded k nil (map f (rs ++ (root_of key e ∷ [])))) (sym (length-set t i v))
