-- The ways of the definition's `tree`, each from the tests that lead there. Assumes nothing.
use mathlib.Core.Path.{◌≡◌}
use mathlib.Core.List.{List}
use mathlib.Core.Bool.{Bool, true, false, ◌&&◌}
use Prim.Native.Nat.{ℕ, ◌+◌, ◌*◌, ◌≤◌, ◌<◌}
use lib.Dec.{eqb}
use lib.ListN.{length}
use borrow.Author.Tests.{lt-ltb, le-ltb, le-leb, lt-leb}
use Rattle.refusals.specs.Results.{ok, refused}
use Rattle.layout.specs.Bytes.{u32_at}
use Rattle.nanovdb.specs.Nodes.{Places, State, empty, with_span, claim}
use Rattle.nanovdb.specs.Tree.{Roots, tiles_read, tree}
use Rattle.nanovdb.specs.Decode.{root_place}
use Rattle.decode.specs.Inner.WorkTable.{header_span, root_span}

-- how many tiles the root has, and where its span ends
abbrev pub count : List ℕ → ℕ
count b = u32_at b (root_place b + 24)

abbrev pub limit : List ℕ → ℕ
limit b = root_place b + 64 + 32 * count b

-- the state in which the tiles are read
abbrev pub rooted : List ℕ → State
rooted b = with_span (with_span empty header_span) (root_span (root_place b) (limit b))

-- whether the counts in the bytes are those of the nodes that were reached
abbrev pub counted : List ℕ → State → Bool
counted b d = eqb d.leaf_nodes (u32_at b 704) && eqb d.lower_nodes (u32_at b 708) && eqb d.upper_nodes (u32_at b 712)

module _ (b : List ℕ) (p : Places) where
  pub tree_short : length b < 736 → tree b p ≡ refused 5
  unfolding tree claim
  tree_short h = rw (lt-leb 736 (length b) h)

  module _ (long : 736 ≤ length b) where
    pub tree_spanless : p.spans ≤ 0 → tree b p ≡ refused 9
    unfolding tree claim
    tree_spanless h = rw (le-leb 736 (length b) long, le-ltb 0 p.spans h)

    module _ (some : 0 < p.spans) where
      begun : claim b p empty header_span ≡ ok (with_span empty header_span)
      unfolding claim
      begun = rw (le-leb 736 (length b) long, lt-ltb 0 p.spans some)

      pub tree_past : length b < root_place b + 28 → tree b p ≡ refused 5
      unfolding tree
      tree_past h = rw (begun, lt-leb (root_place b + 28) (length b) h)

      module _ (inside : root_place b + 28 ≤ length b) where
        pub tree_root : (e : ℕ) → claim b p (with_span empty header_span) (root_span (root_place b) (limit b)) ≡ refused e → tree b p ≡ refused e
        unfolding tree
        tree_root e c = rw (begun, le-leb (root_place b + 28) (length b) inside, c)

        module _ (claimed : claim b p (with_span empty header_span) (root_span (root_place b) (limit b)) ≡ ok (rooted b)) where
          pub tree_many : p.roots < count b → tree b p ≡ refused 9
          unfolding tree
          tree_many h = rw (begun, le-leb (root_place b + 28) (length b) inside, claimed, lt-leb (count b) p.roots h)

          module _ (few : count b ≤ p.roots) where
            pub tree_tiles : (e : ℕ) → tiles_read b p (root_place b) (count b) (rooted b) ≡ refused e → tree b p ≡ refused e
            unfolding tree
            tree_tiles e t = rw (begun, le-leb (root_place b + 28) (length b) inside, claimed, le-leb (count b) p.roots few, t)

            module _ (r : Roots) (read : tiles_read b p (root_place b) (count b) (rooted b) ≡ ok r) where
              pub tree_counts : counted b r.state ≡ false → tree b p ≡ refused 10
              unfolding tree
              tree_counts e = rw (begun, le-leb (root_place b + 28) (length b) inside, claimed, le-leb (count b) p.roots few, read, e)

              pub tree_read : counted b r.state ≡ true → tree b p ≡ ok r
              unfolding tree
              tree_read e = rw (begun, le-leb (root_place b + 28) (length b) inside, claimed, le-leb (count b) p.roots few, read, e)
