-- The ways of the definition's `node` and of one of its slots, each from the tests that lead there. Assumes nothing.
use mathlib.Core.Path.{◌≡◌, refl, sym, ap, ◌∙◌, subst}
use mathlib.Core.List.{List, [], ◌∷◌, ◌++◌}
use Prim.Native.Nat.{ℕ, zero, suc, ◌+◌, ◌-◌, ◌*◌, ◌≤◌, ◌<◌}
use native.Mathlib.Omega.{arith}
use lib.Ieee.{Float}
use lib.Dec.{eqb}
use mathlib.Core.Bool.{Bool, true, false, not}
use borrow.Author.Tests.{lt-ltb, le-ltb, eq-eqb, ne_eqb}
use Rattle.refusals.specs.Results.{Result, ok, refused, bind, need}
use Rattle.refusals.specs.ResultLaws.{run_more, run_stop}
use Rattle.layout.specs.Bytes.{u64_at, f32_at, mask_bit}
use Rattle.sparse_grid.specs.declared.Entry.TheVariants.{Child, Tile}
use Rattle.nanovdb.specs.Spans.{at, nowhere, seen}
use Rattle.nanovdb.specs.Nodes.{Places, State, Read, Slots, Reader, claim, with_span, entries_of, mask_of, table_of, nodes_at, places_at}
use Rattle.nanovdb.specs.Nodes.{slot_read, slots_read, placed, leaf_placed, opened, again, node}
use Rattle.nanovdb.proofs.HeldNodes.{span_of, opening}
use Rattle.decode.specs.Inner.Filled.{slot_target, filling, numbered}
use Rattle.decode.proofs.nodes.Levels.{less_one}

-- ---- one slot

module _ (b : List ℕ) (child : Reader) (level source i : ℕ) (now : Slots) where
  pub slot_tile : (v : Float) → mask_bit b (source + mask_of level) i ≡ 0 → v ≡ f32_at b (source + table_of level + 8 * i)
      → slot_read b child level source i now ≡ ok (record { entries = now.entries ++ (Tile v ∷ []); state = now.state })
  slot_tile v clear e = rw (eq-eqb (mask_bit b (source + mask_of level) i) 0 clear, e)

  -- a child: its target, its reader, and its number
  abbrev read : Result Read → Result Slots
  read r = bind r (λ (r : Read). ok (record { entries = now.entries ++ (Child r.number ∷ []); state = r.state }))

  abbrev follow : Result ℕ → Result Slots
  follow target = bind target (λ (to : ℕ). read (child to now.state))

  module _ (set : mask_bit b (source + mask_of level) i ≡ 1) where
    slot_set : slot_read b child level source i now ≡ follow (slot_target source (u64_at b (source + table_of level + 8 * i)))
    slot_set = rw (ne_eqb (mask_bit b (source + mask_of level) i) 0 (λ e. omega arith)) (go (not (eqb (u64_at b (source + table_of level + 8 * i)) 0)) _)
      where
        go : (t : Bool) (r : Result ℕ) → need t 8 (follow r) ≡ follow (need t 8 r)
        go true r = refl
        go false r = refl

    pub slot_off : (e : ℕ) → refused e ≡ slot_target source (u64_at b (source + table_of level + 8 * i)) → slot_read b child level source i now ≡ refused e
    slot_off e t = slot_set ∙ ap follow (sym t)

    pub slot_refused : (to e : ℕ) → ok to ≡ slot_target source (u64_at b (source + table_of level + 8 * i)) → child to now.state ≡ refused e
        → slot_read b child level source i now ≡ refused e
    slot_refused to e t c = slot_set ∙ ap follow (sym t) ∙ ap read c

    pub slot_child : (to : ℕ) (r : Read) → ok to ≡ slot_target source (u64_at b (source + table_of level + 8 * i)) → child to now.state ≡ ok r
        → slot_read b child level source i now ≡ ok (record { entries = now.entries ++ (Child r.number ∷ []); state = r.state })
    slot_child to r t c = slot_set ∙ ap follow (sym t) ∙ ap read c

-- ---- the slots of a node

module _ (b : List ℕ) (child : Reader) (level source : ℕ) (t : State) where
  next : (n : ℕ) → slots_read b child level source (suc n) t ≡ bind (slots_read b child level source n t) (slot_read b child level source n)
  unfolding slots_read
  next n = refl

  pub slots_more : (i : ℕ) (s s' : Slots) → slots_read b child level source i t ≡ ok s → slot_read b child level source i s ≡ ok s'
      → slots_read b child level source (i + 1) t ≡ ok s'
  slots_more = run_more (λ (n : ℕ). slots_read b child level source n t) (slot_read b child level source) next

  slots_stop : (i n e : ℕ) (s : Slots) → slots_read b child level source i t ≡ ok s → slot_read b child level source i s ≡ refused e → i < n
      → slots_read b child level source n t ≡ refused e
  slots_stop = run_stop (λ (n : ℕ). slots_read b child level source n t) (slot_read b child level source) next

-- ---- the node

module _ (level source : ℕ) (b : List ℕ) (p : Places) (d : State) where
  node_is : node level b p source d ≡ again (seen d.spans source level) d (opened b p level source d (filling level b p source))
  unfolding node
  node_is = go level
    where
      go : (level : ℕ) → node level b p source d ≡ again (seen d.spans source level) d (opened b p level source d (filling level b p source))
      go zero = refl
      go (suc l) = refl

  pub node_again : (k : ℕ) → seen d.spans source level ≡ at k → node level b p source d ≡ ok (record { number = k; state = d })
  node_again k e = node_is ∙ rw e

  module _ (new : seen d.spans source level ≡ nowhere) where
    pub node_stops : (e : ℕ) → claim b p d (span_of level source d) ≡ refused e → node level b p source d ≡ refused e
    node_stops e c = node_is ∙ rw (new, c)

    module _ (claimed : claim b p d (span_of level source d) ≡ ok (with_span d (span_of level source d))) where
      pub node_full : places_at p level ≤ nodes_at d level → node level b p source d ≡ refused 9
      node_full h = node_is ∙ rw (new, claimed, le-ltb (nodes_at d level) (places_at p level) h)

      pub node_filled : nodes_at d level < places_at p level
          → node level b p source d ≡ bind (filling level b p source (opening level source d)) (numbered (nodes_at d level))
      node_filled h = node_is ∙ rw (new, claimed, lt-ltb (nodes_at d level) (places_at p level) h)

-- ---- how it is filled: by a leaf's values, or by its slots

pub filled_leaf : (level source : ℕ) (b : List ℕ) (p : Places) (d : State) → level ≡ 0 → filling level b p source d ≡ ok (leaf_placed b source d)
filled_leaf zero source b p d e = refl
filled_leaf (suc l) source b p d e = absurd (omega arith)

module _ (level source : ℕ) (b : List ℕ) (p : Places) (d : State) (above : 0 < level) where
  slots : filling level b p source d
      ≡ bind (slots_read b (node (level - 1) b p) level source (entries_of level) d) (λ (s : Slots). ok (placed level s))
  slots =
      subst (λ (m : ℕ). filling m b p source d ≡ bind (slots_read b (node (level - 1) b p) m source (entries_of m) d) (λ (s : Slots). ok (placed m s)))
      (sym (less_one level above)) refl

  pub filled_broke : (i e : ℕ) (s : Slots) → slots_read b (node (level - 1) b p) level source i d ≡ ok s
      → slot_read b (node (level - 1) b p) level source i s ≡ refused e → i < entries_of level → filling level b p source d ≡ refused e
  filled_broke i e s before stop h =
      slots ∙ ap (λ (r : Result Slots). bind r (λ (s : Slots). ok (placed level s)))
      (slots_stop b (node (level - 1) b p) level source d i (entries_of level) e s before stop h)

  pub filled_ends : (s : Slots) → slots_read b (node (level - 1) b p) level source (entries_of level) d ≡ ok s
      → filling level b p source d ≡ ok (placed level s)
  filled_ends s e = slots ∙ ap (λ (r : Result Slots). bind r (λ (s : Slots). ok (placed level s))) e
