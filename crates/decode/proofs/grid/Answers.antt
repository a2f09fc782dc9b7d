-- What is known on the way through a decode, and the ways out. Assumes nothing.
use Rattle.std.specs.Prelude.{◌≡◌, refl, Bool, ◌&&◌, List, [], ℕ, ◌+◌, ◌*◌, ◌^◌, ◌<◌, ◌≤◌, eqb, ltb, length, Ok, Err, Result as Outcome}
use Rattle.std.proofs.Common.{sym, ap, ◌∙◌, arith, eqb→eq}
use borrow.Author.Tests.{ltb-true}
use lib.Ieee.Bits.{is_true}
use Rattle.refusals.specs.Results.{Result, ok, refused}
use Rattle.refusals.specs.Faults.{unless}
use Rattle.refusals.specs.FaultLaws.{then_zero, unless_zero}
use Rattle.refusals.specs.TestLaws.{and_l, and_r}
use Rattle.refusals.specs.Numbers.{number}
use Rattle.refusals.specs.declared.Refusal.{Refusal}
use Rattle.refusals.proofs.Exits.{number_some}
use Rattle.refusals.proofs.FaultSteps.{passing_stop, passing_on}
use Rattle.sparse_grid.specs.Validate.{density_fault}
use Rattle.nanovdb.specs.Tree.{Roots, tree}
use Rattle.nanovdb.specs.Decode.{Accepted, bytes_fault, tree_fault, root_place, decode_scalar, decode_density}
use Rattle.nanovdb.specs.Lent.{Answer, Lent, Tables, lengths, lent_fault, places_of, decode_into, answer_of, filled, used_of}
use Rattle.nanovdb.proofs.HeldTiles.{tree_holds}
use Rattle.decode.specs.Answers.{counts}
use Rattle.decode.specs.Inner.Filled.{nodes_of, Holds}
use Rattle.decode.specs.Inner.Rooted.{roots_of, RootsHeld}
use Rattle.decode.specs.Inner.TreeRead.{Paired, Zeroed, LendsAll, TreeOut}
use Rattle.decode.specs.Inner.GridRead.{tidied, counts_of, accepted, GridIn}
use Rattle.decode.specs.declared.Decoded.{Decoded}
use Rattle.decode.specs.declared.tree.Tree.{Tree}
use Rattle.decode.proofs.grid.Ways.{accepted_of, of_bytes, of_tree, of_fault, of_accepted, into_lent, into_places, of_scalar}
use Rattle.decode.proofs.grid.Parts.{accepted_by, parts, left, answers}

-- ---- what the first two tests say

pub pairs : (l : Lent) → lent_fault l ≡ 0 → Paired l
unfolding lent_fault
pairs l e =
    let all = unless_zero (roots && blocks && upper && lower) 17 e in
    let three = and_l (roots && blocks && upper) lower all in
    let two = and_l (roots && blocks) upper three in
    record {
      blocks = eqb→eq l.blocks (3 * l.root_links) (and_r roots blocks two);
      roots = sym (eqb→eq l.root_links l.root_values (and_l roots blocks two));
      upper = sym (eqb→eq l.upper_links l.upper_values (and_r (roots && blocks) upper three));
      lower = sym (eqb→eq l.lower_links l.lower_values (and_r (roots && blocks && upper) lower all));
    }
  where
    roots : Bool
    roots = eqb l.root_links l.root_values

    blocks : Bool
    blocks = eqb l.blocks (3 * l.root_links)

    upper : Bool
    upper = eqb l.upper_links l.upper_values

    lower : Bool
    lower = eqb l.lower_links l.lower_values

pub short : (b : List ℕ) → bytes_fault b ≡ 0 → length b < 4294967296
unfolding bytes_fault
short b e =
    let small = ltb (length b) (2 ^ 32) in
    ltb-true (length b) (2 ^ 32) (is_true small (unless_zero small 0 (then_zero (unless small 1) _ e).0))

-- ---- what is known on the way

-- the lengths and the header have passed, and the tables hold zeros
pub record Begun (b : List ℕ) (t : Tables) : Type 0 where
  pub paired : 0 ≡ lent_fault (lengths t)
  pub passed : 0 ≡ bytes_fault b
  pub zeroed : Zeroed (nodes_of t) (roots_of t)

-- the tree reader has answered `read`, and left the tables u
pub record Got (b : List ℕ) (t u : Tables) (read : Outcome Tree Refusal) : Type 0 where
  pub begun : Begun b t
  pub kept : lengths u ≡ lengths t
  pub says : TreeOut b (nodes_of t) (roots_of t) (nodes_of u) (roots_of u) read

-- ---- the ways out

pub out-lent : (b : List ℕ) (t : Tables) (e : Refusal) → number e ≡ lent_fault (lengths t) → decode_into decode_scalar b (lengths t) ≡ refused (number e)
out-lent b t e is = into_lent decode_scalar b (lengths t) (λ z. number_some e (is ∙ z)) ∙ ap refused (sym is)

into : (b : List ℕ) (t : Tables) → 0 ≡ lent_fault (lengths t) → {r : Result Accepted} → decode_scalar b (places_of (lengths t)) ≡ r
    → decode_into decode_scalar b (lengths t) ≡ r
into b t paired e = into_places decode_scalar b (lengths t) (sym paired) ∙ e

pub out-bytes : (b : List ℕ) (t : Tables) (e : Refusal) → 0 ≡ lent_fault (lengths t) → number e ≡ bytes_fault b
    → decode_into decode_scalar b (lengths t) ≡ refused (number e)
out-bytes b t e paired is =
    into b t paired (of_bytes b (places_of (lengths t)) (λ z. number_some e (is ∙ z)) ∙ ap refused (sym is))

-- the places of the tables
lends : (t : Tables) → LendsAll (nodes_of t) (roots_of t) (places_of (lengths t))
lends t = record { nodes = record { spans = refl; upper = refl; lower = refl; leaf = refl }; roots = refl }

pub out-tree : {b : List ℕ} {t u : Tables} {e : Refusal} → Got b t u (Err e) → decode_into decode_scalar b (lengths t) ≡ refused (number e)
out-tree {b} {t} {u} {e} got =
    let p = places_of (lengths t) in
    into b t got.begun.paired (of_tree b p (sym got.begun.passed) (number e) (got.says p (lends t) got.begun.zeroed))

module _ {b : List ℕ} {t u : Tables} {x : Tree} (got : Got b t u (Ok x)) where
  given : (r : Roots) × (tree b (places_of (lengths t)) ≡ ok r) × Holds (nodes_of u) x.nodes r.state [] []
      × RootsHeld (roots_of u) r.roots × (x.root ≡ root_place b) × (x.root + 28 ≤ length b) × (length r.roots ≡ x.roots)
  given = got.says (places_of (lengths t)) (lends t) got.begun.zeroed

  pub root-fits : x.root < 4294967296
  root-fits = let (r, tree_is, holds, roots, place, inside, size) = given in omega (arith, inside, short b (sym got.begun.passed))

  module _ (d : Decoded) (counted : counts d ≡ counts_of b x) where
    -- the used parts are the definition's grid
    same : accepted d u ≡ accepted_of b given.0
    same =
        let (r, tree_is, holds, roots, place, inside, size) = given in
        ap (λ (a : Answer). accepted_by a u) counted
        ∙ parts b x u r holds roots place size (tree_holds b (places_of (lengths t)) r tree_is).keeps

    pub out_fault : (e : Refusal) → number e ≡ tree_fault (accepted d u) → decode_into decode_scalar b (lengths t) ≡ refused (number e)
    out_fault e fault =
        let (r, tree_is, holds, roots, place, inside, size) = given in
        let f = fault ∙ ap tree_fault same in
        into b t got.begun.paired
        (of_fault b (places_of (lengths t)) (sym got.begun.passed) r tree_is (λ z. number_some e (f ∙ z)) ∙ ap refused (sym f))

    pub out-accepted : 0 ≡ tree_fault (accepted d u) → GridIn decode_scalar b t u d
    out-accepted fault =
        let (r, tree_is, holds, roots, place, inside, size) = given in
        let p = places_of (lengths t) in
        let keeps = (tree_holds b p r tree_is).keeps in
        let f = of_accepted b p (sym got.begun.passed) r tree_is (sym (fault ∙ ap tree_fault same)) in
        record {
          is = into b t got.begun.paired f ∙ ap ok (sym same);
          says = counted ∙ answers b x u r holds roots place size keeps ∙ ap (λ (a : Accepted). answer_of (ok a)) (sym same);
          left = ap (λ (a : Answer). tidied u a.leaf) counted ∙ left b x u r holds roots place size keeps
              ∙ ap (λ (k : Lent). filled k (accepted_of b r).grid) got.kept ∙ ap (λ (a : Accepted). filled (lengths t) a.grid) (sym same);
        }

-- ---- a density grid

module _ (b : List ℕ) (t : Tables) where
  pub dense-refused : (e : Refusal) → decode_into decode_scalar b (lengths t) ≡ refused (number e)
      → decode_into decode_density b (lengths t) ≡ refused (number e)
  dense-refused e is = of_scalar b (lengths t) is

  module _ (u : Tables) (d : Decoded) (out : GridIn decode_scalar b t u d) where
    pub dense-fault : (e : Refusal) → number e ≡ density_fault (used_of (counts d) u)
        → decode_into decode_density b (lengths t) ≡ refused (number e)
    dense-fault e fault =
        of_scalar b (lengths t) out.is ∙ passing_stop (density_fault (used_of (counts d) u)) (ok (accepted d u)) (λ z. number_some e (fault ∙ z))
        ∙ ap refused (sym fault)

    pub dense-accepted : 0 ≡ density_fault (used_of (counts d) u) → GridIn decode_density b t u d
    dense-accepted fault = record {
      is = of_scalar b (lengths t) out.is ∙ passing_on (density_fault (used_of (counts d) u)) (ok (accepted d u)) (sym fault);
      says = out.says;
      left = out.left;
    }
