-- What C is told of a grid of a file, proved. Assumes nothing.
use Rattle.std.specs.Prelude.{ℕ, ◌+◌, ◌≤◌, ◌≡◌, refl, List, length, take, drop}
use Rattle.std.proofs.Common.{arith, sym, ap, subst, ◌∙◌}
use Rattle.refusals.specs.Results.{Result, ok, refused, number_of}
use Rattle.layout.specs.Bytes.{Bytes}
use Rattle.contents.specs.Segments.{Part}
use Rattle.contents.specs.Contents.{pick, pick_name, loaded}
use Rattle.contents.proofs.ContentsLaws.{pick_inside, pick_name_inside, loaded_bytes}
use Rattle.contents.proofs.Numbers.{pick_some, pick_name_some}
use Rattle.smokegrid.specs.Promises.{GivesPart}
use Rattle.smokegrid_claim.specs.FileThroughC.{Told, FileThroughC}

-- of a part that lies inside, where no refusal has the number 0
told : (file : List ℕ) → Bytes file → (p : Result Part) (least start size : ℕ)
    → ((q : Part) → p ≡ ok q → (q.start + q.length ≤ length file) × (least ≤ q.length)) → ((k : ℕ) → p ≡ refused k → k ≡ 0 → ⊥)
    → GivesPart p 0 start size → Told file p least start size
told file bytes (ok q) least start size within some g =
    let (inside, long) = within q refl in
    let part : take size (drop start file) ≡ loaded file (ok q) = λ i. take (g.length_is i) (drop (g.start_is i) file) in
    record {
      inside = rw (g.start_is, g.length_is) inside;
      long = rw g.length_is long;
      part = part;
      bytes = subst Bytes (sym part) (loaded_bytes file bytes (ok q));
    }
told file bytes (refused k) least start size within some g = absurd (some k refl (sym g.number_is))

pub file_through_c : FileThroughC
file_through_c file bytes n start size = (
  told file bytes (pick file n) 736 start size (λ q e. pick_inside file n e) (pick_some file n),
  told file bytes (pick_name file n) 1 start size (λ q e. pick_name_inside file n e) (pick_name_some file n),
)
