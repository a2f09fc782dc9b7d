-- A grid taken out of a file loads exactly as the same bytes alone, and the claim covers it. Assumes nothing.
use Rattle.std.specs.Prelude.{ℕ, zero, suc, ◌≡◌, refl, List, [], ◌++◌, length}
use Rattle.std.proofs.Common.{sym, ap, ◌∙◌}
use Rattle.refusals.specs.Results.{Result, ok, refused, number_of}
use Rattle.refusals.specs.Faults.{◌then◌, passing}
use Rattle.refusals.proofs.FaultSteps.{then_stop}
use Rattle.contents.specs.Segments.{Part}
use Rattle.contents.specs.Contents.{pick, loaded}
use Rattle.contents.proofs.ContentsLaws as Contents
use Rattle.contents.proofs.Numbers.{pick_some}
use Rattle.nanovdb.specs.Nodes.{Places}
use Rattle.nanovdb.specs.Decode.{Accepted, bytes_fault, decode_scalar, decode_density}
use Rattle.nanovdb.specs.Lent.{Lent, Answer, lent_fault, places_of, decode_into, answer_of, left_of}
use Rattle.claim.specs.Promises.{Handed}
use Rattle.claim.proofs.ContractLaws.{through_contracts}
use Rattle.files.specs.OfFile.{decode_part}
use Rattle.files.specs.ThroughFile.{ThroughFile}

-- ---- the same bytes alone

module _ (decode : List ℕ → Places → Result Accepted) (b : List ℕ) (n : ℕ) (l : Lent) where
  pub part_decodes : {p : Part} → pick b n ≡ ok p → decode_part decode b n l ≡ decode_into decode (loaded b (pick b n)) l
  unfolding decode_part
  part_decodes e = rw e

  pub part_refused : (k : ℕ) → pick b n ≡ refused k → decode_part decode b n l ≡ refused k
  unfolding decode_part
  part_refused k e = rw e

  -- whatever stands before and after the grid's bytes: what the decode answers, and so all that it leaves and all that is built of it
  pub loads_alone : {p : Part} → pick b n ≡ ok p → (before grid after : List ℕ) → b ≡ before ++ (grid ++ after)
      → p.start ≡ length before → p.length ≡ length grid → decode_part decode b n l ≡ decode_into decode grid l
  loads_alone e before grid after s q r =
      part_decodes e ∙ Contents.loads_alone b n e (λ (x : List ℕ). decode_into decode x l) before grid after s q r

-- ---- what is said of a decode and the file's number before it

-- an answer with another number
abbrev pub numbered : ℕ → Answer → Answer
numbered k a = record {
  number = k;
  roots = a.roots;
  upper = a.upper;
  lower = a.lower;
  leaf = a.leaf;
  background = a.background;
  medium = a.medium;
}

-- an answer after a number of the file's
abbrev pub after : ℕ → Answer → Answer
after k a = numbered (k then a.number) a

-- no bytes are too few: a decode of none leaves zeros
abbrev Stopped : Result Accepted → Type 0
Stopped r = (k : ℕ) × (r ≡ refused k)

none_decoded : (l : Lent) → Stopped (decode_into decode_density [] l)
unfolding decode_into decode_density decode_scalar bytes_fault
none_decoded l = go (lent_fault l)
  where
    go : (k : ℕ) → Stopped (passing k (decode_density [] (places_of l)))
    go zero = (2, refl)
    go (suc k) = (suc k, refl)

module _ (b : List ℕ) (n : ℕ) (l : Lent) where
  abbrev alone : Result Part → Result Accepted
  alone r = decode_into decode_density (loaded b r) l

  abbrev of_file : Result Accepted
  of_file = decode_part decode_density b n l

  pub answer_of_file : after (number_of (pick b n)) (answer_of (alone (pick b n))) ≡ answer_of of_file
  answer_of_file = go (pick b n) refl
    where
      go : (r : Result Part) → pick b n ≡ r → after (number_of (pick b n)) (answer_of (alone (pick b n))) ≡ answer_of of_file
      go (ok p) e = ap (λ (r : Result Part). after (number_of r) (answer_of (alone (pick b n)))) e ∙ ap answer_of (sym (part_decodes decode_density b n l e))
      go (refused k) e =
          let (m, none) = none_decoded l in
          ap (λ (r : Result Part). after (number_of r) (answer_of (alone r))) e
          ∙ ap (λ (r : Result Accepted). after k (answer_of r)) none
          ∙ (λ i. answer_of (refused (then_stop k m (pick_some b n k e) i)))
          ∙ ap answer_of (sym (part_refused decode_density b n l k e))

  pub left_of_file : left_of l (alone (pick b n)) ≡ left_of l of_file
  left_of_file = go (pick b n) refl
    where
      go : (r : Result Part) → pick b n ≡ r → left_of l (alone (pick b n)) ≡ left_of l of_file
      go (ok p) e = ap (left_of l) (sym (part_decodes decode_density b n l e))
      go (refused k) e =
          ap (λ (r : Result Part). left_of l (alone r)) e
          ∙ ap (left_of l) (none_decoded l).1
          ∙ ap (left_of l) (sym (part_refused decode_density b n l k e))

-- ---- the claim

-- the claim of the decode of the part's bytes
pub through_file : ThroughFile
through_file b bytes n l a left p s z = go (pick b n) refl
  where
    go : (r : Result Part) → pick b n ≡ r → Handed (loaded b (pick b n)) l a left
    go (refused k) e = absurd (pick_some b n k e (sym (ap (λ (x : Answer). x.number) (p ∙ ap answer_of (part_refused decode_density b n l k e))) ∙ z))
    go (ok q) e =
        let is = part_decodes decode_density b n l e in
        through_contracts (loaded b (pick b n)) (Contents.loaded_bytes b bytes (pick b n)) l a left (p ∙ ap answer_of is) (s ∙ ap (left_of l) is) z
