-- The numbers of a file's refusals are 19, 20 and 21, and no other. Assumes nothing.
use Rattle.std.specs.Prelude.{◌≡◌, refl, ◌⊎◌, Bool, true, false, List, [], ◌∷◌, ℕ, zero, suc, ◌-◌, eqb, ltb, length}
use Rattle.std.proofs.Common.{sym, ap, ◌∙◌, inl, inr, arith}
use Rattle.refusals.specs.Results.{Result, ok, refused, number_of, bind}
use Rattle.refusals.specs.ResultLaws.{stopped}
use Rattle.refusals.specs.Faults.{◌then◌, unless, first_fault, passing}
use Rattle.refusals.proofs.FaultSteps.{then_next, then_stop}
use Rattle.contents.specs.Segments.{Part, Grid, count, codec, size, header_passes, entry_passes, body_passes, entry_at, body_at}
use Rattle.contents.specs.Segments.{entries_fault, bodies_fault, segment_fault}
use Rattle.contents.specs.Contents.{segments_from, segments_fault, grid_of, file_fault, located, pick, pick_name}
use Rattle.contents.proofs.ContentsLaws.{cond_cases}

-- a fault of a segment: none, 19 or 20
abbrev Known : ℕ → Type 0
Known k = (k ≡ 0) ⊎ ((k ≡ 19) ⊎ (k ≡ 20))

no_fault : Known 0
no_fault = inl refl

bad_file : Known 19
bad_file = inr (inl refl)

bad_codec : Known 20
bad_codec = inr (inr refl)

some : (a : ℕ) → (a ≡ 19) ⊎ (a ≡ 20) → a ≡ 0 → ⊥
some a r z = elim r [ inl e ↦ omega arith | inr e ↦ omega arith ]

known_then : (a b : ℕ) → Known a → Known b → Known (a then b)
known_then a b p q = elim p [ inl e ↦ rw (then_next a b e) q | inr r ↦ rw (then_stop a b (some a r)) (inr r) ]

known_unless : (t : Bool) (k : ℕ) → Known k → Known (unless t k)
known_unless true k h = no_fault
known_unless false k h = h

-- a row of tests, each of whose failures is 19
known_row : (p : ℕ → Bool) (n : ℕ) → Known (first_fault n (λ i. unless (p i) 19))
unfolding first_fault
known_row p zero = no_fault
known_row p (suc n) = known_then (first_fault n (λ i. unless (p i) 19)) (unless (p n) 19) (known_row p n) (known_unless (p n) 19 bad_file)

known_segment : (b : List ℕ) (at : ℕ) → Known (segment_fault b at)
unfolding segment_fault
known_segment b at =
    known_then (unless (header_passes b at) 19) (entries_fault b at then (unless (eqb (codec b at) 0) 20 then bodies_fault b at))
    (known_unless (header_passes b at) 19 bad_file)
    (known_then (entries_fault b at) (unless (eqb (codec b at) 0) 20 then bodies_fault b at)
    (known_row (λ i. entry_passes b at (entry_at b at i)) (count b at))
    (known_then (unless (eqb (codec b at) 0) 20) (bodies_fault b at) (known_unless (eqb (codec b at) 0) 20 bad_codec)
    (known_row (λ i. body_passes (length b) (body_at b at i) (size b (entry_at b at i))) (count b at))))

known_segments : (b l : List ℕ) → Known (segments_fault b l)
unfolding segments_fault
known_segments b [] = no_fault
known_segments b (at ∷ rest) = known_then (segment_fault b at) (segments_fault b rest) (known_segment b at) (known_segments b rest)

pub known_file : (b : List ℕ) → Known (file_fault b)
unfolding file_fault
known_file b =
    known_then (unless (ltb 0 (length b)) 19) (segments_fault b (segments_from b 0)) (known_unless (ltb 0 (length b)) 19 bad_file)
    (known_segments b (segments_from b 0))

not_found : (b l : List ℕ) (n k : ℕ) → grid_of b l n ≡ refused k → k ≡ 21
unfolding grid_of
not_found b [] n k e = sym (ap number_of e)
not_found b (at ∷ rest) n k e = elim (cond_cases (ltb n (count b at)) e) [
  | inl q ↦ absurd (stopped (sym q.1))
  | inr q ↦ not_found b rest (n - count b at) k q.1
]

-- one law for the body and the name
number_of_lem : (of : Grid → Part) (b : List ℕ) (n k : ℕ) → bind (located b n) (λ (g : Grid). ok (of g)) ≡ refused k
    → (k ≡ 19) ⊎ ((k ≡ 20) ⊎ (k ≡ 21))
unfolding located
number_of_lem of b n k e = go (file_fault b) (known_file b) (grid_of b (segments_from b 0) n) (not_found b (segments_from b 0) n k) e
  where
    go : (f : ℕ) → Known f → (r : Result Grid) → (r ≡ refused k → k ≡ 21) → bind (passing f r) (λ (g : Grid). ok (of g)) ≡ refused k
        → (k ≡ 19) ⊎ ((k ≡ 20) ⊎ (k ≡ 21))
    go zero h (ok g) m e = absurd (stopped (sym e))
    go zero h (refused j) m e = inr (inr (m (ap refused (ap number_of e))))
    go (suc f) h r m e =
        let same : suc f ≡ k = ap number_of e in
        elim h [
          | inl z ↦ absurd (omega arith)
          | inr s ↦ elim s [ inl p ↦ inl (sym same ∙ p) | inr p ↦ inr (inl (sym same ∙ p)) ]
        ]

module _ (b : List ℕ) (n k : ℕ) where
  pub pick_number : pick b n ≡ refused k → (k ≡ 19) ⊎ ((k ≡ 20) ⊎ (k ≡ 21))
  unfolding pick
  pick_number e = number_of_lem (λ (g : Grid). g.body) b n k e

  pub pick_name_number : pick_name b n ≡ refused k → (k ≡ 19) ⊎ ((k ≡ 20) ⊎ (k ≡ 21))
  unfolding pick_name
  pick_name_number e = number_of_lem (λ (g : Grid). g.name) b n k e

  not_zero : (k ≡ 19) ⊎ ((k ≡ 20) ⊎ (k ≡ 21)) → k ≡ 0 → ⊥
  not_zero h z = elim h [ inl p ↦ omega arith | inr q ↦ elim q [ inl p ↦ omega arith | inr p ↦ omega arith ] ]

  -- none of them is 0
  pub pick_some : pick b n ≡ refused k → k ≡ 0 → ⊥
  pick_some e = not_zero (pick_number e)

  pub pick_name_some : pick_name b n ≡ refused k → k ≡ 0 → ⊥
  pick_name_some e = not_zero (pick_name_number e)
