-- The whole text, from the decode's answer and what it left in the tables. Assumes nothing.
use mathlib.Core.Path.{◌≡◌, refl, sym, ap, ◌∙◌, subst}
use mathlib.Core.Bool.{Bool, cond}
use mathlib.Core.List.{List, ◌++◌}
use Prim.Native.Nat.{ℕ, ◌-◌, ◌^◌, ◌≤◌, ◌<◌, min}
use native.Mathlib.Omega.{arith}
use lib.ListN.{length, get_or, take, drop, replicate, length-append}
use borrow.Author.Tests.{le-leb, lt-leb}
use Rattle.refusals.specs.Results.{Result, ok, refused}
use Rattle.refusals.specs.Numbers as Refusals
use Rattle.refusals.specs.declared.Refusal.{Refusal}
use Rattle.refusals.proofs.Exits.{number_some}
use Rattle.lent.specs.Padded.{padded}
use Rattle.sparse_grid.specs.Tables.{Grid}
use Rattle.sparse_grid.specs.Validate.{validate}
use Rattle.nanovdb.specs.Decode.{Accepted, decode_density}
use Rattle.nanovdb.specs.Lent.{Lent, Answer, Tables, places_of, lengths, answer_of, used_of, left_of, decode_into}
use Rattle.nanovdb.specs.Passed.{density_passed}
use Rattle.nanovdb.proofs.Numbers.{Numbered, numbered, not_zero}
use Rattle.nanovdb.proofs.UsedLaws.{accepts, used_parts}
use Rattle.text.specs.Page as Spec
use Rattle.text.proofs.PageLaws.{puts_front}
use Rattle.report.specs.Report.{refused_line, long_line, lent, Says, result_text, printed_of}
use Rattle.report.specs.Inner.{accepted}
use Rattle.report.specs.Room.{Counted, Roomy, long_room}
use Rattle.report.proofs.ClassRoom.{printed_room}

-- ---- what the test of the length decides

module _ (text : Says) where
  abbrev by_size : List ℕ → Bool → List ℕ
  by_size b t = cond t (result_text text (length b) (decode_into decode_density b lent)) long_line

  read_is : (b : List ℕ) {r : Result Accepted} → decode_into decode_density b lent ≡ r → length b ≤ 32768 → result_text text (length b) r ≡ printed_of text b
  unfolding printed_of
  read_is b e h = ap (result_text text (length b)) (sym e) ∙ ap (by_size b) (sym (le-leb (length b) 32768 h))

  pub long_is : (b : List ℕ) → 32768 < length b → long_line ≡ printed_of text b
  unfolding printed_of
  long_is b h = ap (by_size b) (sym (lt-leb (length b) 32768 h))

  pub long_fits : (b : List ℕ) → 32768 < length b → length (printed_of text b) ≤ 65536
  long_fits b h = subst (λ (l : List ℕ). length l ≤ 65536) (long_is b h) long_room

-- ---- what a decode leaves

padded_most : {A : Type 0} (n : ℕ) (z : A) (l : List A) → length (padded n z l) ≡ n → length l ≤ n
unfolding padded
padded_most n z l h = omega (arith, h, length-append l (replicate (n - length l) z))

-- an answer and tables as the decode of b leaves them
pub record Left (b : List ℕ) (a : Answer) (t : Tables) : Type 0 where
  pub answer : a ≡ answer_of (decode_into decode_density b lent)
  pub tables : t ≡ left_of lent (decode_into decode_density b lent)
  pub lengths : lengths t ≡ lent

-- no more is counted than is lent
record Few (a : Answer) : Type 0 where
  counted : Counted a
  roots : a.roots ≤ 999

few_of : (r : Result Accepted) → lengths (left_of lent r) ≡ lent → (answer_of r).number < 2 ^ 64 → Few (answer_of r)
few_of (ok t) h n =
    let upper = padded_most 0 0 t.grid.upper_links (ap (λ (l : Lent). l.upper_links) h) in
    let lower = padded_most 0 0 t.grid.lower_links (ap (λ (l : Lent). l.lower_links) h) in
    let leaf = padded_most 0 _ t.grid.leaf_values (ap (λ (l : Lent). l.leaf_values) h) in
    record {
      counted = record { number = n; upper = omega (arith, upper); lower = omega (arith, lower); leaf = omega (arith, leaf) };
      roots = padded_most 999 0 t.grid.root_links (ap (λ (l : Lent). l.root_links) h);
    }
few_of (refused k) h n = record { counted = record { number = n; upper = omega arith; lower = omega arith; leaf = omega arith }; roots = omega arith }

module _ {b : List ℕ} {a : Answer} {t : Tables} (left : Left b a t) where
  few : a.number < 2 ^ 64 → Few a
  few n =
      subst Few (sym left.answer)
      (few_of (decode_into decode_density b lent) (ap lengths (sym left.tables) ∙ left.lengths) (subst (λ (x : Answer). x.number < 2 ^ 64) left.answer n))

  -- 65,536 bytes hold what is said of it
  pub fits : (text : Says) → Roomy text → ((i : ℕ) → get_or b i 0 < 256) → length b ≤ 32768 → a.number < 2 ^ 64
      → length (printed_of text b) ≤ 65536
  fits text room bytes size n = let f = few n in printed_room text room b bytes size left.answer f.counted f.roots

  -- the grid of the used parts is the accepted one
  grid_read : {g : Grid} → a.number ≡ 0 → g ≡ used_of a t → decode_into decode_density b lent ≡ ok (accepted g a.medium)
  grid_read {g} z u = go (decode_into decode_density b lent) refl (numbered b lent) left.answer left.tables
    where
      go : (r : Result Accepted) → decode_into decode_density b lent ≡ r → Numbered r → a ≡ answer_of r → t ≡ left_of lent r
          → decode_into decode_density b lent ≡ ok (accepted g a.medium)
      go (ok x) e n p q =
          let same = u ∙ (λ i. used_of (p i) (q i)) ∙ used_parts b lent x e in
          e ∙ sym (λ i. ok (accepted (same i) (p i).medium))
      go (refused k) e n p q = absurd (not_zero n (sym (ap (λ (x : Answer). x.number) p) ∙ z))

  pub grid_valid : {g : Grid} → a.number ≡ 0 → g ≡ used_of a t → validate g ≡ 0
  grid_valid {g} z u =
      let x = accepted g a.medium in
      (density_passed b (places_of lent) x (accepts b lent x (grid_read z u))).0.valid

  pub grid_printed : (text : Says) {g : Grid} → a.number ≡ 0 → g ≡ used_of a t → length b ≤ 32768
      → text (length b) (accepted g a.medium) ≡ printed_of text b
  unfolding result_text
  grid_printed text z u h = read_is text b (grid_read z u) h

-- a refusal has its line
pub refusal_printed : (text : Says) (b : List ℕ) (e : Refusal)
    → answer_of (refused (Refusals.number e)) ≡ answer_of (decode_into decode_density b lent) → length b ≤ 32768
    → refused_line (Refusals.number e) ≡ printed_of text b
unfolding result_text
refusal_printed text b e p h = go (decode_into decode_density b lent) refl p
  where
    go : (r : Result Accepted) → decode_into decode_density b lent ≡ r → answer_of (refused (Refusals.number e)) ≡ answer_of r
        → refused_line (Refusals.number e) ≡ printed_of text b
    go (ok x) d q = absurd (number_some e (ap (λ (y : Answer). y.number) q))
    go (refused k) d q = ap refused_line (ap (λ (y : Answer). y.number) q) ∙ read_is text b d h

-- a text at the front of a slice

pub front_value : (l text : List ℕ) (o : List ℕ) (r : ℕ) → Spec.page o r ≡ Spec.puts (Spec.page l 0) text → r ≡ min (length text) (length l)
front_value l text o r e = ap (λ (p : Spec.Page). p.at) (e ∙ puts_front l text)

pub front_cells : (l text : List ℕ) (o : List ℕ) (r : ℕ) → Spec.page o r ≡ Spec.puts (Spec.page l 0) text → o ≡ take (length l) text ++ drop (length text) l
front_cells l text o r e = ap (λ (p : Spec.Page). p.cells) (e ∙ puts_front l text)
