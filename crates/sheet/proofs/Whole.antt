-- A sheet from its page: zeros after a fault, and otherwise the page on zeros. Assumes nothing.
use mathlib.Core.Path.{◌≡◌, sym, ap, ◌∙◌}
use mathlib.Core.List.{List, [], ◌++◌}
use Prim.Native.Nat.{ℕ, zero, suc, ◌-◌, ◌≤◌, min}
use native.Mathlib.Omega.{arith}
use lib.ListN.{length, drop, replicate, length-replicate}
use lib.Seq.{take_all}
use lib.Ieee.{Float}
use Rattle.refusals.specs.Results.{Result, ok, refused, value_or}
use Rattle.cells.specs.Cells.{Cells}
use Rattle.refusals.proofs.FaultSteps.{passing_stop, passing_on}
use Rattle.float.specs.Zero.{+0}
use Rattle.lent.specs.Padded.{padded}
use Rattle.lent.proofs.PaddedLaws.{padded_none}
use Rattle.text.specs.Page.{Page, page, puts}
use Rattle.text.specs.Written.{Writes}
use Rattle.text.specs.declared.Page as Code
use Rattle.text.proofs.PageLaws.{puts_front}
use Rattle.text.proofs.Writing.{◌then◌, as_text}
use Rattle.sheet.specs.Answers.{length_of}
use Rattle.sheet.specs.Sheet.{head_line, row_lines, most_of, page_of, layer_page, sheet_fault, sheet}
use Rattle.sheet.proofs.Faults.{told}

-- ---- the heading, and the rows below it

pub page_is : (x y k : ℕ) (layer : List Float) {p q r : Code.Page} {g : Float} → g ≡ most_of +0 layer
    → Writes p (head_line k g) q → Writes q (row_lines x g layer y) r → Writes p (page_of x y k layer) r
unfolding page_of
page_is x y k layer m e f = as_text (e then f) (ap (λ (h : Float). head_line k h ++ row_lines x h layer y) m)

-- ---- a text that has room, written to the front of zeros

drop_replicate : (i n : ℕ) → ◌≡◌ {A = List ℕ} (drop i (replicate n 0)) (replicate (n - i) 0)
drop_replicate zero n = let e : n ≡ n - 0 = omega arith in ap (λ (k : ℕ). replicate k 0) e
drop_replicate (suc i) zero = let e : 0 ≡ 0 - suc i = omega arith in ap (λ (k : ℕ). replicate k 0) e
drop_replicate (suc i) (suc n) = let e : n - i ≡ suc n - suc i = omega arith in drop_replicate i n ∙ ap (λ (k : ℕ). replicate k 0) e

on_zeros : (room : ℕ) (bs : List ℕ) → length bs ≤ room → puts (page (replicate room 0) 0) bs ≡ page (padded room 0 bs) (length bs)
unfolding padded
on_zeros room bs h =
    let zeros : List ℕ = replicate room 0 in
    let n : length zeros ≡ room = length-replicate room 0 in
    let most : min (length bs) (length zeros) ≡ length bs = omega arith in
    puts_front zeros bs ∙ (λ i. page (take_all (length zeros) bs (omega arith) i ++ drop_replicate (length bs) room i) (most i))

-- ---- what is answered

module _ (n : Cells) (k : ℕ) (table : List Float) (room : ℕ) where
  abbrev answer : Result (List ℕ)
  answer = sheet n k table room

  -- the clauses of the promise, for an answer that is said
  pub record Prints (said : Result ℕ) (text : List ℕ) : Type 0 where
    pub said_is : said ≡ length_of answer
    pub text_is : text ≡ padded room 0 (value_or [] answer)

  by_answer : {r : Result (List ℕ)} {text : List ℕ} → answer ≡ r → text ≡ padded room 0 (value_or [] r) → Prints (length_of r) text
  by_answer e f = record {
    said_is = sym (ap length_of e);
    text_is = f ∙ sym (ap (λ (s : Result (List ℕ)). padded room 0 (value_or [] s)) e);
  }

  pub refused_out : {m : ℕ} {text : List ℕ} → m ≡ sheet_fault n k table room → (m ≡ 0 → ⊥) → text ≡ replicate room 0 → Prints (refused m) text
  unfolding sheet
  refused_out e some f =
      let stop = passing_stop (sheet_fault n k table room) (ok (layer_page n k table)) (λ z. some (e ∙ z)) in
      by_answer (stop ∙ ap refused (sym e)) (f ∙ sym (padded_none room 0))

  pub page_out : {zeros text : List ℕ} {written : ℕ} → sheet_fault n k table room ≡ 0 → zeros ≡ replicate room 0
      → page text written ≡ puts (page zeros 0) (layer_page n k table) → Prints (ok written) text
  unfolding sheet
  page_out {text = text} e f w =
      let all = w ∙ ap (λ (l : List ℕ). puts (page l 0) (layer_page n k table)) f ∙ on_zeros room (layer_page n k table) (told n k table room e).fits in
      let p = by_answer {text = text} (passing_on (sheet_fault n k table room) (ok (layer_page n k table)) e) (ap (λ (x : Page). x.cells) all) in
      record { said_is = ap ok (ap (λ (x : Page). x.at) all) ∙ p.said_is; text_is = p.text_is }
