-- 65,536 bytes hold what is printed of any input, by a text for which they have room. Assumes nothing.
use Rattle.std.specs.Prelude.{◌≡◌, refl, Bool, cond, List, ℕ, ◌≤◌, ◌<◌, length, get_or}
use Rattle.std.proofs.Common.{sym, subst, arith, le-leb}
use Rattle.refusals.specs.Results.{Result, ok, refused}
use Rattle.nanovdb.specs.Decode.{Accepted, decode_density}
use Rattle.nanovdb.specs.Lent.{Answer, answer_of, decode_into}
use Rattle.report.specs.Report.{long_line, lent, Says, result_text, printed_of}
use Rattle.report.specs.Room.{Counted, Roomy, refused_room}

text_room : (text : Says) → Roomy text → (b : List ℕ) → ((i : ℕ) → get_or b i 0 < 256) → length b ≤ 32768
    → (r : Result Accepted) → decode_into decode_density b lent ≡ r → Counted (answer_of r) → (answer_of r).roots ≤ 999
    → length (result_text text (length b) r) ≤ 65536
unfolding result_text
text_room text room b bytes size (ok t) e counted few = room b bytes size t e counted few
text_room text room b bytes size (refused k) e counted few = omega (arith, (refused_room k counted.number).most)

-- 65,536 bytes hold it, where the numbers of the decode's answer are u64
pub printed_room : (text : Says) → Roomy text → (b : List ℕ) {a : Answer} → ((i : ℕ) → get_or b i 0 < 256) → length b ≤ 32768
    → a ≡ answer_of (decode_into decode_density b lent) → Counted a → a.roots ≤ 999 → length (printed_of text b) ≤ 65536
unfolding printed_of
printed_room text room b bytes size d counted few =
    let read = decode_into decode_density b lent in
    subst (λ (t : Bool). length (cond t (result_text text (length b) read) long_line) ≤ 65536) (sym (le-leb (length b) 32768 size))
    (text_room text room b bytes size read refl (subst Counted d counted) (subst (λ (x : Answer). x.roots ≤ 999) d few))
