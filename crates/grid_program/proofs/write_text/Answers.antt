-- The bytes that are read are the front of the input, and the text of those is the input's.
use Rattle.std.specs.Prelude.{ℕ, List, replicate}
use Rattle.std.proofs.lemmas.List.{length-replicate}
use Rattle.grid_program.proofs.Front.{stands, written}
use Rattle.grid_program.proofs.write_text.Goals as goal

pub returns : goal.returns
returns g c =
    let p = c.printed-n.ensures in
    let empty : List ℕ = replicate 65536 0 in
    written g.T.Text.text c.write_all.result (g.R.Read.remaining c.args.input) _ _ _ _ c.in_ok-read.ensures.front
    (stands _ empty p.value p.out_after p.bytes_len_bound (length-replicate {A = ℕ} 65536 0)) c.write_all.ensures.bytes
