-- Zeros, and the pieces of an opened ray over them.
use Rattle.std.proofs.Common.{rules, ℕ, length, refl, sym, ap, subst}
use Rattle.std.specs.Prelude.{Result as Answer}
use Rattle.refusals.specs.Results.{value_or, number_of}
use Rattle.refusals.specs.Numbers.{said_by, fault_of}
use Rattle.refusals.specs.declared.Refusal.{Refusal}
use Rattle.refusals.proofs.Exits.{number_some, exit_is}
use Rattle.medium.specs.Record.{as_medium}
use Rattle.rays.specs.Open.{open_ray}
use Rattle.rays.specs.Run.{pieces}
use Rattle.rays.specs.Trace.{traced, Written}
use Rattle.rays.specs.Answers.{as_beam, as_state}
use Rattle.rays.proofs.Tracing.{zeros, zeros_length, zeros_again, followed_same, refused_written, full_written, all_written, written_same, traced_opened}
use Rattle.rays.proofs.trace.Goals as goal

pub returns-in_err-ray : goal.returns-in_err-ray
unfolding traced
returns-in_err-ray c =
    let o = traced (as_medium c.args.m) (as_beam c.args.beam) c.args.majorants.now (length c.args.ends.now) (length c.args.figures.now) in
    let left : Answer ℕ Refusal → Type 0 = λ r.
    Written o (length c.args.ends.now) (length c.args.figures.now) (fault_of r) (value_or 0 (said_by r)) c.zero.new.table c.zero-2.new.table in
    subst left (sym (exit_is c.from_residual.result _ c.from_residual.ensures.1))
    (refused_written (length c.args.ends.now) (length c.args.figures.now) c.zero.ensures c.zero-2.ensures
    (open_ray (as_medium c.args.m) (as_beam c.args.beam) (length c.args.majorants.now)) _ (ap number_of c.in_err-ray.ensures) (number_some _))

pub pieces_into-requires : goal.pieces_into-requires
pieces_into-requires c = record { ends = zeros _ _ c.zero.ensures; figures = zeros _ _ c.zero-2.ensures }

pub returns-in-Ok : goal.returns-in-Ok
returns-in-Ok c =
    let m = as_medium c.args.m in
    let e = length c.args.ends.now in
    let f = length c.args.figures.now in
    let whole = traced_opened m (as_beam c.args.beam) c.args.majorants.now e f (as_state c.in_ok-ray.ray) (sym c.in_ok-ray.ensures) in
    let followed = followed_same (ap (λ (n : ℕ). pieces n (as_state c.in_ok-ray.ray) c.args.majorants.now) c.most_pieces.ensures)
    (zeros_length _ e c.zero.ensures) (zeros_length _ f c.zero-2.ensures) c.in-Ok.ensures in
    written_same whole (all_written _ e f followed refl)

pub returns-in-Err : goal.returns-in-Err
returns-in-Err c =
    let m = as_medium c.args.m in
    let e = length c.args.ends.now in
    let f = length c.args.figures.now in
    let whole = traced_opened m (as_beam c.args.beam) c.args.majorants.now e f (as_state c.in_ok-ray.ray) (sym c.in_ok-ray.ensures) in
    let followed = followed_same (ap (λ (n : ℕ). pieces n (as_state c.in_ok-ray.ray) c.args.majorants.now) c.most_pieces.ensures)
    (zeros_length _ e c.zero.ensures) (zeros_length _ f c.zero-2.ensures) c.in-Err.ensures in
    written_same whole
    (full_written e f (zeros_again _ _ _ _ (search rules) c.pieces_into.auto.ends c.zero.ensures)
    (zeros_again _ _ _ _ (search rules) c.pieces_into.auto.figures c.zero-2.ensures) _ followed (number_some _))
