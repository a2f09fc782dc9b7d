-- Each turn stores one piece more, until none is left or a table is full.
use Rattle.std.proofs.Common.{◌≡◌, ℕ, suc, ◌+◌, ◌-◌, length, refl, sym, ap, ◌∙◌, subst, inl, inr, arith}
use Rattle.std.specs.Prelude.{Ok}
use Rattle.rays.specs.Followed.{Followed}
use Rattle.rays.specs.Run.{pieces}
use Rattle.rays.specs.Answers.{as_piece, as_state, step_said}
use Rattle.rays.proofs.Tracing.{begin, go_on, full, stop, none_left, pieces_zero}
use Rattle.rays.proofs.follow.pieces_into.Goals as goal
use Rattle.rays.proofs.follow.pieces_into.Goals.{then-i-ends-via-then-i-ends, then-i-ends-via-else-i-ends+then-i-figures}

pub loop-i-init : goal.loop-i-init
loop-i-init c = begin c.args.most c.args.majorants.now (as_state c.args.ray) c.args.ends.now c.args.figures.now c.requires.ends c.requires.figures

pub returns-in-Ok-None : goal.returns-in-Ok-None
returns-in-Ok-None c =
    let k : c.args.most - c.loop-i.i ≡ suc (c.args.most - (c.loop-i.i + 1)) = omega arith in
    let over = ap (λ o. step_said (Ok o)) (sym c.in-Ok-None.field-0-is) ∙ c.in-Ok-None.ensures in
    stop _ _ _ _ _ _ _ _ _ c.loop-i.invariant (ap (λ (n : ℕ). pieces n (as_state c.loop-i.at) c.args.majorants.now) k
    ∙ none_left (c.args.most - (c.loop-i.i + 1)) _ _ _ over refl)

pub returns-in-Err : goal.returns-in-Err
returns-in-Err c =
    let k : c.args.most - c.loop-i.i ≡ suc (c.args.most - (c.loop-i.i + 1)) = omega arith in
    stop _ _ _ _ _ _ _ _ _ c.loop-i.invariant (ap (λ (n : ℕ). pieces n (as_state c.loop-i.at) c.args.majorants.now) k
    ∙ none_left (c.args.most - (c.loop-i.i + 1)) _ _ _ c.in-Err.ensures refl)

pub returns-then-i-ends : goal.returns-then-i-ends
returns-then-i-ends c =
    let stepped = ap (λ o. step_said (Ok o)) (sym c.in-Ok-Some.field-0-is) ∙ c.in-Ok-Some.ensures in
    let p = as_piece c.in-Ok-Some.piece in
    let s' = as_state c.in-Ok-Some.rest in
    full _ _ _ _ _ _ _ _ _ c.loop-i.invariant {p = p} {s' = s'} stepped c.loop-i-test.true (elim c.then-i-ends.branch [
      | then-i-ends-via-then-i-ends w ↦ inl (omega arith)
      | then-i-ends-via-else-i-ends+then-i-figures w ↦ inr (omega arith)
    ])

pub loop-i-preserved : goal.loop-i-preserved
loop-i-preserved c =
    let stepped = ap (λ o. step_said (Ok o)) (sym c.in-Ok-Some.field-0-is) ∙ c.in-Ok-Some.ensures in
    let p = as_piece c.in-Ok-Some.piece in
    let s' = as_state c.in-Ok-Some.rest in
    go_on _ _ _ _ _ _ _ _ _ c.loop-i.invariant {p = p} {s' = s'} stepped c.loop-i-test.true (omega arith) (omega arith)

pub returns : goal.returns
returns c =
    let k : c.args.most - c.loop-i.i ≡ 0 = omega arith in
    let done : c.loop-i.i ≡ c.args.most = omega (arith, c.loop-i.invariant.within) in
    let all = pieces c.args.most (as_state c.args.ray) c.args.majorants.now in
    subst (λ (n : ℕ). Followed all (length c.args.ends.now) (length c.args.figures.now) 0 n c.loop-i.ends c.loop-i.figures) done
    (stop _ _ _ _ _ _ _ _ _ c.loop-i.invariant (ap (λ (n : ℕ). pieces n (as_state c.loop-i.at) c.args.majorants.now) k ∙ pieces_zero _ _))
