-- 18 for another length, and otherwise the step: a piece, the ray's end, or a refusal.
use Rattle.std.specs.Prelude.{Ok}
use Rattle.std.proofs.Common.{rules, refl, sym, ap, ◌∙◌}
use lib.Ieee.{binary32}
use Rattle.float.proofs.Literal.{zero_literal}
use Rattle.rays.specs.Ray.{next}
use Rattle.rays.specs.Answers.{as_state, step_said}
use Rattle.smokegrid.specs.FlatRay.{times_of, words_of}
use Rattle.smokegrid.proofs.Rayed.{After, next_stops, next_goes, next_out, few_after, few_over}
use Rattle.smokegrid.proofs.smokegrid_ray_next.Goals as goal

pub returns-then-not-is_ray : goal.returns-then-not-is_ray
returns-then-not-is_ray c =
    let a = c.args in
    let z = zero_literal binary32 in
    let after : After a.majorants.now a.ray_times.now a.ray_cells.now _ _ _ =
    record { number = c.number.ensures; times = c.zero.ensures; numbers = c.zero-then-not-is_ray.ensures; more = refl; from = z; to = z; figure = z } in
    next_out a.majorants.now a.ray_times.now a.ray_cells.now
    (next_stops a.majorants.now a.ray_times.now a.ray_cells.now (sym c.is_ray.ensures ∙ c.if-not-is_ray.true)) after

pub put_numbers-requires-clause-few : goal.put_numbers-requires-clause-few
put_numbers-requires-clause-few c =
    few_after (as_state c.ray_from-ray.result) c.args.majorants.now (ap (λ o. step_said (Ok o)) (sym c.in-Ok-Some.field-0-is) ∙ c.in-Ok-Some.ensures)

pub put_numbers-requires-in-Ok-None-clause-few : goal.put_numbers-requires-in-Ok-None-clause-few
put_numbers-requires-in-Ok-None-clause-few c =
    few_over (as_state c.ray_from-ray.result) c.args.majorants.now (ap (λ o. step_said (Ok o)) (sym c.in-Ok-None.field-0-is) ∙ c.in-Ok-None.ensures)

pub returns-in-Ok-Some : goal.returns-in-Ok-Some
returns-in-Ok-Some c =
    let a = c.args in
    let after : After a.majorants.now a.ray_times.now a.ray_cells.now _ _ _ =
    record { number = refl; times = c.put_times.ensures; numbers = c.put_numbers.ensures; more = refl; from = refl; to = refl; figure = refl } in
    next_out a.majorants.now a.ray_times.now a.ray_cells.now
    (ap (λ o. step_said (Ok o)) (sym c.in-Ok-Some.field-0-is) ∙ c.in-Ok-Some.ensures ∙ ap (λ s. next s a.majorants.now) c.ray_from-ray.ensures
    ∙ next_goes a.majorants.now a.ray_times.now a.ray_cells.now (sym c.is_ray.ensures ∙ c.if-not-is_ray.false)) after

pub returns-in-Ok-None : goal.returns-in-Ok-None
returns-in-Ok-None c =
    let a = c.args in
    let z = zero_literal binary32 in
    let times = c.put_times-in-Ok-None.ensures ∙ ap times_of c.ray_from-ray.ensures in
    let numbers = c.put_numbers-in-Ok-None.ensures ∙ ap words_of c.ray_from-ray.ensures in
    let after : After a.majorants.now a.ray_times.now a.ray_cells.now _ _ _ =
    record { number = refl; times = times; numbers = numbers; more = refl; from = z; to = z; figure = z } in
    next_out a.majorants.now a.ray_times.now a.ray_cells.now
    (ap (λ o. step_said (Ok o)) (sym c.in-Ok-None.field-0-is) ∙ c.in-Ok-None.ensures ∙ ap (λ s. next s a.majorants.now) c.ray_from-ray.ensures
    ∙ next_goes a.majorants.now a.ray_times.now a.ray_cells.now (sym c.is_ray.ensures ∙ c.if-not-is_ray.false)) after

pub returns-in-Err : goal.returns-in-Err
returns-in-Err c =
    let a = c.args in
    let z = zero_literal binary32 in
    let after : After a.majorants.now a.ray_times.now a.ray_cells.now _ _ _ =
    record { number = c.number-in-Err.ensures; times = c.zero-in-Err.ensures; numbers = search rules; more = refl; from = z; to = z; figure = z } in
    next_out a.majorants.now a.ray_times.now a.ray_cells.now
    (c.in-Err.ensures ∙ ap (λ s. next s a.majorants.now) c.ray_from-ray.ensures
    ∙ next_goes a.majorants.now a.ray_times.now a.ray_cells.now (sym c.is_ray.ensures ∙ c.if-not-is_ray.false)) after
