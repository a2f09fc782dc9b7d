-- 23 and 18, the end, 18 for a state that is not sound, or the piece along the axis of the first crossing.
use Rattle.std.proofs.Common.{ap, ◌∙◌, arith}
use Rattle.refusals.proofs.Exits.{number_some, exit_is}
use Rattle.medium.specs.Medium.{x_axis, y_axis, z_axis}
use Rattle.rays.specs.Ray.{goes_on}
use Rattle.rays.specs.Held.{Held}
use Rattle.rays.specs.Answers.{as_track, as_state, step_said}
use Rattle.rays.proofs.Nexts.{sound_by, table_stops, table_small, ended, unsound, held, inside, went}
use Rattle.rays.proofs.state.Ray.next_piece.Goals as goal

pub returns-in_err-check_table : goal.returns-in_err-check_table
returns-in_err-check_table c =
    ap step_said (exit_is c.from_residual.result _ c.from_residual.ensures.1)
    ∙ table_stops (as_state c.args.self) c.args.majorants.now c.in_err-check_table.ensures (number_some _)

pub returns-then-t_max-t_min : goal.returns-then-t_max-t_min
returns-then-t_max-t_min c = ended (as_state c.args.self) c.args.majorants.now c.in_ok-check_table.ensures c.if-t_max-t_min.true

pub returns-then-not-sound : goal.returns-then-not-sound
returns-then-not-sound c =
    unsound (as_state c.args.self) c.args.majorants.now c.in_ok-check_table.ensures c.if-t_max-t_min.false
    (sound_by (as_state c.args.self) c.is_sound.ensures c.is_sound-2.ensures c.is_sound-3.ensures c.if-not-sound.true)

pub place_of-at-requires-clause-fact_1 : goal.place_of-at-requires-clause-fact_1
place_of-at-requires-clause-fact_1 c =
    held (as_state c.args.self) c.args.majorants.now c.in_ok-check_table.ensures
    (sound_by (as_state c.args.self) c.is_sound.ensures c.is_sound-2.ensures c.is_sound-3.ensures c.if-not-sound.false) x_axis

pub place_of-at-requires-clause-fact_2 : goal.place_of-at-requires-clause-fact_2
place_of-at-requires-clause-fact_2 c =
    held (as_state c.args.self) c.args.majorants.now c.in_ok-check_table.ensures
    (sound_by (as_state c.args.self) c.is_sound.ensures c.is_sound-2.ensures c.is_sound-3.ensures c.if-not-sound.false) y_axis

pub place_of-at-requires-clause-fact_3 : goal.place_of-at-requires-clause-fact_3
place_of-at-requires-clause-fact_3 c =
    held (as_state c.args.self) c.args.majorants.now c.in_ok-check_table.ensures
    (sound_by (as_state c.args.self) c.is_sound.ensures c.is_sound-2.ensures c.is_sound-3.ensures c.if-not-sound.false) z_axis

pub offset_bounds-majorants-at : goal.offset_bounds-majorants-at
offset_bounds-majorants-at c =
    let sound = sound_by (as_state c.args.self) c.is_sound.ensures c.is_sound-2.ensures c.is_sound-3.ensures c.if-not-sound.false in
    let within = inside (as_state c.args.self) c.args.majorants.now c.in_ok-check_table.ensures sound c.place_of-at.ensures in
    omega (arith, within, table_small (as_state c.args.self) c.args.majorants.now c.in_ok-check_table.ensures)

pub bounds-majorants-at : goal.bounds-majorants-at
bounds-majorants-at c =
    inside (as_state c.args.self) c.args.majorants.now c.in_ok-check_table.ensures
    (sound_by (as_state c.args.self) c.is_sound.ensures c.is_sound-2.ensures c.is_sound-3.ensures c.if-not-sound.false) c.place_of-at.ensures

pub advanced-requires : goal.advanced-requires
advanced-requires c =
    held (as_state c.args.self) c.args.majorants.now c.in_ok-check_table.ensures
    (sound_by (as_state c.args.self) c.is_sound.ensures c.is_sound-2.ensures c.is_sound-3.ensures c.if-not-sound.false) x_axis

pub stepped-stepped-requires : goal.stepped-stepped-requires
stepped-stepped-requires c =
    held (as_state c.args.self) c.args.majorants.now c.in_ok-check_table.ensures
    (sound_by (as_state c.args.self) c.is_sound.ensures c.is_sound-2.ensures c.is_sound-3.ensures c.if-not-sound.false) x_axis

pub returns-in-X : goal.returns-in-X
returns-in-X c =
    let s = as_state c.args.self in
    let stepped = c.stepped-stepped.ensures in
    went s c.args.majorants.now c.in_ok-check_table.ensures c.if-t_max-t_min.false
    (sound_by s c.is_sound.ensures c.is_sound-2.ensures c.is_sound-3.ensures c.if-not-sound.false)
    x_axis c.in-X.ensures c.place_of-at.ensures stepped.piece
    (stepped.ray ∙ (λ i. record {
      t_min = goes_on s.t_max s.x;
      t_max = s.t_max;
      x = c.advanced.ensures i;
      y = as_track c.args.self.y;
      z = as_track c.args.self.z;
    }))

pub advanced-requires-in-Y : goal.advanced-requires-in-Y
advanced-requires-in-Y c =
    let h : Held (as_track c.args.self.y) = held (as_state c.args.self) c.args.majorants.now c.in_ok-check_table.ensures
    (sound_by (as_state c.args.self) c.is_sound.ensures c.is_sound-2.ensures c.is_sound-3.ensures c.if-not-sound.false) y_axis in
    record { fine = h.fine; few = h.few }

pub stepped-stepped-requires-in-Y : goal.stepped-stepped-requires-in-Y
stepped-stepped-requires-in-Y c =
    held (as_state c.args.self) c.args.majorants.now c.in_ok-check_table.ensures
    (sound_by (as_state c.args.self) c.is_sound.ensures c.is_sound-2.ensures c.is_sound-3.ensures c.if-not-sound.false) y_axis

pub returns-in-Y : goal.returns-in-Y
returns-in-Y c =
    let s = as_state c.args.self in
    let stepped = c.stepped-stepped-in-Y.ensures in
    went s c.args.majorants.now c.in_ok-check_table.ensures c.if-t_max-t_min.false
    (sound_by s c.is_sound.ensures c.is_sound-2.ensures c.is_sound-3.ensures c.if-not-sound.false)
    y_axis c.in-Y.ensures c.place_of-at.ensures stepped.piece
    (stepped.ray ∙ (λ i. record {
      t_min = goes_on s.t_max s.y;
      t_max = s.t_max;
      x = as_track c.args.self.x;
      y = c.advanced-in-Y.ensures i;
      z = as_track c.args.self.z;
    }))

pub advanced-requires-in-Z : goal.advanced-requires-in-Z
advanced-requires-in-Z c =
    held (as_state c.args.self) c.args.majorants.now c.in_ok-check_table.ensures
    (sound_by (as_state c.args.self) c.is_sound.ensures c.is_sound-2.ensures c.is_sound-3.ensures c.if-not-sound.false) z_axis

pub stepped-stepped-requires-in-Z : goal.stepped-stepped-requires-in-Z
stepped-stepped-requires-in-Z c =
    held (as_state c.args.self) c.args.majorants.now c.in_ok-check_table.ensures
    (sound_by (as_state c.args.self) c.is_sound.ensures c.is_sound-2.ensures c.is_sound-3.ensures c.if-not-sound.false) z_axis

pub returns-in-Z : goal.returns-in-Z
returns-in-Z c =
    let s = as_state c.args.self in
    let stepped = c.stepped-stepped-in-Z.ensures in
    went s c.args.majorants.now c.in_ok-check_table.ensures c.if-t_max-t_min.false
    (sound_by s c.is_sound.ensures c.is_sound-2.ensures c.is_sound-3.ensures c.if-not-sound.false)
    z_axis c.in-Z.ensures c.place_of-at.ensures stepped.piece
    (stepped.ray ∙ (λ i. record {
      t_min = goes_on s.t_max s.z;
      t_max = s.t_max;
      x = as_track c.args.self.x;
      y = as_track c.args.self.y;
      z = c.advanced-in-Z.ensures i;
    }))
