-- What one more read takes stands behind what was read before, which stays.
use Rattle.std.proofs.Common.{rules, arith, length-take-le, ◌≤◌, length, take}
use borrow.Rule.Slice.PartMut.{take_put}
use Rattle.input.proofs.InPlace.{in_place, joined}
use Rattle.input.proofs.read_full.Goals as goal

pub loop-n-preserved : goal.loop-n-preserved
loop-n-preserved g c =
    let read = c.in_ok-more.ensures in
    let n = c.loop-n.n in
    let inside : n ≤ length c.loop-n.bytes = omega (arith, c.loop-n-test.true) in
    let stays = take_put _ _ c.loop-n.bytes _ inside in
    let before = take n c.loop-n.bytes in
    let taken = in_place _ _ c.in_ok-more.more before c.read_once.new.bytes _ n (length-take-le n c.loop-n.bytes inside) read.bound.0 read.ok in
    (search rules, search rules, joined _ _ _ c.loop-n.bytes _ n c.in_ok-more.more stays c.loop-n.invariant.2 taken)
