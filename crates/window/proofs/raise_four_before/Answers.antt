-- The four places before are among the w, and their tables lie in the memory.
use Rattle.std.proofs.Common.{arith}
use Rattle.window.proofs.Steps.{stepped, ring_room}
use Rattle.window.proofs.raise_four_before.Goals as goal

pub slice_bounds-raise_four-end : goal.slice_bounds-raise_four-end
slice_bounds-raise_four-end c =
    let first = stepped _ _ _ c.before-a.ensures c.requires.0 in
    omega (arith, ring_room _ _ _ _ first c.requires.1)

pub slice_bounds-raise_four-end-2 : goal.slice_bounds-raise_four-end-2
slice_bounds-raise_four-end-2 c =
    let first = stepped _ _ _ c.before-a.ensures c.requires.0 in
    let second = stepped _ _ _ c.before-b.ensures first in
    omega (arith, ring_room _ _ _ _ second c.requires.1)

pub slice_bounds-raise_four-end-3 : goal.slice_bounds-raise_four-end-3
slice_bounds-raise_four-end-3 c =
    let first = stepped _ _ _ c.before-a.ensures c.requires.0 in
    let second = stepped _ _ _ c.before-b.ensures first in
    let third = stepped _ _ _ c.before-c.ensures second in
    omega (arith, ring_room _ _ _ _ third c.requires.1)

pub slice_bounds-raise_four-end-4 : goal.slice_bounds-raise_four-end-4
slice_bounds-raise_four-end-4 c =
    let first = stepped _ _ _ c.before-a.ensures c.requires.0 in
    let second = stepped _ _ _ c.before-b.ensures first in
    let third = stepped _ _ _ c.before-c.ensures second in
    let fourth = stepped _ _ _ c.before-d.ensures third in
    omega (arith, ring_room _ _ _ _ fourth c.requires.1)
