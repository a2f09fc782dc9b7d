-- One call on a state that an opening leads to: the end, or a piece after which fewer can come. Assumes nothing.
use Rattle.std.specs.Prelude.{◌≡◌, ℕ, zero, suc, ◌+◌, ◌≤◌, Bool, true, false, not, ◌&&◌, T, ◌⊎◌, List, length, is_nan, refl, Float}
use Rattle.std.proofs.Common.{sym, ap, ◌∙◌, subst, inl, inr, arith}
use Rattle.std.proofs.lemmas.Bool.{false≢true}
use Rattle.std.specs.Float.Ieee.{le}
use Rattle.std.specs.Float.Ieee.Bits.{is_true}
use Rattle.refusals.specs.Results.{ok, refused}
use Rattle.float.proofs.Ordered.{le_same}
use Rattle.cells.specs.Cells.{table_fault}
use Rattle.medium.specs.Medium.{Axis, x_axis, y_axis, z_axis}
use Rattle.rays.specs.Ray.{State, on_state, cells_in, sound, sound_state, exit_at, axis_in, step_on}
use Rattle.rays.specs.Ray.{Piece, piece, over, piece_of, next}
use Rattle.rays.proofs.Remaining.{remaining, left_some, left_less, onward}

-- the cells left on the three axes, which each piece makes one fewer
abbrev pub measure : State → ℕ
measure s = remaining s.x + remaining s.y + remaining s.z

abbrev pub AtEnd : State → Type 0
AtEnd s = le s.t_max s.t_min ≡ true

-- a state with the table that belongs to it, from which at most k pieces come
pub record Ready (table : List Float) (s : State) (k : ℕ) : Type 0 where
  pub fitting : table_fault (cells_in s) (length table) ≡ 0
  pub number : T (not (is_nan s.t_max))
  pub going : AtEnd s ⊎ ((sound_state s ≡ true) × (measure s ≤ k + 2))

-- what a call gives: the end, or a piece from t_min on, and a state at its end or from the piece's end on
pub data Turn (table : List Float) (s : State) (k : ℕ) : Type 0 where
  ended : next s table ≡ ok over → Turn table s k
  went : (p : Piece) (s' : State) (j : ℕ) → next s table ≡ ok (piece p s') → k ≡ suc j → Ready table s' j → p.from ≡ s.t_min
      → AtEnd s' ⊎ (s'.t_min ≡ p.to) → Turn table s k

-- ---- what `next` gives

module _ (table : List Float) (s : State) (f : table_fault (cells_in s) (length table) ≡ 0) where
  pub next_over : AtEnd s → next s table ≡ ok over
  unfolding next
  next_over h = rw (f, h)

  pub next_piece : le s.t_max s.t_min ≡ false → sound_state s ≡ true → next s table ≡ ok (piece (piece_of s table) (step_on s (axis_in s)))
  unfolding next
  next_piece h g = rw (f, h, g)

  pub next_unsound : le s.t_max s.t_min ≡ false → sound_state s ≡ false → next s table ≡ refused 18
  unfolding next
  next_unsound h g = rw (f, h, g)

-- ---- three tests

three : (a b c : Bool) → (a && b && c) ≡ true → (a ≡ true) × ((b ≡ true) × (c ≡ true))
three true true true h = (refl, (refl, refl))
three true true false h = absurd (false≢true h)
three true false c h = absurd (false≢true h)
three false b c h = absurd (false≢true h)

all : {a b c : Bool} → a ≡ true → b ≡ true → c ≡ true → (a && b && c) ≡ true
all p q r = λ i. p i && q i && r i

-- the three tracks of a sound state
pub sounds : (s : State) → sound_state s ≡ true → (sound s.x ≡ true) × ((sound s.y ≡ true) × (sound s.z ≡ true))
sounds s h = three (sound s.x) (sound s.y) (sound s.z) h

-- ---- a step along an axis

fewer : (s : State) (a : Axis) → sound_state s ≡ true → measure (step_on s a) + 1 ≡ measure s
fewer s x_axis h = omega (arith, left_less s.x (sounds s h).0)
fewer s y_axis h = omega (arith, left_less s.y (sounds s h).1.0)
fewer s z_axis h = omega (arith, left_less s.z (sounds s h).1.1)

pub same_cells_lem : (s : State) (a : Axis) → cells_in (step_on s a) ≡ cells_in s
same_cells_lem s x_axis = refl
same_cells_lem s y_axis = refl
same_cells_lem s z_axis = refl

pub same_end : (s : State) (a : Axis) → (step_on s a).t_max ≡ s.t_max
same_end s x_axis = refl
same_end s y_axis = refl
same_end s z_axis = refl

stepped : (s : State) (a : Axis) → sound_state s ≡ true
    → ((step_on s a).t_min ≡ s.t_max) ⊎ (((step_on s a).t_min ≡ exit_at s.t_max (on_state s a).next) × (sound_state (step_on s a) ≡ true))
stepped s x_axis h = elim (onward s.x (sounds s h).0 s.t_max) [
  | inl e ↦ inl e
  | inr w ↦ inr (w.0, all w.1 (sounds s h).1.0 (sounds s h).1.1)
]
stepped s y_axis h = elim (onward s.y (sounds s h).1.0 s.t_max) [
  | inl e ↦ inl e
  | inr w ↦ inr (w.0, all (sounds s h).0 w.1 (sounds s h).1.1)
]
stepped s z_axis h = elim (onward s.z (sounds s h).1.1 s.t_max) [
  | inl e ↦ inl e
  | inr w ↦ inr (w.0, all (sounds s h).0 (sounds s h).1.0 w.1)
]

-- ---- a call

module _ (table : List Float) (s : State) (j : ℕ) (r : Ready table s (suc j)) (g : sound_state s ≡ true) (l : measure s ≤ suc j + 2) where
  a : Axis
  a = axis_in s

  at_end : (step_on s (axis_in s)).t_min ≡ s.t_max → AtEnd (step_on s (axis_in s))
  at_end e =
      ap (le (step_on s (axis_in s)).t_max) e ∙ ap (λ (t : Float). le t s.t_max) (same_end s (axis_in s))
      ∙ is_true (le s.t_max s.t_max) (le_same s.t_max r.number)

  pub after : Ready table (step_on s (axis_in s)) j
  after = record {
    fitting = ap (λ n. table_fault n (length table)) (same_cells_lem s (axis_in s)) ∙ r.fitting;
    number = subst (λ (t : Float). T (not (is_nan t))) (sym (same_end s (axis_in s))) r.number;
    going = elim (stepped s (axis_in s) g) [
      | inl e ↦ inl (at_end e)
      | inr w ↦ inr (w.1, omega (arith, fewer s (axis_in s) g))
    ];
  }

  pub joined : AtEnd (step_on s (axis_in s)) ⊎ ((step_on s (axis_in s)).t_min ≡ (piece_of s table).to)
  joined = elim (stepped s (axis_in s) g) [ inl e ↦ inl (at_end e) | inr w ↦ inr w.0 ]

pub turn : (table : List Float) (s : State) (k : ℕ) → Ready table s k → Turn table s k
turn table s k r = elim r.going [
  | inl e ↦ ended (next_over table s r.fitting e)
  | inr w ↦ by k r w.0 w.1 (le s.t_max s.t_min) refl
]
  where
    by : (k : ℕ) → Ready table s k → sound_state s ≡ true → measure s ≤ k + 2 → (b : Bool) → le s.t_max s.t_min ≡ b → Turn table s k
    by k r g l true e = ended (next_over table s r.fitting e)
    by zero r g l false e =
        absurd (omega (arith, left_some s.x (sounds s g).0, left_some s.y (sounds s g).1.0, left_some s.z (sounds s g).1.1))
    by (suc j) r g l false e =
        went (piece_of s table) (step_on s (axis_in s)) j (next_piece table s r.fitting e g) refl (after table s j r g l) refl (joined table s j r g l)
