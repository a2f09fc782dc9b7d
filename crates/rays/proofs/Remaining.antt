-- What a step does to one axis: one cell fewer is left, and the next cell is inside unless the step leads past the table. Assumes nothing.
use Rattle.std.specs.Prelude.{◌≡◌, ℕ, zero, suc, ◌+◌, ◌-◌, ◌<◌, ◌≤◌, Bool, true, false, cond, ◌&&◌, ◌⊎◌, ℤ, pos, negsuc, ◌+ℤ◌, ◌≢◌, unsigned_abs, refl, Float}
use Rattle.std.proofs.Common.{sym, ap, ◌∙◌, subst, inl, inr, true≢false, arith, eqb-true, ltb-true, lt-ltb, le-ltb}
use Rattle.std.proofs.lemmas.Bool.{false≢true, eqb-false}
use Rattle.std.specs.Float.Ieee.{lt}
use Rattle.layout.specs.Coordinates.{eq_z}
use Rattle.rays.specs.Ray.{Track, inside, is_step, sound, limit, leaves, exit_at, goes_on, advanced}

-- the cells from this one on to the last, this one counted
abbrev pub room : ℤ → ℤ → ℕ → ℕ
room s (negsuc c) n = 0
room (pos k) (pos c) n = n - c
room (negsuc k) (pos c) n = suc c

abbrev pub remaining : Track → ℕ
remaining t = room t.step t.cell t.cells

-- ---- the two ways, and a cell inside

data Way : ℤ → Type 0 where
  forth : Way (pos 1)
  back : Way (negsuc 0)

data In : ℤ → ℕ → Type 0 where
  at : (c : ℕ) {n : ℕ} → c < n → In (pos c) n

way : (s : ℤ) → is_step s ≡ true → Way s
way (pos k) h = subst (λ (n : ℕ). Way (pos n)) (sym (eqb-true k 1 h)) forth
way (negsuc k) h = subst (λ (n : ℕ). Way (negsuc n)) (sym (eqb-true k 0 h)) back

within : (c : ℤ) (n : ℕ) → inside c n ≡ true → In c n
within (pos c) n h = at c (ltb-true c n h)
within (negsuc c) n h = absurd (false≢true h)

pub inside_lt : (c : ℤ) (n : ℕ) → inside c n ≡ true → unsigned_abs c < n
inside_lt (pos c) n h = ltb-true c n h
inside_lt (negsuc c) n h = absurd (false≢true h)

-- one cell down
down : (c : ℕ) → pos (suc c) +ℤ negsuc 0 ≡ pos c
down c = ap (λ (b : Bool). cond b (negsuc (1 - suc (suc c))) (pos (suc c - 1))) (le-ltb (suc c) 1 (omega arith)) ∙ ap pos (omega arith)

falls : {s c : ℤ} {n : ℕ} → Way s → In c n → room s (c +ℤ s) n + 1 ≡ room s c n
falls forth (at c l) = omega arith
falls back (at zero l) = refl
falls {n = n} back (at (suc c) l) = ap (λ (z : ℤ). room (negsuc 0) z n + 1) (down c) ∙ omega arith

stays : {s c : ℤ} {n : ℕ} → Way s → In c n → eq_z (c +ℤ s) (limit s n) ≡ false → inside (c +ℤ s) n ≡ true
stays {n = n} forth (at c l) h = let ne : c + 1 ≡ n → ⊥ = eqb-false (c + 1) n h in lt-ltb (c + 1) n (less c n l ne)
  where
    less : (c n : ℕ) → c < n → (c + 1 ≢ n) → c + 1 < n
    less c n l ne = omega arith
stays back (at zero l) h = absurd (true≢false h)
stays {n = n} back (at (suc c) l) h = ap (λ (z : ℤ). inside z n) (down c) ∙ lt-ltb c n (omega arith)

some : {s c : ℤ} {n : ℕ} → Way s → In c n → 0 < room s c n
some forth (at c l) = omega arith
some back (at c l) = omega arith

most : {s c : ℤ} {n : ℕ} → Way s → In c n → room s c n ≤ n
most forth (at c l) = omega arith
most back (at c l) = l

-- ---- a track

both : (a b : Bool) → (a && b) ≡ true → (a ≡ true) × (b ≡ true)
both true b h = (refl, h)
both false b h = absurd (false≢true h)

module _ (t : Track) (h : sound t ≡ true) where
  pub sound_cell : inside t.cell t.cells ≡ true
  sound_cell = (both (inside t.cell t.cells) (is_step t.step) h).0

  pub sound_step : is_step t.step ≡ true
  sound_step = (both (inside t.cell t.cells) (is_step t.step) h).1

  c_in : In t.cell t.cells
  c_in = within t.cell t.cells sound_cell

  s_way : Way t.step
  s_way = way t.step sound_step

  pub left_some : 0 < remaining t
  left_some = some s_way c_in

  pub left_most : remaining t ≤ t.cells
  left_most = most s_way c_in

  pub left_less : remaining (advanced t) + 1 ≡ remaining t
  left_less = falls s_way c_in

  -- after a step the ray is at its end, or it stands at the piece's end in another cell of the table
  pub onward : (t_max : Float) → (goes_on t_max t ≡ t_max) ⊎ ((goes_on t_max t ≡ exit_at t_max t.next) × (sound (advanced t) ≡ true))
  onward t_max = go (leaves t) (lt t_max t.next) refl
    where
      go : (l x : Bool) → leaves t ≡ l
          → (cond l t_max (cond x t_max (exit_at t_max t.next)) ≡ t_max)
          ⊎ ((cond l t_max (cond x t_max (exit_at t_max t.next)) ≡ exit_at t_max t.next) × (sound (advanced t) ≡ true))
      go true x e = inl refl
      go false true e = inl refl
      go false false e = inr (refl, λ i. stays s_way c_in e i && sound_step i)
