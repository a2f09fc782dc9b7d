-- The coordinate that the code's record stands for, and what `==` says of two.
use Rattle.std.specs.Prelude.{◌≡◌, Bool, true, false, ◌&&◌, ℤ, pos, negsuc}
use Rattle.std.specs.Ordering.{int_eq}
use Rattle.std.proofs.Common.{ap, ◌∙◌, subst, eqb-true, eq-eqb, refl}
use Rattle.std.proofs.lemmas.Bool.Decides.{same_from_decides, Decides-int_eq}
use Rattle.layout.specs.Coordinates.{Coord, eq_z, same_block}
use Rattle.layout.specs.declared.coordinate.Coordinate.{Coordinate}

abbrev pub as_coord : Coordinate → Coord
as_coord c = record { x = c.x; y = c.y; z = c.z }

eq_z_true : (a b : ℤ) → eq_z a b ≡ true → a ≡ b
eq_z_true (pos a) (pos b) e = ap pos (eqb-true a b e)
eq_z_true (pos a) (negsuc b) e = cc
eq_z_true (negsuc a) (pos b) e = cc
eq_z_true (negsuc a) (negsuc b) e = ap negsuc (eqb-true a b e)

eq_z_self : (a : ℤ) → eq_z a a ≡ true
eq_z_self (pos a) = eq-eqb a a refl
eq_z_self (negsuc a) = eq-eqb a a refl

int_eq_z : (a b : ℤ) → int_eq a b ≡ eq_z a b
int_eq_z a b = same_from_decides _ _ (Decides-int_eq a b) (eq_z_true a b, λ e. subst (λ (z : ℤ). eq_z a z ≡ true) e (eq_z_self a))

and_nested : (a b c : Bool) → (a && (b && c)) ≡ (a && b && c)
and_nested true b c = refl
and_nested false b c = refl

pub same_coordinate : (a b : Coordinate) → (int_eq a.x b.x && (int_eq a.y b.y && int_eq a.z b.z)) ≡ same_block (as_coord a) (as_coord b)
same_coordinate a b =
    and_nested (int_eq a.x b.x) (int_eq a.y b.y) (int_eq a.z b.z)
    ∙ (λ i. int_eq_z a.x b.x i && int_eq_z a.y b.y i && int_eq_z a.z b.z i)
