-- A value, or the number of the refusal that stands in its place.
use Rattle.std.specs.Prelude.{ℕ, Bool, true, false}

pub data Result (A : Type 0) : Type 0 where
  ok : A → Result A
  refused : ℕ → Result A

-- the number of an answer: 0 where there is a value
abbrev pub number_of : {A : Type 0} → Result A → ℕ
number_of (ok a) = 0
number_of (refused n) = n

-- the value of an answer: z, its type's zero, where it is refused
abbrev pub value_or : {A : Type 0} → A → Result A → A
value_or z (ok a) = a
value_or z (refused n) = z

-- an answer as document 01 has it: whether it is a value, the number, and the value
pub record Said (A : Type 0) : Type 0 where
  pub accepted : Bool
  pub number : ℕ
  pub value : A

-- what each case says: a value has the number 0, and beside a refusal the value is z, its type's zero
abbrev pub said : {A : Type 0} → A → Result A → Said A
said z (ok a) = record { accepted = true; number = 0; value = a }
said z (refused n) = record { accepted = false; number = n; value = z }

-- the next step on the value, or the same refusal
abbrev pub bind : {A B : Type 0} → Result A → (A → Result B) → Result B
bind (ok a) f = f a
bind (refused n) f = refused n

-- n where the test fails, and otherwise what follows
abbrev pub need : {A : Type 0} → Bool → ℕ → Result A → Result A
need true n r = r
need false n r = refused n
