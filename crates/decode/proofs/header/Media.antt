-- The medium from its fields, and from its two halves: the world box, and the index box with the map. Assumes nothing.
use mathlib.Core.Path.{◌≡◌, ap, ◌∙◌}
use mathlib.Core.List.{List, [], ◌∷◌}
use Prim.Native.Nat.{ℕ, ◌+◌}
use lib.IntN.{ℤ}
use lib.Ieee.{Float}
use Rattle.layout.specs.Bytes.{i32_at, f32_at}
use Rattle.layout.specs.Coordinates.{Coord}
use Rattle.medium.specs.Medium.{Medium, Point, make_medium}
use Rattle.nanovdb.specs.Decode.{bound_at, cells64, medium_at}
use Rattle.decode.specs.Inner.World.{SameWorld, SameFrame}

-- a record of all the fields, each that of the bytes, is their medium
pub medium_is : (b : List ℕ) (root : ℕ) {l₀ l₁ l₂ h₀ h₁ h₂ m₀ m₁ m₂ m₃ m₄ m₅ m₆ m₇ m₈ t₀ t₁ t₂ : Float} {i₀ i₁ i₂ j₀ j₁ j₂ : ℤ}
    → l₀ ≡ bound_at b 560 → l₁ ≡ bound_at b 568 → l₂ ≡ bound_at b 576 → h₀ ≡ bound_at b 584 → h₁ ≡ bound_at b 592 → h₂ ≡ bound_at b 600
    → i₀ ≡ i32_at b root → i₁ ≡ i32_at b (root + 4) → i₂ ≡ i32_at b (root + 8)
    → j₀ ≡ i32_at b (root + 12) → j₁ ≡ i32_at b (root + 16) → j₂ ≡ i32_at b (root + 20)
    → m₀ ≡ f32_at b 332 → m₁ ≡ f32_at b 336 → m₂ ≡ f32_at b 340 → m₃ ≡ f32_at b 344 → m₄ ≡ f32_at b 348 → m₅ ≡ f32_at b 352
    → m₆ ≡ f32_at b 356 → m₇ ≡ f32_at b 360 → m₈ ≡ f32_at b 364
    → t₀ ≡ f32_at b 368 → t₁ ≡ f32_at b 372 → t₂ ≡ f32_at b 376
    → make_medium (record { x = l₀; y = l₁; z = l₂ }) (record { x = h₀; y = h₁; z = h₂ })
    (record { x = i₀; y = i₁; z = i₂ }) (record { x = j₀; y = j₁; z = j₂ })
    (m₀ ∷ m₁ ∷ m₂ ∷ m₃ ∷ m₄ ∷ m₅ ∷ m₆ ∷ m₇ ∷ m₈ ∷ []) (record { x = t₀; y = t₁; z = t₂ }) cells64
    ≡ medium_at b root
unfolding medium_at
medium_is b root l₀ l₁ l₂ h₀ h₁ h₂ i₀ i₁ i₂ j₀ j₁ j₂ m₀ m₁ m₂ m₃ m₄ m₅ m₆ m₇ m₈ t₀ t₁ t₂ = λ k.
    make_medium (record { x = l₀ k; y = l₁ k; z = l₂ k }) (record { x = h₀ k; y = h₁ k; z = h₂ k })
    (record { x = i₀ k; y = i₁ k; z = i₂ k }) (record { x = j₀ k; y = j₁ k; z = j₂ k })
    (m₀ k ∷ m₁ k ∷ m₂ k ∷ m₃ k ∷ m₄ k ∷ m₅ k ∷ m₆ k ∷ m₇ k ∷ m₈ k ∷ []) (record { x = t₀ k; y = t₁ k; z = t₂ k }) cells64

module _ (b : List ℕ) where
  -- a medium made of the world box's six fields has the world box
  pub world_is : {l₀ l₁ l₂ h₀ h₁ h₂ : Float} {i j : Coord} {p : List Float} {t : Point} {m : Medium}
      → m ≡ make_medium (record { x = l₀; y = l₁; z = l₂ }) (record { x = h₀; y = h₁; z = h₂ }) i j p t cells64
      → l₀ ≡ bound_at b 560 → l₁ ≡ bound_at b 568 → l₂ ≡ bound_at b 576 → h₀ ≡ bound_at b 584 → h₁ ≡ bound_at b 592 → h₂ ≡ bound_at b 600
      → (root : ℕ) → SameWorld m (medium_at b root)
  unfolding medium_at
  world_is made l₀ l₁ l₂ h₀ h₁ h₂ root = record {
    low = ap (λ (m : Medium). m.low) made ∙ λ k. record { x = l₀ k; y = l₁ k; z = l₂ k };
    high = ap (λ (m : Medium). m.high) made ∙ λ k. record { x = h₀ k; y = h₁ k; z = h₂ k };
  }

  -- and one of the other fields has the index box and the map
  pub frame_is : (root : ℕ) {l h : Point} {m₀ m₁ m₂ m₃ m₄ m₅ m₆ m₇ m₈ t₀ t₁ t₂ : Float} {i₀ i₁ i₂ j₀ j₁ j₂ : ℤ} {m : Medium}
      → m ≡ make_medium l h (record { x = i₀; y = i₁; z = i₂ }) (record { x = j₀; y = j₁; z = j₂ })
      (m₀ ∷ m₁ ∷ m₂ ∷ m₃ ∷ m₄ ∷ m₅ ∷ m₆ ∷ m₇ ∷ m₈ ∷ []) (record { x = t₀; y = t₁; z = t₂ }) cells64
      → i₀ ≡ i32_at b root → i₁ ≡ i32_at b (root + 4) → i₂ ≡ i32_at b (root + 8)
      → j₀ ≡ i32_at b (root + 12) → j₁ ≡ i32_at b (root + 16) → j₂ ≡ i32_at b (root + 20)
      → m₀ ≡ f32_at b 332 → m₁ ≡ f32_at b 336 → m₂ ≡ f32_at b 340 → m₃ ≡ f32_at b 344 → m₄ ≡ f32_at b 348 → m₅ ≡ f32_at b 352
      → m₆ ≡ f32_at b 356 → m₇ ≡ f32_at b 360 → m₈ ≡ f32_at b 364
      → t₀ ≡ f32_at b 368 → t₁ ≡ f32_at b 372 → t₂ ≡ f32_at b 376
      → SameFrame m (medium_at b root)
  unfolding medium_at
  frame_is root made i₀ i₁ i₂ j₀ j₁ j₂ m₀ m₁ m₂ m₃ m₄ m₅ m₆ m₇ m₈ t₀ t₁ t₂ = record {
    index_low = ap (λ (m : Medium). m.index_low) made ∙ λ k. record { x = i₀ k; y = i₁ k; z = i₂ k };
    index_high = ap (λ (m : Medium). m.index_high) made ∙ λ k. record { x = j₀ k; y = j₁ k; z = j₂ k };
    map = ap (λ (m : Medium). m.map) made ∙ λ k. m₀ k ∷ m₁ k ∷ m₂ k ∷ m₃ k ∷ m₄ k ∷ m₅ k ∷ m₆ k ∷ m₇ k ∷ m₈ k ∷ [];
    translation = ap (λ (m : Medium). m.translation) made ∙ λ k. record { x = t₀ k; y = t₁ k; z = t₂ k };
  }

  -- both halves are the medium
  pub halves : (root : ℕ) {w f m : Medium}
      → m ≡ make_medium w.low w.high f.index_low f.index_high f.map f.translation cells64
      → SameWorld w (medium_at b root) → SameFrame f (medium_at b root) → m ≡ medium_at b root
  unfolding medium_at
  halves root made w f =
      made ∙ λ k. make_medium (w.low k) (w.high k) (f.index_low k) (f.index_high k) (f.map k) (f.translation k) cells64
