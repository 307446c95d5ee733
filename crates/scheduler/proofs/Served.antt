-- Lemmas on the order in which broadcasts are served.
use Rattle.std.proofs.Common.{◌≡◌, ℕ, ◌≤◌, ◌<◌, ◌⊎◌, inl, inr, refl, ◌∙◌, arith}
use Rattle.scheduler.specs.Message.{ScheduledMessage}
use Rattle.scheduler.specs.Air.{IsNoLater, IsServedBy, class}

-- to be served no later is transitive
pub IsNoLater-trans : (a b c : ScheduledMessage) (i j k : ℕ) → IsNoLater a i b j → IsNoLater b j c k → IsNoLater a i c k
IsNoLater-trans a b c i j k h g =
    elim h [
      | inl sooner ↦ elim g [ inl again ↦ inl (omega arith) | inr tied ↦ inl (omega arith) ]
      | inr tied ↦ elim g [
        | inl sooner ↦ inl (omega arith)
        | inr again ↦ inr (omega arith, in_class tied.1 again.1)
      ]
    ]
  where
    in_class : ((class a < class b) ⊎ ((class a ≡ class b) × (a.entry ≤ b.entry)))
        → ((class b < class c) ⊎ ((class b ≡ class c) × (b.entry ≤ c.entry)))
        → (class a < class c) ⊎ ((class a ≡ class c) × (a.entry ≤ c.entry))
    in_class x y = elim x [
      | inl above ↦ elim y [ inl more ↦ inl (omega arith) | inr tied ↦ inl (omega arith) ]
      | inr tied ↦ elim y [ inl more ↦ inl (omega arith) | inr again ↦ inr (omega arith, omega arith) ]
    ]

-- and holds of a broadcast and itself
pub IsNoLater-same : (a : ScheduledMessage) (i : ℕ) → IsNoLater a i a i
IsNoLater-same a i = inr (refl, inr (refl, omega arith))

-- the same across layers
pub IsServedBy-trans : (a b c : ScheduledMessage) (i j k : ℕ) → IsServedBy a i b j → IsServedBy b j c k
    → IsServedBy a i c k
IsServedBy-trans a b c i j k h g =
    elim h [
      | inl above ↦ elim g [ inl more ↦ inl (omega arith) | inr same ↦ inl (omega (arith, same.0)) ]
      | inr same ↦ elim g [
        | inl more ↦ inl (omega (arith, same.0))
        | inr again ↦ inr (same.0 ∙ again.0, IsNoLater-trans a b c i j k same.1 again.1)
      ]
    ]

-- a broadcast is served before itself, so to say: the order is reflexive
pub IsServedBy-same : (a : ScheduledMessage) (i : ℕ) → IsServedBy a i a i
IsServedBy-same a i = inr (refl, IsNoLater-same a i)
