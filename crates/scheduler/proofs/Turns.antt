-- Lemmas on the order of turns, and on what is ahead of some messages.
use Rattle.std.proofs.Common.{◌≡◌, ◌≤◌, ◌<◌, ◌⊎◌, ℕ, inl, inr, arith}
use Rattle.std.proofs.lemmas.Bool.{cases_lt}
use Rattle.scheduler.specs.declared.turn.First.{First}
use Rattle.scheduler.specs.QueueSteps.{turn_number, no_turn, joined}

-- by layer, then due slot, then class, then number: the first comes no later
abbrev pub ComesNoLater : ℕ → ℕ → ℕ → ℕ → ℕ → ℕ → ℕ → ℕ → Type 0
ComesNoLater layer due class entry layer' due' class' entry' =
    (layer < layer') ⊎ ((layer ≡ layer') × ((due < due') ⊎ ((due ≡ due') × ((class < class') ⊎
    ((class ≡ class') × (entry ≤ entry'))))))

-- so it is where its number isn't greater
pub no_later : (layer due class entry layer' due' class' entry' : ℕ)
    → due < 4294967296 → class ≤ 1 → entry < 65536 → due' < 4294967296 → class' ≤ 1 → entry' < 65536
    → turn_number layer due class entry ≤ turn_number layer' due' class' entry'
    → ComesNoLater layer due class entry layer' due' class' entry'
no_later layer due class entry layer' due' class' entry' d c e d' c' e' le =
    elim (cases_lt layer layer') [
      | inl lower ↦ inl lower
      | inr not ↦
          let layers : layer ≡ layer' = omega (arith, not, le, d, c, e, d', c', e') in
          inr (
            layers,
            elim (cases_lt due due') [
              | inl sooner ↦ inl sooner
              | inr nor ↦
                  let dues : due ≡ due' = omega (arith, nor, le, layers, c, e, c', e') in
                  inr (
                    dues,
                    elim (cases_lt class class') [
                      | inl before ↦ inl before
                      | inr none ↦
                          let classes : class ≡ class' = omega (arith, none, le, layers, dues, e, e') in
                          inr (classes, omega (arith, le, layers, dues, classes))
                    ],
                  )
            ],
          )
    ]

-- a turn is one
pub is_turn : (layer due class entry : ℕ) → layer ≤ 1 → due < 4294967296 → class ≤ 1 → entry < 65536
    → turn_number layer due class entry < no_turn
is_turn layer due class entry l d c e = omega (arith, l, d, c, e)

-- what is ahead of some messages is ahead of others
pub record IsAhead (a b : First) : Type 0 where
  pub first : a.first ≤ b.first
  pub wake : a.wake ≤ b.wake

-- what is ahead of some messages is so of them
pub IsAhead-same : (a : First) → IsAhead a a
IsAhead-same a = record { first = omega arith; wake = omega arith }

-- and to be ahead is transitive
pub IsAhead-trans : (a b c : First) → IsAhead a b → IsAhead b c → IsAhead a c
IsAhead-trans a b c h g = record { first = omega (arith, h.first, g.first); wake = omega (arith, h.wake, g.wake) }

-- what is ahead of some messages and others is ahead of the former
pub joined-left : (a b : First) → IsAhead (joined a b) a
joined-left a b = record { first = omega arith; wake = omega arith }

-- and of the latter
pub joined-right : (a b : First) → IsAhead (joined a b) b
joined-right a b = record { first = omega arith; wake = omega arith }

-- the first turn of both is that of one of them
pub joined-one : (a b : First) → ((joined a b).first ≡ a.first) ⊎ ((joined a b).first ≡ b.first)
joined-one a b = elim (cases_lt a.first b.first) [
  | inl less ↦ inl (omega (arith, less))
  | inr not ↦ inr (omega (arith, not))
]
