use Rattle.std.proofs.Common.{◌≡◌, ℕ, ◌+◌, ◌<◌, ◌≤◌, List, [], length, eqb, ltb, inl, inr, sym, subst, ap}
use native.Mathlib.Omega.{arith}
use Rattle.std.proofs.lemmas.Bool.{cases_Bool, eqb-false, eqb-true, ltb-false, ltb-true}
use Rattle.std.proofs.lemmas.List.{get_or_past}
use Rattle.order_desk.specs.declared.note.Note.{Note}
use Rattle.book_runs.specs.Sessions.{IsRightPass}
use Rattle.session_check.specs.NotedSteps.{commands_in}
use Rattle.session_check.proofs.sessions.check_sessions.Goals as goal

pub loop-place-preserved : goal.loop-place-preserved
loop-place-preserved c = λ lesser within. elim (cases_Bool (eqb lesser c.loop-place.place)) [
  | inl same ↦ subst (IsRightPass c.args.book.now c.args.parts c.args.records.now c.args.passes.now)
      (sym (eqb-true lesser c.loop-place.place same)) (c.in-Ok-true.ensures.0 c.in-Ok-true.field-0-test)
  | inr other ↦ c.loop-place.invariant lesser (below lesser within (eqb-false lesser c.loop-place.place other))
]
  where
    below : (k : ℕ) → k < c.loop-place.place + 1 → (k ≡ c.loop-place.place → ⊥) → k < c.loop-place.place
    below k within other = omega arith

pub returns-clause-ok : goal.returns-clause-ok
returns-clause-ok c = λ _ place. elim (cases_Bool (ltb place (length c.args.passes.now))) [
  | inl within ↦ c.loop-place.invariant place (among place (ltb-true place (length c.args.passes.now) within))
  | inr past ↦ none_there place (ltb-false place (length c.args.passes.now) past)
]
  where
    among : (k : ℕ) → k < length c.args.passes.now → k < c.loop-place.place
    among k within = omega (arith, c.loop-place-test.false)

    beyond : (k n parts : ℕ) → parts ≤ n → n ≤ k → k < parts → ⊥
    beyond k n parts some past own = omega arith

    none_there : (place : ℕ) → length c.args.passes.now ≤ place
        → IsRightPass c.args.book.now c.args.parts c.args.records.now c.args.passes.now place
    none_there place past = record {
      own = λ own. absurd (beyond place (length c.args.passes.now) c.args.parts c.requires.passes past own);
      later = λ _. ap (λ (notes : List Note). commands_in notes) (get_or_past c.args.passes.now place [] past);
    }
