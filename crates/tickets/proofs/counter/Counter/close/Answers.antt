use Rattle.std.proofs.Common.{◌≤◌, ℕ, List, min, ◌∙◌, sym, ap, subst}
use Rattle.std.proofs.Math.Nat.{min_comm}
use Rattle.tickets.specs.Draws.{times, numbers_below}
use Rattle.tickets.proofs.Steps.{closes}
use Rattle.tickets.proofs.counter.Counter.close.Goals as goal

pub returns-clause-drawn : goal.returns-clause-drawn
returns-clause-drawn c x =
    let known = closes _ _ _ _ _ _ c.close_with-closed.ensures.values.2 c.word-word.ensures in
    let least = ap (λ k. min k c.word-word.result) c.self.invariant.0
    ∙ sym (c.min.ensures ∙ min_comm c.word-word.result c.self.inside.limit) in
    let drawn = ap (λ s. s.drawn) c.seat.view_is in
    subst (λ (l : List ℕ × ℕ). times x l.0 ≤ times x (numbers_below l.1)) (λ i. (drawn i, least i)) (known.0 x)

pub returns-clause-whole : goal.returns-clause-whole
returns-clause-whole c whole x =
    let known = closes _ _ _ _ _ _ c.close_with-closed.ensures.values.2 c.word-word.ensures in
    let least = ap (λ k. min k c.word-word.result) c.self.invariant.0
    ∙ sym (c.min.ensures ∙ min_comm c.word-word.result c.self.inside.limit) in
    let drawn = ap (λ s. s.drawn) c.seat.view_is in
    ap (times x) (sym drawn) ∙ known.1 (ap (λ s. s.parts) c.seat.view_is ∙ whole) x
    ∙ ap (λ k. times x (numbers_below k)) least
