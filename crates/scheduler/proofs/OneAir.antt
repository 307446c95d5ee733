-- An air list by the rule is the only one of its length, and each front of it is by the rule.
use Rattle.std.proofs.Common.{◌≡◌, ℕ, zero, suc, ◌+◌, ◌≤◌, ◌<◌, List, [], ◌∷◌, ◌++◌, length, take, drop, get_or, Option}
use Rattle.std.proofs.Common.{Some, None, refl, sym, ap, subst, ◌∙◌, arith}
use Rattle.std.specs.List.{AllPairs}
use Rattle.std.proofs.Math.Seq.{take-suc}
use Rattle.std.proofs.lemmas.List.{get_or_append_left, length-append, length-take-le, take-append-drop, take_all}
use Rattle.scheduler.specs.Message.{ScheduledMessage, release}
use Rattle.scheduler.specs.Air.{Air, IsChosen, IsAirOf}
use Rattle.scheduler.proofs.Air.{pages_aired-append}
use Rattle.scheduler.proofs.Rule.{IsPending-append, IsPending-unappend, IsChosen-only}

-- what is chosen looks at what is aired before the slot alone
pub IsChosen-unappend : (messages : List ScheduledMessage) (air more : Air) (slot : ℕ) (used : Option (ℕ × ℕ))
    → slot ≤ length air → IsChosen messages (air ++ more) slot used → IsChosen messages air slot used
IsChosen-unappend messages air more slot None h x = λ k d within. λ j p. x k d within j
    (IsPending-append (get_or messages k d) j air more slot h p)
IsChosen-unappend messages air more slot (Some used) h x = (
  x.0,
  x.1,
  x.2,
  x.3,
  (
    x.4.0,
    record {
      pending = IsPending-unappend x.1 x.4.0 air more slot h x.4.1.pending;
      first = λ k d within. λ i p. x.4.1.first k d within i (IsPending-append (get_or messages k d) i air more slot h
          p);
    },
    x.4.2 ∙ ap (λ n. (x.1.entry, n + 1)) (pages_aired-append x.1.entry air more (release x.1 x.4.0) slot h),
  ),
)

-- the front of an air of messages is one of them
pub IsAirOf-front : (messages : List ScheduledMessage) (air more : Air) → IsAirOf messages (air ++ more)
    → IsAirOf messages air
IsAirOf-front messages air more rule = λ slot within.
    let Chosen : Option (ℕ × ℕ) → Type 0 = λ u. IsChosen messages (air ++ more) slot u in
    let long = length-append air more in
    IsChosen-unappend messages air more slot (get_or air slot None) (omega arith)
    (subst Chosen (get_or_append_left air more None slot within) (rule slot (omega (arith, long))))

-- what a slot of the list airs is chosen over the slots before it
chosen_before : (messages : List ScheduledMessage) (air : Air) (slot : ℕ) → IsAirOf messages air → slot < length air
    → IsChosen messages (take slot air) slot (get_or air slot None)
chosen_before messages air slot rule within =
    let Chosen : Air → Type 0 = λ a. IsChosen messages a slot (get_or air slot None) in
    let whole = subst Chosen (sym (take-append-drop slot air)) (rule slot within) in
    let long = length-take-le slot air (omega arith) in
    IsChosen-unappend messages (take slot air) (drop slot air) slot (get_or air slot None) (omega (arith, long)) whole

same_front : (messages : List ScheduledMessage) (air other : Air) (n : ℕ) → AllPairs (λ a b. a.entry < b.entry) messages
    → IsAirOf messages air → IsAirOf messages other → n ≤ length air → n ≤ length other → take n air ≡ take n other
same_front messages air other zero rising rule others short also = refl
same_front messages air other (suc n) rising rule others short also =
    let before = same_front messages air other n rising rule others (omega arith) (omega arith) in
    let Chosen : Air → Type 0 = λ a. IsChosen messages a n (get_or other n None) in
    let mine = chosen_before messages air n rule (omega arith) in
    let theirs = subst Chosen (sym before) (chosen_before messages other n others (omega arith)) in
    let used = IsChosen-only messages (take n air) n (get_or air n None) (get_or other n None) rising mine theirs in
    take-suc air n None (omega arith) ∙ (ap (λ a. a ++ get_or air n None ∷ []) before
    ∙ (ap (λ u. take n other ++ u ∷ []) used ∙ sym (take-suc other n None (omega arith))))

-- messages have one air of a length
pub IsAirOf-only : (messages : List ScheduledMessage) (air other : Air) → AllPairs (λ a b. a.entry < b.entry) messages
    → IsAirOf messages air → IsAirOf messages other → length air ≡ length other → air ≡ other
IsAirOf-only messages air other rising rule others same =
    sym (take_all (length air) air (omega arith)) ∙ (same_front messages air other (length air) rising rule others
    (omega arith) (omega (arith, same)) ∙ take_all (length air) other (omega (arith, same)))
