-- The function that computes the air rule keeps it.
use Rattle.std.proofs.Common.{◌≡◌, ℕ, zero, suc, ◌≤◌, ◌<◌, ◌⊎◌, Bool, true, false, ◌&&◌, ◌||◌, cond, leb, ltb, eqb}
use Rattle.std.proofs.Common.{List, [], ◌∷◌, length, get_or, Option, Some, None, inl, inr, refl, sym, ap, subst, ◌∙◌}
use Rattle.std.proofs.Common.{arith}
use Rattle.std.specs.List.{All, Contains}
use Rattle.std.proofs.lemmas.List.{length_push}
use Rattle.std.proofs.lemmas.List.Elements.{All-nil, All-cons, Contains-append_right}
use Rattle.std.proofs.lemmas.Bool.{and_parts, and_from, or_cases, leb-true, le-leb, lt-ltb, ltb-true, eqb-true, eq-eqb}
use Rattle.std.proofs.lemmas.Bool.{false≢true}
use Rattle.scheduler.specs.Message.{ScheduledMessage}
use Rattle.scheduler.specs.Air.{Air, IsPending, IsChosen, IsAirOf, IsNoLater, IsServedBy, class}
use Rattle.scheduler.specs.Choice.{is_pending, is_no_later, is_served_by, first_of, first_pending, used_by, choice}
use Rattle.scheduler.specs.Choice.{air_of}
use Rattle.scheduler.specs.Message.{broadcast_at}
use Rattle.scheduler.proofs.Air.{broadcast_at-released, broadcast_at-not_due, broadcast_at-only}
use Rattle.scheduler.proofs.Message.{has_broadcast-says, has_broadcast-from, is_before_stop-says, is_before_stop-from}
use Rattle.scheduler.proofs.Rule.{IsAirOf-next, IsServedBy-total}
use Rattle.scheduler.proofs.Served.{IsServedBy-same, IsServedBy-trans}

-- the tests say what the facts say
IsPending-from_test : (m : ScheduledMessage) (air : Air) (slot : ℕ) → 0 < m.period → is_pending air slot m ≡ true
    → IsPending m (broadcast_at m slot) air slot
IsPending-from_test m air slot period h =
    let first = and_parts _ _ h in
    let second = and_parts _ _ first.1 in
    let third = and_parts _ _ second.1 in
    let started = leb-true m.start slot first.0 in
    record {
      requested = has_broadcast-says m (broadcast_at m slot) second.0;
      released = broadcast_at-released m slot period started;
      not_due = broadcast_at-not_due m slot period started;
      standing = is_before_stop-says slot m.stop third.0;
      unfinished = ltb-true _ _ third.1;
    }

pending_now : (m : ScheduledMessage) (j : ℕ) (air : Air) (slot : ℕ) → 0 < m.period → IsPending m j air slot
    → j ≡ broadcast_at m slot
pending_now m j air slot period p =
    broadcast_at-only m slot j period (omega (arith, p.released)) p.released p.not_due

test_from_IsPending : (m : ScheduledMessage) (j : ℕ) (air : Air) (slot : ℕ) → 0 < m.period → IsPending m j air slot
    → is_pending air slot m ≡ true
test_from_IsPending m j air slot period p =
    let Now : ℕ → Type 0 = λ i. IsPending m i air slot in
    let q = subst Now (pending_now m j air slot period p) p in
    and_from _ _ (le-leb m.start slot (omega (arith, p.released)))
    (and_from _ _ (has_broadcast-from m _ q.requested) (and_from _ _ (is_before_stop-from slot m.stop q.standing)
    (lt-ltb _ _ q.unfinished)))

-- of two, the one or the other is served no later, as the test says
IsNoLater-from_test : (slot : ℕ) (a b : ScheduledMessage) → is_no_later slot a b ≡ true
    → IsNoLater a (broadcast_at a slot) b (broadcast_at b slot)
IsNoLater-from_test slot a b h =
    elim (or_cases _ _ h) [
      | inl sooner ↦ inl (ltb-true _ _ sooner)
      | inr tied ↦
          let parts = and_parts _ _ tied in
          inr (eqb-true _ _ parts.0, in_class parts.1)
    ]
  where
    in_class : (ltb (class a) (class b) || (eqb (class a) (class b) && leb a.entry b.entry)) ≡ true
        → (class a < class b) ⊎ ((class a ≡ class b) × (a.entry ≤ b.entry))
    in_class h = elim (or_cases _ _ h) [
      | inl above ↦ inl (ltb-true _ _ above)
      | inr same ↦ let parts = and_parts _ _ same in inr (eqb-true _ _ parts.0, leb-true _ _ parts.1)
    ]

or_left : (x y : Bool) → x ≡ true → (x || y) ≡ true
or_left x y h = ap (λ (b : Bool). b || y) h

or_right : (x y : Bool) → y ≡ true → (x || y) ≡ true
or_right true y h = refl
or_right false y h = h

test_from_IsNoLater : (slot : ℕ) (a b : ScheduledMessage) → IsNoLater a (broadcast_at a slot) b (broadcast_at b slot)
    → is_no_later slot a b ≡ true
test_from_IsNoLater slot a b h =
    elim h [
      | inl sooner ↦ or_left _ _ (lt-ltb _ _ sooner)
      | inr tied ↦ or_right _ _ (and_from _ _ (eq-eqb _ _ tied.0) (in_class tied.1))
    ]
  where
    in_class : ((class a < class b) ⊎ ((class a ≡ class b) × (a.entry ≤ b.entry)))
        → (ltb (class a) (class b) || (eqb (class a) (class b) && leb a.entry b.entry)) ≡ true
    in_class x = elim x [
      | inl above ↦ or_left _ _ (lt-ltb _ _ above)
      | inr same ↦ or_right _ _ (and_from _ _ (eq-eqb _ _ same.0) (le-leb _ _ same.1))
    ]

IsServedBy-from_test : (slot : ℕ) (a b : ScheduledMessage)
    → is_served_by slot a b ≡ true
    → IsServedBy a (broadcast_at a slot) b (broadcast_at b slot)
IsServedBy-from_test slot a b h =
    elim (or_cases _ _ h) [
      | inl above ↦ inl (ltb-true _ _ above)
      | inr same ↦
          let parts = and_parts _ _ same in
          inr (eqb-true _ _ parts.0, IsNoLater-from_test slot a b parts.1)
    ]

test_from_IsServedBy : (slot : ℕ) (a b : ScheduledMessage)
    → IsServedBy a (broadcast_at a slot) b (broadcast_at b slot)
    → is_served_by slot a b ≡ true
test_from_IsServedBy slot a b h =
    elim h [
      | inl above ↦ or_left _ _ (lt-ltb _ _ above)
      | inr same ↦ or_right _ _ (and_from _ _ (eq-eqb _ _ same.0) (test_from_IsNoLater slot a b same.1))
    ]

IsServedBy-from_failed_test : (slot : ℕ) (a b : ScheduledMessage)
    → is_served_by slot a b ≡ false
    → IsServedBy b (broadcast_at b slot) a (broadcast_at a slot)
IsServedBy-from_failed_test slot a b h =
    elim (IsServedBy-total a b (broadcast_at a slot) (broadcast_at b slot)) [
      | inl served ↦ absurd (false≢true (sym h ∙ test_from_IsServedBy slot a b served))
      | inr later ↦ later
    ]

-- what is the first of some messages
abbrev IsFirstIn : List ScheduledMessage → Air → ℕ → Option ScheduledMessage → Type 0
IsFirstIn messages air slot None = All (λ m. is_pending air slot m ≡ false) messages
IsFirstIn messages air slot (Some first) =
    Contains messages first × (is_pending air slot first ≡ true)
    × All (λ m. is_pending air slot m ≡ true → IsServedBy first (broadcast_at first slot) m (broadcast_at m slot))
    messages

IsFirstIn-cons : (messages : List ScheduledMessage) (air : Air) (slot : ℕ) (m : ScheduledMessage) (says : Bool)
    (rest : Option ScheduledMessage)
    → is_pending air slot m ≡ says → IsFirstIn messages air slot rest
    → IsFirstIn (m ∷ messages) air slot (first_of slot says m rest)
IsFirstIn-cons messages air slot m false None is h = All-cons (λ o. is_pending air slot o ≡ false) m messages is h
IsFirstIn-cons messages air slot m false (Some first) is h = (
  Contains-append_right (m ∷ []) messages first h.0,
  h.1,
  All-cons (λ o. is_pending air slot o ≡ true → IsServedBy first (broadcast_at first slot) o (broadcast_at o slot)) m
      messages (λ e. absurd (false≢true (sym is ∙ e))) h.2,
)
IsFirstIn-cons messages air slot m true None is h = (
  (0, omega arith, refl),
  is,
  All-cons (λ o. is_pending air slot o ≡ true → IsServedBy m (broadcast_at m slot) o (broadcast_at o slot)) m messages
      (λ e. IsServedBy-same m _) (λ k d within. λ e. absurd (false≢true (sym (h k d within) ∙ e))),
)
IsFirstIn-cons messages air slot m true (Some first) is h = picked (is_served_by slot m first) refl
  where
    picked : (says : Bool)
        → is_served_by slot m first ≡ says
        → IsFirstIn (m ∷ messages) air slot (cond says (Some m) (Some first))
    picked true test = (
      (0, omega arith, refl),
      is,
      All-cons (λ o. is_pending air slot o ≡ true → IsServedBy m (broadcast_at m slot) o (broadcast_at o slot)) m
          messages (λ e. IsServedBy-same m _) (λ k d within. λ e. IsServedBy-trans m first (get_or messages k d) _ _ _
          (IsServedBy-from_test slot m first test) (h.2 k d within e)),
    )
    picked false test = (
      Contains-append_right (m ∷ []) messages first h.0,
      h.1,
      All-cons (λ o. is_pending air slot o ≡ true → IsServedBy first (broadcast_at first slot) o (broadcast_at o slot))
          m messages (λ e. IsServedBy-from_failed_test slot m first test) h.2,
    )

first_pending-first : (messages : List ScheduledMessage) (air : Air) (slot : ℕ)
    → IsFirstIn messages air slot (first_pending messages air slot)
first_pending-first [] air slot = All-nil (λ m. is_pending air slot m ≡ false)
first_pending-first (m ∷ messages) air slot =
    IsFirstIn-cons messages air slot m (is_pending air slot m) (first_pending messages air slot) refl
    (first_pending-first messages air slot)

IsChosen-from_first : (messages : List ScheduledMessage) (air : Air) (slot : ℕ) (first : Option ScheduledMessage)
    → All (λ m. 0 < m.period) messages → IsFirstIn messages air slot first
    → IsChosen messages air slot (used_by air slot first)
IsChosen-from_first messages air slot None periods h = λ k d within. λ j p. false≢true
    (sym (h k d within) ∙ test_from_IsPending (get_or messages k d) j air slot (periods k d within) p)
IsChosen-from_first messages air slot (Some first) periods h =
    let Period : ScheduledMessage → Type 0 = λ m. 0 < m.period in
    let period = subst Period h.0.2 (periods h.0.0 first h.0.1) in (
      h.0.0,
      first,
      h.0.1,
      h.0.2,
      (
        broadcast_at first slot,
        record {
          pending = IsPending-from_test first air slot period h.1;
          first = λ k d within. λ j p. served (get_or messages k d) (h.2 k d within) (periods k d within) j p;
        },
        refl,
      ),
    )
  where
    served : (m : ScheduledMessage)
        → (is_pending air slot m ≡ true → IsServedBy first (broadcast_at first slot) m (broadcast_at m slot))
        → 0 < m.period
        → (j : ℕ)
        → IsPending m j air slot
        → IsServedBy first (broadcast_at first slot) m j
    served m known some j p =
        let Later : ℕ → Type 0 = λ i. IsServedBy first (broadcast_at first slot) m i in
        subst Later (sym (pending_now m j air slot some p)) (known (test_from_IsPending m j air slot some p))

-- each slot has a choice
pub IsChosen-choice : (messages : List ScheduledMessage) (air : Air) (slot : ℕ) → All (λ m. 0 < m.period) messages
    → IsChosen messages air slot (choice messages air slot)
IsChosen-choice messages air slot periods =
    IsChosen-from_first messages air slot (first_pending messages air slot) periods
    (first_pending-first messages air slot)

-- and messages have an air list
length-air_of : (messages : List ScheduledMessage) (n : ℕ) → length (air_of messages n) ≡ n
length-air_of messages zero = refl
length-air_of messages (suc n) =
    let before = length-air_of messages n in
    omega (arith, length_push (air_of messages n) (choice messages (air_of messages n) n), before)

-- the air that the choice of each slot makes is that of the messages
pub IsAirOf-air_of : (messages : List ScheduledMessage) (n : ℕ) → All (λ m. 0 < m.period) messages
    → IsAirOf messages (air_of messages n)
IsAirOf-air_of messages zero periods = λ slot within. absurd (omega arith)
IsAirOf-air_of messages (suc n) periods =
    let Choice : ℕ → Type 0 = λ k. IsChosen messages (air_of messages n) k (choice messages (air_of messages n) n) in
    IsAirOf-next messages (air_of messages n) (choice messages (air_of messages n) n)
    (IsAirOf-air_of messages n periods) (subst Choice (sym (length-air_of messages n))
    (IsChosen-choice messages (air_of messages n) n periods))
