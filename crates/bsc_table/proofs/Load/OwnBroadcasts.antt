-- What is aired of a message in a range of slots, where all of it belongs to broadcasts that are released and due
-- inside the range: no more than the pages of these.
use Rattle.std.proofs.Common.{◌≡◌, ℕ, zero, suc, ◌+◌, ◌*◌, ◌≤◌, ◌<◌, true, List, length, get_or, None, inl, inr, sym}
use Rattle.std.proofs.Common.{ap, subst, ◌∙◌, arith}
use Rattle.std.specs.List.{AllPairs, Contains}
use Rattle.std.proofs.lemmas.Bool.{cases_lt, cases_Bool, false≢true}
use Rattle.std.proofs.Math.Nat.{mul-le-mul_left, le-mul_of_pos_right}
use Rattle.scheduler.specs.Message.{ScheduledMessage, release, due, broadcast_at, HasBroadcast, IsBeforeStop}
use Rattle.scheduler.specs.Air.{Air, airs, pages_aired, IsPending, IsAirOf}
use Rattle.scheduler.proofs.Air.{broadcast_at-released, broadcast_at-not_due, broadcast_at-only}
use Rattle.scheduler.proofs.Rule.{pages_aired-at_most}
use Rattle.bsc_table.specs.Guarantee.{is_inside}
use Rattle.bsc_table.proofs.Load.Broadcasts.{pages_before, due-le-release, release-lt, pages_by_sums, none_aired}
use Rattle.bsc_table.proofs.Load.Broadcasts.{before_stop-sooner}
use Rattle.bsc_table.proofs.Load.Demand.{IsInside, is_inside-from, count_inside, count_inside-le, count_inside-one}
use Rattle.bsc_table.proofs.Load.Demand.{count_inside-none}

-- the message has a period and stands in a list with rising numbers, and the air list is by the rule
pub record IsServed (messages : List ScheduledMessage) (air : Air) (m : ScheduledMessage) : Type 0 where
  pub rising : AllPairs (λ a b. a.entry < b.entry) messages
  pub rule : IsAirOf messages air
  pub here : Contains messages m
  pub period : 0 < m.period

-- what is aired of the message in the range belongs to a broadcast that is released and due inside it
abbrev pub AiredInside : ScheduledMessage → Air → ℕ → ℕ → Type 0
AiredInside m air from to = (t : ℕ) → from ≤ t → t < to → airs m.entry (get_or air t None) ≡ true → (j : ℕ)
    × IsPending m j air t × (from ≤ release m j) × (due m j ≤ to)

-- at a slot of a broadcast's time no other broadcast of the message is pending
same_broadcast : (m : ScheduledMessage) (i j : ℕ) (air : Air) (t : ℕ) → 0 < m.period → IsPending m i air t
    → release m j ≤ t
    → t < due m j → i ≡ j
same_broadcast m i j air t period p low high =
    let started : m.start ≤ t = omega arith in
    broadcast_at-only m t i period started p.released p.not_due ∙ sym (broadcast_at-only m t j period started low high)

-- a broadcast of which a page is aired is inside
aired_is_inside : (m : ScheduledMessage) (air : Air) (from to k t : ℕ) → 0 < m.period → AiredInside m air from to
    → from ≤ t
    → t < to → release m k ≤ t → t < due m k → airs m.entry (get_or air t None) ≡ true → IsInside m from to k
aired_is_inside m air from to k t period inside low high released not_due used =
    let found = inside t low high used in
    let same = same_broadcast m found.0 k air t period found.1 released not_due in
    let P : ℕ → Type 0 = λ i. IsInside m from to i in
    subst P same (record {
      requested = found.1.requested;
      standing = before_stop-sooner (release m found.0) t m.stop found.1.released found.1.standing;
      released = found.2;
      due_by = found.3;
    })

-- one more broadcast, by numbers alone
one_more : (pages count first before upto aired more : ℕ) → before ≤ first + pages * count → aired + before ≡ upto
    → aired + more ≤ pages → upto + more ≤ first + pages * (count + 1)
one_more pages count first before upto aired more taken sums few = omega arith

-- from the range's begin up to a release
aired_upto_release : (messages : List ScheduledMessage) (air : Air) (m : ScheduledMessage) (from to k : ℕ)
    → IsServed messages air m
    → from ≤ release m k → release m k ≤ to → to ≤ length air → AiredInside m air from to
    → pages_before m air (release m k) ≤ pages_before m air from + m.pages * count_inside m from to k
aired_upto_release messages air m from to zero served ahead upto within inside =
    let none = none_aired m.entry air from (release m 0) ahead (λ t low high used.
    let found = inside t low (omega arith) used in
    omega (arith, found.1.released)) in
    omega arith
aired_upto_release messages air m from to (suc k) served ahead upto within inside =
    let next : due m k ≡ release m (suc k) = omega arith in
    let step : release m k ≤ due m k = omega arith in
    elim (cases_lt (release m k) from) [
      | inl before ↦
          let none = none_aired m.entry air from (release m (suc k)) ahead (λ t low high used.
          let found = inside t low (omega arith) used in
          let later = release-lt m k found.0 (omega (arith, found.2)) in
          let due_by = due-le-release m k found.0 later in
          omega (arith, found.1.released)) in
          omega arith
      | inr after ↦
          let front = aired_upto_release messages air m from to k served after (omega arith) within inside in
          let last = ap (λ n. pages_before m air n) next in
          elim (cases_Bool (is_inside m from to k)) [
            | inl one ↦
                let few = pages_aired-at_most messages air m k (due m k) served.rising served.here served.rule
                (omega arith) (omega arith) in
                let sums = pages_by_sums m.entry air (release m k) (due m k) step (omega arith) in
                let all = one_more m.pages (count_inside m from to k) (pages_before m air from)
                (pages_before m air (release m k)) (pages_before m air (due m k))
                (pages_aired m.entry air (release m k) (due m k)) 0 front sums (omega arith) in
                let times = ap (λ n. m.pages * n) (count_inside-one m from to k one) in
                omega arith
            | inr cut ↦
                let none = none_aired m.entry air (release m k) (due m k) step (λ t low high used.
                let fact = aired_is_inside m air from to k t served.period inside (omega arith) (omega arith) low high
                used in
                false≢true (sym cut ∙ is_inside-from m from to k fact)) in
                let times = ap (λ n. m.pages * n) (count_inside-none m from to k cut) in
                omega arith
          ]
    ]

-- over the whole range
pub aired_inside : (messages : List ScheduledMessage) (air : Air) (m : ScheduledMessage) (from to : ℕ)
    → IsServed messages air m
    → from ≤ to → to ≤ length air → AiredInside m air from to
    → pages_before m air to ≤ pages_before m air from + m.pages * count_inside m from to to
aired_inside messages air m from to served ahead within inside =
    elim (cases_lt to m.start) [
      | inl early ↦
          let none = none_aired m.entry air from to ahead (λ t low high used.
          let found = inside t low high used in
          omega (arith, found.1.released)) in
          omega arith
      | inr started ↦
          let k = broadcast_at m to in
          let released : release m k ≤ to = broadcast_at-released m to served.period started in
          let not_due : to < due m k = broadcast_at-not_due m to served.period started in
          elim (cases_lt (release m k) from) [
            | inl before ↦
                let none = none_aired m.entry air from to ahead (λ t low high used.
                let found = inside t low high used in
                let later = release-lt m k found.0 (omega (arith, found.2)) in
                let due_by = due-le-release m k found.0 later in
                omega (arith, found.1.released)) in
                omega arith
            | inr after ↦
                let front = aired_upto_release messages air m from to k served after released within inside in
                let none = none_aired m.entry air (release m k) to released (λ t low high used.
                let found = inside t (omega arith) high used in
                let sooner = release-lt m found.0 k (due_sooner m found.0 k to found.3 not_due) in
                let due_by = due-le-release m found.0 k sooner in
                omega (arith, found.1.not_due)) in
                let few : k ≤ to = omega (arith, le-mul_of_pos_right k served.period) in
                let times = mul-le-mul_left m.pages (count_inside-le m from to k to few) in
                omega arith
          ]
    ]
  where
    due_sooner : (m : ScheduledMessage) (i k b : ℕ) → due m i ≤ b → b < due m k → release m i < release m k
    due_sooner m i k b sooner later = omega arith

-- and one page less, where the broadcast that is due at the range's end lacks one
pub aired_short : (messages : List ScheduledMessage) (air : Air) (m : ScheduledMessage) (from j : ℕ)
    → IsServed messages air m
    → from ≤ release m j → due m j ≤ length air → HasBroadcast m j → IsBeforeStop (release m j) m.stop
    → pages_aired m.entry air (release m j) (due m j) < m.pages → AiredInside m air from (due m j)
    → pages_before m air (due m j) + 1 ≤ pages_before m air from + m.pages * count_inside m from (due m j) (due m j)
aired_short messages air m from j served ahead within has standing lacks inside =
    let step : release m j ≤ due m j = omega (arith, served.period) in
    let front = aired_upto_release messages air m from (due m j) j served ahead step within inside in
    let sums = pages_by_sums m.entry air (release m j) (due m j) step within in
    let all = one_more m.pages (count_inside m from (due m j) j) (pages_before m air from)
    (pages_before m air (release m j)) (pages_before m air (due m j))
    (pages_aired m.entry air (release m j) (due m j)) 1 front sums (omega arith) in
    let fact = is_inside-from m from (due m j) j (record {
      requested = has;
      standing = standing;
      released = ahead;
      due_by = omega arith;
    }) in
    let one = count_inside-one m from (due m j) j fact in
    let few : suc j ≤ due m j = omega (arith, le-mul_of_pos_right (j + 1) served.period) in
    let times = mul-le-mul_left m.pages (count_inside-le m from (due m j) (suc j) (due m j) few) in
    let more = ap (λ n. m.pages * n) one in
    omega arith
