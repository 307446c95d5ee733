-- Admitted load is a guarantee: a broadcast that lacks a page would leave more demand in its busy period than the loads
-- that are reserved there allow.
use Rattle.std.proofs.Common.{◌≡◌, ℕ, ◌+◌, ◌-◌, ◌*◌, ◌≤◌, ◌<◌, Bool, true, cond, List, length, get_or, min, sum_by}
use Rattle.std.proofs.Common.{Option, inl, inr, refl, sym, ap, subst, ◌∙◌, arith}
use Rattle.std.specs.List.{All, AllPairs}
use Rattle.std.proofs.lemmas.Bool.{cases_lt, eq-eqb, eqb-true}
use Rattle.std.proofs.lemmas.List.{get_or_default}
use Rattle.std.proofs.lemmas.List.Elements.{Contains-get_or}
use Rattle.std.proofs.lemmas.List.Sums.{get_or-le-sum_by}
use Rattle.scheduler.specs.Message.{ScheduledMessage, release, due}
use Rattle.scheduler.specs.Air.{Air, airs, pages_aired, IsPending}
use Rattle.scheduler.proofs.Rule.{pages_aired-at_most}
use Rattle.bsc_table.specs.Guarantee.{LoadsFit, IsUncut, AirsOneWithin, AdmittedLoadIsAGuarantee}
use Rattle.bsc_table.specs.Guarantee.{AdmittedBroadcastsAreCompleted}
use Rattle.admission.proofs.Matched.{sum_by-plus}
use Rattle.bsc_table.proofs.Load.Sums.{total, total-at_least, exchange, sum_by-le_more}
use Rattle.bsc_table.proofs.Load.Broadcasts.{uses, pages_before, before_stop-up_to}
use Rattle.bsc_table.proofs.Load.OwnBroadcasts.{IsServed, AiredInside, aired_inside, aired_short}
use Rattle.scheduler.proofs.Lists.{rising-same}
use Rattle.bsc_table.proofs.Load.Demand.{count_inside, demand_is_no_more_than_the_slots}
use Rattle.bsc_table.proofs.Load.BusyPeriod.{lack_means_a_busy_period}

-- in a list with rising numbers, one number is one message
same_message : (messages : List ScheduledMessage) (i k : ℕ) (d e : ScheduledMessage)
    → AllPairs (λ a b. a.entry < b.entry) messages
    → i < length messages → k < length messages → (get_or messages i d).entry ≡ (get_or messages k e).entry
    → get_or messages i d ≡ get_or messages k e
same_message messages i k d e rising here there same =
    let other = get_or_default messages k e d there in
    let entry : (get_or messages i d).entry ≡ (get_or messages k d).entry = same
    ∙ ap (λ (m : ScheduledMessage). m.entry) other in
    ap (λ n. get_or messages n d) (rising-same (λ (m : ScheduledMessage). m.entry) messages rising i k d here there
    entry)
    ∙ sym other

-- each slot of the range airs a page of a broadcast inside it
abbrev IsBusy : List ScheduledMessage → Air → ℕ → ℕ → Type 0
IsBusy messages air from to = (slot : ℕ) → from ≤ slot → slot < to → AirsOneWithin messages air from to slot

-- so what is aired of each message there belongs to its broadcasts inside
inside_of_busy : (messages : List ScheduledMessage) (air : Air) (from to i : ℕ) (e : ScheduledMessage)
    → AllPairs (λ a b. a.entry < b.entry) messages → i < length messages → IsBusy messages air from to
    → AiredInside (get_or messages i e) air from to
inside_of_busy messages air from to i e rising here busy = λ slot low high used.
    let one = busy slot low high in
    let Airs : Option (ℕ × ℕ) → Type 0 = λ u. airs (get_or messages i e).entry u ≡ true in
    let entry = eqb-true one.1.entry (get_or messages i e).entry (subst Airs one.4.2 used) in
    let found = ap (λ (m : ScheduledMessage). m.entry) one.3 ∙ entry in
    let same = sym one.3 ∙ same_message messages one.0 i one.1 e rising one.2 here found in
    let P : ScheduledMessage → Type 0 = λ m. (j : ℕ) × IsPending m j air slot × (from ≤ release m j) × (due m j ≤ to) in
    subst P same (one.4.0, one.4.1, one.4.3, one.4.4)

-- and each of its slots airs a page of one message at least
one_each : (messages : List ScheduledMessage) (air : Air) (from to slot : ℕ) → AirsOneWithin messages air from to slot
    → 1 ≤ sum_by (λ m. uses m.entry air slot) messages
one_each messages air from to slot one =
    let used : uses one.1.entry air slot ≡ 1 =
    ap (λ (u : Option (ℕ × ℕ)). cond (airs one.1.entry u) 1 0) one.4.2
    ∙ ap (λ (b : Bool). cond b 1 0) (eq-eqb one.1.entry one.1.entry refl) in
    let here = ap (λ (m : ScheduledMessage). uses m.entry air slot) one.3 in
    let part = get_or-le-sum_by (λ (m : ScheduledMessage). uses m.entry air slot) messages one.0 one.1 one.2 in
    omega arith

-- so that over the range as many pages are aired as it has slots
pages_grow : (messages : List ScheduledMessage) (air : Air) (from to : ℕ) → from ≤ to → IsBusy messages air from to
    → sum_by (λ (m : ScheduledMessage). pages_before m air from) messages + (to - from) ≤ sum_by
    (λ (m : ScheduledMessage). pages_before m air to) messages
pages_grow messages air from to forward busy =
    let f = λ (t : ℕ). sum_by (λ (m : ScheduledMessage). uses m.entry air t) messages in
    let reach : from + (to - from) ≡ to = omega arith in
    let grown = total-at_least f 1 from (to - from) (λ t low high. one_each messages air from to t
    (busy t low (omega arith))) in
    let at_from = exchange (λ (m : ScheduledMessage). uses m.entry air) messages from in
    let at_to = exchange (λ (m : ScheduledMessage). uses m.entry air) messages to in
    let moved = ap (total f) reach in
    omega arith

-- a broadcast that is due at the end of a busy period lacks no page: else fewer pages would be aired in it than it has
-- slots
no_lack : (messages : List ScheduledMessage) (air : Air) (k : ℕ) (d : ScheduledMessage) (j from : ℕ)
    → k < length messages
    → All (λ m. IsServed messages air m) messages → LoadsFit messages → from ≤ release (get_or messages k d) j
    → IsUncut (get_or messages k d) j air → IsBusy messages air from (due (get_or messages k d) j)
    → ¬ (pages_aired (get_or messages k d).entry air (release (get_or messages k d) j) (due (get_or messages k d) j) <
    (get_or messages k d).pages)
no_lack messages air k d j from within served fit early uncut busy lacks =
    let m = get_or messages k d in
    let to = due m j in
    let mine = served k d within in
    let period = mine.period in
    let ahead : release m j < to = omega arith in
    let forward : from ≤ to = omega arith in
    let aired = λ (o : ScheduledMessage). pages_before o air to in
    let before = λ (o : ScheduledMessage). pages_before o air from in
    let wanted = λ (o : ScheduledMessage). o.pages * count_inside o from to to in
    let inside = λ (i : ℕ) (e : ScheduledMessage) (h : i < length messages). inside_of_busy messages air from to i e
    mine.rising
    h busy in
    let each : All (λ o. aired o ≤ before o + wanted o) messages = λ i e h. aired_inside messages air
    (get_or messages i e) from to (served i e h) forward uncut.aired_by (inside i e h) in
    let short = aired_short messages air m from j mine early uncut.aired_by uncut.requested
    (before_stop-up_to (release m j) to m.stop ahead uncut.standing) lacks (inside k d within) in
    let fewer = sum_by-le_more aired (λ (o : ScheduledMessage). before o + wanted o) 1 messages k d within each short in
    let parts = sum_by-plus before wanted messages in
    let most = demand_is_no_more_than_the_slots messages from to (λ i e h. (served i e h).period) fit in
    let grown = pages_grow messages air from to forward busy in
    omega arith

-- no broadcast lacks a page: each uncut one has all its pages aired from its release up to its due slot
pub admitted_load_is_a_guarantee : AdmittedLoadIsAGuarantee
admitted_load_is_a_guarantee messages air admitted rule = λ k d within. λ j uncut.
    let m = get_or messages k d in
    let most = pages_aired-at_most messages air m j (due m j) admitted.rising (Contains-get_or messages k d within)
    rule uncut.aired_by (omega arith) in
    elim (cases_lt (pages_aired m.entry air (release m j) (due m j)) m.pages) [
      | inr enough ↦ omega arith
      | inl lacks ↦
          let busy = lack_means_a_busy_period messages air admitted.foreground rule k d within j uncut lacks in
          let served : All (λ o. IsServed messages air o) messages = λ i e h. record {
            rising = admitted.rising;
            rule = rule;
            here = Contains-get_or messages i e h;
            period = admitted.periods i e h;
          } in
          absurd (no_lack messages air k d j busy.0 within served admitted.fit busy.1 uncut busy.2 lacks)
    ]

-- so it counts as completed from its due slot on
pub admitted_broadcasts_are_completed : AdmittedBroadcastsAreCompleted
admitted_broadcasts_are_completed messages air slot admitted rule = λ k d within. λ j uncut by.
    let m = get_or messages k d in
    let all = admitted_load_is_a_guarantee messages air admitted rule k d within j uncut in
    let ahead : release m j < due m j = omega (arith, admitted.periods k d within) in
    let at : min (due m j) slot ≡ due m j = omega arith in
    let P : ℕ → Type 0 = λ n. m.pages ≤ pages_aired m.entry air (release m j) n in
    record {
      requested = uncut.requested;
      released = before_stop-up_to (release m j) (due m j) m.stop ahead uncut.standing;
      aired = subst P (sym at) (omega arith);
    }
