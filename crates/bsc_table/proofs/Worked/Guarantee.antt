-- The guarantee on worked runs: its premises hold of them, and matter.
use Rattle.std.proofs.Common.{◌≡◌, ℕ, zero, suc, ◌≤◌, ◌<◌, refl, Option, Some, None, List, [], ◌∷◌, map, sum_by, inl}
use Rattle.std.proofs.Common.{arith}
use Rattle.std.specs.List.{All, AllPairs}
use Rattle.std.proofs.lemmas.List.Elements.{All-cons}
use Rattle.std.proofs.lemmas.List.Kept.{AllPairs-cons}
use Rattle.admission.specs.declared.measure.TheConstants.{SCALE}
use Rattle.admission.specs.Reservation.{Reservation, loads_at}
use Rattle.admission.proofs.Reservations.{loads_at-le, loads_at-le_standing}
use Rattle.scheduler.specs.declared.plan.Rank.{Rank}
use Rattle.scheduler.specs.declared.plan.Rank.TheVariants.{High, Normal, Background}
use Rattle.scheduler.specs.Message.{ScheduledMessage, release, due}
use Rattle.scheduler.specs.Air.{Air, layer, pages_aired, IsAirOf}
use Rattle.scheduler.specs.Background.{foreground}
use Rattle.scheduler.specs.Completed.{completed}
use Rattle.scheduler.specs.Choice.{air_of}
use Rattle.scheduler.proofs.Choice.{IsAirOf-air_of}
use Rattle.bsc_table.specs.Guarantee.{reservation_of, LoadsFit, IsUncut, demand}
use Rattle.bsc_table.specs.Bounds.{least_completed, most_completed}
use Rattle.bsc_table.proofs.Load.Guarantee.{admitted_load_is_a_guarantee}

-- a message that stands until it is stopped
abbrev message : ℕ → ℕ → ℕ → ℕ → Option ℕ → Rank → ScheduledMessage
message entry start pages period stop rank = record {
  entry = entry;
  start = start;
  pages = pages;
  period = period;
  broadcasts = 0;
  stop = stop;
  rank = rank;
}

abbrev Rising : List ScheduledMessage → Type 0
Rising messages = AllPairs (λ a b. a.entry < b.entry) messages

abbrev HavePeriods : List ScheduledMessage → Type 0
HavePeriods messages = All (λ m. 0 < m.period) messages

none_of : (P : ScheduledMessage → Type 0) → All P []
none_of P = λ k d h. absurd (omega arith)

abbrev NoBackground : List ScheduledMessage → Type 0
NoBackground messages = All (λ m. layer m ≡ 0) messages

none_rising : Rising []
none_rising = λ i j d before within. absurd (omega arith)

-- a list without a stop in the way fits where all its loads together do
fit_together : (messages : List ScheduledMessage) → sum_by (λ (r : Reservation). r.load) (map reservation_of messages)
    ≤ SCALE
    → LoadsFit messages
fit_together messages all = λ slot. omega (arith, loads_at-le (map reservation_of messages) slot, all)

-- A: two pages in every fourth slot. B, C, D: one high page in every second, each until the next one is written
abbrev a : ScheduledMessage
a = message 0 0 2 4 None Normal

abbrev b : ScheduledMessage
b = message 1 0 1 2 (Some 1) High

abbrev c : ScheduledMessage
c = message 2 1 1 2 (Some 2) High

abbrev d : ScheduledMessage
d = message 3 2 1 2 None High

-- B is stopped at slot 1, and its load stays reserved up to slot 2: C finds no room
abbrev by_the_rules : List ScheduledMessage
by_the_rules = a ∷ b ∷ []

by_the_rules_aired : air_of by_the_rules 4 ≡ Some (1, 1) ∷ Some (0, 1) ∷ Some (0, 2) ∷ None ∷ []
by_the_rules_aired = refl

by_the_rules_rise : Rising by_the_rules
by_the_rules_rise =
    AllPairs-cons (λ (x : ScheduledMessage) (y : ScheduledMessage). x.entry < y.entry) a (b ∷ [])
    (All-cons (λ (y : ScheduledMessage). a.entry < y.entry) b [] (omega arith) (none_of (λ y. a.entry < y.entry)))
    (AllPairs-cons (λ (x : ScheduledMessage) (y : ScheduledMessage). x.entry < y.entry) b []
    (none_of (λ y. b.entry < y.entry))
    none_rising)

by_the_rules_foreground : NoBackground by_the_rules
by_the_rules_foreground =
    let Alone : ScheduledMessage → Type 0 = λ m. layer m ≡ 0 in
    All-cons Alone a (b ∷ []) refl (All-cons Alone b [] refl (none_of Alone))

by_the_rules_have_periods : HavePeriods by_the_rules
by_the_rules_have_periods =
    All-cons (λ (m : ScheduledMessage). 0 < m.period) a (b ∷ []) (omega arith)
    (All-cons (λ (m : ScheduledMessage). 0 < m.period) b [] (omega arith) (none_of (λ m. 0 < m.period)))

by_the_rules_sum : sum_by (λ (r : Reservation). r.load) (map reservation_of by_the_rules) ≡ SCALE
by_the_rules_sum = refl

by_the_rules_fit : LoadsFit by_the_rules
by_the_rules_fit = fit_together by_the_rules (omega (arith, by_the_rules_sum))

-- so A's broadcast, due at slot 4, is completed
a_is_whole : pages_aired 0 (air_of by_the_rules 4) 0 4 ≡ 2
a_is_whole =
    admitted_load_is_a_guarantee by_the_rules (air_of by_the_rules 4)
    (record {
      rising = by_the_rules_rise;
      periods = by_the_rules_have_periods;
      foreground =
          by_the_rules_foreground;
      fit = by_the_rules_fit;
    }) (IsAirOf-air_of by_the_rules 4 by_the_rules_have_periods) 0
    a (omega arith) 0 (record { requested = inl refl; standing = tt; aired_by = omega arith })

by_the_rules_demand : demand by_the_rules 0 4 ≡ 3
by_the_rules_demand = refl

-- were a load freed at the stop itself, each slot would have room, and yet A's broadcast would lack a page
abbrev all_four : List ScheduledMessage
all_four = a ∷ b ∷ c ∷ d ∷ []

abbrev freed_at_once : ScheduledMessage → Reservation
freed_at_once m = record (reservation_of m) { end = m.stop }

freed_at_once_0 : loads_at (map freed_at_once all_four) 0 ≡ SCALE
freed_at_once_0 = refl

freed_at_once_1 : loads_at (map freed_at_once all_four) 1 ≡ SCALE
freed_at_once_1 = refl

freed_at_once_2 : loads_at (map freed_at_once all_four) 2 ≡ SCALE
freed_at_once_2 = refl

freed_at_once_3 : loads_at (map freed_at_once all_four) 3 ≡ SCALE
freed_at_once_3 = refl

all_four_aired : air_of all_four 4 ≡ Some (1, 1) ∷ Some (2, 1) ∷ Some (3, 1) ∷ Some (0, 1) ∷ []
all_four_aired = refl

a_lacks_a_page : pages_aired 0 (air_of all_four 4) 0 4 ≡ 1
a_lacks_a_page = refl

-- so the guarantee would be false, if a stop freed its message's load at once
all_four_rise : Rising all_four
all_four_rise =
    let Below : ScheduledMessage → ScheduledMessage → Type 0 = λ x y. x.entry < y.entry in
    AllPairs-cons Below a (b ∷ c ∷ d ∷ []) (All-cons (Below a) b (c ∷ d ∷ []) (omega arith)
    (All-cons (Below a) c (d ∷ []) (omega arith) (All-cons (Below a) d [] (omega arith) (none_of (Below a)))))
    (AllPairs-cons Below b (c ∷ d ∷ []) (All-cons (Below b) c (d ∷ []) (omega arith)
    (All-cons (Below b) d [] (omega arith) (none_of (Below b))))
    (AllPairs-cons Below c (d ∷ []) (All-cons (Below c) d [] (omega arith) (none_of (Below c)))
    (AllPairs-cons Below d [] (none_of (Below d)) none_rising)))

all_four_have_periods : HavePeriods all_four
all_four_have_periods =
    let Has : ScheduledMessage → Type 0 = λ m. 0 < m.period in
    All-cons Has a (b ∷ c ∷ d ∷ []) (omega arith) (All-cons Has b (c ∷ d ∷ []) (omega arith)
    (All-cons Has c (d ∷ []) (omega arith) (All-cons Has d [] (omega arith) (none_of Has))))

freed_at_once_rest : sum_by (λ (x : Reservation). x.load) (map freed_at_once (a ∷ d ∷ [])) ≡ SCALE
freed_at_once_rest = refl

freed_at_once_fit : (slot : ℕ) → loads_at (map freed_at_once all_four) slot ≤ SCALE
freed_at_once_fit zero = omega arith
freed_at_once_fit (suc zero) = omega arith
freed_at_once_fit (suc (suc slot)) =
    omega (
      arith,
      loads_at-le_standing (map freed_at_once all_four) 2 (suc (suc slot)) (omega arith),
      freed_at_once_rest,
    )

abbrev FreedAtOnceIsAGuarantee : Type 0
FreedAtOnceIsAGuarantee = (messages : List ScheduledMessage) (air : Air)
    → Rising messages
    → HavePeriods messages
    → ((slot : ℕ) → loads_at (map freed_at_once messages) slot ≤ SCALE)
    → IsAirOf messages air
    → All (λ m. (j : ℕ) → IsUncut m j air → pages_aired m.entry air (release m j) (due m j) ≡ m.pages) messages

freed_at_once_is_no_guarantee : ¬ FreedAtOnceIsAGuarantee
freed_at_once_is_no_guarantee claim =
    let whole : pages_aired 0 (air_of all_four 4) 0 4 ≡ 2 =
    claim all_four (air_of all_four 4) all_four_rise all_four_have_periods freed_at_once_fit
    (IsAirOf-air_of all_four 4 all_four_have_periods) 0 a (omega arith) 0
    (record { requested = inl refl; standing = tt; aired_by = omega arith }) in
    omega (arith, whole, a_lacks_a_page)

-- by the rules slot 1 would have half as much again as there is
all_four_over : loads_at (map reservation_of all_four) 1 ≡ 349188840
all_four_over = refl

-- R, Q, P: a sixth, a third and a half fill each slot
abbrev r : ScheduledMessage
r = message 0 0 1 6 None Normal

abbrev p : ScheduledMessage
p = message 2 0 1 2 None Normal

abbrev three : List ScheduledMessage
three = r ∷ message 1 0 1 3 None Normal ∷ p ∷ []

three_aired : air_of three 6 ≡ Some (2, 1) ∷ Some (1, 1) ∷ Some (2, 1) ∷ Some (0, 1) ∷ Some (1, 1) ∷ Some (2, 1) ∷ []
three_aired = refl

three_demand : demand three 0 6 ≡ 6
three_demand = refl

three_sum : sum_by (λ (x : Reservation). x.load) (map reservation_of three) ≡ SCALE
three_sum = refl

three_fit : LoadsFit three
three_fit = fit_together three (omega (arith, three_sum))

three_rise : Rising three
three_rise =
    let Below : ScheduledMessage → ScheduledMessage → Type 0 = λ x y. x.entry < y.entry in
    let q = message 1 0 1 3 None Normal in
    AllPairs-cons Below r (q ∷ p ∷ []) (All-cons (Below r) q (p ∷ []) (omega arith)
    (All-cons (Below r) p [] (omega arith) (none_of (Below r))))
    (AllPairs-cons Below q (p ∷ []) (All-cons (Below q) p [] (omega arith) (none_of (Below q)))
    (AllPairs-cons Below p [] (none_of (Below p)) none_rising))

three_foreground : NoBackground three
three_foreground =
    let Alone : ScheduledMessage → Type 0 = λ m. layer m ≡ 0 in
    let q = message 1 0 1 3 None Normal in
    All-cons Alone r (q ∷ p ∷ []) refl (All-cons Alone q (p ∷ []) refl (All-cons Alone p [] refl (none_of Alone)))

three_have_periods : HavePeriods three
three_have_periods =
    let Has : ScheduledMessage → Type 0 = λ m. 0 < m.period in
    let q = message 1 0 1 3 None Normal in
    All-cons Has r (q ∷ p ∷ []) (omega arith) (All-cons Has q (p ∷ []) (omega arith)
    (All-cons Has p [] (omega arith) (none_of Has)))

-- so R's one broadcast is aired by slot 6
r_is_whole : pages_aired 0 (air_of three 6) 0 6 ≡ 1
r_is_whole =
    admitted_load_is_a_guarantee three (air_of three 6) (record
    { rising = three_rise; periods = three_have_periods; foreground = three_foreground; fit = three_fit })
    (IsAirOf-air_of three 6 three_have_periods) 0 r (omega arith) 0
    (record { requested = inl refl; standing = tt; aired_by = omega arith })

-- Q is replaced at slot 3, on the boundary of its period, by one with the same load
abbrev replaced : List ScheduledMessage
replaced = r ∷ message 1 0 1 3 (Some 3) Normal ∷ p ∷ message 3 3 1 3 None Normal ∷ []

replaced_aired : air_of replaced 6 ≡ Some (2, 1) ∷ Some (1, 1) ∷ Some (2, 1) ∷ Some (0, 1) ∷ Some (2, 1) ∷ Some (3, 1)
    ∷ []
replaced_aired = refl

replaced_completed : completed (message 1 0 1 3 (Some 3) Normal) (air_of replaced 6) 3 ≡ 1
replaced_completed = refl

replaced_rest : sum_by (λ (x : Reservation). x.load) (map reservation_of (r ∷ p ∷ message 3 3 1 3 None Normal ∷ [])) ≡
    SCALE
replaced_rest = refl

replaced_fit : LoadsFit replaced
replaced_fit zero = omega arith
replaced_fit (suc zero) = omega arith
replaced_fit (suc (suc zero)) = omega arith
replaced_fit (suc (suc (suc slot))) =
    omega (
      arith,
      loads_at-le_standing (map reservation_of replaced) 3 (suc (suc (suc slot))) (omega arith),
      replaced_rest,
    )

replaced_rise : Rising replaced
replaced_rise =
    let Below : ScheduledMessage → ScheduledMessage → Type 0 = λ x y. x.entry < y.entry in
    let q = message 1 0 1 3 (Some 3) Normal in
    let n = message 3 3 1 3 None Normal in
    AllPairs-cons Below r (q ∷ p ∷ n ∷ []) (All-cons (Below r) q (p ∷ n ∷ []) (omega arith)
    (All-cons (Below r) p (n ∷ []) (omega arith) (All-cons (Below r) n [] (omega arith) (none_of (Below r)))))
    (AllPairs-cons Below q (p ∷ n ∷ []) (All-cons (Below q) p (n ∷ []) (omega arith)
    (All-cons (Below q) n [] (omega arith) (none_of (Below q))))
    (AllPairs-cons Below p (n ∷ []) (All-cons (Below p) n [] (omega arith) (none_of (Below p)))
    (AllPairs-cons Below n [] (none_of (Below n)) none_rising)))

replaced_foreground : NoBackground replaced
replaced_foreground =
    let Alone : ScheduledMessage → Type 0 = λ m. layer m ≡ 0 in
    let q = message 1 0 1 3 (Some 3) Normal in
    let n = message 3 3 1 3 None Normal in
    All-cons Alone r (q ∷ p ∷ n ∷ []) refl (All-cons Alone q (p ∷ n ∷ []) refl
    (All-cons Alone p (n ∷ []) refl (All-cons Alone n [] refl (none_of Alone))))

replaced_have_periods : HavePeriods replaced
replaced_have_periods =
    let Has : ScheduledMessage → Type 0 = λ m. 0 < m.period in
    let q = message 1 0 1 3 (Some 3) Normal in
    let n = message 3 3 1 3 None Normal in
    All-cons Has r (q ∷ p ∷ n ∷ []) (omega arith) (All-cons Has q (p ∷ n ∷ []) (omega arith)
    (All-cons Has p (n ∷ []) (omega arith) (All-cons Has n [] (omega arith) (none_of Has))))

-- so the new one's first broadcast is completed by slot 6
replacement_is_whole : pages_aired 3 (air_of replaced 6) 3 6 ≡ 1
replacement_is_whole =
    admitted_load_is_a_guarantee replaced (air_of replaced 6)
    (record {
      rising = replaced_rise;
      periods = replaced_have_periods;
      foreground = replaced_foreground;
      fit =
          replaced_fit;
    }) (IsAirOf-air_of replaced 6 replaced_have_periods) 3 r (omega arith) 0
    (record { requested = inl refl; standing = tt; aired_by = omega arith })

-- replaced at slot 4, within its period, it would leave no room for the new one
replaced_late_over : loads_at (map reservation_of (r ∷ message 1 0 1 3 (Some 4) Normal ∷ p ∷ message 3 4 1 3 None
    Normal ∷ [])) 4 ≡ 310390080
replaced_late_over = refl

-- two broadcasts, in the slots 0 to 2 and 3 to 5: by slot 10 both are completed, and by slot 4 the first is
abbrev twice : ScheduledMessage
twice = record (message 0 0 1 3 None Normal) { broadcasts = 2 }

twice_least : least_completed twice 10 ≡ 2
twice_least = refl

twice_most : most_completed twice 10 ≡ 2
twice_most = refl

twice_least_within : least_completed twice 4 ≡ 1
twice_least_within = refl

twice_most_within : most_completed twice 4 ≡ 2
twice_most_within = refl

-- a broadcast that a stop cuts may be completed or not, as its pages and the others have it
abbrev cut : ℕ → ScheduledMessage
cut pages = message 0 0 pages 4 (Some 3) Normal

cut_least : least_completed (cut 1) 8 ≡ 0
cut_least = refl

cut_most : most_completed (cut 1) 8 ≡ 1
cut_most = refl

cut_but_whole : completed (cut 1) (air_of (cut 1 ∷ d ∷ []) 8) 8 ≡ 1
cut_but_whole = refl

cut_and_lost : completed (cut 2) (air_of (cut 2 ∷ message 1 0 1 2 None High ∷ []) 8) 8 ≡ 0
cut_and_lost = refl

-- stopped on the boundary of a period, nothing of it is in doubt
boundary_least : least_completed (message 0 0 1 3 (Some 3) Normal) 8 ≡ 1
boundary_least = refl

boundary_most : most_completed (message 0 0 1 3 (Some 3) Normal) 8 ≡ 1
boundary_most = refl

-- nor of one that has not begun
unbegun_least : least_completed (message 0 5 1 3 None Normal) 4 ≡ 0
unbegun_least = refl

unbegun_most : most_completed (message 0 5 1 3 None Normal) 4 ≡ 0
unbegun_most = refl

-- N: a page in every second slot. B: two pages of background in every fourth, beside it
abbrev beside_background : List ScheduledMessage
beside_background = message 0 0 1 2 None Normal ∷ message 1 0 2 4 None Background ∷ []

abbrev n_alone : List ScheduledMessage
n_alone = message 0 0 1 2 None Normal ∷ []

n_is_alone : foreground beside_background ≡ n_alone
n_is_alone = refl

beside_background_aired : air_of beside_background 4 ≡ Some (0, 1) ∷ Some (1, 1) ∷ Some (0, 1) ∷ Some (1, 2) ∷ []
beside_background_aired = refl
