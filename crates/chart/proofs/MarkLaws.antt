-- A message has as many marks as broadcasts of it were completed: its last page is aired as often, and never outside
-- its reservation.
use Rattle.std.proofs.Common.{◌≡◌, ◌<◌, ◌≤◌, ◌+◌, ◌-◌, ◌==◌, ◌∙◌, ℕ, suc, zero, Bool, true, false, List}
use Rattle.std.proofs.Common.{Option, None, Some, All, ap, ap₂, cond, drop, get_or}
use Rattle.std.proofs.Common.{length, min}
use Rattle.std.proofs.Common.{refl, sym, take}
use native.Mathlib.Omega.{arith}
use Rattle.std.specs.List.{Contains, count_by, range_with_len, slice_get}
use Rattle.std.specs.Option.{option_map_or, unwrap_or}
use Rattle.std.proofs.lemmas.Bool.{and_parts}
use Rattle.std.proofs.lemmas.List.Sums.{sum_by-cons}
use Rattle.std.proofs.lemmas.Option.{slice_get-get_or}
use Rattle.std.proofs.lemmas.List.{drop_more, get_or_default, get_or-map}
use Rattle.std.proofs.lemmas.List.{length-map}
use Rattle.admission.specs.Reservation.{IsBeforeEnd}
use Rattle.scheduler.specs.Air.{Air, airs}
use Rattle.scheduler.specs.AirLaws.{LastPagesAreCompletedBroadcasts, NumbersRise, PagesComeInOrder}
use Rattle.scheduler.specs.Completed.{completed}
use Rattle.scheduler.specs.Message.{ScheduledMessage, IsBeforeStop, release}
use Rattle.scheduler.specs.Pages.{airs_page}
use Rattle.bsc_table.specs.Claim.{end_of}
use Rattle.bsc_table.specs.Guarantee.{ReservationsCoverBroadcasts}
use Rattle.bsc_table.specs.Legal.{IsLegal}
use Rattle.bsc_table.specs.Record.{Accepted, Record, accepted_in, messages_in}
use Rattle.bsc_table.specs.Written.{AcceptedHaveLoads, AcceptedRise}
use Rattle.chart.proofs.CountLaws.{counted_up_to, counted_within}
use Rattle.chart.specs.Laws.{AreDrawn, MarksAreCompleted, MarksOfPartsAreCompleted}
use Rattle.chart.specs.Message.{end_within, is_marked, number_if_crowded, number_of_marks}
use Rattle.chart.specs.View.{stretch_of}
use Rattle.chart.specs.declared.view.Part.{Part}
use Rattle.chart.specs.declared.view.Stretch.{Stretch}

-- the laws that are used
pub record Laws : Type 0 where
  pub rise : AcceptedRise
  pub loads : AcceptedHaveLoads
  pub cover : ReservationsCoverBroadcasts
  pub order : PagesComeInOrder
  pub last : LastPagesAreCompletedBroadcasts

-- what a slot airs
abbrev Slot : Type 0
Slot = Option (ℕ × ℕ)

-- a count by places is that of the elements there
counted_at : (p : Slot → Bool) (d : Slot) (xs : List Slot) (a n : ℕ) → n ≤ length xs - a
    → count_by (λ i. option_map_or p (slice_get xs i) false) (range_with_len a n) ≡ count_by p (take n (drop a xs))
counted_at p d xs a zero few = refl
counted_at p d xs a (suc n) few =
    let inside : a < length xs = omega (arith, few) in
    let x = get_or xs a d in
    let at : (i : ℕ) → Bool = λ i. option_map_or p (slice_get xs i) false in
    let here : at a ≡ p x = ap (λ (o : Option Slot). option_map_or p o false) (slice_get-get_or xs a d inside) in
    sum_by-cons (λ i. cond (at i) 1 0) a (range_with_len (a + 1) n)
    ∙ ap₂ (λ (b : Bool) (m : ℕ). cond b 1 0 + m) here (counted_at p d xs (a + 1) n (omega (arith, few)))
    ∙ sym (sum_by-cons (λ y. cond (p y) 1 0) x (take n (drop (a + 1) xs)))
    ∙ ap (λ (ys : List Slot). count_by p (take (suc n) ys)) (sym (drop_more xs a d inside))

-- the slot of a message's page lies in its reservation
in_reservation : Laws → (messages : List ScheduledMessage) (air : Air) (m : ScheduledMessage) (slots i : ℕ)
    → NumbersRise messages
    → Contains messages m
    → Rattle.scheduler.specs.Air.IsAirOf messages air
    → length air ≡ slots
    → i < length air
    → airs_page m.entry m.pages (get_or air i None) ≡ true
    → (m.start ≤ i) × (i < end_within slots m)
in_reservation laws messages air m slots i rise here rule long within aired =
    let used = get_or air i None in
    let sent = laws.order messages air i m rise here rule within (airs_of used aired) in
    let pending = sent.1 in
    let kept = laws.cover m sent.0 i pending.requested (earlier sent.0 m.stop pending.released pending.standing)
    pending.released pending.not_due
    in
    (kept.0, before (end_of m) kept.1)
  where
    airs_of : (used : Option (ℕ × ℕ)) → airs_page m.entry m.pages used ≡ true → airs m.entry used ≡ true
    airs_of None is = is
    airs_of (Some used) is = (and_parts (used.0 == m.entry) (used.1 == m.pages) is).0

    earlier : (j : ℕ) (stop : Option ℕ) → release m j ≤ i → IsBeforeStop i stop → IsBeforeStop (release m j) stop
    earlier j None released is = tt
    earlier j (Some stop) released is = omega (arith, released, is)

    before : (end : Option ℕ) → IsBeforeEnd i end → i < min (unwrap_or end slots) slots
    before None is = omega (arith, within, long)
    before (Some end) is = omega (arith, within, long, is)

-- what is known of an accepted message
record IsKnown (r : Record) (m : ScheduledMessage) : Type 0 where
  pub rise : NumbersRise (messages_in r.log)
  pub there : Contains (messages_in r.log) m
  pub load : (0 < m.pages) × (0 < m.period)
  pub aired : Rattle.scheduler.specs.Air.IsAirOf (messages_in r.log) r.air
  pub played : length r.air ≡ r.slots

known : Laws → (r : Record) → IsLegal r → r.clock ≡ r.slots → All (λ a. IsKnown r a.message) (accepted_in r.log)
known laws r legal played k d within =
    let all : List Accepted = accepted_in r.log in
    let a : Accepted = get_or all k d in
    let message : Accepted → ScheduledMessage = λ x. x.message in
    let long = length-map all message in
    record {
      rise = λ i j e less inside.
          let second : j < length all = omega (arith, long, inside) in
          let first : i < length all = omega (arith, less, second) in
          rw (get_or-map message all i a e first)
          (rw (get_or-map message all j a e second) (laws.rise r.log i j a less second));
      there = (
        k,
        omega (arith, long, within),
        get_or-map message all k a a.message within ∙ ap message (get_or_default all k a d within),
      );
      load = laws.loads r legal k d within;
      aired = legal.aired;
      played = legal.played ∙ played;
    }

-- the marks at the slots of a stretch are those of all slots in it
all_in_stretch : Laws → (r : Record) (m : ScheduledMessage) (s : Stretch) → IsKnown r m → s.to ≤ r.slots
    → number_of_marks s r.slots r.air m ≡ count_by (is_marked r.air m) (range_with_len s.from (s.to - s.from))
all_in_stretch laws r m s is within =
    counted_within (is_marked r.air m) m.start (end_within r.slots m) s.from s.to
    (λ i inside marked.
    let there : i < length r.air = omega (arith, inside, within, is.played) in
    in_reservation laws (messages_in r.log) r.air m r.slots i is.rise is.there is.aired is.played there
    (ap (λ (o : Option Slot). option_map_or (airs_page m.entry m.pages) o false)
    (sym (slice_get-get_or r.air i None there)) ∙ marked))

-- up to a slot there are as many as broadcasts that were completed
up_to : Laws → (r : Record) (m : ScheduledMessage) (slot : ℕ) → IsKnown r m → slot ≤ r.slots
    → count_by (is_marked r.air m) (range_with_len 0 slot) ≡ completed m r.air slot
up_to laws r m slot is within =
    counted_at (airs_page m.entry m.pages) None r.air 0 slot (omega (arith, within, is.played))
    ∙ laws.last (messages_in r.log) r.air m slot is.rise is.there is.load.0 is.load.1 is.aired
    (omega (arith, within, is.played))

-- each whole broadcast of a message has a mark
each_has_a_mark : Laws → (r : Record) (m : ScheduledMessage) → IsKnown r m
    → number_of_marks (stretch_of None r.slots) r.slots r.air m ≡ completed m r.air r.slots
each_has_a_mark laws r m is =
    let whole : r.slots - 0 ≡ r.slots = omega arith in
    all_in_stretch laws r m (stretch_of None r.slots) is (omega arith)
    ∙ ap (λ (n : ℕ). count_by (is_marked r.air m) (range_with_len 0 n)) whole
    ∙ up_to laws r m r.slots is (omega arith)

-- and in a part of the run each that was completed in it
each_in_part : Laws → (r : Record) (m : ScheduledMessage) (part : Part) → IsKnown r m
    → (let s = stretch_of (Some part) r.slots in
    number_of_marks s r.slots r.air m ≡ completed m r.air s.to - completed m r.air s.from)
each_in_part laws r m part is =
    let s : Stretch = stretch_of (Some part) r.slots in
    let ordered : s.from ≤ s.to = omega arith in
    let within : s.to ≤ r.slots = omega arith in
    all_in_stretch laws r m s is within
    ∙ counted_up_to (is_marked r.air m) s.from s.to ordered
    ∙ ap₂ (λ (a b : ℕ). a - b) (up_to laws r m s.to is within)
    (up_to laws r m s.from is (omega (arith, ordered, within)))

-- with as many marks as whole broadcasts, these are drawn or their number is said
drawn : (r : Record) (s : Stretch) (a : Accepted) (whole : ℕ) → number_of_marks s r.slots r.air a.message ≡ whole
    → AreDrawn r s a whole
drawn r s a whole is = record {
  marks = is;
  number = ap (λ (n : ℕ). number_if_crowded s a.message.period n) is;
}

-- a message has a mark for each of its whole broadcasts, where they are drawn
pub marks_are_completed : Laws → MarksAreCompleted
marks_are_completed laws r legal played k d within =
    let a : Accepted = get_or (accepted_in r.log) k d in
    drawn r (stretch_of None r.slots) a (completed a.message r.air r.slots)
    (each_has_a_mark laws r a.message (known laws r legal played k d within))

-- and in a part of the run one for each that was completed in it
pub marks_of_parts_are_completed : Laws → MarksOfPartsAreCompleted
marks_of_parts_are_completed laws r part legal played k d within =
    let a : Accepted = get_or (accepted_in r.log) k d in
    let s : Stretch = stretch_of (Some part) r.slots in
    drawn r s a (completed a.message r.air s.to - completed a.message r.air s.from)
    (each_in_part laws r a.message part (known laws r legal played k d within))
