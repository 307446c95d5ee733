-- What the reservations of a budget hold never rises: what a reservation gains at its start, the one that it waited
-- behind has lost there.
use Rattle.std.proofs.Common.{◌≡◌, ℕ, ◌+◌, ◌-◌, ◌≤◌, ◌<◌, ◌==◌, ◌⊎◌, Bool, true, false, cond, Option, Some, None, List}
use Rattle.std.proofs.Common.{[], ◌∷◌, get_or, map, filter, sum_by, refl, sym, ap, subst, ◌∙◌, inl, inr, arith}
use Rattle.std.specs.List.{All, AllPairs}
use Rattle.std.specs.Option.{option_map}
use Rattle.std.proofs.lemmas.Bool.{cases_Bool, cases_lt, lt-ltb, le-ltb, eqb-true, eq-eqb, false≢true}
use Rattle.std.proofs.lemmas.Option.{none-some}
use Rattle.std.proofs.lemmas.List.Sums.{sum_by-cons}
use Rattle.admission.specs.declared.budget.Held.{Held}
use Rattle.admission.specs.declared.budget.Waits.{Waits}
use Rattle.admission.specs.Reservation.{is_before_end}
use Rattle.admission.specs.Waiting.{behind_of, share_now, held_now, share_at, held_at, HandsOver, waits_at, started_at}
use Rattle.admission.specs.Table.{IsAdmitted}
use Rattle.admission.specs.Laws.{NoSlotOverNow, HeldNeverRises, NoSlotOverScale, PassedIsHeld, PassedKeepsLater}
use Rattle.admission.proofs.Reservations.{is_before_end-says, is_before_end-from, IsBeforeEnd-earlier}
use Rattle.admission.proofs.Matched.{sum_by-plus, sum_by-same, sum_by-member, matched}

-- what one reservation holds at a slot
held_at-gone : (slot : ℕ) (h : Held) → is_before_end slot h.end ≡ false → held_at slot h ≡ 0
held_at-gone slot h over = ap (λ (b : Bool). cond b (share_at slot h.load h.waits) 0) over

held_at-there : (slot : ℕ) (h : Held) → is_before_end slot h.end ≡ true
    → held_at slot h ≡ share_at slot h.load h.waits
held_at-there slot h there = ap (λ (b : Bool). cond b (share_at slot h.load h.waits) 0) there

held_at-after : (slot end : ℕ) (h : Held) → h.end ≡ Some end → end ≤ slot → held_at slot h ≡ 0
held_at-after slot end h ends over =
    held_at-gone slot h (ap (is_before_end slot) ends ∙ le-ltb slot end over)

share_at-plain : (slot load : ℕ) (waits : Option Waits) → waits ≡ None → share_at slot load waits ≡ load
share_at-plain slot load waits none = ap (share_at slot load) none

share_at-waits : (slot load : ℕ) (waits : Option Waits) (w : Waits) → waits ≡ Some w → slot < w.start
    → share_at slot load waits ≡ w.excess
share_at-waits slot load waits w is before =
    ap (share_at slot load) is ∙ ap (λ (b : Bool). cond b w.excess load) (lt-ltb slot w.start before)

share_at-started : (slot load : ℕ) (waits : Option Waits) (w : Waits) → waits ≡ Some w → w.start ≤ slot
    → share_at slot load waits ≡ load
share_at-started slot load waits w is over =
    ap (share_at slot load) is ∙ ap (λ (b : Bool). cond b w.excess load) (le-ltb slot w.start over)

held_at-le : (slot : ℕ) (h : Held) → held_at slot h ≤ share_at slot h.load h.waits
held_at-le slot h = elim (cases_Bool (is_before_end slot h.end)) [
  | inl there ↦ omega (arith, held_at-there slot h there)
  | inr over ↦ omega (arith, held_at-gone slot h over)
]

-- a reservation waits behind an entry
abbrev is_behind : Option ℕ → ℕ → Bool
is_behind None entry = false
is_behind (Some behind) entry = behind == entry

is_behind-says : (behind : Option ℕ) (entry : ℕ) → is_behind behind entry ≡ true → behind ≡ Some entry
is_behind-says None entry h = absurd (false≢true h)
is_behind-says (Some k) entry h = ap (λ (n : ℕ). Some n) (eqb-true k entry h)

is_behind-from : (behind : Option ℕ) (entry : ℕ) → behind ≡ Some entry → is_behind behind entry ≡ true
is_behind-from behind entry h =
    ap (λ (o : Option ℕ). is_behind o entry) h ∙ eq-eqb entry entry refl

abbrev waits_for : Held → Held → Bool
waits_for w g = is_behind (behind_of w) g.entry

-- a waiting reservation's excess is held earlier, and it starts by the slot where the load of the one before it was
-- held earlier
record Starts (early : Held → ℕ) (slot : ℕ) (h : Held) (w : Waits) : Type 0 where
  excess : w.excess ≤ early h
  start : w.start ≤ slot
  load : (g : Held) → HandsOver h.load w g → g.load ≤ early g

-- what is held earlier than at the slot: as much at least by each reservation that doesn't start between the two
record IsEarlier (early : Held → ℕ) (slot : ℕ) : Type 0 where
  plain : (h : Held) → h.waits ≡ None → held_at slot h ≤ early h
  waiting : (h : Held) (w : Waits) → h.waits ≡ Some w → (held_at slot h ≤ early h) ⊎ Starts early slot h w

-- now is earlier than each slot
now_is_earlier : (slot : ℕ) → IsEarlier held_now slot
now_is_earlier slot = record {
  plain = λ h none. omega (
    arith,
    held_at-le slot h,
    share_at-plain slot h.load h.waits none,
    ap (share_now h.load)
        none,
  );
  waiting = λ h w is. elim (cases_lt slot w.start) [
    | inl before ↦ inl (omega (
      arith,
      held_at-le slot h,
      share_at-waits slot h.load h.waits w is before,
      ap
          (share_now h.load) is,
    ))
    | inr over ↦ inr (record {
      excess = omega (arith, ap (share_now h.load) is);
      start = over;
      load = λ g over. omega (arith, ap (share_now g.load) over.started);
    })
  ];
}

-- and so is a slot before another
slot_is_earlier : (t u : ℕ) → t ≤ u → IsEarlier (held_at t) u
slot_is_earlier t u later = record {
  plain = λ h none. elim (cases_Bool (is_before_end u h.end)) [
    | inr over ↦ omega (arith, held_at-gone u h over)
    | inl there ↦ omega (
      arith,
      held_at-there u h there,
      held_at-there t h (sooner h there),
      share_at-plain u h.load
          h.waits none,
      share_at-plain t h.load h.waits none,
    )
  ];
  waiting = λ h w is. elim (cases_Bool (is_before_end u h.end)) [
    | inr over ↦ inl (omega (arith, held_at-gone u h over))
    | inl there ↦
        let at_u = held_at-there u h there in
        let at_t = held_at-there t h (sooner h there) in
        elim (cases_lt t w.start) [
          | inr started ↦ inl (omega (
            arith,
            at_u,
            at_t,
            share_at-started t h.load h.waits w is started,
            share_at-started u h.load h.waits w is (omega arith),
          ))
          | inl before ↦ elim (cases_lt u w.start) [
            | inl still ↦ inl (omega (
              arith,
              at_u,
              at_t,
              share_at-waits t h.load h.waits w is before,
              share_at-waits u
                  h.load h.waits w is still,
            ))
            | inr starts ↦ inr (record {
              excess = omega (arith, at_t, share_at-waits t h.load h.waits w is before);
              start = starts;
              load = λ g over. let stands = held_at-there t g
                  (ap (is_before_end t) over.ends ∙ lt-ltb t w.start before) in omega
                  (arith, stands, share_at-plain t g.load g.waits over.started);
            })
          ]
        ]
  ];
}
  where
    sooner : (h : Held) → is_before_end u h.end ≡ true → is_before_end t h.end ≡ true
    sooner h there =
        is_before_end-from t h.end (IsBeforeEnd-earlier t u h.end later (is_before_end-says u h.end there))

-- what a reservation gains, and what it loses
abbrev gain : (Held → ℕ) → ℕ → Held → ℕ
gain early slot h = held_at slot h - early h

abbrev loss : (Held → ℕ) → ℕ → Held → ℕ
loss early slot h = early h - held_at slot h

-- one that waits or not
waits_or_not : (waits : Option Waits) → (waits ≡ None) ⊎ ((w : Waits) × (waits ≡ Some w))
waits_or_not None = inl refl
waits_or_not (Some w) = inr (w, refl)

-- each gain is covered by the losses of those that the reservation waits for
covered : (early : Held → ℕ) (slot : ℕ) (table : List Held) → IsEarlier early slot → IsAdmitted table
    → All (λ h. gain early slot h ≤ sum_by (λ g. cond (waits_for h g) (loss early slot g) 0) table) table
covered early slot table earlier admitted = λ k d within.
    let h : Held = get_or table k d in
    elim (waits_or_not h.waits) [
      | inl none ↦ omega (arith, earlier.plain h none)
      | inr its ↦
          let w : Waits = its.0 in
          elim (earlier.waiting h w its.1) [
            | inl less ↦ omega (arith, less)
            | inr starts ↦
                let found = admitted.handed k d within w its.1 in
                let g : Held = found.1 in
                let over : HandsOver h.load w g = found.4 in
                let term : Held → ℕ = λ x. cond (waits_for h x) (loss early slot x) 0 in
                let member = sum_by-member term table found.0 g found.2 in
                let there = ap term found.3 in
                let behind : behind_of h ≡ Some g.entry = ap (λ (o : Option Waits). option_map
                (λ (x : Waits). x.behind) o) its.1 ∙ ap (λ (n : ℕ). Some n) over.named in
                let matches = ap (λ (b : Bool). cond b (loss early slot g) 0)
                (is_behind-from (behind_of h) g.entry behind) in
                let gone = held_at-after slot w.start g over.ends starts.start in
                let whole = share_at-started slot h.load h.waits w its.1 starts.start in
                omega (
                  arith,
                  held_at-le slot h,
                  whole,
                  starts.excess,
                  starts.load g over,
                  over.covered,
                  member,
                  there,
                  matches,
                  gone,
                )
          ]
    ]

-- a reservation that waits behind an entry waits
the_waits : (entry : ℕ) (waits : Option Waits) → option_map (λ (x : Waits). x.behind) waits ≡ Some entry → (w : Waits)
    × (waits ≡ Some w) × (w.behind ≡ entry)
the_waits entry None is = absurd (none-some entry is)
the_waits entry (Some w) is =
    let same : w.behind ≡ entry = cc in
    (w, refl, same)

-- and each loss covers one gain
once : (table : List Held) → IsAdmitted table → All (λ g. AllPairs
    (λ v w. waits_for v g ≡ true → waits_for w g ≡ true → ⊥) table) table
once table admitted = λ k d within. λ i j e before inside. λ first second.
    let g : Held = get_or table k d in
    let a : Held = get_or table i e in
    let b : Held = get_or table j e in
    let v = the_waits g.entry a.waits (is_behind-says (behind_of a) g.entry first) in
    let w = the_waits g.entry b.waits (is_behind-says (behind_of b) g.entry second) in
    admitted.alone i j e before inside v.0 w.0 v.1 w.1 (v.2 ∙ sym w.2)

-- so no more is held at the slot than earlier
no_more_than_earlier : (early : Held → ℕ) (slot : ℕ) (table : List Held) → IsEarlier early slot → IsAdmitted table
    → sum_by (held_at slot) table ≤ sum_by early table
no_more_than_earlier early slot table earlier admitted =
    let gains = matched (gain early slot) (loss early slot) waits_for table (covered early slot table earlier admitted)
    (once table admitted) in
    let after = sum_by-plus (held_at slot) (loss early slot) table in
    let before = sum_by-plus early (gain early slot) table in
    let both = sum_by-same (λ h. held_at slot h + loss early slot h) (λ h. early h + gain early slot h) table
    (λ h. either (held_at slot h) (early h)) in
    omega (arith, gains, after, before, both)
  where
    either : (a b : ℕ) → a + (b - a) ≡ b + (a - b)
    either a b = omega arith

-- no slot to come has more reserved than is held now
pub no_slot_over_now : NoSlotOverNow
no_slot_over_now table slot admitted =
    no_more_than_earlier held_now slot table (now_is_earlier slot) admitted

-- so none has more than SCALE
pub no_slot_over_scale : NoSlotOverScale
no_slot_over_scale table slot admitted = omega (arith, no_slot_over_now table slot admitted, admitted.loads)

-- what is held doesn't rise as slots pass
pub held_never_rises : HeldNeverRises
held_never_rises table t u admitted later =
    no_more_than_earlier (held_at t) u table (slot_is_earlier t u later) admitted

-- a table at a slot holds what it was to hold there
now_then : (slot load : ℕ) (waits : Option Waits) → share_now load (waits_at slot waits) ≡ share_at slot load waits
now_then slot load None = refl
now_then slot load (Some w) =
    elim (cases_lt slot w.start) [
      | inl before ↦ ap (λ (b : Bool). share_now load (cond b (Some w) None)) (lt-ltb slot w.start before)
          ∙ sym (ap (λ (b : Bool). cond b w.excess load) (lt-ltb slot w.start before))
      | inr over ↦ ap (λ (b : Bool). share_now load (cond b (Some w) None)) (le-ltb slot w.start over)
          ∙ sym (ap (λ (b : Bool). cond b w.excess load) (le-ltb slot w.start over))
    ]

one_more : (slot : ℕ) (b : Bool) (h : Held) (rest : List Held) (n : ℕ)
    → sum_by held_now (map (started_at slot) rest) ≡ n → sum_by held_now
    (map (started_at slot) (cond b (h ∷ rest) rest)) ≡ cond b (share_at slot h.load h.waits) 0 + n
one_more slot true h rest n e =
    omega (
      arith,
      e,
      sum_by-cons held_now (started_at slot h) (map (started_at slot) rest),
      now_then slot h.load
          h.waits,
    )
one_more slot false h rest n e = omega (arith, e)

-- what is left after a slot passed is what is held at it
pub passed_is_held : PassedIsHeld
passed_is_held [] slot = refl
passed_is_held (h ∷ table) slot =
    one_more slot (is_before_end slot h.end) h (filter (λ x. is_before_end slot x.end) table)
    (sum_by (held_at slot) table) (passed_is_held table slot) ∙ sym (sum_by-cons (held_at slot) h table)

-- and at later slots what it was to hold there
share_later : (t u load : ℕ) (waits : Option Waits) → t ≤ u → share_at u load (waits_at t waits) ≡ share_at u load waits
share_later t u load None later = refl
share_later t u load (Some w) later =
    elim (cases_lt t w.start) [
      | inl before ↦ ap (λ (b : Bool). share_at u load (cond b (Some w) None)) (lt-ltb t w.start before)
      | inr over ↦ ap (λ (b : Bool). share_at u load (cond b (Some w) None)) (le-ltb t w.start over)
          ∙ sym (share_at-started u load (Some w) w refl (omega arith))
    ]

held_later : (t u : ℕ) (h : Held) → t ≤ u → held_at u (started_at t h) ≡ held_at u h
held_later t u h later =
    ap (λ (n : ℕ). cond (is_before_end u h.end) n 0) (share_later t u h.load h.waits later)

-- what has ended by a slot holds nothing at later ones
held_at-ended : (t u : ℕ) (h : Held) → t ≤ u → is_before_end t h.end ≡ false → held_at u h ≡ 0
held_at-ended t u h later over =
    elim (cases_Bool (is_before_end u h.end)) [
      | inr gone ↦ held_at-gone u h gone
      | inl there ↦ absurd (false≢true (sym over ∙ is_before_end-from t h.end
          (IsBeforeEnd-earlier t u h.end later (is_before_end-says u h.end there))))
    ]

-- and later slots have what they had
pub passed_keeps_later : PassedKeepsLater
passed_keeps_later [] t u later = refl
passed_keeps_later (h ∷ table) t u later =
    let rest : List Held = filter (λ x. is_before_end t x.end) table in
    let after = passed_keeps_later table t u later in
    let Holds : Bool → Type 0 = λ b. sum_by (held_at u) (map (started_at t) (cond b (h ∷ rest) rest)) ≡ sum_by
    (held_at u) (h ∷ table) in
    let first = sum_by-cons (held_at u) h table in
    elim (cases_Bool (is_before_end t h.end)) [
      | inl there ↦ subst Holds (sym there) (omega (
        arith,
        after,
        first,
        held_later t u h later,
        sum_by-cons
            (held_at u) (started_at t h) (map (started_at t) rest),
      ))
      | inr over ↦ subst Holds (sym over) (omega (arith, after, first, held_at-ended t u h later over))
    ]
