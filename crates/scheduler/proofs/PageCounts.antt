-- By the rule, the last page of a message is aired as often as a broadcast is completed, and no page of it less often.
use Rattle.std.proofs.Common.{◌≡◌, ℕ, zero, suc, ◌+◌, ◌-◌, ◌%◌, ◌≤◌, ◌<◌, ◌⊎◌, Bool, true, false, ◌&&◌, cond, leb, eqb}
use Rattle.std.proofs.Common.{min, List, [], ◌∷◌, ◌++◌, length, take, drop, get_or, count_by, Option, Some, None, inl}
use Rattle.std.proofs.Common.{inr, refl, sym, ap, subst, ◌∙◌, arith}
use Rattle.std.specs.List.{AllPairs, Contains}
use Rattle.std.proofs.Math.Seq.{take-suc}
use Rattle.std.proofs.lemmas.Bool.{cases_lt, cases_eq, cases_Bool, eq-eqb, ne_eqb, false≢true}
use Rattle.std.proofs.lemmas.List.{get_or_push, length_push, length-take-le, take-append-drop}
use Rattle.std.proofs.lemmas.List.Sums.{sum_by_push}
use Rattle.scheduler.specs.Message.{ScheduledMessage, release, due, has_broadcast, is_before_stop, broadcast_at}
use Rattle.scheduler.specs.Air.{Air, airs, pages_aired, IsAirOf}
use Rattle.scheduler.specs.Completed.{completed, is_completed}
use Rattle.scheduler.specs.Pages.{airs_page, times_aired}
use Rattle.scheduler.proofs.Air.{pages_aired-none, pages_aired-append, pages_aired-push, broadcast_at-only}
use Rattle.scheduler.proofs.Air.{broadcast_at-released, next_release, same_broadcast}
use Rattle.scheduler.proofs.Lists.{count_below_none, count_below_same}
use Rattle.scheduler.proofs.Message.{has_broadcast-from, is_before_stop-from}
use Rattle.scheduler.proofs.Completed.{is_completed-unreleased, completed-push, so_far}
use Rattle.scheduler.proofs.Rule.{aired_is_pending, IsPending-unappend}
use Rattle.scheduler.proofs.OneAir.{IsAirOf-front}

-- one where the test passed
abbrev pub one_where : Bool → ℕ
one_where b = cond b 1 0

-- how often the page stands in the list
abbrev times : ScheduledMessage → ℕ → Air → ℕ
times m page air = count_by (airs_page m.entry page) air

times-push : (m : ScheduledMessage) (page : ℕ) (air : Air) (used : Option (ℕ × ℕ))
    → times m page (air ++ used ∷ []) ≡ times m page air + one_where (airs_page m.entry page used)
times-push m page air used = sum_by_push (λ x. cond (airs_page m.entry page x) 1 0) air used

-- the slot after the list airs the next page of the broadcast under way
record IsNextOf (m : ScheduledMessage) (air : Air) (used : Option (ℕ × ℕ)) : Type 0 where
  started : m.start ≤ length air
  requested : has_broadcast m (broadcast_at m (length air)) ≡ true
  standing : is_before_stop (length air) m.stop ≡ true
  few : so_far m air < m.pages
  page : used ≡ Some (m.entry, so_far m air + 1)

used_is_next : (messages : List ScheduledMessage) (m : ScheduledMessage) (air : Air) (used : Option (ℕ × ℕ))
    → AllPairs (λ a b. a.entry < b.entry) messages → Contains messages m → IsAirOf messages (air ++ used ∷ [])
    → airs m.entry used ≡ true → IsNextOf m air used
used_is_next messages m air used rising here rule named =
    let slot = length air in
    let long = length_push air used in
    let read = get_or_push air used None slot refl in
    let Named : Option (ℕ × ℕ) → Type 0 = λ u. airs m.entry u ≡ true in
    let found = aired_is_pending messages (air ++ used ∷ []) slot m rising here rule (omega (arith, long))
    (subst Named (sym read) named) in
    let j = found.0 in
    let p = IsPending-unappend m j air (used ∷ []) slot (omega arith) found.1 in
    let period : 0 < m.period = omega (arith, p.released, p.not_due) in
    let started : m.start ≤ slot = omega (arith, p.released) in
    let now = broadcast_at-only m slot j period started p.released p.not_due in
    let Page : ℕ → Option (ℕ × ℕ) = λ n. Some (m.entry, n + 1) in
    let told : used ≡ Page (pages_aired m.entry air (release m j) slot) = sym read
    ∙ (found.2 ∙ ap Page (pages_aired-append m.entry air (used ∷ []) (release m j) slot (omega arith))) in
    let At : ℕ → Type 0 = λ i. (has_broadcast m i ≡ true) × (pages_aired m.entry air (release m i) slot < m.pages)
    × (used ≡ Page (pages_aired m.entry air (release m i) slot)) in
    let at = subst At now (has_broadcast-from m j p.requested, p.unfinished, told) in
    record {
      started = started;
      requested = at.0;
      standing = is_before_stop-from slot m.stop p.standing;
      few = at.1;
      page = at.2;
    }

-- which page that is
pub page_of_next : (m : ScheduledMessage) (page n : ℕ) (used : Option (ℕ × ℕ)) → used ≡ Some (m.entry, n)
    → one_where (airs_page m.entry page used) ≡ one_where (eqb n page)
page_of_next m page n used e =
    let One : Option (ℕ × ℕ) → ℕ = λ u. one_where (airs_page m.entry page u) in
    ap One e ∙ ap (λ (b : Bool). one_where (b && eqb n page)) (eq-eqb m.entry m.entry refl)

-- a slot that another message uses airs no page of this one
pub page_of_other : (n page : ℕ) (used : Option (ℕ × ℕ)) → airs n used ≡ false → one_where (airs_page n page used) ≡ 0
page_of_other n page None other = refl
page_of_other n page (Some used) other = ap (λ (b : Bool). one_where (b && eqb used.1 page)) other

-- before the start nothing is completed, and nothing is aired
completed_early : (m : ScheduledMessage) (air : Air) (slot : ℕ) → 0 < m.pages → slot ≤ m.start
    → completed m air slot ≡ 0
completed_early m air slot pages early =
    count_below_none (is_completed m air slot) (slot + 1) (λ j h. is_completed-unreleased m air slot j pages
    (omega arith))

so_far_early : (m : ScheduledMessage) (air : Air) → length air ≤ m.start → so_far m air ≡ 0
so_far_early m air early =
    pages_aired-none m.entry air (release m (broadcast_at m (length air))) (length air) (omega arith)

-- the pages so far after the slot: none where a new broadcast begins, else with the one that was aired
so_far-push : (m : ScheduledMessage) (air : Air) (used : Option (ℕ × ℕ)) → 0 < m.period → m.start ≤ length air
    → (so_far m (air ++ used ∷ []) ≡ 0) ⊎ (so_far m (air ++ used ∷ []) ≡ so_far m air + one_where (airs m.entry used))
so_far-push m air used period started =
    let slot = length air in
    let long = length_push air used in
    let After : ℕ → ℕ = λ n. pages_aired m.entry (air ++ used ∷ []) (release m (broadcast_at m n)) n in
    let released = broadcast_at-released m slot period started in
    elim (cases_eq ((slot + 1 - m.start) % m.period) 0) [
      | inl over ↦
          let at_end = next_release m slot period started over in
          inl (ap After long ∙ pages_aired-none m.entry (air ++ used ∷ []) (release m (broadcast_at m (slot + 1)))
          (slot + 1) (omega arith))
      | inr goes_on ↦
          let same = same_broadcast m slot period started goes_on in
          let pushed = pages_aired-push m.entry air used (release m (broadcast_at m slot)) released in
          inr (ap After long ∙ (ap (λ i. pages_aired m.entry (air ++ used ∷ []) (release m i) (slot + 1)) same
          ∙ pushed))
    ]

-- the counts of a page, after some slots
record AreCounted (m : ScheduledMessage) (page : ℕ) (air : Air) : Type 0 where
  last : times m m.pages air ≡ completed m air (length air)
  whole : completed m air (length air) ≤ times m page air
  under_way : page ≤ so_far m air → so_far m air < m.pages → completed m air (length air) + 1 ≤ times m page air

counted_next : (messages : List ScheduledMessage) (m : ScheduledMessage) (page : ℕ) (air : Air) (used : Option (ℕ × ℕ))
    → AllPairs (λ a b. a.entry < b.entry) messages → Contains messages m → 0 < m.pages → 0 < m.period → 1 ≤ page
    → page ≤ m.pages → IsAirOf messages (air ++ used ∷ []) → AreCounted m page air
    → AreCounted m page (air ++ used ∷ [])
counted_next messages m page air used rising here pages period some few rule before =
    let slot = length air in
    let long = length_push air used in
    let at = ap (λ n. completed m (air ++ used ∷ []) n) long in
    let ours = times-push m page air used in
    let lasts = times-push m m.pages air used in
    elim (cases_Bool (airs m.entry used)) [
      | inl named ↦
          let next = used_is_next messages m air used rising here rule named in
          let s = so_far m air in
          let pushed = completed-push m air used pages period next.started
          (λ u. (next.requested, next.standing, next.few)) in
          let more : one_where (airs m.entry used && eqb (s + one_where (airs m.entry used)) m.pages) ≡ one_where
          (eqb (s + 1) m.pages) = ap (λ (b : Bool). one_where (b && eqb (s + one_where b) m.pages)) named in
          let mine = page_of_next m page (s + 1) used next.page in
          let last = page_of_next m m.pages (s + 1) used next.page in
          let one = ap one_where named in
          let after = so_far-push m air used period next.started in
          elim (cases_eq (s + 1) m.pages) [
            | inl ends ↦
                let it = ap one_where (eq-eqb (s + 1) m.pages ends) in
                elim (cases_eq (s + 1) page) [
                  | inl is ↦
                      let p = ap one_where (eq-eqb (s + 1) page is) in
                      record {
                        last = omega (arith, lasts, last, at, pushed, more, before.last);
                        whole = omega (arith, ours, mine, p, at, pushed, more, it, before.whole);
                        under_way = λ h k. elim after [
                          | inl none ↦ absurd (omega (arith, none))
                          | inr on ↦ absurd
                              (omega (arith, on, one))
                        ];
                      }
                  | inr isnt ↦
                      let p = ap one_where (ne_eqb (s + 1) page isnt) in
                      let under = before.under_way (omega (arith, isnt)) next.few in
                      record {
                        last = omega (arith, lasts, last, at, pushed, more, before.last);
                        whole = omega (arith, ours, mine, p, at, pushed, more, it, under);
                        under_way = λ h k. elim after [
                          | inl none ↦ absurd (omega (arith, none))
                          | inr on ↦ absurd
                              (omega (arith, on, one))
                        ];
                      }
                ]
            | inr goes_on ↦
                let it = ap one_where (ne_eqb (s + 1) m.pages goes_on) in
                elim (cases_eq (s + 1) page) [
                  | inl is ↦
                      let p = ap one_where (eq-eqb (s + 1) page is) in
                      record {
                        last = omega (arith, lasts, last, at, pushed, more, before.last);
                        whole = omega (arith, ours, mine, p, at, pushed, more, it, before.whole);
                        under_way = λ h k. omega (arith, ours, mine, p, at, pushed, more, it, before.whole);
                      }
                  | inr isnt ↦
                      let p = ap one_where (ne_eqb (s + 1) page isnt) in
                      record {
                        last = omega (arith, lasts, last, at, pushed, more, before.last);
                        whole = omega (arith, ours, mine, p, at, pushed, more, it, before.whole);
                        under_way = λ h k. elim after [
                          | inl none ↦ absurd (omega (arith, none))
                          | inr on ↦
                              let under = before.under_way (omega (arith, on, one, isnt)) next.few in
                              omega (arith, ours, mine, p, at, pushed, more, it, under)
                        ];
                      }
                ]
          ]
      | inr other ↦
          let mine = page_of_other m.entry page used other in
          let last = page_of_other m.entry m.pages used other in
          let one = ap one_where other in
          elim (cases_lt slot m.start) [
            | inl early ↦
                let then = completed_early m (air ++ used ∷ []) (slot + 1) pages (omega arith) in
                let now = completed_early m air slot pages (omega arith) in
                let none = so_far_early m (air ++ used ∷ []) (omega (arith, long)) in
                record {
                  last = omega (arith, lasts, last, at, then, now, before.last);
                  whole = omega (arith, at, then);
                  under_way = λ h k. absurd (omega (arith, none));
                }
            | inr started ↦
                let s = so_far m air in
                let pushed = completed-push m air used pages period started (λ u. absurd (false≢true (sym other ∙ u)))
                in
                let more : one_where (airs m.entry used && eqb (s + one_where (airs m.entry used)) m.pages) ≡ 0 = ap
                (λ (b : Bool). one_where (b && eqb (s + one_where b) m.pages)) other in
                let after = so_far-push m air used period started in
                record {
                  last = omega (arith, lasts, last, at, pushed, more, before.last);
                  whole = omega (arith, ours, mine, at, pushed, more, before.whole);
                  under_way = λ h k. elim after [
                    | inl none ↦ absurd (omega (arith, none))
                    | inr on ↦
                        let under = before.under_way (omega (arith, on, one)) (omega (arith, on, one)) in
                        omega (arith, ours, mine, at, pushed, more, under)
                  ];
                }
          ]
    ]

counted_front : (messages : List ScheduledMessage) (m : ScheduledMessage) (page : ℕ) (air : Air) (n : ℕ)
    → AllPairs (λ a b. a.entry < b.entry) messages → Contains messages m → 0 < m.pages → 0 < m.period → 1 ≤ page
    → page ≤ m.pages → IsAirOf messages air → n ≤ length air → AreCounted m page (take n air)
counted_front messages m page air zero rising here pages period some few rule within =
    let none = completed_early m [] 0 pages (omega arith) in
    let early = so_far_early m [] (omega arith) in
    record {
      last = sym none;
      whole = omega (arith, none);
      under_way = λ h k. absurd (omega (arith, early));
    }
counted_front messages m page air (suc n) rising here pages period some few rule within =
    let grown = take-suc air n None (omega arith) in
    let before = counted_front messages m page air n rising here pages period some few rule (omega arith) in
    let Rule : Air → Type 0 = λ a. IsAirOf messages a in
    let Counted : Air → Type 0 = λ a. AreCounted m page a in
    let front = IsAirOf-front messages (take (suc n) air) (drop (suc n) air)
    (subst Rule (sym (take-append-drop (suc n) air)) rule) in
    subst Counted (sym grown) (counted_next messages m page (take n air) (get_or air n None) rising here pages period
    some few (subst Rule grown front) before)

-- what is completed before a slot is so by the slots before it
is_completed-front : (m : ScheduledMessage) (air : Air) (slot j : ℕ) → slot ≤ length air
    → is_completed m (take slot air) slot j ≡ is_completed m air slot j
is_completed-front m air slot j within =
    let long = length-take-le slot air within in
    let to = min (due m j) slot in
    let whole = ap (λ a. pages_aired m.entry a (release m j) to) (take-append-drop slot air) in
    let front = pages_aired-append m.entry (take slot air) (drop slot air) (release m j) to (omega (arith, long)) in
    ap (λ n. has_broadcast m j && (is_before_stop (release m j) m.stop && leb m.pages n)) (sym front ∙ whole)

completed-front : (m : ScheduledMessage) (air : Air) (slot : ℕ) → slot ≤ length air
    → completed m (take slot air) (length (take slot air)) ≡ completed m air slot
completed-front m air slot within =
    ap (λ n. completed m (take slot air) n) (length-take-le slot air within)
    ∙ count_below_same (is_completed m (take slot air) slot) (is_completed m air slot) (slot + 1)
    (λ j h. is_completed-front m air slot j within)

-- a message's complete broadcasts are the airings of its last page
pub last_page_counts : (messages : List ScheduledMessage) (air : Air) (m : ScheduledMessage) (slot : ℕ)
    → AllPairs (λ a b. a.entry < b.entry) messages → Contains messages m → 0 < m.pages → 0 < m.period
    → IsAirOf messages air → slot ≤ length air → times_aired m.entry m.pages air slot ≡ completed m air slot
last_page_counts messages air m slot rising here pages period rule within =
    (counted_front messages m m.pages air slot rising here pages period pages (omega arith) rule within).last
    ∙ completed-front m air slot within

-- no page of a message is aired less often than it has complete broadcasts
pub no_page_less : (messages : List ScheduledMessage) (air : Air) (m : ScheduledMessage) (page slot : ℕ)
    → AllPairs (λ a b. a.entry < b.entry) messages → Contains messages m → 1 ≤ page → page ≤ m.pages → 0 < m.period
    → IsAirOf messages air → slot ≤ length air → completed m air slot ≤ times_aired m.entry page air slot
no_page_less messages air m page slot rising here some few period rule within =
    let counted = counted_front messages m page air slot rising here (omega arith) period some few rule within in
    omega (arith, counted.whole, completed-front m air slot within)
