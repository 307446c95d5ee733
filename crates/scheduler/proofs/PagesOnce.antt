-- By the rule, each page that is aired of a broadcast is aired once.
use Rattle.std.proofs.Common.{◌≡◌, ℕ, zero, suc, ◌+◌, ◌-◌, ◌≤◌, ◌<◌, cond, min, List, get_or, take, drop, count_by}
use Rattle.std.proofs.Common.{length, Some, None, inl, inr, sym, ap, subst, ◌∙◌, arith}
use Rattle.std.specs.List.{AllPairs, Contains, between}
use Rattle.std.proofs.lemmas.Bool.{cases_lt, cases_eq, cases_Bool, eq-eqb, ne_eqb}
use Rattle.std.proofs.lemmas.List.Edits.{between_more}
use Rattle.std.proofs.lemmas.List.Sums.{sum_by_push}
use Rattle.scheduler.specs.Message.{ScheduledMessage, release, due}
use Rattle.scheduler.specs.Air.{Air, airs, pages_aired, IsAirOf}
use Rattle.scheduler.specs.Completed.{IsCompleted}
use Rattle.scheduler.specs.Pages.{airs_page, times_between}
use Rattle.scheduler.proofs.Air.{pages_aired-none, broadcast_at-only}
use Rattle.scheduler.proofs.Rule.{aired_is_pending, pages_aired-more}
use Rattle.scheduler.proofs.PageCounts.{one_where, page_of_next, page_of_other}

times_between-none : (n page : ℕ) (air : Air) (from to : ℕ) → to ≤ from → times_between n page air from to ≡ 0
times_between-none n page air from to h =
    let nothing : to - from ≡ 0 = omega arith in
    ap (λ k. count_by (airs_page n page) (take k (drop from air))) nothing

times_between-more : (n page : ℕ) (air : Air) (from to : ℕ) → from ≤ to → to < length air
    → times_between n page air from (to + 1) ≡ times_between n page air from to + one_where
    (airs_page n page (get_or air to None))
times_between-more n page air from to after within =
    ap (count_by (airs_page n page)) (between_more air from to None after within)
    ∙ sum_by_push (λ x. cond (airs_page n page x) 1 0) (between from to air) (get_or air to None)

-- how often a page was aired, by how many pages were
record IsOnce (times aired page : ℕ) : Type 0 where
  there : page ≤ aired → times ≡ 1
  not_yet : aired < page → times ≡ 0

each_once : (messages : List ScheduledMessage) (air : Air) (m : ScheduledMessage) (j page to : ℕ)
    → AllPairs (λ a b. a.entry < b.entry) messages → Contains messages m → IsAirOf messages air → 1 ≤ page
    → to ≤ length air → to ≤ due m j → IsOnce (times_between m.entry page air (release m j) to)
    (pages_aired m.entry air (release m j) to) page
each_once messages air m j page zero rising here rule some within by_due =
    let aired = pages_aired-none m.entry air (release m j) 0 (omega arith) in
    let times = times_between-none m.entry page air (release m j) 0 (omega arith) in
    record { there = λ h. absurd (omega (arith, aired)); not_yet = λ h. times }
each_once messages air m j page (suc to) rising here rule some within by_due =
    elim (cases_lt to (release m j)) [
      | inl early ↦
          let aired = pages_aired-none m.entry air (release m j) (suc to) (omega arith) in
          let times = times_between-none m.entry page air (release m j) (suc to) (omega arith) in
          record { there = λ h. absurd (omega (arith, aired)); not_yet = λ h. times }
      | inr released ↦
          let before = each_once messages air m j page to rising here rule some (omega arith) (omega arith) in
          let upto : suc to ≡ to + 1 = omega arith in
          let aired = ap (λ k. pages_aired m.entry air (release m j) k) upto
          ∙ pages_aired-more m.entry air (release m j) to released (omega arith) in
          let times = ap (λ k. times_between m.entry page air (release m j) k) upto
          ∙ times_between-more m.entry page air (release m j) to released (omega arith) in
          elim (cases_Bool (airs m.entry (get_or air to None))) [
            | inl used ↦
                let found = aired_is_pending messages air to m rising here rule (omega arith) used in
                let p = found.1 in
                let period : 0 < m.period = omega (arith, p.released, p.not_due) in
                let started : m.start ≤ to = omega (arith, p.released) in
                let only = broadcast_at-only m to found.0 period started p.released p.not_due
                ∙ sym (broadcast_at-only m to j period started released (omega arith)) in
                let Next : ℕ → Type 0 = λ i. get_or air to None ≡ Some
                (m.entry, pages_aired m.entry air (release m i) to + 1) in
                let next = subst Next only found.2 in
                let mine = page_of_next m page (pages_aired m.entry air (release m j) to + 1) (get_or air to None)
                next in
                let one = ap one_where used in
                elim (cases_eq (pages_aired m.entry air (release m j) to + 1) page) [
                  | inl is ↦
                      let it = ap one_where (eq-eqb (pages_aired m.entry air (release m j) to + 1) page is) in
                      let none = before.not_yet (omega (arith, is)) in
                      record {
                        there = λ h. omega (arith, times, mine, it, none);
                        not_yet = λ h. absurd
                            (omega (arith, aired, one, is));
                      }
                  | inr isnt ↦
                      let other = ap one_where (ne_eqb (pages_aired m.entry air (release m j) to + 1) page isnt) in
                      record {
                        there = λ h. let was = before.there (omega (arith, aired, one, isnt)) in omega
                            (arith, times, mine, other, was);
                        not_yet = λ h. let none = before.not_yet (omega (arith, aired, one)) in omega
                            (arith, times, mine, other, none);
                      }
                ]
            | inr idle ↦
                let mine = page_of_other m.entry page (get_or air to None) idle in
                let none = ap one_where idle in
                record {
                  there = λ h. let was = before.there (omega (arith, aired, none)) in omega (arith, times, mine, was);
                  not_yet = λ h. let never = before.not_yet (omega (arith, aired, none)) in omega
                      (arith, times, mine, never);
                }
          ]
    ]

-- up to the due slot of a broadcast each page that was aired for it was aired once
pub pages_come_once : (messages : List ScheduledMessage) (air : Air) (m : ScheduledMessage) (j page to : ℕ)
    → AllPairs (λ a b. a.entry < b.entry) messages → Contains messages m → IsAirOf messages air → to ≤ length air
    → to ≤ due m j → 1 ≤ page → page ≤ pages_aired m.entry air (release m j) to
    → times_between m.entry page air (release m j) to ≡ 1
pages_come_once messages air m j page to rising here rule within by_due some aired =
    (each_once messages air m j page to rising here rule some within by_due).there aired

-- a complete broadcast aired each page once
pub completed_is_each_page_once : (messages : List ScheduledMessage) (air : Air) (m : ScheduledMessage)
    (j page slot : ℕ)
    → AllPairs (λ a b. a.entry < b.entry) messages → Contains messages m → IsAirOf messages air → slot ≤ length air
    → IsCompleted m j air slot → 1 ≤ page → page ≤ m.pages → times_between m.entry page air (release m j)
    (min (due m j) slot) ≡ 1
completed_is_each_page_once messages air m j page slot rising here rule within whole some few =
    pages_come_once messages air m j page (min (due m j) slot) rising here rule (omega arith) (omega arith) some
    (omega (arith, few, whole.aired))
