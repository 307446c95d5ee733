-- An air list with its background idle.
use Rattle.std.proofs.Common.{◌≡◌, ℕ, zero, suc, ◌+◌, ◌-◌, ◌<◌, ◌==◌, ◌⊎◌, ◌&&◌, min, Bool, true, false, cond, leb}
use Rattle.std.proofs.Common.{Option, Some, None, List, [], ◌∷◌, length, take, drop, map, filter, get_or, count_by}
use Rattle.std.proofs.Common.{refl, sym, ap, subst, ◌∙◌, inl, inr, arith}
use Rattle.std.specs.List.{All, AllPairs, Any, Contains}
use Rattle.std.proofs.lemmas.Bool.{cases_Bool, and_parts, and_from, eqb-true, eq-eqb, false≢true}
use Rattle.std.proofs.lemmas.List.{get_or-map, length-map, get_or_default, take-map, drop-map}
use Rattle.std.proofs.lemmas.List.Elements.{All-filter, filter_passes}
use Rattle.std.proofs.lemmas.List.Kept.{AllPairs-filter}
use Rattle.std.proofs.lemmas.List.Folds.{Any-from_list_any, list_any-from_Any}
use Rattle.std.proofs.lemmas.List.Sums.{sum_by-cons}
use Rattle.scheduler.specs.declared.plan.Rank.{Rank}
use Rattle.scheduler.specs.declared.plan.Rank.TheVariants.{High, Normal, Background}
use Rattle.scheduler.specs.Message.{ScheduledMessage, release, due, has_broadcast, is_before_stop}
use Rattle.scheduler.specs.Air.{Air, airs, layer, layer_of, pages_aired, IsPending, IsFirst, IsChosen, IsServedBy}
use Rattle.scheduler.specs.Air.{next_page}
use Rattle.scheduler.specs.Background.{is_background, foreground, has_background, blank_use, blanked}
use Rattle.scheduler.specs.BackgroundLaws.{BackgroundCountsAsIdle, BackgroundChangesNothing, BlankingKeepsPages}
use Rattle.scheduler.specs.BackgroundLaws.{BlankingKeepsCompleted}
use Rattle.scheduler.specs.Completed.{is_completed}
use Rattle.scheduler.proofs.Completed.{one_if}
use Rattle.scheduler.proofs.Lists.{rising-same, count_below_same}
use Rattle.scheduler.proofs.OneAir.{IsAirOf-only}

-- what is true of all that pass is true of all of the filter
All-passing : (P : ScheduledMessage → Type 0) (p : ScheduledMessage → Bool) (xs : List ScheduledMessage)
    → All (λ x. p x ≡ true → P x) xs
    → All P (filter p xs)
All-passing P p xs all = λ k d h. All-filter p (λ x. p x ≡ true → P x) xs all k d h (filter_passes p xs k d h)

-- an element that passes is in the filter
Any-passing : (P : ScheduledMessage → Type 0) (p : ScheduledMessage → Bool) (xs : List ScheduledMessage)
    (m : ScheduledMessage)
    → Contains xs m
    → p m ≡ true
    → P m
    → Any P (filter p xs)
Any-passing P p [] m here passes holds = absurd (omega (arith, here.1))
Any-passing P p (x ∷ xs) m (zero, within, is) passes holds =
    let first : p x ≡ true = ap p is ∙ passes in
    let holds_x : P x = subst P (sym is) holds in
    subst (λ (b : Bool). Any P (cond b (x ∷ filter p xs) (filter p xs))) (sym first) (0, x, omega arith, refl, holds_x)
Any-passing P p (x ∷ xs) m (suc k, within, is) passes holds =
    let rest = Any-passing P p xs m (k, omega arith, is) passes holds in
    elim (cases_Bool (p x)) [
      | inl first ↦ subst (λ (b : Bool). Any P (cond b (x ∷ filter p xs) (filter p xs))) (sym first)
          (suc rest.0, rest.1, omega (arith, rest.2), rest.3, rest.4)
      | inr fails ↦ subst (λ (b : Bool). Any P (cond b (x ∷ filter p xs) (filter p xs))) (sym fails) rest
    ]

-- where numbers rise, two messages of one number are one
one_number : (messages : List ScheduledMessage) (a b : ScheduledMessage)
    → AllPairs (λ x y. x.entry < y.entry) messages
    → Contains messages a
    → Contains messages b
    → a.entry ≡ b.entry
    → a ≡ b
one_number messages a b rising here there same =
    let first : get_or messages here.0 a ≡ a = here.2 in
    let second : get_or messages there.0 a ≡ b = get_or_default messages there.0 a b there.1 ∙ there.2 in
    let numbers = ap (λ (c : ScheduledMessage). c.entry) first ∙ same
    ∙ sym (ap (λ (c : ScheduledMessage). c.entry) second) in
    let place = rising-same (λ (c : ScheduledMessage). c.entry) messages rising here.0 there.0 a here.1 there.1 numbers
    in
    sym first ∙ ap (λ i. get_or messages i a) place ∙ second

-- so the number of a message that isn't background is no background message's
not_its_number : (messages : List ScheduledMessage) (m : ScheduledMessage)
    → AllPairs (λ a b. a.entry < b.entry) messages
    → Contains messages m
    → layer m ≡ 0
    → has_background messages m.entry ≡ false
not_its_number messages m rising here other =
    let test : ScheduledMessage → Bool = λ x. is_background x && (x.entry == m.entry) in
    elim (cases_Bool (has_background messages m.entry)) [
      | inr fails ↦ fails
      | inl passes ↦
          let found = Any-from_list_any test messages passes in
          let parts = and_parts (is_background found.1) (found.1.entry == m.entry) found.4 in
          let same = one_number messages found.1 m rising (found.0, found.2, found.3) here
          (eqb-true found.1.entry m.entry parts.1) in
          absurd (omega (arith, other, eqb-true (layer found.1) 1 parts.0, ap layer same))
    ]

its_number : (messages : List ScheduledMessage) (m : ScheduledMessage)
    → Contains messages m
    → layer m ≡ 1
    → has_background messages m.entry ≡ true
its_number messages m here is =
    let test : ScheduledMessage → Bool = λ x. is_background x && (x.entry == m.entry) in
    list_any-from_Any test messages (
      here.0,
      m,
      here.1,
      here.2,
      and_from (is_background m) (m.entry == m.entry)
          (eq-eqb (layer m) 1 is) (eq-eqb m.entry m.entry refl),
    )

-- a slot airs a page of a message that isn't background with and without the others
airs_same : (messages : List ScheduledMessage) (m : ScheduledMessage)
    → has_background messages m.entry ≡ false
    → (used : Option (ℕ × ℕ))
    → airs m.entry (blank_use messages used) ≡ airs m.entry used
airs_same messages m other None = refl
airs_same messages m other (Some used) =
    elim (cases_Bool (has_background messages used.0)) [
      | inr fails ↦ ap (λ (b : Bool). airs m.entry (cond b None (Some used))) fails
      | inl passes ↦
          let gone = ap (λ (b : Bool). airs m.entry (cond b None (Some used))) passes in
          elim (cases_Bool (used.0 == m.entry)) [
            | inr apart ↦ gone ∙ sym apart
            | inl same ↦
                let its = ap (has_background messages) (eqb-true used.0 m.entry same) in
                absurd (false≢true (sym other ∙ sym its ∙ passes))
          ]
    ]

count_same : (n : ℕ) (g : Option (ℕ × ℕ) → Option (ℕ × ℕ)) (air : Air)
    → ((used : Option (ℕ × ℕ)) → airs n (g used) ≡ airs n used)
    → count_by (airs n) (map g air) ≡ count_by (airs n) air
count_same n g [] same = refl
count_same n g (x ∷ air) same =
    let one = ap (λ (b : Bool). one_if b) (same x) in
    omega (
      arith,
      sum_by-cons (λ u. cond (airs n u) 1 0) (g x) (map g air),
      sum_by-cons (λ u. cond (airs n u) 1 0) x
          air,
      one,
      count_same n g air same,
    )

-- without its background messages the air has the same pages of the others
pub blanking_keeps_pages : BlankingKeepsPages
blanking_keeps_pages messages air m from to rising here other =
    let g = blank_use messages in
    let entry = not_its_number messages m rising here other in
    let cut = ap (λ xs. count_by (airs m.entry) (take (to - from) xs)) (drop-map g from air) in
    let front = ap (count_by (airs m.entry)) (take-map g (to - from) (drop from air)) in
    cut ∙ front ∙ count_same m.entry g (take (to - from) (drop from air)) (airs_same messages m entry)

-- and the same complete broadcasts of them
pub blanking_keeps_completed : BlankingKeepsCompleted
blanking_keeps_completed messages air m slot rising here other =
    count_below_same (is_completed m (blanked messages air) slot) (is_completed m air slot) (slot + 1) (λ j h.
    ap (λ n. has_broadcast m j && (is_before_stop (release m j) m.stop && leb m.pages n))
    (blanking_keeps_pages messages air m (release m j) (min (due m j) slot) rising here other))

-- what is pending is pending by any air list with the same pages
IsPending-same_pages : (m : ScheduledMessage) (j : ℕ) (air other : Air) (slot : ℕ)
    → pages_aired m.entry air (release m j) slot ≡ pages_aired m.entry other (release m j) slot
    → IsPending m j air slot
    → IsPending m j other slot
IsPending-same_pages m j air other slot same p = record {
  requested = p.requested;
  released = p.released;
  not_due = p.not_due;
  standing = p.standing;
  unfinished = omega (arith, p.unfinished, same);
}

-- background isn't served before the others
alone_pending : (m o : ScheduledMessage) (j k : ℕ) → layer m ≡ 1 → layer o ≡ 0 → IsServedBy m j o k → ⊥
alone_pending m o j k is other served =
    elim served [ inl sooner ↦ omega (arith, is, other, sooner) | inr tied ↦ omega (arith, is, other, tied.0) ]

Contains_at : (messages : List ScheduledMessage) (k : ℕ) (d : ScheduledMessage)
    → k < length messages
    → Contains messages (get_or messages k d)
Contains_at messages k d within = (k, within, get_or_default messages k (get_or messages k d) d within)

-- a message is of the one layer or of the other
cases_layer : (m : ScheduledMessage) → (layer m ≡ 0) ⊎ (layer m ≡ 1)
cases_layer m = rank_of m.rank
  where
    rank_of : (rank : Rank) → (layer_of rank ≡ 0) ⊎ (layer_of rank ≡ 1)
    rank_of High = inl refl
    rank_of Normal = inl refl
    rank_of Background = inr refl

-- nothing of the others is pending where nothing is, or where background is first
none_without : (messages : List ScheduledMessage) (air : Air) (slot : ℕ)
    → AllPairs (λ a b. a.entry < b.entry) messages
    → All (λ o. layer o ≡ 0 → (k : ℕ) → ¬ IsPending o k air slot) messages
    → IsChosen (foreground messages) (blanked messages air) slot None
none_without messages air slot rising none =
    All-passing (λ o. (k : ℕ) → ¬ IsPending o k (blanked messages air) slot) (λ o. layer o == 0) messages
    (λ i d within. λ passes. λ k pending.
    let o : ScheduledMessage = get_or messages i d in
    let other = eqb-true (layer o) 0 passes in
    let same = blanking_keeps_pages messages air o (release o k) slot rising (Contains_at messages i d within) other in
    none i d within other k (IsPending-same_pages o k (blanked messages air) air slot same pending))

chosen_without : (messages : List ScheduledMessage) (air : Air) (slot : ℕ) (used : Option (ℕ × ℕ))
    → AllPairs (λ a b. a.entry < b.entry) messages
    → IsChosen messages air slot used
    → IsChosen (foreground messages) (blanked messages air) slot (blank_use messages used)
chosen_without messages air slot None rising chosen =
    none_without messages air slot rising (λ i d within. λ other k. chosen i d within k)
chosen_without messages air slot (Some used) rising chosen =
    let blank = blanked messages air in
    let m : ScheduledMessage = chosen.1 in
    let here : Contains messages m = (chosen.0, chosen.2, chosen.3) in
    let j : ℕ = chosen.4.0 in
    let first : IsFirst messages air slot m j = chosen.4.1 in
    let page : used ≡ next_page m j air slot = chosen.4.2 in
    let entry = ap (λ (u : ℕ × ℕ). has_background messages u.0) page in
    elim (cases_layer m) [
      | inr is ↦
          let gone : blank_use messages (Some used) ≡ None = ap (λ (b : Bool). cond b None (Some used))
          (entry ∙ its_number messages m here is) in
          let none = none_without messages air slot rising (λ i d within. λ other k pending. alone_pending m
          (get_or messages i d) j k is other (first.first i d within k pending)) in
          subst (IsChosen (foreground messages) blank slot) (sym gone) none
      | inl other ↦
          let kept : blank_use messages (Some used) ≡ Some used = ap (λ (b : Bool). cond b None (Some used))
          (entry ∙ not_its_number messages m rising here other) in
          let same = blanking_keeps_pages messages air m (release m j) slot rising here other in
          let its_page : used ≡ next_page m j blank slot = page ∙ ap (λ (n : ℕ). (m.entry, n + 1)) (sym same) in
          let its_first : IsFirst (foreground messages) blank slot m j = record {
            pending = IsPending-same_pages m j air blank slot (sym same) first.pending;
            first = All-passing (λ o. (k : ℕ) → IsPending o k blank slot → IsServedBy m j o k) (λ o. layer o == 0)
                messages (λ i d within. λ passes. λ k pending.
                let o : ScheduledMessage = get_or messages i d in
                let pages = blanking_keeps_pages messages air o (release o k) slot rising
                (Contains_at messages i d within) (eqb-true (layer o) 0 passes) in
                first.first i d within k (IsPending-same_pages o k blank air slot pages pending));
          } in
          let P : ScheduledMessage → Type 0 = λ x. (i : ℕ) × IsFirst (foreground messages) blank slot x i
          × (used ≡ next_page x i blank slot) in
          let found : IsChosen (foreground messages) blank slot (Some used) = Any-passing P (λ o. layer o == 0)
          messages m here (eq-eqb (layer m) 0 other) (j, its_first, its_page) in
          subst (IsChosen (foreground messages) blank slot) (sym kept) found
    ]

-- to the other messages a slot of a background message is an idle one
pub background_counts_as_idle : BackgroundCountsAsIdle
background_counts_as_idle messages air rising rule = λ slot within.
    let g = blank_use messages in
    let inside : slot < length air = omega (arith, within, length-map air g) in
    let at : get_or (map g air) slot None ≡ g (get_or air slot None) = get_or-map g air slot None None inside in
    subst (IsChosen (foreground messages) (blanked messages air) slot) (sym at)
    (chosen_without messages air slot (get_or air slot None) rising (rule slot inside))

-- the other messages are aired as if there were no background message
pub background_changes_nothing : BackgroundChangesNothing
background_changes_nothing messages air alone rising rule others same =
    IsAirOf-only (foreground messages) (blanked messages air) alone
    (AllPairs-filter (λ a b. a.entry < b.entry) (λ o. layer o == 0) messages rising)
    (background_counts_as_idle messages air rising rule) others (length-map air (blank_use messages) ∙ sym same)
