-- Laws of air lists, over their definitions alone.
use Rattle.std.proofs.Common.{◌≡◌, ◌==◌, ℕ, zero, suc, count_by, ◌+◌, ◌≤◌, ◌<◌, ◌⊎◌, Bool, true, false, cond, List, []}
use Rattle.std.proofs.Common.{◌∷◌, ◌++◌, length, get_or, Option, Some, None, inl, inr, refl, sym, ap, subst, ◌∙◌, arith}
use Rattle.std.specs.List.{All, AllPairs, Contains, between}
use Rattle.std.proofs.lemmas.List.{length-map, get_or-map, get_or_default, length_push, get_or_push, get_or_append_left}
use Rattle.std.proofs.lemmas.List.Elements.{All-map, All-push}
use Rattle.std.proofs.lemmas.Bool.{cases_lt, cases_order, cases_Bool, and_parts, and_from, leb-true, le-leb, eqb-true}
use Rattle.std.proofs.lemmas.Bool.{false≢true}
use Rattle.std.proofs.lemmas.List.Edits.{between_more}
use Rattle.std.proofs.lemmas.List.Sums.{sum_by_push}
use Rattle.std.proofs.Math.Nat.{le-mul_of_pos_right}
use Rattle.scheduler.proofs.Completed.{one_if, is_completed-unreleased}
use Rattle.scheduler.specs.Message.{ScheduledMessage, release, due, IsBeforeStop, stopped_if, stopped_at}
use Rattle.scheduler.specs.Air.{Air, airs, pages_aired, IsPending, IsChosen, IsAirOf, IsNoLater, IsServedBy, layer}
use Rattle.scheduler.specs.Air.{class, next_page}
use Rattle.scheduler.specs.Completed.{IsCompleted, is_completed}
use Rattle.scheduler.proofs.Air.{pages_aired-none, pages_aired-append, broadcast_at-only}
use Rattle.scheduler.proofs.Message.{has_broadcast-says, has_broadcast-from, is_before_stop-says, is_before_stop-from}
use Rattle.scheduler.proofs.Lists.{rising-same}

-- a message with a pending broadcast has a period, and has started
pending_has_period : (m : ScheduledMessage) (j : ℕ) (air : Air) (slot : ℕ) → IsPending m j air slot → (0 < m.period)
    × (m.start ≤ slot)
pending_has_period m j air slot p = (omega (arith, p.released, p.not_due), omega (arith, p.released))

-- at a slot at most one broadcast of a message is pending
pub IsPending-only : (m : ScheduledMessage) (i j : ℕ) (air : Air) (slot : ℕ) → IsPending m i air slot
    → IsPending m j air slot
    → i ≡ j
IsPending-only m i j air slot p q =
    let known = pending_has_period m i air slot p in
    broadcast_at-only m slot i known.0 known.1 p.released p.not_due
    ∙ sym (broadcast_at-only m slot j known.0 known.1 q.released q.not_due)

-- what is no later both ways has one number
pub IsNoLater-both : (a b : ScheduledMessage) (i j : ℕ) → IsNoLater a i b j → IsNoLater b j a i → a.entry ≡ b.entry
IsNoLater-both a b i j h g =
    elim h [
      | inl sooner ↦ elim g [ inl later ↦ absurd (omega arith) | inr tied ↦ absurd (omega arith) ]
      | inr tied ↦ elim g [ inl later ↦ absurd (omega arith) | inr again ↦ in_class tied.1 again.1 ]
    ]
  where
    in_class : ((class a < class b) ⊎ ((class a ≡ class b) × (a.entry ≤ b.entry)))
        → ((class b < class a) ⊎ ((class b ≡ class a) × (b.entry ≤ a.entry))) → a.entry ≡ b.entry
    in_class x y = elim x [
      | inl above ↦ elim y [ inl below ↦ absurd (omega arith) | inr same ↦ absurd (omega arith) ]
      | inr same ↦ elim y [ inl below ↦ absurd (omega arith) | inr again ↦ omega arith ]
    ]

-- of two broadcasts one is served no later than the other
pub IsNoLater-total : (a b : ScheduledMessage) (i j : ℕ) → IsNoLater a i b j ⊎ IsNoLater b j a i
IsNoLater-total a b i j =
    elim (cases_order (due a i) (due b j)) [
      | inl tied ↦ elim (cases_order (class a) (class b)) [
        | inl same ↦ elim (cases_lt a.entry b.entry) [
          | inl below ↦ inl (inr (tied, inr (same, omega arith)))
          | inr above ↦ inr (inr (sym tied, inr (sym same, above)))
        ]
        | inr apart ↦ elim apart [
          | inl above ↦ inl (inr (tied, inl above))
          | inr below ↦ inr
              (inr (sym tied, inl below))
        ]
      ]
      | inr apart ↦ elim apart [ inl sooner ↦ inl (inl sooner) | inr later ↦ inr (inl later) ]
    ]

-- the same across layers
pub IsServedBy-both : (a b : ScheduledMessage) (i j : ℕ) → IsServedBy a i b j → IsServedBy b j a i → a.entry ≡ b.entry
IsServedBy-both a b i j h g =
    elim h [
      | inl above ↦ elim g [ inl below ↦ absurd (omega arith) | inr same ↦ absurd (omega (arith, same.0)) ]
      | inr same ↦ elim g [
        | inl below ↦ absurd (omega (arith, same.0))
        | inr again ↦ IsNoLater-both a b i j same.1 again.1
      ]
    ]

-- of two broadcasts one is served before the other
pub IsServedBy-total : (a b : ScheduledMessage) (i j : ℕ) → IsServedBy a i b j ⊎ IsServedBy b j a i
IsServedBy-total a b i j =
    elim (cases_order (layer a) (layer b)) [
      | inl same ↦ elim (IsNoLater-total a b i j) [
        | inl first ↦ inl (inr (same, first))
        | inr second ↦ inr (inr (sym same, second))
      ]
      | inr apart ↦ elim apart [ inl above ↦ inl (inl above) | inr below ↦ inr (inl below) ]
    ]

-- a slot has one choice, where the numbers of the messages rise
pub IsChosen-only : (messages : List ScheduledMessage) (air : Air) (slot : ℕ) (used other : Option (ℕ × ℕ))
    → AllPairs (λ a b. a.entry < b.entry) messages → IsChosen messages air slot used
    → IsChosen messages air slot other → used ≡ other
IsChosen-only messages air slot None None rising x y = refl
IsChosen-only messages air slot None (Some other) rising x y =
    let P : ScheduledMessage → Type 0 = λ m. (j : ℕ) → ¬ IsPending m j air slot in
    absurd (subst P y.3 (x y.0 y.1 y.2) y.4.0 y.4.1.pending)
IsChosen-only messages air slot (Some used) None rising x y =
    let P : ScheduledMessage → Type 0 = λ m. (j : ℕ) → ¬ IsPending m j air slot in
    absurd (subst P x.3 (y x.0 x.1 x.2) x.4.0 x.4.1.pending)
IsChosen-only messages air slot (Some used) (Some other) rising x y =
    let m = x.1 in
    let n = y.1 in
    let j = x.4.0 in
    let k = y.4.0 in
    let P : ScheduledMessage → Type 0 = λ o. (i : ℕ) → IsPending o i air slot → IsServedBy m j o i in
    let Q : ScheduledMessage → Type 0 = λ o. (i : ℕ) → IsPending o i air slot → IsServedBy n k o i in
    let before = subst P y.3 (x.4.1.first y.0 n y.2) k y.4.1.pending in
    let after = subst Q x.3 (y.4.1.first x.0 m x.2) j x.4.1.pending in
    let entry = IsServedBy-both m n j k before after in
    let here = x.3 in
    let there = sym (get_or_default messages y.0 n m y.2) ∙ y.3 in
    let place = rising-same (λ (o : ScheduledMessage). o.entry) messages rising x.0 y.0 m x.2 y.2
    (ap (λ (o : ScheduledMessage). o.entry) here ∙ (entry ∙ sym (ap (λ (o : ScheduledMessage). o.entry) there))) in
    let same : m ≡ n = sym here ∙ (ap (λ i. get_or messages i m) place ∙ there) in
    let Pending : ScheduledMessage → Type 0 = λ o. IsPending o j air slot in
    let broadcast = IsPending-only n j k air slot (subst Pending same x.4.1.pending) y.4.1.pending in
    ap Some (x.4.2 ∙ (ap (λ o. next_page o j air slot) same ∙ (ap (λ i. next_page n i air slot) broadcast ∙ sym y.4.2)))

-- what is aired later changes nothing of what was pending, or chosen
pub IsPending-append : (m : ScheduledMessage) (j : ℕ) (air more : Air) (slot : ℕ) → slot ≤ length air
    → IsPending m j air slot
    → IsPending m j (air ++ more) slot
IsPending-append m j air more slot h p = record {
  requested = p.requested;
  released = p.released;
  not_due = p.not_due;
  standing = p.standing;
  unfinished = rw (pages_aired-append m.entry air more (release m j) slot h) p.unfinished;
}

-- what is pending with later slots is so without them
pub IsPending-unappend : (m : ScheduledMessage) (j : ℕ) (air more : Air) (slot : ℕ) → slot ≤ length air
    → IsPending m j (air ++ more) slot → IsPending m j air slot
IsPending-unappend m j air more slot h p = record {
  requested = p.requested;
  released = p.released;
  not_due = p.not_due;
  standing = p.standing;
  unfinished = rw (← pages_aired-append m.entry air more (release m j) slot h) p.unfinished;
}

-- what was chosen for a slot stays chosen, whatever is aired after it
pub IsChosen-append : (messages : List ScheduledMessage) (air more : Air) (slot : ℕ) (used : Option (ℕ × ℕ))
    → slot ≤ length air
    → IsChosen messages air slot used → IsChosen messages (air ++ more) slot used
IsChosen-append messages air more slot None h x = λ k d within. λ j p. x k d within j
    (IsPending-unappend (get_or messages k d) j air more slot h p)
IsChosen-append messages air more slot (Some used) h x = (
  x.0,
  x.1,
  x.2,
  x.3,
  (
    x.4.0,
    record {
      pending = IsPending-append x.1 x.4.0 air more slot h x.4.1.pending;
      first = λ k d within. λ i p. x.4.1.first k d within i (IsPending-unappend (get_or messages k d) i air more slot h
          p);
    },
    x.4.2 ∙ ap (λ n. (x.1.entry, n + 1)) (sym (pages_aired-append x.1.entry air more (release x.1 x.4.0) slot h)),
  ),
)

-- an air list by the rule stays one with what is chosen next
pub IsAirOf-next : (messages : List ScheduledMessage) (air : Air) (used : Option (ℕ × ℕ)) → IsAirOf messages air
    → IsChosen messages air (length air) used → IsAirOf messages (air ++ used ∷ [])
IsAirOf-next messages air used rule chosen = λ slot within.
    let P : Option (ℕ × ℕ) → Type 0 = λ u. IsChosen messages (air ++ used ∷ []) slot u in
    let Q : ℕ → Type 0 = λ n. IsChosen messages (air ++ used ∷ []) n used in
    let long = length_push air used in
    elim (cases_lt slot (length air)) [
      | inl before ↦ subst P (sym (get_or_append_left air (used ∷ []) None slot before))
          (IsChosen-append messages air (used ∷ []) slot (get_or air slot None) (omega arith) (rule slot before))
      | inr last ↦
          let at : length air ≡ slot = omega arith in
          subst P (sym (get_or_push air used None slot at)) (subst Q at
          (IsChosen-append messages air (used ∷ []) (length air) used (omega arith) chosen))
    ]

-- a message that starts later changes nothing of what was chosen
pub IsChosen-add : (messages : List ScheduledMessage) (m : ScheduledMessage) (air : Air) (slot : ℕ)
    (used : Option (ℕ × ℕ))
    → slot < m.start → IsChosen messages air slot used → IsChosen (messages ++ m ∷ []) air slot used
IsChosen-add messages m air slot None later x =
    All-push (λ o. (j : ℕ) → ¬ IsPending o j air slot) messages m x (λ j p. omega (arith, p.released))
IsChosen-add messages m air slot (Some used) later x = (
  x.0,
  x.1,
  omega (arith, length_push messages m, x.2),
  get_or_append_left messages (m ∷ []) x.1 x.0 x.2 ∙ x.3,
  (
    x.4.0,
    record {
      pending = x.4.1.pending;
      first = All-push (λ o. (j : ℕ) → IsPending o j air slot → IsServedBy x.1 x.4.0 o j) messages m x.4.1.first
          (λ j p. absurd (omega (arith, p.released)));
    },
    x.4.2,
  ),
)

-- a message that starts later changes nothing of what was aired
pub IsAirOf-add : (messages : List ScheduledMessage) (m : ScheduledMessage) (air : Air) → length air ≤ m.start
    → IsAirOf messages air
    → IsAirOf (messages ++ m ∷ []) air
IsAirOf-add messages m air later rule = λ slot within. IsChosen-add messages m air slot (get_or air slot None)
    (omega arith) (rule slot within)

-- nor does a later stop
pub IsPending-stopped : (m : ScheduledMessage) (says : Bool) (stop j : ℕ) (air : Air) (slot : ℕ) → slot < stop
    → IsPending m j air slot → IsPending (stopped_if says stop m) j air slot
IsPending-stopped m true stop j air slot before p = record {
  requested = p.requested;
  released = p.released;
  not_due = p.not_due;
  standing = before;
  unfinished = p.unfinished;
}
IsPending-stopped m false stop j air slot before p = p

IsPending-unstopped : (m : ScheduledMessage) (says : Bool) (stop j : ℕ) (air : Air) (slot : ℕ)
    → (says ≡ true → m.stop ≡ None) → IsPending (stopped_if says stop m) j air slot → IsPending m j air slot
IsPending-unstopped m true stop j air slot free p =
    let Standing : Option ℕ → Type 0 = λ s. IsBeforeStop slot s in
    record {
      requested = p.requested;
      released = p.released;
      not_due = p.not_due;
      standing = subst Standing (sym (free refl)) tt;
      unfinished = p.unfinished;
    }
IsPending-unstopped m false stop j air slot free p = p

IsChosen-stop : (messages : List ScheduledMessage) (entry stop : ℕ) (air : Air) (slot : ℕ) (used : Option (ℕ × ℕ))
    → slot < stop → All (λ m. m.entry ≡ entry → m.stop ≡ None) messages → IsChosen messages air slot used
    → IsChosen (stopped_at entry stop messages) air slot used
IsChosen-stop messages entry stop air slot None before free x =
    All-map (λ o. (j : ℕ) → ¬ IsPending o j air slot) (λ (m : ScheduledMessage). stopped_if (m.entry == entry) stop m)
    messages (λ k d within. λ j p. x k d within j (IsPending-unstopped (get_or messages k d) _ stop j air slot
    (λ e. free k d within (eqb-true _ entry e)) p))
IsChosen-stop messages entry stop air slot (Some used) before free x =
    let g : ScheduledMessage → ScheduledMessage = λ m. stopped_if (m.entry == entry) stop m in (
      x.0,
      g x.1,
      omega (arith, length-map messages g, x.2),
      get_or-map g messages x.0 x.1 (g x.1) x.2 ∙ ap g x.3,
      (
        x.4.0,
        record {
          pending = IsPending-stopped x.1 (x.1.entry == entry) stop x.4.0 air slot before x.4.1.pending;
          first = All-map (λ o. (j : ℕ) → IsPending o j air slot → IsServedBy (g x.1) x.4.0 o j) g messages
              (λ k d within. λ j p. x.4.1.first k d within j (IsPending-unstopped (get_or messages k d) _ stop j air
              slot (λ e. free k d within (eqb-true _ entry e)) p));
        },
        x.4.2,
      ),
    )

-- nor does a stop at a later slot
pub IsAirOf-stop : (messages : List ScheduledMessage) (entry stop : ℕ) (air : Air) → length air ≤ stop
    → All (λ m. m.entry ≡ entry → m.stop ≡ None) messages → IsAirOf messages air
    → IsAirOf (stopped_at entry stop messages) air
IsAirOf-stop messages entry stop air later free rule = λ slot within. IsChosen-stop messages entry stop air slot
    (get_or air slot None) (omega arith) free (rule slot within)

-- the slot `to` adds its own to the pages that are aired up to it
pub pages_aired-more : (n : ℕ) (air : Air) (from to : ℕ) → from ≤ to → to < length air
    → pages_aired n air from (to + 1) ≡ pages_aired n air from to + cond (airs n (get_or air to None)) 1 0
pages_aired-more n air from to after within =
    ap (count_by (airs n)) (between_more air from to None after within)
    ∙ sum_by_push (λ x. cond (airs n x) 1 0) (between from to air) (get_or air to None)

-- a slot that airs a page of a message airs the next page of its pending broadcast
chosen_is_pending : (messages : List ScheduledMessage) (air : Air) (slot : ℕ) (m : ScheduledMessage)
    (used : Option (ℕ × ℕ))
    → AllPairs (λ a b. a.entry < b.entry) messages → Contains messages m → IsChosen messages air slot used
    → airs m.entry used ≡ true → (j : ℕ) × IsPending m j air slot × (used ≡ Some (next_page m j air slot))
chosen_is_pending messages air slot m None rising here chosen named = absurd (false≢true named)
chosen_is_pending messages air slot m (Some used) rising here chosen named =
    let n = chosen.1 in
    let j = chosen.4.0 in
    let mine = sym (eqb-true used.0 m.entry named) in
    let there = sym (get_or_default messages chosen.0 n m chosen.2) ∙ chosen.3 in
    let numbers = ap (λ (o : ScheduledMessage). o.entry) here.2 ∙ (mine
    ∙ (ap (λ (u : ℕ × ℕ). u.0) chosen.4.2 ∙ sym (ap (λ (o : ScheduledMessage). o.entry) there))) in
    let place = rising-same (λ (o : ScheduledMessage). o.entry) messages rising here.0 chosen.0 m here.1 chosen.2
    numbers in
    let same : n ≡ m = sym there ∙ (sym (ap (λ i. get_or messages i m) place) ∙ here.2) in
    let Pending : ScheduledMessage → Type 0 = λ o. IsPending o j air slot in
    (j, subst Pending same chosen.4.1.pending, ap Some (chosen.4.2 ∙ ap (λ o. next_page o j air slot) same))

-- what a slot airs is a page of a broadcast that was pending
pub aired_is_pending : (messages : List ScheduledMessage) (air : Air) (slot : ℕ) (m : ScheduledMessage)
    → AllPairs (λ a b. a.entry < b.entry) messages → Contains messages m → IsAirOf messages air → slot < length air
    → airs m.entry (get_or air slot None) ≡ true → (j : ℕ) × IsPending m j air slot
    × (get_or air slot None ≡ Some (next_page m j air slot))
aired_is_pending messages air slot m rising here rule within named =
    chosen_is_pending messages air slot m (get_or air slot None) rising here (rule slot within) named

-- no broadcast has more pages aired than its message has
pub pages_aired-at_most : (messages : List ScheduledMessage) (air : Air) (m : ScheduledMessage) (j to : ℕ)
    → AllPairs (λ a b. a.entry < b.entry) messages → Contains messages m → IsAirOf messages air → to ≤ length air
    → to ≤ due m j → pages_aired m.entry air (release m j) to ≤ m.pages
pages_aired-at_most messages air m j zero rising here rule within by_due =
    omega (arith, pages_aired-none m.entry air (release m j) 0 (omega arith))
pages_aired-at_most messages air m j (suc to) rising here rule within by_due =
    elim (cases_lt to (release m j)) [
      | inl before ↦ omega (arith, pages_aired-none m.entry air (release m j) (suc to) (omega arith))
      | inr released ↦
          let before = pages_aired-at_most messages air m j to rising here rule (omega arith) (omega arith) in
          let upto : suc to ≡ to + 1 = omega arith in
          let more = ap (λ k. pages_aired m.entry air (release m j) k) upto
          ∙ pages_aired-more m.entry air (release m j) to released (omega arith) in
          elim (cases_Bool (airs m.entry (get_or air to None))) [
            | inl used ↦
                let found = aired_is_pending messages air to m rising here rule (omega arith) used in
                let known = pending_has_period m found.0 air to found.1 in
                let only = broadcast_at-only m to found.0 known.0 known.1 found.1.released found.1.not_due
                ∙ sym (broadcast_at-only m to j known.0 known.1 released (omega arith)) in
                let Few : ℕ → Type 0 = λ i. pages_aired m.entry air (release m i) to < m.pages in
                let few = subst Few only found.1.unfinished in
                let one = ap (λ (b : Bool). one_if b) used in
                omega (arith, more, few, one)
            | inr idle ↦
                let none = ap (λ (b : Bool). one_if b) idle in
                omega (arith, more, before, none)
          ]
    ]

-- the test of a completed broadcast says what the fact says
pub is_completed-says : (m : ScheduledMessage) (air : Air) (slot j : ℕ) → is_completed m air slot j ≡ true
    → IsCompleted m j air slot
is_completed-says m air slot j h =
    let first = and_parts _ _ h in
    let second = and_parts _ _ first.1 in
    record {
      requested = has_broadcast-says m j first.0;
      released = is_before_stop-says (release m j) m.stop second.0;
      aired = leb-true _ _ second.1;
    }

-- a broadcast that is complete passes the test
pub is_completed-from : (m : ScheduledMessage) (air : Air) (slot j : ℕ) → IsCompleted m j air slot
    → is_completed m air slot j ≡ true
is_completed-from m air slot j w =
    and_from _ _ (has_broadcast-from m j w.requested) (and_from _ _
    (is_before_stop-from (release m j) m.stop w.released) (le-leb _ _ w.aired))

-- a broadcast that is completed before a slot was released before it, so its number is no greater than the slot's
pub IsCompleted-below : (m : ScheduledMessage) (air : Air) (slot j : ℕ) → 0 < m.pages → 0 < m.period
    → IsCompleted m j air slot
    → j < slot + 1
IsCompleted-below m air slot j pages period w =
    let grows = le-mul_of_pos_right j period in
    elim (cases_lt (release m j) slot) [
      | inl released ↦ omega arith
      | inr later ↦ absurd (false≢true (sym (is_completed-unreleased m air slot j pages later)
          ∙ is_completed-from m air slot j w))
    ]
