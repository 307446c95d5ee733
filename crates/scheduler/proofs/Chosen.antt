-- The message that is ready first has the first pending broadcast.
use Rattle.std.proofs.Common.{◌≡◌, ℕ, ◌+◌, ◌<◌, true, List, length, get_or, map, Option, Some, None, sym, ap, subst}
use Rattle.std.proofs.Common.{◌∙◌, arith}
use Rattle.std.specs.List.{All, AllPairs}
use Rattle.std.proofs.lemmas.List.{length-map, get_or-map, get_or_default}
use Rattle.std.proofs.lemmas.List.Elements.{All-map}
use Rattle.std.proofs.lemmas.Bool.{and_from, le-leb, lt-ltb, eqb-true, false≢true}
use Rattle.scheduler.specs.declared.scheduled.Scheduled.{Scheduled}
use Rattle.scheduler.specs.Message.{release, has_broadcast}
use Rattle.scheduler.specs.Air.{Air, airs, pages_aired, IsPending, IsChosen, IsServedBy}
use Rattle.scheduler.specs.Message.{broadcast_at}
use Rattle.scheduler.specs.Follows.{message_of, Counts}
use Rattle.scheduler.specs.PlanSteps.{IsFit, is_ready, IsServedFirst, IsChoice}
use Rattle.scheduler.proofs.Air.{broadcast_at-released, broadcast_at-not_due, broadcast_at-only}
use Rattle.scheduler.proofs.Counts.{is_ready-parts, is_ready-started}
use Rattle.scheduler.proofs.Message.{has_broadcast-says, has_broadcast-from, is_before_stop-says, is_before_stop-from}
use Rattle.scheduler.proofs.Lists.{rising-same}

-- a message that is ready has its broadcast under way pending
pub IsPending-from_ready : (t : Scheduled) (air : Air) → IsFit t (length air) → Counts t air
    → is_ready t (length air) ≡ true → IsPending (message_of t) (broadcast_at (message_of t) (length air)) air
    (length air)
IsPending-from_ready t air fit counts ready =
    let m = message_of t in
    let parts = is_ready-parts t (length air) ready in
    let started = is_ready-started t (length air) ready in
    record {
      requested = has_broadcast-says m (broadcast_at m (length air)) parts.0;
      released = broadcast_at-released m (length air) fit.some_period started;
      not_due = broadcast_at-not_due m (length air) fit.some_period started;
      standing = is_before_stop-says (length air) t.stop parts.1;
      unfinished = rw (← counts.aired) parts.2;
    }

-- and no other; and with a pending broadcast it is ready
pub pending_is_now : (t : Scheduled) (air : Air) (j : ℕ) → IsFit t (length air)
    → IsPending (message_of t) j air (length air) → j ≡ broadcast_at (message_of t) (length air)
pending_is_now t air j fit pending =
    broadcast_at-only (message_of t) (length air) j fit.some_period (omega (arith, pending.released)) pending.released
    pending.not_due

ready_from_pending : (t : Scheduled) (air : Air) (j : ℕ) → IsFit t (length air) → Counts t air
    → IsPending (message_of t) j air (length air) → is_ready t (length air) ≡ true
ready_from_pending t air j fit counts pending =
    let m = message_of t in
    let now = pending_is_now t air j fit pending in
    let P : ℕ → Type 0 = λ i. has_broadcast m i ≡ true in
    let requested : has_broadcast m (broadcast_at m (length air)) ≡ true = subst P now
    (has_broadcast-from m j pending.requested) in
    let aired = ap (λ i. pages_aired m.entry air (release m i) (length air)) now in
    let few : t.pages_aired < t.item.pages = omega (arith, aired, counts.aired, pending.unfinished) in
    and_from _ _ (le-leb t.item.start (length air) (omega (arith, pending.released)))
    (and_from _ _ requested (and_from _ _ (is_before_stop-from (length air) t.stop pending.standing)
    (lt-ltb t.pages_aired t.item.pages few)))

-- what is chosen by what is kept is chosen by the rule
pub IsChosen-from_choice : (scheduled : List Scheduled) (air : Air) (used : Option (ℕ × ℕ))
    → All (λ t. IsFit t (length air)) scheduled → All (λ t. Counts t air) scheduled
    → IsChoice scheduled (length air) used
    → IsChosen (map message_of scheduled) air (length air) used
IsChosen-from_choice scheduled air None fit counts choice =
    All-map (λ m. (j : ℕ) → ¬ IsPending m j air (length air)) message_of scheduled
    (λ k d within. λ j pending. false≢true (sym (choice k d within)
    ∙ ready_from_pending (get_or scheduled k d) air j (fit k d within) (counts k d within) pending))
IsChosen-from_choice scheduled air (Some used) fit counts choice =
    let t = choice.1 in
    let Fit : Scheduled → Type 0 = λ x. IsFit x (length air) in
    let Counted : Scheduled → Type 0 = λ x. Counts x air in
    let fit_t = subst Fit choice.3 (fit choice.0 t choice.2) in
    let counts_t = subst Counted choice.3 (counts choice.0 t choice.2) in
    let m = message_of t in
    let j = broadcast_at m (length air) in (
      choice.0,
      m,
      omega (arith, length-map scheduled message_of, choice.2),
      get_or-map message_of scheduled choice.0 t m choice.2 ∙ ap message_of choice.3,
      (
        j,
        record {
          pending = IsPending-from_ready t air fit_t counts_t choice.4.0.ready;
          first = All-map (λ other. (k : ℕ) → IsPending other k air (length air) → IsServedBy m j other k) message_of
              scheduled (λ i d within. λ k pending. no_later t choice.4.0.first i d within k pending);
        },
        choice.4.1 ∙ ap (λ n. (t.item.entry, n + 1)) counts_t.aired,
      ),
    )
  where
    no_later : (t : Scheduled)
        → All (λ other. is_ready other (length air) ≡ true → IsServedFirst (length air) t other) scheduled
        → (i : ℕ) (d : Scheduled)
        → i < length scheduled
        → (k : ℕ)
        → IsPending (message_of (get_or scheduled i d)) k air (length air)
        → IsServedBy (message_of t) (broadcast_at (message_of t) (length air)) (message_of (get_or scheduled i d)) k
    no_later t first i d within k pending =
        let other = get_or scheduled i d in
        let now = pending_is_now other air k (fit i d within) pending in
        let P : ℕ → Type 0 = λ n. IsServedBy (message_of t) (broadcast_at (message_of t) (length air))
        (message_of other) n in
        subst P (sym now) (first i d within (ready_from_pending other air k (fit i d within) (counts i d within)
        pending))

-- only a message that is ready is used
pub used_is_ready : (scheduled : List Scheduled) (slot : ℕ) (used : Option (ℕ × ℕ))
    → AllPairs (λ a b. a.item.entry < b.item.entry) scheduled → IsChoice scheduled slot used
    → All (λ t. airs t.item.entry used ≡ true → is_ready t slot ≡ true) scheduled
used_is_ready scheduled slot None rising choice = λ k d within. λ named. absurd (false≢true named)
used_is_ready scheduled slot (Some used) rising choice = λ k d within. λ named.
    let t = choice.1 in
    let named_t : used.0 ≡ t.item.entry = ap (λ (u : ℕ × ℕ). u.0) choice.4.1 in
    let same_entry = sym (eqb-true used.0 (get_or scheduled k d).item.entry named)
    ∙ (named_t ∙ ap (λ (x : Scheduled). x.item.entry) (sym choice.3 ∙ get_or_default scheduled choice.0 t d choice.2))
    in
    let place = rising-same (λ (x : Scheduled). x.item.entry) scheduled rising k choice.0 d within choice.2 same_entry
    in
    let is = ap (λ i. get_or scheduled i d) place ∙ (get_or_default scheduled choice.0 d t choice.2 ∙ choice.3) in
    ap (λ x. is_ready x slot) is ∙ choice.4.0.ready
