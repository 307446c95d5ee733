-- What is kept of a message stays true from slot to slot.
use Rattle.std.proofs.Common.{◌≡◌, ℕ, zero, ◌+◌, ◌-◌, ◌*◌, ◌%◌, ◌≤◌, ◌<◌, ◌⊎◌, ◌&&◌, Bool, true, false, cond, leb, ltb}
use Rattle.std.proofs.Common.{eqb, Option, Some, None, inl, inr, refl, sym, ap, subst, ◌∙◌, arith}
use Rattle.std.proofs.lemmas.Bool.{cases_lt, cases_eq, cases_Bool, le-leb, lt-ltb, le-ltb, eq-eqb, ne_eqb}
use Rattle.std.proofs.lemmas.Bool.{ltb-true, false≢true}
use Rattle.std.proofs.lemmas.Option.{none-some}
use Rattle.std.proofs.Math.Nat.{lt_of_mul-lt-mul_right, mul-le-mul_right}
use Rattle.std.specs.Option.{is_some}
use Rattle.scheduler.specs.declared.plan.Item.{Item}
use Rattle.scheduler.specs.declared.scheduled.Scheduled.{Scheduled}
use Rattle.scheduler.specs.declared.progress.Progress.{Progress}
use Rattle.scheduler.specs.Message.{ScheduledMessage, release, due, broadcast_at}
use Rattle.scheduler.specs.Message.{HasBroadcast, has_broadcast, is_before_stop}
use Rattle.scheduler.specs.Air.{airs}
use Rattle.scheduler.specs.Follows.{message_of}
use Rattle.scheduler.specs.PlanSteps.{IsFit, is_ready, after_slot}
use Rattle.scheduler.specs.QueueSteps.{kept_new, progress_begun, refreshed, aired, stopped, seen, IsRight}
use Rattle.scheduler.proofs.Air.{broadcast_at-released, broadcast_at-not_due, broadcast_at-only, next_release}
use Rattle.scheduler.proofs.Air.{same_broadcast}
use Rattle.scheduler.proofs.Message.{has_broadcast-says, has_broadcast-from}
use Rattle.scheduler.proofs.Completed.{one_if-le}
use Rattle.scheduler.proofs.Counts.{is_ready-parts, is_ready-started}

-- the four parts of a message's being ready make it
ready_of : (t : Scheduled) (slot : ℕ) → leb t.item.start slot ≡ true
    → has_broadcast (message_of t) (broadcast_at (message_of t) slot) ≡ true → is_before_stop slot t.stop ≡ true
    → ltb t.pages_aired t.item.pages ≡ true → is_ready t slot ≡ true
ready_of t slot started requested standing pages = rw (started, requested, standing, pages) refl

-- a message that is looked at later is seen as it is kept
pub seen_is : (k : Progress) (slot : ℕ) → slot < k.until → seen slot k ≡ k.scheduled
seen_is k slot h =
    ap (λ (b : Bool). record k.scheduled { pages_aired = cond b k.scheduled.pages_aired 0 }) (lt-ltb slot k.until h)

same_both : (b : Bool) (n : ℕ) → cond b n n ≡ n
same_both true n = refl
same_both false n = refl

-- neither way a page is left where there is none
cond_zero : (b : Bool) → cond b 0 0 ≡ zero
cond_zero b = same_both b 0

-- what is kept of a message at a slot is true of it at the next one
pub IsRight-later : (k : Progress) (slot : ℕ) → IsRight slot k → IsRight (slot + 1) k
IsRight-later k slot right = record {
  fit = record {
    some_pages = right.fit.some_pages;
    some_period = right.fit.some_period;
    few = omega (arith, right.fit.few);
  };
  release = right.release;
  ready = λ s from till. right.ready s (omega arith) till;
  timed = λ s from till. right.timed s (omega arith) till;
  stopped = λ stop is. let old = right.stopped stop is in omega arith;
}

-- the pages of the broadcast under way, at the next slot: none where it ends there
pages_next : (k : Progress) (slot pages : ℕ) → 0 < k.scheduled.item.period → slot < k.until
    → ((k.scheduled.item.start ≤ slot) × (k.until ≡ due (message_of k.scheduled)
    (broadcast_at (message_of k.scheduled) slot))) ⊎ (pages ≡ 0)
    → cond (ltb (slot + 1) k.until) pages 0 ≡ cond (eqb ((slot + 1 - k.scheduled.item.start) % k.scheduled.item.period)
    0) 0 pages
pages_next k slot pages period before timed =
    let m = message_of k.scheduled in
    elim timed [
      | inr none ↦ rw none (cond_zero (ltb (slot + 1) k.until)
          ∙ sym (cond_zero (eqb ((slot + 1 - k.scheduled.item.start) % k.scheduled.item.period) 0)))
      | inl window ↦ elim (cases_eq ((slot + 1 - m.start) % m.period) 0) [
        | inl over ↦
            let at_end = next_release m slot period window.0 over in
            let ends : k.until ≤ slot + 1 = ended m slot period window.0 at_end window.1 in
            rw (le-ltb (slot + 1) k.until ends, eq-eqb _ 0 over) refl
        | inr goes_on ↦
            let same = same_broadcast m slot period window.0 goes_on in
            let not_due = broadcast_at-not_due m (slot + 1) period (omega (arith, window.0)) in
            let still : slot + 1 < k.until = omega (arith, ap (due m) same, window.1, not_due) in
            rw (lt-ltb (slot + 1) k.until still, ne_eqb _ 0 goes_on) refl
      ]
    ]
  where
    ended : (m : ScheduledMessage) (slot : ℕ) → 0 < m.period → m.start ≤ slot
        → release m (broadcast_at m (slot + 1)) ≡ slot + 1 → k.until ≡ due m (broadcast_at m slot)
        → k.until ≤ slot + 1
    ended m slot period started at_end is = elim (cases_lt (slot + 1) k.until) [
      | inr done ↦ done
      | inl goes_on ↦ absurd (
          let released = broadcast_at-released m slot period started in
          let only = broadcast_at-only m (slot + 1) (broadcast_at m slot) period (omega (arith, started))
          (omega (arith, released)) (omega (arith, is, goes_on)) in
          omega (arith, ap (release m) only, at_end, released)
          )
    ]

-- a message that the slot does not air
pub seen_after_other : (k : Progress) (slot : ℕ) (used : Option (ℕ × ℕ)) → IsRight slot k → slot < k.until
    → airs k.scheduled.item.entry used ≡ false → seen (slot + 1) k ≡ after_slot slot used (seen slot k)
seen_after_other k slot used right before other =
    let timed : ((k.scheduled.item.start ≤ slot) × (k.until ≡ due (message_of k.scheduled)
    (broadcast_at (message_of k.scheduled) slot))) ⊎ (k.scheduled.pages_aired ≡ 0) =
    elim (right.timed slot (omega arith) before) [ inl window ↦ inl window | inr none ↦ inr none.0 ] in
    let pages = pages_next k slot k.scheduled.pages_aired right.fit.some_period before timed in
    let same : k.scheduled.pages_aired ≡ k.scheduled.pages_aired + 0 = omega arith in
    let unchanged : k.scheduled.completed ≡ k.scheduled.completed + 0 = omega arith in
    let ends = eqb ((slot + 1 - k.scheduled.item.start) % k.scheduled.item.period) 0 in
    rw (other, lt-ltb slot k.until before) (
    ap (λ n. record k.scheduled { pages_aired = n }) (pages ∙ ap (cond ends 0) same)
    ∙ ap (λ n. record k.scheduled { pages_aired = cond ends 0 (k.scheduled.pages_aired + 0); completed = n })
    unchanged)

-- the same of one that is to be looked at again by the slot
seen_after_over : (k : Progress) (slot : ℕ) (used : Option (ℕ × ℕ)) → k.until ≤ slot
    → airs k.scheduled.item.entry used ≡ false → seen (slot + 1) k ≡ after_slot slot used (seen slot k)
seen_after_over k slot used over other =
    let unchanged : k.scheduled.completed ≡ k.scheduled.completed + 0 = omega arith in
    let ends = eqb ((slot + 1 - k.scheduled.item.start) % k.scheduled.item.period) 0 in
    rw (other, le-ltb slot k.until over, le-ltb (slot + 1) k.until (omega (arith, over))) (
    ap (λ n. record k.scheduled { pages_aired = n }) (sym (cond_zero ends))
    ∙ ap (λ n. record k.scheduled { pages_aired = cond ends 0 0; completed = n }) unchanged)

-- so of any message that the slot does not air
pub seen_after_unaired : (k : Progress) (slot : ℕ) (used : Option (ℕ × ℕ)) → IsRight slot k
    → airs k.scheduled.item.entry used ≡ false → seen (slot + 1) k ≡ after_slot slot used (seen slot k)
seen_after_unaired k slot used right other =
    elim (cases_lt slot k.until) [
      | inl before ↦ seen_after_other k slot used right before other
      | inr over ↦ seen_after_over k slot used over other
    ]

-- and the one that it airs
pub seen_after_aired : (k : Progress) (slot : ℕ) (used : Option (ℕ × ℕ)) → IsRight slot k → slot < k.until
    → is_ready k.scheduled slot ≡ true
    → airs k.scheduled.item.entry used ≡ true → seen (slot + 1) (aired k) ≡ after_slot slot used (seen slot k)
seen_after_aired k slot used right before ready named =
    let timed : ((k.scheduled.item.start ≤ slot) × (k.until ≡ due (message_of k.scheduled)
    (broadcast_at (message_of k.scheduled) slot))) ⊎ (k.scheduled.pages_aired + 1 ≡ 0) =
    elim (right.timed slot (omega arith) before) [
      | inl window ↦ inl window
      | inr none ↦ absurd (false≢true (sym none.1 ∙ (sym (right.ready slot (omega arith) before) ∙ ready)))
    ] in
    let pages = pages_next k slot (k.scheduled.pages_aired + 1) right.fit.some_period before timed in
    rw (named, lt-ltb slot k.until before) (
    ap (λ n. record k.scheduled {
      pages_aired = n;
      completed = k.scheduled.completed + cond (eqb (k.scheduled.pages_aired + 1) k.scheduled.item.pages) 1 0;
    }) pages)

-- what is kept of it is right at the next slot
pub IsRight-aired : (k : Progress) (slot : ℕ) → IsRight slot k → slot < k.until → is_ready k.scheduled slot ≡ true
    → IsRight (slot + 1) (aired k)
IsRight-aired k slot right before ready = record {
  fit = record {
    some_pages = right.fit.some_pages;
    some_period = right.fit.some_period;
    few = omega (arith, right.fit.few, one_if-le (eqb (k.scheduled.pages_aired + 1) k.scheduled.item.pages));
  };
  release = right.release;
  ready = λ s from till.
      let was = right.ready s (omega arith) till ∙ is_open in
      let parts = is_ready-parts k.scheduled s was in
      rw (le-leb k.scheduled.item.start s (is_ready-started k.scheduled s was), parts.0, parts.1) refl;
  timed = λ s from till. elim (right.timed s (omega arith) till) [
    | inl window ↦ inl window
    | inr none ↦ absurd (false≢true (sym none.1 ∙ is_open))
  ];
  stopped = λ stop is. let old = right.stopped stop is in omega arith;
}
  where
    is_open : k.is_open ≡ true
    is_open = sym (right.ready slot (omega arith) before) ∙ ready

-- a message that is looked at again is seen as before
pub seen_renewed : (k : Progress) (slot : ℕ) → seen slot (refreshed slot k) ≡ seen slot k
seen_renewed k slot =
    elim (cases_lt slot k.until) [
      | inl before ↦ rw (lt-ltb slot k.until before) (seen_is k slot before)
      | inr now ↦ rw (le-ltb slot k.until now) (
          ap (λ n. record k.scheduled { pages_aired = n })
          (cond_zero (ltb slot (progress_begun slot (record k.scheduled { pages_aired = 0 })).until)))
    ]

-- and is not to be looked at again at that slot
begun_awake : (t : Scheduled) (slot : ℕ) → 0 < t.item.period → slot < 65536 → slot < (progress_begun slot t).until
begun_awake t slot period short =
    elim (cases_Bool (is_ready t slot)) [
      | inl ready ↦ rw ready (broadcast_at-not_due (message_of t) slot period (is_ready-started t slot ready))
      | inr not ↦ elim (cases_lt slot t.item.start) [
        | inl early ↦ rw (not, lt-ltb slot t.item.start early) early
        | inr started ↦ rw (not, le-ltb slot t.item.start started) (omega arith)
      ]
    ]

-- the same of any message
pub renewed_awake : (k : Progress) (slot : ℕ) → 0 < k.scheduled.item.period → slot < 65536
    → slot < (refreshed slot k).until
renewed_awake k slot period short =
    elim (cases_lt slot k.until) [
      | inl before ↦ rw (lt-ltb slot k.until before) before
      | inr now ↦ rw (le-ltb slot k.until now) (begun_awake (record k.scheduled { pages_aired = 0 }) slot period short)
    ]

-- a message that was stopped by a slot is not before its stop then
not_stopped : (t : Scheduled) (slot s : ℕ) → slot ≤ s → ((stop : ℕ) → t.stop ≡ Some stop → stop ≤ slot)
    → is_before_stop slot t.stop ≡ true → is_before_stop s t.stop ≡ true
not_stopped t slot s from stopped says = by_stop t.stop stopped says
  where
    by_stop : (stop : Option ℕ) → ((x : ℕ) → stop ≡ Some x → x ≤ slot) → is_before_stop slot stop ≡ true
        → is_before_stop s stop ≡ true
    by_stop None early before = refl
    by_stop (Some x) early before =
        absurd (let one = ltb-true slot x before in let other = early x refl in omega arith)

-- what begins at a slot is right from there
begun_right : (t : Scheduled) (slot : ℕ) → IsFit t slot → t.pages_aired ≡ 0
    → ((stop : ℕ) → t.stop ≡ Some stop → stop ≤ slot) → slot < 65536
    → IsRight slot (progress_begun slot t)
begun_right t slot fit none stopped short =
    elim (cases_Bool (is_ready t slot)) [
      | inl ready ↦ record {
        fit = fit;
        release = rw ready (inl (broadcast_at m slot + 1, refl));
        ready = λ s from till. ready_on ready s from (rw ready at till) ∙ sym ready;
        timed = λ s from till.
            let on = same_on ready s from (rw ready at till) in
            rw ready (inl (omega (arith, is_ready-started t slot ready), ap (due (message_of t)) on));
        stopped = stopped;
      }
      | inr not ↦ record {
        fit = fit;
        release = elim (cases_lt slot t.item.start) [
          | inl early ↦ rw (not, lt-ltb slot t.item.start early) (inl (0, omega arith))
          | inr started ↦ rw (not, le-ltb slot t.item.start started) (inr refl)
        ];
        ready = λ s from till. not_on not s from till ∙ sym not;
        timed = λ s from till. inr (none, not);
        stopped = stopped;
      }
    ]
  where
    m : ScheduledMessage
    m = message_of t

    same_on : is_ready t slot ≡ true → (s : ℕ) → slot ≤ s → s < due m (broadcast_at m slot)
        → broadcast_at m slot ≡ broadcast_at m s
    same_on ready s from till =
        let started = is_ready-started t slot ready in
        let released = broadcast_at-released m slot fit.some_period started in
        broadcast_at-only m s (broadcast_at m slot) fit.some_period (omega (arith, started)) (omega (arith, released))
        till

    ready_on : is_ready t slot ≡ true → (s : ℕ) → slot ≤ s → s < due m (broadcast_at m slot) → is_ready t s ≡ true
    ready_on ready s from till =
        let parts = is_ready-parts t slot ready in
        let Requested : ℕ → Type 0 = λ j. has_broadcast m j ≡ true in
        ready_of t s (le-leb t.item.start s (omega (arith, is_ready-started t slot ready)))
        (subst Requested (same_on ready s from till) parts.0) (not_stopped t slot s from stopped parts.1)
        (lt-ltb t.pages_aired t.item.pages parts.2)

    -- what is ready later is ready now
    ready_before : t.item.start ≤ slot → (s : ℕ) → slot ≤ s → is_ready t s ≡ true → is_ready t slot ≡ true
    ready_before started s from ready =
        let parts = is_ready-parts t s ready in
        let released = broadcast_at-released m slot fit.some_period started in
        let not_due = broadcast_at-not_due m s fit.some_period (omega arith) in
        let below : broadcast_at m slot * m.period < (broadcast_at m s + 1) * m.period = omega arith in
        let no_later = lt_of_mul-lt-mul_right m.period below in
        let requested = fewer (has_broadcast-says m (broadcast_at m s) parts.0) (omega (arith, no_later)) in
        ready_of t slot (le-leb t.item.start slot started) (has_broadcast-from m (broadcast_at m slot) requested)
        (by_stop t.stop parts.1) (lt-ltb t.pages_aired t.item.pages parts.2)
      where
        fewer : HasBroadcast m (broadcast_at m s) → broadcast_at m slot ≤ broadcast_at m s
            → HasBroadcast m (broadcast_at m slot)
        fewer has le = elim has [ inl always ↦ inl always | inr below ↦ inr (omega (arith, below, le)) ]

        by_stop : (stop : Option ℕ) → is_before_stop s stop ≡ true → is_before_stop slot stop ≡ true
        by_stop None before = refl
        by_stop (Some x) before = let one = ltb-true s x before in lt-ltb slot x (omega arith)

    not_on : is_ready t slot ≡ false → (s : ℕ) → slot ≤ s → s < (progress_begun slot t).until → is_ready t s ≡ false
    not_on not s from till = elim (cases_Bool (is_ready t s)) [
      | inr later ↦ later
      | inl ready ↦ elim (cases_lt slot t.item.start) [
        | inl early ↦ absurd (
            let before : s < t.item.start = rw (not, lt-ltb slot t.item.start early) at till in
            let started = is_ready-started t s ready in
            omega arith
            )
        | inr started ↦ absurd (false≢true (sym not ∙ ready_before started s from ready))
      ]
    ]

-- whether the broadcast in whose time a slot lies is among those that are requested shows in the slot
pub requested_at : (m : ScheduledMessage) (slot : ℕ) → 0 < m.period → m.start ≤ slot
    → ltb slot (m.start + m.broadcasts * m.period) ≡ ltb (broadcast_at m slot) m.broadcasts
requested_at m slot period started =
    let now = broadcast_at m slot in
    elim (cases_lt now m.broadcasts) [
      | inl few ↦
          let enough = mul-le-mul_right m.period (one_more few) in
          let not_due = broadcast_at-not_due m slot period started in
          lt-ltb slot (m.start + m.broadcasts * m.period) (omega (arith, not_due, enough))
          ∙ sym (lt-ltb now m.broadcasts few)
      | inr over ↦
          let after = mul-le-mul_right m.period over in
          let released = broadcast_at-released m slot period started in
          le-ltb slot (m.start + m.broadcasts * m.period) (omega (arith, released, after))
          ∙ sym (le-ltb now m.broadcasts over)
    ]
  where
    one_more : broadcast_at m slot < m.broadcasts → broadcast_at m slot + 1 ≤ m.broadcasts
    one_more few = omega (arith, few)

-- nothing is what isn't something
pub none_if : (stop : Option ℕ) → is_some stop ≡ false → stop ≡ None
none_if None h = refl
none_if (Some x) h = absurd (false≢true (sym h))

-- a message that was not stopped, and of which no page was aired, is ready in the time of a requested broadcast
pub begins_if : (t : Scheduled) (slot : ℕ) (requested : Bool) → IsFit t slot → t.item.start ≤ slot → t.stop ≡ None
    → requested ≡ has_broadcast (message_of t) (broadcast_at (message_of t) slot)
    → requested ≡ is_ready (record t { pages_aired = 0 }) slot
begins_if t slot requested fit started none is =
    is ∙ rw (le-leb t.item.start slot started, none, lt-ltb 0 t.item.pages fit.some_pages)
    (sym (and_true (has_broadcast (message_of t) (broadcast_at (message_of t) slot))))
  where
    and_true : (b : Bool) → (b && true) ≡ b
    and_true true = refl
    and_true false = refl

-- so is what is kept of any message that is looked at again
pub IsRight-refreshed : (k : Progress) (slot : ℕ) → IsRight slot k → slot < 65536 → IsRight slot (refreshed slot k)
IsRight-refreshed k slot right short =
    elim (cases_lt slot k.until) [
      | inl before ↦ rw (lt-ltb slot k.until before) right
      | inr now ↦ rw (le-ltb slot k.until now) (begun_right (record k.scheduled { pages_aired = 0 }) slot
          (record {
            some_pages = right.fit.some_pages;
            some_period = right.fit.some_period;
            few = right.fit.few;
          }) refl right.stopped short)
    ]

-- what is kept of a message that is stopped is right
pub IsRight-stopped : (k : Progress) (slot : ℕ) → IsRight slot k → IsRight slot (stopped slot k)
IsRight-stopped k slot right = record {
  fit = record {
    some_pages = right.fit.some_pages;
    some_period = right.fit.some_period;
    few = right.fit.few;
  };
  release = right.release;
  ready = λ s from till. rw (le-ltb s slot from) (never (leb k.scheduled.item.start s)
      (has_broadcast (message_of (stopped slot k).scheduled) (broadcast_at (message_of (stopped slot k).scheduled) s)));
  timed = λ s from till. elim (right.timed s from till) [
    | inl window ↦ inl window
    | inr none ↦ inr (none.0, refl)
  ];
  stopped = λ stop is. let same : slot ≡ stop = cc in omega arith;
}
  where
    never : (a b : Bool) → (a && (b && false)) ≡ false
    never true true = refl
    never true false = refl
    never false b = refl

-- and of one that was just added
pub IsRight-new : (item : Item) (slot : ℕ) → slot ≤ item.start → 0 < item.pages → 0 < item.period
    → IsRight slot (kept_new item)
IsRight-new item slot start pages period = record {
  fit = record { some_pages = pages; some_period = period; few = omega arith };
  release = inl (0, omega arith);
  ready = λ s from till. elim (cases_Bool (is_ready (kept_new item).scheduled s)) [
    | inl ready ↦ absurd (omega (arith, is_ready-started (kept_new item).scheduled s ready, till))
    | inr not ↦ not
  ];
  timed = λ s from till. inr (refl, refl);
  stopped = λ stop is. absurd (none-some stop is);
}

-- which is seen as it is kept
pub seen_new : (item : Item) (slot : ℕ) → seen slot (kept_new item) ≡ (kept_new item).scheduled
seen_new item slot =
    ap (λ n. record (kept_new item).scheduled { pages_aired = n }) (cond_zero (ltb slot item.start))
