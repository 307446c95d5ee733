-- A replacement that takes over keeps the order and the room.
use Rattle.std.proofs.Common.{◌≡◌, ◌≢◌, ℕ, ◌-◌, ◌≤◌, ◌<◌, ◌==◌, Bool, true, false, cond, Option, Some, None, is_some}
use Rattle.std.proofs.Common.{List, length, map, get_or, refl, sym, ap, subst, ◌∙◌, inl, inr, arith}
use Rattle.std.specs.List.{All, AllPairs, Any, Contains, find}
use Rattle.std.proofs.lemmas.Bool.{cases_lt, cases_order, eqb-true, eq-eqb, lt-ltb, le-leb, lt-leb, false≢true}
use Rattle.std.proofs.lemmas.List.{get_or-map, length-map, get_or_default}
use Rattle.bsc_table.specs.Claim.{Claim, IsWaiting, end_of, own_load, stop_claim, stop_claims}
use Rattle.bsc_table.specs.Record.{is_live}
use Rattle.bsc_table.specs.Handover.{Place, ahead_of, numbered, place_before, place_behind, handover}
use Rattle.bsc_table.specs.Room.{HandsOverTo, AreInOrder, TakeoverKeepsRoom, WaitingPassesItsStart}
use Rattle.bsc_table.proofs.Room.StoppedClaims.{waits_on, stop_claim-other}
use Rattle.bsc_table.proofs.Room.StopKeepsRoom.{not_live, in_order-stop, stop_keeps_room}
use Rattle.bsc_table.proofs.Room.AddedClaims.{in_order-add, ClaimsFit-add, claim_at-waits}
use Rattle.bsc_table.proofs.Room.Ahead.{taken, by_number, from_stopped, live_before, find-says, find-none}

-- where numbers rise, the one message of a number is live
pub only_live : (claims : List Claim) (now : ℕ) (old : Claim)
    → AllPairs (λ x y. x.message.entry < y.message.entry) claims → Contains claims old
    → is_live now old.message ≡ true → All (λ c. c.message.entry ≡ old.message.entry → is_live now c.message ≡ true)
    claims
only_live claims now old rising here live = λ k d within. λ same.
    let c : Claim = get_or claims k d in
    let there : Contains claims c = (k, within, get_or_default claims k c d within) in
    let is : c ≡ old = by_number claims c old rising there here same in
    let Live : Claim → Type 0 = λ x. is_live now x.message ≡ true in
    subst Live (sym is) live

-- what is true of the one ahead of a message that takes over from the old one
pub record IsAhead (claims : List Claim) (now : ℕ) (entry : ℕ) (p : Claim) : Type 0 where
  pub started : p.message.start ≤ now
  pub stopped : is_some p.message.stop ≡ true
  pub free : All (λ v. IsWaiting now v → v.behind ≢ Some p.message.entry) (stop_claims entry now claims)

-- a waiting one among the stopped ones was waiting before
record WasWaiting (claims : List Claim) (now entry : ℕ) (v c : Claim) : Type 0 where
  pub there : Contains claims c
  pub other : c.message.entry ≢ entry
  pub waiting : IsWaiting now c
  pub same : v.behind ≡ c.behind

was_waiting : (claims : List Claim) (now entry k : ℕ) (d : Claim) → AreInOrder claims now
    → k < length (stop_claims entry now claims) → IsWaiting now (get_or (stop_claims entry now claims) k d)
    → WasWaiting claims now entry (get_or (stop_claims entry now claims) k d) (get_or claims k d)
was_waiting claims now entry k d order within waiting =
    let f = stop_claim entry now in
    let inside : k < length claims = omega (arith, within, length-map claims f) in
    let c : Claim = get_or claims k d in
    let is : get_or (map f claims) k d ≡ f c = get_or-map f claims k d d inside in
    let Waits : Claim → Type 0 = λ x. IsWaiting now x in
    let before = waits_on now entry c (order.periods k d inside) (subst Waits is waiting) in
    record {
      there = (k, inside, get_or_default claims k c d inside);
      other = before.0;
      waiting = before.1;
      same = ap (λ (x : Claim). x.behind) is;
    }

handed_to : (claims : List Claim) (now : ℕ) (w : Claim) → AreInOrder claims now → Contains claims w → IsWaiting now w
    → Any (λ p. HandsOverTo p w) claims
handed_to claims now w order here waiting =
    let P : Claim → Type 0 = λ x. IsWaiting now x → Any (λ p. HandsOverTo p x) claims in
    subst P here.2 (order.handed here.0 w here.1) waiting

not_both : (claims : List Claim) (now : ℕ) (v w : Claim) → AreInOrder claims now → Contains claims v
    → Contains claims w → IsWaiting now v → IsWaiting now w → v.message.entry ≢ w.message.entry → v.behind ≢ w.behind
not_both claims now v w order first second waits_v waits_w apart =
    let at_v : get_or claims first.0 v ≡ v = first.2 in
    let at_w : get_or claims second.0 v ≡ w = get_or_default claims second.0 v w second.1 ∙ second.2 in
    elim (cases_order first.0 second.0) [
      | inl same ↦
          let is : v ≡ w = sym at_v ∙ ap (λ i. get_or claims i v) same ∙ at_w in
          absurd (apart (ap (λ (c : Claim). c.message.entry) is))
      | inr other ↦ elim other [
        | inl before ↦
            let P : Claim → Type 0 = λ x. IsWaiting now x → IsWaiting now (get_or claims second.0 v)
            → x.behind ≢ (get_or claims second.0 v).behind in
            let Q : Claim → Type 0 = λ y. IsWaiting now v → IsWaiting now y → v.behind ≢ y.behind in
            subst Q at_w (subst P at_v (order.alone first.0 second.0 v before second.1)) waits_v waits_w
        | inr after ↦
            let P : Claim → Type 0 = λ y. IsWaiting now y → IsWaiting now (get_or claims first.0 v)
            → y.behind ≢ (get_or claims first.0 v).behind in
            let Q : Claim → Type 0 = λ x. IsWaiting now w → IsWaiting now x → w.behind ≢ x.behind in
            let turned = subst Q at_v (subst P at_w (order.alone second.0 first.0 v after first.1)) waits_w waits_v in
            λ same. turned (sym same)
      ]
    ]

-- the old one itself, where it has started
ahead_started : (claims : List Claim) (now : ℕ) (old p : Claim) → AreInOrder claims now → Contains claims old
    → is_live now old.message ≡ true → old.message.start ≤ now → Contains (stop_claims old.message.entry now claims) p
    → p.message.entry ≡ old.message.entry → IsAhead claims now old.message.entry p
ahead_started claims now old p order here live started there same =
    let entry = old.message.entry in
    let only = only_live claims now old order.rising here live in
    let from = from_stopped claims entry now p there in
    let numbers : from.0.message.entry ≡ entry = sym (ap (λ (c : Claim). c.message.entry) from.2) ∙ same in
    let is : from.0 ≡ old = by_number claims from.0 old order.rising from.1 here numbers in
    let become : p ≡ stop_claim entry now old = from.2 ∙ ap (stop_claim entry now) is in
    record {
      started = omega (arith, ap (λ (c : Claim). c.message.start) become, started);
      stopped = ap (λ (c : Claim). is_some c.message.stop) become
          ∙ ap (λ (b : Bool). is_some (cond b (Some now) old.message.stop)) (eq-eqb entry entry refl);
      free = λ k d within. λ waiting. λ behind.
          let was = was_waiting claims now entry k d order within waiting in
          let found = handed_to claims now (get_or claims k d) order was.there was.waiting in
          let q : Claim = found.1 in
          let over : HandsOverTo q (get_or claims k d) = found.4 in
          let both : Some q.message.entry ≡ Some p.message.entry = sym over.named ∙ sym was.same ∙ behind in
          let equal : q.message.entry ≡ p.message.entry = cc in
          not_live claims entry now found.0 q (get_or claims k d) only found.2 found.3 over (equal ∙ same);
    }

-- the one behind which the old one waits
ahead_waiting : (claims : List Claim) (now : ℕ) (old p : Claim) → AreInOrder claims now → Contains claims old
    → is_live now old.message ≡ true → 0 < old.message.period → now < old.message.start
    → Contains (stop_claims old.message.entry now claims) p → old.behind ≡ Some p.message.entry
    → IsAhead claims now old.message.entry p × HandsOverTo p old
ahead_waiting claims now old p order here live some waits there behind =
    let entry = old.message.entry in
    let only = only_live claims now old order.rising here live in
    let waiting : IsWaiting now old = (waits, live_before now old.message some live) in
    let found = handed_to claims now old order here waiting in
    let q : Claim = found.1 in
    let over : HandsOverTo q old = found.4 in
    let from = from_stopped claims entry now p there in
    let both : Some p.message.entry ≡ Some q.message.entry = sym behind ∙ over.named in
    let equal : p.message.entry ≡ q.message.entry = cc in
    let numbers : from.0.message.entry ≡ q.message.entry = sym (ap (λ (c : Claim). c.message.entry) from.2)
    ∙ equal in
    let is : from.0 ≡ q = by_number claims from.0 q order.rising from.1 (found.0, found.2, found.3) numbers in
    let apart = not_live claims entry now found.0 q old only found.2 found.3 over in
    let become : p ≡ q = from.2 ∙ ap (stop_claim entry now) is ∙ stop_claim-other entry now q apart in
    let Over : Claim → Type 0 = λ x. HandsOverTo x old in
    let its : HandsOverTo p old = subst Over (sym become) over in
    let accepted : Claim → Type 0 = λ x. x.accepted ≤ now in (
      record {
        started = let by = subst accepted here.2 (order.accepted here.0 old here.1) in omega (arith, its.started, by);
        stopped = its.stopped;
        free = λ k d within. λ waits_too. λ too.
            let was = was_waiting claims now entry k d order within waits_too in
            not_both claims now (get_or claims k d) old order was.there here was.waiting waiting was.other
            (sym was.same ∙ too ∙ sym behind);
      },
      its,
    )

-- what the place that is taken over is
pub record IsFree (claims : List Claim) (now load entry : ℕ) (place : Place) : Type 0 where
  pub p : Claim
  pub there : Contains (stop_claims entry now claims) p
  pub ahead : IsAhead claims now entry p
  pub named : place.behind ≡ p.message.entry
  pub ends : end_of p.message ≡ Some place.start
  pub later : now < place.start
  pub excess : place.excess ≡ load - own_load p.message

-- a place that is handed over is free: nobody else waits for it
pub is_free : (claims : List Claim) (now load : ℕ) (old : Claim) (place : Place) → AreInOrder claims now
    → Contains claims old → is_live now old.message ≡ true → handover (stop_claims old.message.entry now claims) now
    old load ≡ Some place → IsFree claims now load old.message.entry place
is_free claims now load old place order here live over =
    let left = stop_claims old.message.entry now claims in
    let took = taken left now load (ahead_of now old) place over in
    let Some_period : Claim → Type 0 = λ x. 0 < x.message.period in
    let some = subst Some_period here.2 (order.periods here.0 old here.1) in
    let ahead : IsAhead claims now old.message.entry took.p = elim (cases_lt now old.message.start) [
      | inl waits ↦
          let behind = ap (λ (b : Bool). cond b (Some old.message.entry) old.behind)
          (lt-leb old.message.start now waits) in
          (ahead_waiting claims now old took.p order here live some waits took.there (sym behind ∙ took.entry)).0
      | inr started ↦
          let itself = ap (λ (b : Bool). cond b (Some old.message.entry) old.behind)
          (le-leb old.message.start now started) in
          let both : Some old.message.entry ≡ Some took.p.message.entry = sym itself ∙ took.entry in
          let same : took.p.message.entry ≡ old.message.entry = cc in
          ahead_started claims now old took.p order here live started took.there same
    ] in
    record {
      p = took.p;
      there = took.there;
      ahead = ahead;
      named = took.named;
      ends = took.ends;
      later = took.later;
      excess = took.excess;
    }

-- so a message that takes over keeps the order and the room
pub takeover_keeps_room : TakeoverKeepsRoom
takeover_keeps_room claims now old c place order fit here live over new placed room =
    let entry = old.message.entry in
    let left = stop_claims entry now claims in
    let only = only_live claims now old order.rising here live in
    let stopped = stop_keeps_room claims entry now order only fit in
    let free = is_free claims now (own_load c.message) old place order here live over in
    let p : Claim = free.p in
    let Accepted : Claim → Type 0 = λ x. x.accepted ≤ now in
    let by = subst Accepted free.there.2 (stopped.0.accepted free.there.0 p free.there.1) in
    let behind : c.behind ≡ Some p.message.entry = placed.behind ∙ ap (λ (n : ℕ). Some n) free.named in
    let hands : HandsOverTo p c = record {
      named = behind;
      there = omega (arith, by, new.accepted);
      started = omega (arith, free.ahead.started, new.accepted);
      stopped = free.ahead.stopped;
      ends = free.ends ∙ ap (λ (n : ℕ). Some n) (sym placed.start);
      covered = omega (arith, placed.excess, free.excess);
    } in
    let added = in_order-add left now c stopped.0 new (omega (arith, new.accepted, placed.start, free.later))
    (λ waiting. (free.there.0, p, free.there.1, free.there.2, hands))
    (λ k d h. λ first second. λ same. free.ahead.free k d h first (same ∙ behind)) in (
      added,
      ClaimsFit-add left now c added new.accepted (omega
          (arith, room, placed.excess, claim_at-waits now c (omega (arith, placed.start, free.later)))) stopped.1,
    )

-- a look-up by number finds the one of that number
pub find_number : (claims : List Claim) (p : Claim) (found : Option Claim)
    → AllPairs (λ x y. x.message.entry < y.message.entry) claims → Contains claims p
    → find (λ c. c.message.entry == p.message.entry) claims ≡ found → found ≡ Some p
find_number claims p None rising here e =
    let None_of : Claim → Type 0 = λ x. (x.message.entry == p.message.entry) ≡ false in
    let none = subst None_of here.2 (find-none (λ c. c.message.entry == p.message.entry) claims e here.0 p here.1) in
    absurd (false≢true (sym none ∙ eq-eqb p.message.entry p.message.entry refl))
find_number claims p (Some c) rising here e =
    let says = find-says (λ x. x.message.entry == p.message.entry) claims c e in
    ap (λ (x : Claim). Some x) (by_number claims c p rising says.0 here
    (eqb-true c.message.entry p.message.entry says.1))

-- a message that takes over from one that waits can do so, and starts where that one would have
pub waiting_passes_its_start : WaitingPassesItsStart
waiting_passes_its_start claims now load old order here live waits =
    let entry = old.message.entry in
    let f = stop_claim entry now in
    let left = stop_claims entry now claims in
    let only = only_live claims now old order.rising here live in
    let Some_period : Claim → Type 0 = λ x. 0 < x.message.period in
    let some = subst Some_period here.2 (order.periods here.0 old here.1) in
    let found = handed_to claims now old order here (waits, live_before now old.message some live) in
    let q : Claim = found.1 in
    let over : HandsOverTo q old = found.4 in
    let stays = stop_claim-other entry now q (not_live claims entry now found.0 q old only found.2 found.3 over) in
    let there : Contains left q = (
      found.0,
      omega (arith, found.2, length-map claims f),
      get_or-map f claims found.0 q
          q found.2 ∙ ap f found.3 ∙ stays,
    ) in
    let rising = (in_order-stop claims entry now order only).rising in
    let finds : find (λ c. c.message.entry == q.message.entry) left ≡ Some q = find_number left q
    (find (λ c. c.message.entry == q.message.entry) left) rising there refl in
    let behind : ahead_of now old ≡ Some q.message.entry = ap (λ (b : Bool). cond b (Some entry) old.behind)
    (lt-leb old.message.start now waits) ∙ over.named in
    let place : Place = record {
      behind = q.message.entry;
      start = old.message.start;
      excess = load - own_load
          q.message;
    } in
    let first = ap (λ (o : Option ℕ). place_behind now load (numbered o left)) behind in
    let second = ap (place_behind now load) finds in
    let third = ap (place_before now load q) over.ends in
    let fourth = ap (λ (b : Bool). cond b (Some place) None) (lt-ltb now old.message.start waits) in
    (place, first ∙ second ∙ third ∙ fourth, refl)
