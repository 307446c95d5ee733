-- What a budget holds at a slot, against the claims of the accepted messages.
use Rattle.std.proofs.Common.{◌≡◌, ℕ, ◌+◌, ◌*◌, ◌≤◌, ◌<◌, ◌==◌, Bool, true, false, cond, not, ◌&&◌, Option, Some, None}
use Rattle.std.proofs.Common.{List, [], ◌∷◌, ◌++◌, length, map, filter, sum_by, refl, ap, sym, subst, ◌∙◌, inl, inr}
use Rattle.std.proofs.Common.{arith}
use Rattle.std.specs.Prelude.{nat_le, nat_lt}
use Rattle.std.specs.List.{All}
use Rattle.std.specs.Option.{option_map}
use Rattle.std.proofs.lemmas.Bool.{cases_Bool, cases_lt, cases_eq, and_parts, eq-eqb, ne_eqb, eqb-true, le-leb, le-ltb}
use Rattle.std.proofs.lemmas.Bool.{lt-ltb, false≢true, true≢false}
use Rattle.std.proofs.lemmas.List.{map-append, length-map}
use Rattle.std.proofs.lemmas.List.Elements.{All-head, All-tail, All-map, All-weaker, filter-append, filter_passes}
use Rattle.std.proofs.lemmas.List.Sums.{sum_by-cons}
use Rattle.std.proofs.Math.Nat.{mul-pos}
use Rattle.admission.specs.declared.budget.Held.{Held}
use Rattle.admission.specs.declared.budget.Waits.{Waits}
use Rattle.admission.specs.Reservation.{IsBeforeEnd, is_before_end, natural_end, end_of_reservation, end_of_stopped}
use Rattle.admission.specs.Waiting.{held_now, share_now, waits_at, started_at}
use Rattle.admission.specs.Table.{room_answer as answer_by, room_answer_for, remaining_without, ends_if, ends_at}
use Rattle.admission.specs.Table.{passed}
use Rattle.scheduler.specs.Message.{stopped_if}
use Rattle.bsc_table.specs.Record.{is_live}
use Rattle.bsc_table.specs.Claim.{Claim, end_of, own_load, is_claimed_at, claim_share_at, claim_at, claimed_at}
use Rattle.bsc_table.specs.Claim.{IsWaiting}
use Rattle.bsc_table.specs.Claim.{stop_claim, stop_claims}
use Rattle.bsc_table.specs.Room.{AreInOrder}
use Rattle.bsc_table.specs.Book.{waits_of, reservation_for, reservations_at}
use Rattle.bsc_table.proofs.Room.Claims.{is_claimed_at-says, is_claimed_at-from, share_at-started, share_at-waiting}
use Rattle.bsc_table.proofs.Room.Ahead.{live_before}
use Rattle.bsc_table.proofs.Room.StoppedClaims.{stop_claim-other}

-- what waits at the slot waits behind some message
abbrev pub IsBehindOne : ℕ → Claim → Type 0
IsBehindOne slot c = IsWaiting slot c → (entry : ℕ) × (c.behind ≡ Some entry)

-- of claims in order each that waits does so behind one
pub all_behind_one : (slot : ℕ) (claims : List Claim) → AreInOrder claims slot → All (IsBehindOne slot) claims
all_behind_one slot claims order = λ k d within. λ waiting.
    let found = order.handed k d within waiting in
    (found.1.message.entry, found.4.named)

-- a claim that has started waits for nothing
pub waits_of-started : (slot : ℕ) (c : Claim) → c.message.start ≤ slot → waits_of slot c ≡ None
waits_of-started slot c started =
    ap (λ (b : Bool). cond b (option_map (λ (behind : ℕ). record
    { behind = behind; start = c.message.start; excess = c.excess }) c.behind) None)
    (le-ltb slot c.message.start started)

waits_of-waiting : (slot : ℕ) (c : Claim) (entry : ℕ)
    → slot < c.message.start
    → c.behind ≡ Some entry
    → waits_of slot c ≡ Some (record { behind = entry; start = c.message.start; excess = c.excess })
waits_of-waiting slot c entry waits behind =
    let waiting : Option ℕ → Option Waits = λ o. option_map (λ (n : ℕ). record
    { behind = n; start = c.message.start; excess = c.excess }) o in
    ap (λ (b : Bool). cond b (waiting c.behind) None) (lt-ltb slot c.message.start waits) ∙ ap waiting behind

-- a claim's reservation holds now what the claim reserves
reservation_holds : (slot : ℕ) (c : Claim)
    → is_claimed_at slot c ≡ true
    → IsBehindOne slot c
    → held_now (reservation_for slot c) ≡ claim_share_at slot c
reservation_holds slot c claimed reservations =
    elim (cases_lt slot c.message.start) [
      | inl waits ↦
          let behind = reservations (waits, (is_claimed_at-says slot c claimed).1) in
          ap (share_now (own_load c.message)) (waits_of-waiting slot c behind.0 waits behind.1)
          ∙ sym (share_at-waiting slot c waits)
      | inr started ↦ ap (share_now (own_load c.message)) (waits_of-started slot c started)
          ∙ sym (share_at-started slot c started)
    ]

same_loads : (slot : ℕ) (claims : List Claim)
    → All (IsBehindOne slot) claims
    → sum_by held_now (reservations_at slot claims) ≡ claimed_at claims slot
same_loads slot [] reservations = refl
same_loads slot (c ∷ claims) reservations =
    let rest = same_loads slot claims (All-tail (IsBehindOne slot) c claims reservations) in
    let here = All-head (IsBehindOne slot) c claims reservations in
    let more = sum_by-cons (claim_at slot) c claims in
    elim (cases_Bool (is_claimed_at slot c)) [
      | inl claimed ↦
          let holds = reservation_holds slot c claimed here in
          let its = ap (λ (b : Bool). cond b (claim_share_at slot c) 0) claimed in
          let left = ap (λ (b : Bool). sum_by held_now (map (reservation_for slot)
          (cond b (c ∷ filter (is_claimed_at slot) claims) (filter (is_claimed_at slot) claims)))) claimed in
          omega (
            arith,
            rest,
            more,
            holds,
            its,
            left,
            sum_by-cons held_now (reservation_for slot c)
                (reservations_at slot claims),
          )
      | inr free ↦
          let its = ap (λ (b : Bool). cond b (claim_share_at slot c) 0) free in
          let left = ap (λ (b : Bool). sum_by held_now (map (reservation_for slot)
          (cond b (c ∷ filter (is_claimed_at slot) claims) (filter (is_claimed_at slot) claims)))) free in
          omega (arith, rest, more, its, left)
    ]

-- so a load has room beside the reservations where it has room beside the claims
pub same_room : (slot load : ℕ) (claims : List Claim)
    → All (IsBehindOne slot) claims
    → room_answer_for (reservations_at slot claims) load ≡ answer_by (length (filter (is_claimed_at slot) claims))
    (claimed_at claims slot) load
same_room slot load claims reservations =
    ap (λ (n : ℕ). answer_by n (sum_by held_now (reservations_at slot claims)) load)
    (length-map (filter (is_claimed_at slot) claims) (reservation_for slot))
    ∙ ap (λ (n : ℕ). answer_by (length (filter (is_claimed_at slot) claims)) n load)
    (same_loads slot claims reservations)

-- the reservation of a later slot
waits_of-later : (slot later : ℕ) (c : Claim) → slot ≤ later → waits_at later (waits_of slot c) ≡ waits_of later c
waits_of-later slot later c after =
    elim (cases_lt slot c.message.start) [
      | inl waits ↦ ap (waits_at later) (before waits) ∙ onward c.behind
      | inr started ↦ ap (waits_at later) (waits_of-started slot c started)
          ∙ sym (waits_of-started later c (omega (arith, started, after)))
    ]
  where
    waiting : Option ℕ → Option Waits
    waiting o = option_map (λ (n : ℕ). record { behind = n; start = c.message.start; excess = c.excess }) o

    before : slot < c.message.start → waits_of slot c ≡ waiting c.behind
    before waits = ap (λ (b : Bool). cond b (waiting c.behind) None) (lt-ltb slot c.message.start waits)

    none : (b : Bool) → None ≡ cond b (waiting None) None
    none true = refl
    none false = refl

    onward : (o : Option ℕ) → waits_at later (waiting o) ≡ cond (nat_lt later c.message.start) (waiting o) None
    onward None = none (nat_lt later c.message.start)
    onward (Some n) = refl

reservation_later : (slot later : ℕ) (c : Claim) → slot ≤ later
    → started_at later (reservation_for slot c) ≡ reservation_for later c
reservation_later slot later c after =
    ap (λ (w : Option Waits). record {
      entry = c.message.entry;
      load = own_load c.message;
      end = end_of c.message;
      waits = w;
    }) (waits_of-later slot later c after)

before_end-sooner : (slot later : ℕ) (end : Option ℕ)
    → slot ≤ later
    → is_before_end later end ≡ true
    → is_before_end slot end ≡ true
before_end-sooner slot later None after h = refl
before_end-sooner slot later (Some end) after h =
    elim (cases_lt later end) [
      | inl before ↦ lt-ltb slot end (omega (arith, before, after))
      | inr over ↦ absurd (true≢false (sym h ∙ le-ltb later end over))
    ]

claimed_by_end : (slot : ℕ) (c : Claim)
    → c.accepted ≤ slot
    → is_claimed_at slot c ≡ is_before_end slot (end_of c.message)
claimed_by_end slot c accepted =
    ap (λ (b : Bool). b && is_before_end slot (end_of c.message)) (le-leb c.accepted slot accepted)

-- the reservations of a slot, once a later one has come
one_later : (b d : Bool) (later : ℕ) (h after : Held) (reservations rest : List Held)
    → (d ≡ true → b ≡ true)
    → is_before_end later h.end ≡ d
    → started_at later h ≡ after
    → passed later reservations ≡ rest
    → passed later (cond b (h ∷ reservations) reservations) ≡ cond d (after ∷ rest) rest
one_later true true later h after reservations rest within stands same more =
    ap (λ (b : Bool). map (started_at later) (cond b (h ∷ filter (λ (x : Held). is_before_end later x.end) reservations)
    (filter (λ (x : Held). is_before_end later x.end) reservations))) stands
    ∙ ap (λ (x : Held). x ∷ passed later reservations) same
    ∙ ap (λ (l : List Held). after ∷ l) more
one_later true false later h after reservations rest within stands same more =
    ap (λ (b : Bool). map (started_at later) (cond b (h ∷ filter (λ (x : Held). is_before_end later x.end) reservations)
    (filter (λ (x : Held). is_before_end later x.end) reservations))) stands
    ∙ more
one_later false true later h after reservations rest within stands same more = absurd (false≢true (within refl))
one_later false false later h after reservations rest within stands same more = more

map_cond : {X Y : Type 0} (f : X → Y) (b : Bool) (x : X) (xs : List X)
    → map f (cond b (x ∷ xs) xs) ≡ cond b (f x ∷ map f xs) (map f xs)
map_cond f true x xs = refl
map_cond f false x xs = refl

-- reservations that pass to a later slot are those that are held there
pub reservations_at-later : (slot later : ℕ) (claims : List Claim)
    → slot ≤ later
    → All (λ c. c.accepted ≤ slot) claims
    → passed later (reservations_at slot claims) ≡ reservations_at later claims
reservations_at-later slot later [] after accepted = refl
reservations_at-later slot later (c ∷ claims) after accepted =
    let Accepted : Claim → Type 0 = λ x. x.accepted ≤ slot in
    let by : c.accepted ≤ slot = All-head Accepted c claims accepted in
    let rest = reservations_at-later slot later claims after (All-tail Accepted c claims accepted) in
    let now : is_claimed_at slot c ≡ is_before_end slot (end_of c.message) = claimed_by_end slot c by in
    let then : is_claimed_at later c ≡ is_before_end later (end_of c.message) = claimed_by_end later c
    (omega (arith, by, after)) in
    let within : is_claimed_at later c ≡ true → is_claimed_at slot c ≡ true = λ h. now
    ∙ before_end-sooner slot later (end_of c.message) after (sym then ∙ h) in
    ap (passed later) (map_cond (reservation_for slot) (is_claimed_at slot c) c (filter (is_claimed_at slot) claims))
    ∙ one_later (is_claimed_at slot c) (is_claimed_at later c) later (reservation_for slot c) (reservation_for later c)
    (reservations_at slot claims) (reservations_at later claims) within (sym then)
    (reservation_later slot later c after) rest
    ∙ sym (map_cond (reservation_for later) (is_claimed_at later c) c (filter (is_claimed_at later) claims))

-- the reservation of the message that is stopped now
ended_reservation : (b : Bool) (slot end : ℕ) (c : Claim)
    → (b ≡ true → end_of_stopped c.message.start c.message.period slot ≡ end)
    → ends_if b end (reservation_for slot c) ≡ reservation_for slot (record c { message = stopped_if b slot c.message })
ended_reservation true slot end c same =
    ap (λ (n : ℕ). record {
      entry = c.message.entry;
      load = own_load c.message;
      end = Some n;
      waits = waits_of slot
          c;
    }) (sym (same refl))
ended_reservation false slot end c same = refl

-- the reservations with one message stopped now
pub reservations_at-stopped : (slot entry end : ℕ) (claims : List Claim)
    → All (λ c. c.accepted ≤ slot) claims
    → All (λ c. c.message.entry ≡ entry → (is_claimed_at slot c ≡ true)
    × (end_of_stopped c.message.start c.message.period slot ≡ end)) claims
    → passed slot (ends_at entry end (reservations_at slot claims)) ≡ reservations_at slot
    (stop_claims entry slot claims)
reservations_at-stopped slot entry end [] accepted fit = refl
reservations_at-stopped slot entry end (c ∷ claims) accepted fit =
    let Accepted : Claim → Type 0 = λ x. x.accepted ≤ slot in
    let Fit : Claim → Type 0 = λ x. x.message.entry ≡ entry → (is_claimed_at slot x ≡ true)
    × (end_of_stopped x.message.start x.message.period slot ≡ end) in
    let by : c.accepted ≤ slot = All-head Accepted c claims accepted in
    let its : Fit c = All-head Fit c claims fit in
    let rest = reservations_at-stopped slot entry end claims (All-tail Accepted c claims accepted)
    (All-tail Fit c claims fit) in
    let ends : Held → Held = λ h. ends_if (h.entry == entry) end h in
    let s : Claim = stop_claim entry slot c in
    let reservation : ends (reservation_for slot c) ≡ reservation_for slot s = ended_reservation
    (c.message.entry == entry) slot end c
    (λ same. (its (eqb-true c.message.entry entry same)).1) in
    let then : is_claimed_at slot s ≡ is_before_end slot (end_of s.message) = claimed_by_end slot s by in
    let until : is_before_end slot (ends (reservation_for slot c)).end ≡ is_claimed_at slot s = ap
    (λ (h : Held). is_before_end slot h.end) reservation ∙ sym then in
    let same : started_at slot (ends (reservation_for slot c)) ≡ reservation_for slot s = ap (started_at slot)
    reservation
    ∙ reservation_later slot slot s (omega arith) in
    let within : is_claimed_at slot s ≡ true → is_claimed_at slot c ≡ true = λ h. elim
    (cases_eq c.message.entry entry) [
      | inl it ↦ (its it).0
      | inr other ↦ ap (is_claimed_at slot) (sym (stop_claim-other entry slot c other)) ∙ h
    ] in
    ap (λ (l : List Held). passed slot (ends_at entry end l))
    (map_cond (reservation_for slot) (is_claimed_at slot c) c (filter (is_claimed_at slot) claims))
    ∙ ap (passed slot) (map_cond ends (is_claimed_at slot c) (reservation_for slot c) (reservations_at slot claims))
    ∙ one_later (is_claimed_at slot c) (is_claimed_at slot s) slot (ends (reservation_for slot c))
    (reservation_for slot s)
    (ends_at entry end (reservations_at slot claims)) (reservations_at slot (stop_claims entry slot claims)) within
    until same
    rest
    ∙ sym (map_cond (reservation_for slot) (is_claimed_at slot s) s (filter (is_claimed_at slot)
    (stop_claims entry slot claims)))

-- a live message is reserved, and so is one that is accepted now
pub live_is_claimed : (slot : ℕ) (c : Claim)
    → c.accepted ≤ slot
    → 0 < c.message.period
    → is_live slot c.message ≡ true
    → is_claimed_at slot c ≡ true
live_is_claimed slot c accepted some live =
    is_claimed_at-from slot c (accepted, live_before slot c.message some live)

stands_from : (slot start period broadcasts : ℕ)
    → slot ≤ start
    → 0 < period
    → IsBeforeEnd slot (natural_end start period broadcasts)
stands_from slot start period broadcasts forward some =
    elim (cases_eq broadcasts 0) [
      | inl always ↦ rw (eq-eqb broadcasts 0 always) tt
      | inr few ↦
          let past : slot < start + broadcasts * period = let more : 0 < broadcasts * period = mul-pos
          (omega (arith, few)) some in omega (arith, more, forward) in
          rw (ne_eqb broadcasts 0 few) past
    ]

-- a new message is claimed at the slot at which it was accepted
pub new_is_claimed : (slot : ℕ) (c : Claim)
    → c.accepted ≡ slot
    → slot ≤ c.message.start
    → 0 < c.message.period
    → c.message.stop ≡ None
    → is_claimed_at slot c ≡ true
new_is_claimed slot c accepted forward some standing =
    let Stands : Option ℕ → Type 0 = λ stop. IsBeforeEnd slot
    (end_of_reservation c.message.start c.message.period c.message.broadcasts stop) in
    is_claimed_at-from slot c (
      omega (arith, accepted),
      subst Stands (sym standing)
          (stands_from slot c.message.start c.message.period c.message.broadcasts forward some),
    )

-- the reservations with one claim more
pub reservations_at-new : (slot : ℕ) (claims : List Claim) (c : Claim)
    → is_claimed_at slot c ≡ true
    → reservations_at slot (claims ++ c ∷ []) ≡ reservations_at slot claims ++ reservation_for slot c ∷ []
reservations_at-new slot claims c claimed =
    let counted = filter (is_claimed_at slot) claims in
    ap (map (reservation_for slot)) (filter-append (is_claimed_at slot) claims (c ∷ [])
    ∙ ap (λ (b : Bool). counted ++ cond b (c ∷ []) []) claimed)
    ∙ map-append (reservation_for slot) counted (c ∷ [])

-- a reservation as it is at the slot: it counts, and what it waits for is still to come
abbrev pub IsCurrent : ℕ → Held → Type 0
IsCurrent slot h = (is_before_end slot h.end ≡ true) × (started_at slot h ≡ h)

-- no reservation that is held has ended, or waits for a start that has come
pub reservations_are_current : (slot : ℕ) (claims : List Claim) → All (IsCurrent slot) (reservations_at slot claims)
reservations_are_current slot claims =
    All-map (IsCurrent slot) (reservation_for slot) (filter (is_claimed_at slot) claims)
    (All-weaker (λ (c : Claim). is_claimed_at slot c ≡ true) (λ (c : Claim). IsCurrent slot (reservation_for slot c))
    (λ c claimed. (
      (and_parts (nat_le c.accepted slot) (is_before_end slot (end_of c.message)) claimed).1,
      reservation_later slot slot c (omega arith),
    )) (filter (is_claimed_at slot) claims)
    (filter_passes (is_claimed_at slot) claims))

-- what leaves a budget where a reservation ends now: its reservation
ends_now : (slot entry : ℕ) (reservations : List Held)
    → All (IsCurrent slot) reservations
    → passed slot (ends_at entry slot reservations) ≡ remaining_without (Some entry) reservations
ends_now slot entry [] current = refl
ends_now slot entry (h ∷ reservations) current =
    let rest = ends_now slot entry reservations (All-tail (IsCurrent slot) h reservations current) in
    let here = All-head (IsCurrent slot) h reservations current in
    let left = ends_at entry slot reservations in
    let ended = ends_if (h.entry == entry) slot h in
    let others = remaining_without (Some entry) reservations in
    one_later true (not (h.entry == entry)) slot ended (started_at slot ended) left others (λ _. refl)
    (counts (h.entry == entry) here.0) refl rest
    ∙ stays (h.entry == entry) others here.1
  where
    counts : (b : Bool) → is_before_end slot h.end ≡ true → is_before_end slot (ends_if b slot h).end ≡ not b
    counts true here = le-ltb slot slot (omega arith)
    counts false here = here

    stays : (b : Bool) (others : List Held) → started_at slot h ≡ h
        → cond (not b) (started_at slot (ends_if b slot h) ∷ others) others ≡ cond (not b) (h ∷ others) others
    stays true others same = refl
    stays false others same = ap (λ (x : Held). x ∷ others) same

-- where it ends later, as many reservations are left, which hold as much
ends_later : (slot entry end : ℕ) (reservations : List Held)
    → slot < end
    → All (IsCurrent slot) reservations
    → passed slot (ends_at entry end reservations) ≡ ends_at entry end reservations
ends_later slot entry end [] later current = refl
ends_later slot entry end (h ∷ reservations) later current =
    let rest = ends_later slot entry end reservations later (All-tail (IsCurrent slot) h reservations current) in
    let here = All-head (IsCurrent slot) h reservations current in
    let ended = ends_if (h.entry == entry) end h in
    one_later true true slot ended ended (ends_at entry end reservations) (ends_at entry end reservations) (λ _. refl)
    (counts (h.entry == entry) here.0) (stays (h.entry == entry) here.1) rest
  where
    counts : (b : Bool) → is_before_end slot h.end ≡ true → is_before_end slot (ends_if b end h).end ≡ true
    counts true here = lt-ltb slot end later
    counts false here = here

    stays : (b : Bool) → started_at slot h ≡ h → started_at slot (ends_if b end h) ≡ ends_if b end h
    stays true same = ap (λ (x : Held). record x { end = Some end }) same
    stays false same = same

ended_holds : (entry end : ℕ) (reservations : List Held) → sum_by held_now (ends_at entry end reservations) ≡ sum_by
    held_now reservations
ended_holds entry end [] = refl
ended_holds entry end (h ∷ reservations) =
    omega (
      arith,
      ended_holds entry end reservations,
      sum_by-cons held_now h reservations,
      sum_by-cons held_now
          (ends_if (h.entry == entry) end h) (ends_at entry end reservations),
    )

-- the answer about room beside what stays when a reservation is given an end
pub room_without : (slot entry end load : ℕ) (reservations : List Held)
    → slot ≤ end
    → All (IsCurrent slot) reservations
    → room_answer_for (remaining_without (cond (end == slot) (Some entry) None) reservations) load ≡ room_answer_for
    (passed slot (ends_at entry end reservations)) load
room_without slot entry end load reservations after current =
    elim (cases_eq end slot) [
      | inl now ↦
          let P : ℕ → Type 0 = λ n. room_answer_for (remaining_without (Some entry) reservations) load ≡ room_answer_for
          (passed slot (ends_at entry n reservations)) load in
          rw (eq-eqb end slot now) (subst P (sym now) (ap (λ (l : List Held). room_answer_for l load)
          (sym (ends_now slot entry reservations current))))
      | inr later ↦
          let same = ends_later slot entry end reservations (omega (arith, later, after)) current in
          rw (ne_eqb end slot later) (sym (ap (λ (l : List Held). room_answer_for l load) same
          ∙ ap (λ (n : ℕ). answer_by n (sum_by held_now (ends_at entry end reservations)) load)
          (length-map reservations (λ (h : Held). ends_if (h.entry == entry) end h))
          ∙ ap (λ (n : ℕ). answer_by (length reservations) n load) (ended_holds entry end reservations)))
    ]
