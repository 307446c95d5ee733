-- Lemmas on the table of a budget: it stays admitted by each call.
use Rattle.std.proofs.Common.{◌≡◌, ◌≢◌, ◌==◌, ℕ, zero, suc, ◌+◌, ◌≤◌, ◌<◌, Bool, true, false, cond, not, Option, Some}
use Rattle.std.proofs.Common.{None, Ok, Err, ltb, leb, List, [], ◌∷◌, ◌++◌, length, get_or, take, drop, map, filter}
use Rattle.std.proofs.Common.{sum_by, refl, sym, ap, subst, ◌∙◌, inl, inr, arith}
use Rattle.std.specs.List.{refill, All, AllPairs, Any, Contains, find}
use Rattle.std.specs.Option.{option_map}
use Rattle.std.proofs.lemmas.Bool.{cases_Bool, cases_lt, lt-ltb, le-ltb, ltb-true, leb-true, ne_eqb, eq-eqb}
use Rattle.std.proofs.lemmas.Option.{none-some}
use Rattle.std.proofs.lemmas.List.{get_or-map, length-map, take-append-le, get_or_append_left, length_push}
use Rattle.std.proofs.lemmas.List.Elements.{All-map, All-push, All-filter}
use Rattle.std.proofs.lemmas.List.Filters.{length-filter_both}
use Rattle.std.proofs.lemmas.List.Kept.{AllPairs-filter}
use Rattle.std.proofs.lemmas.List.Quantifiers.{all_pairs_push}
use Rattle.std.proofs.lemmas.List.Sums.{sum_by-cons, sum_by_push}
use Rattle.std.proofs.Math.Seq.{take-length}
use Rattle.admission.specs.declared.budget.Held.{Held}
use Rattle.admission.specs.declared.budget.Waits.{Waits}
use Rattle.admission.specs.declared.budget.NoRoom.TheVariants as no_rooms
use Rattle.admission.specs.declared.measure.TheConstants.{SCALE}
use Rattle.admission.specs.Reservation.{is_before_end}
use Rattle.admission.specs.Waiting.{behind_of, held_now, HandsOver, waits_at, started_at}
use Rattle.admission.specs.Table.{IsAdmitted, room_answer, load_for, load_in, excess_over, ends_at, ends_if}
use Rattle.admission.specs.TableSteps.{HasPlace}
use Rattle.admission.specs.Table.{passed}
use Rattle.admission.proofs.Rising.{no_slot_over_now, passed_is_held}

-- a reservation that waits behind no such entry
not_behind : (entry : ℕ) (h : Held) (w : Waits) → h.waits ≡ Some w → behind_of h ≢ Some entry → w.behind ≢ entry
not_behind entry h w is other same =
    other (ap (λ (o : Option Waits). option_map (λ (x : Waits). x.behind) o) is ∙ ap (λ (n : ℕ). Some n) same)

Any-left : (P : Held → Type 0) (table : List Held) (h : Held) → Any P table → Any P (table ++ h ∷ [])
Any-left P table h found = (
  found.0,
  found.1,
  omega (arith, found.2, length_push table h),
  get_or_append_left table (h ∷ []) found.1 found.0
      found.2 ∙ found.3,
  found.4,
)

-- what has a place has it behind one that hands over, and alone
place_hands : (load : ℕ) (waits : Option Waits) (table : List Held) → HasPlace load waits table → (w : Waits)
    → waits ≡ Some w → Any (HandsOver load w) table × All (λ h. behind_of h ≢ Some w.behind) table
place_hands load None table place w is = absurd (none-some w is)
place_hands load (Some v) table place w is =
    let same : v ≡ w = cc in
    let P : Waits → Type 0 = λ x. Any (HandsOver load x) table × All (λ h. behind_of h ≢ Some x.behind) table in
    subst P same place

-- a table stays admitted where a reservation is added that has room and a place
pub IsAdmitted-push : (table : List Held) (new : Held) → IsAdmitted table → All (λ h. h.entry ≢ new.entry) table
    → HasPlace new.load new.waits table → length table < 64 → sum_by held_now table + held_now new ≤ SCALE
    → IsAdmitted (table ++ new ∷ [])
IsAdmitted-push table new admitted fresh place places loads =
    let waits = place_hands new.load new.waits table place in
    record {
      distinct = all_pairs_push (λ a b. a.entry ≢ b.entry) table new admitted.distinct fresh;
      places = omega (arith, places, length_push table new);
      loads = omega (arith, loads, sum_by_push held_now table new);
      handed = All-push (λ (h : Held). (w : Waits) → h.waits ≡ Some w → Any (HandsOver h.load w) (table ++ new ∷ []))
          table new (λ k d h. λ w e. Any-left (HandsOver (get_or table k d).load w) table new
          (admitted.handed k d h w e)) (λ w e. Any-left (HandsOver new.load w) table new (waits w e).0);
      alone = all_pairs_push (λ a b. (v w : Waits) → a.waits ≡ Some v → b.waits ≡ Some w → v.behind ≢ w.behind) table
          new admitted.alone (λ k d h. λ v w first second. not_behind w.behind (get_or table k d) v first
          ((waits w second).1 k d h));
    }

pairs_map : (R : Held → Held → Type 0) (f : Held → Held) (table : List Held) → AllPairs (λ a b. R (f a) (f b)) table
    → AllPairs R (map f table)
pairs_map R f table each = λ i j d before within.
    let long = length-map table f in
    let first = get_or-map f table i d d (omega arith) in
    let second = get_or-map f table j d d (omega arith) in
    let First : Held → Type 0 = λ v. R v (get_or (map f table) j d) in
    let Second : Held → Type 0 = λ w. R (f (get_or table i d)) w in
    subst First (sym first) (subst Second (sym second) (each i j d before (omega arith)))

Any-map : (P : Held → Type 0) (f : Held → Held) (table : List Held) → Any (λ x. P (f x)) table → Any P (map f table)
Any-map P f table some =
    let there = get_or-map f table some.0 some.1 (f some.1) some.2 ∙ ap f some.3 in
    (some.0, f some.1, omega (arith, length-map table f, some.2), there, some.4)

same_sums : (f : Held → Held) (table : List Held) → ((h : Held) → held_now (f h) ≡ held_now h)
    → sum_by held_now (map f table) ≡ sum_by held_now table
same_sums f [] same = refl
same_sums f (h ∷ table) same =
    omega (
      arith,
      sum_by-cons held_now (f h) (map f table),
      sum_by-cons held_now h table,
      same h,
      same_sums f table
          same,
    )

-- a table stays admitted where an end is set to what none waits behind
pub IsAdmitted-ends_at : (entry slot : ℕ) (table : List Held) → IsAdmitted table
    → All (λ h. behind_of h ≢ Some entry) table → IsAdmitted (ends_at entry slot table)
IsAdmitted-ends_at entry slot table admitted free =
    let f : Held → Held = λ h. ends_if (h.entry == entry) slot h in
    record {
      distinct = pairs_map (λ a b. a.entry ≢ b.entry) f table admitted.distinct;
      places = omega (arith, admitted.places, length-map table f);
      loads = omega (arith, admitted.loads, same_sums f table (λ h. refl));
      handed = All-map (λ (h : Held). (w : Waits) → h.waits ≡ Some w → Any (HandsOver h.load w) (map f table)) f table
          (λ k d h. λ w e.
          let reservation : Held = get_or table k d in
          let found = admitted.handed k d h w e in
          let g : Held = found.1 in
          let over : HandsOver reservation.load w g = found.4 in
          let apart : g.entry ≢ entry = λ same. not_behind entry reservation w e (free k d h) (over.named ∙ same) in
          let stays : f g ≡ g = ap (λ (b : Bool). ends_if b slot g) (ne_eqb g.entry entry apart) in
          let P : Held → Type 0 = λ x. HandsOver reservation.load w x in
          Any-map (HandsOver reservation.load w) f table (found.0, g, found.2, found.3, subst P (sym stays) over));
      alone = pairs_map (λ a b. (v w : Waits) → a.waits ≡ Some v → b.waits ≡ Some w → v.behind ≢ w.behind) f table
          admitted.alone;
    }

-- as many elements written over a list are what it then has
refill-whole : (table written : List Held) → length written ≡ length table
    → refill (length table) table written ≡ written
refill-whole table written e =
    let front = take-append-le (length table) written (drop (length written) table) (omega arith) in
    let whole = take-length written in
    let same = ap (λ n. take n written) e in
    cc

-- a table stays admitted where it is written over by itself with an end set
pub IsAdmitted-refill : (entry slot : ℕ) (table written : List Held) → written ≡ ends_at entry slot table
    → IsAdmitted table → All (λ h. behind_of h ≢ Some entry) table → IsAdmitted (refill (length table) table written)
IsAdmitted-refill entry slot table written e h free =
    let same = length-map table (λ (x : Held). ends_if (x.entry == entry) slot x) in
    let whole = refill-whole table written (ap length e ∙ same) in
    rw (whole, e) (IsAdmitted-ends_at entry slot table h free)

-- what still waits waited before, for a start to come
still : (slot : ℕ) (waits : Option Waits) (w : Waits) → waits_at slot waits ≡ Some w → (waits ≡ Some w)
    × (slot < w.start)
still slot None w e = absurd (none-some w e)
still slot (Some v) w e =
    elim (cases_lt slot v.start) [
      | inr over ↦
          let gone = ap (λ (b : Bool). cond b (Some v) None) (le-ltb slot v.start over) in
          absurd (none-some w (sym gone ∙ e))
      | inl before ↦
          let kept = ap (λ (b : Bool). cond b (Some v) None) (lt-ltb slot v.start before) in
          let same : Some v ≡ Some w = sym kept ∙ e in
          let is : v ≡ w = cc in
          (same, omega (arith, before, ap (λ (x : Waits). x.start) is))
    ]

Any-kept : (P : Held → Type 0) (p : Held → Bool) (table : List Held) → Any (λ x. P x × (p x ≡ true)) table
    → Any P (filter p table)
Any-kept P p [] found = absurd (omega (arith, found.2))
Any-kept P p (h ∷ table) (zero, x, within, is, holds) =
    let first : p h ≡ true = ap p is ∙ holds.1 in
    let its : P h = subst P (sym is) holds.0 in
    subst (λ (b : Bool). Any P (cond b (h ∷ filter p table) (filter p table))) (sym first)
    (0, h, omega arith, refl, its)
Any-kept P p (h ∷ table) (suc k, x, within, is, holds) =
    let rest = Any-kept P p table (k, x, omega arith, is, holds) in
    elim (cases_Bool (p h)) [
      | inl first ↦ subst (λ (b : Bool). Any P (cond b (h ∷ filter p table) (filter p table))) (sym first)
          (suc rest.0, rest.1, omega (arith, rest.2), rest.3, rest.4)
      | inr fails ↦ subst (λ (b : Bool). Any P (cond b (h ∷ filter p table) (filter p table))) (sym fails) rest
    ]

-- a reservation that has started is at each slot as it was
pub started_at-plain : (slot : ℕ) (h : Held) → h.waits ≡ None → started_at slot h ≡ h
started_at-plain slot h none =
    ap (λ (o : Option Waits). record h { waits = waits_at slot o }) none
    ∙ sym (ap (λ (o : Option Waits). record h { waits = o }) none)

-- a table stays admitted as slots pass
pub IsAdmitted-passed : (slot : ℕ) (table : List Held) → IsAdmitted table → IsAdmitted (passed slot table)
IsAdmitted-passed slot table admitted =
    let p : Held → Bool = λ h. is_before_end slot h.end in
    let f : Held → Held = started_at slot in
    let kept = filter p table in
    record {
      distinct = pairs_map (λ a b. a.entry ≢ b.entry) f kept (AllPairs-filter (λ a b. a.entry ≢ b.entry) p table
          admitted.distinct);
      places = omega (
        arith,
        admitted.places,
        length-map kept f,
        length-filter_both p (λ h. not (p h)) (λ _. refl)
            table,
      );
      loads = omega (arith, admitted.loads, passed_is_held table slot, no_slot_over_now table slot admitted);
      handed = All-map (λ (h : Held). (w : Waits) → h.waits ≡ Some w → Any (HandsOver h.load w) (map f kept)) f kept
          (All-filter p (λ (h : Held). (w : Waits) → waits_at slot h.waits ≡ Some w
          → Any (HandsOver h.load w) (map f kept)) table (λ k d h. λ w e.
          let reservation : Held = get_or table k d in
          let was = still slot reservation.waits w e in
          let found = admitted.handed k d h w was.0 in
          let g : Held = found.1 in
          let over : HandsOver reservation.load w g = found.4 in
          let stays : p g ≡ true = ap (is_before_end slot) over.ends ∙ lt-ltb slot w.start was.1 in
          let P : Held → Type 0 = λ x. HandsOver reservation.load w x in
          Any-map P f kept (Any-kept (λ x. P (f x)) p table (
            found.0,
            g,
            found.2,
            found.3,
            (subst P (sym (started_at-plain slot g over.started)) over, stays),
          ))));
      alone = pairs_map (λ a b. (v w : Waits) → a.waits ≡ Some v → b.waits ≡ Some w → v.behind ≢ w.behind) f kept
          (AllPairs-filter (λ a b. (v w : Waits) → waits_at slot a.waits ≡ Some v → waits_at slot b.waits ≡ Some w
          → v.behind ≢ w.behind) p table (λ i j d before within. λ v w first second. admitted.alone i j d before within
          v w (still slot (get_or table i d).waits v first).0 (still slot (get_or table j d).waits w second).0));
    }

-- so it does where it is written over in its front
pub IsAdmitted-kept : (slot count : ℕ) (table written : List Held) → length written ≡ length table
    → take count written ≡ passed slot table → IsAdmitted table
    → IsAdmitted (take count (refill (length table) table written))
IsAdmitted-kept slot count table written long is h =
    rw (refill-whole table written long, is) (IsAdmitted-passed slot table h)

-- the load that is found for an entry is that of its reservation
pub load_for-is : (entry : ℕ) (table : List Held) (g : Held) → AllPairs (λ a b. a.entry ≢ b.entry) table
    → Contains table g → g.entry ≡ entry → load_for entry table ≡ g.load
load_for-is entry [] g distinct there is = absurd (omega (arith, there.1))
load_for-is entry (h ∷ table) g distinct (zero, within, same) is =
    let named : h.entry ≡ entry = ap (λ (x : Held). x.entry) same ∙ is in
    ap (λ (b : Bool). load_in (cond b (Some h) (find (λ x. x.entry == entry) table))) (eq-eqb h.entry entry named)
    ∙ ap (λ (x : Held). x.load) same
load_for-is entry (h ∷ table) g distinct (suc k, within, same) is =
    let apart : h.entry ≢ entry = λ equal. distinct 0 (suc k) g (omega arith) within
    (equal ∙ sym (ap (λ (x : Held). x.entry) same ∙ is)) in
    let rest = load_for-is entry table g (λ i j d before inside. distinct (suc i) (suc j) d (omega arith)
    (omega arith)) (k, omega arith, same) is in
    ap (λ (b : Bool). load_in (cond b (Some h) (find (λ x. x.entry == entry) table))) (ne_eqb h.entry entry apart)
    ∙ rest

-- what is answered to be admitted has room
decided : (few fits : Bool) (done : Unit {0}) → cond few (cond fits (Ok tt) (Err no_rooms.Load)) (Err no_rooms.Table) ≡
    Ok done → (few ≡ true) × (fits ≡ true)
decided true true done is = (refl, refl)
decided true false done is = absurd (cc)
decided false fits done is = absurd (cc)

-- a load that is taken has a place in the table and room beside the others
pub has_room : (places total load : ℕ) (done : Unit {0}) → room_answer places total load ≡ Ok done → (places < 64)
    × (total + load ≤ SCALE)
has_room places total load done is =
    let both = decided (ltb places 64) (leb (total + load) SCALE) done is in
    (ltb-true places 64 both.0, leb-true (total + load) SCALE both.1)

-- a reservation may wait behind one that has started and ends where it starts, where none waits behind that one
pub place_behind : (behind load start excess : ℕ) (table : List Held) → AllPairs (λ a b. a.entry ≢ b.entry) table
    → Any (λ h. (h.entry ≡ behind) × (h.waits ≡ None) × (h.end ≡ Some start)) table
    → All (λ h. behind_of h ≢ Some behind) table → excess ≡ excess_over behind load table
    → HasPlace load (Some (record { behind = behind; start = start; excess = excess })) table
place_behind behind load start excess table distinct ahead free is =
    let g : Held = ahead.1 in
    let own = load_for-is behind table g distinct (ahead.0, ahead.2, ahead.3) ahead.4.0 in
    let over : HandsOver load (record { behind = behind; start = start; excess = excess }) g = record {
      named = sym ahead.4.0;
      started = ahead.4.1;
      ends = ahead.4.2;
      covered = omega (arith, own, is);
    } in
    ((ahead.0, g, ahead.2, ahead.3, over), free)
