-- Of a legal history: each pair was accepted once, each message has pages and a period, and the claims are in order and
-- fit.
use Rattle.std.proofs.Common.{◌≡◌, ℕ, zero, suc, ◌+◌, ◌≤◌, ◌<◌, ◌==◌, Bool, true, false, ◌&&◌, Option, Some, None, List}
use Rattle.std.proofs.Common.{[], ◌∷◌, ◌++◌, length, take, map, get_or, refl, ap, sym, subst, ◌∙◌, inl, inr, arith}
use Rattle.std.specs.List.{All, AllPairs, Contains, find}
use Rattle.std.specs.Option.{IfSome}
use Rattle.std.proofs.lemmas.Bool.{cases_Bool, cases_eq, eq-eqb, ne_eqb}
use Rattle.std.proofs.lemmas.Option.{none-some}
use Rattle.std.proofs.Math.Seq.{take-suc}
use Rattle.std.proofs.lemmas.List.{get_or_default, take_all, length-take-le, get_or-take}
use Rattle.std.proofs.lemmas.List.Elements.{All-nil, All-cons, All-push, All-map, All-filter, All-weaker, All-take}
use Rattle.std.proofs.lemmas.List.Quantifiers.{all_pairs_push}
use Rattle.scheduler.specs.Air.{layer}
use Rattle.admission.specs.declared.measure.TheConstants.{SCALE}
use Rattle.bsc_table.specs.declared.entry.Answer.{Answer}
use Rattle.bsc_table.specs.declared.entry.Entry.{Entry}
use Rattle.bsc_table.specs.Record.{Record, Accepted, accepted_in, is_of_pair, is_live, claim_of, claims_of, claims_in}
use Rattle.bsc_table.specs.Claim.{Claim, own_load, reserves, claimed_at}
use Rattle.bsc_table.specs.Handover.{handover}
use Rattle.bsc_table.specs.Room.{AreInOrder, ClaimsFit, IsNew}
use Rattle.bsc_table.specs.Legal.{IsLegal}
use Rattle.bsc_table.specs.Begun.{StartsNow, TakesOver, IsBegun}
use Rattle.bsc_table.specs.BookSteps.{stop_numbered}
use Rattle.bsc_table.proofs.History.Pairs.{OfAnotherPair, BelowIt}
use Rattle.bsc_table.proofs.History.EntryNumbers.{AllPairs-map, numbers_below}
use Rattle.bsc_table.proofs.Room.StoppedClaims.{in_order-later}
use Rattle.bsc_table.proofs.Room.StopKeepsRoom.{stop_keeps_room}
use Rattle.bsc_table.proofs.Room.AddedClaims.{start_keeps_room}
use Rattle.bsc_table.proofs.Room.TakeoverKeepsRoom.{takeover_keeps_room}
use Rattle.bsc_table.proofs.History.Ranks.{all_claims, its_claim, same_claim, claims_more_front, claims_more_back}
use Rattle.bsc_table.proofs.History.NextEntry.{Outcome, entry_with, with, without, outcome_of, claims_stopped}

-- the message has a page and a period
abbrev pub HasLoad : Accepted → Type 0
HasLoad a = (0 < a.message.pages) × (0 < a.message.period)

-- what is true of the accepted messages of a log, up to a slot
pub record IsSound (all : List Accepted) (slot : ℕ) : Type 0 where
  pub rising : AllPairs BelowIt all
  pub once : AllPairs OfAnotherPair all
  pub loaded : All HasLoad all
  pub order : AreInOrder (claims_of all) slot
  pub fit : ClaimsFit (claims_of all)

-- claims in order that fit
abbrev HasRoom : ℕ → List Claim → Type 0
HasRoom slot claims = AreInOrder claims slot × ClaimsFit claims

-- each claim of a live message is live, if it claims anything
pub stops_live : (all : List Accepted) (slot : ℕ) (a : Accepted)
    → AllPairs BelowIt all
    → Contains all a
    → is_live slot a.message ≡ true
    → All (λ c. c.message.entry ≡ a.message.entry → is_live slot c.message ≡ true) (claims_of all)
stops_live all slot a rising here live = λ k d within. λ same.
    let Live : Claim → Type 0 = λ c. is_live slot c.message ≡ true in
    subst Live (sym (same_claim all a rising here k d within same)) live

-- the claims stay so where a live message is stopped
room_without : (stopped : Option Accepted) (slot : ℕ) (all : List Accepted)
    → IfSome stopped (λ a. Contains all a × (is_live slot a.message ≡ true))
    → AllPairs BelowIt all
    → HasRoom slot (claims_of all)
    → HasRoom slot (claims_of (without stopped slot all))
room_without None slot all live rising room = room
room_without (Some a) slot all live rising room =
    let lives = stops_live all slot a rising live.0 live.1 in
    subst (HasRoom slot) (sym (claims_stopped a.message.entry slot all))
    (stop_keeps_room (claims_of all) a.message.entry slot room.0 lives room.1)

-- stopping a message changes neither pairs nor starts
without_sound : (stopped : Option Accepted) (slot : ℕ) (all : List Accepted)
    → IfSome stopped (λ a. Contains all a × (is_live slot a.message ≡ true))
    → IsSound all slot
    → IsSound (without stopped slot all) slot
without_sound None slot all live sound = sound
without_sound (Some a) slot all live sound =
    let room = room_without (Some a) slot all live sound.rising (sound.order, sound.fit) in
    record {
      rising = AllPairs-map BelowIt (stop_numbered a.message.entry slot) (λ x y below. below) all sound.rising;
      once = AllPairs-map OfAnotherPair (stop_numbered a.message.entry slot) (λ x y apart. apart) all sound.once;
      loaded = All-map HasLoad (stop_numbered a.message.entry slot) all sound.loaded;
      order = room.0;
      fit = room.1;
    }

-- where no message has the pair, each has another one
same_test : (a b : ℕ) → (a == b) ≡ (b == a)
same_test a b =
    elim (cases_eq a b) [
      | inl same ↦ eq-eqb a b same ∙ sym (eq-eqb b a (sym same))
      | inr apart ↦ ne_eqb a b apart ∙ sym (ne_eqb b a (λ same. apart (sym same)))
    ]

not_found : (p : Accepted → Bool) (all : List Accepted) → find p all ≡ None → All (λ a. p a ≡ false) all
not_found p [] none = All-nil (λ (a : Accepted). p a ≡ false)
not_found p (a ∷ all) none =
    elim (cases_Bool (p a)) [
      | inl passes ↦ let found = rw passes at none in absurd (none-some a (sym found))
      | inr fails ↦ All-cons (λ (x : Accepted). p x ≡ false) a all fails (not_found p all (rw fails at none))
    ]

others_are_apart : (new : Accepted) (all : List Accepted)
    → find (is_of_pair new.id new.serial) all ≡ None
    → All (λ a. OfAnotherPair a new) all
others_are_apart new all none =
    All-weaker (λ (a : Accepted). is_of_pair new.id new.serial a ≡ false) (λ (a : Accepted). OfAnotherPair a new)
    (λ a apart.
    let turned : is_of_pair a.id a.serial new ≡ is_of_pair new.id new.serial a =
    ap (λ (b : Bool). b && (new.serial == a.serial)) (same_test new.id a.id)
    ∙ ap (λ (b : Bool). (a.id == new.id) && b) (same_test new.serial a.serial) in
    turned ∙ apart) all (not_found (is_of_pair new.id new.serial) all none)

-- pairs stay as they are where a message is stopped
find_without : (stopped : Option Accepted) (at id serial : ℕ) (all : List Accepted)
    → find (is_of_pair id serial) all ≡ None
    → find (is_of_pair id serial) (without stopped at all) ≡ None
find_without None at id serial all none = none
find_without (Some a) at id serial all none = stays all none
  where
    stays : (xs : List Accepted) → find (is_of_pair id serial) xs ≡ None
        → find (is_of_pair id serial) (map (stop_numbered a.message.entry at) xs) ≡ None
    stays [] e = refl
    stays (x ∷ xs) e =
        elim (cases_Bool (is_of_pair id serial x)) [
          | inl passes ↦ let found = rw passes at e in absurd (none-some x (sym found))
          | inr fails ↦ rw fails (stays xs (rw fails at e))
        ]

-- the message that is added is new among the claims
is_new : (entry slot : ℕ) (replaced : Option Accepted) (before : List Accepted) (new : Accepted)
    → All (λ a. a.message.entry < entry) before
    → IsBegun entry slot replaced before new
    → IsNew (claims_of before) slot (claim_of new)
is_new entry slot replaced before new below begun = record {
  accepted = begun.accepted;
  greatest = All-filter reserves (λ (c : Claim). c.message.entry < new.message.entry) (all_claims before)
      (All-map (λ (c : Claim). c.message.entry < new.message.entry) claim_of before
      (All-weaker (λ (a : Accepted). a.message.entry < entry)
      (λ (a : Accepted). a.message.entry < new.message.entry) (λ a h. omega (arith, h, begun.numbered)) before
      below));
  period = begun.some_period;
  standing = begun.standing;
}

-- the claims stay so where it starts at once
room_now : (slot : ℕ) (before : List Accepted) (new : Accepted)
    → IsNew (claims_of before) slot (claim_of new)
    → StartsNow slot before new
    → HasRoom slot (claims_of before)
    → HasRoom slot (claims_of (before ++ new ∷ []))
room_now slot before new is now room =
    elim (cases_eq (layer new.message) 0) [
      | inl front ↦ subst (HasRoom slot) (sym (claims_more_front before new front))
          (start_keeps_room (claims_of before) slot (claim_of new) room.0 room.1 is now.start (now.fits front))
      | inr back ↦ subst (HasRoom slot) (sym (claims_more_back before new back)) room
    ]

-- and where it takes over
room_over : (slot : ℕ) (all : List Accepted) (old new : Accepted)
    → Contains all old × (is_live slot old.message ≡ true)
    → IsNew (claims_of (map (stop_numbered old.message.entry slot) all)) slot (claim_of new)
    → TakesOver slot old (map (stop_numbered old.message.entry slot) all) new
    → HasRoom slot (claims_of all)
    → HasRoom slot (claims_of (map (stop_numbered old.message.entry slot) all ++ new ∷ []))
room_over slot all old new live is over room =
    let entry = old.message.entry in
    let before = map (stop_numbered entry slot) all in
    let same = claims_stopped entry slot all in
    let New : List Claim → Type 0 = λ claims. IsNew claims slot (claim_of new) in
    let Over : List Claim → Type 0 = λ claims. handover claims slot (claim_of old) (own_load new.message) ≡ Some
    over.place in
    let Fits : List Claim → Type 0 = λ claims. claimed_at claims slot + over.place.excess ≤ SCALE in
    let Room : List Claim → Type 0 = λ claims. HasRoom slot (claims ++ claim_of new ∷ []) in
    let kept = takeover_keeps_room (claims_of all) slot (claim_of old) (claim_of new) over.place room.0 room.1
    (its_claim all old live.0 over.of_reserved) live.1 (subst Over same over.over) (subst New same is) over.placed
    (subst Fits same over.fits) in
    subst (HasRoom slot) (sym (claims_more_front before new over.reserved)) (subst Room (sym same) kept)

room_with : (entry slot : ℕ) (replaced : Option Accepted) (all : List Accepted) (new : Accepted)
    → All (λ a. a.message.entry < entry) (without replaced slot all)
    → IfSome replaced (λ a. Contains all a × (is_live slot a.message ≡ true))
    → IsBegun entry slot replaced (without replaced slot all) new
    → HasRoom slot (claims_of all)
    → HasRoom slot (claims_of (without replaced slot all))
    → HasRoom slot (claims_of (without replaced slot all ++ new ∷ []))
room_with entry slot None all new below live begun room left =
    room_now slot all new (is_new entry slot None all new below begun) begun.starts left
room_with entry slot (Some old) all new below live begun room left =
    let before = map (stop_numbered old.message.entry slot) all in
    let is = is_new entry slot (Some old) before new below begun in
    elim begun.starts [
      | inl now ↦ room_now slot before new is now left
      | inr over ↦ room_over slot all old new live is over room
    ]

with_sound : (started replaced : Option Accepted) (entry slot : ℕ) (all : List Accepted)
    → All (λ a. a.message.entry < entry) (without replaced slot all)
    → IfSome replaced (λ a. Contains all a × (is_live slot a.message ≡ true))
    → IfSome started (λ a. find (is_of_pair a.id a.serial) (without replaced slot all) ≡ None)
    → IfSome started (λ a. IsBegun entry slot replaced (without replaced slot all) a)
    → IsSound all slot
    → IsSound (without replaced slot all) slot
    → IsSound (with started (without replaced slot all)) slot
with_sound None replaced entry slot all below live fresh begun sound left = left
with_sound (Some new) replaced entry slot all below live fresh begun sound left =
    let before = without replaced slot all in
    let room = room_with entry slot replaced all new below live begun (sound.order, sound.fit) (left.order, left.fit)
    in
    record {
      rising = all_pairs_push BelowIt before new left.rising (λ k d h. omega (arith, below k d h, begun.numbered));
      once = all_pairs_push OfAnotherPair before new left.once (others_are_apart new before fresh);
      loaded = All-push HasLoad before new left.loaded (begun.some_pages, begun.some_period);
      order = room.0;
      fit = room.1;
    }

below_without : (stopped : Option Accepted) (entry slot : ℕ) (all : List Accepted)
    → All (λ a. a.message.entry < entry) all
    → All (λ a. a.message.entry < entry) (without stopped slot all)
below_without None entry slot all below = below
below_without (Some a) entry slot all below =
    All-map (λ (x : Accepted). x.message.entry < entry) (stop_numbered a.message.entry slot) all below

fresh_without : (started stopped : Option Accepted) (at : ℕ) (all : List Accepted)
    → IfSome started (λ a. find (is_of_pair a.id a.serial) all ≡ None)
    → IfSome started (λ a. find (is_of_pair a.id a.serial) (without stopped at all) ≡ None)
fresh_without None stopped at all fresh = tt
fresh_without (Some new) stopped at all fresh = find_without stopped at new.id new.serial all fresh

-- they stay so with one more entry
pub IsSound-push : (log : List Entry) (e : Entry)
    → Outcome log e
    → IsSound (accepted_in log) e.slot
    → IsSound (accepted_in (log ++ e ∷ [])) e.slot
IsSound-push log e outcome sound =
    let all = accepted_in log in
    let below = below_without outcome.stopped (length log) e.slot all (numbers_below log) in
    let fresh = fresh_without outcome.started outcome.stopped e.slot all outcome.fresh in
    let left = without_sound outcome.stopped e.slot all outcome.live sound in
    let Sound : List Accepted → Type 0 = λ l. IsSound l e.slot in
    subst Sound (sym outcome.after) (with_sound outcome.started outcome.stopped (length log) e.slot all below
    outcome.live fresh outcome.begun sound left)

IsSound-later : (all : List Accepted) (slot later : ℕ) → slot ≤ later → IsSound all slot → IsSound all later
IsSound-later all slot later after sound = record {
  rising = sound.rising;
  once = sound.once;
  loaded = sound.loaded;
  order = in_order-later (claims_of all) slot later after sound.order;
  fit = sound.fit;
}

-- an entry of a legal history and those before it
pub outcome_at : (r : Record)
    → IsLegal r
    → (k : ℕ) (d : Entry)
    → k < length r.log
    → AllPairs OfAnotherPair (accepted_in (take k r.log))
    → AreInOrder (claims_in (take k r.log)) (get_or r.log k d).slot
    → Outcome (take k r.log) (get_or r.log k d)
outcome_at r legal k d within once order =
    let e : Entry = get_or r.log k d in
    let P : Answer → Type 0 = λ answer. Outcome (take k r.log) (entry_with e.command e.slot answer) in
    subst P (sym (legal.answered k d within)) (outcome_of r.slots (take k r.log) (take e.slot r.air) e.slot e.command
    once order (legal.formed k d within))

-- an entry of a log that has one
pub some_entry : (log : List Entry) → 0 < length log → Entry
some_entry [] some = absurd (omega arith)
some_entry (e ∷ log) some = e

-- the entries before it have no later slots
pub slots_before : (r : Record)
    → IsLegal r
    → (k : ℕ) (d : Entry)
    → k < length r.log
    → All (λ e. e.slot ≤ (get_or r.log k d).slot) (take k r.log)
slots_before r legal k d within = λ i x h.
    let short = length-take-le k r.log (omega arith) in
    let same = get_or-take k r.log i x (omega arith) in
    let rises = legal.rising i k x (omega arith) within in
    let here : get_or r.log k x ≡ get_or r.log k d = get_or_default r.log k x d within in
    omega (arith, ap (λ (e : Entry). e.slot) same, ap (λ (e : Entry). e.slot) here, rises)

empty_order : (slot : ℕ) → AreInOrder [] slot
empty_order slot = record {
  rising = λ i j d b w. absurd (omega arith);
  accepted = λ k d h. absurd (omega arith);
  forward = λ k d h. absurd (omega arith);
  periods = λ k d h. absurd (omega arith);
  handed = λ k d h. absurd (omega arith);
  alone = λ i j d b w. absurd (omega arith);
}

-- the front of a legal log is sound at the slot of its last entry
pub sound_at : (r : Record)
    → IsLegal r
    → (k slot : ℕ)
    → k ≤ length r.log
    → All (λ e. e.slot ≤ slot) (take k r.log)
    → IsSound (accepted_in (take k r.log)) slot
sound_at r legal zero slot within before = record {
  rising = λ i j d b w. absurd (omega arith);
  once = λ i j d b w.
      absurd (omega arith);
  loaded = All-nil HasLoad;
  order = empty_order slot;
  fit = λ t. omega arith;
}
sound_at r legal (suc k) slot within before =
    let d : Entry = some_entry r.log (omega arith) in
    let e : Entry = get_or r.log k d in
    let grown : take (suc k) r.log ≡ take k r.log ++ e ∷ [] = take-suc r.log k d (omega arith) in
    let sound = sound_at r legal k e.slot (omega arith) (slots_before r legal k d (omega arith)) in
    let outcome = outcome_at r legal k d (omega arith) sound.once sound.order in
    let Sound : List Entry → Type 0 = λ log. IsSound (accepted_in log) slot in
    let last : get_or (take (suc k) r.log) k d ≡ e = get_or-take (suc k) r.log k d (omega arith) in
    let at_e : e.slot ≤ slot =
    omega (arith, ap (λ (y : Entry). y.slot) last, before k d (omega (arith, length-take-le (suc k) r.log within))) in
    subst Sound (sym grown) (IsSound-later (accepted_in (take k r.log ++ e ∷ [])) e.slot slot at_e
    (IsSound-push (take k r.log) e outcome sound))

-- of the whole history, at the clock
pub IsSound-legal : (r : Record) → IsLegal r → IsSound (accepted_in r.log) r.clock
IsSound-legal r legal =
    let all : take (length r.log) r.log ≡ r.log = take_all (length r.log) r.log (omega arith) in
    let Sound : List Entry → Type 0 = λ log. IsSound (accepted_in log) r.clock in
    subst Sound all (sound_at r legal (length r.log) r.clock (omega arith)
    (All-take (λ (e : Entry). e.slot ≤ r.clock) (length r.log) r.log legal.known))
