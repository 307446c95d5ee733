-- Accepted messages found by their pair, and stopped.
use Rattle.std.proofs.Common.{◌≡◌, ℕ, suc, ◌<◌, ◌==◌, Bool, true, false, not, Option, Some, None, is_some, ◌||◌, ◌+◌}
use Rattle.std.proofs.Common.{◌*◌, get_or, List, [], ◌∷◌, map, refl, ap, sym, subst, ◌∙◌, inl, inr, arith}
use Rattle.std.specs.List.{All, AllPairs, find}
use Rattle.std.proofs.lemmas.Bool.{cases_Bool, and_parts, eqb-true, eq-eqb, ne_eqb, false≢true}
use Rattle.std.proofs.lemmas.Option.{none-some}
use Rattle.std.specs.Prelude.{nat_lt}
use Rattle.std.proofs.lemmas.List.Elements.{All-head, All-tail}
use Rattle.scheduler.specs.Message.{ScheduledMessage, stopped_if}
use Rattle.bsc_table.specs.Record.{Accepted, stop_after, is_of_pair, is_live}
use Rattle.bsc_table.specs.BookSteps.{stop_numbered}

-- no later message has the pair of an earlier one
abbrev pub OfAnotherPair : Accepted → Accepted → Type 0
OfAnotherPair a b = is_of_pair a.id a.serial b ≡ false

-- numbers rise
abbrev pub BelowIt : Accepted → Accepted → Type 0
BelowIt a b = a.message.entry < b.message.entry

-- a message that is stopped at the slot, if the test says so and it wasn't stopped before
abbrev pub stopped_once : Bool → ℕ → Accepted → Accepted
stopped_once says slot a = record a { message = record (a.message) { stop = stop_after a.message.stop says slot } }

AllPairs-head : {X : Type 0} (R : X → X → Type 0) (x : X) (xs : List X) → AllPairs R (x ∷ xs) → All (R x) xs
AllPairs-head R x xs pairs = λ k d h. pairs 0 (suc k) d (omega arith) (omega arith)

-- what all pairs of a list are, those of its later items are
pub AllPairs-tail : {X : Type 0} (R : X → X → Type 0) (x : X) (xs : List X) → AllPairs R (x ∷ xs) → AllPairs R xs
AllPairs-tail R x xs pairs = λ i j d before within. pairs (suc i) (suc j) d (omega arith) (omega arith)

-- functions that agree at each element of a list
pub map_agree : {X Y : Type 0} (f g : X → Y) (xs : List X) → All (λ x. f x ≡ g x) xs → map f xs ≡ map g xs
map_agree f g [] same = refl
map_agree {X = X} f g (x ∷ xs) same =
    let Same : X → Type 0 = λ y. f y ≡ g y in
    let head = All-head Same x xs same in
    let tail = map_agree f g xs (All-tail Same x xs same) in
    cc

-- what is found passes, and is what all are
pub find_passes : {X : Type 0} (p : X → Bool) (xs : List X) (a : X) → find p xs ≡ Some a → p a ≡ true
find_passes p [] a e = cc
find_passes p (x ∷ xs) a e =
    elim (cases_Bool (p x)) [
      | inl passes ↦ let found = rw passes at e in let here : x ≡ a = cc in subst (λ y. p y ≡ true) here passes
      | inr fails ↦ find_passes p xs a (rw fails at e)
    ]

-- what is true of all is true of what is found
pub All-find : {X : Type 0} (P : X → Type 0) (p : X → Bool) (xs : List X) (a : X) → All P xs → find p xs ≡ Some a → P a
All-find P p [] a all e = absurd (none-some a e)
All-find P p (x ∷ xs) a all e =
    elim (cases_Bool (p x)) [
      | inl passes ↦ let found = rw passes at e in let here : x ≡ a = cc in subst P here (All-head P x xs all)
      | inr fails ↦ All-find P p xs a (All-tail P x xs all) (rw fails at e)
    ]

-- no stop, nothing changed
pub stop_after-false : (stop : Option ℕ) (slot : ℕ) → stop_after stop false slot ≡ stop
stop_after-false None slot = refl
stop_after-false (Some s) slot = refl

-- what isn't said to stop a message doesn't
pub stopped_once-false : (says : Bool) (slot : ℕ) (a : Accepted) → says ≡ false → stopped_once says slot a ≡ a
stopped_once-false says slot a fails =
    let AcceptedMessage : Bool → Type 0 = λ b. stop_after a.message.stop b slot ≡ a.message.stop in
    let same = subst AcceptedMessage (sym fails) (stop_after-false a.message.stop slot) in
    ap (λ (stop : Option ℕ). record a { message = record (a.message) { stop = stop } }) same

stop_numbered-other : (entry slot : ℕ) (a : Accepted) → (a.message.entry ≡ entry → ⊥)
    → stop_numbered entry slot a ≡ a
stop_numbered-other entry slot a other =
    ap (λ (says : Bool). record a { message = stopped_if says slot a.message }) (ne_eqb a.message.entry entry other)

stop_numbered-same : (slot : ℕ) (a : Accepted) → a.message.stop ≡ None
    → stopped_once true slot a ≡ stop_numbered a.message.entry slot a
stop_numbered-same slot a standing =
    let says : (a.message.entry == a.message.entry) ≡ true = eq-eqb a.message.entry a.message.entry refl in
    ap (λ (stop : Option ℕ). record a { message = record (a.message) { stop = stop_after stop true slot } }) standing
    ∙ sym (ap (λ (b : Bool). record a { message = stopped_if b slot a.message }) says)

-- of those after the message of a pair none has that pair
others : (id serial : ℕ) (a : Accepted) → is_of_pair id serial a ≡ true → (b : Accepted) → OfAnotherPair a b
    → is_of_pair id serial b ≡ false
others id serial a mine b other =
    let parts = and_parts (a.id == id) (a.serial == serial) mine in
    let same_id : a.id ≡ id = eqb-true a.id id parts.0 in
    let same_serial : a.serial ≡ serial = eqb-true a.serial serial parts.1 in
    let P : ℕ → ℕ → Type 0 = λ i s. is_of_pair i s b ≡ false in
    subst (λ i. P i serial) same_id (subst (λ s. P a.id s) same_serial other)

-- to stop the message of a pair is to stop that of its number
pub stopped_by_pair : (id serial slot : ℕ) (all : List Accepted) (a : Accepted) → AllPairs OfAnotherPair all
    → AllPairs BelowIt all → find (is_of_pair id serial) all ≡ Some a → a.message.stop ≡ None
    → map (λ x. stopped_once (is_of_pair id serial x) slot x) all ≡ map (stop_numbered a.message.entry slot) all
stopped_by_pair id serial slot [] a once rising e standing = refl
stopped_by_pair id serial slot (x ∷ xs) a once rising e standing =
    let p : Accepted → Bool = is_of_pair id serial in
    let by_pair : Accepted → Accepted = λ y. stopped_once (p y) slot y in
    let by_number : Accepted → Accepted = stop_numbered a.message.entry slot in
    elim (cases_Bool (p x)) [
      | inl passes ↦
          let found = rw passes at e in
          let here : x ≡ a = cc in
          let above = AllPairs-head BelowIt x xs rising in
          let apart = AllPairs-head OfAnotherPair x xs once in
          let rest : map by_pair xs ≡ map by_number xs = map_agree by_pair by_number xs (λ k d h.
          let y : Accepted = get_or xs k d in
          let entry : x.message.entry ≡ a.message.entry = ap (λ (z : Accepted). z.message.entry) here in
          let alone = stopped_once-false (p y) slot y (others id serial x passes y (apart k d h)) in
          let kept = stop_numbered-other a.message.entry slot y (λ same. omega (arith, above k d h)) in
          alone ∙ sym kept) in
          let first : by_pair x ≡ by_number x =
          ap (λ (b : Bool). stopped_once b slot x) passes ∙ (let P : Accepted
          → Type 0 = λ y. stopped_once true slot y ≡ by_number y in subst P (sym here)
          (stop_numbered-same slot a standing)) in
          cc
      | inr fails ↦
          let found : find p xs ≡ Some a = rw fails at e in
          let above : x.message.entry < a.message.entry = All-find (BelowIt x) p xs a
          (AllPairs-head BelowIt x xs rising) found in
          let rest = stopped_by_pair id serial slot xs a (AllPairs-tail OfAnotherPair x xs once)
          (AllPairs-tail BelowIt x xs rising) found standing in
          let first : by_pair x ≡ by_number x = stopped_once-false (p x) slot x fails
          ∙ sym (stop_numbered-other a.message.entry slot x (λ same. omega arith)) in
          cc
    ]

-- a live message wasn't stopped
standing_of : (stop : Option ℕ) → not (is_some stop) ≡ true → stop ≡ None
standing_of None h = refl
standing_of (Some s) h = absurd (false≢true h)

-- a live message has no stop
pub live_is_standing : (slot : ℕ) (m : ScheduledMessage) → is_live slot m ≡ true → m.stop ≡ None
live_is_standing slot m live =
    let parts = and_parts (not (is_some m.stop)) ((m.broadcasts == 0) || nat_lt slot
    (m.start + m.broadcasts * m.period))
    live in
    standing_of m.stop parts.0
