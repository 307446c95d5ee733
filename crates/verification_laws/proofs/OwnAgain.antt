-- In a cell's own tape no page comes again in the time of a broadcast: its pages come in order, each once.
use Rattle.std.proofs.Common.{◌≡◌, ℕ, zero, suc, ◌+◌, ◌-◌, ◌<◌, ◌≤◌, Bool, true, false, cond, Option, Some, None}
use Rattle.std.proofs.Common.{List, [], ◌∷◌, ◌++◌, length, map, filter, get_or, refl, sym, ap, subst, ◌∙◌, arith}
use Rattle.std.proofs.Common.{leb-true}
use Rattle.std.proofs.Common.{ltb-true}
use Rattle.std.specs.Prelude.{⊤, ◌&&◌, ◌||◌, ◌==◌, not, nat_le, nat_lt, if◌then◌else◌}
use Rattle.std.specs.List.{AllByRecursion, Contains, list_any, range_with_len}
use Rattle.std.specs.Option.{option_to_list}
use Rattle.std.proofs.lemmas.Bool.{and_parts, eq-eqb, eqb-true}
use Rattle.std.proofs.lemmas.Bool.Decides.{nat_tests}
use Rattle.cbs_page.specs.declared.octets.PageView.{PageView}
use Rattle.scheduler.specs.Air.{Air, IsPending, airs, next_page, pages_aired}
use Rattle.scheduler.specs.Message.{ScheduledMessage, release}
use Rattle.scheduler.proofs.Air.{broadcast_at-only}
use Rattle.scheduler.proofs.Rule.{pages_aired-more}
use Rattle.bsc_table.specs.Legal.{IsLegal}
use Rattle.bsc_table.specs.Record.{Record, Accepted, accepted_in, messages_in}
use Rattle.cbch_blocks.specs.RecordBlocks.{page_aired}
use Rattle.composition.proofs.Aired.{AreSound, same_pair}
use Rattle.composition.proofs.Composed.{message_there, messages_rise}
use Rattle.composition.proofs.Laws.{Laws}
use Rattle.verification.specs.declared.difference.Kind.TheVariants as kinds
use Rattle.verification.specs.declared.judged.JudgedPage.{JudgedPage}
use Rattle.verification.specs.declared.sent.SentPage.{SentPage}
use Rattle.verification.specs.Asked.{AskedMessage, is_page_of}
use Rattle.verification.specs.Difference.{again_after, again_difference, again_differences, difference_of}
use Rattle.verification.specs.Difference.{due_slot, is_in_time, is_past_stop, is_requested, is_same_right, release_slot}
use Rattle.verification.specs.Judged.{judged, judged_in}
use Rattle.verification_laws.proofs.AskedOf.{IsComing}
use Rattle.verification_laws.proofs.OwedPages.{due-is, release-is, sent_by_air}
use Rattle.verification_laws.proofs.RightPages.{flat_map-none}
use Rattle.verification_laws.proofs.Slots.{IsOwn, in_slots}

-- pages that never come again: each has a greater number than those before it
abbrev Above : JudgedPage → List JudgedPage → Type 0
Above q before = AllByRecursion (λ (p : JudgedPage). p.number < q.number) before

abbrev Rises : List JudgedPage → Type 0
Rises [] = ⊤
Rises (p ∷ pages) = AllByRecursion (λ (q : JudgedPage). p.number < q.number) pages × Rises pages

other-number : (p q : ℕ) → p < q → (p == q) ≡ false
other-number p q less = grind (arith, nat_tests)

none-same : (q : JudgedPage) (before : List JudgedPage) → Above q before →
    list_any (is_same_right q.number) before ≡ false
none-same q [] all = refl
none-same q (p ∷ before) all =
    ap (λ (same : Bool). (same && p.right) || list_any (is_same_right q.number) before)
    (other-number p.number q.number all.0)
    ∙ none-same q before all.1

none-again : (right past : Bool) (same : Bool) → same ≡ false → (right && (not past && same)) ≡ false
none-again true true same is = refl
none-again true false same is = is
none-again false past same is = refl

last-above : (x q : JudgedPage) (before : List JudgedPage) → Above x before → q.number < x.number →
    Above x (before ++ q ∷ [])
last-above x q [] all less = (less, tt)
last-above x q (p ∷ before) all less = (all.0, last-above x q before all.1 less)

all-above : (q : JudgedPage) (before pages : List JudgedPage) → AllByRecursion (λ x. Above x before) pages →
    AllByRecursion (λ (x : JudgedPage). q.number < x.number) pages →
    AllByRecursion (λ x. Above x (before ++ q ∷ [])) pages
all-above q before [] above less = tt
all-above q before (x ∷ pages) above less =
    (last-above x q before above.0 less.0, all-above q before pages above.1 less.1)

no-again : (stop : Option ℕ) (before pages : List JudgedPage) → AllByRecursion (λ x. Above x before) pages →
    Rises pages → again_after stop before pages ≡ None
no-again stop before [] above rises = refl
no-again stop before (q ∷ pages) above rises =
    ap (λ (again : Bool). cond again (Some q.slot) (again_after stop (before ++ q ∷ []) pages))
    (none-again q.right (is_past_stop stop q.slot) (list_any (is_same_right q.number) before)
    (none-same q before above.0))
    ∙ no-again stop (before ++ q ∷ []) pages (all-above q before pages above.1 rises.0) rises.1

over-none : (pages : List JudgedPage) → AllByRecursion (λ x. Above x []) pages
over-none [] = tt
over-none (x ∷ pages) = (tt, over-none pages)

-- the filter of judged pages, one by one
kept-is : (test : JudgedPage → Bool) (a : AskedMessage) (s : SentPage) (sent : List SentPage) →
    filter test (judged_in a (s ∷ sent))
    ≡ cond (is_page_of a s.page) (cond (test (judged a s)) (judged a s ∷ filter test (judged_in a sent))
    (filter test (judged_in a sent))) (filter test (judged_in a sent))
kept-is test a s sent = either (is_page_of a s.page)
  where
    either : (own : Bool) →
        filter test (map (judged a) (cond own (s ∷ filter (λ x. is_page_of a x.page) sent)
        (filter (λ x. is_page_of a x.page) sent)))
        ≡ cond own (cond (test (judged a s)) (judged a s ∷ filter test (judged_in a sent))
        (filter test (judged_in a sent))) (filter test (judged_in a sent))
    either true = refl
    either false = refl

-- of pages that were sent, those of a message that pass a test
kept : (P : JudgedPage → Type 0) (test : JudgedPage → Bool) (a : AskedMessage) (Q : SentPage → Type 0)
    (sent : List SentPage) →
    ((s : SentPage) → Q s → is_page_of a s.page ≡ true → test (judged a s) ≡ true → P (judged a s)) →
    AllByRecursion Q sent → AllByRecursion P (filter test (judged_in a sent))
kept P test a Q [] holds all = tt
kept P test a Q (s ∷ sent) holds all =
    subst (AllByRecursion P) (sym (kept-is test a s sent))
    (here (is_page_of a s.page) (test (judged a s)) (holds s all.0) (kept P test a Q sent holds all.1))
  where
    here : (own passes : Bool) → (own ≡ true → passes ≡ true → P (judged a s)) →
        AllByRecursion P (filter test (judged_in a sent)) →
        AllByRecursion P (cond own (cond passes (judged a s ∷ filter test (judged_in a sent))
        (filter test (judged_in a sent))) (filter test (judged_in a sent)))
    here true true first rest = (first refl refl, rest)
    here true false first rest = rest
    here false passes first rest = rest

-- pages whose slots rise, so that of those that are kept the numbers rise
abbrev Later : SentPage → List SentPage → Type 0
Later s sent = AllByRecursion (λ (t : SentPage). s.slot < t.slot) sent

abbrev InTurn : List SentPage → Type 0
InTurn [] = ⊤
InTurn (s ∷ sent) = Later s sent × InTurn sent

-- what is so of the pages in front of all of these
with-slots : (Q : SentPage → Type 0) (s : SentPage) (sent : List SentPage) → Later s sent → AllByRecursion Q sent →
    AllByRecursion (λ t. (s.slot < t.slot) × Q t) sent
with-slots Q s [] later all = tt
with-slots Q s (t ∷ sent) later all = ((later.0, all.0), with-slots Q s sent later.1 all.1)

abbrev NumbersRise : (Q : SentPage → Type 0) → (test : JudgedPage → Bool) → AskedMessage → Type 0
NumbersRise Q test a = (s t : SentPage) → Q s → Q t → s.slot < t.slot → is_page_of a s.page ≡ true →
    is_page_of a t.page ≡ true → test (judged a s) ≡ true → test (judged a t) ≡ true → s.page.number < t.page.number

rises-here : (own passes : Bool) (p : JudgedPage) (rest : List JudgedPage) → (own ≡ true → passes ≡ true →
    AllByRecursion (λ (q : JudgedPage). p.number < q.number) rest) → Rises rest →
    Rises (cond own (cond passes (p ∷ rest) rest) rest)
rises-here true true p rest first more = (first refl refl, more)
rises-here true false p rest first more = more
rises-here false passes p rest first more = more

kept-rise : (Q : SentPage → Type 0) (test : JudgedPage → Bool) (a : AskedMessage) (sent : List SentPage) →
    NumbersRise Q test a → InTurn sent → AllByRecursion Q sent → Rises (filter test (judged_in a sent))
kept-rise Q test a [] numbers turn all = tt
kept-rise Q test a (s ∷ sent) numbers turn all =
    subst Rises (sym (kept-is test a s sent))
    (rises-here (is_page_of a s.page) (test (judged a s)) (judged a s) (filter test (judged_in a sent))
    (λ own passes. kept (λ (q : JudgedPage). s.page.number < q.number) test a (λ t. (s.slot < t.slot) × Q t) sent
    (λ t of also last. numbers s t all.0 of.1 of.0 own also passes last)
    (with-slots Q s sent turn.0 all.1))
    (kept-rise Q test a sent numbers turn.1 all.1))

-- the pages of slots come in turn
from-slot : (n m : ℕ) (slots : List (Option PageView)) → n < m → AllByRecursion (λ (t : SentPage). n < t.slot)
    (in_slots m slots)
from-slot n m [] less = tt
from-slot n m (None ∷ slots) less = from-slot n (m + 1) slots (omega (arith, less))
from-slot n m (Some page ∷ slots) less = (less, from-slot n (m + 1) slots (omega (arith, less)))

in-turn : (n : ℕ) (slots : List (Option PageView)) → InTurn (in_slots n slots)
in-turn n [] = tt
in-turn n (None ∷ slots) = in-turn (n + 1) slots
in-turn n (Some page ∷ slots) = (from-slot n (n + 1) slots (omega arith), in-turn (n + 1) slots)

-- more slots air no fewer pages
more-aired : (entry : ℕ) (air : Air) (from to k : ℕ) → from ≤ to → to + k ≤ length air →
    pages_aired entry air from to ≤ pages_aired entry air from (to + k)
more-aired entry air from to zero after within =
    let e : to + 0 ≡ to = omega arith in
    let same = ap (λ at. pages_aired entry air from at) e in
    omega (arith, same)
more-aired entry air from to (suc k) after within =
    let e : to + suc k ≡ to + k + 1 = omega arith in
    let same = ap (λ at. pages_aired entry air from at) e in
    let more = pages_aired-more entry air from (to + k) (omega arith) (omega (arith, within)) in
    let before = more-aired entry air from to k after (omega (arith, within)) in
    omega (arith, same, more, before)

one-more : (b : Bool) → b ≡ true → 0 < cond b 1 0
one-more true is = omega arith
one-more false is = cc

aired-between : (entry : ℕ) (air : Air) (from one other : ℕ) → from ≤ one → one < other → other ≤ length air →
    airs entry (get_or air one None) ≡ true →
    pages_aired entry air from one < pages_aired entry air from other
aired-between entry air from one other after less within used =
    let here = pages_aired-more entry air from one after (omega (arith, less, within)) in
    let counts : 0 < cond (airs entry (get_or air one None)) 1 0 = one-more (airs entry (get_or air one None)) used in
    let k : ℕ = other - (one + 1) in
    let e : one + 1 + k ≡ other = omega (arith, less) in
    let more = more-aired entry air from (one + 1) k (omega (arith, after)) (omega (arith, e, within)) in
    let same = ap (λ at. pages_aired entry air from at) e in
    omega (arith, here, counts, more, same)

-- an own page of a message: the broadcast in whose time it was aired, and its number
record IsTurn (air : Air) (m : ScheduledMessage) (s : SentPage) : Type 0 where
  within : s.slot < length air
  used : airs m.entry (get_or air s.slot None) ≡ true
  broadcast : ℕ
  pending : IsPending m broadcast air s.slot
  number : s.page.number ≡ pages_aired m.entry air (release m broadcast) s.slot + 1

some-is : {X : Type 0} (x y : X) (o : Option X) → o ≡ Some x → o ≡ Some y → x ≡ y
some-is x y o one other = cc

turn-of : (laws : Laws) (r : Record) → IsLegal r → AreSound r.log → (a : AskedMessage) (b : Accepted) →
    Contains (accepted_in r.log) b → IsComing r.log [] a b → (s : SentPage) → IsOwn r.log r.air s →
    is_page_of a s.page ≡ true → IsTurn r.air b.message s
turn-of laws r legal sound a b there same s own named =
    let parts = and_parts (s.page.id == a.id) (s.page.serial == a.serial) named in
    let id : own.how.of.id ≡ b.id =
    sym own.how.id_is ∙ ap (λ (p : PageView). p.id) own.page_is ∙ eqb-true s.page.id a.id parts.0 ∙ same.id_is in
    let serial : own.how.of.serial ≡ b.serial =
    sym own.how.serial_is ∙ ap (λ (p : PageView). p.serial) own.page_is
    ∙ eqb-true s.page.serial a.serial parts.1 ∙ same.serial_is in
    let is : b ≡ own.how.of = same_pair r.log b own.how.of sound there own.how.there id serial in
    let entry : own.used.0 ≡ b.message.entry =
    sym own.how.number_is ∙ ap (λ (x : Accepted). x.message.entry) (sym is) in
    let airs_it : airs b.message.entry (get_or r.air s.slot None) ≡ true =
    ap (airs b.message.entry) own.in_air ∙ eq-eqb own.used.0 b.message.entry entry in
    let pending = laws.in_order (messages_in r.log) r.air s.slot b.message (messages_rise laws r.log)
    (message_there r.log b there) legal.aired own.within airs_it in
    let used_is : own.used ≡ next_page b.message pending.0 r.air s.slot =
    some-is own.used (next_page b.message pending.0 r.air s.slot) (get_or r.air s.slot None) own.in_air pending.2 in
    record {
      within = own.within;
      used = airs_it;
      broadcast = pending.0;
      pending = pending.1;
      number = ap (λ (p : PageView). p.number) (sym own.page_is) ∙ own.how.numbered
          ∙ ap (λ (u : ℕ × ℕ). u.1) used_is;
    }

-- of two own pages in the time of one broadcast the later one has the greater number
turns-rise : (laws : Laws) (r : Record) → IsLegal r → AreSound r.log → (a : AskedMessage) (b : Accepted) →
    Contains (accepted_in r.log) b → IsComing r.log [] a b → (j : ℕ) →
    NumbersRise (IsOwn r.log r.air) (is_in_time a j) a
turns-rise laws r legal sound a b there same j = λ s t own also less of_s of_t in_s in_t.
    let m : ScheduledMessage = b.message in
    let one = turn-of laws r legal sound a b there same s own of_s in
    let other = turn-of laws r legal sound a b there same t also of_t in
    let first : one.broadcast ≡ j = its-broadcast s one in_s in
    let second : other.broadcast ≡ j = its-broadcast t other in_t in
    let low : s.page.number ≡ pages_aired m.entry r.air (release m j) s.slot + 1 =
    one.number ∙ ap (λ i. pages_aired m.entry r.air (release m i) s.slot + 1) first in
    let high : t.page.number ≡ pages_aired m.entry r.air (release m j) t.slot + 1 =
    other.number ∙ ap (λ i. pages_aired m.entry r.air (release m i) t.slot + 1) second in
    let released : release m j ≤ s.slot = subst (λ i. release m i ≤ s.slot) first one.pending.released in
    let within = other.within in
    let between = aired-between m.entry r.air (release m j) s.slot t.slot released less (omega (arith, within)) one.used
    in
    omega (arith, low, high, between)
  where
    its-broadcast : (x : SentPage) (turn : IsTurn r.air b.message x) → is_in_time a j (judged a x) ≡ true →
        turn.broadcast ≡ j
    its-broadcast x turn in_time =
        let m : ScheduledMessage = b.message in
        let p = turn.pending in
        let some : 0 < m.period = omega (arith, p.released, p.not_due) in
        let begun : m.start ≤ x.slot = omega (arith, p.released) in
        let parts = and_parts (nat_le (release_slot a j) x.slot) (nat_lt x.slot (due_slot a j)) in_time in
        let low = leb-true (release_slot a j) x.slot parts.0 in
        let high = ltb-true x.slot (due_slot a j) parts.1 in
        let release_is = release-is r.log a b j same in
        let due_is = due-is r.log a b j same in
        broadcast_at-only m x.slot turn.broadcast some begun p.released p.not_due
        ∙ sym (broadcast_at-only m x.slot j some begun (omega (arith, low, release_is)) (omega (arith, high, due_is)))

-- so none comes again
none-if : (requested : Bool) (a : AskedMessage) (j : ℕ) (slot : Option ℕ) → slot ≡ None →
    (if requested then map (difference_of a (kinds.Again j)) (option_to_list slot) else []) ≡ []
none-if true a j slot none = ap (λ (o : Option ℕ). map (difference_of a (kinds.Again j)) (option_to_list o)) none
none-if false a j slot none = refl

-- in the tape of a legal record no page of a broadcast comes again
pub again-keeps : (laws : Laws) (r : Record) → IsLegal r → AreSound r.log → (own : AllByRecursion
    (IsOwn r.log r.air) (sent_by_air r)) (a : AskedMessage) (b : Accepted) → Contains (accepted_in r.log) b →
    IsComing r.log [] a b → again_differences r.slots a (judged_in a (sent_by_air r)) ≡ []
again-keeps laws r legal sound own a b there same =
    flat_map-none (again_difference a (judged_in a (sent_by_air r))) (range_with_len 0 r.slots)
    (λ j. none-if (is_requested a j) a j
    (again_after a.stop [] (filter (is_in_time a j) (judged_in a (sent_by_air r))))
    (no-again a.stop [] (filter (is_in_time a j) (judged_in a (sent_by_air r)))
    (over-none (filter (is_in_time a j) (judged_in a (sent_by_air r))))
    (kept-rise (IsOwn r.log r.air) (is_in_time a j) a (sent_by_air r)
    (turns-rise laws r legal sound a b there same j) (in-turn 0 (map (page_aired r.log) r.air)) own)))
