-- What the slots by which messages come late say of a delay.
use Rattle.std.proofs.Common.{◌≡◌, ◌∙◌, ℕ, ◌+◌, ◌-◌, ◌/◌, ◌<◌, ◌≤◌, Bool, true, false, Option, None, Some, List, []}
use Rattle.std.proofs.Common.{◌∷◌}
use Rattle.std.proofs.Common.{◌++◌, All, ap, arith, cond, drop, filter, find, get_or, length, map, refl, rules, suc}
use Rattle.std.proofs.Common.{sym, zero}
use Rattle.std.specs.Prelude.{is_some, nat_le, nat_lt}
use Rattle.std.specs.List.{AllPairs, slice_get}
use Rattle.std.specs.Option.{option_and_then, option_map, option_to_list}
use Rattle.std.specs.Simd.{first_chunks}
use Rattle.std.proofs.lemmas.Bool.{le-leb, leb-false, leb-true, lt-leb}
use Rattle.std.proofs.lemmas.Option.{slice_get-get_or}
use Rattle.std.proofs.lemmas.List.Elements.{All-append, All-cons, All-filter, All-map, All-nil}
use Rattle.cbs_page.specs.declared.content.Content.{Content}
use Rattle.cell_orders.specs.declared.row.CellOrder.{CellOrder}
use Rattle.cell_orders.specs.declared.row.CellOrder.TheVariants as rows
use Rattle.cell_orders.specs.declared.row.OrderRow.{OrderRow}
use Rattle.short_pages.specs.Slots.{page_of_slot}
use Rattle.verification.specs.Difference.{is_past_stop}
use Rattle.verification.specs.Shift.{slot_of_first}
use Rattle.verification.specs.declared.judged.JudgedPage.{JudgedPage}
use Rattle.order_verdict.specs.Air.{AirOctets, four_by_four, page_in, pages_from, pages_on_air}
use Rattle.order_verdict.specs.Judged.{is_own_page, judged_page, own_pages_in}
use Rattle.order_verdict.specs.LagLaws.{DelaysAreToldByLags, IsToldByLags, ends_late, starts_early}
use Rattle.order_verdict.specs.Lags.{slot_of_last}
use Rattle.order_verdict.specs.Ordered.{OrderedMessage, is_answered_ok, ordered_after, ordered_by, ordered_of_row}
use Rattle.order_verdict.specs.Ordered.{asked_from_slot, begins_row, ends_row, row_slot, since_slot, slot_among}
use Rattle.order_verdict.specs.Ordered.{tape_stop, told_by}
use Rattle.order_verdict.proofs.Rising.{own-rising, pages-rising}

-- an item is found at the front or behind it
found-front : (p : JudgedPage) (passes : Bool) (behind : Option JudgedPage) → passes ≡ true →
    is_some (cond passes (Some p) behind) ≡ true
found-front p passes behind is = ap (λ x. is_some (cond x (Some p) behind)) is

found-behind : (p : JudgedPage) (passes : Bool) (behind : Option JudgedPage) → passes ≡ false →
    is_some (cond passes (Some p) behind) ≡ is_some behind
found-behind p passes behind is = ap (λ x. is_some (cond x (Some p) behind)) is

-- of one item
alone : (p : JudgedPage) (passes : Bool) → is_some (cond passes (Some p) None) ≡ passes
alone p true = refl
alone p false = refl

-- the last one decides
last-decides : (p : JudgedPage) (front last passes : Bool) (behind : Option JudgedPage) → passes ≡ front →
    (front ≡ true → last ≡ true) → is_some behind ≡ last → is_some (cond passes (Some p) behind) ≡ last
last-decides p true last passes behind is goes later = found-front p passes behind is ∙ sym (goes refl)
last-decides p false last passes behind is goes later = found-behind p passes behind is ∙ later

-- the first one does
first-decides : (p : JudgedPage) (front next passes : Bool) (behind : Option JudgedPage) → passes ≡ front →
    (next ≡ true → front ≡ true) → is_some behind ≡ next → is_some (cond passes (Some p) behind) ≡ front
first-decides p true next passes behind is goes later = found-front p passes behind is
first-decides p false true passes behind is goes later = absurd (search (rules, goes refl))
first-decides p false false passes behind is goes later = found-behind p passes behind is ∙ later

-- of rising slots, one passes a test that goes on once it passes exactly if the last one does
any-last : (t : ℕ → Bool) → ((a b : ℕ) → a ≤ b → t a ≡ true → t b ≡ true) → (p : JudgedPage)
    (rest : List JudgedPage) (d : JudgedPage) → AllPairs (λ (a b : JudgedPage). a.slot ≤ b.slot) (p ∷ rest) →
    is_some (find (λ (x : JudgedPage). t x.slot) (p ∷ rest)) ≡ t (get_or (p ∷ rest) (length rest) d).slot
any-last t goes p [] d rise = alone p (t p.slot)
any-last t goes p (q ∷ more) d rise =
    last-decides p (t p.slot) (t (get_or (q ∷ more) (length more) d).slot) (t p.slot)
    (find (λ (x : JudgedPage). t x.slot) (q ∷ more)) refl
    (goes p.slot (get_or (q ∷ more) (length more) d).slot (rise 0 (length (q ∷ more)) d (omega arith) (omega arith)))
    (any-last t goes q more d (λ i j e less within. rise (suc i) (suc j) e (omega arith) (omega arith)))

-- and one passes a test that stops once it fails exactly if the first one does
any-first : (t : ℕ → Bool) → ((a b : ℕ) → a ≤ b → t b ≡ true → t a ≡ true) → (p : JudgedPage)
    (rest : List JudgedPage) → AllPairs (λ (a b : JudgedPage). a.slot ≤ b.slot) (p ∷ rest) →
    is_some (find (λ (x : JudgedPage). t x.slot) (p ∷ rest)) ≡ t p.slot
any-first t goes p [] rise = alone p (t p.slot)
any-first t goes p (q ∷ more) rise =
    first-decides p (t p.slot) (t q.slot) (t p.slot) (find (λ (x : JudgedPage). t x.slot) (q ∷ more)) refl
    (goes p.slot q.slot (rise 0 1 p (omega arith) (omega arith)))
    (any-first t goes q more (λ i j e less within. rise (suc i) (suc j) e (omega arith) (omega arith)))

-- a test that goes on, and one that stops
stop-goes : (stop : Option ℕ) (a b : ℕ) → a ≤ b → is_past_stop stop a ≡ true → is_past_stop stop b ≡ true
stop-goes None a b less is = is
stop-goes (Some stop) a b less is =
    let from : stop ≤ a = leb-true stop a is in
    le-leb stop b (omega arith)

start-stops : (start a b : ℕ) → a ≤ b → nat_lt b start ≡ true → nat_lt a start ≡ true
start-stops start a b less is =
    let before : suc b ≤ start = leb-true (suc b) start is in
    le-leb (suc a) start (omega arith)

-- the slot of a stop with a delay, of a page that a tape can have
stop-tells : (delay slot : ℕ) (ended : Option ℕ) → slot ≤ 65535 →
    is_past_stop (option_and_then (λ (s : ℕ). tape_stop (s + delay)) ended) slot ≡ ends_late delay ended (Some slot)
stop-tells delay slot None few = refl
stop-tells delay slot (Some end) few = by_room (nat_le (end + delay) 65535) refl
  where
    by_room : (b : Bool) → nat_le (end + delay) 65535 ≡ b →
        is_past_stop (cond (nat_le (end + delay) 65535) (Some (end + delay)) None) slot ≡ nat_le (end + delay) slot
    by_room true is = ap (λ x. is_past_stop (cond x (Some (end + delay)) None) slot) is
    by_room false is =
        let past : 65535 < end + delay = leb-false (end + delay) 65535 is in
        ap (λ x. is_past_stop (cond x (Some (end + delay)) None) slot) is
        ∙ sym (lt-leb (end + delay) slot (omega arith))

no_end : (delay : ℕ) (ended : Option ℕ) → false ≡ ends_late delay ended None
no_end delay None = refl
no_end delay (Some end) = refl

-- a mapped answer is one exactly if the answer is
mapped : {X Y : Type 0} (f : X → Y) (o : Option X) → is_some (option_map f o) ≡ is_some o
mapped f None = refl
mapped f (Some x) = refl

-- the slot of the last page
last-is : (p : JudgedPage) (rest : List JudgedPage) →
    slot_of_last (p ∷ rest) ≡ Some (get_or (p ∷ rest) (length rest) p).slot
last-is p rest =
    let at : length (p ∷ rest) - 1 ≡ length rest = omega arith in
    ap (λ i. option_map (λ (x : JudgedPage). x.slot) (slice_get (p ∷ rest) i)) at
    ∙ ap (option_map (λ (x : JudgedPage). x.slot)) (slice_get-get_or (p ∷ rest) (length rest) p (omega arith))

-- of rising slots that a tape can have: whether one comes after a stop
pub stops-told : (delay : ℕ) (ended : Option ℕ) (pages : List JudgedPage) →
    AllPairs (λ (a b : JudgedPage). a.slot ≤ b.slot) pages → All (λ (x : JudgedPage). x.slot ≤ 65535) pages →
    is_some (option_map (λ (x : JudgedPage). x.slot) (find (λ (x : JudgedPage).
    is_past_stop (option_and_then (λ (s : ℕ). tape_stop (s + delay)) ended) x.slot) pages))
    ≡ ends_late delay ended (slot_of_last pages)
stops-told delay ended [] rise few = no_end delay ended
stops-told delay ended (p ∷ rest) rise few =
    let stop : Option ℕ = option_and_then (λ (s : ℕ). tape_stop (s + delay)) ended in
    let last : JudgedPage = get_or (p ∷ rest) (length rest) p in
    mapped (λ (x : JudgedPage). x.slot) (find (λ (x : JudgedPage). is_past_stop stop x.slot) (p ∷ rest))
    ∙ any-last (is_past_stop stop) (stop-goes stop) p rest p rise
    ∙ stop-tells delay last.slot ended (few (length rest) p (omega arith))
    ∙ ap (ends_late delay ended) (sym (last-is p rest))

-- and whether one comes before a start
pub starts-told : (start : ℕ) (pages : List JudgedPage) →
    AllPairs (λ (a b : JudgedPage). a.slot ≤ b.slot) pages →
    is_some (option_map (λ (x : JudgedPage). x.slot) (find (λ (x : JudgedPage). nat_lt x.slot start) pages))
    ≡ starts_early start (slot_of_first pages)
starts-told start [] rise = refl
starts-told start (p ∷ rest) rise =
    mapped (λ (x : JudgedPage). x.slot) (find (λ (x : JudgedPage). nat_lt x.slot start) (p ∷ rest))
    ∙ any-first (λ slot. nat_lt slot start) (start-stops start) p rest rise

-- as many chunks as are wanted
chunks : {X : Type 0} (n k : ℕ) (xs : List X) → length (first_chunks n k xs) ≡ k
chunks n zero xs = refl
chunks n (suc k) xs = ap suc (chunks n k (drop n xs))

-- pages come before the end of the slots
in_one : (slot end : ℕ) (pages : List (List ℕ)) → slot ≤ end →
    All (λ (p : AirOctets). p.slot ≤ end) (map (page_in slot) pages)
in_one slot end [] less = All-nil (λ (p : AirOctets). p.slot ≤ end)
in_one slot end (octets ∷ pages) less =
    All-cons (λ (p : AirOctets). p.slot ≤ end) (page_in slot octets) (map (page_in slot) pages) less
    (in_one slot end pages less)

before-end : (slot end : ℕ) (slots : List (List (List ℕ))) → slot + length slots ≤ end →
    All (λ (p : AirOctets). p.slot ≤ end) (pages_from slot slots)
before-end slot end [] less = All-nil (λ (p : AirOctets). p.slot ≤ end)
before-end slot end (four ∷ rest) less =
    All-append (λ (p : AirOctets). p.slot ≤ end)
    (map (page_in slot) (option_to_list (page_of_slot four))) (pages_from (slot + 1) rest)
    (in_one slot end (option_to_list (page_of_slot four)) (omega arith))
    (before-end (slot + 1) end rest (omega arith))

own-few : (m : OrderedMessage) (air : List AirOctets) → All (λ (p : AirOctets). p.slot ≤ 65535) air →
    All (λ (x : JudgedPage). x.slot ≤ 65535) (own_pages_in m air)
own-few m air few =
    All-map (λ (x : JudgedPage). x.slot ≤ 65535) (judged_page m.early) (filter (is_own_page m) air)
    (All-filter (is_own_page m) (λ (p : AirOctets). p.slot ≤ 65535) air few)

-- so it is of the message of a row, and of those of all rows
abbrev IsTold : (delay : ℕ) → List AirOctets → OrderedMessage → Type 0
IsTold delay air m = IsToldByLags delay m (own_pages_in m air)

if-taken : (P : OrderedMessage → Type 0) (taken : Bool) (m : OrderedMessage) → P m → All P (cond taken (m ∷ []) [])
if-taken P true m is = All-cons P m [] is (All-nil P)
if-taken P false m is = All-nil P

abbrev message-of : (delay at id serial dcs : ℕ) → List Content → (category period broadcasts : ℕ)
    → (before later : List OrderRow) → OrderedMessage
message-of delay at id serial dcs contents category period broadcasts before later = record {
  row = length before + 1;
  early = asked_from_slot id serial dcs contents at category period broadcasts None;
  late = asked_from_slot id serial dcs contents (at + delay) category period broadcasts
      (option_and_then (λ (slot : ℕ). tape_stop (slot + delay)) (slot_among (ends_row id serial) later));
  since = since_slot id serial before at;
  until = slot_among (begins_row id serial) later;
  ended = slot_among (ends_row id serial) later;
  told = option_and_then (λ (row : OrderRow). told_by row.order) (find (ends_row id serial) later);
}

told-of : (delay at : ℕ) (order : CellOrder) (before later : List OrderRow) (air : List AirOctets) →
    AllPairs (λ (a b : AirOctets). a.slot ≤ b.slot) air → All (λ (p : AirOctets). p.slot ≤ 65535) air →
    All (IsTold delay air) (ordered_by delay at order before later)
told-of delay at (rows.Write id new_serial old_serial category period broadcasts dcs contents answer) before later air
    rise few =
    let m : OrderedMessage = message-of delay at id new_serial dcs.0 contents category period broadcasts before later in
    if-taken (IsTold delay air) (is_answered_ok answer) m (record {
      stop = stops-told delay m.ended (own_pages_in m air) (own-rising m air rise) (own-few m air few);
      start = starts-told at (own_pages_in m air) (own-rising m air rise);
    })
told-of delay at (rows.Kill id old_serial answer) before later air rise few = All-nil (IsTold delay air)
told-of delay at rows.Clear before later air rise few = All-nil (IsTold delay air)

told-after : (delay : ℕ) (before rows : List OrderRow) (air : List AirOctets) →
    AllPairs (λ (a b : AirOctets). a.slot ≤ b.slot) air → All (λ (p : AirOctets). p.slot ≤ 65535) air →
    All (IsTold delay air) (ordered_after delay before rows)
told-after delay before [] air rise few = All-nil (IsTold delay air)
told-after delay before (row ∷ later) air rise few =
    All-append (IsTold delay air) (ordered_of_row delay before row later)
    (ordered_after delay (before ++ row ∷ []) later)
    (told-of delay (row_slot row.at) row.order before later air rise few)
    (told-after delay (before ++ row ∷ []) later air rise few)

-- what lags say of a delay
pub delays-told : DelaysAreToldByLags
delays-told delay rows blocks few =
    let slots : length (four_by_four blocks) ≡ length blocks / 4 = chunks 4 (length blocks / 4) blocks in
    told-after delay [] rows (pages_on_air blocks) (pages-rising 0 (four_by_four blocks))
    (before-end 0 65535 (four_by_four blocks) (omega (arith, slots)))
