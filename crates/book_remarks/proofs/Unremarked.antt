-- A book of which nothing is remarked has its orders done.
use Rattle.std.proofs.Common.{◌≡◌, ℕ, zero, suc, ◌+◌, ◌<◌, ◌≤◌, Bool, true, false, cond, Option, None, Some, List}
use Rattle.std.proofs.Common.{[], ◌∷◌, ◌++◌, length, map, take, get_or, ap, sym, refl, subst, rules, arith, inl, inr}
use Rattle.std.proofs.Common.{◌∙◌}
use Rattle.std.specs.Prelude.{◌==◌, ◌&&◌, ◌||◌, count_by, filter, max, nat_lt}
use Rattle.std.specs.List.{flat_map, list_any, range_with_len, slice_get}
use Rattle.std.specs.Option.{option_map}
use Rattle.std.proofs.lemmas.Bool.{cases_Bool, eq-eqb, eqb-true, ltb-false, or_parts, cases_eq, ne_eqb}
use Rattle.std.proofs.lemmas.List.{nil_from_length}
use Rattle.std.proofs.lemmas.List.Folds.{list_any_more}
use Rattle.std.proofs.lemmas.List.Sums.{length-filter}
use Rattle.std.proofs.lemmas.Option.{get_or_from_slice_get, slice_get-map, slice_get_within, slice_get-get_or}
use Rattle.scheduler.specs.Air.{Air}
use Rattle.cbsp_wire.specs.declared.cause.TheConstants.{CELL_BROADCAST_NOT_OPERATIONAL}
use Rattle.cbsp_wire.specs.declared.message.Cell.{Cell}
use Rattle.alert_book.specs.declared.book.order.Order.{Order}
use Rattle.alert_book.specs.Book.{sending_of}
use Rattle.bsc_table.specs.declared.entry.Answer.{Answer}
use Rattle.bsc_table.specs.declared.entry.Answer.TheVariants as answers
use Rattle.bsc_table.specs.declared.entry.Entry.{Entry}
use Rattle.bsc_table.specs.Record.{Record}
use Rattle.book_remarks.specs.declared.mark.Mark.{Mark}
use Rattle.book_remarks.specs.declared.mark.Mark.TheVariants as marks
use Rattle.book_remarks.specs.declared.says.CellMark.{CellMark}
use Rattle.book_remarks.specs.declared.says.Says.{Says}
use Rattle.book_remarks.specs.declared.says.Says.TheVariants as says
use Rattle.asked_orders.specs.Asked.{asks, is_entry_of, may_ask, names}
use Rattle.book_remarks.specs.Answers.{Column, accepted_after, column_of, is_unseen, mark_by, mark_of, mark_of_entry}
use Rattle.book_remarks.specs.Answers.{marks_from, one_if}
use Rattle.book_remarks.specs.Laws.{IsKept}
use Rattle.book_remarks.specs.Remarks.{cause_says, cause_says_of, cell_remarks, cells_left_out, is_answered}
use Rattle.book_remarks.specs.Remarks.{is_in_vain, is_left_out, is_refusal, is_refused, is_unshown, late_says, latest}
use Rattle.book_remarks.specs.Remarks.{leaving, mark_in}
use Rattle.book_remarks.specs.Remarks.{new_cause_says, order_remarks, order_says, past_says, refused_at, refused_says}
use Rattle.book_remarks.specs.Remarks.{remark_of, remarks_at, remarks_in, remarks_of_place, same_says, slot_done}
use Rattle.book_remarks.specs.Remarks.{text_says, unasked_says, unshown_count, unshown_says}

-- nothing is made of two lists only where both are empty
nil_both : {X : Type 0} (xs ys : List X) → xs ++ ys ≡ [] → (xs ≡ []) × (ys ≡ [])
nil_both [] ys none = (refl, none)
nil_both (x ∷ xs) ys none = absurd (search (rules, none))

nil_map : {X Y : Type 0} (f : X → Y) (xs : List X) → map f xs ≡ [] → xs ≡ []
nil_map f [] none = refl
nil_map f (x ∷ xs) none = absurd (search (rules, none))

-- nor of the lists of a range only where each is
nil_range : {X : Type 0} (f : ℕ → List X) (a n k : ℕ) → flat_map f (range_with_len a n) ≡ [] → k < n → f (a + k) ≡ []
nil_range f a zero k none below = absurd (omega (arith, below))
nil_range f a (suc n) zero none below =
    let first : a ≡ a + zero = omega arith in
    subst (λ (at : ℕ). f at ≡ []) first (nil_both (f a) (flat_map f (range_with_len (a + 1) n)) none).0
nil_range f a (suc n) (suc k) none below =
    let place : a + 1 + k ≡ a + suc k = omega arith in
    let later : k < n = omega (arith, below) in
    subst (λ (at : ℕ). f at ≡ []) place
    (nil_range f (a + 1) n k (nil_both (f a) (flat_map f (range_with_len (a + 1) n)) none).1 later)

nil_front : {X : Type 0} (f : ℕ → List X) (n k : ℕ) → flat_map f (range_with_len 0 n) ≡ [] → k < n → f k ≡ []
nil_front f n k none below =
    let place : 0 + k ≡ k = omega arith in
    subst (λ (at : ℕ). f at ≡ []) place (nil_range f 0 n k none below)

same_some : {X : Type 0} (x y : X) → Some x ≡ Some y → x ≡ y
same_some x y is = search (rules, is)

-- none of a list passes a test that not any passes
none_passes : {X : Type 0} (p : X → Bool) (xs : List X) (k : ℕ) (x : X) → list_any p xs ≡ false
    → slice_get xs k ≡ Some x
    → p x ≡ false
none_passes p [] k x none is = absurd (search (rules, is))
none_passes p (y ∷ xs) zero x none is =
    subst (λ z. p z ≡ false) (same_some y x is) (or_parts (p y) (list_any p xs) none).0
none_passes p (y ∷ xs) (suc k) x none is = none_passes p xs k x (or_parts (p y) (list_any p xs) none).1 is

-- no cell is left out
first_asked : (x : CellMark) (ms : List CellMark) → cells_left_out (x ∷ ms) ≡ [] → is_left_out x ≡ false
first_asked x ms none = elim (cases_Bool (is_left_out x)) [
  | inl left ↦
      let told : x.cell ∷ map (λ (c : CellMark). c.cell) (filter is_left_out ms) ≡ [] =
      ap (λ (b : Bool). map (λ (c : CellMark). c.cell) (cond b (x ∷ filter is_left_out ms) (filter is_left_out ms)))
      (sym left) ∙ none in
      absurd (search (rules, told))
  | inr asked ↦ asked
]

others_asked : (x : CellMark) (ms : List CellMark) → cells_left_out (x ∷ ms) ≡ [] → cells_left_out ms ≡ []
others_asked x ms none =
    ap (λ (b : Bool). map (λ (c : CellMark). c.cell) (cond b (x ∷ filter is_left_out ms) (filter is_left_out ms)))
    (sym (first_asked x ms none)) ∙ none

none_left_out : (ms : List CellMark) (k : ℕ) (m : CellMark) → cells_left_out ms ≡ [] → slice_get ms k ≡ Some m
    → is_left_out m ≡ false
none_left_out [] k m none is = absurd (search (rules, is))
none_left_out (x ∷ ms) zero m none is =
    subst (λ y. is_left_out y ≡ false) (same_some x m is) (first_asked x ms none)
none_left_out (x ∷ ms) (suc k) m none is = none_left_out ms k m (others_asked x ms none) is

-- each is done by the latest slot
by_latest : (ms : List CellMark) (k : ℕ) (m : CellMark) → slice_get ms k ≡ Some m → slot_done m.mark ≤ latest ms
by_latest [] k m is = absurd (search (rules, is))
by_latest (x ∷ ms) zero m is =
    let here : slot_done x.mark ≤ max (slot_done x.mark) (latest ms) = omega arith in
    subst (λ (y : CellMark). slot_done y.mark ≤ max (slot_done x.mark) (latest ms)) (same_some x m is) here
by_latest (x ∷ ms) (suc k) m is =
    let later = by_latest ms k m is in
    omega (arith, later)

-- a cell that refuses has a mark of it
refusing : (cause : ℕ) (mark : Mark) → is_refusal cause mark ≡ true → mark ≡ marks.Refused cause
refusing cause marks.Elsewhere is = absurd (search (rules, is))
refusing cause marks.LeftOut is = absurd (search (rules, is))
refusing cause (marks.Done slot unseen) is = absurd (search (rules, is))
refusing cause (marks.Refused of) is = ap marks.Refused (eqb-true of cause is)

-- a cause that no cell before has is told
new_is_told : (before in_cells : List CellMark) (cause : ℕ) → (cause == CELL_BROADCAST_NOT_OPERATIONAL) ≡ false
    → list_any (is_refused cause) before ≡ false
    → new_cause_says before in_cells cause ≡ []
    → ⊥
new_is_told before in_cells cause other new none =
    let found : List Says = says.Refused (count_by (is_refused cause) in_cells) cause ∷ [] in
    let told : found ≡ [] =
    ap (λ (b : Bool). cond b [] found) (sym new)
    ∙ ap (λ (b : Bool). cond b [] (cond (list_any (is_refused cause) before) [] found)) (sym other) ∙ none in
    search (rules, told)

-- so where none is told, no cell before a place has another cause than that of the run's end
none_before : (ms : List CellMark) (cause : ℕ) → (cause == CELL_BROADCAST_NOT_OPERATIONAL) ≡ false
    → refused_says ms ≡ []
    → (k : ℕ) → k ≤ length ms
    → list_any (is_refused cause) (take k ms) ≡ false
none_before ms cause other none zero within = refl
none_before ms cause other none (suc k) within = elim (cases_Bool (is_refused cause here)) [
  | inl refused ↦
      let mark = refusing cause here.mark refused in
      let at : refused_at ms k ≡ [] = nil_front (refused_at ms) (length ms) k none below in
      let told : new_cause_says (take k ms) ms cause ≡ [] =
      sym (ap (cause_says (take k ms) ms) mark) ∙ sym (ap (cause_says_of (take k ms) ms) found) ∙ at in
      absurd (new_is_told (take k ms) ms cause other (none_before ms cause other none k (omega (arith, within))) told)
  | inr isnt ↦
      let next : suc k ≡ k + 1 = omega arith in
      ap (λ (n : ℕ). list_any (is_refused cause) (take n ms)) next
      ∙ list_any_more (is_refused cause) ms k here below
      ∙ both (list_any (is_refused cause) (take k ms)) (is_refused cause (get_or ms k here))
      (none_before ms cause other none k (omega (arith, within)))
      (subst (λ (m : CellMark). is_refused cause m ≡ false) same isnt)
]
  where
    below : k < length ms
    below = omega (arith, within)

    first : CellMark
    first = record { cell = record { lac = 0; ci = 0 }; mark = marks.Elsewhere }

    here : CellMark
    here = get_or ms k first

    found : slice_get ms k ≡ Some here
    found = slice_get-get_or ms k first below

    same : here ≡ get_or ms k here
    same = sym (get_or_from_slice_get ms k here here found)

    both : (x y : Bool) → x ≡ false → y ≡ false → (x || y) ≡ false
    both x y one two = ap (λ (b : Bool). b || y) one ∙ two

-- no cell refused
none_refused : (ms : List CellMark) (k : ℕ) (m : CellMark) (cause : ℕ) → refused_says ms ≡ [] → past_says ms ≡ []
    → slice_get ms k ≡ Some m
    → is_refused cause m ≡ false
none_refused ms k m cause none not_past is = elim (cases_eq cause CELL_BROADCAST_NOT_OPERATIONAL) [
  | inl past ↦ subst (λ (c : ℕ). is_refused c m ≡ false) (sym past) (none_passes _ ms k m (past_false) is)
  | inr apart ↦
      let other : (cause == CELL_BROADCAST_NOT_OPERATIONAL) ≡ false =
      ne_eqb cause CELL_BROADCAST_NOT_OPERATIONAL apart in
      let before = none_before ms cause other none (k + 1) (omega (arith, slice_get_within ms k m is)) in
      let split = sym (list_any_more (is_refused cause) ms k m (slice_get_within ms k m is)) ∙ before in
      subst (λ (x : CellMark). is_refused cause x ≡ false) (get_or_from_slice_get ms k m m is)
      (or_parts (list_any (is_refused cause) (take k ms)) (is_refused cause (get_or ms k m)) split).1
]
  where
    past_false : list_any (is_refused CELL_BROADCAST_NOT_OPERATIONAL) ms ≡ false
    past_false = elim (cases_Bool (list_any (is_refused CELL_BROADCAST_NOT_OPERATIONAL) ms)) [
      | inl some ↦
          let told : says.PastTheEnd ∷ [] ≡ [] =
          ap (λ (b : Bool). cond b (says.PastTheEnd ∷ []) []) (sym some) ∙ not_past in
          absurd (search (rules, told))
      | inr past ↦ past
    ]

-- no order that asked none
none_unasked : (ms : List CellMark) → unasked_says ms ≡ [] → cells_left_out ms ≡ []
none_unasked ms none = elim (cases_Bool (list_any is_answered ms)) [
  | inl some ↦
      left (cells_left_out ms)
      (ap (λ (b : Bool). cond b (leaving (cells_left_out ms)) (says.OrdersNothing ∷ [])) (sym some) ∙ none)
  | inr isnt ↦
      let told : says.OrdersNothing ∷ [] ≡ [] =
      ap (λ (b : Bool). cond b (leaving (cells_left_out ms)) (says.OrdersNothing ∷ [])) (sym isnt) ∙ none in
      absurd (search (rules, told))
]
  where
    left : (cells : List Cell) → leaving cells ≡ [] → cells ≡ []
    left [] is = refl
    left (cell ∷ cells) is = absurd (search (rules, is))

none_late : (at : ℕ) (ms : List CellMark) → late_says at ms ≡ [] → latest ms ≤ at
none_late at ms none = elim (cases_Bool (nat_lt at (latest ms))) [
  | inl late ↦
      let told : says.DoneAt (latest ms) ∷ [] ≡ [] =
      ap (λ (b : Bool). cond b (says.DoneAt (latest ms) ∷ []) []) (sym late) ∙ none in
      absurd (search (rules, told))
  | inr isnt ↦ ltb-false at (latest ms) isnt
]

-- where a filter leaves none of a list, the first doesn't pass it, and none of the others is left
first_filtered : {X : Type 0} (p : X → Bool) (x : X) (xs : List X) → filter p (x ∷ xs) ≡ [] → p x ≡ false
first_filtered p x xs none = elim (cases_Bool (p x)) [
  | inl passes ↦
      let told : x ∷ filter p xs ≡ [] =
      ap (λ (b : Bool). cond b (x ∷ filter p xs) (filter p xs)) (sym passes) ∙ none in
      absurd (search (rules, told))
  | inr fails ↦ fails
]

others_filtered : {X : Type 0} (p : X → Bool) (x : X) (xs : List X) → filter p (x ∷ xs) ≡ [] → filter p xs ≡ []
others_filtered p x xs none =
    ap (λ (b : Bool). cond b (x ∷ filter p xs) (filter p xs)) (sym (first_filtered p x xs none)) ∙ none

none_filtered : {X : Type 0} (p : X → Bool) (xs : List X) (k : ℕ) (x : X) → filter p xs ≡ []
    → slice_get xs k ≡ Some x
    → p x ≡ false
none_filtered p [] k x none is = absurd (search (rules, is))
none_filtered p (y ∷ xs) zero x none is =
    subst (λ z. p z ≡ false) (same_some y x is) (first_filtered p y xs none)
none_filtered p (y ∷ xs) (suc k) x none is = none_filtered p xs k x (others_filtered p y xs none) is

-- where none is counted, none passes a test
none_counted : {X : Type 0} (p : X → Bool) (xs : List X) (k : ℕ) (x : X) → count_by p xs ≡ 0
    → slice_get xs k ≡ Some x
    → p x ≡ false
none_counted p xs k x none is =
    none_filtered p xs k x (nil_from_length (filter p xs) (length-filter p xs ∙ none)) is

-- no message is in vain
none_unshown : (ms : List CellMark) → unshown_says ms ≡ [] → unshown_count ms ≡ 0
none_unshown ms none = elim (cases_Bool (unshown_count ms == 0)) [
  | inl is ↦ eqb-true (unshown_count ms) 0 is
  | inr some ↦
      let told : says.NeverShown (unshown_count ms) ∷ [] ≡ [] =
      ap (λ (b : Bool). cond b [] (says.NeverShown (unshown_count ms) ∷ [])) (sym some) ∙ none in
      absurd (search (rules, told))
]

-- what became of an order of which nothing is said, in a cell that it names
kept_by : (at : ℕ) (mark : Mark) (last : ℕ) → (mark ≡ marks.Elsewhere → ⊥) → (mark ≡ marks.LeftOut → ⊥)
    → ((cause : ℕ) → is_refusal cause mark ≡ false)
    → slot_done mark ≤ last
    → last ≤ at
    → is_in_vain mark ≡ false
    → IsKept at mark
kept_by at marks.Elsewhere last named asked unrefused done late seen = named refl
kept_by at marks.LeftOut last named asked unrefused done late seen = asked refl
kept_by at (marks.Done slot unseen) last named asked unrefused done late seen = (omega (arith, done, late), seen)
kept_by at (marks.Refused cause) last named asked unrefused done late seen =
    let is : (cause == cause) ≡ true = eq-eqb cause cause refl in
    let isnt = unrefused cause in
    search (rules, is, isnt)

kept_in : (earlier : List Order) (order : Order) (ms : List CellMark) (k : ℕ) (m : CellMark)
    → order_says earlier order ms ≡ []
    → slice_get ms k ≡ Some m
    → (m.mark ≡ marks.Elsewhere → ⊥)
    → IsKept order.at m.mark
kept_in earlier order ms k m none is named =
    let without_text = (nil_both (((((unasked_says ms ++ late_says order.at ms) ++ refused_says ms) ++ past_says ms)
    ++ unshown_says ms) ++ same_says earlier order) (text_says (sending_of order.action)) none).0 in
    let without_same = (nil_both ((((unasked_says ms ++ late_says order.at ms) ++ refused_says ms) ++ past_says ms)
    ++ unshown_says ms) (same_says earlier order) without_text).0 in
    let unshown = nil_both (((unasked_says ms ++ late_says order.at ms) ++ refused_says ms) ++ past_says ms)
    (unshown_says ms) without_same in
    let past = nil_both ((unasked_says ms ++ late_says order.at ms) ++ refused_says ms) (past_says ms) unshown.0 in
    let refused = nil_both (unasked_says ms ++ late_says order.at ms) (refused_says ms) past.0 in
    let late = nil_both (unasked_says ms) (late_says order.at ms) refused.0 in
    let asked : m.mark ≡ marks.LeftOut → ⊥ =
    λ out. both_ways (none_left_out ms k m (none_unasked ms late.0) is) out in
    kept_by order.at m.mark (latest ms) named asked
    (λ cause. none_refused ms k m cause refused.1 past.1 is)
    (by_latest ms k m is) (none_late order.at ms late.1)
    (none_counted is_unshown ms k m (none_unshown ms unshown.1) is)
  where
    both_ways : is_left_out m ≡ false → m.mark ≡ marks.LeftOut → ⊥
    both_ways asked out = search (rules, asked, out)

-- what became of an order in a cell that it names isn't that it doesn't
entry_is_there : (slot : ℕ) (unseen : Bool) (answer : Answer) → mark_by slot unseen answer ≡ marks.Elsewhere → ⊥
entry_is_there slot unseen (answers.Started start) is = search (rules, is)
entry_is_there slot unseen (answers.Replaced start completed) is = search (rules, is)
entry_is_there slot unseen (answers.Stopped completed) is = search (rules, is)
entry_is_there slot unseen (answers.Told completed state) is = search (rules, is)
entry_is_there slot unseen answers.Unknown is = search (rules, is)
entry_is_there slot unseen (answers.Cause cause) is = search (rules, is)
entry_is_there slot unseen answers.Refused is = search (rules, is)

next_is_there : (air : Air) (place : ℕ) (next : Option Entry) → mark_of_entry air place next ≡ marks.Elsewhere → ⊥
next_is_there air place None is = search (rules, is)
next_is_there air place (Some e) is = entry_is_there e.slot (is_unseen air place e) e.answer is

there : (order : Order) (cell : Cell) (accepted : List ℕ) (air : Air) (place : ℕ) (next : Option Entry)
    → names order cell ≡ true
    → mark_of order cell accepted air place next ≡ marks.Elsewhere
    → ⊥
there order cell accepted air place next named is =
    let asked = may_ask accepted order && is_entry_of order next in
    let mark = mark_of_entry air place next in
    let one : cond asked mark marks.LeftOut ≡ marks.Elsewhere =
    ap (λ (b : Bool). cond b (cond asked mark marks.LeftOut) marks.Elsewhere) (sym named) ∙ is in
    elim (cases_Bool asked) [
      | inl so ↦
          next_is_there air place next (ap (λ (b : Bool). cond b mark marks.LeftOut) (sym so) ∙ one)
      | inr isnt ↦
          let out : marks.LeftOut ≡ marks.Elsewhere =
          ap (λ (b : Bool). cond b mark marks.LeftOut) (sym isnt) ∙ one in
          search (rules, out)
    ]

there_at : (orders : List Order) (place : ℕ) (order : Order) (cell : Cell) (air : Air) (log : List Entry) (at : ℕ)
    (accepted : List ℕ)
    → slice_get orders place ≡ Some order
    → names order cell ≡ true
    → get_or (marks_from cell air log at accepted orders) place marks.Elsewhere ≡ marks.Elsewhere
    → ⊥
there_at [] place order cell air log at accepted found named is = search (rules, found)
there_at (o ∷ orders) zero order cell air log at accepted found named is =
    there o cell accepted air at (slice_get log at)
    (subst (λ (it : Order). names it cell ≡ true) (sym (same_some o order found)) named) is
there_at (o ∷ orders) (suc place) order cell air log at accepted found named is =
    there_at orders place order cell air log (at + one_if (asks o cell accepted (slice_get log at)))
    (accepted_after accepted o (mark_of o cell accepted air at (slice_get log at))) found named is

-- all of it
pub unremarked_are_kept : (orders : List Order) (records : List Record) (place : ℕ) (order : Order) (k : ℕ) (r : Record)
    → remarks_in orders records ≡ []
    → slice_get orders place ≡ Some order
    → slice_get records k ≡ Some r
    → names order r.cell ≡ true
    → IsKept order.at (get_or (column_of orders r).marks place marks.Elsewhere)
unremarked_are_kept orders records place order k r none found in_run named =
    let columns : List Column = map (column_of orders) records in
    let of_orders = (nil_both (flat_map (remarks_at orders columns) (range_with_len 0 (length orders)))
    (flat_map cell_remarks records) none).0 in
    let at_place : remarks_at orders columns place ≡ [] =
    nil_front (remarks_at orders columns) (length orders) place of_orders (slice_get_within orders place order found) in
    let remarks : order_remarks (take place orders) order (map (mark_in place) columns) ≡ [] =
    sym (ap (remarks_of_place orders columns place) found) ∙ at_place in
    let said : order_says (take place orders) order (map (mark_in place) columns) ≡ [] =
    nil_map (remark_of order) (order_says (take place orders) order (map (mark_in place) columns)) remarks in
    let column : slice_get columns k ≡ Some (column_of orders r) =
    slice_get-map (column_of orders) records k ∙ ap (option_map (column_of orders)) in_run in
    let mark : slice_get (map (mark_in place) columns) k ≡ Some (mark_in place (column_of orders r)) =
    slice_get-map (mark_in place) columns k ∙ ap (option_map (mark_in place)) column in
    kept_in (take place orders) order (map (mark_in place) columns) k (mark_in place (column_of orders r)) said mark
    (λ is. there_at orders place order r.cell r.air r.log 0 [] found named is)
