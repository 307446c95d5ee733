-- Octets have one table of texts at most.
use Rattle.std.proofs.Common.{◌≡◌, ◌∙◌, ◌⊎◌, ℕ, ◌<◌, List, [], ◌∷◌, ◌++◌, length, filter, ap, arith, inl, inr}
use Rattle.std.proofs.Common.{refl}
use Rattle.std.proofs.Common.{subst}
use Rattle.std.proofs.Common.{sym, true, Option, Some, None}
use Rattle.std.proofs.lemmas.Bool.{cases_lt}
use Rattle.std.specs.Str.{chars}
use Rattle.alert_book.proofs.OneAnswer.{one_meaning, right_or_wrong}
use Rattle.alert_book.specs.Book.{sending_of, Rows}
use Rattle.alert_book.specs.Extent.{AreOrdersFor, IsRowFaultFor}
use Rattle.alert_book.specs.Network.{has_cells, row_in_group}
use Rattle.alert_book.specs.Row.{row_of}
use Rattle.alert_book.specs.declared.fault.BookFault.{BookFault}
use Rattle.alert_book.specs.declared.judging.bounds.Extent.{Extent}
use Rattle.alert_book.specs.declared.judging.bounds.Extent.TheVariants as extent
use Rattle.alert_book.specs.declared.book.order.Order.{Order}
use Rattle.alert_book.specs.declared.book.order.Sending.{Sending}
use Rattle.cbs_page.proofs.PagingLaws.{one_paging}
use Rattle.cbs_page.specs.Text.{alphabet_for, capacity, cost_of}
use Rattle.book_texts.specs.Cost.{room_after, IsCostOf}
use Rattle.book_texts.specs.Fit.{ends_word, IsCut, NoneFits, NoneIsWhole}
use Rattle.book_texts.specs.Laws.{TablesAreOne, TablesHaveRightRows}
use Rattle.book_texts.specs.TextsOutput.{header_line, text_line, AreLinesOf, IsCutFor, IsLineOf}
use Rattle.book_texts.specs.declared.cost.TextCost.{TextCost}

-- what a text costs is one
same_line : (order : Order) (sending : Sending) (one two : TextCost) (cut other : Option ℕ)
    → IsCostOf (chars sending.text) one
    → IsCostOf (chars sending.text) two
    → cut ≡ other
    → text_line order sending one cut ≡ text_line order sending two other
same_line order sending one two cut other a b same =
    let text = chars sending.text in
    let pieces = one_paging (cost_of (alphabet_for text)) (capacity (alphabet_for text)) text a.pieces b.pieces a.paging
    b.paging in
    let alphabet : one.alphabet ≡ two.alphabet = a.alphabet ∙ sym b.alphabet in
    let characters : one.characters ≡ two.characters = a.characters ∙ sym b.characters in
    let pages : one.pages ≡ two.pages = a.pages ∙ ap length pieces ∙ sym b.pages in
    let room : one.room ≡ two.room = a.room ∙ ap (room_after (alphabet_for text)) pieces ∙ sym b.room in
    rw (alphabet, characters, pages, room, same) refl

-- no cut of a text is longer than another
not_longer : (pages : ℕ) (text : List ℕ) (n m : ℕ) → IsCut pages text n → IsCut pages text m → n < m → ⊥
not_longer pages text n m one two more = by_end two.ends
  where
    by_front : NoneIsWhole pages text 0 → NoneFits pages text m
        → ((0 < n) × (ends_word text n ≡ true)) ⊎ (NoneIsWhole pages text 0 × NoneFits pages text n) → ⊥
    by_front no_word none_fits (inl whole) = no_word n whole.0 one.within (whole.1, one.fits)
    by_front no_word none_fits (inr none) = none.1 m more two.within two.fits

    by_end : ((0 < m) × (ends_word text m ≡ true)) ⊎ (NoneIsWhole pages text 0 × NoneFits pages text m) → ⊥
    by_end (inl whole) = one.longest m more two.within (whole.1, two.fits)
    by_end (inr none) = by_front none.0 none.1 one.ends

-- a text is cut at one place
one_cut : (pages : ℕ) (text : List ℕ) (n m : ℕ) → IsCut pages text n → IsCut pages text m → n ≡ m
one_cut pages text n m one two =
    elim (cases_lt n m) [
      | inl less ↦ absurd (not_longer pages text n m one two less)
      | inr some ↦
          elim (cases_lt m n) [
            | inl less ↦ absurd (not_longer pages text m n two one less)
            | inr other ↦ omega (arith, some, other)
          ]
    ]

one_cut_for : (pages : Option ℕ) (text : List ℕ) (cut other : Option ℕ) → IsCutFor pages text cut
    → IsCutFor pages text other
    → cut ≡ other
one_cut_for None text cut other one two = one ∙ sym two
one_cut_for (Some pages) text cut other one two =
    one.2 ∙ ap (λ (n : ℕ). Some n) (one_cut pages text one.0 two.0 one.1 two.1) ∙ sym two.2

-- an order has one line
one_line : (pages : Option ℕ) (sent : Option Sending) (order : Order) (line other : List ℕ)
    → IsLineOf pages sent order line
    → IsLineOf pages sent order other
    → line ≡ other
one_line pages None order line other one two = one ∙ sym two
one_line pages (Some sending) order line other one two =
    let cut = one_cut_for pages (chars sending.text) one.2.0 two.2.0 one.2.1 two.2.1 in
    one.2.2 ∙ same_line order sending one.0 two.0 one.2.0 two.2.0 one.1 two.1 cut ∙ sym two.2.2

one_lines : (pages : Option ℕ) (orders : List Order) (lines others : List ℕ) → AreLinesOf pages orders lines
    → AreLinesOf pages orders others
    → lines ≡ others
one_lines pages [] lines others one two = one ∙ sym two
one_lines pages (order ∷ orders) lines others one two =
    let first = one_line pages (sending_of order.action) order one.0 two.0 one.2 two.2 in
    let rest = one_lines pages orders one.1 two.1 one.3 two.3 in
    one.4 ∙ ap (λ (line : List ℕ). line ++ one.1) first ∙ ap (λ (more : List ℕ). two.0 ++ more) rest ∙ sym two.4

-- the orders of octets are one list
one_list : (what : Extent) (input : List ℕ) (orders others : List Order) → AreOrdersFor what input orders
    → AreOrdersFor what input others → orders ≡ others
one_list extent.Book input orders others one two =
    one.given ∙ ap (λ (r : Rows). r.orders) (one_meaning row_of input one.rows two.rows one.meant two.meant)
    ∙ sym two.given
one_list extent.Network input orders others one two =
    one.given
    ∙ ap (λ (r : Rows). r.orders) (one_meaning (row_in_group 0) input one.rows two.rows one.meant two.meant)
    ∙ sym two.given
one_list (extent.Group group) input orders others one two =
    one.given
    ∙ ap (λ (r : Rows). filter has_cells r.orders)
    (one_meaning (row_in_group group) input one.rows two.rows one.meant two.meant)
    ∙ sym two.given

-- so octets have one table
pub tables_are_one : TablesAreOne
tables_are_one what pages input output another one two =
    let orders = one_list what input one.orders two.orders one.read two.read in
    let lines = one_lines pages two.orders one.lines two.lines
    (subst (λ (os : List Order). AreLinesOf pages os one.lines) orders one.lines_are) two.lines_are in
    one.written ∙ ap (λ (l : List ℕ). header_line pages ++ l) lines ∙ sym two.written

-- octets with orders have no row with a fault
no_fault : (what : Extent) (input : List ℕ) (orders : List Order) (f : BookFault) → AreOrdersFor what input orders
    → IsRowFaultFor what input f → ⊥
no_fault extent.Book input orders f read wrong = right_or_wrong row_of input read.rows f read.meant wrong
no_fault extent.Network input orders f read wrong =
    right_or_wrong (row_in_group 0) input read.rows f read.meant wrong
no_fault (extent.Group group) input orders f read wrong =
    right_or_wrong (row_in_group group) input read.rows f read.meant wrong

-- and none where a row has a fault
pub tables_have_right_rows : TablesHaveRightRows
tables_have_right_rows what pages input output f table wrong = no_fault what input table.orders f table.read wrong
