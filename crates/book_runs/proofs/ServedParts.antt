-- Parts of a book, each served by a session of a copy of its cells' book, make a run of the book.
use Rattle.std.proofs.Common.{◌≡◌, ◌∙◌, ◌≤◌, ℕ, true, List, [], ◌∷◌, ◌++◌, Option, None, Some, length, map, refl, ap}
use Rattle.std.proofs.Common.{sym}
use Rattle.std.proofs.Common.{subst, arith}
use Rattle.std.specs.List.{All, AllZip, flat_map}
use Rattle.std.specs.Str.{chars}
use Rattle.std.proofs.lemmas.List.Elements.{All-cons, All-head, All-nil, All-tail}
use Rattle.cbs_page.specs.declared.paging.Paged.{Paged}
use Rattle.cbs_page.specs.Text.{AreContentsOf, alphabet_for, codes_of}
use Rattle.cbsp_wire.specs.declared.message.Cell.{Cell}
use Rattle.cbsp_wire.specs.Range.{cells_are_valid}
use Rattle.alert_book.specs.declared.book.order.Order.{Order}
use Rattle.alert_book.specs.declared.book.order.Sending.{Sending}
use Rattle.alert_book.specs.Book.{ArePagesOf, Contents, HavePages, sending_of}
use Rattle.alert_book.specs.Laws.{HaveSamePages}
use Rattle.alert_book.specs.Restricted.{IsCopyOf, in_part, restricted}
use Rattle.bsc_table.specs.Record.{Record}
use Rattle.book_runs.specs.CellParts.{IsPartRun, PartRun, PartsInARow}
use Rattle.book_runs.specs.Fit.{CopiesAreFit}
use Rattle.book_runs.specs.Live.{IsLiveRun}
use Rattle.book_runs.specs.Run.{Exchange, IsExchange, IsRun}
use Rattle.book_runs.specs.ServedParts.{IsServedPart, ServedPart, ServedPartsInARow}
use Rattle.book_runs.proofs.KeptSessions.{turns_in}
use Rattle.book_runs.proofs.OneSession.{a_run_is_of_one_session, one_session_is_a_run}
use Rattle.book_runs.proofs.SameBook.{same_back, same_goes, same_turns}

-- a run of a copy is a run of the book
run_of_copy : (book copy : Contents) (slots : ℕ) (exchanges : List Exchange) (records : List Record)
    → IsCopyOf book copy → IsRun copy slots exchanges records → IsRun book slots exchanges records
run_of_copy book copy slots exchanges records is run = record {
  session = same_turns copy book 0 1 (turns_in exchanges) is.orders (same_back book.pages copy.pages is.pages)
      run.session;
  cells = run.cells ∙ is.cells;
  exchanged = subst (λ (cells : List Cell). All (IsExchange cells) exchanges) is.cells run.exchanged;
  each = run.each;
}

-- what one session served is a run
record IsRunOf (copy : Contents) (slots : ℕ) (records : List Record) : Type 0 where
  pub exchanges : List Exchange
  pub run : IsRun copy slots exchanges records

run_of_one : (copy : Contents) (slots : ℕ) (sessions : List (List Exchange)) (records : List Record)
    → length sessions ≡ 1 → IsLiveRun copy slots sessions records → IsRunOf copy slots records
run_of_one copy slots [] records one live = absurd (omega (arith, one))
run_of_one copy slots (exchanges ∷ []) records one live =
    record { exchanges = exchanges; run = one_session_is_a_run copy slots exchanges records live }
run_of_one copy slots (exchanges ∷ (more ∷ sessions)) records one live = absurd (omega (arith, one))

-- the runs of parts, each of its cells' book
record AreRunsOf (book : Contents) (slots : ℕ) (parts : List ServedPart) : Type 0 where
  pub runs : List PartRun
  pub are : All (IsPartRun book slots) runs
  pub cells : flat_map (λ (part : ServedPart). part.cells) parts ≡ flat_map (λ (run : PartRun). run.cells) runs
  pub records : flat_map (λ (run : PartRun). run.records) runs ≡ flat_map (λ (part : ServedPart). part.records) parts

runs_of : (book : Contents) (slots : ℕ) (parts : List ServedPart) → All (IsServedPart book slots) parts
    → AreRunsOf book slots parts
runs_of book slots [] served = record {
  runs = [];
  are = All-nil (IsPartRun book slots);
  cells = refl;
  records = refl;
}
runs_of book slots (part ∷ parts) served =
    let first : IsServedPart book slots part = All-head (IsServedPart book slots) part parts served in
    let one : IsRunOf first.copy slots part.records =
    run_of_one first.copy slots first.sessions part.records first.one first.run in
    let run : PartRun = record { cells = part.cells; exchanges = one.exchanges; records = part.records } in
    let rest : AreRunsOf book slots parts =
    runs_of book slots parts (All-tail (IsServedPart book slots) part parts served) in record {
      runs = run ∷ rest.runs;
      are = All-cons (IsPartRun book slots) run rest.runs
          (run_of_copy (restricted (in_part part.cells) book) first.copy slots one.exchanges part.records first.is_copy
          one.run) rest.are;
      cells = ap (λ (l : List Cell). part.cells ++ l) rest.cells;
      records = ap (λ (l : List Record). part.records ++ l) rest.records;
    }

-- so these have a run of the book
pub served_parts_in_a_row : PartsInARow → ServedPartsInARow
served_parts_in_a_row row from input book slots parts is cells served =
    let runs : AreRunsOf book slots parts = runs_of book slots parts served in
    let all = row from input book slots runs.runs is (cells ∙ runs.cells) runs.are in (
      all.0,
      subst (λ (records : List Record). IsLiveRun book slots (all.0 ∷ []) records) runs.records
          (a_run_is_of_one_session book slots all.0 (flat_map (λ (run : PartRun). run.records) runs.runs) all.1),
    )

-- pages that are the same are those of the same text
same_text : (sending : Option Sending) (paged copy : Option Paged) → HaveSamePages paged copy
    → ArePagesOf sending paged → ArePagesOf sending copy
same_text None None None same are = tt
same_text None None (Some q) same are = absurd same
same_text None (Some p) copy same are = absurd are
same_text (Some sending) None copy same are = absurd are
same_text (Some sending) (Some p) None same are = absurd same
same_text (Some sending) (Some p) (Some q) same are = record {
  value = are.value;
  spoken = are.spoken;
  good = are.good;
  dcs = sym same.0 ∙ are.dcs;
  pieces = are.pieces;
  paging = are.paging;
  some = are.some;
  few = are.few;
  contents = subst (AreContentsOf (alphabet_for (chars sending.text))
      (map (flat_map (codes_of (alphabet_for (chars sending.text)))) are.pieces)) same.1 are.contents;
}

same_texts : (orders : List Order) (pages copies : List (Option Paged)) → AllZip HaveSamePages pages copies
    → HavePages orders pages → HavePages orders copies
same_texts [] [] [] same have = tt
same_texts [] [] (q ∷ copies) same have = absurd same
same_texts [] (p ∷ pages) copies same have = absurd have
same_texts (o ∷ orders) [] copies same have = absurd have
same_texts (o ∷ orders) (p ∷ pages) [] same have = absurd same
same_texts (o ∷ orders) (p ∷ pages) (q ∷ copies) same have =
    (same_text (sending_of o.action) p q same.0 have.0, same_texts orders pages copies same.1 have.1)

-- a copy of a book that is fit is, too
pub copies_are_fit : CopiesAreFit
copies_are_fit book copy is fit = record {
  cells = subst (λ (cells : List Cell). cells_are_valid cells ≡ true) (sym is.cells) fit.cells;
  orders = subst (λ (orders : List Order). length orders ≤ 4096) (sym is.orders) fit.orders;
  paged = subst (λ (orders : List Order). HavePages orders copy.pages) (sym is.orders)
      (same_texts book.orders book.pages copy.pages is.pages fit.paged);
  writable = λ part parts turns reached goes.
      let also = same_goes copy book part parts turns reached is.orders (same_back book.pages copy.pages is.pages) goes
      in fit.writable part parts turns also.reached also.goes;
}
