-- The octets of a book and of tapes that were read.
use Rattle.std.proofs.Common.{◌≡◌, ℕ, ◌<◌, List, [], ◌∷◌, ◌++◌, Option, None, Some, IfSome}
use Rattle.std.proofs.Common.{length, drop, map, refl, sym, ap, ◌∙◌, subst, arith, append-nil}
use Rattle.std.specs.Prelude.{codes, if◌then◌else◌}
use Rattle.std.specs.List.{flat_map}
use Rattle.csv.specs.Writing.{default_writer, is_blank, row_body, row_text}
use Rattle.std.specs.Io.KnownBytes.{Consumes, IsAtEnd}
use Rattle.alert_book.specs.declared.network.Origin.{Origin}
use Rattle.short_pages.specs.declared.pages.Pages.{Pages}
use Rattle.std.proofs.lemmas.List.{length-append}
use Rattle.bsc_table.specs.Record.{Record}
use Rattle.handset.specs.Recording.{TapeRecording}
use Rattle.slot_times.specs.declared.start.Start.{Start}
use Rattle.short_pages.specs.Slots.{recording_by}
use Rattle.verification.specs.RowText.{rows_text}
use Rattle.verification.specs.Rows.{other_rows}
use Rattle.verification.specs.Table.{IsTextWith, clock_row, other_line, plain_table}
use Rattle.verification.specs.Times.{begin_name}
use Rattle.verification.specs.declared.detail.Detail.{Detail}
use Rattle.verification.specs.declared.detail.TableLayout.{TableLayout}
use Rattle.verification.specs.declared.detail.Detail.TheVariants as detail
use Rattle.verification.specs.declared.row.Row.{Row}
use Rattle.warnc_verify.specs.Verified.{IsVerified}

-- what was read of octets to their end is these octets
pub whole : (book input : List ℕ) (last : Option (List ℕ)) → Consumes (Some book) last input → IsAtEnd last
    → input ≡ book
whole book input None read ended = absurd read
whole book input (Some rest) read ended =
    sym (read ∙ ap (λ (r : List ℕ). input ++ r) ended ∙ append-nil input)

-- the same of a reader whose octets may be unknown
pub whole_if_known : (input : List ℕ) (first last : Option (List ℕ)) → Consumes first last input → IsAtEnd last
    → IfSome first (λ book. book ≡ input)
whole_if_known input None last read ended = tt
whole_if_known input (Some book) last read ended = sym (whole book input last read ended)

-- octets of which this is so: those that a reader had left, if they are known, and else some of which it is so
pub octets_of : (P : List ℕ → Type 0) (first : Option (List ℕ)) → IfSome first P → ((octets : List ℕ) × P octets)
    → (octets : List ℕ) × IfSome first (λ input. input ≡ octets) × P octets
octets_of P None is some = (some.0, tt, some.1)
octets_of P (Some input) is some = (input, refl, is)

-- a table isn't empty
longer : (x : ℕ) (xs : List ℕ) → 0 < length (x ∷ xs)
longer x xs = omega arith

ended : (xs ys rest : List ℕ) (x : ℕ) → 0 < length ((xs ++ (ys ++ x ∷ [])) ++ rest)
ended xs ys rest x =
    omega (arith, length-append (xs ++ (ys ++ x ∷ [])) rest, length-append xs (ys ++ x ∷ []), length-append ys (x ∷ []))

some_row : (fields : List (List ℕ)) (rest : List ℕ) → 0 < length (row_text default_writer fields ++ rest)
some_row fields rest =
    ended (row_body default_writer fields) (if is_blank default_writer fields then 34 ∷ 34 ∷ [] else []) rest 10

-- a table is never empty, plain or explained, with times or without: it has the line of the columns' names
some_plain : (start : Option Start) (rows : List Row) → 0 < length (plain_table start rows)
some_plain None rows = longer 108 (drop 1 (rows_text rows))
some_plain (Some start) rows =
    some_row (codes "lac" ∷ codes "ci" ∷ codes "id" ∷ codes "serial" ∷ codes "slot" ∷ codes "difference"
    ∷ codes "time" ∷ []) (flat_map (clock_row start) rows)

some_text : (d : Detail) (start : Option Start) (records : List Record) (tapes : List TapeRecording) (rows : List Row)
    (output : List ℕ)
    → IsTextWith d start records tapes rows output
    → 0 < length output
some_text detail.Plain start records tapes rows output is =
    subst (λ (octets : List ℕ). 0 < length octets) (sym is) (some_plain start rows)
some_text detail.Explained start records tapes rows output is =
    subst (λ (octets : List ℕ). 0 < length octets) (sym is.text_is)
    (some_row (codes "lac" ∷ codes "ci" ∷ codes "id" ∷ codes "serial" ∷ codes "slot" ∷ codes "difference"
    ∷ codes "expected" ∷ codes "got" ∷ begin_name start)
    (is.lines ++ flat_map (other_line start) (other_rows records [] tapes)))

-- so the table of verified tapes isn't
pub some_table : (from : Origin) (slots : ℕ) (pages : Pages) (layout : TableLayout) (book tapes output : List ℕ)
    → IsVerified from slots pages layout book tapes output
    → 0 < length output
some_table from slots pages layout book tapes output is =
    some_text layout.detail layout.start is.0.records (map (recording_by pages) is.0.recordings) [] output is.1
