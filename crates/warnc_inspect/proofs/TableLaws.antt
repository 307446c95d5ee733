-- How the rows of a table join, as they are appended one after another.
use Rattle.std.proofs.Common.{Option, IfSome, ◌≡◌, ℕ, ◌+◌, ◌<◌, List, [], ◌∷◌, ◌++◌, length, take, ap, sym, ◌∙◌}
use Rattle.std.proofs.Common.{append_assoc, append-nil, slice_index_or, map, refl}
use Rattle.std.specs.List.{flat_map}
use Rattle.std.proofs.lemmas.Grind.{flat_map-append}
use Rattle.std.proofs.lemmas.List.{take_more, map-append}
use Rattle.std.proofs.lemmas.Option.{IfSome_then}
use Rattle.handset.specs.Recording.{AreRecorded}
use Rattle.handset.specs.Tape.{TapeReading, AreTaken}
use Rattle.short_pages.specs.Slots.{reading_on_air, AreReadingsOnAir}
use Rattle.warnc_inspect.specs.declared.air_table.AirTable.{AirTable}
use Rattle.short_pages.specs.declared.pages.Pages.{Pages}
use Rattle.short_pages.specs.declared.pages.Pages.TheVariants as pages
use Rattle.warnc_inspect.specs.declared.table.Table.{Table}
use Rattle.warnc_inspect.specs.ReadOutput.{header_row, reading_rows, table_of, IsReadOutput}
use Rattle.warnc_inspect.specs.ReadSteps.{IsTable, IsTableOf}

flat_map-one_more : {X Y : Type 0} (of : X → Y) (f : Y → List ℕ) (xs : List X) (i : ℕ) (d : X) (front : List ℕ)
    → i < length xs →
    (front ++ flat_map f (map of (take i xs))) ++ f (of (slice_index_or xs i d)) ≡ front ++ flat_map f
    (map of (take (i + 1) xs))
flat_map-one_more of f xs i d front within =
    rw (take_more xs i d within, map-append, flat_map-append)
    (append_assoc front (flat_map f (map of (take i xs))) (f (of (slice_index_or xs i d)))
    ∙ ap (λ ys. front ++ (flat_map f (map of (take i xs)) ++ ys)) (sym (append-nil (f (of (slice_index_or xs i d))))))

-- the octets of one item more, after those of the items before it
pub flat_map-next : {X Y : Type 0} (of : X → Y) (f : Y → List ℕ) (xs : List X) (i : ℕ) (item : X) (front : List ℕ)
    → i < length xs →
    item ≡ slice_index_or xs i item →
    (front ++ flat_map f (map of (take i xs))) ++ f (of item) ≡ front ++ flat_map f (map of (take (i + 1) xs))
flat_map-next of f xs i item front within is =
    ap (λ x. (front ++ flat_map f (map of (take i xs))) ++ f (of x)) is ∙ flat_map-one_more of f xs i item front within

-- the rows of one reading more
pub table_of-next : (readings : List TapeReading) (reading : TapeReading) →
    table_of readings ++ reading_rows reading ≡ table_of (readings ++ reading ∷ [])
table_of-next readings reading =
    append_assoc header_row (flat_map reading_rows readings) (reading_rows reading)
    ∙ ap (λ rows. header_row ++ (flat_map reading_rows readings ++ rows)) (sym (append-nil (reading_rows reading)))
    ∙ ap (λ rows. header_row ++ rows) (sym (flat_map-append reading_rows readings (reading ∷ [])))

-- a table that took the readings of an input is that of its pages of four blocks
pub of_four : (input : Option (List ℕ)) (old new : Table)
    → AreTaken (λ table readings. IsTable table (table_of readings)) input old new → IsTable old (table_of [])
    → IsTableOf pages.OfFour input new
of_four input old new taken empty = record {
  readings = taken.readings;
  of_input = taken.of_input;
  of_some = taken.of_some;
  holds = taken.taken [] empty;
}

-- and one that took its recordings is that of all pages
pub of_any : (input : Option (List ℕ)) (old new : AirTable)
    → AreRecorded {G = Unit {0}} (λ _ air tapes. IsTable air.table (table_of (map reading_on_air tapes))) input old new
    → IsTable old.table (table_of [])
    → IsTableOf pages.OfAny input new.table
of_any input old new taken empty = record {
  readings = map reading_on_air taken.recordings;
  of_input = IfSome_then input {Q = λ octets. AreReadingsOnAir octets (map reading_on_air taken.recordings)}
      taken.of_input
      (λ octets tapes. record { recordings = taken.recordings; tapes = tapes; read = refl });
  of_some = (
    taken.of_some.0,
    record { recordings = taken.recordings; tapes = taken.of_some.1; read = refl },
  );
  holds = taken.taken tt [] empty;
}

-- what is so of the output, where the input is known
pub output_then : (wanted : Pages) (input : Option (List ℕ)) (table : Table) (P : List ℕ → Type 0)
    (is : IsTableOf wanted input table) (octets : List ℕ) → octets ≡ table_of is.readings → P octets
    → IfSome input (λ read. (output : List ℕ) × IsReadOutput wanted read output × P output)
output_then wanted input table P is octets written holds =
    IfSome_then input {Q = λ read. (output : List ℕ) × IsReadOutput wanted read output × P output} is.of_input
    (λ read tapes. (
      octets,
      record { readings = is.readings; tapes = tapes; written = written },
      holds,
    ))
