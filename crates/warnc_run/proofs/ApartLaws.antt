-- The parts of a book's cells, one after the other.
use Rattle.std.proofs.Common.{◌≡◌, ◌∙◌, ℕ, ◌+◌, ◌*◌, ◌/◌, ◌%◌, ◌<◌, ◌≤◌, min, suc, List, [], ◌∷◌, ◌++◌, length, drop}
use Rattle.std.proofs.Common.{get_or}
use Rattle.std.proofs.Common.{Some, None, Vec, IfSome, inl, inr, append-nil, refl, ap, sym, subst}
use native.Mathlib.Omega.{arith}
use Rattle.std.specs.Fork.{slice_chunk}
use Rattle.std.specs.Global.{Global}
use Rattle.std.specs.List.{All, flat_map}
use Rattle.std.proofs.Math.Nat.{suc-mul, zero-mul}
use Rattle.std.proofs.lemmas.Bool.{cases_lt}
use Rattle.std.proofs.lemmas.Grind.{flat_map-append}
use Rattle.std.proofs.lemmas.List.{drop-drop, drop_all, take-append-drop}
use Rattle.std.proofs.lemmas.List.Elements.{All-cons, All-head, All-nil, All-push, All-tail}
use Rattle.std.proofs.lemmas.Nat.{div-add-mod', mod_below}
use Rattle.alert_book.specs.Book.{Contents}
use Rattle.bsc_table.specs.Record.{Record}
use Rattle.cbsp_wire.specs.declared.message.Cell.{Cell}
use Rattle.book_runs.specs.ServedParts.{IsServedPart, ServedPart, ServedPartsInARow}
use Rattle.warnc_run.specs.ApartSteps.{AreServedParts, AreSome, IsSomePart, PartRecords, records_in, served_with}
use Rattle.warnc_run.specs.RunSteps.{HaveRunLive, IsSomeBook}

-- parts of this size have all cells
enough : (count long size : ℕ) → 0 < size → count ≡ long / size + min 1 (long % size) → long ≤ count * size
enough count long size some is =
    let whole : long / size * size + long % size ≡ long = div-add-mod' long size in
    let rest : long % size < size = mod_below long size some in
    elim (cases_lt 0 (long % size)) [
      | inl more ↦ let one : count ≡ suc (long / size) = omega (arith, is, more) in
          let times = ap (λ (n : ℕ). n * size) one ∙ suc-mul (long / size) size in omega (arith, whole, rest, times)
      | inr none ↦ let same : count ≡ long / size = omega (arith, is, none) in
          let times = ap (λ (n : ℕ). n * size) same in omega (arith, whole, none, times)
    ]

-- the parts that have these records, where the first has this number
abbrev parts_of : (cells : List Cell) (size n : ℕ) → List PartRecords → List ServedPart
parts_of cells size n [] = []
parts_of cells size n (None ∷ parts) = []
parts_of cells size n (Some records ∷ parts) =
    served_with (slice_chunk cells size n) records.items ∷ parts_of cells size (suc n) parts

-- they have all cells from there on
cells_of_parts : (cells : List Cell) (size n : ℕ) (parts : List PartRecords) → AreSome parts
    → length cells ≤ (n + length parts) * size
    → drop (n * size) cells ≡ flat_map (λ (part : ServedPart). part.cells) (parts_of cells size n parts)
cells_of_parts cells size n [] some few = drop_all (n * size) cells
    (subst (λ (k : ℕ). length cells ≤ k * size) (let same : n + 0 ≡ n = omega arith in same) few)
cells_of_parts cells size n (None ∷ parts) some few = absurd (All-head IsSomePart None parts some)
cells_of_parts cells size n (Some records ∷ parts) some few =
    sym (take-append-drop size (drop (n * size) cells))
    ∙ ap (λ (l : List Cell). slice_chunk cells size n ++ l)
    (drop-drop size (n * size) cells
    ∙ ap (λ (k : ℕ). drop k cells) (sym (suc-mul n size))
    ∙ cells_of_parts cells size (suc n) parts (All-tail IsSomePart (Some records) parts some)
    (subst (λ (k : ℕ). length cells ≤ k * size)
    (let same : n + suc (length parts) ≡ suc n + length parts = omega arith in same) few))

records_of_parts : (cells : List Cell) (size n : ℕ) (parts : List PartRecords) → AreSome parts
    → flat_map records_in parts ≡ flat_map (λ (part : ServedPart). part.records) (parts_of cells size n parts)
records_of_parts cells size n [] some = refl
records_of_parts cells size n (None ∷ parts) some = absurd (All-head IsSomePart None parts some)
records_of_parts cells size n (Some records ∷ parts) some =
    ap (λ (l : List Record). records.items ++ l)
    (records_of_parts cells size (suc n) parts (All-tail IsSomePart (Some records) parts some))

-- each is served where each came of the cells of its number
abbrev IsOfChunk : (book : Contents) (slots size n : ℕ) → PartRecords → Type 0
IsOfChunk book slots size n part =
    IfSome part (λ records. IsServedPart book slots (served_with (slice_chunk book.cells size n) records.items))

served_parts : (book : Contents) (slots size n : ℕ) (parts : List PartRecords)
    → ((k at : ℕ) (d : PartRecords) → k < length parts → at ≡ n + k → IsOfChunk book slots size at (get_or parts k d))
    → AreSome parts
    → All (IsServedPart book slots) (parts_of book.cells size n parts)
served_parts book slots size n [] each some = All-nil (IsServedPart book slots)
served_parts book slots size n (None ∷ parts) each some = absurd (All-head IsSomePart None parts some)
served_parts book slots size n (Some records ∷ parts) each some =
    All-cons (IsServedPart book slots) (served_with (slice_chunk book.cells size n) records.items)
    (parts_of book.cells size (suc n) parts)
    (each 0 n (Some records) (omega arith) (omega arith))
    (served_parts book slots size (suc n) parts
    (λ k at d within is. each (suc k) at d (omega (arith, within)) (omega (arith, is)))
    (All-tail IsSomePart (Some records) parts some))

-- what is joined of parts, with one more
pub joined_next : (parts : List PartRecords) (part : PartRecords) (all new : List Record) (records : Vec Record Global)
    → all ≡ flat_map records_in parts → part ≡ Some records → new ≡ all ++ records.items
    → new ≡ flat_map records_in (parts ++ part ∷ [])
joined_next parts part all new records before is more =
    more
    ∙ ap (λ (l : List Record). l ++ records.items) before
    ∙ sym (ap (λ (x : PartRecords). flat_map records_in (parts ++ x ∷ [])) is
    ∙ flat_map-append records_in parts (Some records ∷ [])
    ∙ ap (λ (l : List Record). flat_map records_in parts ++ l) (append-nil records.items))

-- and each of them has records
pub some_next : (parts : List PartRecords) (part : PartRecords) (records : Vec Record Global) → AreSome parts
    → part ≡ Some records → AreSome (parts ++ part ∷ [])
some_next parts part records some is =
    All-push IsSomePart parts part some (subst IsSomePart (sym is) tt)

-- so the records of all parts are those of a run of the book, if there are some
parts_have_run : ServedPartsInARow → (book : Contents) (slots size : ℕ) (parts : List PartRecords)
    (records : List Record)
    → IsSomeBook book → 0 < size → AreServedParts book slots size parts → AreSome parts
    → records ≡ flat_map records_in parts
    → HaveRunLive book slots 1 records
parts_have_run law book slots size parts records is more served some all =
    let own : List ServedPart = parts_of book.cells size 0 parts in
    let run = law is.0 is.1 book slots own is.2
    (sym (ap (λ (k : ℕ). drop k book.cells) (zero-mul size))
    ∙ cells_of_parts book.cells size 0 parts some
    (subst (λ (k : ℕ). length book.cells ≤ k * size)
    (let same : length parts ≡ 0 + length parts = omega arith in same)
    (enough (length parts) (length book.cells) size more served.count)))
    (served_parts book slots size 0 parts
    (λ k at d within same. subst (λ (n : ℕ). IsOfChunk book slots size n (get_or parts k d))
    (let is : k ≡ at = omega (arith, same) in is) (served.each k d within)) some) in
    subst (HaveRunLive book slots 1) (sym (all ∙ records_of_parts book.cells size 0 parts some))
    (record { sessions = run.0 ∷ []; parted = refl; run = run.1 })

-- and what is joined of them has it
pub joined_have_run : ServedPartsInARow → (book : Contents) (slots size : ℕ) (parts : List PartRecords)
    (result : PartRecords)
    → IsSomeBook book → 0 < size → AreServedParts book slots size parts
    → IfSome result (λ records. AreSome parts × (records.items ≡ flat_map records_in parts))
    → IfSome result (λ records. HaveRunLive book slots 1 records.items)
joined_have_run law book slots size parts None is more served joined = tt
joined_have_run law book slots size parts (Some records) is more served joined =
    parts_have_run law book slots size parts records.items is more served joined.0 joined.1
