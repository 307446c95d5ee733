-- How tapes are written, and of which run they are.
use Rattle.std.proofs.Common.{◌≡◌, ℕ, ◌<◌, ◌≤◌, List, [], ◌∷◌, ◌++◌, length, map, take, get_or, All}
use Rattle.std.proofs.Common.{Option, Result, Err, IfErr, refl, sym, subst, ap, append_assoc, ◌∙◌, suc}
use Rattle.std.proofs.Common.{true, rules, None, replicate}
use Rattle.std.proofs.Common.{◌⊎◌, inl, inr, ◌+◌, ◌*◌, zero}
use native.Mathlib.Omega.{arith}
use Rattle.std.proofs.KnownBytes.{Appends-nil, Appends-trans}
use Rattle.std.specs.Io.KnownBytes.{Appends, Keeps}
use Rattle.std.specs.List.{flat_map}
use Rattle.std.proofs.lemmas.Grind.{flat_map-append}
use Rattle.std.proofs.lemmas.List.{get_or_default, get_or-map, get_or_past, length-append, length-map, take-append-le}
use Rattle.std.proofs.lemmas.List.{take_all}
use Rattle.std.proofs.lemmas.List.Elements.{All-head, All-map, All-tail, All-weaker}
use Rattle.std.proofs.Math.Nat.{mul-le-mul_left}
use Rattle.std.proofs.lemmas.Bool.{cases_lt}
use Rattle.std.proofs.Math.Seq.{take-append-add}
use Rattle.std.specs.List.{AllByRecursion}
use Rattle.handset.specs.Tape.{IsTape, TapeReading, slots_in}
use Rattle.cbch_blocks.specs.Blocks.{idle_blocks}
use Rattle.cbch_blocks.specs.RecordBlocks.{blocks_of_uses, octets_of_blocks, tape_header}
use Rattle.cbch_blocks.specs.Slots.{silent_record}
use Rattle.book_runs.specs.Meant.{IsMeantIn}
use Rattle.alert_book.specs.declared.network.Origin.{Origin}
use Rattle.alert_book.specs.Book.{Contents}
use Rattle.alert_book.specs.Origin.{IsBookFrom}
use Rattle.cbsp_wire.specs.declared.message.Cell.{Cell}
use Rattle.cbsp_wire.specs.Range.{cells_are_valid}
use Rattle.bsc_table.specs.Promised.{IsServed, LegalHistoriesAreServed}
use Rattle.bsc_table.specs.Record.{Record}
use Rattle.cbch_blocks.specs.RecordBlocks.{tape_of_record}
use Rattle.book_runs.specs.Live.{IsRunBy}
use Rattle.book_runs.specs.LiveLaws.{LiveRunsAcceptWhatWasOrdered, LiveRunsShowTheBook}
use Rattle.warnc_run.specs.declared.fault.RunFault.{RunFault}
use Rattle.warnc_run.specs.declared.fault.RunFault.TheVariants as run
use Rattle.parallel_compile.specs.declared.fault.CompileFault.TheVariants as compile
use Rattle.warnc_run.specs.Faults.{HasReadFrom, IsOfBook, IsOfProduct, IsRunFault, IsSettleFault, IsWriteFault}
use Rattle.warnc_run.specs.Made.{tape_size}
use Rattle.warnc_run.specs.Products.{IsLiveFrom, RunOf}
use Rattle.warnc_run.specs.RunSteps.{AreTapesOf, HasItsSize, HasNoBookToRun, HaveRunLive, IsOfTapes, StopsAtTape}
use Rattle.warnc_run.specs.RunSteps.{TakesFront}
use Rattle.warnc_run.specs.declared.product.Product.{Product}
use Rattle.warnc_run.specs.declared.product.Product.TheVariants as product

-- tapes, one after the other
abbrev pub joined : List (List ℕ) → List ℕ
joined tapes = flat_map (λ (tape : List ℕ). tape) tapes

-- tapes of one size: whole ones and a front of the next are a front of all of them, joined
front_is : (size : ℕ) (tapes : List (List ℕ)) (place written n : ℕ)
    → All (λ tape. length tape ≡ size) tapes
    → written ≤ size
    → n ≡ size * place + written
    → joined (take place tapes) ++ take written (get_or tapes place []) ≡ take n (joined tapes)
front_is size [] place written n sizes fits is =
    let none : List (List ℕ) = [] in
    let nothing : List ℕ = [] in
    ap (λ (front : List (List ℕ)). joined front ++ take written (get_or none place nothing))
    (take_all place none (omega arith))
    ∙ ap (take written) (get_or_past none place nothing (omega arith))
    ∙ take_all written nothing (omega arith) ∙ sym (take_all n nothing (omega arith))
front_is size (tape ∷ tapes) zero written n sizes fits is =
    let long : length tape ≡ size = All-head (λ (t : List ℕ). length t ≡ size) tape tapes sizes in
    let same : n ≡ written = omega (arith, is) in
    sym (take-append-le written tape (joined tapes) (omega (arith, long, fits)))
    ∙ ap (λ (m : ℕ). take m (tape ++ joined tapes)) (sym same)
front_is size (tape ∷ tapes) (suc place) written n sizes fits is =
    let long : length tape ≡ size = All-head (λ (t : List ℕ). length t ≡ size) tape tapes sizes in
    let rest = All-tail (λ (t : List ℕ). length t ≡ size) tape tapes sizes in
    let m = size * place + written in
    let more : n ≡ length tape + m = omega (arith, is, long) in
    append_assoc tape (joined (take place tapes)) (take written (get_or tapes place []))
    ∙ ap (λ (octets : List ℕ). tape ++ octets) (front_is size tapes place written m rest fits refl)
    ∙ sym (take-append-add tape (joined tapes) m)
    ∙ ap (λ (k : ℕ). take k (tape ++ joined tapes)) (sym more)

-- and how many octets they have
joined_length : (size : ℕ) (tapes : List (List ℕ)) → All (λ tape. length tape ≡ size) tapes
    → length (joined tapes) ≡ size * length tapes
joined_length size [] sizes = omega arith
joined_length size (tape ∷ tapes) sizes =
    let long : length tape ≡ size = All-head (λ (t : List ℕ). length t ≡ size) tape tapes sizes in
    let rest = joined_length size tapes (All-tail (λ (t : List ℕ). length t ≡ size) tape tapes sizes) in
    let both = length-append tape (joined tapes) in
    omega (arith, long, rest, both)

-- what a writer took of tapes of one size
pub record TakesFrontOf (size written : ℕ) (old new : Option (List ℕ)) (output : List ℕ) : Type 0 where
  pub whole : ℕ
  pub under_way : written < size
  pub some_left : 0 < length output → size * whole + written < length output
  pub front : Appends old new (take (size * whole + written) output)

-- a front of tapes of one size is a front of all of them, joined
pub front_taken : (size : ℕ) (tapes : List (List ℕ)) (written : ℕ) (old new : Option (List ℕ))
    → 0 < size
    → All (λ tape. length tape ≡ size) tapes
    → TakesFront tapes written old new
    → TakesFrontOf size written old new (joined tapes)
front_taken size tapes written old new some sizes taken =
    by_place (cases_lt taken.place (length tapes))
  where
    inside : taken.place < length tapes → written < size
    inside within =
        let long : length (get_or tapes taken.place []) ≡ size = sizes taken.place [] within in
        omega (arith, taken.less within, long)

    room : taken.place < length tapes → size * taken.place + written < size * length tapes
    room within =
        let most : size * (taken.place + 1) ≤ size * length tapes = mul-le-mul_left size (omega (arith, within)) in
        omega (arith, most, inside within)

    front : written < size → Appends old new (take (size * taken.place + written) (joined tapes))
    front less = subst (Appends old new)
        (front_is size tapes taken.place written (size * taken.place + written) sizes (omega (arith, less)) refl)
        taken.appended

    by_place : (taken.place < length tapes) ⊎ (length tapes ≤ taken.place)
        → TakesFrontOf size written old new (joined tapes)
    by_place (inl within) = record {
      whole = taken.place;
      under_way = inside within;
      some_left = λ _. omega (arith, room within, joined_length size tapes sizes);
      front = front (inside within);
    }
    by_place (inr past) =
        let less : written < size = omega (arith, taken.none past, some) in
        let empty : length tapes ≡ 0 = none_left past in record {
          whole = taken.place;
          under_way = less;
          some_left = λ there. absurd (omega (
            arith,
            there,
            joined_length size tapes sizes,
            nothing (length tapes) empty,
          ));
          front = front less;
        }
      where
        none_left : length tapes ≤ taken.place → length tapes ≡ 0
        none_left past = by_count (cases_lt 0 (length tapes))
          where
            by_count : (0 < length tapes) ⊎ (length tapes ≤ 0) → length tapes ≡ 0
            by_count (inl there) = absurd (omega (arith, taken.within there, past))
            by_count (inr none) = omega (arith, none)

        nothing : (n : ℕ) → n ≡ 0 → size * n ≡ 0
        nothing n is = ap (λ (k : ℕ). size * k) is ∙ (omega arith)

-- before the first of them nothing went out
pub takes_nothing : (a : Option (List ℕ)) (tapes : List (List ℕ)) → All (λ tape. 0 < length tape) tapes
    → TakesFront tapes 0 a a
takes_nothing a tapes some = record {
  place = 0;
  within = λ there. there;
  less = λ within. some 0 [] within;
  none = λ past. refl;
  appended = Appends-nil a;
}

-- after whole tapes a front of one more went out
pub takes_front : (a b c : Option (List ℕ)) (tapes : List (List ℕ)) (i written : ℕ) (tape : List ℕ)
    → i < length tapes
    → tape ≡ get_or tapes i tape
    → written < length tape
    → Appends a b (joined (take i tapes))
    → Appends b c (take written tape)
    → TakesFront tapes written a c
takes_front a b c tapes i written tape within is less before under_way =
    let same : tape ≡ get_or tapes i [] = is ∙ get_or_default tapes i tape [] within in record {
      place = i;
      within = λ _. within;
      less = λ _. subst (λ (t : List ℕ). written < length t) same less;
      none = λ past. absurd (omega (arith, past, within));
      appended = Appends-trans a b c (joined (take i tapes)) (take written (get_or tapes i [])) before
          (subst (λ (t : List ℕ). Appends b c (take written t)) same under_way);
    }

-- the octets of blocks of 23 each
blocks_size : (blocks : List (List ℕ)) → AllByRecursion (λ block. length block ≡ 23) blocks
    → length (octets_of_blocks blocks) ≡ 23 * length blocks
blocks_size [] each = refl
blocks_size (block ∷ blocks) each =
    let here : length block ≡ 23 = each.0 in
    let rest = blocks_size blocks each.1 in
    let both = length-append block (octets_of_blocks blocks) in
    omega (arith, here, rest, both)

-- a tape has the octets that its slots say
tape_has_size : (octets : List ℕ) (reading : TapeReading) → IsTape octets reading
    → length octets ≡ tape_size reading.slots
tape_has_size octets reading tape =
    let whole : length octets ≡ length (tape.header ++ octets_of_blocks tape.blocks) = ap length tape.joined in
    let both = length-append tape.header (octets_of_blocks tape.blocks) in
    let blocks = blocks_size tape.blocks tape.slots.each in
    let slots : reading.slots ≡ slots_in tape.header = ap (λ (x : TapeReading). x.slots) tape.reading_is in
    omega (arith, whole, both, blocks, tape.eight, tape.slots.four, slots)

-- and so have the tapes of a run's records
pub tapes_have_size : (book : Contents) (slots : ℕ) (records : List Record)
    → All (IsMeantIn book) records
    → All (λ r. r.slots ≡ slots) records
    → All (λ tape. length tape ≡ tape_size slots) (map tape_of_record records)
tapes_have_size book slots records meant runs =
    All-map (λ (tape : List ℕ). length tape ≡ tape_size slots) tape_of_record records
    (λ k d within. tape_has_size _ _ (meant k d within).tape ∙ ap tape_size (runs k d within))

-- or, of any that are these
pub records_have_size : LiveRunsShowTheBook → (from : Origin) (input : List ℕ) (book : Contents) (slots parts : ℕ)
    (records shown : List Record)
    → slots ≤ 65535
    → IsBookFrom from input book
    → HaveRunLive book slots parts records
    → shown ≡ records
    → All (λ r. length (tape_of_record r) ≡ tape_size slots) shown
records_have_size law from input book slots parts records shown few is_book live is =
    subst (All (λ (r : Record). length (tape_of_record r) ≡ tape_size slots)) (sym is)
    (λ k d within. ap length (sym (get_or-map tape_of_record records k d (tape_of_record d) within))
    ∙ sizes k (tape_of_record d) (subst (λ (n : ℕ). k < n) (sym (length-map records tape_of_record)) within))
  where
    sizes : All (λ tape. length tape ≡ tape_size slots) (map tape_of_record records)
    sizes = tapes_have_size book slots records (law from input book slots live.sessions records is_book few live.run)
        (All-weaker (IsRunBy slots live.sessions) (λ (r : Record). r.slots ≡ slots) (λ r run. run.run) records
        live.run.each)

-- each has that of its own slots
pub records_have_own_size : LiveRunsShowTheBook → (from : Origin) (input : List ℕ) (book : Contents)
    (slots parts : ℕ) (records shown : List Record)
    → slots ≤ 65535
    → IsBookFrom from input book
    → HaveRunLive book slots parts records
    → shown ≡ records
    → All HasItsSize shown
records_have_own_size law from input book slots parts records shown few is_book live is =
    let meant = law from input book slots live.sessions records is_book few live.run in
    subst (All HasItsSize) (sym is) (λ k d within. tape_has_size _ _ (meant k d within).tape)

-- a fact of an error holds where that is the error
pub where_it_is : {T E : Type 0} (P : E → Type 0) (r : Result T E) (e : E) → r ≡ Err e → P e → IfErr r P
where_it_is P r e is holds = subst (λ x. IfErr x P) (sym is) holds

-- tapes of records aren't empty
pub tapes_have_octets : (tapes : List (List ℕ)) (records : List Record) → tapes ≡ map tape_of_record records
    → All (λ tape. 0 < length tape) tapes
tapes_have_octets tapes records made =
    subst (All (λ (tape : List ℕ). 0 < length tape)) (sym made)
    (All-map (λ (tape : List ℕ). 0 < length tape) tape_of_record records (λ k d within. omega arith))

-- a book's cells are few, and so are their records
pub records_are_few : (cells : List Cell) (records shown : List Record)
    → cells_are_valid cells ≡ true
    → map (λ (r : Record). r.cell) records ≡ cells
    → shown ≡ records
    → length shown ≤ 64
records_are_few cells records shown valid are is =
    let few : length cells ≤ 64 = search (rules, valid) in
    subst (λ (n : ℕ). n ≤ 64)
    (sym (ap length is ∙ sym (length-map records (λ (r : Record). r.cell)) ∙ ap length are)) few

-- and joined they are the output
pub joined_tapes : (records : List Record) → joined (map tape_of_record records) ≡ flat_map tape_of_record records
joined_tapes [] = refl
joined_tapes (r ∷ records) = ap (λ (rest : List ℕ). tape_of_record r ++ rest) (joined_tapes records)

-- what has one element is that one
pub only : {X : Type 0} (xs : List X) → length xs ≡ 1 → (x : X) × (xs ≡ x ∷ [])
only [] count = absurd (omega (arith, count))
only (x ∷ []) count = (x, refl)
only (x ∷ (y ∷ rest)) count = absurd (omega (arith, count))

-- the records of a run of the book whose octets were read
unfoldable pub run_of_book : LiveRunsShowTheBook → LiveRunsAcceptWhatWasOrdered → LegalHistoriesAreServed
    → (from : Origin) (input : List ℕ) (book : Contents) (slots parts : ℕ) (records : List Record)
    → slots ≤ 65535
    → IsBookFrom from input book
    → HaveRunLive book slots parts records
    → RunOf from slots parts input records
run_of_book law orders keeps from input book slots parts records few is_book live = record {
  book = book;
  is_book = is_book;
  sessions = live.sessions;
  parted = live.parted;
  run = live.run;
  meant = law from input book slots live.sessions records is_book few live.run;
  accepted = orders from input book slots live.sessions records is_book live.run;
  served = All-weaker (IsRunBy slots live.sessions) IsServed (λ r run. keeps r run.legal) records live.run.each;
}

-- its tapes
pub made_live : LiveRunsShowTheBook → LiveRunsAcceptWhatWasOrdered → LegalHistoriesAreServed
    → (from : Origin) (input : List ℕ) (book : Contents) (slots parts : ℕ) (tapes : List (List ℕ))
    → slots ≤ 65535
    → IsBookFrom from input book
    → AreTapesOf book slots parts tapes
    → IsLiveFrom from slots parts input (joined tapes)
made_live law orders keeps from input book slots parts tapes few is_book are = record {
  records = are.records;
  run = run_of_book law orders keeps from input book slots parts are.records few is_book are.live;
  written = ap joined are.made ∙ joined_tapes are.records;
}

-- what a writer that failed took of the tapes of a run
pub taken_of_run : LiveRunsShowTheBook → (from : Origin) (input : List ℕ) (book : Contents) (slots parts : ℕ)
    (tapes : List (List ℕ)) (written : ℕ) (old new : Option (List ℕ))
    → slots ≤ 65535
    → IsBookFrom from input book
    → AreTapesOf book slots parts tapes
    → TakesFront tapes written old new
    → TakesFrontOf (tape_size slots) written old new (joined tapes)
taken_of_run law from input book slots parts tapes written old new few is_book are taken =
    front_taken (tape_size slots) tapes written old new (omega arith)
    (subst (All (λ (tape : List ℕ). length tape ≡ tape_size slots)) (sym are.made)
    (tapes_have_size book slots are.records
    (law from input book slots are.live.sessions are.records is_book few are.live.run)
    (All-weaker (IsRunBy slots are.live.sessions) (λ (r : Record). r.slots ≡ slots) (λ r run. run.run) are.records
    are.live.run.each))) taken

-- a fault of a run under way isn't the writer's, nor a wrong tape's, and is one of the tapes
pub of_any_product : (book : Contents) (slots parts : ℕ) (made : Product) (f : RunFault) → IsOfBook book slots parts f
    → IsOfProduct f made × IsOfTapes book slots parts f
of_any_product book slots parts made (run.Book f) is = absurd is
of_any_product book slots parts made (run.NoGroup groups) is = absurd is
of_any_product book slots parts made (run.Desk f) is = (tt, is)
of_any_product book slots parts made (run.Settle f) is = (tt, is)
of_any_product book slots parts made (run.Compile compile.Workers) is = absurd (apart is)
  where
    apart : compile.Workers ≡ compile.Refused → ⊥
    apart h = search (rules, h)
of_any_product book slots parts made (run.Compile compile.Refused) is = (tt, λ h. search (rules, h))
of_any_product book slots parts made (run.Compile (compile.Piece index)) is = absurd (apart is)
  where
    apart : compile.Piece index ≡ compile.Refused → ⊥
    apart h = search (rules, h)
of_any_product book slots parts made (run.Write failed) is = absurd is
of_any_product book slots parts made run.Refused is = (tt, is)

-- nor is one of the book that was to be read
pub of_no_product : (from : Origin) (first last : Option (List ℕ)) (made : Product) (f : RunFault)
    → HasNoBookToRun from first last f
    → IsOfProduct f made
of_no_product from first last made (run.Book f) is = tt
of_no_product from first last made (run.NoGroup groups) is = tt
of_no_product from first last made (run.Desk f) is = absurd is
of_no_product from first last made (run.Settle f) is = absurd is
of_no_product from first last made (run.Compile f) is = absurd is
of_no_product from first last made (run.Write failed) is = absurd is
of_no_product from first last made run.Refused is = absurd is

-- any fault of tapes is one of that product
pub of_tapes : (book : Contents) (slots parts : ℕ) (old new : Option (List ℕ)) (f : RunFault)
    → StopsAtTape book slots parts old new f
    → IsOfProduct f product.Tapes
of_tapes book slots parts old new (run.Book f) is = absurd is
of_tapes book slots parts old new (run.NoGroup groups) is = absurd is
of_tapes book slots parts old new (run.Desk f) is = tt
of_tapes book slots parts old new (run.Settle f) is = tt
of_tapes book slots parts old new (run.Compile compile.Workers) is = absurd (is refl)
of_tapes book slots parts old new (run.Compile compile.Refused) is = tt
of_tapes book slots parts old new (run.Compile (compile.Piece index)) is = tt
of_tapes book slots parts old new (run.Write failed) is = tt
of_tapes book slots parts old new run.Refused is = tt

-- a fault of the run of a book whose octets were read, with nothing written
pub fault_of_run : (from : Origin) (slots parts : ℕ) (Means : (input output : List ℕ) → Type 0)
    (first last old new : Option (List ℕ)) (book : Contents) (fault : RunFault)
    → (read : HasReadFrom from first last)
    → read.book ≡ book
    → IsOfTapes book slots parts fault
    → Keeps old new
    → IsRunFault from slots parts Means first last old new fault
fault_of_run from slots parts Means first last old new book (run.Book f) read is of_book kept = absurd of_book
fault_of_run from slots parts Means first last old new book (run.NoGroup groups) read is of_book kept = absurd of_book
fault_of_run from slots parts Means first last old new book (run.Desk f) read is of_book kept = (of_book, read, kept)
fault_of_run from slots parts Means first last old new book (run.Settle f) read is of_book kept =
    (read, subst (λ (b : Contents). IsSettleFault b slots parts f) (sym is) of_book, kept)
fault_of_run from slots parts Means first last old new book (run.Compile compile.Workers) read is of_book kept =
    (tt, kept)
fault_of_run from slots parts Means first last old new book (run.Compile compile.Refused) read is of_book kept =
    (read, kept)
fault_of_run from slots parts Means first last old new book (run.Compile (compile.Piece index)) read is of_book kept =
    (read, kept)
fault_of_run from slots parts Means first last old new book (run.Write failed) read is of_book kept = absurd of_book
fault_of_run from slots parts Means first last old new book run.Refused read is of_book kept = kept

-- a fault of the book that was to be read, with nothing written
pub fault_of_reading : (from : Origin) (slots parts : ℕ) (Means : (input output : List ℕ) → Type 0)
    (first last old new : Option (List ℕ)) (fault : RunFault)
    → HasNoBookToRun from first last fault
    → Keeps old new
    → IsRunFault from slots parts Means first last old new fault
fault_of_reading from slots parts Means first last old new (run.Book f) is kept = (is, kept)
fault_of_reading from slots parts Means first last old new (run.NoGroup groups) is kept = (is, kept)
fault_of_reading from slots parts Means first last old new (run.Desk f) is kept = absurd is
fault_of_reading from slots parts Means first last old new (run.Settle f) is kept = absurd is
fault_of_reading from slots parts Means first last old new (run.Compile f) is kept = absurd is
fault_of_reading from slots parts Means first last old new (run.Write failed) is kept = absurd is
fault_of_reading from slots parts Means first last old new run.Refused is kept = absurd is

-- the octets of idle slots
idle_long : (slots : ℕ) → length (octets_of_blocks (blocks_of_uses [] (replicate slots None))) ≡ 92 * slots
idle_long zero = refl
idle_long (suc slots) =
    let rest = blocks_of_uses [] (replicate slots None) in
    let both : length (octets_of_blocks (idle_blocks ++ rest)) ≡ length (octets_of_blocks idle_blocks)
    + length (octets_of_blocks rest) = ap length (flat_map-append (λ (block : List ℕ). block) idle_blocks rest)
    ∙ length-append (octets_of_blocks idle_blocks) (octets_of_blocks rest) in
    let own : length (octets_of_blocks idle_blocks) ≡ 92 = refl in
    omega (arith, both, own, idle_long slots)

-- and those of a silent cell's tape
pub silent_size : (cell : Cell) (slots : ℕ) → length (tape_of_record (silent_record cell slots)) ≡ tape_size slots
silent_size cell slots =
    let header = tape_header cell slots in
    let both = length-append header (octets_of_blocks (blocks_of_uses [] (replicate slots None))) in
    omega (arith, both, idle_long slots)

-- a fault of a run whose tapes were to be written, of the book whose octets were read
pub fault_of_writing : LiveRunsShowTheBook → LiveRunsAcceptWhatWasOrdered → LegalHistoriesAreServed
    → (from : Origin) (slots parts : ℕ) (first last old new : Option (List ℕ)) (book : Contents) (fault : RunFault)
    → slots ≤ 65535
    → (read : HasReadFrom from first last)
    → read.book ≡ book
    → StopsAtTape book slots parts old new fault
    → ((IsWriteFault fault → ⊥) → Keeps old new)
    → IsRunFault from slots parts (IsLiveFrom from slots parts) first last old new fault
fault_of_writing law orders keeps from slots parts first last old new book (run.Write failed) few read is stops kept =
    let is_book = subst (IsBookFrom from read.input) is read.is_book in
    let taken = taken_of_run law from read.input book slots parts stops.tapes failed.written old new few is_book
    stops.are stops.taken in record {
      input = read.input;
      output = joined stops.tapes;
      read = read.read;
      ended = read.ended;
      meant = made_live law orders keeps from read.input book slots parts stops.tapes few is_book stops.are;
      whole = taken.whole;
      under_way = taken.under_way;
      some_left = taken.some_left;
      front = taken.front;
    }
fault_of_writing law orders keeps from slots parts first last old new book (run.Book f) few read is stops kept =
    absurd stops
fault_of_writing law orders keeps from slots parts first last old new book (run.NoGroup groups) few read is stops kept =
    absurd stops
fault_of_writing law orders keeps from slots parts first last old new book (run.Desk f) few read is stops kept =
    (stops, read, kept (λ write. write))
fault_of_writing law orders keeps from slots parts first last old new book (run.Settle f) few read is stops kept =
    fault_of_run from slots parts (IsLiveFrom from slots parts) first last old new book (run.Settle f) read is stops
    (kept (λ write. write))
fault_of_writing law orders keeps from slots parts first last old new book (run.Compile f) few read is stops kept =
    fault_of_run from slots parts (IsLiveFrom from slots parts) first last old new book (run.Compile f) read is stops
    (kept (λ write. write))
fault_of_writing law orders keeps from slots parts first last old new book run.Refused few read is stops kept =
    kept (λ write. write)
