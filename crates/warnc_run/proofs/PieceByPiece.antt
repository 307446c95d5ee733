-- Tapes that are written piece by piece.
use Rattle.std.proofs.Common.{◌≡◌, ◌∙◌, ℕ, ◌+◌, ◌*◌, ◌<◌, ◌≤◌, ◌⊎◌, inl, inr, List, [], ◌++◌, length, map, take}
use Rattle.std.proofs.Common.{Option, ap, ap₂, append_assoc, append-nil, get_or, refl, subst, sym, Err, IfErr, Ok, OnOk}
use Rattle.std.proofs.Common.{Result}
use native.Mathlib.Omega.{arith}
use Rattle.std.specs.Prelude.{⊤}
use Rattle.std.specs.List.{flat_map}
use Rattle.std.proofs.KnownBytes.{Appends-nil, Appends-trans}
use Rattle.std.specs.Io.KnownBytes.{Appends}
use Rattle.std.proofs.lemmas.List.{get_or-map, length-append, length-map, take-append-le, take-map}
use Rattle.std.proofs.Math.Seq.{take-append-add}
use Rattle.bsc_table.specs.Record.{Record}
use Rattle.cbch_blocks.specs.PieceLaws.{PiecesFollow, PiecesHaveOctets, PiecesStart, TapesEnd}
use Rattle.cbch_blocks.specs.Pieces.{piece_from, piece_start, tape_from}
use Rattle.cbch_blocks.specs.RecordBlocks.{tape_of_record}
use Rattle.alert_book.specs.Book.{Contents}
use Rattle.warnc_run.specs.declared.fault.RunFault.{RunFault}
use Rattle.warnc_run.specs.declared.fault.RunFault.TheVariants as run
use Rattle.warnc_run.specs.Faults.{IsPieceFault}
use Rattle.warnc_run.specs.RunSteps.{HasItsSize, HasWritten, HaveRunLive, StopsAtTape, TakesFront}
use Rattle.warnc_run.specs.StrictSteps.{StopsAtRecord}
use Rattle.warnc_run.proofs.Written.{joined, joined_tapes, takes_front}

-- a writer took a record's tape up to this slot
pub record IsUnderWay (r : Record) (first : ℕ) (old new : Option (List ℕ)) : Type 0 where
  pub front : List ℕ
  pub split : tape_of_record r ≡ front ++ tape_from first r
  pub taken : Appends old new front

-- before its first piece
pub under_way_begins : (r : Record) (old : Option (List ℕ)) → IsUnderWay r 0 old old
under_way_begins r old = record {
  front = [];
  split = refl;
  taken = Appends-nil old;
}

-- and behind one more
pub under_way_goes : PiecesFollow → (r : Record) (first next : ℕ) (a b c : Option (List ℕ))
    → next ≡ first + 256
    → IsUnderWay r first a b
    → Appends b c (piece_from first r)
    → IsUnderWay r next a c
under_way_goes follow r first next a b c is under_way more = record {
  front = under_way.front ++ piece_from first r;
  split = under_way.split
      ∙ ap (λ (octets : List ℕ). under_way.front ++ octets) (follow r first)
      ∙ sym (append_assoc under_way.front (piece_from first r) (tape_from (first + 256) r))
      ∙ ap (λ (n : ℕ). (under_way.front ++ piece_from first r) ++ tape_from n r) (sym is);
  taken = Appends-trans a b c under_way.front (piece_from first r) under_way.taken more;
}

-- behind the last slot it took the tape
pub under_way_ends : TapesEnd → (r : Record) (first : ℕ) (a b : Option (List ℕ))
    → length r.air ≡ r.slots
    → 0 < first
    → r.slots ≤ first
    → IsUnderWay r first a b
    → Appends a b (tape_of_record r)
under_way_ends ends r first a b played later past under_way =
    subst (Appends a b) (sym (under_way.split
    ∙ ap (λ (octets : List ℕ). under_way.front ++ octets) (ends r first later (omega (arith, past, played)))
    ∙ append-nil under_way.front)) under_way.taken

-- a piece of a number begins within its tape
pub begins_within : (number count slots own : ℕ) → number < count
    → (count * 256 < slots + 256) ⊎ (count ≡ 1)
    → slots ≡ own
    → (number * 256 ≡ 0) ⊎ (number * 256 < own)
begins_within number count slots own below (inl few) is = inr (omega (arith, below, few, is))
begins_within number count slots own below (inr one) is = inl (omega (arith, below, one))

-- such a piece has octets: the first its tape's header, and each later one a slot's
piece_has_octets : PiecesHaveOctets → (r : Record) (first : ℕ)
    → length r.air ≡ r.slots
    → (first ≡ 0) ⊎ (first < r.slots)
    → 0 < length (piece_from first r)
piece_has_octets have r first played (inl is) =
    subst (λ (n : ℕ). 0 < length (piece_from n r)) (sym is) (omega arith)
piece_has_octets have r first played (inr within) = have r first (omega (arith, within, played))

-- a writer took these octets of a tape, and not all
pub record StopsIn (r : Record) (written : ℕ) (old new : Option (List ℕ)) : Type 0 where
  pub less : written < length (tape_of_record r)
  pub taken : Appends old new (take written (tape_of_record r))

-- where it took a front of a piece, which is made of these octets
pub stops_in_piece : PiecesFollow → PiecesStart → PiecesHaveOctets → (r : Record) (first out written : ℕ)
    (octets : List ℕ) (a b c : Option (List ℕ))
    → HasItsSize r
    → length r.air ≡ r.slots
    → (first ≡ 0) ⊎ (first < r.slots)
    → octets ≡ piece_from first r
    → (0 < length octets → out < length octets)
    → written ≡ piece_start first + out
    → IsUnderWay r first a b
    → Appends b c (take out octets)
    → StopsIn r written a c
stops_in_piece follow starts have r first out written octets a b c sized played begins made front_of counted under_way
    more = record {
      less = omega (arith, short, start, counted, followed, pieces);
      taken = subst (Appends a c) own (Appends-trans a b c front (take out piece) under_way.taken
          (subst (λ (o : List ℕ). Appends b c (take out o)) made more));
    }
  where
    front : List ℕ
    front = under_way.front

    piece : List ℕ
    piece = piece_from first r

    rest : List ℕ
    rest = tape_from (first + 256) r

    some : 0 < length octets
    some = subst (λ (o : List ℕ). 0 < length o) (sym made) (piece_has_octets have r first played begins)

    short : out < length piece
    short = subst (λ (o : List ℕ). out < length o) made (front_of some)

    within : (first ≡ 0) ⊎ (first < r.slots) → first ≤ r.slots
    within (inl none) = omega (arith, none)
    within (inr less) = omega (arith, less)

    start : piece_start first + length (tape_from first r) ≡ length (tape_of_record r)
    start = starts r first (sized ∙ ap (λ (n : ℕ). 8 + 92 * n) (sym played))
        (omega (arith, within begins, played))

    followed : length (tape_from first r) ≡ length (piece ++ rest)
    followed = ap length (follow r first)

    pieces : length (piece ++ rest) ≡ length piece + length rest
    pieces = length-append piece rest

    long : length (tape_of_record r) ≡ length (front ++ tape_from first r)
    long = ap length under_way.split

    both : length (front ++ tape_from first r) ≡ length front + length (tape_from first r)
    both = length-append front (tape_from first r)

    count : length front + out ≡ written
    count = omega (arith, start, long, both, counted)

    whole : tape_of_record r ≡ front ++ (piece ++ rest)
    whole = under_way.split ∙ ap (λ (octets : List ℕ). front ++ octets) (follow r first)

    own : front ++ take out piece ≡ take written (tape_of_record r)
    own = ap (λ (octets : List ℕ). front ++ octets) (sym (take-append-le out piece rest (omega (arith, short))))
        ∙ sym (take-append-add front (piece ++ rest) out)
        ∙ ap₂ take count (sym whole)

-- the writer took whole tapes, and a front of the next
pub stops_at_record : (records : List Record) (place written : ℕ) (r : Record) (a b c : Option (List ℕ))
    → place < length records
    → r ≡ get_or records place r
    → written < length (tape_of_record r)
    → Appends a b (flat_map tape_of_record (take place records))
    → Appends b c (take written (tape_of_record r))
    → TakesFront (map tape_of_record records) written a c
stops_at_record records place written r a b c within is less before more =
    takes_front a b c (map tape_of_record records) place written (tape_of_record r)
    (omega (arith, within, length-map records tape_of_record))
    (ap tape_of_record is ∙ sym (get_or-map tape_of_record records place r (tape_of_record r) within))
    less
    (subst (Appends a b) (sym (ap joined (take-map tape_of_record place records)
    ∙ joined_tapes (take place records))) before)
    more

-- where the tapes of a run's records are written, it has written
pub has_written : (book : Contents) (slots parts : ℕ) (records shown : List Record) (old new : Option (List ℕ))
    (r : Result ⊤ RunFault)
    → HaveRunLive book slots parts records
    → shown ≡ records
    → OnOk r (Appends old new (flat_map tape_of_record shown))
    → OnOk r (HasWritten book slots parts old new)
has_written book slots parts records shown old new (Ok done) live is taken = record {
  tapes = map tape_of_record records;
  are = record {
    records = records;
    live = live;
    made = refl;
  };
  taken = subst (Appends old new) (ap (flat_map tape_of_record) is ∙ sym (joined_tapes records)) taken;
}
has_written book slots parts records shown old new (Err fault) live is taken = tt

-- and where they aren't all written, it stops at a tape
pub stops_at_tape : (book : Contents) (slots parts : ℕ) (records shown : List Record) (old new : Option (List ℕ))
    (r : Result ⊤ RunFault)
    → HaveRunLive book slots parts records
    → shown ≡ records
    → IfErr r (StopsAtRecord shown old new)
    → IfErr r (StopsAtTape book slots parts old new)
stops_at_tape book slots parts records shown old new (Ok done) live is why = tt
stops_at_tape book slots parts records shown old new (Err fault) live is why = by_fault fault why
  where
    refused : (f : RunFault) → f ≡ run.Refused → StopsAtTape book slots parts old new f
    refused f is = subst (StopsAtTape book slots parts old new) (sym is) tt

    by_fault : (f : RunFault) → StopsAtRecord shown old new f → StopsAtTape book slots parts old new f
    by_fault (run.Write failed) front = record {
      tapes = map tape_of_record records;
      are = record {
        records = records;
        live = live;
        made = refl;
      };
      taken = subst (λ (all : List Record). TakesFront (map tape_of_record all) failed.written old new) is front;
    }
    by_fault (run.Book f) why = refused (run.Book f) why
    by_fault (run.NoGroup groups) why = refused (run.NoGroup groups) why
    by_fault (run.Desk f) why = refused (run.Desk f) why
    by_fault (run.Settle f) why = refused (run.Settle f) why
    by_fault (run.Compile f) why = refused (run.Compile f) why
    by_fault run.Refused why = refused run.Refused why

-- for no other reason than the writer or memory
pub stops_at_no_piece : (records : List Record) (old new : Option (List ℕ)) (r : Result ⊤ RunFault)
    → IfErr r (StopsAtRecord records old new)
    → IfErr r (λ fault. IsPieceFault fault → ⊥)
stops_at_no_piece records old new (Ok done) why = tt
stops_at_no_piece records old new (Err fault) why = by_fault fault why
  where
    refused : (f : RunFault) → f ≡ run.Refused → IsPieceFault f → ⊥
    refused f is = subst (λ (f : RunFault). IsPieceFault f → ⊥) (sym is) (λ piece. piece)

    by_fault : (f : RunFault) → StopsAtRecord records old new f → IsPieceFault f → ⊥
    by_fault (run.Write failed) front = λ piece. piece
    by_fault (run.Book f) why = refused (run.Book f) why
    by_fault (run.NoGroup groups) why = refused (run.NoGroup groups) why
    by_fault (run.Desk f) why = refused (run.Desk f) why
    by_fault (run.Settle f) why = refused (run.Settle f) why
    by_fault (run.Compile f) why = refused (run.Compile f) why
    by_fault run.Refused why = refused run.Refused why
