-- Pieces of tapes: one after the other they are the tape, and there is room for each.
use Rattle.std.proofs.Common.{◌≡◌, ◌∙◌, ℕ, zero, suc, ◌+◌, ◌*◌, ◌-◌, ◌<◌, ◌≤◌, ◌++◌, Option, Some, None, List, [], ◌∷◌}
use Rattle.std.proofs.Common.{Err, IsOk, Ok, OnOk, Result, inl, inr}
use Rattle.std.specs.Prelude.{⊤}
use Rattle.std.proofs.Common.{Bool, if◌then◌else◌, drop, take, length, min, ap, append_assoc, refl, sym, arith}
use Rattle.std.proofs.lemmas.Grind.{flat_map-append}
use Rattle.std.proofs.lemmas.Bool.{cases_lt, false≢true, ne_eqb}
use Rattle.std.proofs.lemmas.List.{drop-drop, drop-map, drop_all, length-append, length-drop, length-take}
use Rattle.std.proofs.lemmas.List.{length-take-le}
use Rattle.std.proofs.lemmas.List.{take-append-drop, take-map, take_all, take_min}
use Rattle.cbs_page.specs.declared.octets.PageView.{PageView}
use Rattle.scheduler.specs.Air.{Air}
use Rattle.bsc_table.specs.Book.{air_pairs, aired_pair}
use Rattle.bsc_table.specs.declared.entry.Aired.{Aired}
use Rattle.bsc_table.specs.declared.entry.Entry.{Entry}
use Rattle.bsc_table.specs.Record.{Record}
use Rattle.cbch_blocks.specs.PieceLaws.{PiecesFollow, PiecesHaveOctets, PiecesStart, TapesBegin, TapesEnd}
use Rattle.cbch_blocks.specs.Pieces.{header_before, piece_from, piece_size, most_piece_slots, piece_start, tape_from}
use Rattle.cbch_blocks.specs.RecordBlocks.{blocks_of_slot, blocks_of_uses, octets_of_blocks, octets_of_view, page_aired}
use Rattle.cbch_blocks.specs.RecordBlocks.{tape_header}

-- the octets of what slots air
abbrev octets_of_air : List Entry → Air → List ℕ
octets_of_air log air = octets_of_blocks (blocks_of_uses log air)

in_parts : (log : List Entry) (one other : Air)
    → octets_of_air log (one ++ other) ≡ octets_of_air log one ++ octets_of_air log other
in_parts log one other =
    ap octets_of_blocks (flat_map-append (λ used. blocks_of_slot (page_aired log used)) one other)
    ∙ flat_map-append (λ (block : List ℕ). block) (blocks_of_uses log one) (blocks_of_uses log other)

no_header : (first : ℕ) (r : Record) → 0 < first → header_before first r ≡ []
no_header first r later =
    ap (λ (is_first : Bool). if is_first then tape_header r.cell r.slots else [])
    (ne_eqb first 0 (λ is. omega (arith, later, is)))

-- from slot 0 on it is the tape
pub tapes_begin : TapesBegin
tapes_begin r = refl

behind_piece : (r : Record) (first : ℕ)
    → tape_from (first + most_piece_slots) r ≡ octets_of_air r.log (drop most_piece_slots (drop first r.air))
behind_piece r first =
    ap (λ (header : List ℕ). header ++ octets_of_air r.log (drop (first + most_piece_slots) r.air))
    (no_header (first + most_piece_slots) r (omega arith))
    ∙ ap (octets_of_air r.log) (sym (drop-drop most_piece_slots first r.air))

-- from any slot on it is a piece, and what follows
pub pieces_follow : PiecesFollow
pieces_follow r first =
    let left : Air = drop first r.air in
    ap (λ (octets : List ℕ). header_before first r ++ octets)
    (ap (octets_of_air r.log) (sym (take-append-drop most_piece_slots left))
    ∙ in_parts r.log (take most_piece_slots left) (drop most_piece_slots left))
    ∙ sym (append_assoc (header_before first r) (octets_of_air r.log (take most_piece_slots left))
    (octets_of_air r.log (drop most_piece_slots left)))
    ∙ ap (λ (octets : List ℕ). piece_from first r ++ octets) (sym (behind_piece r first))

-- nothing is behind the last slot
pub tapes_end : TapesEnd
tapes_end r first later past =
    ap (λ (header : List ℕ). header ++ octets_of_air r.log (drop first r.air)) (no_header first r later)
    ∙ ap (octets_of_air r.log) (drop_all first r.air past)

-- a slot has an octet or more
slot_has_octets : (page : Option PageView) (more : List (List ℕ))
    → 0 < length (octets_of_blocks (blocks_of_slot page ++ more))
slot_has_octets None more = omega arith
slot_has_octets (Some page) more = omega arith

air_has_octets : (log : List Entry) (air : Air) (count : ℕ) → 0 < length air
    → 0 < length (octets_of_air log (take (suc count) air))
air_has_octets log [] count there = absurd (omega (arith, there))
air_has_octets log (used ∷ air) count there =
    slot_has_octets (page_aired log used) (blocks_of_uses log (take count air))

-- a piece of a slot has octets
pub pieces_have_octets : PiecesHaveOctets
pieces_have_octets r first within =
    let octets : List ℕ = octets_of_air r.log (take most_piece_slots (drop first r.air)) in
    let left : length (drop first r.air) ≡ length r.air - first = length-drop first r.air in
    let there = air_has_octets r.log (drop first r.air) 255 (omega (arith, within, left)) in
    omega (arith, there, length-append (header_before first r) octets)

-- a slot has 92 at most
slot_is_short : (page : Option PageView) → length (octets_of_blocks (blocks_of_slot page)) ≤ 92
slot_is_short None = omega arith
slot_is_short (Some page) =
    let octets : List ℕ = octets_of_view page in
    let one = length-take 22 octets in
    let two = length-take 22 (drop 22 octets) in
    let three = length-take 22 (drop 44 octets) in
    let four = length-take 22 (drop 66 octets) in
    let last = length-append (take 22 (drop 66 octets)) [] in
    let third = length-append (take 22 (drop 44 octets)) (0x33 ∷ (take 22 (drop 66 octets) ++ [])) in
    let second = length-append (take 22 (drop 22 octets))
    (0x22 ∷ (take 22 (drop 44 octets) ++ (0x33 ∷ (take 22 (drop 66 octets) ++ [])))) in
    let first = length-append (take 22 octets) (0x21 ∷ (take 22 (drop 22 octets)
    ++ (0x22 ∷ (take 22 (drop 44 octets) ++ (0x33 ∷ (take 22 (drop 66 octets) ++ [])))))) in
    omega (arith, one, two, three, four, last, third, second, first)

air_is_short : (log : List Entry) (air : Air) → length (octets_of_air log air) ≤ 92 * length air
air_is_short log [] = omega arith
air_is_short log (used ∷ air) =
    let rest = air_is_short log air in
    let own = slot_is_short (page_aired log used) in
    let long = ap length (flat_map-append (λ (block : List ℕ). block) (blocks_of_slot (page_aired log used))
    (blocks_of_uses log air)) in
    let both = length-append (octets_of_blocks (blocks_of_slot (page_aired log used))) (octets_of_air log air) in
    omega (arith, rest, own, long, both)

header_is_short : (first : ℕ) (r : Record) → length (header_before first r) ≤ 8
header_is_short zero r = omega arith
header_is_short (suc first) r = omega (arith, ap length (no_header (suc first) r (omega arith)))

-- how many octets are before a slot
pub pieces_start : PiecesStart
pieces_start r zero sized within = omega arith
pieces_start r (suc first) sized within =
    let before : Air = take (suc first) r.air in
    let after : Air = drop (suc first) r.air in
    let split = ap length (ap (octets_of_air r.log) (sym (take-append-drop (suc first) r.air))
    ∙ in_parts r.log before after) in
    let both = length-append (octets_of_air r.log before) (octets_of_air r.log after) in
    let own = air_is_short r.log before in
    let own_count = length-take-le (suc first) r.air within in
    let rest = air_is_short r.log after in
    let rest_count = length-drop (suc first) r.air in
    let whole = length-append (tape_header r.cell r.slots) (octets_of_air r.log r.air) in
    let left = ap length (ap (λ (header : List ℕ). header ++ octets_of_air r.log after)
    (no_header (suc first) r (omega arith))) in
    let start : piece_start (suc first) ≡ 8 + 92 * suc first =
    ap (λ (is_first : Bool). if is_first then 0 else 8 + 92 * suc first)
    (ne_eqb (suc first) 0 (λ is. omega (arith, is))) in
    omega (arith, sized, within, split, both, own, own_count, rest, rest_count, whole, left, start)

-- so there is room for each piece
pub piece_is_short : (first : ℕ) (r : Record) → length (piece_from first r) ≤ piece_size
piece_is_short first r =
    let air : Air = take most_piece_slots (drop first r.air) in
    let few = length-take most_piece_slots (drop first r.air) in
    let header = header_is_short first r in
    let octets = air_is_short r.log air in
    let both = length-append (header_before first r) (octets_of_air r.log air) in
    omega (arith, few, header, octets, both)

-- the octets of a piece's slots, by what a record keeps of them
pub own_octets : (r : Record) (first : ℕ) (log : List Entry) (air own : List (Option Aired))
    → log ≡ r.log → air_pairs air ≡ r.air → own ≡ take most_piece_slots (drop first air)
    → octets_of_air log (air_pairs own) ≡ octets_of_air r.log (take most_piece_slots (drop first r.air))
own_octets r first log air own same_log same_air cut =
    ap (λ (entries : List Entry). octets_of_air entries (air_pairs own)) same_log
    ∙ ap (λ (uses : List (Option Aired)). octets_of_air r.log (air_pairs uses)) cut
    ∙ ap (octets_of_air r.log) (sym (take-map aired_pair most_piece_slots (drop first air))
    ∙ ap (take most_piece_slots) (sym (drop-map aired_pair first air)))
    ∙ ap (λ (uses : Air). octets_of_air r.log (take most_piece_slots (drop first uses))) same_air

-- the header and then these are the piece
pub piece_put : {E : Type 0} (result : Result ⊤ E) (r : Record) (first : ℕ) (start headed own all : List ℕ)
    → headed ≡ start ++ header_before first r
    → own ≡ octets_of_air r.log (take most_piece_slots (drop first r.air))
    → OnOk result (all ≡ headed ++ own)
    → OnOk result (all ≡ start ++ piece_from first r)
piece_put (Ok done) r first start headed own all header octets put =
    put ∙ ap (λ (front : List ℕ). front ++ own) header
    ∙ append_assoc start (header_before first r) own
    ∙ ap (λ (octets : List ℕ). start ++ (header_before first r ++ octets)) octets
piece_put (Err fault) r first start headed own all header octets put = tt

-- behind nothing a piece stands alone
pub piece_alone : {E : Type 0} (result : Result ⊤ E) (old new piece : List ℕ) → old ≡ [] → IsOk result
    → OnOk result (new ≡ old ++ piece) → new ≡ piece
piece_alone (Ok done) old new piece none is_ok put = put ∙ ap (λ (front : List ℕ). front ++ piece) none
piece_alone (Err fault) old new piece none is_ok put = absurd (false≢true is_ok)

-- what is cut out of a list that may end sooner
pub slots_are : (first from count : ℕ) (air : List (Option Aired)) → from ≡ min first (length air)
    → count ≡ min most_piece_slots (length (take (length air - from) (drop from air)))
    → take count (take (length air - from) (drop from air)) ≡ take most_piece_slots (drop first air)
slots_are first from count air from_is count_is =
    let rest : List (Option Aired) = take (length air - from) (drop from air) in
    let long : length (drop from air) ≡ length air - from = length-drop from air in
    ap (λ (n : ℕ). take n rest) count_is
    ∙ take_min most_piece_slots rest
    ∙ ap (take most_piece_slots) (take_all (length air - from) (drop from air) (omega (arith, long))
    ∙ elim (cases_lt first (length air)) [
      | inl within ↦ ap (λ (n : ℕ). drop n air) (omega (arith, within, from_is))
      | inr past ↦ drop_all from air (omega (arith, past, from_is))
          ∙ sym (drop_all first air (omega (arith, past)))
    ])
