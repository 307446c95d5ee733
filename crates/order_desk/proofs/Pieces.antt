-- Pieces of what a cell has aired: what they are of the air list as it is stored, and how long they are.
use Rattle.std.proofs.Common.{◌≡◌, ◌∙◌, ◌-◌, ◌≤◌, ℕ, Option, List, length, map, take, drop, min, sym, ap, arith}
use Rattle.std.proofs.lemmas.List.{drop-map, drop_min, length-drop, length-map, length-take, take-map, take_all}
use Rattle.std.proofs.lemmas.List.{take_min}
use Rattle.std.proofs.lemmas.Simd.{map-map}
use Rattle.bsc_table.specs.declared.entry.Aired.{Aired}
use Rattle.bsc_table.specs.Book.{air_pairs, aired_pair}
use Rattle.bsc_table.specs.Legal.{IsLegal}
use Rattle.bsc_table.specs.Record.{Record}
use Rattle.order_desk.specs.Pieces.{octets_aired, piece_pages}

-- the items of a list from one on, k of them at most, as they are cut out of it
pub cut_out : {X : Type 0} (xs : List X) (from k first long end : ℕ) → first ≡ min from (length xs)
    → long ≡ min k (length (take (length xs - first) (drop first xs)))
    → length (take long (take (length xs - first) (drop first xs))) ≤ end
    → take end (take long (take (length xs - first) (drop first xs))) ≡ take k (drop from xs)
cut_out xs from k first long end first_is long_is enough =
    let rest = take (length xs - first) (drop first xs) in
    let left : length (drop first xs) ≡ length xs - first = length-drop first xs in
    let all : rest ≡ drop first xs = take_all (length xs - first) (drop first xs) (omega (arith, left)) in
    take_all end (take long rest) enough ∙ ap (λ n. take n rest) long_is ∙ take_min k rest
    ∙ ap (take k) (all ∙ ap (λ n. drop n xs) first_is ∙ drop_min from xs)

-- the pages of some slots of an air list as it is stored
pub are_pages : (r : Record) (air : List (Option Aired)) (from k : ℕ) → air_pairs air ≡ r.air
    → map (λ used. octets_aired r.log (aired_pair used)) (take k (drop from air)) ≡ piece_pages from k r
are_pages r air from k same =
    sym (map-map (octets_aired r.log) aired_pair (take k (drop from air)))
    ∙ ap (map (octets_aired r.log)) (sym (take-map aired_pair k (drop from air))
    ∙ ap (take k) (sym (drop-map aired_pair from air) ∙ ap (drop from) same))

-- a piece has the slots from one on that were played, k of them at most
pub pages_long : (r : Record) (from k : ℕ) → IsLegal r → length (piece_pages from k r) ≡ min k (r.clock - from)
pages_long r from k legal =
    length-map (take k (drop from r.air)) (octets_aired r.log)
    ∙ length-take k (drop from r.air)
    ∙ ap (min k) (length-drop from r.air ∙ ap (λ n. n - from) legal.played)
