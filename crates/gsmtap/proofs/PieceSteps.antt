-- The first octets of a piece say how long it is, whatever follows it.
use Rattle.std.proofs.Common.{◌≡◌, ℕ, ◌+◌, ◌-◌, ◌≤◌, List, ◌++◌, length, take, drop, refl, sym, ap, ◌∙◌, subst}
use Rattle.std.proofs.Common.{arith, eq-eqb, Option, Some, None}
use Rattle.std.proofs.lemmas.Bool.{le-leb, leb-true}
use Rattle.std.specs.Prelude.{◌==◌, ◌%◌, ◌&&◌, nat_le, slice_range, Bool, true, false, if◌then◌else◌}
use Rattle.std.proofs.lemmas.List.{drop-take, length-take-le, take-append-drop}
use Rattle.byteorder.specs.Endian.{big_number, little_number}
use Rattle.byteorder.specs.Numbers.{big_from-take, little_from-take}
use Rattle.gsmtap.specs.Blocks.{block_meaning, length_by, magic_order, meaning_by_type, order_in}
use Rattle.gsmtap.specs.File.{is_pcapng, number_in}
use Rattle.gsmtap.specs.PieceSteps.{BeginsWithPiece}
use Rattle.gsmtap.specs.Pieces.{least, length_in, piece_length}
use Rattle.gsmtap.specs.Section.{Section}
use Rattle.gsmtap.specs.declared.file.OctetOrder.{OctetOrder}
use Rattle.gsmtap.specs.declared.file.OctetOrder.TheVariants.{HighFirst, LowFirst}
use Rattle.gsmtap.specs.declared.pieces.Format.{Format}
use Rattle.gsmtap.specs.declared.pieces.Format.TheVariants.{Classic, Pcapng}

-- a number that stands whole in a front is that of the octets
little-front : (k n : ℕ) (octets : List ℕ) → k + 4 ≤ n →
    little_number 4 (drop k (take n octets)) ≡ little_number 4 (drop k octets)
little-front k n octets fits =
    let whole : n ≡ k + (n - k) = omega arith in
    ap (λ m. little_number 4 (drop k (take m octets))) whole
    ∙ ap (little_number 4) (drop-take k (n - k) octets)
    ∙ little_from-take 0 4 (n - k) (drop k octets) (omega arith)

big-front : (k n : ℕ) (octets : List ℕ) → k + 4 ≤ n →
    big_number 4 (drop k (take n octets)) ≡ big_number 4 (drop k octets)
big-front k n octets fits =
    let whole : n ≡ k + (n - k) = omega arith in
    ap (λ m. big_number 4 (drop k (take m octets))) whole
    ∙ ap (big_number 4) (drop-take k (n - k) octets)
    ∙ big_from-take 0 4 (n - k) (drop k octets) (omega arith)

number-front : (order : OctetOrder) (k n : ℕ) (octets : List ℕ) → k + 4 ≤ n →
    number_in order (drop k (take n octets)) ≡ number_in order (drop k octets)
number-front LowFirst k n octets fits = little-front k n octets fits
number-front HighFirst k n octets fits = big-front k n octets fits

magic-front : (n : ℕ) (octets : List ℕ) → 12 ≤ n →
    magic_order (drop 8 (take n octets)) ≡ magic_order (drop 8 octets)
magic-front n octets fits =
    rw (little-front 8 n octets (omega arith)) (rw (big-front 8 n octets (omega arith)) refl)

pcapng-front : (n : ℕ) (octets : List ℕ) → 12 ≤ n → n ≤ length octets → is_pcapng (take n octets) ≡ is_pcapng octets
pcapng-front n octets fits inside =
    let long : length (take n octets) ≡ n = length-take-le n octets inside in
    let same : big_number 4 (take n octets) ≡ big_number 4 octets = big_from-take 0 4 n octets (omega arith) in
    rw same (rw long (rw (le-leb 4 n (omega arith)) (rw (le-leb 4 (length octets) (omega arith)) refl)))

order-front : (order : OctetOrder) (n : ℕ) (octets : List ℕ) → 12 ≤ n → n ≤ length octets →
    order_in order (take n octets) ≡ order_in order octets
order-front order n octets fits inside =
    rw (pcapng-front n octets fits inside) (rw (magic-front n octets fits) refl)

by-front : (order : Option OctetOrder) (n : ℕ) (octets : List ℕ) → 12 ≤ n →
    length_by (take n octets) order ≡ length_by octets order
by-front None n octets fits = refl
by-front (Some order) n octets fits = rw (number-front order 4 n octets (omega arith)) refl

-- and so is the length that they say
pub length-front : (format : Format) (order : OctetOrder) (n : ℕ) (octets : List ℕ) → least format ≤ n →
    n ≤ length octets → length_in format order (take n octets) ≡ length_in format order octets
length-front (Classic link unit) order n octets fits inside =
    ap (λ said. Some (16 + said)) (number-front order 8 n octets (omega arith))
length-front Pcapng order n octets fits inside =
    by-front (order_in order (take n octets)) n octets fits
    ∙ ap (length_by octets) (order-front order n octets fits inside)

if-some : (a b : Bool) (n size : ℕ) → (if a && b then Some n else None) ≡ Some size → (a ≡ true) × (n ≡ size)
if-some true true n size is = let same : n ≡ size = cc in (refl, same)
if-some true false n size is = cc
if-some false b n size is = cc

-- a piece has the octets that say how long it is
by-least : (order : Option OctetOrder) (octets : List ℕ) (size : ℕ) → length_by octets order ≡ Some size → 12 ≤ size
by-least None octets size is = cc
by-least (Some order) octets size is =
    let total : ℕ = number_in order (drop 4 octets) in
    let both = if-some (nat_le 12 total) (total % 4 == 0) total size is in
    subst (λ n. 12 ≤ n) both.1 (leb-true 12 total both.0)

size-least : (format : Format) (order : OctetOrder) (octets : List ℕ) (size : ℕ) →
    length_in format order octets ≡ Some size → least format ≤ size
size-least (Classic link unit) order octets size is =
    let sum : 16 + number_in order (drop 8 octets) ≡ size = cc in omega arith
size-least Pcapng order octets size is = by-least (order_in order octets) octets size is

-- octets that have a whole piece begin with it
pub begins_with_piece : (section : Section) (octets piece rest : List ℕ) (size : ℕ) →
    piece_length section octets ≡ Some size → size ≤ length octets → piece ≡ take size octets →
    rest ≡ drop size octets → BeginsWithPiece section octets piece rest
begins_with_piece section octets piece rest size said fits piece_is rest_is =
    let least_is : least section.format ≤ size = size-least section.format section.order octets size said in
    let long : length piece ≡ size = ap length piece_is ∙ length-take-le size octets fits in
    record {
      is = record {
        long = subst (λ n. least section.format ≤ n) (sym long) least_is;
        whole =
            ap (piece_length section) piece_is
            ∙ length-front section.format section.order size octets least_is fits ∙ said ∙ ap Some (sym long);
      };
      split =
          sym (take-append-drop size octets) ∙ ap (λ front. front ++ drop size octets) (sym piece_is)
          ∙ ap (λ back. piece ++ back) (sym rest_is);
    }

-- what a block brings, by its numbers' order and the length at its end
pub meaning_is : (section : Section) (octets : List ℕ) (order : OctetOrder) (kind : ℕ) →
    order_in section.order octets ≡ Some order → number_in order (drop (length octets - 4) octets) ≡ length octets →
    kind ≡ number_in order octets →
    meaning_by_type section order kind (slice_range octets 8 (length octets - 4)) ≡ block_meaning section octets
unfolding block_meaning
meaning_is section octets order kind order_is again kind_is =
    sym (rw order_is (rw (eq-eqb (number_in order (drop (length octets - 4) octets)) (length octets) again)
    (ap (λ it. meaning_by_type section order it (slice_range octets 8 (length octets - 4))) (sym kind_is))))
