-- How long the octets of a message are: at most 1,547, a write of 15 pages to 64 cells with each optional element. The
-- longest reply, with 64 failures of 6 octets, 64 completed broadcasts of 7 and 64 cells of 4, has 1,114.
use Rattle.std.proofs.Common.{◌≡◌, ℕ, suc, ◌+◌, ◌*◌, ◌≤◌, true, List, [], ◌∷◌, ◌++◌, length, map, Option, Some, None}
use Rattle.std.proofs.Common.{refl, ap, arith, length-append}
use Rattle.std.specs.Prelude.{IfSome, nat_le, ◌&&◌, ◌==◌}
use Rattle.std.specs.List.{flat_map, list_all}
use Rattle.std.proofs.lemmas.Bool.{eqb-true, leb-true}
use Rattle.std.proofs.lemmas.List.Concat.{flat_map-cons}
use Rattle.cbs_page.specs.declared.content.Content.{Content}
use Rattle.cbsp_wire.specs.declared.lists.item.Discriminator.{Discriminator}
use Rattle.cbsp_wire.specs.declared.lists.item.Discriminator.TheVariants as discriminators
use Rattle.cbsp_wire.specs.declared.message.Cell.{Cell}
use Rattle.cbsp_wire.specs.declared.message.Count.{Count}
use Rattle.cbsp_wire.specs.declared.message.Failure.{Failure}
use Rattle.cbsp_wire.specs.declared.message.Message.{Message}
use Rattle.cbsp_wire.specs.declared.message.Message.TheVariants as messages
use Rattle.cbsp_wire.specs.Value.{Fields, fields_of}
use Rattle.cbsp_wire.specs.Range.{numbers, cells_are_valid, are_distinct, cells_of_counts, cells_of_failures}
use Rattle.cbsp_wire.specs.Range.{is_page_count}
use Rattle.cbsp_wire.specs.Range.{contents_are_valid, is_full}
use Rattle.cbsp_wire.specs.Written.{bodies_in, cell_octets, count_octets, failure_octets, number_bodies, octet_bodies}
use Rattle.cbsp_wire.specs.Written.{list_bodies, content_body}
use Rattle.cbsp_wire.specs.WritingSteps.{element_octets, field_octets, AreShort}
use Rattle.cbsp_wire.proofs.Tests.{and_parts, list_all-parts}
use Rattle.cbsp_wire.proofs.WrittenItems.{length-items, cell_len, count_len, failure_len}
use Rattle.cbsp_wire.proofs.WrittenLaws.{IsWritten}
use Rattle.cbsp_wire.proofs.Ranges.{ranges_from}

-- bounds of the parts bound the whole
abbrev total : List ℕ → ℕ
total [] = 0
total (b ∷ bs) = b + total bs

abbrev AreBounded : (ℕ → List ℕ) → List ℕ → List ℕ → Type 0
AreBounded octets [] bs = Unit {0}
AreBounded octets (n ∷ ns) [] = ⊥
AreBounded octets (n ∷ ns) (b ∷ bs) = (length (octets n) ≤ b) × AreBounded octets ns bs

length-bounded : (octets : ℕ → List ℕ) (ns bs : List ℕ) → AreBounded octets ns bs
    → length (flat_map octets ns) ≤ total bs
length-bounded octets [] bs h = omega arith
length-bounded octets (n ∷ ns) [] h = absurd h
length-bounded octets (n ∷ ns) (b ∷ bs) h =
    let cons : length (flat_map octets (n ∷ ns)) ≡ length (octets n ++ flat_map octets ns) =
    ap length (flat_map-cons octets n ns) in
    omega (arith, cons, length-append (octets n) (flat_map octets ns), h.0, length-bounded octets ns bs h.1)

number_len : (n : ℕ) (o : Option ℕ) → length (element_octets n (number_bodies o)) ≤ 3
number_len n None = omega arith
number_len n (Some k) = omega arith

octet_len : (n : ℕ) (o : Option ℕ) → length (element_octets n (octet_bodies o)) ≤ 2
octet_len n None = omega arith
octet_len n (Some k) = omega arith

-- a list's number, its length and its one discriminator, if it has one, are four octets at most
list_len : {X : Type 0} (discriminator : Discriminator) (octets : X → List ℕ) (size : ℕ)
    → ((x : X) → length (octets x) ≡ size)
    → (n : ℕ) (xs : List X)
    → length (element_octets n (list_bodies discriminator octets xs)) ≤ 4 + length xs * size
list_len discriminator octets size len n [] = omega arith
list_len discriminators.Once octets size len n (x ∷ xs) =
    let items = flat_map octets (x ∷ xs) in
    omega (arith, length-append items [], length-items octets size len (x ∷ xs))
list_len discriminators.Each octets size len n (x ∷ xs) =
    let items = flat_map octets (x ∷ xs) in
    omega (arith, length-append items [], length-items octets size len (x ∷ xs))

contents_len : (n : ℕ) (cs : List Content) → list_all is_full cs ≡ true
    → length (element_octets n (map content_body cs)) ≡ length cs * 84
contents_len n [] h = omega arith
contents_len n (c ∷ cs) h =
    let both = list_all-parts is_full c cs h in
    let len : length c.octets ≡ 82 = eqb-true _ _ both.0 in
    omega (arith, len, length-append c.octets (element_octets n (map content_body cs)), contents_len n cs both.1)

short_cells : (cs : List Cell) → cells_are_valid cs ≡ true → length cs ≤ 64
short_cells cs h = leb-true _ _ (and_parts (nat_le (length cs) 64) (are_distinct cs) h).0

few_pages : (pages : Option ℕ) (contents : List Content) → contents_are_valid pages contents ≡ true
    → IfSome pages (λ n. n ≤ 15)
few_pages None contents h = tt
few_pages (Some p) contents h =
    let one = and_parts (is_page_count p && (p == length contents)) (list_all (λ c. nat_le c.used 82) contents) h in
    let two = and_parts (is_page_count p) (p == length contents) one.0 in
    leb-true _ _ (and_parts (nat_le 1 p) (nat_le p 15) two.0).1

length-counts : (cs : List Count) → length (cells_of_counts cs) ≡ length cs
length-counts [] = refl
length-counts (c ∷ cs) = ap suc (length-counts cs)

length-failures : (fs : List Failure) → length (cells_of_failures fs) ≡ length fs
length-failures [] = refl
length-failures (f ∷ fs) = ap suc (length-failures fs)

-- the lists of a message that is written are short
pub AreShort-written : (m : Message) → IsWritten m → AreShort (fields_of m)
AreShort-written m w =
    let f = fields_of m in
    let r = ranges_from f w.values in
    record {
      cells = short_cells f.cells r.cells;
      completed = omega (arith, short_cells (cells_of_counts f.completed) r.completed, length-counts f.completed);
      failures = omega (arith, short_cells (cells_of_failures f.failures) r.failures, length-failures f.failures);
      pages = few_pages f.pages f.contents r.contents;
    }

-- the fields that only an order to write has
abbrev HasNoOrder : Fields → Type 0
HasNoOrder f =
    (f.category ≡ None) ×
    ((f.period ≡ None) × ((f.broadcasts ≡ None) × ((f.pages ≡ None) × ((f.dcs ≡ None) × (f.contents ≡ [])))))

number_none : (n : ℕ) (o : Option ℕ) → o ≡ None → length (element_octets n (number_bodies o)) ≤ 0
number_none n o h = rw h (omega arith)

octet_none : (n : ℕ) (o : Option ℕ) → o ≡ None → length (element_octets n (octet_bodies o)) ≤ 0
octet_none n o h = rw h (omega arith)

contents_none : (n : ℕ) (cs : List Content) → cs ≡ [] → length (element_octets n (map content_body cs)) ≤ 0
contents_none n cs h = rw h (omega arith)

short_reply : (f : Fields) → AreShort f → HasNoOrder f → length (flat_map (field_octets f) numbers) ≤ 1543
unfolding bodies_in
short_reply f s none =
    let bounds : AreBounded (field_octets f) numbers (3 ∷ 3 ∷ 3 ∷ 388 ∷ 452 ∷ 260 ∷ 2 ∷ 0 ∷ 0 ∷ 0 ∷ 0 ∷ 0 ∷ 0 ∷ []) = (
      number_len 0x0E f.id,
      (
        number_len 0x03 f.new_serial,
        (
          number_len 0x02 f.old_serial,
          (
            omega (arith, list_len discriminators.Each failure_octets 6 failure_len 0x09 f.failures, s.failures),
            (
              omega (arith, list_len discriminators.Once count_octets 7 count_len 0x08 f.completed, s.completed),
              (
                omega (arith, list_len discriminators.Once cell_octets 4 cell_len 0x04 f.cells, s.cells),
                (
                  octet_len 0x12 f.channel,
                  (
                    octet_none 0x05 f.category none.0,
                    (
                      number_none 0x06 f.period none.1.0,
                      (
                        number_none 0x07 f.broadcasts none.1.1.0,
                        (
                          octet_none 0x13 f.pages none.1.1.1.0,
                          (octet_none 0x0C f.dcs none.1.1.1.1.0, (contents_none 0x01 f.contents none.1.1.1.1.1, tt)),
                        ),
                      ),
                    ),
                  ),
                ),
              ),
            ),
          ),
        ),
      ),
    ) in
    let most : List ℕ = 3 ∷ 3 ∷ 3 ∷ 388 ∷ 452 ∷ 260 ∷ 2 ∷ 0 ∷ 0 ∷ 0 ∷ 0 ∷ 0 ∷ 0 ∷ [] in
    omega (arith, length-bounded (field_octets f) numbers most bounds)

-- no more than 1,543 octets of elements
pub length-written : (m : Message) → IsWritten m → length (flat_map (field_octets (fields_of m)) numbers) ≤ 1543
unfolding bodies_in
length-written (messages.Write a b c d e f g h i j) w =
    let s = AreShort-written (messages.Write a b c d e f g h i j) w in
    let fs = fields_of (messages.Write a b c d e f g h i j) in
    let pages : length j ≤ 15 = s.pages in
    let bounds : AreBounded (field_octets fs) numbers (3 ∷ 3 ∷ 3 ∷ 0 ∷ 0 ∷ 260 ∷ 2 ∷ 2 ∷ 3 ∷ 3 ∷ 2 ∷ 2 ∷ 1260 ∷ []) = (
      number_len 0x0E fs.id,
      (
        number_len 0x03 fs.new_serial,
        (
          number_len 0x02 fs.old_serial,
          (
            omega arith,
            (
              omega arith,
              (
                omega (arith, list_len discriminators.Once cell_octets 4 cell_len 0x04 fs.cells, s.cells),
                (
                  octet_len 0x12 fs.channel,
                  (
                    octet_len 0x05 fs.category,
                    (
                      number_len 0x06 fs.period,
                      (
                        number_len 0x07 fs.broadcasts,
                        (
                          octet_len 0x13 fs.pages,
                          (
                            octet_len 0x0C fs.dcs,
                            (omega (arith, contents_len 0x01 j w.full, pages), tt),
                          ),
                        ),
                      ),
                    ),
                  ),
                ),
              ),
            ),
          ),
        ),
      ),
    ) in
    length-bounded (field_octets fs) numbers (3 ∷ 3 ∷ 3 ∷ 0 ∷ 0 ∷ 260 ∷ 2 ∷ 2 ∷ 3 ∷ 3 ∷ 2 ∷ 2 ∷ 1260 ∷ []) bounds
length-written (messages.WriteDone a b c d e f) w =
    short_reply (fields_of (messages.WriteDone a b c d e f)) (AreShort-written (messages.WriteDone a b c d e f) w)
    (refl, (refl, (refl, (refl, (refl, refl)))))
length-written (messages.WriteFailed a b c d e f g) w =
    short_reply (fields_of (messages.WriteFailed a b c d e f g))
    (AreShort-written (messages.WriteFailed a b c d e f g) w) (refl, (refl, (refl, (refl, (refl, refl)))))
length-written (messages.Kill a b c d) w =
    short_reply (fields_of (messages.Kill a b c d)) (AreShort-written (messages.Kill a b c d) w)
    (refl, (refl, (refl, (refl, (refl, refl)))))
length-written (messages.KillDone a b c d e) w =
    short_reply (fields_of (messages.KillDone a b c d e)) (AreShort-written (messages.KillDone a b c d e) w)
    (refl, (refl, (refl, (refl, (refl, refl)))))
length-written (messages.KillFailed a b c d e f) w =
    short_reply (fields_of (messages.KillFailed a b c d e f)) (AreShort-written (messages.KillFailed a b c d e f) w)
    (refl, (refl, (refl, (refl, (refl, refl)))))
