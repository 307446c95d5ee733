-- The octets that are made of a cell, a number of slots and their blocks are a tape, and say and show just these.
use Rattle.std.proofs.Common.{◌≡◌, ℕ, ◌+◌, ◌*◌, ◌/◌, ◌%◌, ◌<◌, ◌≤◌, List, [], ◌∷◌, refl, sym, subst, arith}
use Rattle.handset.specs.Laws.{MadeAreTapes}
use Rattle.handset.specs.Tape.{AreSlots, slots_in, max_slots}

-- two octets give back their number
pub pair_back : (n : ℕ) → 256 * (n / 256) + n % 256 ≡ n
pair_back n = omega arith

-- so do four
pub four_back : (n : ℕ) → n < 4294967296 →
    16777216 * (n / 16777216) + 65536 * (n / 65536 % 256) + 256 * (n / 256 % 256) + n % 256 ≡ n
four_back n fits = omega arith

-- what a cell's run makes is a tape
pub made_is_tape : MadeAreTapes
made_is_tape cell slots blocks few are =
    let header : List ℕ =
    (cell.lac / 256) ∷ (cell.lac % 256) ∷ (cell.ci / 256) ∷ (cell.ci % 256)
    ∷ (slots / 16777216) ∷ (slots / 65536 % 256) ∷ (slots / 256 % 256) ∷ (slots % 256) ∷ [] in
    let says : slots_in header ≡ slots = four_back slots (omega (arith, few)) in
    record {
      header = header;
      blocks = blocks;
      joined = refl;
      eight = refl;
      few = subst (λ n. n ≤ max_slots) (sym says) few;
      slots = subst (λ n. AreSlots n blocks) (sym says) are;
      reading_is = rw (pair_back cell.lac, pair_back cell.ci, four_back slots (omega (arith, few))) refl;
    }
