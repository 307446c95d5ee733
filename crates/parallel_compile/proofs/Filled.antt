-- Tapes that are filled: what a new one is, and what stays while pages are put in.
use Rattle.std.proofs.Common.{◌≡◌, ◌∙◌, ℕ, zero, suc, ◌+◌, ◌*◌, ◌<◌, None, List, [], ◌∷◌, ◌++◌, length, map, take}
use Rattle.std.proofs.Common.{refl, replicate, false, ap, sym, get_or, set, arith}
use Rattle.std.proofs.lemmas.Grind.{flat_map-append}
use Rattle.std.proofs.lemmas.List.{length-append, length-replicate, map-append, take_more}
use Rattle.std.proofs.Math.Seq.{map-set_same}
use Rattle.std.proofs.lemmas.List.Elements.{All-map, All-set}
use Rattle.cbsp_wire.specs.declared.message.Cell.{Cell}
use Rattle.cbch_blocks.specs.Blocks.{idle_blocks}
use Rattle.cbch_blocks.specs.RecordBlocks.{blocks_of_uses, octets_of_blocks, tape_header, tape_of_record}
use Rattle.cbch_blocks.specs.Slots.{silent_record}
use Rattle.order_desk.specs.Desk.{DeskState}
use Rattle.parallel_compile.specs.declared.filling.Filling.{Filling}
use Rattle.parallel_compile.specs.StreamSteps.{AreFillings, IsFilledOn, pieces_in}
use Rattle.parallel_compile.specs.Streamed.{AreTapesFor}
use Rattle.parallel_compile.proofs.Putting.{all_more}

idle_octets : (n : ℕ) → length (octets_of_blocks (blocks_of_uses [] (replicate n None))) ≡ 92 * n
idle_octets zero = refl
idle_octets (suc n) =
    let rest = blocks_of_uses [] (replicate n None) in
    let sum : length (octets_of_blocks (idle_blocks ++ rest)) ≡ 92 + length (octets_of_blocks rest) =
    ap length (flat_map-append (λ (block : List ℕ). block) idle_blocks rest)
    ∙ length-append (octets_of_blocks idle_blocks) (octets_of_blocks rest) in
    omega (arith, sum, idle_octets n)

silent_long : (cell : Cell) (slots : ℕ) → length (tape_of_record (silent_record cell slots)) ≡ 8 + 92 * slots
silent_long cell slots =
    omega (
      arith,
      idle_octets slots,
      length-append (tape_header cell slots) (octets_of_blocks (blocks_of_uses [] (replicate slots None))),
    )

abbrev front_of : Filling → List ℕ
front_of f = take 8 f.tape

-- one more tape of which no piece has come
pub one_more : (cells : List Cell) (slots i : ℕ) (d : Cell) (fillings : List Filling) (f : Filling)
    → AreFillings (record { cells = take i cells; slots = slots }) fillings
    → i < length cells
    → f.tape ≡ tape_of_record (silent_record (get_or cells i d) slots)
    → f.came.items ≡ replicate (pieces_in slots) false
    → AreFillings (record { cells = take (i + 1) cells; slots = slots }) (fillings ++ f ∷ [])
one_more cells slots i d fillings f are within tape came = record {
  headed = map-append front_of fillings (f ∷ [])
      ∙ ap (λ (fronts : List (List ℕ)). fronts ++ take 8 f.tape ∷ []) are.headed
      ∙ ap (λ (t : List ℕ). map (λ (cell : Cell). tape_header cell slots) (take i cells) ++ take 8 t ∷ []) tape
      ∙ sym (map-append (λ (cell : Cell). tape_header cell slots) (take i cells) (get_or cells i d ∷ []))
      ∙ ap (map (λ (cell : Cell). tape_header cell slots)) (sym (take_more cells i d within));
  long = all_more (λ (g : Filling). length g.tape ≡ 8 + 92 * slots) fillings f are.long
      (ap length tape ∙ silent_long (get_or cells i d) slots);
  places = all_more (λ (g : Filling). length g.came.items ≡ pieces_in slots) fillings f are.places
      (ap length came ∙ length-replicate (pieces_in slots) false);
}

-- one of them is filled on
pub one_filled : (desk : DeskState) (fillings : List Filling) (i : ℕ) (before after : Filling) →
    AreFillings desk fillings
    → i < length fillings → before ≡ get_or fillings i before → IsFilledOn before after
    → AreFillings desk (set fillings i after)
one_filled desk fillings i before after are within is on = record {
  headed = map-set_same front_of fillings i after before (on.headed ∙ ap front_of is) ∙ are.headed;
  long = All-set (λ (g : Filling). length g.tape ≡ 8 + 92 * desk.slots) fillings i after
      (on.long ∙ (ap (λ (g : Filling). length g.tape) is ∙ are.long i before within)) are.long;
  places = All-set (λ (g : Filling). length g.came.items ≡ pieces_in desk.slots) fillings i after
      (on.places ∙ (ap (λ (g : Filling). length g.came.items) is ∙ are.places i before within)) are.places;
}

map_twice : (fillings : List Filling) → map (take 8) (map (λ (f : Filling). f.tape) fillings) ≡ map front_of fillings
map_twice [] = refl
map_twice (f ∷ rest) = ap (λ (fronts : List (List ℕ)). take 8 f.tape ∷ fronts) (map_twice rest)

-- what is filled for the cells of a desk are their tapes
pub tapes_for : (desk : DeskState) (fillings : List Filling) → AreFillings desk fillings
    → AreTapesFor desk (map (λ (f : Filling). f.tape) fillings)
tapes_for desk fillings are = record {
  headed = map_twice fillings ∙ are.headed;
  long = All-map (λ (t : List ℕ). length t ≡ 8 + 92 * desk.slots) (λ (f : Filling). f.tape) fillings are.long;
}
