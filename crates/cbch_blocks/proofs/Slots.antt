-- What the slots of a legal history can air.
use Rattle.std.proofs.Common.{◌≡◌, ℕ, ◌+◌, ◌<◌, ◌++◌, Option, Some, None, List, drop, length, get_or, sym, ap}
use Rattle.std.proofs.Common.{All, subst, ◌∙◌, arith}
use Rattle.std.proofs.lemmas.Grind.{flat_map-append}
use Rattle.std.proofs.lemmas.List.{at_drop_more, get_or-map, get_or_default, length-map}
use Rattle.std.proofs.lemmas.Option.{slice_get-get_or}
use Rattle.bsc_table.specs.declared.command.Command.{Command}
use Rattle.bsc_table.specs.declared.command.Command.TheVariants as commands
use Rattle.bsc_table.specs.declared.entry.Answer.TheVariants as answers
use Rattle.bsc_table.specs.declared.entry.Aired.{Aired}
use Rattle.bsc_table.specs.declared.entry.Entry.{Entry}
use Rattle.bsc_table.specs.Book.{aired_pair, air_pairs}
use Rattle.bsc_table.specs.Record.{Record, start_of}
use Rattle.bsc_table.specs.Orders.{IsWellFormed}
use Rattle.bsc_table.specs.Legal.{IsLegal}
use Rattle.bsc_table.specs.Written.{HasPage, UsesAreOfWrites}
use Rattle.cbch_blocks.specs.RecordBlocks.{blocks_of_slot, blocks_of_uses, octets_of_blocks, page_aired}
use Rattle.cbch_blocks.specs.TapeSteps.{CanSendPage, CanSendPageOf, CanAir, octets_of_slot}

no_entry : Entry
no_entry = record { command = commands.Status 0 0; slot = 0; answer = answers.Unknown }

can_send : (page : ℕ) (command : Command) (start : Option ℕ) → HasPage page command start → IsWellFormed command
    → CanSendPage page command
can_send page (commands.Write id serial replaces category dcs period broadcasts contents) start has formed =
    (has.0, has.1, formed.few_pages)
can_send page (commands.Kill id serial) start has formed = absurd has
can_send page (commands.Status id serial) start has formed = absurd has

can_air_as : UsesAreOfWrites → (r : Record) (k : ℕ) (used : Option (ℕ × ℕ)) → IsLegal r → k < r.clock
    → get_or r.air k None ≡ used → CanAir r.log used
can_air_as writes r k None legal within is = tt
can_air_as writes r k (Some used) legal within is =
    let write = writes r k used.0 used.1 no_entry legal within is in
    let found = slice_get-get_or r.log used.0 no_entry write.0 in
    let entry : Entry = get_or r.log used.0 no_entry in
    subst (CanSendPageOf used.1) (sym found)
    (can_send used.1 entry.command (start_of entry.answer) write.1 (legal.formed used.0 no_entry write.0))

-- each slot of a legal history can air what it airs
pub can_air : UsesAreOfWrites → (r : Record) (log : List Entry) (air : List (Option Aired)) (i : ℕ) → IsLegal r
    → log ≡ r.log → air_pairs air ≡ r.air → i < length air → CanAir log (aired_pair (get_or air i None))
can_air writes r log air i legal same_log same_air within =
    let played = legal.played in
    let long : length r.air ≡ length air = ap length (sym same_air) ∙ length-map air aired_pair in
    let at : get_or r.air i None ≡ aired_pair (get_or air i None) = ap (λ uses. get_or uses i None) (sym same_air)
    ∙ get_or-map aired_pair air i None None within in
    subst (λ entries. CanAir entries (aired_pair (get_or air i None))) (sym same_log)
    (can_air_as writes r i (aired_pair (get_or air i None)) legal (omega (arith, played, long, within)) at)

-- and so do all of them, whatever is said of those past the end
pub all_can_air : UsesAreOfWrites → (r : Record) (log : List Entry) (air : List (Option Aired)) → IsLegal r
    → log ≡ r.log → air_pairs air ≡ r.air → All (λ used. CanAir log (aired_pair used)) air
all_can_air writes r log air legal same_log same_air k d within =
    subst (λ (used : Option Aired). CanAir log (aired_pair used)) (get_or_default air k None d within)
    (can_air writes r log air k legal same_log same_air within)

-- the octets of slots
abbrev pub octets_of_uses : List Entry → List (Option Aired) → List ℕ
octets_of_uses log air = octets_of_blocks (blocks_of_uses log (air_pairs air))

-- those from a slot on are its own, and then those of the slots after it
pub slot_and_rest : (log : List Entry) (air : List (Option Aired)) (i : ℕ) → i < length air
    → octets_of_uses log (drop i air)
    ≡ octets_of_slot log (aired_pair (get_or air i None)) ++ octets_of_uses log (drop (i + 1) air)
slot_and_rest log air i within =
    at_drop_more (octets_of_uses log) air i None within
    ∙ flat_map-append (λ (block : List ℕ). block) (blocks_of_slot (page_aired log (aired_pair (get_or air i None))))
    (blocks_of_uses log (air_pairs (drop (i + 1) air)))
