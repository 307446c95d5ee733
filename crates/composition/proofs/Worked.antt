-- A record worked by hand: one page every second slot.
use Rattle.std.proofs.Common.{◌≡◌, Some, None, List, [], ◌∷◌, length, refl, replicate}
use Rattle.bsc_table.specs.declared.command.Command.TheVariants as commands
use Rattle.bsc_table.specs.declared.command.Category.TheVariants.{Normal}
use Rattle.bsc_table.specs.declared.entry.Answer.TheVariants as answers
use Rattle.bsc_table.specs.declared.entry.Entry.{Entry}
use Rattle.scheduler.specs.Air.{Air}
use Rattle.handset.specs.Reception.{Name, shown_in, pages_read}
use Rattle.handset.specs.Counting.{whole_in}
use Rattle.cbch_blocks.specs.RecordBlocks.{blocks_of_uses}

abbrev log : List Entry
log = record {
  command = commands.Write 4370 16 None Normal (record { 0 = 1 }) 2 0
      (record { used = 1; octets = replicate 82 13 } ∷ []);
  slot = 0;
  answer = answers.Started 0;
} ∷ []

abbrev air : Air
air = Some (0, 1) ∷ None ∷ Some (0, 1) ∷ None ∷ []

abbrev name : Name
name = record { id = 4370; serial = 16 }

twice : whole_in name (blocks_of_uses log air) ≡ 2
twice = refl

two_pages : length (pages_read (blocks_of_uses log air)) ≡ 2
two_pages = refl

one_message : length (shown_in (blocks_of_uses log air)) ≡ 1
one_message = refl
