use Rattle.std.proofs.Common.{◌≡◌, ◌++◌, ◌∙◌, ℕ, List, Option, MatchOption, ap, sym, subst}
use Rattle.bsc_table.specs.Book.{aired_pair}
use Rattle.bsc_table.specs.declared.entry.Aired.{Aired}
use Rattle.cbch_blocks.specs.TapeSteps.{octets_of_slot}
use Rattle.cbch_blocks.proofs.slot.strip_slot.Goals as goal

pub returns-in-None : goal.returns-in-None
returns-in-None c =
    let octets = c.args.octets.now in
    let idle = c.requires.idle
    ∙ sym (ap (λ (used : Option Aired). octets_of_slot c.args.log.now (aired_pair used)) c.in-None.is) in
    subst (λ (front : List ℕ). MatchOption c.strip_front.result ((rest : List ℕ) → octets ≡ front ++ rest → ⊥)
    (λ rest. octets ≡ front ++ rest.now)) idle c.strip_front.ensures
