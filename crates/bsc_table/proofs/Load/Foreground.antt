-- Among background messages the others are served as without them.
use Rattle.std.proofs.Common.{◌==◌, List, get_or, sym, ◌∙◌, arith}
use Rattle.std.specs.List.{All, Contains}
use Rattle.std.proofs.lemmas.List.{length-map}
use Rattle.std.proofs.lemmas.List.Elements.{All-filter, All-contains_itself}
use Rattle.scheduler.specs.Message.{ScheduledMessage, release, due}
use Rattle.scheduler.specs.Air.{Air, layer}
use Rattle.scheduler.specs.Background.{foreground, blank_use, blanked}
use Rattle.scheduler.proofs.Background.{background_counts_as_idle, blanking_keeps_pages, blanking_keeps_completed}
use Rattle.bsc_table.specs.Guarantee.{ForegroundIsServed}
use Rattle.bsc_table.specs.Bounds.{ForegroundIsAtLeast}
use Rattle.bsc_table.proofs.Load.Bounds.{completed_is_at_least}
use Rattle.bsc_table.proofs.Load.Guarantee.{admitted_load_is_a_guarantee}

-- each of the foreground is one of the messages
there : (messages : List ScheduledMessage) → All (Contains messages) (foreground messages)
there messages = All-filter (λ m. layer m == 0) (Contains messages) messages (All-contains_itself messages)

-- the guarantee holds of messages that aren't background, whatever background there is
pub foreground_is_served : ForegroundIsServed
foreground_is_served messages air rising admitted rule = λ k d within. λ j uncut.
    let m : ScheduledMessage = get_or (foreground messages) k d in
    let blank : Air = blanked messages air in
    let long = length-map air (blank_use messages) in
    let alone = admitted_load_is_a_guarantee (foreground messages) blank admitted
    (background_counts_as_idle messages air rising rule) k d within j (record {
      requested = uncut.requested;
      standing = uncut.standing;
      aired_by = omega (arith, uncut.aired_by, long);
    }) in
    sym (blanking_keeps_pages messages air m (release m j) (due m j) rising (there messages k d within)
    (admitted.foreground k d within)) ∙ alone

-- and so does the least bound on their completed numbers
pub foreground_is_at_least : ForegroundIsAtLeast
foreground_is_at_least messages air slot rising admitted rule played = λ k d within.
    let m : ScheduledMessage = get_or (foreground messages) k d in
    let long = length-map air (blank_use messages) in
    let least = completed_is_at_least (foreground messages) (blanked messages air) slot admitted
    (background_counts_as_idle messages air rising rule) (omega (arith, played, long)) k d within in
    omega (
      arith,
      least,
      blanking_keeps_completed messages air m slot rising (there messages k d within)
          (admitted.foreground k d within),
    )
