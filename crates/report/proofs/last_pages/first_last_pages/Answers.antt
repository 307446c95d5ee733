use Rattle.std.proofs.Common.{◌≡◌, ◌∙◌, ◌+◌, ◌-◌, ℕ, List, Option, Some, None, length, ap, sym, arith}
use Rattle.std.specs.Prelude.{if◌then◌else◌}
use Rattle.std.proofs.lemmas.List.{with_items_is}
use Rattle.scheduler.specs.Pages.{airs_page}
use Rattle.bsc_table.specs.Book.{aired_pair}
use Rattle.report.specs.LastPages.{pages_at}
use Rattle.report.proofs.StepLaws.{first-more}
use Rattle.report.proofs.last_pages.first_last_pages.Goals as goal

pub loop-slot-preserved-in-Some : goal.loop-slot-preserved-in-Some
loop-slot-preserved-in-Some c =
    let kept : length c.note_page.new.firsts ≡ length c.loop-slot.firsts.items =
    c.note_page.auto.firsts ∙ ap (λ (xs : List (Option ℕ)). length xs) c.as_mut_slice.ensures.value in
    let long : length c.note_page.new.firsts ≡ c.loop-slot.firsts.len =
    omega (arith, kept, c.loop-slot.firsts.ok.0) in
    let noted = rw c.as_mut_slice.ensures.value at c.note_page.ensures in
    let next : c.loop-slot.slot - 1 + 1 ≡ c.loop-slot.slot = omega arith in
    rw (with_items_is c.loop-slot.firsts c.note_page.new.firsts long)
    (record {
      bounded = omega arith;
      places = kept ∙ c.loop-slot.invariant.places;
      each = λ place below.
          noted place below
          ∙ ap (λ (later : Option ℕ). if airs_page place (pages_at c.args.log.now place)
          (aired_pair (Some c.in-Some.aired)) then Some (c.loop-slot.slot - 1) else later)
          (c.loop-slot.invariant.each place below)
          ∙ sym (first-more c.args.air.now (c.loop-slot.slot - 1) c.loop-slot.slot place
          (pages_at c.args.log.now place) (Some c.in-Some.aired) next (omega arith) c.in-Some.is);
    })

pub loop-slot-preserved : goal.loop-slot-preserved
loop-slot-preserved c =
    let next : c.loop-slot.slot - 1 + 1 ≡ c.loop-slot.slot = omega arith in
    record {
      bounded = omega arith;
      places = c.loop-slot.invariant.places;
      each = λ place below.
          c.loop-slot.invariant.each place below
          ∙ sym (first-more c.args.air.now (c.loop-slot.slot - 1) c.loop-slot.slot place
          (pages_at c.args.log.now place) None next (omega arith) c.in_default.is);
    }
