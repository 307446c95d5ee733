use Rattle.std.proofs.Common.{◌≡◌, ◌∙◌, ◌+◌, ◌<◌, ℕ, List, Some, None, length, ap, sym, subst, arith}
use Rattle.std.specs.Prelude.{if◌then◌else◌}
use Rattle.std.proofs.lemmas.List.{with_items_is}
use Rattle.scheduler.specs.Pages.{airs_page}
use Rattle.bsc_table.specs.Book.{aired_pair}
use Rattle.report.specs.LastPages.{pages_at}
use Rattle.report.proofs.StepLaws.{times-more}
use Rattle.report.proofs.last_pages.count_last_pages.Goals as goal
use Rattle.report.proofs.last_pages.count_last_pages.Goals.{in-Some, in_default}

pub loop-used-preserved : goal.loop-used-preserved
loop-used-preserved c = elim c.match-used.branch [
  | in-Some w ↦
      let kept : length w.count_page.new.counts ≡ length c.loop-used.counts.items =
      w.count_page.auto.counts ∙ ap (λ (xs : List ℕ). length xs) w.as_mut_slice.ensures.value in
      let long : length w.count_page.new.counts ≡ c.loop-used.counts.len =
      omega (arith, kept, c.loop-used.counts.ok.0) in
      let counts = rw w.as_mut_slice.ensures.value at w.count_page.ensures in
      rw w.counts-is
      (rw (with_items_is c.loop-used.counts w.count_page.new.counts long)
      (record {
        places = kept ∙ c.loop-used.invariant.places;
        each = λ place below.
            let within = subst (λ (n : ℕ). place < n) kept below in
            counts place within
            ∙ ap (λ (n : ℕ). n + (if airs_page place (pages_at c.args.log.now place)
            (aired_pair (Some w.in-Some.aired)) then 1 else 0)) (c.loop-used.invariant.each place within)
            ∙ sym (times-more c.args.air.now c.loop-used.used-index place (pages_at c.args.log.now place)
            (Some w.in-Some.aired) (omega arith) w.in-Some.is);
      }))
  | in_default w ↦ rw w.counts-is (record {
    places = c.loop-used.invariant.places;
    each = λ place below.
        let more = times-more c.args.air.now c.loop-used.used-index place (pages_at c.args.log.now place) None
        (omega arith) w.in_default.is in
        let before = c.loop-used.invariant.each place below in
        omega (arith, more, before);
  })
]
