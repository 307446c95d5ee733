use Rattle.std.proofs.Common.{◌≡◌, ◌+◌, ◌-◌, ◌∙◌, ◌++◌, ℕ, Bool, true, false, cond, List, [], ◌∷◌, sym, ap, arith}
use Rattle.std.proofs.Common.{append-nil, filter, length}
use Rattle.std.specs.Prelude.{◌==◌, ◌&&◌}
use Rattle.std.specs.List.{list_any, range_with_len}
use Rattle.verification.specs.declared.judged.JudgedPage.{JudgedPage}
use Rattle.verification.specs.Difference.{has_page}
use Rattle.verification.specs.Explained.{pages_arrived}
use Rattle.verification.specs.Kept.{asked_kept}
use Rattle.verification.proofs.ListLaws.{filter-range, rest-more}
use Rattle.verification.proofs.TimeLaws.{has_page-in_time}
use Rattle.verification.proofs.asked.Asked.pages_arrived.Goals as goal
use Rattle.verification.proofs.asked.Asked.pages_arrived.Goals.{then-has_right_page+in_ok-push, else-has_right_page}

-- what the search in the pages that came in time says
says : (c : goal.Joined-has_right_page) → has_page (asked_kept c.args.self.now) c.args.pages.now c.args.broadcast
    (c.loop-place.place + 1) ≡ c.has_right_page.result
says c =
    has_page-in_time (asked_kept c.args.self.now) c.args.pages.now c.args.broadcast (c.loop-place.place + 1)
    ∙ ap (list_any (λ (page : JudgedPage). (page.number == c.loop-place.place + 1) && page.right))
    (sym c.in_time-in_time.ensures)
    ∙ sym c.has_right_page.ensures

step : (c : goal.Joined-has_right_page) (passes : Bool) (new : List ℕ) → c.has_right_page.result ≡ passes →
    new ≡ c.loop-place.numbers.items ++ cond passes ((c.loop-place.place + 1) ∷ []) [] →
    new ++ filter (has_page (asked_kept c.args.self.now) c.args.pages.now c.args.broadcast)
    (range_with_len (c.loop-place.place + 1 + 1) (length c.args.self.now.contents.now - (c.loop-place.place + 1)))
    ≡ pages_arrived (asked_kept c.args.self.now) c.args.pages.now c.args.broadcast
step c passes new is added =
    let test : ℕ → Bool = has_page (asked_kept c.args.self.now) c.args.pages.now c.args.broadcast in
    rest-more c.loop-place.numbers.items new (cond passes ((c.loop-place.place + 1) ∷ []) [])
    (filter test (range_with_len (c.loop-place.place + 1) (length c.args.self.now.contents.now - c.loop-place.place)))
    (filter test (range_with_len (c.loop-place.place + 1 + 1)
    (length c.args.self.now.contents.now - (c.loop-place.place + 1))))
    (pages_arrived (asked_kept c.args.self.now) c.args.pages.now c.args.broadcast)
    c.loop-place.invariant
    (filter-range test (c.loop-place.place + 1) (length c.args.self.now.contents.now - c.loop-place.place)
    (length c.args.self.now.contents.now - (c.loop-place.place + 1)) passes (omega arith) (says c ∙ is))
    added

pub loop-place-preserved : goal.loop-place-preserved
loop-place-preserved c = elim c.if-has_right_page.branch [
  | then-has_right_page+in_ok-push w ↦ step c true c.if-has_right_page.numbers.items w.if-has_right_page.true
      (ap (λ numbers. numbers.items) w.numbers-is ∙ w.in_ok-push.ensures.items)
  | else-has_right_page w ↦ step c false c.if-has_right_page.numbers.items w.if-has_right_page.false
      (ap (λ numbers. numbers.items) w.numbers-is ∙ sym (append-nil c.loop-place.numbers.items))
]
