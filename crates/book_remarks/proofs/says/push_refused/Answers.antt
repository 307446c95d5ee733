use Rattle.std.proofs.Common.{◌≡◌, ◌∙◌, ◌++◌, List, Option, ap, arith, sym, take}
use Rattle.std.proofs.lemmas.Option.{slice_get-get_or}
use Rattle.report.proofs.ListLaws.{flat_map-place}
use Rattle.book_remarks.specs.declared.mark.Mark.TheVariants as marks
use Rattle.book_remarks.specs.declared.says.CellMark.{CellMark}
use Rattle.book_remarks.specs.declared.says.Says.{Says}
use Rattle.book_remarks.specs.Remarks.{cause_says_of, refused_at}
use Rattle.book_remarks.proofs.says.push_refused.Goals as goal

-- any mark: what stands past the end
past : CellMark
past = record { cell = record { lac = 0; ci = 0 }; mark = marks.Elsewhere }

pub loop-place-preserved : goal.loop-place-preserved
unfolding past
loop-place-preserved c =
    let ms : List CellMark = c.args.in_cells.now in
    let added : c.push_cause.new.said.items ≡ c.loop-place.said.items ++ refused_at ms c.loop-place.place =
    c.in_ok-push_cause.ensures
    ∙ ap (λ (found : Option CellMark). c.loop-place.said.items ++ cause_says_of (take c.loop-place.place ms) ms found)
    (sym (slice_get-get_or ms c.loop-place.place past (omega arith))) in
    added ∙ ap (λ (xs : List Says). xs ++ refused_at ms c.loop-place.place) c.loop-place.invariant
    ∙ flat_map-place (refused_at ms) c.loop-place.place c.args.said.now.items
