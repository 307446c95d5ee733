use Rattle.std.proofs.Common.{◌≡◌, ◌+◌, ◌<◌, ◌∙◌, ℕ, List, [], ap, arith, drop, get_or, length, refl, rules, sym, true}
use Rattle.csv.specs.Machine.{next_record}
use Rattle.csv.specs.Reading.{default_config}
use Rattle.csv.specs.declared.parser.State.TheVariants as st
use Rattle.book_check.specs.LineSteps.{csv_state}
use Rattle.book_check.specs.Lines.{is_line_end}
use Rattle.book_check.specs.declared.lines.Within.{Within}
use Rattle.book_check.specs.declared.lines.Within.TheVariants as within
use Rattle.book_check.proofs.LineLaws.{blank_more, same_record, split_at}
use Rattle.book_check.proofs.lines.record_start.Goals as goal

pub blanks-preserved : goal.blanks-preserved
blanks-preserved c =
    let text = c.args.text.now in
    let at = c.blanks.cursor.at in
    let inv = c.blanks.invariant in
    let less : at < length text = omega arith in
    let blank : is_line_end (get_or text at 0) ≡ true = search rules in
    let skips = c.next_within.ensures.skips inv.before.start blank in
    let start : c.behind-cursor.result.within ≡ within.Start = c.behind-cursor.ensures.within ∙ skips.0 in
    record {
      before = record { on = c.behind-cursor.ensures.on; start = rw start refl };
      at = rw c.behind-cursor.ensures.at (blank_more text at less blank ∙ inv.at);
      same = ap (λ (w : Within). next_record default_config (csv_state w) [] []
          (drop c.behind-cursor.result.at text)) start
          ∙ ap (λ n. next_record default_config st.StartRecord [] [] (drop n text)) c.behind-cursor.ensures.at
          ∙ same_record c.blanks.cursor.within (get_or text at 0) (drop (at + 1) text) inv.before.start blank
          ∙ ap (λ (r : List ℕ). next_record default_config (csv_state c.blanks.cursor.within) [] [] r)
          (sym (split_at text at less))
          ∙ inv.same;
    }
