use Rattle.std.proofs.Common.{◌≡◌, ◌+◌, ◌<◌, ◌≤◌, ◌∙◌, ℕ, IfSome, List, [], Option, ap, arith, drop, false}
use Rattle.std.proofs.Common.{get_or}
use Rattle.std.proofs.Common.{length, refl, rules, subst, sym, true}
use Rattle.csv.specs.Machine.{Read, field_after, fields_after, is_end, next_record, step}
use Rattle.csv.specs.Reading.{default_config}
use Rattle.csv.specs.declared.parser.State.{State}
use Rattle.csv.specs.declared.parser.State.TheVariants as st
use Rattle.book_check.specs.LineSteps.{csv_state}
use Rattle.book_check.proofs.LineLaws.{drop_end, ends_here, ends_last, goes_on, split_at}
use Rattle.book_check.proofs.lines.record_end.Goals as goal

pub octets-init : goal.octets-init
octets-init c = record { on = c.requires.on; fields = []; field = []; same = refl }

pub octets-preserved : goal.octets-preserved
octets-preserved c =
    let text = c.args.text.now in
    let at = c.octets.cursor.at in
    let inv = c.octets.invariant in
    let less : at < length text = omega arith in
    let octet : ℕ = get_or text at 0 in
    let s : State = csv_state c.octets.cursor.within in
    let after = step default_config s octet in
    let is = c.next_within-next.ensures.step in
    let more : is_end after.1 ≡ false = sym is.ends_is ∙ search rules in
    record {
      on = c.behind-cursor.ensures.on;
      fields = fields_after after.1 inv.fields inv.field;
      field = field_after after.1 octet inv.field;
      same = ap (λ (t : State). next_record default_config t (fields_after after.1 inv.fields inv.field)
          (field_after after.1 octet inv.field) (drop c.behind-cursor.result.at text))
          (ap csv_state c.behind-cursor.ensures.within ∙ is.state_is)
          ∙ ap (λ n. next_record default_config after.0 (fields_after after.1 inv.fields inv.field)
          (field_after after.1 octet inv.field) (drop n text)) c.behind-cursor.ensures.at
          ∙ goes_on s inv.fields inv.field octet (drop (at + 1) text) more
          ∙ ap (λ (r : List ℕ). next_record default_config s inv.fields inv.field r) (sym (split_at text at less))
          ∙ inv.same;
    }

pub returns-then-next-clause-passes : goal.returns-then-next-clause-passes
returns-then-next-clause-passes c =
    let text = c.args.text.now in
    let at = c.octets.cursor.at in
    let inv = c.octets.invariant in
    let less : at < length text = omega arith in
    let octet : ℕ = get_or text at 0 in
    let s : State = csv_state c.octets.cursor.within in
    let after = step default_config s octet in
    let is = c.next_within-next.ensures.step in
    let ends : is_end after.1 ≡ true = sym is.ends_is ∙ search rules in
    let whole = sym inv.same
    ∙ ap (λ (r : List ℕ). next_record default_config s inv.fields inv.field r) (split_at text at less)
    ∙ ends_here s inv.fields inv.field octet (drop (at + 1) text) ends in
    subst (λ (o : Option Read). IfSome o (λ (r : Read). (csv_state c.behind-cursor.result.within ≡ r.1)
    × (drop c.behind-cursor.result.at text ≡ r.2))) (sym whole)
    (ap csv_state c.behind-cursor.ensures.within ∙ is.state_is, ap (λ n. drop n text) c.behind-cursor.ensures.at)

pub returns-clause-passes : goal.returns-clause-passes
returns-clause-passes c =
    let text = c.args.text.now in
    let at = c.octets.cursor.at in
    let inv = c.octets.invariant in
    let end : length text ≤ at = omega arith in
    let s : State = csv_state c.octets.cursor.within in
    let none = drop_end text at end in
    let whole = sym inv.same
    ∙ ap (λ (r : List ℕ). next_record default_config s inv.fields inv.field r) none in
    subst (λ (o : Option Read). IfSome o (λ (r : Read). (st.StartRecord ≡ r.1) × (drop at text ≡ r.2))) (sym whole)
    (subst (λ (d : List ℕ). IfSome (next_record default_config s inv.fields inv.field [])
    (λ (r : Read). (st.StartRecord ≡ r.1) × (d ≡ r.2))) (sym none) (ends_last s inv.fields inv.field))
