use Rattle.std.proofs.Common.{◌≡◌, ◌<◌, ◌+◌, ◌++◌, ◌∷◌, ◌∙◌, [], ℕ, List, Ok, Err, ap, arith, drop, length}
use Rattle.std.proofs.Common.{length-append, refl, rules, sym}
use Rattle.std.proofs.lemmas.List.Elements.{All-push}
use Rattle.csv.specs.Records.{fields_of}
use Rattle.cbs_page.specs.declared.content.Content.{Content}
use Rattle.orders_file.specs.Columns.{column}
use Rattle.orders_file.specs.Page.{IsPage, page, pages_after, pages_of}
use Rattle.orders_file.proofs.Places.{from_column}
use Rattle.orders_file.proofs.page.pages_of.Goals as goal

pub loop-place-preserved : goal.loop-place-preserved
loop-place-preserved c =
    let fields : List (List ℕ) = fields_of c.args.fields.now in
    let place = c.loop-place.place in
    let contents : List Content = c.loop-place.contents.items in
    let content : Content = c.in_ok-content.content in
    let less : place < length fields = omega (arith, c.loop-place-test.true, c.len-place-end.ensures) in
    let read : page (column fields place) ≡ Ok content =
    ap page (sym c.column.ensures) ∙ sym c.in_ok-content.ensures.value in
    let step : pages_of (drop 11 fields) ≡ pages_after (contents ++ content ∷ []) (drop (place + 1) fields) =
    c.loop-place.invariant.so ∙ ap (pages_after contents) (from_column fields place less) ∙ rw read refl in
    rw c.in_ok-push.ensures.items record {
      so = step;
      count = simp length-append (omega (arith, c.loop-place.invariant.count));
      each = All-push IsPage contents content c.loop-place.invariant.each c.in_ok-content.ensures.range;
    }

pub returns-in_err-content-clause-err : goal.returns-in_err-content-clause-err
returns-in_err-content-clause-err c =
    let fields : List (List ℕ) = fields_of c.args.fields.now in
    let place = c.loop-place.place in
    let contents : List Content = c.loop-place.contents.items in
    let less : place < length fields = omega (arith, c.loop-place-test.true, c.len-place-end.ensures) in
    let read : page (column fields place) ≡ Err c.in_err-content.field-0.0 =
    ap page (sym c.column.ensures) ∙ sym c.in_err-content.ensures.value in
    let step : pages_of (drop 11 fields) ≡ Err c.in_err-content.field-0.0 =
    c.loop-place.invariant.so ∙ ap (pages_after contents) (from_column fields place less) ∙ rw read refl in
    search rules

pub returns-clause-ranges : goal.returns-clause-ranges
returns-clause-ranges c =
    let end : c.loop-place.place ≡ length (fields_of c.args.fields.now) =
    omega (arith, c.len-place-end.ensures, c.requires.some) in
    record {
      some = omega (arith, end, c.loop-place.invariant.count, c.requires.some);
      few = omega (arith, end, c.loop-place.invariant.count, c.requires.few);
      each = c.loop-place.invariant.each;
    }
