use Rattle.std.proofs.Common.{◌≡◌, ◌≢◌, ℕ, ◌≤◌, List, [], length, refl, sym, ap, ◌∙◌, IsSome, Some, true, false}
use Rattle.std.proofs.Common.{Option, eqb}
use Rattle.std.specs.Prelude.{is_some}
use Rattle.std.specs.Str.{IsUtf8, chars}
use Rattle.std.proofs.Math.Utf8.{encodes}
use Rattle.std.proofs.lemmas.Bool.{eqb-true}
use Rattle.std.proofs.lemmas.List.{nil_from_length}
use Rattle.std.proofs.lemmas.Result.{IfOk-weaker}
use Rattle.std.proofs.lemmas.Str.{encodes-chars, scalars-chars, chars-nil}
use Rattle.cbs_page.specs.Coding.{language_value}
use Rattle.cbs_page.specs.PagingSteps.{IsPaged}
use Rattle.cbs_page.specs.Text.{IsPagedText, ShowsText}
use Rattle.cbs_page.proofs.PaginateLaws.{each_scalar}
use Rattle.cbs_page.proofs.SentLaws.{fault_of_result, sent_count, sent_shows, sent_text}
use Rattle.cbs_page.proofs.paging.paginate.Goals as goal

spoken : (value : Option ℕ) (v : ℕ) → Some v ≡ value → IsSome value
spoken value v is = ap is_some (sym is)

no_characters : (bytes : List ℕ) → true ≡ eqb (length bytes) 0 → chars bytes ≡ []
no_characters bytes empty = ap chars (nil_from_length bytes (eqb-true (length bytes) 0 (sym empty))) ∙ chars-nil

some_characters : (bytes : List ℕ) → IsUtf8 bytes → false ≡ eqb (length bytes) 0 → chars bytes ≢ []
some_characters bytes utf8 not_empty none =
    let nothing : bytes ≡ [] = sym (encodes-chars bytes utf8) ∙ ap encodes none in
    let empty : eqb (length bytes) 0 ≡ true = rw nothing refl in
    let impossible : false ≡ true = not_empty ∙ empty in
    cc

pub returns-then-is_empty-clause-fault : goal.returns-then-is_empty-clause-fault
returns-then-is_empty-clause-fault c = (
  spoken (language_value c.args.language.now) c.in-Some.value c.in-Some.ensures,
  no_characters c.args.text.now
      c.if-is_empty.ensures,
)

pub paged_text-requires : goal.paged_text-requires
paged_text-requires c = some_characters c.args.text.now c.utf8.text c.if-is_empty.ensures

pub returns-clause-sent : goal.returns-clause-sent
returns-clause-sent c =
    let text = chars c.args.text.now in
    let language = c.args.language.now in
    IfOk-weaker c.paged_text.result (IsPaged c.in-Some.value text) (IsPagedText language text)
    (λ paged is. sent_text language text c.in-Some.value paged
    (some_characters c.args.text.now c.utf8.text c.if-is_empty.ensures) (sym c.in-Some.ensures) is)
    c.paged_text.ensures.sent

pub returns-clause-shown : goal.returns-clause-shown
returns-clause-shown c =
    let text = chars c.args.text.now in
    let language = c.args.language.now in
    IfOk-weaker c.paged_text.result (IsPaged c.in-Some.value text) (λ paged. ShowsText text paged)
    (λ paged is. sent_shows language text paged (each_scalar text (scalars-chars c.args.text.now c.utf8.text))
    (sent_text language text c.in-Some.value paged
    (some_characters c.args.text.now c.utf8.text c.if-is_empty.ensures) (sym c.in-Some.ensures) is))
    c.paged_text.ensures.sent

pub returns-clause-count : goal.returns-clause-count
returns-clause-count c =
    let text = chars c.args.text.now in
    let language = c.args.language.now in
    IfOk-weaker c.paged_text.result (IsPaged c.in-Some.value text)
    (λ paged. (1 ≤ length paged.pages.items) × (length paged.pages.items ≤ 15))
    (λ paged is. sent_count language text paged (sent_text language text c.in-Some.value paged
    (some_characters c.args.text.now c.utf8.text c.if-is_empty.ensures) (sym c.in-Some.ensures) is))
    c.paged_text.ensures.sent

pub returns-clause-fault : goal.returns-clause-fault
returns-clause-fault c =
    fault_of_result c.paged_text.result c.args.language.now (chars c.args.text.now) c.in-Some.value
    (some_characters c.args.text.now c.utf8.text c.if-is_empty.ensures) (sym c.in-Some.ensures)
    c.paged_text.ensures.fault
