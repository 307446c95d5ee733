use Rattle.std.proofs.Common.{◌≡◌, ℕ, List, arith, sym, subst, ap, ◌∙◌, [], ◌∷◌}
use Rattle.std.specs.Str.{IsUtf8, chars}
use Rattle.std.proofs.lemmas.Str.{encodes-chars}
use Rattle.cbs_page.specs.Text.{IsPagedText}
use Rattle.warnc_inspect.specs.PageOutput.{without_final_lf}
use Rattle.warnc_inspect.proofs.MessageLaws.{in_known, shows_page_by_page, shows_text}
use Rattle.warnc_inspect.proofs.page.page_output.Goals as goal

pub written_as-requires-clause-known : goal.written_as-requires-clause-known
written_as-requires-clause-known c =
    in_known c.args.language.now (chars c.in-Ok.text.now) c.in-Ok-paginate.paged c.in-Ok-paginate.ensures.sent

pub returns-in-Ok-written_as-clause-output : goal.returns-in-Ok-written_as-clause-output
returns-in-Ok-written_as-clause-output c =
    let text : c.in-Ok.text.now ≡ without_final_lf c.args.input.now = c.in-Ok.ensures.cases.0 ∙ c.text_octets.ensures in
    let utf8 : IsUtf8 c.in-Ok.text.now =
    subst (λ (octets : List ℕ). IsUtf8 octets) (sym c.in-Ok.ensures.cases.0) c.in-Ok.ensures.cases.1 in
    record {
      bounded = omega arith;
      utf8 = subst (λ (octets : List ℕ). IsUtf8 octets) c.text_octets.ensures c.in-Ok.ensures.cases.1;
      paged = c.in-Ok-paginate.paged;
      sent = subst (λ (octets : List ℕ). IsPagedText c.args.language.now (chars octets) c.in-Ok-paginate.paged) text
          c.in-Ok-paginate.ensures.sent;
      written = c.in-Ok-written_as.ensures;
      shown = shows_text c.args.language.now (chars c.in-Ok.text.now) c.args.id c.args.serial c.in-Ok-paginate.paged
          c.in-Ok-paginate.ensures.sent c.in-Ok-paginate.ensures.shown
          ∙ ap (λ bytes. record { id = c.args.id; serial = c.args.serial; text = bytes } ∷ [])
          (encodes-chars c.in-Ok.text.now utf8 ∙ text);
      page_by_page = shows_page_by_page c.args.language.now (chars c.in-Ok.text.now) c.args.id c.args.serial
          c.in-Ok-paginate.paged c.in-Ok-paginate.ensures.sent c.in-Ok-paginate.ensures.shown ∙ ap chars text;
    }
