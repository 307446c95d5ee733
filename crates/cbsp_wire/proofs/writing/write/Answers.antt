use Rattle.std.proofs.Common.{◌≡◌, ◌∙◌, ◌++◌, sym, ap, refl, subst, List, ℕ, true}
use Rattle.std.proofs.lemmas.Bool.{false≢true}
use Rattle.cbsp_wire.specs.Meaning.{IsMessage}
use Rattle.cbsp_wire.specs.Range.{is_writable}
use Rattle.cbsp_wire.specs.Written.{octets_of_message}
use Rattle.cbsp_wire.proofs.MeantLaws.{IsMessage-writable}
use Rattle.cbsp_wire.proofs.WrittenLaws.{octets_of_message-meant}
use Rattle.cbsp_wire.proofs.writing.write.Goals as goal

pub returns-then-not-is_writable-clause-refused : goal.returns-then-not-is_writable-clause-refused
returns-then-not-is_writable-clause-refused c = (
  refl,
  λ octets meant.
      let writable : is_writable c.args.message.now ≡ true = IsMessage-writable octets c.args.message.now meant in
      false≢true (sym c.if-not-is_writable.true ∙ c.is_writable.ensures ∙ writable),
)

pub returns-in-Ok-clause-meant : goal.returns-in-Ok-clause-meant
returns-in-Ok-clause-meant c =
    let items : c.write_in.new.out.items ≡ octets_of_message c.args.message.now =
    c.write_in.ensures.appended
    ∙ ap (λ (old : List ℕ). old ++ octets_of_message c.args.message.now) c.in-Ok.ensures.items in
    subst (λ (o : List ℕ). IsMessage o c.args.message.now) (sym items)
    (octets_of_message-meant c.args.message.now (sym c.is_writable.ensures ∙ c.if-not-is_writable.false))

pub returns-in-Err-clause-refused : goal.returns-in-Err-clause-refused
returns-in-Err-clause-refused c = (
  octets_of_message c.args.message.now,
  octets_of_message-meant c.args.message.now (sym c.is_writable.ensures ∙ c.if-not-is_writable.false),
)
