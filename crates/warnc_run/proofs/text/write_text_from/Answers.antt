use Rattle.std.proofs.Common.{◌≡◌, ◌≤◌, Err, refl, rules, subst, sym}
use Rattle.std.proofs.KnownBytes.{Keeps-refl}
use Rattle.warnc_run.specs.Faults.{HasReadFrom}
use Rattle.warnc_run.specs.Products.{IsOutput}
use Rattle.warnc_run.specs.declared.product.ProductFault.TheVariants as fault
use Rattle.warnc_run.proofs.Readings.{fault_of_text, text_made}
use Rattle.warnc_run.proofs.Written.{where_it_is}
use Rattle.warnc_run.proofs.text.write_text_from.Goals as goal

pub returns-in_err-octets-clause-err : goal.returns-in_err-octets-clause-err
returns-in_err-octets-clause-err g c =
    let read = c.in_ok-book.ensures.ok in
    let whole : HasReadFrom c.args.origin _ _ = record {
      input = read.input;
      book = c.in_ok-book.book;
      read = read.consumed;
      ended = read.ended;
      is_book = read.meant;
    } in
    let why = c.in_err-octets.field-0.0 in
    let is : c.from_residual-in_err-octets.result ≡ Err (fault.Run why) =
    search (rules, c.from_residual-in_err-octets.ensures) in
    where_it_is _ c.from_residual-in_err-octets.result (fault.Run why) is
    (fault_of_text c.args.made c.args.origin c.args.run.now.slots c.args.run.now.sessions.number _ _ _ _
    c.in_ok-book.book why whole refl c.in_err-octets.ensures.err (Keeps-refl _))

pub returns-in-Ok-clause-ok : goal.returns-in-Ok-clause-ok
returns-in-Ok-clause-ok g c =
    let read = c.in_ok-book.ensures.ok in
    let run = c.args.run.now in
    let few : run.slots ≤ 65535 = run.few_slots in record {
      input = read.input;
      output = c.deref.result.now;
      read = read.consumed;
      ended = read.ended;
      meant = subst (IsOutput c.args.made c.args.origin run.slots run.sessions.number read.input)
          (sym c.deref.ensures.value)
          (text_made c.session_laws.ensures.shown c.session_laws.ensures.accepted
          c.legal_histories.ensures.legal_histories_are_served c.args.made c.text_of_product-text.result c.args.origin
          read.input c.in_ok-book.book run.slots run.sessions.number c.in_ok-octets.octets.items few read.meant
          c.text_of_product-text.ensures c.in_ok-octets.ensures.ok);
      appended = c.in-Ok.ensures.ok;
    }

pub returns-clause-err : goal.returns-clause-err
returns-clause-err g c =
    let read = c.in_ok-book.ensures.ok in
    let run = c.args.run.now in
    let few : run.slots ≤ 65535 = run.few_slots in (
      c.requires,
      record {
        input = read.input;
        output = c.deref.result.now;
        read = read.consumed;
        ended = read.ended;
        meant = subst (IsOutput c.args.made c.args.origin run.slots run.sessions.number read.input)
            (sym c.deref.ensures.value)
            (text_made c.session_laws.ensures.shown c.session_laws.ensures.accepted
            c.legal_histories.ensures.legal_histories_are_served c.args.made c.text_of_product-text.result c.args.origin
            read.input c.in_ok-book.book run.slots run.sessions.number c.in_ok-octets.octets.items few read.meant
            c.text_of_product-text.ensures c.in_ok-octets.ensures.ok);
        front = c.in-Err.ensures.err;
      },
    )
