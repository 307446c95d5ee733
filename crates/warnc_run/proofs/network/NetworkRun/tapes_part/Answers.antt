use Rattle.std.proofs.Common.{◌∙◌, ap, sym}
use Rattle.alert_book.specs.declared.network.Origin.TheVariants as origin
use Rattle.warnc_run.specs.Network.{octets_of_group}
use Rattle.warnc_run.specs.declared.product.Product.{Product}
use Rattle.warnc_run.proofs.GroupParts.{a_book}
use Rattle.warnc_run.proofs.Written.{made_live, tapes_have_octets}
use Rattle.warnc_run.proofs.network.NetworkRun.tapes_part.Goals as goal

pub tapes_by_one-requires-clause-book : goal.tapes_by_one-requires-clause-book
tapes_by_one-requires-clause-book g c κs within =
    let read = c.requires.read in
    a_book c.args.group read.0 c.in_ok-book.book (c.in_ok-book.ensures read.0 read.1)

pub returns : goal.returns
returns g c = record {
  made = λ input means.
      let are = c.in_ok-tapes.ensures.ok in
      let network = c.args.self.now in
      let from = origin.Group c.args.group in
      let made = made_live c.session_laws.ensures.shown c.session_laws.ensures.accepted
      c.legal_histories.ensures.legal_histories_are_served from input c.in_ok-book.book network.slots
      network.sessions.number c.in_ok-tapes.tapes.items network.few_slots (c.in_ok-book.ensures input means) are in (
        record {
          records = made.records;
          run = made.run;
          written = made.written
              ∙ ap (λ (m : Product).
              octets_of_group m network.slots network.groups c.args.group made.run.book.orders made.records)
              (sym c.requires.tapes);
        },
        tapes_have_octets c.in_ok-tapes.tapes.items are.records are.made,
      );
}
