use Rattle.std.proofs.Common.{◌∙◌}
use Rattle.alert_book.specs.declared.network.Origin.TheVariants as origin
use Rattle.warnc_run.proofs.GroupParts.{a_book}
use Rattle.warnc_run.proofs.Written.{run_of_book}
use Rattle.warnc_run.proofs.network.NetworkRun.text_part.Goals as goal

pub text_of_book-requires-clause-book : goal.text_of_book-requires-clause-book
text_of_book-requires-clause-book g c κs within =
    let read = c.requires.read in
    a_book c.args.group read.0 c.in_ok-book.book (c.in_ok-book.ensures read.0 read.1)

pub returns : goal.returns
unfolding run_of_book
returns g c = record {
  made = λ input means.
      let is = c.in_ok-octets.ensures.ok in
      let network = c.args.self.now in (
        record {
          records = is.records;
          run = run_of_book c.session_laws.ensures.shown c.session_laws.ensures.accepted
              c.legal_histories.ensures.legal_histories_are_served (origin.Group c.args.group) input
              c.in_ok-book.book network.slots network.sessions.number is.records network.few_slots
              (c.in_ok-book.ensures input means) is.live;
          written = is.made_of ∙ c.text-text.ensures c.in_ok-book.book.orders is.records;
        },
        tt,
      );
}
