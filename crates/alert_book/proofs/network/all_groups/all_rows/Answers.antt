use Rattle.std.proofs.Common.{◌∙◌, Bor, List, ℕ, ◌+◌, Some, ap, inl, inr, refl, sym, [], ◌∷◌, ◌++◌}
use Rattle.csv.specs.Reading.{default_config, strip_bom}
use Rattle.csv.specs.Records.{fields_of}
use Rattle.csv.specs.declared.parser.State.TheVariants as st
use Rattle.csv.specs.Reading.{Reached}
use Rattle.csv.proofs.ReadFacts.{rows-end, rows-more}
use Rattle.alert_book.specs.AllGroupsSteps.{rows_in}
use Rattle.alert_book.specs.Book.{rows_read_by, Rows}
use Rattle.alert_book.specs.Network.{row_in_group}
use Rattle.alert_book.proofs.AllGroupsLaws.{fault_in, kept_next, none_in, number_next, read_next}
use Rattle.alert_book.proofs.BookLaws.{leave_all, leave_more, wrong_row}
use Rattle.alert_book.proofs.network.all_groups.all_rows.Goals as goal

pub loop-record-init : goal.loop-record-init
unfolding Reached
loop-record-init c =
    let fr = c.from_reader-reader.ensures in
    let e = rw c.has_headers.ensures at c.flexible.ensures in
    let start = c.into_iter-record-iterator.ensures.into_iter_gives ∙ refl in
    let rdr = c.into_byte_records-record-items.ensures.rdr in
    let left = c.into_byte_records-record-items.ensures.left in
    rw (start, rdr) record {
      trim = rw e at fr.trim ∙ c.new.ensures.trim;
      ready = inr (inr (rw e at fr.has_headers, fr.headers));
      turns = left;
      config = rw e at fr.config ∙ c.new.ensures.config;
      left = strip_bom c.args.octets.now;
      source = fr.source;
      seen = [];
      reached = (sym fr.state, refl);
      count = c.new-known.ensures.sound.few_cells;
      few = c.new-known.ensures.sound.few;
      number = rw (c.new-known.ensures.cells, c.new-known.ensures.orders) refl;
      kept = c.new-known.ensures.sound;
      meant = λ group more. ap (λ (r : Rows). rows_read_by (row_in_group group) 1 r more)
          (sym (none_in c.new-known.result group c.new-known.ensures.cells c.new-known.ensures.orders));
    }

pub loop-record-preserved : goal.loop-record-preserved
loop-record-preserved c =
    let inv = c.loop-record.invariant in
    let s = rw (c.in-Some.is, c.in-Ok.is) at ((c.next.ensures.steps inv.turns inv.trim).0 inv.ready) in
    let m = rows-more (λ (s : Bor (List ℕ)). Some s.now) c.loop-record.record-iterator.rdr c.next.new.self.rdr
    (fields_of c.in-Ok.fields) default_config st.StartRecord (strip_bom c.args.octets.now) inv.left inv.seen
    inv.config inv.source inv.reached s.0 in
    let given = c.in-Ok-read.ensures.ok in
    let fields = fields_of c.in-Ok.fields in
    let row = c.loop-record.row in
    let kept = kept_next c.loop-record.known _ (row + 1) fields given.0 inv.kept given.1 given.2 in
    record {
      trim = s.0.3 ∙ inv.trim;
      ready = inl s.1;
      turns = s.2;
      config = s.0.2 ∙ inv.config;
      left = m.0;
      source = m.1;
      seen = inv.seen ++ fields ∷ [];
      reached = m.2;
      count = kept.few_cells;
      few = kept.few;
      number = number_next c.loop-record.known _ given.0 row given.2 inv.number;
      kept = kept;
      meant = λ group.
          let read = read_next c.loop-record.known _ (row + 1) fields given.0 inv.kept given.1 given.2 group in
          leave_more (row_in_group group) inv.seen fields row (rows_in c.loop-record.known group) _ read.meant
          (inv.meant group) read.right read.next;
    }

pub returns-in-Err-clause-err : goal.returns-in-Err-clause-err
returns-in-Err-clause-err c =
    let inv = c.loop-record.invariant in
    let s = rw (c.in-Some.is, c.in-Ok.is) at ((c.next.ensures.steps inv.turns inv.trim).0 inv.ready) in
    let m = rows-more (λ (s : Bor (List ℕ)). Some s.now) c.loop-record.record-iterator.rdr c.next.new.self.rdr
    (fields_of c.in-Ok.fields) default_config st.StartRecord (strip_bom c.args.octets.now) inv.left inv.seen
    inv.config inv.source inv.reached s.0 in
    wrong_row (row_in_group 0) c.args.octets.now inv.seen (fields_of c.in-Ok.fields) c.loop-record.row
    (rows_in c.loop-record.known 0) c.in-Err.fault _ _ m.0
    m.2 (inv.meant 0) (λ told. fault_in c.loop-record.known 0 (c.loop-record.row + 1)
    (fields_of c.in-Ok.fields) c.in-Err.fault inv.kept.grouped (c.in-Err.ensures.err told)) c.fault_of_row.ensures

pub returns-clause-ok : goal.returns-clause-ok
returns-clause-ok c =
    let inv = c.loop-record.invariant in
    let s = rw c.in-None.is at ((c.next.ensures.steps inv.turns inv.trim).0 inv.ready) in
    record {
      meant = λ group. record {
        records = inv.seen;
        read = (
          c.loop-record.record-iterator.rdr.state,
          inv.left,
          inv.reached,
          rows-end (λ (s : Bor (List ℕ)). Some s.now) c.loop-record.record-iterator.rdr c.next.new.self.rdr []
              default_config inv.left inv.config
              inv.source s,
        );
        meant = leave_all (row_in_group group) inv.seen c.loop-record.row (rows_in c.loop-record.known group)
            (inv.meant group);
      };
      few_cells = inv.kept.few_cells;
    }
