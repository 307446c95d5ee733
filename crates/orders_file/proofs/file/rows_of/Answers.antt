use Rattle.std.proofs.Common.{◌∙◌, Bor, List, ℕ, Some, inl, inr, refl, sym, arith, [], ◌∷◌, ◌++◌, length-append}
use Rattle.std.proofs.lemmas.List.Elements.{All-nil}
use Rattle.csv.specs.Reading.{Reached, default_config, strip_bom}
use Rattle.csv.specs.Records.{fields_of}
use Rattle.csv.specs.declared.parser.State.TheVariants as st
use Rattle.csv.proofs.ReadFacts.{rows-end, rows-more}
use Rattle.orders_file.specs.Ranges.{IsWithin}
use Rattle.orders_file.proofs.FileLaws.{leave_all, leave_more, wrong_row}
use Rattle.orders_file.proofs.file.rows_of.Goals as goal

pub loop-record-init : goal.loop-record-init
unfolding Reached
loop-record-init c =
    let fr = c.from_reader-reader.ensures in
    let e = rw c.has_headers.ensures at c.flexible.ensures in
    let start = c.into_iter-record-iterator.ensures.into_iter_gives ∙ refl in
    let rdr = c.into_byte_records-record-items.ensures.rdr in
    let left = c.into_byte_records-record-items.ensures.left in
    rw (start, rdr, c.new-rows.ensures.items) record {
      trim = rw e at fr.trim ∙ c.new.ensures.trim;
      ready = inr (inr (rw e at fr.has_headers, fr.headers));
      turns = left;
      config = rw e at fr.config ∙ c.new.ensures.config;
      left = strip_bom c.args.octets.now;
      source = fr.source;
      seen = [];
      reached = (sym fr.state, refl);
      few = omega arith;
      count = refl;
      so = λ more. refl;
      within = All-nil IsWithin;
    }

pub loop-record-preserved : goal.loop-record-preserved
loop-record-preserved c =
    let inv = c.loop-record.invariant in
    let s = rw (c.in-Some.is, c.in-Ok.is) at ((c.next.ensures.steps inv.turns inv.trim).0 inv.ready) in
    let m = rows-more (λ (s : Bor (List ℕ)). Some s.now) c.loop-record.record-iterator.rdr c.next.new.self.rdr
    (fields_of c.in-Ok.fields) default_config st.StartRecord (strip_bom c.args.octets.now) inv.left inv.seen
    inv.config inv.source inv.reached s.0 in
    let read = c.in-Ok-push_row.ensures in
    record {
      trim = s.0.3 ∙ inv.trim;
      ready = inl s.1;
      turns = s.2;
      config = s.0.2 ∙ inv.config;
      left = m.0;
      source = m.1;
      seen = inv.seen ++ fields_of c.in-Ok.fields ∷ [];
      reached = m.2;
      few = read.few;
      count = rw read.ok.2 (simp length-append (omega (arith, inv.count)));
      so = leave_more inv.seen (fields_of c.in-Ok.fields) c.loop-record.row c.loop-record.rows.items _ read.ok.0
          inv.so read.ok.1 read.ok.2;
      within = read.ranges inv.within;
    }

pub returns-in-Err-clause-err : goal.returns-in-Err-clause-err
returns-in-Err-clause-err c =
    let inv = c.loop-record.invariant in
    let s = rw (c.in-Some.is, c.in-Ok.is) at ((c.next.ensures.steps inv.turns inv.trim).0 inv.ready) in
    let m = rows-more (λ (s : Bor (List ℕ)). Some s.now) c.loop-record.record-iterator.rdr c.next.new.self.rdr
    (fields_of c.in-Ok.fields) default_config st.StartRecord (strip_bom c.args.octets.now) inv.left inv.seen
    inv.config inv.source inv.reached s.0 in
    wrong_row c.args.octets.now inv.seen (fields_of c.in-Ok.fields) c.loop-record.row c.loop-record.rows.items
    c.in-Err.kind _ _ m.0 m.2 inv.so c.in-Err.ensures.err c.fault_of_row.ensures

pub returns-clause-ok : goal.returns-clause-ok
returns-clause-ok c =
    let inv = c.loop-record.invariant in
    let s = rw c.in-None.is at ((c.next.ensures.steps inv.turns inv.trim).0 inv.ready) in
    record {
      records = inv.seen;
      read = (
        c.loop-record.record-iterator.rdr.state,
        inv.left,
        inv.reached,
        rows-end (λ (s : Bor (List ℕ)). Some s.now) c.loop-record.record-iterator.rdr c.next.new.self.rdr []
            default_config inv.left inv.config inv.source s,
      );
      said = leave_all inv.seen c.loop-record.row c.loop-record.rows.items inv.so;
    }
