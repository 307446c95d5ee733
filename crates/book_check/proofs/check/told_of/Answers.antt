use Rattle.std.proofs.Common.{◌≡◌, ◌+◌, ◌∙◌, ap, Bor, List, ℕ, Some, inl, inr, refl, subst, sym, arith, [], ◌∷◌, ◌++◌}
use Rattle.std.proofs.Common.{drop, false, true}
use Rattle.csv.specs.Reading.{Reached, default_config, strip_bom}
use Rattle.csv.specs.Records.{fields_of}
use Rattle.csv.specs.declared.parser.State.{State}
use Rattle.csv.specs.declared.parser.State.TheVariants as st
use Rattle.csv.proofs.ReadFacts.{rows-end, rows-more}
use Rattle.alert_book.specs.Judging.{counted_after, is_past, none_within, Counted}
use Rattle.book_check.specs.CheckSteps.{IsSoFar, Tells}
use Rattle.book_check.specs.Lines.{at_start, line_of, stand_at}
use Rattle.book_check.specs.declared.check.Told.{Told}
use Rattle.book_check.proofs.LineLaws.{passed_to, reached_last}
use Rattle.book_check.proofs.SoFarLaws.{all_told, count_fits, counted_more, counted_rows, ends_past, none_so_far}
use Rattle.book_check.proofs.SoFarLaws.{one_more, one_not_past, up_to, up_to_one}
use Rattle.book_check.proofs.check.told_of.Goals as goal

pub loop-record-init : goal.loop-record-init
unfolding Reached
loop-record-init c =
    let fr = c.from_reader-reader.ensures in
    let e = rw c.has_headers.ensures at c.flexible.ensures in
    let start = c.into_iter-record-iterator.ensures.into_iter_gives ∙ refl in
    let rdr = c.into_byte_records-record-items.ensures.rdr in
    let left = c.into_byte_records-record-items.ensures.left in
    let text : List ℕ = strip_bom c.args.octets.now in
    let told : Told = record { table = c.in_ok-new.field-0; count = 0 } in
    let rows : c.within-judge.result.rows ≡ 0 = ap (λ (j : Counted). j.rows) c.within-judge.ensures in
    rw (start, rdr) record {
      trim = rw e at fr.trim ∙ c.new-2.ensures.trim;
      ready = inr (inr (rw e at fr.has_headers, fr.headers));
      turns = left;
      config = rw e at fr.config ∙ c.new-2.ensures.config;
      left = text;
      source = fr.source;
      seen = [];
      reached = (sym fr.state, refl);
      counts = sym c.within-judge.ensures;
      room = tt;
      count = omega arith;
      before = record {
        on = record { fits = omega arith; ended = refl; few = omega arith };
        start = refl;
      };
      state_is = sym fr.state;
      left_is = c.without_mark-text.ensures;
      so_far = subst (λ (s : State). IsSoFar c.args.bounds text [] (stand_at s text) c.within-judge.result
          told) (sym fr.state)
          (subst (λ (j : Counted). IsSoFar c.args.bounds text [] (at_start text) j told) (sym c.within-judge.ensures)
          (none_so_far c.args.bounds text told c.in_ok-new.ensures refl));
    }

pub loop-record-preserved : goal.loop-record-preserved
loop-record-preserved c =
    let inv = c.loop-record.invariant in
    let text : List ℕ = strip_bom c.args.octets.now in
    let fields : List (List ℕ) = fields_of c.in-Ok.fields in
    let old = c.loop-record.record-iterator.rdr in
    let new = c.next.new.self.rdr in
    let s = rw (c.in-Some.is, c.in-Ok.is) at ((c.next.ensures.steps inv.turns inv.trim).0 inv.ready) in
    let m = rows-more (λ (s : Bor (List ℕ)). Some s.now) old new fields default_config st.StartRecord text inv.left
    inv.seen inv.config inv.source inv.reached s.0 in
    let read = reached_last st.StartRecord old.state new.state text inv.left m.0 inv.seen fields inv.reached m.2 in
    let room : is_past c.loop-record.judge fields ≡ false = sym c.is_past-is_last.ensures ∙ c.if-is_last.false in
    let tells = c.in_ok-tell.ensures.told in
    let counted : c.tell.new.judge.rows ≡ c.loop-record.judge.rows + 1 =
    ap (λ (j : Counted). j.rows) tells.next ∙ counted_rows c.loop-record.judge fields room in
    let line : c.pass_record-passed.result.line ≡ line_of text inv.left =
    c.pass_record-passed.ensures.line
    ∙ ap (λ (t : List ℕ). line_of t (drop c.loop-record.cursor.at c.without_mark-text.result.now))
    c.without_mark-text.ensures
    ∙ ap (line_of text) inv.left_is in
    let passed = passed_to c.without_mark-text.result.now c.loop-record.cursor c.pass_record-passed.result.cursor
    (fields, new.state, m.0) old.state inv.left inv.state_is inv.left_is read c.pass_record-passed.ensures.passes in
    record {
      trim = s.0.3 ∙ inv.trim;
      ready = inl s.1;
      turns = s.2;
      config = s.0.2 ∙ inv.config;
      left = m.0;
      source = m.1;
      seen = inv.seen ++ fields ∷ [];
      reached = m.2;
      counts = counted_more (none_within c.args.bounds) inv.seen fields
          ∙ ap (λ (j : Counted). counted_after j fields) inv.counts ∙ sym tells.next;
      room = one_not_past (none_within c.args.bounds) inv.seen fields inv.room
          (ap (λ (j : Counted). is_past j fields) inv.counts ∙ room);
      count = rw counted (count_fits tells.verdict c.loop-record.told.count c.tell.new.told.count
          c.loop-record.judge.rows tells.counted inv.count);
      before = c.pass_record-passed.ensures.before;
      state_is = passed.0;
      left_is = passed.1;
      so_far = one_more c.args.bounds text inv.seen (stand_at old.state inv.left) fields c.loop-record.judge
          c.tell.new.judge
          c.loop-record.told c.tell.new.told (fields, new.state, m.0) inv.so_far
          (subst (λ n. Tells c.loop-record.judge c.tell.new.judge n fields c.loop-record.told c.tell.new.told) line
          tells)
          read;
    }

pub returns-then-is_last : goal.returns-then-is_last
returns-then-is_last c =
    let inv = c.loop-record.invariant in
    let text : List ℕ = strip_bom c.args.octets.now in
    let fields : List (List ℕ) = fields_of c.in-Ok.fields in
    let old = c.loop-record.record-iterator.rdr in
    let new = c.next.new.self.rdr in
    let s = rw (c.in-Some.is, c.in-Ok.is) at ((c.next.ensures.steps inv.turns inv.trim).0 inv.ready) in
    let m = rows-more (λ (s : Bor (List ℕ)). Some s.now) old new fields default_config st.StartRecord text inv.left
    inv.seen inv.config inv.source inv.reached s.0 in
    let read = reached_last st.StartRecord old.state new.state text inv.left m.0 inv.seen fields inv.reached m.2 in
    let past : is_past c.loop-record.judge fields ≡ true = sym c.is_past-is_last.ensures ∙ c.if-is_last.true in
    let line : c.pass_record-passed.result.line ≡ line_of text inv.left =
    c.pass_record-passed.ensures.line
    ∙ ap (λ (t : List ℕ). line_of t (drop c.loop-record.cursor.at c.without_mark-text.result.now))
    c.without_mark-text.ensures
    ∙ ap (line_of text) inv.left_is in
    let more = one_more c.args.bounds text inv.seen (stand_at old.state inv.left) fields c.loop-record.judge
    c.tell.new.judge c.loop-record.told c.tell.new.told (fields, new.state, m.0) inv.so_far
    (subst (λ n. Tells c.loop-record.judge c.tell.new.judge n fields c.loop-record.told c.tell.new.told) line
    c.in_ok-tell.ensures.told)
    read in
    all_told c.args.bounds c.args.octets.now (inv.seen ++ fields ∷ []) new.state m.0 (stand_at new.state m.0)
    c.tell.new.judge c.tell.new.told more m.2 (up_to_one (none_within c.args.bounds) inv.seen fields inv.room)
    (inr (ends_past (none_within c.args.bounds) inv.seen fields (ap (λ (j : Counted). is_past j fields) inv.counts
    ∙ past)))
    (counted_more (none_within c.args.bounds) inv.seen fields
    ∙ ap (λ (j : Counted). counted_after j fields) inv.counts ∙ sym c.in_ok-tell.ensures.told.next)

pub returns : goal.returns
returns c =
    let inv = c.loop-record.invariant in
    let text : List ℕ = strip_bom c.args.octets.now in
    let old = c.loop-record.record-iterator.rdr in
    let s = rw c.in-None.is at ((c.next.ensures.steps inv.turns inv.trim).0 inv.ready) in
    all_told c.args.bounds c.args.octets.now inv.seen old.state inv.left (stand_at old.state inv.left)
    c.loop-record.judge c.loop-record.told inv.so_far inv.reached (up_to (none_within c.args.bounds) inv.seen inv.room)
    (inl (rows-end (λ (s : Bor (List ℕ)). Some s.now) old c.next.new.self.rdr [] default_config inv.left inv.config
    inv.source s)) inv.counts
