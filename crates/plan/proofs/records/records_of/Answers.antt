use Rattle.std.proofs.Common.{◌∙◌, ap, Bor, List, ℕ, Some, inl, inr, refl, sym, []}
use Rattle.csv.specs.Reading.{Reached, strip_bom}
use Rattle.csv.specs.Records.{fields_of}
use Rattle.csv.specs.declared.parser.Config.{Config}
use Rattle.csv.specs.declared.parser.State.TheVariants as st
use Rattle.csv.proofs.ReadFacts.{rows-end, rows-more}
use Rattle.plan.specs.PlanText.{config_of, separator_of}
use Rattle.plan.proofs.records.records_of.Goals as goal

pub loop-row-init : goal.loop-row-init
unfolding Reached
loop-row-init c =
    let fr = c.from_reader-reader.ensures in
    let e = rw c.has_headers.ensures at c.flexible.ensures in
    let d = rw e at c.delimiter.ensures in
    let start = c.into_iter-row-iterator.ensures.into_iter_gives ∙ refl in
    let rdr = c.into_byte_records-row-items.ensures.rdr in
    let left = c.into_byte_records-row-items.ensures.left in
    rw (start, rdr, c.new-records.ensures.items) record {
      trim = rw d at fr.trim ∙ c.new.ensures.trim;
      ready = inr (inr (rw d at fr.has_headers, fr.headers));
      turns = left;
      config = rw d at fr.config
          ∙ ap (λ (k : Config). record k { delimiter = c.separator_of-separator.result }) c.new.ensures.config
          ∙ ap config_of (c.separator_of-separator.ensures ∙ ap separator_of c.without_mark.ensures);
      left = strip_bom c.args.octets.now;
      source = fr.source;
      reached = (sym fr.state, refl);
    }

pub loop-row-preserved : goal.loop-row-preserved
loop-row-preserved c =
    let inv = c.loop-row.invariant in
    let text : List ℕ = strip_bom c.args.octets.now in
    let s = rw (c.in-Some.is, c.in-Ok.is) at ((c.next.ensures.steps inv.turns inv.trim).0 inv.ready) in
    let m = rows-more (λ (s : Bor (List ℕ)). Some s.now) c.loop-row.row-iterator.rdr c.next.new.self.rdr
    (fields_of c.in-Ok.record) (config_of (separator_of text)) st.StartRecord text inv.left c.loop-row.records.items
    inv.config inv.source inv.reached s.0 in
    record {
      trim = s.0.3 ∙ inv.trim;
      ready = inl s.1;
      turns = s.2;
      config = s.0.2 ∙ inv.config;
      left = m.0;
      source = m.1;
      reached = rw c.in_ok-push.ensures.items m.2;
    }

pub returns : goal.returns
returns c =
    let inv = c.loop-row.invariant in
    let text : List ℕ = strip_bom c.args.octets.now in
    let s = rw c.in-None.is at ((c.next.ensures.steps inv.turns inv.trim).0 inv.ready) in (
      c.loop-row.row-iterator.rdr.state,
      inv.left,
      inv.reached,
      rows-end (λ (s : Bor (List ℕ)). Some s.now) c.loop-row.row-iterator.rdr c.next.new.self.rdr []
          (config_of (separator_of text)) inv.left inv.config inv.source s,
    )
