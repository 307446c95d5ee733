use Rattle.std.proofs.Common.{◌≡◌, ℕ, List, false, inr, rules, subst}
use Rattle.std.specs.Io.KnownBytes.{Appends}
use Rattle.device_ends.specs.Moves.{AppendsFront}
use Rattle.device_ends.specs.Sink.{writer_of}
use Rattle.book_remarks.specs.Remarked.{IsRemarked, IsRemarkedFor}
use Rattle.book_remarks.proofs.EngineLaws.{lax, unremarked, wrote}
use Rattle.book_remarks.proofs.check.remark_stream.Goals as goal

pub returns-then-not-strict-clause-ok : goal.returns-then-not-strict-clause-ok
returns-then-not-strict-clause-ok g c =
    let is : c.args.strict ≡ false = search (rules, c.if-not-strict.true) in
    let octets : List ℕ = c.in_ok-octets.octets.items in
    let output : List ℕ = c.in-Ok.remarked.text.items in
    let remarked : IsRemarked c.args.what c.args.slots c.args.start octets c.in-Ok.remarked.count output =
    subst (λ (xs : List ℕ). IsRemarked c.args.what c.args.slots c.args.start xs c.in-Ok.remarked.count output)
    c.deref.ensures.value
    c.in-Ok.ensures.ok in
    wrote (IsRemarkedFor c.args.what c.args.slots c.args.start c.args.strict) _ _ _ octets output
    c.in_ok-octets.ensures.all
    (lax c.args.what c.args.slots c.args.start c.args.strict c.in-Ok.remarked.count octets output is remarked)
    (subst (λ (xs : List ℕ). Appends (g.W.Write.contents (writer_of c.args.sink.now))
    (g.W.Write.contents (writer_of c.write_all.new.sink)) xs) c.deref-2.ensures.value
    c.in_default.ensures.ok)

pub returns-in-0-clause-ok : goal.returns-in-0-clause-ok
returns-in-0-clause-ok g c =
    let octets : List ℕ = c.in_ok-octets.octets.items in
    let output : List ℕ = c.in-Ok.remarked.text.items in
    let none : c.in-Ok.remarked.count ≡ 0 = search (rules, c.in-0.is) in
    let remarked : IsRemarked c.args.what c.args.slots c.args.start octets 0 output =
    subst (λ (n : ℕ). IsRemarked c.args.what c.args.slots c.args.start octets n output) none
    (subst (λ (xs : List ℕ). IsRemarked c.args.what c.args.slots c.args.start xs c.in-Ok.remarked.count output)
    c.deref.ensures.value
    c.in-Ok.ensures.ok) in
    wrote (IsRemarkedFor c.args.what c.args.slots c.args.start c.args.strict) _ _ _ octets output
    c.in_ok-octets.ensures.all
    (unremarked c.args.what c.args.slots c.args.start c.args.strict octets output remarked)
    (subst (λ (xs : List ℕ). Appends (g.W.Write.contents (writer_of c.args.sink.now))
    (g.W.Write.contents (writer_of c.write_all.new.sink)) xs) c.deref-2.ensures.value
    c.in_default.ensures.ok)

pub returns-in-Err-write_all-clause-err : goal.returns-in-Err-write_all-clause-err
returns-in-Err-write_all-clause-err g c = inr (record {
  input = c.in_ok-octets.octets.items;
  input_is = c.in_ok-octets.ensures.all;
  count = c.in-Ok.remarked.count;
  output = c.in-Ok.remarked.text.items;
  remarked = subst
      (λ (xs : List ℕ). IsRemarked c.args.what c.args.slots c.args.start xs c.in-Ok.remarked.count
      c.in-Ok.remarked.text.items) c.deref.ensures.value c.in-Ok.ensures.ok;
  written = subst (λ (xs : List ℕ). AppendsFront (g.W.Write.contents (writer_of c.args.sink.now))
      (g.W.Write.contents (writer_of c.write_all.new.sink)) xs) c.deref-2.ensures.value
      c.in-Err-write_all.ensures.err;
})
