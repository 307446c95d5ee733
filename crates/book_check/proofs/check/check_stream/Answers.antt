use Rattle.std.proofs.Common.{◌≡◌, ◌∙◌, ℕ, List, rules, subst, sym}
use Rattle.std.specs.Io.KnownBytes.{Appends}
use Rattle.device_ends.specs.Sink.{writer_of}
use Rattle.alert_book.specs.Extent.{bounds_of}
use Rattle.book_check.specs.Checked.{IsCleanFor, LacksGroup}
use Rattle.book_check.proofs.Groups.{checked_as, clean_for, lacks_group, of_left, wrote}
use Rattle.book_check.proofs.check.check_stream.Goals as goal

pub returns-in-Some-clause-err : goal.returns-in-Some-clause-err
returns-in-Some-clause-err g c =
    let octets : List ℕ = c.in_ok-octets.octets.items in
    let output : List ℕ = c.in-Ok.checked.text.items in
    let checked = checked_as _ (bounds_of c.args.what) _ octets output c.in-Ok.checked.count c.in-Ok.checked.groups
    c.bounds-bounds.ensures c.deref.ensures.value c.in-Ok.ensures in
    of_left (LacksGroup c.args.what c.in-Some.groups) _ octets c.in_ok-octets.ensures.all
    (lacks_group c.args.what octets output c.in-Ok.checked.count c.in-Ok.checked.groups c.in-Some.groups checked
    (sym c.missing.ensures ∙ c.in-Some.is))

pub returns-in-0-clause-ok : goal.returns-in-0-clause-ok
returns-in-0-clause-ok g c =
    let octets : List ℕ = c.in_ok-octets.octets.items in
    let output : List ℕ = c.in-Ok.checked.text.items in
    let checked = checked_as _ (bounds_of c.args.what) _ octets output c.in-Ok.checked.count c.in-Ok.checked.groups
    c.bounds-bounds.ensures c.deref.ensures.value c.in-Ok.ensures in
    let none : c.in-Ok.checked.count ≡ 0 = search (rules, c.in-0.is) in
    wrote (IsCleanFor c.args.what) _ _ _ octets output c.in_ok-octets.ensures.all
    (clean_for c.args.what octets output c.in-Ok.checked.count c.in-Ok.checked.groups none checked
    (sym c.missing.ensures ∙ c.in-None.is))
    (subst (λ (xs : List ℕ). Appends (g.W.Write.contents (writer_of c.args.sink.now))
    (g.W.Write.contents (writer_of c.write_all.new.sink)) xs) c.deref-2.ensures.value
    c.in_default-write_all.ensures.ok)
