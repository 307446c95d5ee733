use Rattle.std.proofs.Common.{◌≡◌, ◌<◌, ◌++◌, ◌∷◌, [], false, subst, sym, ap, arith}
use Rattle.std.specs.List.{All}
use Rattle.std.proofs.lemmas.List.{length-map, get_or-map}
use Rattle.std.proofs.lemmas.List.Quantifiers.{all_pairs_push}
use Rattle.bsc_table.specs.declared.accepted.AcceptedMessage.{AcceptedMessage}
use Rattle.bsc_table.specs.Record.{Accepted, is_of_pair}
use Rattle.bsc_table.specs.Accepted.{accepted_of, TableState}
use Rattle.bsc_table.specs.Table.{AreRisingMessages}
use Rattle.bsc_table.proofs.Cell.TableByPair.{with_pair, not_taken}
use Rattle.bsc_table.proofs.table.Table.push.Goals as goal

pub invariant_of-self : goal.invariant_of-self
invariant_of-self c =
    let t = c.self.inside in
    let back = sym c.self.view_is in
    let messages = t.messages.items in
    let HasRoom : TableState → Type 0 = λ x. 0 < x.room in
    let Below : TableState → Type 0 = λ x. All (λ (a : Accepted). a.message.entry < c.args.new.entry) x.all in
    let room = subst HasRoom back c.requires.room in
    let below = subst Below back c.requires.rising in
    let gap = rw c.as_slice.ensures.value at c.in-Err.ensures in
    let rising : AreRisingMessages (messages ++ c.args.new ∷ []) = all_pairs_push (λ (a b : AcceptedMessage).
    a.entry < b.entry) messages c.args.new c.self.invariant.rising (λ k d h.
    let entry = ap (λ (a : Accepted). a.message.entry) (get_or-map accepted_of messages k d (accepted_of d) h) in
    omega (arith, below k (accepted_of d) (omega (arith, h, length-map messages accepted_of)), entry)) in
    record {
      rising = subst AreRisingMessages (sym c.push_reserved.ensures.items) rising;
      by_pair = rw (c.push_reserved.ensures.items, c.insert_at.ensures) (with_pair messages t.by_pair.items
          c.args.new _ c.in-Err.at c.self.invariant.by_pair gap (ap (λ x. (c.args.new.id, x)) c.number.ensures)
          (omega (arith, c.len.ensures, t.messages.ok.0)));
    }

pub returns-in_default : goal.returns-in_default
returns-in_default c =
    let t = c.self.inside in
    let Apart : TableState → Type 0 = λ x. All (λ (a : Accepted). is_of_pair a.id a.serial (accepted_of c.args.new)
    ≡ false) x.all in
    let found = rw c.as_slice.ensures.value at c.in_default.ensures in
    absurd (not_taken t.messages.items t.by_pair.items c.args.new c.in_default.field-0 c.self.invariant.by_pair found
    (subst Apart (sym c.self.view_is) c.requires.apart))
