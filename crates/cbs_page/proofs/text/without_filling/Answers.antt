-- The search from the end found the last item that isn't filling, or none; all from `end` on fill the page.
use Rattle.std.proofs.Common.{rules, ◌≡◌, ℕ, ◌+◌, ◌-◌, ◌<◌, ◌≤◌, sym, true, false, length, take, get_or}
use Rattle.std.proofs.Common.{inl, inr, arith}
use Rattle.std.proofs.lemmas.Bool.{cases_lt}
use Rattle.std.proofs.lemmas.List.{get_or-take, length-take-le}
use Rattle.cbs_page.proofs.TrailingLaws.{without_trailing-is}
use Rattle.cbs_page.proofs.text.without_filling.Goals as goal

pub returns-in-Some : goal.returns-in-Some
returns-in-Some g c =
    let items = c.args.items.now in
    let searched : (k : ℕ) → c.in-Some.last + 1 ≤ k → k < length (take c.args.end items)
    → g.T.PartialEq.eq (get_or (take c.args.end items) k c.args.filling) c.args.filling ≡ true = search rules in
    let found : g.T.PartialEq.eq (get_or (take c.args.end items) c.in-Some.last c.args.filling) c.args.filling ≡ false =
    search rules in
    let back : c.in-Some.last + 1 - 1 ≡ c.in-Some.last = omega arith in
    let within : c.in-Some.last < length (take c.args.end items) = search rules in
    sym (without_trailing-is (λ item. g.T.PartialEq.eq item c.args.filling) items (c.in-Some.last + 1) c.args.filling
    (search rules)
    (λ k past within. elim (cases_lt k c.args.end) [
      | inl below ↦ rw (← get_or-take c.args.end items k c.args.filling below)
          (searched k past (rw (length-take-le c.args.end items c.requires.within) below))
      | inr above ↦ c.requires.filled k above within
    ])
    (λ some. rw back (rw (← get_or-take c.args.end items c.in-Some.last c.args.filling (rw (← length-take-le c.args.end
    items c.requires.within) within)) found)))

pub returns-in-None : goal.returns-in-None
returns-in-None g c =
    let items = c.args.items.now in
    let searched : (k : ℕ) → k < length (take c.args.end items)
    → g.T.PartialEq.eq (get_or (take c.args.end items) k c.args.filling) c.args.filling ≡ true = search rules in
    sym (without_trailing-is (λ item. g.T.PartialEq.eq item c.args.filling) items 0 c.args.filling (search rules)
    (λ k past within. elim (cases_lt k c.args.end) [
      | inl below ↦ rw (← get_or-take c.args.end items k c.args.filling below)
          (searched k (rw (length-take-le c.args.end items c.requires.within) below))
      | inr above ↦ c.requires.filled k above within
    ])
    (search rules))
