use Rattle.std.proofs.Common.{◌≡◌, ◌∙◌, ℕ, List, Option, Some, length, ap}
use Rattle.std.specs.HashMap.{get_by_text}
use Rattle.std.specs.String.{string_bytes}
use Rattle.std.proofs.lemmas.Map.Text.{hash_map_updates_text}
use Rattle.alert_book.specs.declared.book.names.Known.{Known}
use Rattle.alert_book.specs.declared.book.order.Order.{Order}
use Rattle.alert_book.specs.NameSteps.{known_after}
use Rattle.alert_book.proofs.NameLaws.{names_more}
use Rattle.alert_book.proofs.book.names.Names.add.Goals as goal

pub returns-clause-added : goal.returns-clause-added
returns-clause-added c =
    let order = c.args.order.now in
    let name : c.as_str-name.result.now ≡ order.name = c.as_str-name.ensures.value
    ∙ ap (λ (o : Order). o.name) c.order.view_is in
    let key : string_bytes c.in_ok-key.key ≡ order.name = c.in_ok-key.ensures.ok ∙ name in
    let known = c.known_after-known.ensures
    ∙ ap (λ (k : Option Known). known_after k (length c.args.orders.now) order)
    (c.known.ensures ∙ ap (λ (n : List ℕ). get_by_text c.args.self.now.by_name n) name) in
    names_more c.args.orders.now order (λ n. get_by_text c.args.self.now.by_name n)
    (λ n. get_by_text c.insert.new.self n) c.requires.names (λ n. rw (key, known) at
    (hash_map_updates_text (string_bytes c.in_ok-key.key) c.args.self.now.by_name c.insert.new.self
    (Some c.known_after-known.result) c.in_ok-insert.ensures.updates n))
