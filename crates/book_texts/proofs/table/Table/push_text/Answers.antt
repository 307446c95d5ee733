use Rattle.std.proofs.Common.{◌≡◌, ◌++◌, [], ◌∷◌, List, ℕ, None, Option, Some, rules, subst, sym}
use Rattle.std.specs.Prelude.{OnOk}
use Rattle.book_texts.specs.TextsOutput.{line, text_line}
use Rattle.book_texts.specs.TextsSteps.{IsTable}
use Rattle.book_texts.proofs.table.Table.push_text.Goals as goal

pub returns-in-None : goal.returns-in-None
returns-in-None c =
    let order = c.args.order.now in
    let sending = c.args.sending.now in
    let fields : line (c.as_bytes.result.now ∷ c.as_bytes-2.result.now ∷ c.as_bytes-3.result.now ∷
    c.as_bytes-4.result.now ∷ c.as_bytes-5.result.now ∷ c.as_bytes-6.result.now ∷ c.as_bytes-7.result.now ∷
    c.as_bytes-8.result.now ∷ c.as_bytes-9.result.now ∷ [])
    ≡ text_line order sending c.args.cost None = search rules in
    subst (λ (cut : Option ℕ). OnOk c.push_line.result ((octets : List ℕ) → IsTable c.args.self.now octets
    → IsTable c.push_line.new.self (octets ++ text_line order sending c.args.cost cut))) (sym c.in-None.is)
    (rw (← fields) c.push_line.ensures)

pub returns-in-Some : goal.returns-in-Some
returns-in-Some c =
    let order = c.args.order.now in
    let sending = c.args.sending.now in
    let last = c.cut_unless_bad.ensures c.in-Some.field-0 c.in-Some.is in
    let fields : line (c.as_bytes.result.now ∷ c.as_bytes-2.result.now ∷ c.as_bytes-3.result.now ∷
    c.as_bytes-4.result.now ∷ c.as_bytes-5.result.now ∷ c.as_bytes-6.result.now ∷ c.as_bytes-7.result.now ∷
    c.as_bytes-8.result.now ∷ c.as_bytes-9.result.now ∷ c.as_bytes-10.result.now ∷ [])
    ≡ text_line order sending c.args.cost (Some c.in-Some.field-0) = search (rules, last) in
    subst (λ (cut : Option ℕ). OnOk c.push_line-in-Some.result ((octets : List ℕ) → IsTable c.args.self.now octets
    → IsTable c.push_line-in-Some.new.self (octets ++ text_line order sending c.args.cost cut))) (sym c.in-Some.is)
    (rw (← fields) c.push_line-in-Some.ensures)
