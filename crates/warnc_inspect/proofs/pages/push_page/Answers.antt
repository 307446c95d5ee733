use Rattle.std.proofs.Common.{◌≡◌, [], ◌∷◌, List, ℕ, drop, map, take, rules}
use Rattle.std.specs.Prelude.{encode_utf8_all}
use Rattle.std.specs.Fmt.{decimal}
use Rattle.hex.specs.Hex.{encode_lower}
use Rattle.cbch_blocks.specs.Blocks.{blocks_of_page}
use Rattle.cbs_page.specs.Page.{view_of}
use Rattle.cbs_page.specs.Text.{text_of_page}
use Rattle.warnc_inspect.specs.ReadOutput.{csv_row}
use Rattle.warnc_inspect.specs.PageOutput.{page_row}
use Rattle.warnc_inspect.proofs.pages.push_page.Goals as goal

pub returns : goal.returns
returns c =
    let page : List ℕ = c.args.page.now in
    let number : c.as_bytes.result.now ≡ decimal c.args.number = search rules in
    let total : c.as_bytes-2.result.now ≡ decimal c.args.total = search rules in
    let serial : c.as_bytes-3.result.now ≡ encode_lower (take 2 page) = search rules in
    let id : c.as_bytes-4.result.now ≡ encode_lower (take 2 (drop 2 page)) = search rules in
    let coding : c.as_bytes-5.result.now ≡ encode_lower (take 1 (drop 4 page)) = search rules in
    let used : c.as_bytes-6.result.now ≡ decimal c.args.used = search rules in
    let blocks : c.as_bytes-7.result.now ∷ c.as_bytes-8.result.now ∷ c.as_bytes-9.result.now ∷
    c.as_bytes-10.result.now ∷ [] ≡ map encode_lower (blocks_of_page page) = search rules in
    let text : c.as_bytes-11.result.now ≡ encode_utf8_all (text_of_page (view_of page)) = search rules in
    let fields : csv_row (c.as_bytes.result.now ∷ c.as_bytes-2.result.now ∷ c.as_bytes-3.result.now ∷
    c.as_bytes-4.result.now ∷ c.as_bytes-5.result.now ∷ c.as_bytes-6.result.now ∷ c.as_bytes-7.result.now ∷
    c.as_bytes-8.result.now ∷ c.as_bytes-9.result.now ∷ c.as_bytes-10.result.now ∷ c.as_bytes-11.result.now ∷ [])
    ≡ page_row c.args.number c.args.total c.args.used page = search
    (rules, number, total, serial, id, coding, used, blocks, text) in
    rw (← fields) c.push_row.ensures
