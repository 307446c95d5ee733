use Rattle.std.proofs.Common.{rules, refl, arith, ◌≡◌, ℕ, ◌∙◌, ◌+◌, ◌*◌, List, take, drop, length, slice_index}
use Rattle.std.proofs.lemmas.List.{take_rest}
use Rattle.cbs_page.specs.Page.{place_of}
use Rattle.cbs_page.proofs.octets.read_page.Goals as goal

-- the 82 octets behind the first six of 88 are all that stands there
content_whole : (octets : List ℕ) → length octets ≡ 88 → take 82 (drop 6 octets) ≡ drop 6 octets
content_whole octets whole = rw whole at (take_rest octets 6)

pub returns : goal.returns
returns c =
    let octets = c.args.octets.now in
    let serial : c.of.result ≡ 256 * slice_index octets 0 + slice_index octets 1 = omega arith in
    let id : c.from_be_bytes-2.result ≡ 256 * slice_index octets 2 + slice_index octets 3 = omega arith in
    let place : c.page_place-number.result ≡ place_of (slice_index octets 5) = search rules in
    let content : c.copy_from_slice.new.self ≡ drop 6 octets =
    c.copy_from_slice.ensures.after ∙ content_whole octets (omega arith) in
    rw (serial, id, place, content) refl
