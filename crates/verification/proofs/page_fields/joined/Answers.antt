use Rattle.std.proofs.Common.{◌≡◌, ◌∙◌, ℕ, List, take, drop, arith, length, replicate, refl}
use Rattle.std.proofs.lemmas.List.{take_rest}
use Rattle.handset.proofs.Lists.{joined}
use Rattle.verification.proofs.page_fields.joined.Goals as goal

-- the 22 octets behind the first of 23 are all that stands there
rest_of : (block : List ℕ) → length block ≡ 23 → take 22 (drop 1 block) ≡ drop 1 block
rest_of block whole = rw whole at (take_rest block 1)

pub returns : goal.returns
returns c =
    let first : c.copy_from_slice.new.self ≡ drop 1 c.args.block.now =
    c.copy_from_slice.ensures.after ∙ rest_of c.args.block.now c.told-block in
    let second : c.copy_from_slice-2.new.self ≡ drop 1 c.args.next.now =
    c.copy_from_slice-2.ensures.after ∙ rest_of c.args.next.now c.told-next in
    joined c.copy_from_slice.new.self (replicate 22 0) c.copy_from_slice-2.new.self 22 (omega arith) refl
    ∙ rw (first, second) refl
