use Rattle.std.proofs.Common.{◌≡◌, ◌∙◌, ℕ, List, [], ◌++◌, drop, arith, replicate, refl, append_assoc, append-nil}
use Rattle.handset.proofs.Lists.{joined}
use Rattle.verification.proofs.page_fields.octets_of.Goals as goal

four : (a b c d : List ℕ) → (a ++ b) ++ (c ++ d) ≡ a ++ (b ++ (c ++ (d ++ [])))
four a b c d = rw (append_assoc a b (c ++ d), append-nil d) refl

pub returns : goal.returns
returns c =
    let first : c.copy_from_slice.new.self ≡ drop 1 c.args.first.now ++ drop 1 c.args.second.now =
    c.copy_from_slice.ensures.after ∙ c.joined.ensures in
    let second : c.copy_from_slice-2.new.self ≡ drop 1 c.args.third.now ++ drop 1 c.args.last.now =
    c.copy_from_slice-2.ensures.after ∙ c.joined-2.ensures in
    joined c.copy_from_slice.new.self (replicate 44 0) c.copy_from_slice-2.new.self 44 (omega arith) refl
    ∙ rw (first, second)
    (four (drop 1 c.args.first.now) (drop 1 c.args.second.now) (drop 1 c.args.third.now) (drop 1 c.args.last.now))
