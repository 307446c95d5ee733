use Rattle.std.proofs.Common.{◌≡◌, ◌*◌, ◌∙◌, ℕ, List, ap, arith, drop, find, length, min}
use Rattle.std.proofs.lemmas.List.{drop_min, take_rest}
use Rattle.verification.specs.Explained.{is_named_by, octets_begun}
use Rattle.verification.proofs.page_fields.octets_sent.Goals as goal

pub returns : goal.returns
returns c =
    let first : c.min-first.result ≡ min (4 * c.args.difference.now.slot) (length c.args.blocks.now) =
    omega (arith, c.min-first.ensures, c.saturating_mul.ensures) in
    c.page_begun.ensures
    ∙ ap (λ (blocks : List (List ℕ)). find (is_named_by c.args.difference.now) (octets_begun blocks))
    (take_rest c.args.blocks.now c.min-first.result ∙ ap (λ (n : ℕ). drop n c.args.blocks.now) first
    ∙ drop_min (4 * c.args.difference.now.slot) c.args.blocks.now)
