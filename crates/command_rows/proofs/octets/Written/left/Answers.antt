use Rattle.std.proofs.Common.{◌≡◌, ◌∙◌, ap, arith, drop, length}
use Rattle.std.specs.Prelude.{min}
use Rattle.std.proofs.lemmas.List.{drop_min, take_rest}
use Rattle.command_rows.proofs.octets.Written.left.Goals as goal

pub returns : goal.returns
returns c =
    let taken = c.contents-taken.result.now in
    let looked = c.args.self.now.looked in
    let at : c.min.result ≡ min looked (length taken) = omega (arith, c.min.ensures) in
    take_rest taken c.min.result ∙ ap (λ n. drop n taken) at ∙ drop_min looked taken
    ∙ ap (λ octets. drop looked octets) c.contents-taken.ensures
