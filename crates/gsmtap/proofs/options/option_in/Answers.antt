use Rattle.std.proofs.Common.{◌≡◌, ◌+◌, ◌-◌, ◌∙◌, List, ℕ, Some, ap, arith, drop, false, length, min, rules, sym, take}
use Rattle.std.proofs.Common.{true}
use Rattle.std.specs.Prelude.{◌==◌}
use Rattle.std.proofs.lemmas.List.{drop_min, take_rest}
use Rattle.gsmtap.specs.Blocks.{filled_up, is_option, option_in}
use Rattle.gsmtap.specs.File.{half_in}
use Rattle.gsmtap.proofs.OptionWalk.{next_option, no_option, this_option}
use Rattle.gsmtap.proofs.options.option_in.Goals as goal

pub returns-then-half_in-code : goal.returns-then-half_in-code
returns-then-half_in-code c =
    let left : List ℕ = c.options.left.now in
    let half : c.half_in.result ≡ half_in c.args.order (drop 2 left) =
    c.half_in.ensures ∙ ap (half_in c.args.order) (take_rest left 2) in
    let said : c.from-length.result ≡ half_in c.args.order (drop 2 left) = c.from-length.ensures ∙ half in
    let whole : 4 + c.from-length.result - 4 ≡ half_in c.args.order (drop 2 left) = omega (arith, said) in
    let is : is_option c.args.order left ≡ true = search rules in
    let same : (half_in c.args.order left == c.args.code) ≡ true = search rules in
    ap (λ n. Some (take n (drop 4 left))) whole ∙ sym (this_option c.args.order c.args.code left is same)
    ∙ c.options.invariant

pub options-preserved : goal.options-preserved
options-preserved c =
    let left : List ℕ = c.options.left.now in
    let half : c.half_in.result ≡ half_in c.args.order (drop 2 left) =
    c.half_in.ensures ∙ ap (half_in c.args.order) (take_rest left 2) in
    let said : c.from-length.result ≡ half_in c.args.order (drop 2 left) = c.from-length.ensures ∙ half in
    let is : is_option c.args.order left ≡ true = search rules in
    let other : (half_in c.args.order left == c.args.code) ≡ false = search rules in
    let end : c.min.result ≡ min (4 + filled_up (half_in c.args.order (drop 2 left))) (length left) = search rules in
    ap (option_in c.args.order c.args.code) (take_rest left c.min.result)
    ∙ ap (λ n. option_in c.args.order c.args.code (drop n left)) end
    ∙ ap (option_in c.args.order c.args.code) (drop_min (4 + filled_up (half_in c.args.order (drop 2 left))) left)
    ∙ next_option c.args.order c.args.code left is other ∙ c.options.invariant

pub returns : goal.returns
returns c =
    let isnt : is_option c.args.order c.options.left.now ≡ false = search rules in
    sym (no_option c.args.order c.args.code c.options.left.now isnt) ∙ c.options.invariant
