use Rattle.std.proofs.Common.{◌≡◌, ◌≤◌, ℕ, List, length, take, arith, rules, subst}
use Rattle.std.proofs.lemmas.List.{length-take}
use Rattle.septets.specs.Packing.{unpacked, IsPacked}
use Rattle.septets.proofs.PackingLaws.{length-unpacked}
use Rattle.short_pages.proofs.Packed.{packed-is}
use Rattle.short_pages.proofs.page.with_septets.Goals as goal

pub returns : goal.returns
returns c =
    let codes : List ℕ = take c.args.count (unpacked c.args.content.now) in
    let few : length codes ≤ 93 =
    omega (arith, length-take c.args.count (unpacked c.args.content.now), length-unpacked c.args.content.now) in
    let items : c.truncate.new.self.items ≡ codes = search rules in
    packed-is codes c.pack.result few
    (subst (λ (septets : List ℕ). IsPacked septets c.pack.result) items c.pack.ensures)
