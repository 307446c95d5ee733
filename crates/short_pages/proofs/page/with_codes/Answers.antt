use Rattle.std.proofs.Common.{◌*◌, ◌-◌, ◌/◌, ◌∙◌, List, ℕ, length, replicate, take, ap}
use Rattle.septets.specs.Packing.{unpacked}
use Rattle.ucs2_text.specs.Ucs2.{octets_of_units, units_of_octets}
use Rattle.short_pages.specs.WholePage.{packed}
use Rattle.short_pages.proofs.Came.{unpacked-padded, units-front}
use Rattle.short_pages.proofs.page.with_codes.Goals as goal

pub returns-in-Gsm : goal.returns-in-Gsm
returns-in-Gsm c =
    let came : List ℕ = c.args.came.now in
    let same = c.with_septets.ensures
    ∙ ap (λ octets. packed (take (8 * length came / 7) (unpacked octets))) c.padded-content.ensures
    ∙ ap (λ septets. packed (take (8 * length came / 7) septets)) (unpacked-padded came (82 - length came)) in
    rw c.in-Gsm.is same

pub returns-in-Ucs2 : goal.returns-in-Ucs2
returns-in-Ucs2 c =
    let came : List ℕ = c.args.came.now in
    let same = c.with_units.ensures
    ∙ ap (λ octets. octets_of_units (take (length came / 2) (units_of_octets octets))) c.padded-content.ensures
    ∙ ap octets_of_units (units-front came (replicate (82 - length came) 0)) in
    rw c.in-Ucs2.is same
