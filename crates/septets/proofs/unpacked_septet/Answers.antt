use Rattle.std.proofs.Common.{◌≡◌, ◌/◌, ◌*◌, ◌+◌, get_or}
use Rattle.septets.proofs.Windows.{unpacked_value}
use Rattle.septets.proofs.unpacked_septet.Goals as goal

pub returns : goal.returns
returns c =
    let octets = c.args.octets.now in
    let place = c.args.place in
    let low : c.from.result ≡ get_or octets (7 * place / 8) 0 = cc in
    let high : c.from-2.result ≡ get_or octets (7 * place / 8 + 1) 0 = cc in
    unpacked_value octets place c.from.result c.from-2.result low high (rw low (c.fits-octets (7 * place / 8)))
    (rw high (c.fits-octets (7 * place / 8 + 1)))
