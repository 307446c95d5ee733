use Rattle.std.proofs.Common.{rules, ◌≡◌, ◌++◌, take, ℕ, ◌+◌, ◌≤◌, length, List, min, arith, ap, sym, ◌∙◌}
use Rattle.std.proofs.Math.Seq.{take-append-add}
use Rattle.std.proofs.lemmas.List.{length-take, take_min}
use Rattle.warnc_cli.proofs.ends.Noted.note.Goals as goal

pub returns-clause-noted : goal.returns-clause-noted
returns-clause-noted g c =
    let front : List ℕ = c.args.self.now.front.items in
    let octets : List ℕ = c.args.octets.now in
    let room : ℕ = c.remaining_capacity-room.result in
    let count : ℕ = c.min.result in
    let whole : length front + room ≡ 9 = search rules in
    let smaller : count ≡ min room (length octets) = omega (arith, c.min.ensures) in
    let more : take count octets ≡ take room octets = ap (λ n. take n octets) smaller ∙ take_min room octets in
    let long : length (take count octets) ≡ min count (length octets) = length-take count octets in
    let fits : length front + length (take count octets) ≤ 9 = omega (arith, whole, long, smaller) in
    let added : c.try_extend_from_slice-fits.new.self.items ≡ front ++ take count octets = search rules in
    added ∙ ap (λ it. front ++ it) more ∙ sym (take-append-add front octets room)
    ∙ ap (λ n. take n (front ++ octets)) whole
