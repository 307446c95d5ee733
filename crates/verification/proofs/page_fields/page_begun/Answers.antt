use Rattle.std.proofs.Common.{◌≡◌, ◌+◌, ◌-◌, ◌∙◌, ℕ, sym, ap, arith, drop, find}
use Rattle.std.specs.List.{flat_map, range_with_len}
use Rattle.std.specs.Option.{option_to_list}
use Rattle.std.proofs.lemmas.List.{drop_min, take_rest}
use Rattle.verification.specs.Explained.{is_named_by, octets_in_front}
use Rattle.verification.proofs.ListLaws.{begun-here, begun-next, begun-none}
use Rattle.verification.proofs.page_fields.page_begun.Goals as goal
use Rattle.verification.proofs.page_fields.page_begun.Goals.{in-Some+else-is_named_by, in_default}

-- what stands at the place
at : (c : goal.Joined-octets_in_front) → octets_in_front (drop c.loop-place.place c.args.blocks.now)
    ≡ option_to_list c.octets_in_front.result
at c =
    ap octets_in_front (sym (drop_min c.loop-place.place c.args.blocks.now))
    ∙ ap (λ (n : ℕ). octets_in_front (drop n c.args.blocks.now)) (sym c.min.ensures)
    ∙ ap octets_in_front (sym (take_rest c.args.blocks.now c.min.result))
    ∙ sym c.octets_in_front.ensures

pub returns-then-is_named_by : goal.returns-then-is_named_by
returns-then-is_named_by c =
    let has : octets_in_front (drop c.loop-place.place c.args.blocks.now) ≡ option_to_list c.octets_in_front.result =
    ap octets_in_front (sym (drop_min c.loop-place.place c.args.blocks.now))
    ∙ ap (λ (n : ℕ). octets_in_front (drop n c.args.blocks.now)) (sym c.min.ensures)
    ∙ ap octets_in_front (sym (take_rest c.args.blocks.now c.min.result))
    ∙ sym c.octets_in_front.ensures in
    sym (sym c.loop-place.invariant
    ∙ begun-here (is_named_by c.args.difference.now) (λ place. octets_in_front (drop place c.args.blocks.now))
    c.loop-place.place (4 - c.loop-place.place) (4 - (c.loop-place.place + 1)) c.in-Some.octets (omega arith)
    (has ∙ ap option_to_list c.in-Some.is) (sym c.is_named_by.ensures ∙ c.if-is_named_by.true))

pub loop-place-preserved : goal.loop-place-preserved
loop-place-preserved c =
    let n : 4 - c.loop-place.place ≡ 4 - (c.loop-place.place + 1) + 1 = omega arith in
    elim c.match-octets_in_front.branch [
      | in-Some+else-is_named_by w ↦
          sym (begun-next (is_named_by c.args.difference.now)
          (λ place. octets_in_front (drop place c.args.blocks.now))
          c.loop-place.place (4 - c.loop-place.place) (4 - (c.loop-place.place + 1)) w.in-Some.octets n
          (at c ∙ ap option_to_list w.in-Some.is) (sym w.is_named_by.ensures ∙ w.if-is_named_by.false))
          ∙ c.loop-place.invariant
      | in_default w ↦
          sym (begun-none (is_named_by c.args.difference.now)
          (λ place. octets_in_front (drop place c.args.blocks.now))
          c.loop-place.place (4 - c.loop-place.place) (4 - (c.loop-place.place + 1)) n
          (at c ∙ ap option_to_list w.in_default.is))
          ∙ c.loop-place.invariant
    ]

pub returns : goal.returns
returns c =
    let over : 4 - c.loop-place.place ≡ 0 = omega arith in
    ap (λ (n : ℕ). find (is_named_by c.args.difference.now)
    (flat_map (λ place. octets_in_front (drop place c.args.blocks.now)) (range_with_len c.loop-place.place n)))
    (sym over) ∙ c.loop-place.invariant
