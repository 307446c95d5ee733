use Rattle.std.proofs.Common.{◌≡◌, ◌++◌, ℕ, List, arith, length, subst}
use Rattle.std.specs.List.{flat_map, range_with_len}
use Rattle.report.proofs.ListLaws.{flat_map-place}
use Rattle.cell_loads.specs.LoadsText.{change_text}
use Rattle.cell_loads.specs.TableSteps.{IsTable}
use Rattle.cell_loads.proofs.text.push_slots.Goals as goal

pub loop-slot-preserved : goal.loop-slot-preserved
loop-slot-preserved c octets table =
    subst (λ (xs : List ℕ). IsTable c.push_slot.new.table xs)
    (flat_map-place (change_text c.args.start c.args.cell c.args.loads.now) c.loop-slot.slot octets)
    (c.in_ok-push_slot.ensures
    (octets ++ flat_map (change_text c.args.start c.args.cell c.args.loads.now) (range_with_len 0 c.loop-slot.slot))
    (c.loop-slot.invariant octets table))

pub returns : goal.returns
returns c octets table =
    let all : c.loop-slot.slot ≡ length c.args.loads.now =
    omega (arith, c.loop-slot.auto.slot-end, c.loop-slot-test.false) in
    subst (λ (count : ℕ). IsTable c.loop-slot.table
    (octets ++ flat_map (change_text c.args.start c.args.cell c.args.loads.now) (range_with_len 0 count))) all
    (c.loop-slot.invariant octets table)
