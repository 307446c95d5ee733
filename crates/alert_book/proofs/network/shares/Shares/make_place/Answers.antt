use Rattle.std.proofs.Common.{◌∙◌, List, [], ap, slice_index_or}
use Rattle.cbsp_wire.specs.declared.message.Cell.{Cell}
use Rattle.alert_book.proofs.AllGroupsLaws.{no_cells_more}
use Rattle.alert_book.proofs.network.shares.Shares.make_place.Goals as goal

pub loop-alloc-init : goal.loop-alloc-init
loop-alloc-init c = λ other. ap (λ (shares : List (List Cell)). slice_index_or shares other []) c.self.view_is

pub loop-alloc-preserved : goal.loop-alloc-preserved
loop-alloc-preserved c = λ other.
    no_cells_more c.loop-alloc.self-inside.by_group.items c.push.new.self.items c.new.result.items other
    c.new.ensures.items c.in_ok-push.ensures.items
    ∙ c.loop-alloc.invariant other
