-- Steps of making a reply (own). The contracts of private functions alone speak of it.
use Rattle.std.specs.Prelude.{◌≡◌, ℕ, ◌≤◌, [], vec_capacity}
use Rattle.order_desk.specs.declared.desk.reply.ReplyRoom.{ReplyRoom}

-- there is room for the reply of this many cells, and nothing of it yet
pub record HasReplyRoom (count : ℕ) (room : ReplyRoom) : Type 0 where
  pub no_failures : room.failures.items ≡ []
  pub no_counts : room.counts.items ≡ []
  pub no_cells : room.cells.items ≡ []
  pub no_octets : room.octets.items ≡ []
  pub failures : count ≤ vec_capacity room.failures
  pub counts : count ≤ vec_capacity room.counts
  pub cells : count ≤ vec_capacity room.cells
  pub octets : 1547 ≤ vec_capacity room.octets
