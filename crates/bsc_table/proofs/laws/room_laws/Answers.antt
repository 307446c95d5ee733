use Rattle.bsc_table.proofs.Room.NeverRises.{reserved_never_rises}
use Rattle.bsc_table.proofs.Room.StopKeepsRoom.{stop_keeps_room}
use Rattle.bsc_table.proofs.Room.AddedClaims.{start_keeps_room}
use Rattle.bsc_table.proofs.Room.TakeoverKeepsRoom.{takeover_keeps_room, waiting_passes_its_start}
use Rattle.bsc_table.proofs.laws.room_laws.Goals as goal

pub returns : goal.returns
returns c = record {
  reserved_never_rises = reserved_never_rises;
  stop_keeps_room = stop_keeps_room;
  start_keeps_room = start_keeps_room;
  takeover_keeps_room = takeover_keeps_room;
  waiting_passes_its_start = waiting_passes_its_start;
}
