use Rattle.cbsp_link.proofs.OwnMessages.{own_read}
use Rattle.cbsp_link.proofs.RoundTrip.{read_back}
use Rattle.cbsp_link.proofs.laws.link_laws.Goals as goal

pub returns : goal.returns
returns c = record { round_trip = read_back; own_is_read = own_read }
