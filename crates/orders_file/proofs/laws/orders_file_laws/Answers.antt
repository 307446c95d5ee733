use Rattle.orders_file.proofs.ReadBack.{read_back}
use Rattle.orders_file.proofs.laws.orders_file_laws.Goals as goal

pub returns : goal.returns
returns c = record { read_back = read_back }
