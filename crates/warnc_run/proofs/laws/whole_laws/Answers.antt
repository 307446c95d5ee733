use Rattle.warnc_run.proofs.Whole.{network_tapes}
use Rattle.warnc_run.proofs.laws.whole_laws.Goals as goal

pub returns : goal.returns
returns c =
    network_tapes c.session_laws.ensures.one c.networks_law.ensures.of_networks c.networks_law.ensures.counted
    c.network_laws.ensures.one_count c.networks_law.ensures.one_run
