use Rattle.bsc_table.specs.Record.{claims_of}
use Rattle.chart.specs.Kept.{all_kept}
use Rattle.chart.proofs.LoadLaws.{all_loads, loads_fit}
use Rattle.chart.proofs.load.loads_of.Goals as goal

pub returns-clause-all : goal.returns-clause-all
returns-clause-all c =
    all_loads (claims_of (all_kept c.args.all.now)) c.in_ok-loads.loads.items c.args.slots c.in_ok-loads.ensures.slots
    c.in_ok-loads.ensures.loads

pub returns-clause-within : goal.returns-clause-within
returns-clause-within c =
    loads_fit (claims_of (all_kept c.args.all.now)) c.in_ok-loads.loads.items c.requires.fit c.in_ok-loads.ensures.loads
