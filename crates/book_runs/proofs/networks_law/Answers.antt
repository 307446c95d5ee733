use Rattle.book_runs.proofs.NetworkParts.{groups_are_parts, whole_networks_are_counted}
use Rattle.book_runs.proofs.NetworkRuns.{networks_have_one_run}
use Rattle.book_runs.proofs.WholeNetworks.{groups_are_of_networks}
use Rattle.book_runs.proofs.networks_law.Goals as goal

pub returns-clause-groups : goal.returns-clause-groups
returns-clause-groups c = groups_are_parts

pub returns-clause-of_networks : goal.returns-clause-of_networks
returns-clause-of_networks c = groups_are_of_networks

pub returns-clause-counted : goal.returns-clause-counted
returns-clause-counted c = whole_networks_are_counted

pub returns-clause-one_run : goal.returns-clause-one_run
returns-clause-one_run c = networks_have_one_run c.book_laws.ensures.one_book
