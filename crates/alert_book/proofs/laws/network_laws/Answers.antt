use Rattle.alert_book.proofs.NetworkLaws.{books_are_networks}
use Rattle.alert_book.proofs.OneNetwork.{counts_are_one, network_faults_are_one, networks_are_one, networks_are_right}
use Rattle.alert_book.proofs.laws.network_laws.Goals as goal

pub returns-clause-book : goal.returns-clause-book
returns-clause-book c = books_are_networks

pub returns-clause-one_network : goal.returns-clause-one_network
returns-clause-one_network c = networks_are_one

pub returns-clause-one_count : goal.returns-clause-one_count
returns-clause-one_count c = counts_are_one

pub returns-clause-network_or_fault : goal.returns-clause-network_or_fault
returns-clause-network_or_fault c = networks_are_right

pub returns-clause-one_fault : goal.returns-clause-one_fault
returns-clause-one_fault c = network_faults_are_one
