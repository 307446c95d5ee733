use Rattle.book_check.proofs.BookLaws.{books_are_clean, clean_are_books, clean_are_networks, faults_have_a_first}
use Rattle.book_check.proofs.BookLaws.{first_is_the_books, first_is_the_networks, networks_are_clean}
use Rattle.book_check.proofs.OneCheck.{checks_are_one}
use Rattle.book_check.proofs.PageCounts.{pages_counted}
use Rattle.book_check.proofs.laws.check_laws.Goals as goal

pub returns-clause-clean : goal.returns-clause-clean
returns-clause-clean c = clean_are_books

pub returns-clause-books : goal.returns-clause-books
returns-clause-books c = books_are_clean c.book_laws.ensures.book_or_fault

pub returns-clause-first : goal.returns-clause-first
returns-clause-first c = first_is_the_books

pub returns-clause-some : goal.returns-clause-some
returns-clause-some c = faults_have_a_first

pub returns-clause-one : goal.returns-clause-one
returns-clause-one c = checks_are_one

pub returns-clause-pages : goal.returns-clause-pages
returns-clause-pages c = pages_counted

pub returns-clause-clean_network : goal.returns-clause-clean_network
returns-clause-clean_network c = clean_are_networks

pub returns-clause-networks : goal.returns-clause-networks
returns-clause-networks c = networks_are_clean c.network_laws.ensures.network_or_fault

pub returns-clause-first_of_network : goal.returns-clause-first_of_network
returns-clause-first_of_network c = first_is_the_networks
