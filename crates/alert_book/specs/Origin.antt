-- Where a book comes from: octets that are a book, or a group of octets that are a network book. Own.
use Rattle.std.specs.Prelude.{ℕ, ◌≤◌, Option, List}
use Rattle.alert_book.specs.declared.fault.BookFault.{BookFault}
use Rattle.alert_book.specs.declared.network.GroupFault.{GroupFault}
use Rattle.alert_book.specs.declared.network.GroupFault.TheVariants as group_fault
use Rattle.alert_book.specs.declared.network.Origin.{Origin}
use Rattle.alert_book.specs.declared.network.Origin.TheVariants as origin
use Rattle.alert_book.specs.Book.{Contents, IsBook, ReadsBy, RefusesBook}
use Rattle.alert_book.specs.Network.{CountsGroups, IsGroupBook, RefusesNetwork}

-- the octets are this book; or they are a network book, and this is the book of its group of this number
abbrev pub IsBookFrom : Origin → List ℕ → Contents → Type 0
IsBookFrom origin.Book = IsBook
IsBookFrom (origin.Group group) = IsGroupBook group

-- a book was read from there: the octets are gone from the reader, and it is at its end
abbrev pub ReadsFrom : Origin → (old new : Option (List ℕ)) → Contents → Type 0
ReadsFrom from old new book = ReadsBy (IsBookFrom from) old new book

-- the book, or the network book, was refused
abbrev pub RefusesFrom : Origin → (old new : Option (List ℕ)) → BookFault → Type 0
RefusesFrom origin.Book old new f = RefusesBook old new f
RefusesFrom (origin.Group group) old new f = RefusesNetwork old new group f

-- the network book was read, and has this many groups: too few for the one that is asked for
abbrev pub LacksGroup : Origin → (old new : Option (List ℕ)) → (groups : ℕ) → Type 0
LacksGroup origin.Book old new groups = ⊥
LacksGroup (origin.Group group) old new groups = (groups ≤ group) × CountsGroups old new group groups

-- why no book was read
abbrev pub HasNoBookFrom : Origin → (old new : Option (List ℕ)) → GroupFault → Type 0
HasNoBookFrom from old new (group_fault.Network f) = RefusesFrom from old new f
HasNoBookFrom from old new (group_fault.NoGroup groups) = LacksGroup from old new groups
