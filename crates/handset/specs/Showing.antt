-- What a list of blocks shows, without an order (own): each message that its pages make complete, once, and no other.
use Rattle.std.specs.Prelude.{◌≡◌, ◌≢◌, true, List, All, AllPairs, Contains}
use Rattle.cbs_page.specs.declared.octets.PageView.{PageView}
use Rattle.handset.specs.Reception.{Name, is_complete, ShownMessage, shown_message}

-- the name of a message that is shown
abbrev pub name_shown : ShownMessage → Name
name_shown m = record { id = m.id; serial = m.serial }

-- these messages are those that the pages make complete: each is complete, and is what its pages say; each complete
-- message is
-- among them; and no two have one name
pub record AreTheComplete (pages : List PageView) (shown : List ShownMessage) : Type 0 where
  pub complete : All (λ m. is_complete (name_shown m) pages ≡ true) shown
  pub meant : All (λ m. m ≡ shown_message (name_shown m) pages) shown
  pub all : (name : Name) → is_complete name pages ≡ true → Contains shown (shown_message name pages)
  pub once : AllPairs (λ a b. name_shown a ≢ name_shown b) shown
