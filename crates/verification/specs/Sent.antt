-- What a cell's channel sent: the pages in a tape's blocks, and the slots to which they belong. 3GPP TS 44.012
-- (blocks); the slot of a page is own.
use Rattle.std.specs.Prelude.{ℕ, ◌+◌, ◌/◌, List, [], ◌∷◌, ◌++◌, map}
use Rattle.cbs_page.specs.declared.octets.PageView.{PageView}
use Rattle.handset.specs.Reception.{page_in_front}
use Rattle.verification.specs.declared.sent.SentPage.{SentPage}

-- a slot has four blocks: a page belongs to that of its first block, also where its others stand in the next one
abbrev pub sent_at : ℕ → PageView → SentPage
sent_at place page = record { slot = place / 4; page = page }

-- the pages in blocks of which the first has this place, readable or not: at each place the page that stands there, if
-- one does
abbrev pub sent_from : ℕ → List (List ℕ) → List SentPage
sent_from place [] = []
sent_from place (block ∷ rest) =
    map (sent_at place) (page_in_front (block ∷ rest)) ++ sent_from (place + 1) rest

-- the pages that a tape sends
abbrev pub sent_in : List (List ℕ) → List SentPage
sent_in blocks = sent_from 0 blocks
