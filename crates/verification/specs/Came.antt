-- Messages that a cell accepted, with their pages that came, as they are kept (own). The contracts of private functions
-- alone speak of them.
use Rattle.std.specs.Prelude.{◌≡◌, List}
use Rattle.std.specs.List.{All}
use Rattle.verification.specs.declared.came.Came.{Came}
use Rattle.verification.specs.declared.sent.SentPage.{SentPage}
use Rattle.verification.specs.Asked.{AskedMessage}
use Rattle.verification.specs.Judged.{judged_in}
use Rattle.verification.specs.Kept.{asked_kept}

abbrev pub came_asked : Came → AskedMessage
came_asked k = asked_kept k.asked

-- a message has its pages of those that were sent, each judged
abbrev pub HasPages : List SentPage → Came → Type 0
HasPages sent k = k.pages.items ≡ judged_in (came_asked k) sent

abbrev pub AllHavePages : List SentPage → List Came → Type 0
AllHavePages sent came = All (HasPages sent) came
