-- Pairs of an identifier and a serial number, as a set keeps them (own). The contracts of private functions alone speak
-- of them.
use Rattle.std.specs.Prelude.{◌≡◌, ℕ, Bool, ◌==◌, ◌&&◌, ◌||◌, List}
use Rattle.std.specs.List.{list_any}
use Rattle.cbs_page.specs.declared.octets.PageView.{PageView}
use Rattle.verification.specs.declared.sent.SentPage.{SentPage}
use Rattle.verification.specs.Asked.{AskedMessage, is_page_of_any}
use Rattle.verification.specs.Difference.{is_named_as}

abbrev pub Pair : Type 0
Pair = ℕ × ℕ

abbrev pub is_pair : Pair → Pair → Bool
is_pair a b = (a.0 == b.0) && (a.1 == b.1)

abbrev pub names_page : List Pair → PageView → Bool
names_page pairs page = list_any (is_pair (page.id, page.serial)) pairs

-- a pair is added
abbrev pub AddsName : (old new : List Pair) → Pair → Type 0
AddsName old new pair =
    (page : PageView) → names_page new page ≡ (names_page old page || is_pair (page.id, page.serial) pair)

-- the names are those of some messages, and of the pages that came before
abbrev pub AreNames : List AskedMessage → List SentPage → List Pair → Type 0
AreNames asked before pairs =
    (page : PageView) → names_page pairs page ≡ (is_page_of_any asked page || list_any (is_named_as page) before)
