-- What is read of a message if all pages of its name are pages of one message that was sent (own).
use Rattle.std.specs.Prelude.{◌≡◌, ℕ, ◌+◌, ◌<◌, ◌≤◌, true, List, length, slice_index_or, count_by, All}
use Rattle.std.specs.Prelude.{Contains}
use Rattle.cbs_page.specs.declared.octets.PageView.{PageView}
use Rattle.handset.specs.Reception.{Name, is_of}
use Rattle.handset.specs.Keeping.{is_numbered}

-- the page at this place of a message: it has the message's name, the place counted from 1 as its number, and the total
-- and the
-- data coding that all pages of the message have
pub record IsPageAt (name : Name) (dcs total place : ℕ) (page : PageView) : Type 0 where
  pub named : is_of name page ≡ true
  pub numbered : page.number ≡ place + 1
  pub total_is : page.total ≡ total
  pub coded : page.dcs.0 ≡ dcs

-- these are the pages of a message, in the order of their numbers
pub record IsMessage (name : Name) (sent : List PageView) : Type 0 where
  pub dcs : ℕ
  pub some : 1 ≤ length sent
  pub each :
      (place : ℕ) (d : PageView) →
      place < length sent → IsPageAt name dcs (length sent) place (slice_index_or sent place d)

-- all pages of this name are among those that were sent
abbrev pub AreFrom : Name → List PageView → List PageView → Type 0
AreFrom name sent pages = All (λ page. is_of name page ≡ true → Contains sent page) pages

-- how often a page of this name and this number was read
abbrev pub count_of : Name → List PageView → ℕ → ℕ
count_of name pages number = count_by (is_numbered name number) pages

-- `least` is the least of the counts of the pages from number 1 to the total, and `number` has it
pub record IsLeastCount (name : Name) (pages : List PageView) (total least : ℕ) : Type 0 where
  pub number : ℕ
  pub low : 1 ≤ number
  pub high : number ≤ total
  pub reached : count_of name pages number ≡ least
  pub below : (n : ℕ) → 1 ≤ n → n ≤ total → least ≤ count_of name pages n
