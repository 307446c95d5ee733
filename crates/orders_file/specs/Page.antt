-- The pages of an order to broadcast. Own.
use Rattle.std.specs.Prelude.{ℕ, ◌==◌, ◌≤◌, Bool, Option, Some, None, List, [], ◌∷◌, ◌++◌, All, length, Result, Ok}
use Rattle.std.specs.List.{after_first, before_first}
use Rattle.std.specs.Option.{ok_or}
use Rattle.cbs_page.specs.Text.{max_pages}
use Rattle.cbs_page.specs.declared.content.Content.{Content}
use Rattle.orders_file.specs.declared.fault.OrdersFileFaultKind.{OrdersFileFaultKind}
use Rattle.orders_file.specs.declared.fault.OrdersFileFaultKind.TheVariants as faults
use Rattle.orders_file.specs.Columns.{if_right}
use Rattle.orders_file.specs.Number.{number_up_to, octets_of}

abbrev pub is_hyphen : ℕ → Bool
is_hyphen octet = octet == 45

abbrev pub content_with : (used : ℕ) → (octets : List ℕ) → Content
content_with used octets = record { used = used; octets = octets }

abbrev pub content_of : Option ℕ → Option (List ℕ) → Option Content
content_of (Some used) (Some octets) = Some (content_with used octets)
content_of (Some used) None = None
content_of None octets = None

-- a page: how many octets it uses, a hyphen, and all 82
abbrev pub content_in : List ℕ → Option Content
content_in field =
    content_of (number_up_to 82 (before_first is_hyphen field)) (octets_of 82 (after_first is_hyphen field))

abbrev pub page : List ℕ → Result Content OrdersFileFaultKind
page field = ok_or (content_in field) faults.Page

-- the pages of fields, after those before
abbrev pub pages_after : List Content → List (List ℕ) → Result (List Content) OrdersFileFaultKind
pages_after before [] = Ok before
pages_after before (field ∷ more) = if_right (page field) (λ content. pages_after (before ++ content ∷ []) more)

abbrev pub pages_of : List (List ℕ) → Result (List Content) OrdersFileFaultKind
pages_of fields = pages_after [] fields

-- a page has 82 octets
abbrev pub IsPage : Content → Type 0
IsPage content = content.used ≤ 82

-- 1 to 15 of them
pub record ArePages (contents : List Content) : Type 0 where
  pub some : 1 ≤ length contents
  pub few : length contents ≤ max_pages
  pub each : All IsPage contents
