-- Laws of paging (own): over every text, every cost of characters and every limit; and of what a text is sent as.
use Rattle.std.specs.Prelude.{◌≡◌, ◌≢◌, ℕ, List}
use Rattle.std.specs.List.{flat_map}
use Rattle.std.specs.Str.{IsUtf8, chars}
use Rattle.cbs_page.specs.declared.paging.Paged.{Paged}
use Rattle.cbs_page.specs.declared.paging.TextFault.{TextFault}
use Rattle.cbs_page.specs.declared.paging.TextFault.TheVariants as fault
use Rattle.cbs_page.specs.Coding.{alphabet_of}
use Rattle.cbs_page.specs.Paging.{IsPaging}
use Rattle.cbs_page.specs.Text.{IsPagedText, IsTextFault, text_in}

-- a text has one list of pages at most
abbrev pub PagingIsUnique : Type 0
PagingIsUnique =
    (cost : ℕ → ℕ) (limit : ℕ) (text : List ℕ) (pieces others : List (List ℕ)) →
    IsPaging cost limit text pieces → IsPaging cost limit text others → pieces ≡ others

-- a text that is sent comes back: the texts that its pages show in their data coding, joined, are the text
abbrev pub PagedTextsComeBack : Type 0
PagedTextsComeBack =
    (language text : List ℕ) (paged : Paged) →
    IsUtf8 text → IsPagedText language (chars text) paged →
    flat_map (λ content. text_in (alphabet_of paged.dcs.0) content.octets) paged.pages.items ≡ chars text

-- a text is sent as one data coding and one list of contents at most
abbrev pub SentTextIsOne : Type 0
SentTextIsOne =
    (language text : List ℕ) (paged other : Paged) → IsPagedText language text paged → IsPagedText language text other
    → (paged.dcs.0 ≡ other.dcs.0) × (paged.pages.items ≡ other.pages.items)

-- a text that is sent has no fault, but that memory may be refused
abbrev pub SentTextHasNoFault : Type 0
SentTextHasNoFault =
    (language text : List ℕ) (paged : Paged) (why : TextFault) → IsPagedText language text paged
    → IsTextFault language text why → why ≢ fault.Refused → ⊥

-- and a text has one fault at most
abbrev pub TextFaultIsOne : Type 0
TextFaultIsOne =
    (language text : List ℕ) (why other : TextFault) → IsTextFault language text why → IsTextFault language text other
    → why ≢ fault.Refused → other ≢ fault.Refused → why ≡ other
