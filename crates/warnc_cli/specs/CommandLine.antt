-- What the words of a command line ask for: word 0 is the program's name, and word 1 names the command. Own.
use Rattle.std.specs.Prelude.{◌≡◌, ℕ, ◌+◌, ◌≤◌, ◌||◌, ◌⊎◌, Bool, false, true, if◌then◌else◌, nat_eq, List, ◌∷◌, ◌++◌}
use Rattle.std.specs.Prelude.{Some}
use Rattle.std.specs.Prelude.{codes}
use Rattle.std.specs.Prelude.{slice_get, ◌<◌, ◌*◌, [], Option, None, ℤ, pos, int_div, Ok}
use Rattle.std.specs.List.{list_any, starts_with}
use Rattle.std.specs.Str.{bytes_eq}
use Rattle.std.specs.Str.Parse.{IsNumeral, digits_value, without_leading_plus}
use Rattle.parallel_compile.specs.Workers.{max_workers}
use Rattle.alert_book.specs.declared.judging.bounds.Extent.{Extent}
use Rattle.alert_book.specs.declared.judging.bounds.Extent.TheVariants as extent
use Rattle.alert_book.specs.declared.network.Origin.{Origin}
use Rattle.alert_book.specs.declared.network.Origin.TheVariants as origin
use Rattle.cbs_page.specs.Serial.{serial_number, AreSerialFields}
use Rattle.byteorder.specs.Endian.{big_number}
use Rattle.cbsp_wire.specs.declared.message.Cell.{Cell}
use Rattle.chart.specs.declared.view.Part.{Part}
use Rattle.chart.specs.declared.view.View.{View}
use Rattle.chart.specs.declared.word.Language.{Language}
use Rattle.chart.specs.declared.word.Language.TheVariants.{English, German}
use Rattle.gsmtap.specs.declared.capture.Settings.{Settings}
use Rattle.gsmtap.specs.declared.capture.Slots.{Slots}
use Rattle.gsmtap.specs.declared.capture.Slots.TheVariants.{All, Used}
use Rattle.gsmtap.specs.declared.packet.Channel.{Channel}
use Rattle.gsmtap.specs.declared.packet.Start.{Start}
use Rattle.gsmtap.specs.declared.tape.Wanted.{Wanted}
use Rattle.gsmtap.specs.declared.packet.Channel.TheVariants.{BesideSdcch4, BesideSdcch8}
use Rattle.gsmtap.specs.declared.tape.ChannelType.{ChannelType}
use Rattle.gsmtap.specs.declared.tape.ChannelType.TheVariants.{Cbch, Sdcch}
use Rattle.jiff.specs.Words.{parse_timestamp}
use Rattle.link_orders.specs.declared.orders.OrdersWanted.{OrdersWanted}
use Rattle.report.specs.declared.row.Columns.{Columns}
use Rattle.report.specs.declared.row.Columns.TheVariants.{Full, Plain}
use Rattle.short_pages.specs.declared.pages.Pages.{Pages}
use Rattle.short_pages.specs.declared.pages.Pages.TheVariants.{OfAny, OfFour}
use Rattle.slot_times.specs.declared.start.Start.{Start as SlotStart}
use Rattle.verification.specs.declared.detail.Detail.{Detail}
use Rattle.verification.specs.declared.detail.Detail.TheVariants as detail
use Rattle.verification.specs.declared.detail.TableLayout.{TableLayout}
use Rattle.warnc_air.specs.declared.all.AllWanted.{AllWanted}
use Rattle.warnc_inspect.specs.declared.page.PageForm.{PageForm}
use Rattle.warnc_inspect.specs.declared.page.PageForm.TheVariants.{Lines, Table}
use Rattle.warnc_run.specs.declared.run.BookRun.{BookRun}
use Rattle.warnc_run.specs.declared.run.Books.{Books}
use Rattle.warnc_run.specs.declared.run.Books.TheVariants as books
use Rattle.warnc_run.specs.declared.product.Product.{Product}
use Rattle.warnc_run.specs.declared.product.Product.TheVariants as product
use Rattle.warnc_run.specs.declared.run.Run.{Run}
use Rattle.warnc_verdict.specs.declared.terms.VerdictTerms.{VerdictTerms}

-- the words give the option of this name this value: as the word after its name, or in one word with it, after `=`
abbrev pub GivesValue : (words : List (List ℕ)) (name value : List ℕ) → Type 0
GivesValue words name value = (place : ℕ)
    × (((slice_get words place ≡ Some name) × (slice_get words (place + 1) ≡ Some value))
    ⊎ (slice_get words place ≡ Some (name ++ 61 ∷ value)))

-- whether a word begins with a name, and whether one of the words does
abbrev pub begins_with : (name word : List ℕ) → Bool
begins_with name word = starts_with nat_eq word name

abbrev pub is_given : (words : List (List ℕ)) (name : List ℕ) → Bool
is_given words name = list_any (begins_with name) words

-- the words give the option of this name this number, in decimal digits; a plus may stand before them
pub record GivesNumber (words : List (List ℕ)) (name : List ℕ) (number : ℕ) : Type 0 where
  pub digits : List ℕ
  pub given : GivesValue words name digits
  pub numeral : IsNumeral 10 (without_leading_plus digits)
  pub value : digits_value 10 (without_leading_plus digits) ≡ number

-- what the words want to be written of pages
abbrev pub form_given : (words : List (List ℕ)) → PageForm
form_given words = if is_given words (codes "--explain") then Table else Lines

-- the words ask for `page` with a language, a message identifier and a serial number, in this form
pub record AsksForPage (words : List (List ℕ)) (language : List ℕ) (id serial : ℕ) (form : PageForm) : Type 0 where
  pub command : slice_get words 1 ≡ Some (codes "page")
  pub language_given : GivesValue words (codes "--lang") language
  pub id_given : GivesNumber words (codes "--id") id
  pub scope : ℕ
  pub scope_given : GivesNumber words (codes "--scope") scope
  pub code : ℕ
  pub code_given : GivesNumber words (codes "--code") code
  pub update : ℕ
  pub update_given : GivesNumber words (codes "--update") update
  pub in_range : AreSerialFields scope code update
  pub numbered : serial ≡ serial_number scope code update
  pub form_given : form ≡ form_given words

-- which pages the words want to be read
abbrev pub pages_given : (words : List (List ℕ)) → Pages
pages_given words = if is_given words (codes "--short") then OfAny else OfFour

-- the words ask for `read` of these pages: for the messages that they show, or for their slots
pub record AsksForRead (words : List (List ℕ)) (wanted : Pages) : Type 0 where
  pub command : slice_get words 1 ≡ Some (codes "read")
  pub messages : is_given words (codes "--slots") ≡ false
  pub wanted_given : wanted ≡ pages_given words

pub record AsksForReadSlots (words : List (List ℕ)) (wanted : Pages) : Type 0 where
  pub command : slice_get words 1 ≡ Some (codes "read")
  pub slots : is_given words (codes "--slots") ≡ true
  pub wanted_given : wanted ≡ pages_given words

-- where no word begins with the name `--group` the input is a book, and else it is a network book, of which the words
-- give the number of a group
pub record GivesOrigin (words : List (List ℕ)) (from : Origin) : Type 0 where
  pub book : is_given words (codes "--group") ≡ false → from ≡ origin.Book
  pub group : is_given words (codes "--group") ≡ true
      → (number : ℕ) × GivesNumber words (codes "--group") number × (from ≡ origin.Group number)

-- what the words want to be looked at: the whole of a network book where a word begins with the name `--network`
abbrev pub GivesExtent : (words : List (List ℕ)) → Extent → Type 0
GivesExtent words extent.Network = is_given words (codes "--network") ≡ true
GivesExtent words extent.Book = (is_given words (codes "--network") ≡ false) × GivesOrigin words origin.Book
GivesExtent words (extent.Group group) =
    (is_given words (codes "--network") ≡ false) × GivesOrigin words (origin.Group group)

-- the words ask for `check` of the rows alone, of a book, a network book or one of its groups
pub record AsksForCheck (words : List (List ℕ)) (what : Extent) : Type 0 where
  pub command : slice_get words 1 ≡ Some (codes "check")
  pub extent_given : GivesExtent words what
  pub rows_alone : is_given words (codes "--slots") ≡ false

-- the words give the number of pages for which texts are cut, or none
abbrev pub GivesPages : (words : List (List ℕ)) → Option ℕ → Type 0
GivesPages words None = is_given words (codes "--pages") ≡ false
GivesPages words (Some pages) = GivesNumber words (codes "--pages") pages

-- the words ask for `texts`
pub record AsksForTexts (words : List (List ℕ)) (what : Extent) (pages : Option ℕ) : Type 0 where
  pub command : slice_get words 1 ≡ Some (codes "texts")
  pub extent_given : GivesExtent words what
  pub pages_given : GivesPages words pages

-- the words ask for `cells`
abbrev pub AsksForCells : (words : List (List ℕ)) → Type 0
AsksForCells words = slice_get words 1 ≡ Some (codes "cells")

-- the words ask for `groups`
abbrev pub AsksForGroups : (words : List (List ℕ)) → Type 0
AsksForGroups words = slice_get words 1 ≡ Some (codes "groups")

-- which slots the words want in a capture
abbrev pub slots_given : (words : List (List ℕ)) → Slots
slots_given words = if is_given words (codes "--used") then Used else All

-- the words give the channel that a capture names: 51 is that beside SDCCH/4, which it is if no word begins with the
-- option's name, and 52 that beside SDCCH/8
abbrev pub GivesChannel : (words : List (List ℕ)) → Channel → Type 0
GivesChannel words BesideSdcch4 =
    GivesNumber words (codes "--channel") 51 ⊎ (is_given words (codes "--channel") ≡ false)
GivesChannel words BesideSdcch8 = GivesNumber words (codes "--channel") 52

-- the words ask for `whole`
abbrev pub AsksForWhole : (words : List (List ℕ)) → Type 0
AsksForWhole words = slice_get words 1 ≡ Some (codes "whole")

-- a text writes a time as RFC 3339 has it, from 1970 to 2105: it is this time since 1970-01-01T00:00:00Z, cut to the
-- microsecond
pub record IsClockTime (text : List ℕ) (start : Start) : Type 0 where
  pub nanoseconds : ℤ
  pub read : parse_timestamp text ≡ Ok nanoseconds
  pub cut : int_div nanoseconds (pos 1000) ≡ pos (1000000 * start.second + start.microsecond)
  pub small : start.microsecond < 1000000
  pub early : start.second < 4291747200

-- the words say when the tapes begin: at 1970-01-01T00:00:00Z where no word begins with the option's name
abbrev pub GivesStart : (words : List (List ℕ)) → Start → Type 0
GivesStart words start =
    ((text : List ℕ) × GivesValue words (codes "--start") text × IsClockTime text start)
    ⊎ ((is_given words (codes "--start") ≡ false) × (start ≡ record { second = 0; microsecond = 0 }))

-- a text writes the time at which slot 0 begins, in the same way
pub record IsSlotStart (text : List ℕ) (start : SlotStart) : Type 0 where
  pub nanoseconds : ℤ
  pub read : parse_timestamp text ≡ Ok nanoseconds
  pub cut : int_div nanoseconds (pos 1000) ≡ pos start.microseconds

-- the words say when slot 0 begins, from 1970 to 2105, or no word begins with the option's name
abbrev pub GivesSlotStart : (words : List (List ℕ)) → Option SlotStart → Type 0
GivesSlotStart words None = is_given words (codes "--start") ≡ false
GivesSlotStart words (Some start) =
    (text : List ℕ) × GivesValue words (codes "--start") text × IsSlotStart text start

-- the words ask for `pcap`
pub record AsksForPcap (words : List (List ℕ)) (settings : Settings) : Type 0 where
  pub command : slice_get words 1 ≡ Some (codes "pcap")
  pub slots : settings.slots ≡ slots_given words
  pub channel_given : GivesChannel words settings.channel
  pub start_given : GivesStart words settings.start

-- the words give a number of slots, 1 to 65,535
pub record GivesSlots (words : List (List ℕ)) (slots : ℕ) : Type 0 where
  pub given : GivesNumber words (codes "--slots") slots
  pub some : 1 ≤ slots
  pub most : slots ≤ 65535

-- the words ask for `check` of the rows and of a run of this number of slots, of a book, a network book or one of its
-- groups, by the time at which slot 0 begins or by none, which is strict or not
pub record AsksForRemarks (words : List (List ℕ)) (what : Extent) (slots : ℕ) (start : Option SlotStart)
    (strict : Bool) : Type 0
  where
    pub command : slice_get words 1 ≡ Some (codes "check")
    pub extent_given : GivesExtent words what
    pub slots_given : GivesSlots words slots
    pub start_given : GivesSlotStart words start
    pub strict_given : strict ≡ is_given words (codes "--strict")

-- the words give the option of this name a number, 1 to 64; it is 1 where no word begins with the option's name
pub record GivesThreads (words : List (List ℕ)) (name : List ℕ) (number : ℕ) : Type 0 where
  pub given : GivesNumber words name number ⊎ ((is_given words name ≡ false) × (number ≡ 1))
  pub some : 1 ≤ number
  pub most : number ≤ max_workers

-- digits write a number; a plus may stand before them
pub record IsNumber (digits : List ℕ) (number : ℕ) : Type 0 where
  pub numeral : IsNumeral 10 (without_leading_plus digits)
  pub value : digits_value 10 (without_leading_plus digits) ≡ number

-- a text writes a cell: its location area code, a hyphen, and its cell identity
pub record IsCell (text : List ℕ) (cell : Cell) : Type 0 where
  pub lac : List ℕ
  pub ci : List ℕ
  pub joined : text ≡ lac ++ 45 ∷ ci
  pub lac_is : IsNumber lac cell.lac
  pub ci_is : IsNumber ci cell.ci

-- the words give a cell
abbrev pub GivesCell : (words : List (List ℕ)) → Cell → Type 0
GivesCell words cell = (text : List ℕ) × GivesValue words (codes "--cell") text × IsCell text cell

-- the words give an edge of the part of a run that is drawn, or none
abbrev pub GivesEdge : (words : List (List ℕ)) (name : List ℕ) (slot edge : ℕ) → Type 0
GivesEdge words name slot edge = GivesNumber words name edge ⊎ ((is_given words name ≡ false) × (edge ≡ slot))

-- the words give the part of a run of this many slots that is drawn, which begins at slot 0 and ends with the run where
-- they don't say else; or they give none
pub record IsDrawnPart (words : List (List ℕ)) (slots : ℕ) (part : Part) : Type 0 where
  pub from_given : GivesEdge words (codes "--from") 0 part.from
  pub to_given : GivesEdge words (codes "--to") slots part.to
  pub some : part.from < part.to
  pub within : part.to ≤ slots

abbrev pub GivesPart : (words : List (List ℕ)) (slots : ℕ) → Option Part → Type 0
GivesPart words slots None =
    (is_given words (codes "--from") ≡ false) × (is_given words (codes "--to") ≡ false)
GivesPart words slots (Some part) = IsDrawnPart words slots part

-- the words give one cell that is wanted, or none
abbrev pub GivesWanted : (words : List (List ℕ)) → Option Cell → Type 0
GivesWanted words None = is_given words (codes "--cell") ≡ false
GivesWanted words (Some cell) = GivesCell words cell

-- the words give the language of a page: English, which it is if no word begins with the option's name, or German
abbrev pub GivesLanguage : (words : List (List ℕ)) → Language → Type 0
GivesLanguage words English =
    GivesValue words (codes "--lang") (codes "en") ⊎ (is_given words (codes "--lang") ≡ false)
GivesLanguage words German = GivesValue words (codes "--lang") (codes "de")

-- the words give what is drawn
abbrev pub GivesView : (words : List (List ℕ)) → View → Type 0
GivesView words view =
    (slots : ℕ) × GivesSlots words slots × GivesWanted words view.cell × GivesPart words slots view.part
    × GivesLanguage words view.wording.language × GivesSlotStart words view.wording.start

-- a text writes an IPv4 address: its four octets, the highest first, with dots between them
pub record IsAddress (text : List ℕ) (address : ℕ) : Type 0 where
  pub first : List ℕ
  pub second : List ℕ
  pub third : List ℕ
  pub fourth : List ℕ
  pub joined : text ≡ first ++ 46 ∷ (second ++ 46 ∷ (third ++ 46 ∷ fourth))
  pub a : ℕ
  pub b : ℕ
  pub c : ℕ
  pub d : ℕ
  pub first_is : IsNumber first a
  pub second_is : IsNumber second b
  pub third_is : IsNumber third c
  pub fourth_is : IsNumber fourth d
  pub small : (a < 256) × (b < 256) × (c < 256) × (d < 256)
  pub value : address ≡ big_number 4 (a ∷ b ∷ c ∷ d ∷ [])

-- the words give the option of this name an address, or none
abbrev pub GivesAddress : (words : List (List ℕ)) (name : List ℕ) → Option ℕ → Type 0
GivesAddress words name None = is_given words name ≡ false
GivesAddress words name (Some address) = (text : List ℕ) × GivesValue words name text × IsAddress text address

-- the words give the radio channel that packets name, or none
abbrev pub GivesArfcn : (words : List (List ℕ)) → Option ℕ → Type 0
GivesArfcn words None = is_given words (codes "--arfcn") ≡ false
GivesArfcn words (Some arfcn) = GivesNumber words (codes "--arfcn") arfcn

-- the words give the channel as whose blocks packets mark those of a cell broadcast channel: its own, which it is if no
-- word begins with the option's name, or SDCCH
abbrev pub GivesChannelType : (words : List (List ℕ)) → ChannelType → Type 0
GivesChannelType words Cbch =
    GivesValue words (codes "--channel") (codes "cbch") ⊎ (is_given words (codes "--channel") ≡ false)
GivesChannelType words Sdcch = GivesValue words (codes "--channel") (codes "sdcch")

-- the words give the slot in which the first block stands; it is 0 where no word begins with the option's name
abbrev pub GivesFirstSlot : (words : List (List ℕ)) → ℕ → Type 0
GivesFirstSlot words slot =
    GivesNumber words (codes "--first-slot") slot ⊎ ((is_given words (codes "--first-slot") ≡ false) × (slot ≡ 0))

-- the words give the number of a tape's slots, or none
abbrev pub GivesTapeSlots : (words : List (List ℕ)) → Option ℕ → Type 0
GivesTapeSlots words None = is_given words (codes "--slots") ≡ false
GivesTapeSlots words (Some slots) = GivesSlots words slots

-- the words ask for `plan`
abbrev pub AsksForPlan : (words : List (List ℕ)) → Type 0
AsksForPlan words = slice_get words 1 ≡ Some (codes "plan")

-- the words ask for `tape`
pub record AsksForTape (words : List (List ℕ)) (wanted : Wanted) : Type 0 where
  pub command : slice_get words 1 ≡ Some (codes "tape")
  pub cell_given : GivesCell words wanted.cell
  pub slots_given : GivesTapeSlots words wanted.slots
  pub first_given : GivesFirstSlot words wanted.first_slot
  pub from_given : GivesAddress words (codes "--from") wanted.from.address
  pub arfcn_given : GivesArfcn words wanted.from.arfcn
  pub channel_given : GivesChannelType words wanted.from.channel

-- the words ask for `tape` of all cells of the table in the file of this name
pub record AsksForTapes (words : List (List ℕ)) (wanted : AllWanted) (file : List ℕ) : Type 0 where
  pub command : slice_get words 1 ≡ Some (codes "tape")
  pub given : is_given words (codes "--cells") ≡ true
  pub file_given : GivesValue words (codes "--cells") file
  pub slots_given : GivesTapeSlots words wanted.slots
  pub first_given : GivesFirstSlot words wanted.first_slot
  pub channel_given : GivesChannelType words wanted.channel

-- the words ask for `orders` of a capture, with the packets of the lines or without
pub record AsksForOrders (words : List (List ℕ)) (wanted : OrdersWanted) (packets : Bool) : Type 0 where
  pub command : slice_get words 1 ≡ Some (codes "orders")
  pub of_capture : is_given words (codes "--slots") ≡ false
  pub cell_given : GivesCell words wanted.cell
  pub controller_given : GivesAddress words (codes "--bsc") wanted.controller
  pub first_given : GivesFirstSlot words wanted.first_slot
  pub from_given : GivesAddress words (codes "--from") wanted.from.address
  pub arfcn_given : GivesArfcn words wanted.from.arfcn
  pub channel_given : GivesChannelType words wanted.from.channel
  pub packets_is : packets ≡ is_given words (codes "--packets")

-- which books the words want: of a network book each group, where a word begins with the name `--network`
abbrev pub GivesBooks : (words : List (List ℕ)) → Books → Type 0
GivesBooks words books.EachGroup = is_given words (codes "--network") ≡ true
GivesBooks words (books.One from) = (is_given words (codes "--network") ≡ false) × GivesOrigin words from

-- which columns the words want in a report
abbrev pub columns_given : (words : List (List ℕ)) → Columns
columns_given words = if is_given words (codes "--full") then Full else Plain

-- what the words want to be made of a run of this many sessions: `compile` and `live` make tapes
abbrev pub GivesProduct : (words : List (List ℕ)) → Product → (sessions : ℕ) → Type 0
GivesProduct words product.Tapes sessions =
    ((slice_get words 1 ≡ Some (codes "compile")) × (sessions ≡ 1))
    ⊎ ((slice_get words 1 ≡ Some (codes "live")) × GivesThreads words (codes "--sessions") sessions)
GivesProduct words (product.Report layout) sessions =
    (slice_get words 1 ≡ Some (codes "report")) × (sessions ≡ 1) × (layout.columns ≡ columns_given words)
    × GivesSlotStart words layout.start
GivesProduct words (product.Chart view) sessions =
    (slice_get words 1 ≡ Some (codes "chart")) × (sessions ≡ 1) × GivesView words view
    × (is_given words (codes "--tables") ≡ false)
GivesProduct words (product.Orders cell) sessions =
    (slice_get words 1 ≡ Some (codes "orders")) × (sessions ≡ 1) × GivesCell words cell
GivesProduct words (product.Link start) sessions =
    (slice_get words 1 ≡ Some (codes "link")) × (sessions ≡ 1) × GivesStart words start
GivesProduct words (product.Loads start) sessions =
    (slice_get words 1 ≡ Some (codes "load")) × (sessions ≡ 1) × GivesSlotStart words start
GivesProduct words (product.Tables view) sessions =
    (slice_get words 1 ≡ Some (codes "chart")) × (sessions ≡ 1) × GivesView words view
    × (is_given words (codes "--tables") ≡ true)

-- the words ask for this to be made of such a run
pub record AsksForRun (words : List (List ℕ)) (run : Run) (made : Product) : Type 0 where
  pub made_given : GivesProduct words made run.sessions.number
  pub books_given : GivesBooks words run.books
  pub slots_given : GivesSlots words run.slots
  pub workers_given : GivesThreads words (codes "--workers") run.workers.number
  pub as_it_is : is_given words (codes "--strict") ≡ false

-- the words ask for the same of one book, if every order was done
pub record AsksForStrictRun (words : List (List ℕ)) (run : BookRun) (made : Product) : Type 0 where
  pub made_given : GivesProduct words made run.sessions.number
  pub book_given : GivesBooks words (books.One run.origin)
  pub slots_given : GivesSlots words run.slots
  pub workers_given : GivesThreads words (codes "--workers") run.workers.number
  pub strict_given : is_given words (codes "--strict") ≡ true

-- how much the words want to be told of each difference
abbrev pub detail_given : (words : List (List ℕ)) → Detail
detail_given words = if is_given words (codes "--explain") then detail.Explained else detail.Plain

-- and whether it is to have times
abbrev pub GivesTableLayout : (words : List (List ℕ)) → TableLayout → Type 0
GivesTableLayout words layout = (layout.detail ≡ detail_given words) × GivesSlotStart words layout.start

-- the words ask for `verify` of the book, or the group's, in the file of this name, with this number of slots and of
-- workers, by these pages of the tapes, and in a table that is laid out so
pub record AsksForVerify (words : List (List ℕ)) (from : Origin) (slots : ℕ) (pages : Pages) (layout : TableLayout)
    (file : List ℕ) (workers : ℕ) : Type 0
  where
    pub command : slice_get words 1 ≡ Some (codes "verify")
    pub origin_given : GivesOrigin words from
    pub slots_given : GivesSlots words slots
    pub wanted_given : pages ≡ pages_given words
    pub layout_given : GivesTableLayout words layout
    pub book_given : GivesValue words (codes "--book") file
    pub workers_given : GivesThreads words (codes "--workers") workers

-- the words say by how many slots what was ordered may come later than its answer; it is 0 where no word begins with
-- the option's name
abbrev pub GivesDelay : (words : List (List ℕ)) → ℕ → Type 0
GivesDelay words delay =
    GivesNumber words (codes "--delay") delay ⊎ ((is_given words (codes "--delay") ≡ false) × (delay ≡ 0))

-- the words say how a tape is judged by orders
pub record GivesTerms (words : List (List ℕ)) (terms : VerdictTerms) : Type 0 where
  pub delay_given : GivesDelay words terms.delay
  pub slots_given : GivesTapeSlots words terms.slots
  pub lags_given : is_given words (codes "--lag") ≡ terms.lags

-- the words ask for `verify` of what this cell was ordered, by the orders in the file of this name and on these terms
pub record AsksForVerifyOrders (words : List (List ℕ)) (cell : Cell) (terms : VerdictTerms) (file : List ℕ) : Type 0
  where
    pub command : slice_get words 1 ≡ Some (codes "verify")
    pub given : is_given words (codes "--orders") ≡ true
    pub cell_given : GivesCell words cell
    pub terms_given : GivesTerms words terms
    pub orders_given : GivesValue words (codes "--orders") file

-- the words name the file by which `verify` judges: the orders, where a word begins with the option's name, or else the
-- book
abbrev pub GivesVerifiedFile : (words : List (List ℕ)) (file : List ℕ) → Type 0
GivesVerifiedFile words file =
    ((is_given words (codes "--orders") ≡ true) × GivesValue words (codes "--orders") file)
    ⊎ ((is_given words (codes "--orders") ≡ false) × GivesValue words (codes "--book") file)

-- the words name a file that is read beside the input: the book or the orders for `verify`, or the table of cells for
-- `tape`
abbrev pub GivesFile : (words : List (List ℕ)) (file : List ℕ) → Type 0
GivesFile words file =
    ((slice_get words 1 ≡ Some (codes "verify")) × GivesVerifiedFile words file)
    ⊎ ((slice_get words 1 ≡ Some (codes "tape")) × GivesValue words (codes "--cells") file)

-- a word that asks for help or for the version
abbrev pub is_text_word : List ℕ → Bool
is_text_word word =
    bytes_eq word (codes "help") || bytes_eq word (codes "--help") || bytes_eq word (codes "-h")
    || bytes_eq word (codes "--version") || bytes_eq word (codes "-V")

-- a word asks for help or for the version
abbrev pub asks_for_text : (words : List (List ℕ)) → Bool
asks_for_text words = list_any is_text_word words
