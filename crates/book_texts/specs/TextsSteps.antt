-- Steps of a table of texts (own): how far pages are filled, and what a table holds as it is written. The contracts of
-- private functions alone speak of it.
use Rattle.std.specs.Prelude.{◌≡◌, ⊤, ℕ, List, length, Some, false}
use Rattle.csv.specs.Writing.{default_writer, fields_written, has_written, text_written, writer_setup}
use Rattle.cbs_page.specs.Text.{cost_of, IsPagingIn}
use Rattle.cbs_page.specs.declared.coding.Alphabet.{Alphabet}
use Rattle.book_texts.specs.Cost.{last_cost}
use Rattle.book_texts.specs.declared.cost.Filling.{Filling}
use Rattle.alert_book.specs.Extent.{IsRowFaultFor, LacksGroupOf}
use Rattle.alert_book.specs.declared.judging.bounds.Extent.{Extent}
use Rattle.book_texts.specs.declared.table.Table.{Table}
use Rattle.book_texts.specs.declared.texts.TextsFault.{TextsFault}
use Rattle.book_texts.specs.declared.texts.TextsFault.TheVariants as fault

-- a text fills its pages so far: how many characters it has, how many pages they take, and how many codes the last has
pub record Fills (alphabet : Alphabet) (text : List ℕ) (filling : Filling) : Type 0 where
  pub characters : filling.characters ≡ length text
  pub pieces : List (List ℕ)
  pub paging : IsPagingIn alphabet text pieces
  pub pages : filling.pages ≡ length pieces
  pub used : filling.used ≡ last_cost (cost_of alphabet) 0 pieces

-- the table has these octets, and the last of its lines is ended
pub record IsTable (table : Table) (octets : List ℕ) : Type 0 where
  pub text : text_written (λ v. Some v.items) table.writer ≡ Some octets
  pub setup : writer_setup table.writer ≡ default_writer
  pub ended : fields_written table.writer ≡ 0
  pub clean : has_written table.writer ≡ false

-- why octets give no table: memory ran out, or a row has a fault, or there is no such group
abbrev pub IsNoTable : Extent → (input : List ℕ) → TextsFault → Type 0
IsNoTable what input fault.ReadFailed = ⊥
IsNoTable what input fault.TooLong = ⊥
IsNoTable what input (fault.Row f) = IsRowFaultFor what input f
IsNoTable what input (fault.NoGroup groups) = LacksGroupOf what input groups
IsNoTable what input fault.Refused = ⊤
IsNoTable what input fault.WriteFailed = ⊥
