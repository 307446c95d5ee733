-- The pages of an accepted message: those of its write, in order.
use Rattle.std.proofs.Common.{◌≡◌, ℕ, zero, suc, ◌+◌, ◌≤◌, ◌<◌, true, Option, is_some, List, [], ◌∷◌, length, get_or}
use Rattle.std.proofs.Common.{eqb, leb, refl, sym, ap, subst, ◌∙◌, arith}
use Rattle.std.specs.Prelude.{◌&&◌}
use Rattle.std.specs.List.{All, slice_get}
use Rattle.std.proofs.lemmas.Bool.{eq-eqb, le-leb}
use Rattle.std.proofs.lemmas.Option.{slice_get-get_or}
use Rattle.std.proofs.lemmas.List.Elements.{All-head, All-tail}
use Rattle.cbs_page.specs.declared.content.Content.{Content}
use Rattle.cbs_page.specs.declared.octets.PageView.{PageView}
use Rattle.cbs_page.specs.Coding.{alphabet_of}
use Rattle.handset.specs.OneMessage.{IsMessage}
use Rattle.bsc_table.specs.declared.command.Command.{Command}
use Rattle.bsc_table.specs.declared.command.Command.TheVariants as commands
use Rattle.bsc_table.specs.declared.entry.Answer.TheVariants as answers
use Rattle.bsc_table.specs.declared.entry.Entry.{Entry}
use Rattle.bsc_table.specs.Record.{Record, Accepted, start_of, accepted_in}
use Rattle.bsc_table.specs.Orders.{IsWellFormed}
use Rattle.bsc_table.specs.Legal.{IsLegal}
use Rattle.bsc_table.specs.Written.{IsWriteBy}
use Rattle.cbch_blocks.specs.RecordBlocks.{pages_from, pages_of_command, pages_of_entry}
use Rattle.composition.specs.Composition.{name_accepted}
use Rattle.composition.proofs.Laws.{Laws}
use Rattle.composition.proofs.Blocks.{IsSendable}

-- the page of this number, with these fields
pub record IsPageOf (id serial dcs total number : ℕ) (page : PageView) : Type 0 where
  pub id_is : page.id ≡ id
  pub serial_is : page.serial ≡ serial
  pub coded : page.dcs.0 ≡ dcs
  pub total_is : page.total ≡ total
  pub numbered : page.number ≡ number
  pub full : length page.content ≡ 82

length-pages_from : (id serial dcs total number : ℕ) (contents : List Content)
    → length (pages_from id serial dcs total number contents) ≡ length contents
length-pages_from id serial dcs total number [] = refl
length-pages_from id serial dcs total number (content ∷ rest) = ap suc
    (length-pages_from id serial dcs total (number + 1) rest)

pages_from-at : (id serial dcs total number : ℕ) (contents : List Content) → All (λ c. length c.octets ≡ 82) contents
    → (i : ℕ) (d : PageView) → i < length contents → IsPageOf id serial dcs total (number + i)
    (get_or (pages_from id serial dcs total number contents) i d)
pages_from-at id serial dcs total number [] full i d within = absurd (omega (arith, within))
pages_from-at id serial dcs total number (content ∷ rest) full zero d within =
    record {
      id_is = refl;
      serial_is = refl;
      coded = refl;
      total_is = refl;
      numbered = omega arith;
      full = All-head (λ (c : Content). length c.octets ≡ 82) content rest full;
    }
pages_from-at id serial dcs total number (content ∷ rest) full (suc i) d within =
    let next : number + 1 + i ≡ number + suc i = omega arith in
    let page : PageView = get_or (pages_from id serial dcs total (number + 1) rest) i d in
    subst (λ n. IsPageOf id serial dcs total n (get_or (pages_from id serial dcs total (number + 1) rest) i d)) next
    (pages_from-at id serial dcs total (number + 1) rest (All-tail (λ (c : Content). length c.octets ≡ 82) content rest
    full) i d (omega (arith, within)))

-- the pages of an accepted message
pub record IsSentMessage (a : Accepted) (pages : List PageView) : Type 0 where
  pub coding : ℕ
  pub known : is_some (alphabet_of coding) ≡ true
  pub long : length pages ≡ a.message.pages
  pub some : 1 ≤ length pages
  pub few : length pages ≤ 15
  pub at : (i : ℕ) (d : PageView) → i < length pages → IsPageOf a.id a.serial coding (length pages) (1 + i)
      (get_or pages i d)

sent_by_command : (a : Accepted) (command : Command) (start : Option ℕ) → IsWriteBy a command start
    → IsWellFormed command → IsSentMessage a (pages_of_command command)
sent_by_command a (commands.Write id serial replaces category dcs period broadcasts contents) start write formed =
    let pages : List PageView = pages_from id serial dcs.0 (length contents) 1 contents in
    let long = length-pages_from id serial dcs.0 (length contents) 1 contents in
    record {
      coding = dcs.0;
      known = formed.coded;
      long = long ∙ sym write.2;
      some = omega (arith, long, formed.some_pages);
      few = omega (arith, long, formed.few_pages);
      at = λ i d within.
          let Page : ℕ → ℕ → ℕ → Type 0 = λ x s t. IsPageOf x s dcs.0 t (1 + i)
          (get_or (pages_from id serial dcs.0 (length contents) 1 contents) i d) in
          subst (λ x. Page x a.serial (length (pages_from id serial dcs.0 (length contents) 1 contents))) (sym write.0)
          (subst (λ s. Page id s (length (pages_from id serial dcs.0 (length contents) 1 contents))) (sym write.1)
          (subst (λ t. Page id serial t) (sym long)
          (pages_from-at id serial dcs.0 (length contents) 1 contents formed.full i d (omega (arith, long, within)))));
    }
sent_by_command a (commands.Kill id serial) start write formed = absurd write
sent_by_command a (commands.Status id serial) start write formed = absurd write

-- the pages that an accepted message sends
abbrev pub sent_by : List Entry → Accepted → List PageView
sent_by log a = pages_of_entry (slice_get log a.message.entry)

no_entry : Entry
no_entry = record { command = commands.Status 0 0; slot = 0; answer = answers.Unknown }

-- the pages of each accepted message are those of one message that can be sent
pub all_sent : (laws : Laws) (r : Record) → IsLegal r → All (λ a. IsSentMessage a (sent_by r.log a)) (accepted_in r.log)
all_sent laws r legal = λ k d within.
    let a : Accepted = get_or (accepted_in r.log) k d in
    let n : ℕ = a.message.entry in
    let write = laws.accepted_are_writes r.log no_entry k d within in
    let e : Entry = get_or r.log (get_or (accepted_in r.log) k d).message.entry no_entry in
    let found = slice_get-get_or r.log (get_or (accepted_in r.log) k d).message.entry no_entry write.0 in
    let formed : IsWellFormed e.command = legal.formed (get_or (accepted_in r.log) k d).message.entry no_entry write.0
    in
    subst (λ o. IsSentMessage (get_or (accepted_in r.log) k d) (pages_of_entry o)) (sym found)
    (sent_by_command (get_or (accepted_in r.log) k d) e.command (start_of e.answer) write.1 formed)

-- such pages are a message, and can be sent
pub is_message : (a : Accepted) (pages : List PageView) → IsSentMessage a pages → IsMessage (name_accepted a) pages
is_message a pages is = record {
  dcs = is.coding;
  some = is.some;
  each = λ place d within.
      let page : PageView = get_or pages place d in
      let at : IsPageOf a.id a.serial is.coding (length pages) (1 + place) (get_or pages place d) = is.at place d
      within in
      record {
        named = ap (λ b. b && eqb page.serial a.serial) (eq-eqb page.id a.id at.id_is)
            ∙ eq-eqb page.serial a.serial at.serial_is;
        numbered = let n = at.numbered in omega (arith, n);
        total_is = at.total_is;
        coded = at.coded;
      };
}

-- each page of such a message can be sent
pub can_send : (a : Accepted) (pages : List PageView) → IsSentMessage a pages → (i : ℕ) (d : PageView)
    → i < length pages → IsSendable (get_or pages i d)
can_send a pages is i d within =
    let page : PageView = get_or pages i d in
    let at : IsPageOf a.id a.serial is.coding (length pages) (1 + i) (get_or pages i d) = is.at i d within in
    let number = at.numbered in
    let total = at.total_is in
    let known : is_some (alphabet_of page.dcs.0) ≡ true = ap (λ c. is_some (alphabet_of c)) at.coded ∙ is.known in
    record {
      first = omega (arith, number);
      some = omega (arith, total, is.some);
      few = omega (arith, total, is.few);
      full = at.full;
      readable = ap (λ b. b && leb page.number page.total) known
          ∙ le-leb page.number page.total (omega (arith, number, total, within));
    }
