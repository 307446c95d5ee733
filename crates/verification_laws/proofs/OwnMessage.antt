-- The message of an aired page, by its pair and by its number.
use Rattle.std.proofs.Common.{◌≡◌, ℕ, true, None, List, [], get_or}
use Rattle.std.proofs.Common.{sym, ap, subst, ◌∙◌, arith, inl, inr}
use Rattle.std.specs.Prelude.{◌==◌}
use Rattle.std.specs.List.{Contains}
use Rattle.std.proofs.lemmas.Bool.{and_parts, cases_eq, cases_lt, eq-eqb, eqb-true}
use Rattle.std.proofs.lemmas.List.{get_or_default}
use Rattle.cbs_page.specs.declared.octets.PageView.{PageView}
use Rattle.scheduler.specs.Air.{airs}
use Rattle.bsc_table.specs.declared.entry.Entry.{Entry}
use Rattle.bsc_table.specs.Legal.{IsLegal}
use Rattle.bsc_table.specs.Record.{Record, Accepted, accepted_in, messages_in}
use Rattle.composition.proofs.Aired.{AreSound, IsAiredAs, same_pair}
use Rattle.composition.proofs.Composed.{message_there, messages_rise}
use Rattle.composition.proofs.Laws.{Laws}
use Rattle.composition.proofs.Sent.{sent_by}
use Rattle.verification.specs.declared.sent.SentPage.{SentPage}
use Rattle.verification.specs.Asked.{AskedMessage, is_page_of}
use Rattle.verification.specs.Judged.{is_right, judged}
use Rattle.verification_laws.proofs.AskedOf.{IsComing}
use Rattle.verification_laws.proofs.RightPages.{IsKept, kept-in-time, right-page}
use Rattle.verification_laws.proofs.Slots.{IsOwn}

-- elements whose numbers rise are one if their numbers are
pub same_number : (log : List Entry) (a b : Accepted) → AreSound log → Contains (accepted_in log) a →
    Contains (accepted_in log) b → b.message.entry ≡ a.message.entry → a ≡ b
same_number log a b sound mine other number =
    let all : List Accepted = accepted_in log in
    elim (cases_lt mine.0 other.0) [
      | inl before ↦
          let below = sound.rising mine.0 other.0 a before other.1 in
          let left = ap (λ (x : Accepted). x.message.entry) mine.2 in
          let right = ap (λ (x : Accepted). x.message.entry)
          (get_or_default (accepted_in log) other.0 a b other.1 ∙ other.2) in
          absurd (let less : ⊥ = omega (arith, below, left, right, number) in less)
      | inr after ↦ elim (cases_eq mine.0 other.0) [
        | inl same ↦ sym mine.2 ∙ ap (λ k. get_or (accepted_in log) k a) same
            ∙ get_or_default (accepted_in log) other.0 a b other.1 ∙ other.2
        | inr apart ↦
            let below = sound.rising other.0 mine.0 b (omega (arith, after, apart)) mine.1 in
            let left = ap (λ (x : Accepted). x.message.entry) other.2 in
            let right = ap (λ (x : Accepted). x.message.entry)
            (get_or_default (accepted_in log) mine.0 b a mine.1 ∙ mine.2) in
            absurd (let less : ⊥ = omega (arith, below, left, right, number) in less)
      ]
    ]

-- an aired page of a message is right
pub own-right : (log : List Entry) (a : AskedMessage) (b : Accepted) (used : ℕ × ℕ) (h : IsAiredAs log used) →
    IsComing log [] a b → h.of ≡ b → is_right a h.page ≡ true
own-right log a b used h same is =
    right-page a h.page h.sendable.readable
    (subst (λ pages. Contains pages h.page) same.pages_are
    (subst (λ (x : Accepted). Contains (sent_by log x) h.page) is h.sent))

-- and so is each sent page of its identifier and serial number, which comes in its time
pub own-kept : (laws : Laws) (r : Record) → IsLegal r → AreSound r.log → (a : AskedMessage) (b : Accepted) →
    Contains (accepted_in r.log) b → IsComing r.log [] a b → (s : SentPage) → IsOwn r.log r.air s →
    is_page_of a s.page ≡ true → IsKept a (judged a s)
own-kept laws r legal sound a b there same s own named =
    let parts = and_parts (s.page.id == a.id) (s.page.serial == a.serial) named in
    let id : own.how.of.id ≡ b.id =
    sym own.how.id_is ∙ ap (λ (p : PageView). p.id) own.page_is ∙ eqb-true s.page.id a.id parts.0 ∙ same.id_is in
    let serial : own.how.of.serial ≡ b.serial =
    sym own.how.serial_is ∙ ap (λ (p : PageView). p.serial) own.page_is
    ∙ eqb-true s.page.serial a.serial parts.1 ∙ same.serial_is in
    let is : b ≡ own.how.of = same_pair r.log b own.how.of sound there own.how.there id serial in
    let entry : own.used.0 ≡ b.message.entry =
    sym own.how.number_is ∙ ap (λ (x : Accepted). x.message.entry) (sym is) in
    let airs_it : airs b.message.entry (get_or r.air s.slot None) ≡ true =
    ap (airs b.message.entry) own.in_air ∙ eq-eqb own.used.0 b.message.entry entry in
    let pending = laws.in_order (messages_in r.log) r.air s.slot b.message (messages_rise laws r.log)
    (message_there r.log b there) legal.aired own.within airs_it in
    let right : is_right a s.page ≡ true =
    ap (is_right a) (sym own.page_is) ∙ own-right r.log a b own.used own.how same (sym is) in
    let kept = kept-in-time r.log r.air a b pending.0 s.slot s.page.number same pending.1 in
    record { right = right; begun = kept.begun; standing = kept.standing; going = kept.going }
