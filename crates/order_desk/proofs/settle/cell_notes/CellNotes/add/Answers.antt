use Rattle.std.proofs.Common.{◌≡◌, ◌⊎◌, List, [], ◌∷◌, ◌++◌, Some, true, refl, sym, subst}
use Rattle.bsc_table.specs.declared.entry.Entry.{Entry}
use Rattle.bsc_table.specs.declared.entry.SlotRange.{SlotRange}
use Rattle.order_desk.specs.declared.note.Note.{Note}
use Rattle.order_desk.specs.SettleSteps.{HasNoted, IsNext, is_note_of, lesser}
use Rattle.order_desk.proofs.Noted.{noted_entry, noted_range, noted_full}
use Rattle.order_desk.proofs.settle.cell_notes.CellNotes.add.Goals as goal

pub returns-in-Event : goal.returns-in-Event
returns-in-Event c = λ _ r earlier given logged own has.
    let old = c.args.self.now in
    let new = c.add_entry.new.self in
    let number = c.in-Event.number in
    let entry = c.in-Event.entry in
    subst (λ (note : Note). HasNoted r earlier (given ++ note ∷ []) new) (sym c.in-Event.is)
    (noted_entry r earlier given c.in-Event.cell number entry old new
    (subst (λ (note : Note). is_note_of r.cell note ≡ true) c.in-Event.is own)
    c.add_entry.ensures.places c.add_entry.ensures.noted c.add_entry.ensures.others
    (subst (λ (log : List Entry). (IsNext old log number entry × (new.misplaced ≡ old.misplaced))
    ⊎ ((IsNext old log number entry → ⊥) × (new.misplaced ≡ lesser old.misplaced (Some number)))) (sym logged)
    c.add_entry.ensures.misplaced) c.add_entry.ensures.next c.add_entry.ensures.ranges c.add_entry.ensures.full
    c.add_entry.ensures.played has)

pub returns-in-Played : goal.returns-in-Played
returns-in-Played c = λ ok r earlier given logged own has.
    let range : SlotRange = record { from = c.in-Played.from; to = c.in-Played.to } in
    subst (λ (note : Note). HasNoted r earlier (given ++ note ∷ []) c.add_range.new.self) (sym c.in-Played.is)
    (noted_range r earlier given c.in-Played.cell range c.args.self.now c.add_range.new.self
    (subst (λ (note : Note). is_note_of r.cell note ≡ true) c.in-Played.is own)
    (c.add_range.ensures.ranges ok) (c.add_range.ensures.played ok) c.add_range.ensures.noted
    c.add_range.ensures.misplaced c.add_range.ensures.full c.add_range.ensures.next has)

pub returns-in-Full : goal.returns-in-Full
returns-in-Full c = λ _ r earlier given logged own has.
    subst (λ (note : Note). HasNoted r earlier (given ++ note ∷ []) (record c.args.self.now { is_full = true }))
    (sym c.in-Full.is) (noted_full r earlier given c.in-Full.cell c.args.self.now
    (record c.args.self.now { is_full = true })
    (subst (λ (note : Note). is_note_of r.cell note ≡ true) c.in-Full.is own) refl refl refl refl refl refl has)
