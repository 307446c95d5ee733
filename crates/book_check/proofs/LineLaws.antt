-- How a cursor passes the octets of a text, as `csv` does.
use Rattle.std.proofs.Common.{◌≡◌, ℕ, zero, suc, ◌+◌, ◌-◌, ◌<◌, ◌≤◌, ◌∙◌, ap, sym, refl, Bool, true, false, cond}
use Rattle.std.proofs.Common.{Option, Some, None}
use Rattle.std.proofs.Common.{IfSome, List, [], ◌∷◌, ◌++◌, drop, get_or, length, add-one, drop-cons, arith, subst}
use Rattle.std.proofs.Common.{length-drop}
use Rattle.std.specs.Prelude.{◌==◌}
use Rattle.csv.specs.Machine.{fields_after, field_after, is_end, next_record, step, ends_at_end, Read}
use Rattle.csv.specs.Reading.{Reached, default_config}
use Rattle.csv.specs.declared.parser.Action.TheVariants as act
use Rattle.csv.specs.declared.parser.State.{State}
use Rattle.csv.specs.declared.parser.State.TheVariants as st
use Rattle.book_check.specs.Lines.{blank_front, is_line_end, line_of, lines_before}
use Rattle.book_check.specs.LineSteps.{csv_state, is_start, PassesRecord}
use Rattle.book_check.specs.declared.lines.Cursor.{Cursor}
use Rattle.book_check.specs.declared.lines.Within.{Within}
use Rattle.book_check.specs.declared.lines.Within.TheVariants as within

-- the octet at a place, and what is behind it
pub split_at : (text : List ℕ) (at : ℕ) → at < length text → drop at text ≡ get_or text at 0 ∷ drop (at + 1) text
split_at text at less = rw (add-one, drop-cons text at 0) refl

-- one more line end before a record
pub blank_more : (text : List ℕ) (at : ℕ) → at < length text → is_line_end (get_or text at 0) ≡ true
    → at + 1 + blank_front (drop (at + 1) text) ≡ at + blank_front (drop at text)
blank_more text at less blank =
    let one : blank_front (get_or text at 0 ∷ drop (at + 1) text) ≡ blank_front (drop (at + 1) text) + 1 =
    rw blank refl in
    let here : blank_front (drop at text) ≡ blank_front (drop (at + 1) text) + 1 =
    ap blank_front (split_at text at less) ∙ one in
    omega (arith, here)

-- none is left where another octet stands, or at the end
pub blank_none : (text : List ℕ) (at : ℕ) → at < length text → is_line_end (get_or text at 0) ≡ false
    → blank_front (drop at text) ≡ 0
blank_none text at less other = ap blank_front (split_at text at less) ∙ rw other refl

-- nothing is left past the end
pub drop_end : (text : List ℕ) (at : ℕ) → length text ≤ at → drop at text ≡ []
drop_end [] zero end = refl
drop_end [] (suc at) end = refl
drop_end (octet ∷ text) zero end = absurd (omega (arith, end))
drop_end (octet ∷ text) (suc at) end = drop_end text at (omega (arith, end))

-- before a record `csv` skips a line end
pub skips : (w : Within) (octet : ℕ) → is_start w ≡ true → is_line_end octet ≡ true
    → step default_config (csv_state w) octet ≡ (st.StartRecord, act.Skip)
skips within.Start octet start blank = rw blank refl
skips within.Field octet start blank = absurd cc
skips within.Plain octet start blank = absurd cc
skips within.Quoted octet start blank = absurd cc
skips within.Quote octet start blank = absurd cc
skips within.Return octet start blank = by_feed (octet == 10) blank
  where
    by_feed : (feed : Bool) → is_line_end octet ≡ true
        → cond feed (st.StartRecord, act.Skip) (step default_config st.StartRecord octet) ≡ (st.StartRecord, act.Skip)
    by_feed true blank = refl
    by_feed false blank = rw blank refl

-- so the record after it is the same
pub same_record : (w : Within) (octet : ℕ) (rest : List ℕ) → is_start w ≡ true → is_line_end octet ≡ true
    → next_record default_config st.StartRecord [] [] rest
    ≡ next_record default_config (csv_state w) [] [] (octet ∷ rest)
unfolding next_record
same_record w octet rest start blank = rw (skips w octet start blank) refl

-- an octet that doesn't end a record
pub goes_on : (s : State) (fields : List (List ℕ)) (field : List ℕ) (octet : ℕ) (rest : List ℕ)
    → is_end (step default_config s octet).1 ≡ false
    → next_record default_config (step default_config s octet).0
    (fields_after (step default_config s octet).1 fields field)
    (field_after (step default_config s octet).1 octet field)
    rest
    ≡ next_record default_config s fields field (octet ∷ rest)
unfolding next_record
goes_on s fields field octet rest more = rw more refl

-- and one that does
pub ends_here : (s : State) (fields : List (List ℕ)) (field : List ℕ) (octet : ℕ) (rest : List ℕ)
    → is_end (step default_config s octet).1 ≡ true
    → next_record default_config s fields field (octet ∷ rest)
    ≡ Some (fields_after (step default_config s octet).1 fields field, (step default_config s octet).0, rest)
unfolding next_record
ends_here s fields field octet rest ends = rw ends refl

-- a record that ends with the text, or none
pub ends_last : (s : State) (fields : List (List ℕ)) (field : List ℕ)
    → IfSome (next_record default_config s fields field []) (λ read. (st.StartRecord ≡ read.1) × ([] ≡ read.2))
unfolding next_record
ends_last s fields field = by_end (ends_at_end s)
  where
    by_end : (ends : Bool) → IfSome (cond ends (Some (fields ++ (field ∷ []), st.StartRecord, [])) None)
        (λ (read : Read). (st.StartRecord ≡ read.1) × ([] ≡ read.2))
    by_end true = (refl, refl)
    by_end false = tt

-- the record between two places to which a text was read
read_is : (read : Read) (fields : List (List ℕ)) (s : State) (y : List ℕ) → fields ≡ read.0 → read.1 ≡ s → read.2 ≡ y
    → read ≡ (fields, s, y)
read_is read fields s y a b c =
    ap (λ (f : List (List ℕ)). (f, read.1, read.2)) (sym a)
    ∙ ap (λ (t : State). (fields, t, read.2)) b
    ∙ ap (λ (r : List ℕ). (fields, s, r)) c

one_read : (p q : Read) (o : Option Read) → o ≡ Some p → o ≡ Some q → p ≡ q
one_read p q o a b = cc

-- of two places between which one record lies, the second is where reading it from the first ends
pub reached_last : (s s1 s2 : State) (xs y1 y2 : List ℕ) (seen : List (List (List ℕ))) (fields : List (List ℕ))
    → Reached default_config s xs seen s1 y1 → Reached default_config s xs (seen ++ fields ∷ []) s2 y2
    → next_record default_config s1 [] [] y1 ≡ Some (fields, s2, y2)
unfolding Reached
reached_last s s1 s2 xs y1 y2 [] fields before after =
    ap (λ (t : State). next_record default_config t [] [] y1) (sym before.0)
    ∙ ap (λ (r : List ℕ). next_record default_config s [] [] r) (sym before.1)
    ∙ after.1
    ∙ ap Some (read_is after.0 fields s2 y2 after.2 after.3.0 after.3.1)
reached_last s s1 s2 xs y1 y2 (r ∷ rs) fields before after =
    reached_last before.0.1 s1 s2 before.0.2 y1 y2 rs fields before.3
    (subst (λ (p : Read). Reached default_config p.1 p.2 (rs ++ fields ∷ []) s2 y2)
    (sym (one_read before.0 after.0 (next_record default_config s [] [] xs) before.1 after.1)) after.3)

-- the line of what is left behind a place
pub line_here : (text : List ℕ) (at start : ℕ) → at ≤ length text → start ≡ at + blank_front (drop at text)
    → line_of text (drop at text) ≡ lines_before text start + 1
line_here text at start few is =
    let left : length (drop at text) ≡ length text - at = length-drop at text in
    let back : length text - length (drop at text) + blank_front (drop at text) ≡ start = omega (arith, left, is, few)
    in
    ap (λ n. lines_before text n + 1) back

-- the place to which a cursor passes the next record
pub passed_to : (text : List ℕ) (old new : Cursor) (read : Read) (s : State) (left : List ℕ)
    → csv_state old.within ≡ s → drop old.at text ≡ left → next_record default_config s [] [] left ≡ Some read
    → PassesRecord text old new → (csv_state new.within ≡ read.1) × (drop new.at text ≡ read.2)
passed_to text old new read s left a b is passes =
    subst (λ (o : Option Read). IfSome o (λ (r : Read). (csv_state new.within ≡ r.1) × (drop new.at text ≡ r.2)))
    (ap (λ (t : State). next_record default_config t [] [] (drop old.at text)) a
    ∙ ap (λ (l : List ℕ). next_record default_config s [] [] l) b ∙ is) passes
