-- What some tapes have of what was asked, computed. The pages are in UCS-2, so that their octets are the text's own.
use Rattle.std.proofs.Common.{◌≡◌, ℕ, ◌++◌, List, [], ◌∷◌, Some, None, replicate, refl}
use Rattle.std.specs.List.{flat_map}
use Rattle.cbs_page.specs.declared.content.Content.{Content}
use Rattle.bsc_table.specs.declared.command.Category.TheVariants.{Normal}
use Rattle.bsc_table.specs.declared.command.Command.TheVariants as commands
use Rattle.bsc_table.specs.declared.entry.Answer.TheVariants as answers
use Rattle.bsc_table.specs.declared.entry.Entry.{Entry}
use Rattle.verification.specs.declared.difference.Difference.{Difference}
use Rattle.verification.specs.declared.difference.Kind.{Kind}
use Rattle.verification.specs.declared.difference.Kind.TheVariants as kinds
use Rattle.verification.specs.Asked.{asked_of_log}
use Rattle.verification.specs.Difference.{all_differences}
use Rattle.verification.specs.Sent.{sent_in}
use Rattle.verification.specs.Shift.{shift_of_sent}
use Rattle.verification.specs.declared.shift.Shift.TheVariants as shifts
use lib.Utf8.{encode}

-- so many of the carriage returns that fill a page
abbrev filling : ℕ → List ℕ
filling units = flat_map {X = ℕ} (λ unit. 0x00 ∷ 0x0D ∷ []) (replicate units 0)

-- a content with this letter, and the blocks of a page with it: of message 1112, data coding, serial number and page
-- parameter
abbrev content : ℕ → Content
content letter = record { used = 2; octets = 0x00 ∷ letter ∷ filling 40 }

abbrev page_in : ℕ → ℕ → ℕ → ℕ → List (List ℕ)
page_in coding serial parameter letter =
    (0x20 ∷ 0x00 ∷ serial ∷ 0x11 ∷ 0x12 ∷ coding ∷ parameter ∷ 0x00 ∷ letter ∷ filling 7)
    ∷ (0x21 ∷ filling 11) ∷ (0x22 ∷ filling 11) ∷ (0x33 ∷ filling 11) ∷ []

abbrev page_of : ℕ → ℕ → ℕ → List (List ℕ)
page_of serial parameter letter = page_in 0x48 serial parameter letter

abbrev idle : List (List ℕ)
idle = (0x2F ∷ []) ∷ (0x2F ∷ []) ∷ (0x2F ∷ []) ∷ (0x2F ∷ []) ∷ []

-- message 1112, serial number 0010, of the pages A and B, twice from slot 0 on in periods of four slots; killed at the
-- slot, if one is given
abbrev write_at : ℕ → Entry
write_at slot = record {
  command = commands.Write 0x1112 0x0010 None Normal (record { 0 = 0x48 }) 4 2 (content 65 ∷ content 66 ∷ []);
  slot = slot;
  answer = answers.Started slot;
}

abbrev write : Entry
write = write_at 0

abbrev kill : ℕ → Entry
kill slot = record { command = commands.Kill 0x1112 0x0010; slot = slot; answer = answers.Stopped 1 }

abbrev found : (slots : ℕ) → List Entry → List (List ℕ) → List Difference
found slots log blocks = all_differences slots (asked_of_log log) (sent_in blocks)

abbrev at : ℕ → Kind → Difference
at slot kind = record { slot = slot; id = 0x1112; serial = 0x0010; kind = kind }

abbrev whole : List (List ℕ)
whole = page_of 0x10 0x12 65 ++ (page_of 0x10 0x22 66 ++ (idle ++ idle))

-- the message, twice
worked_kept : found 8 (write ∷ []) (whole ++ whole) ≡ []
unfolding encode
worked_kept = refl

-- another letter on the second page, and then the pages the other way round
worked_otherwise :
    found 8 (write ∷ [])
    (page_of 0x10 0x12 65 ++ (page_of 0x10 0x22 67 ++ (idle ++ (idle ++ (idle ++ (page_of 0x10 0x22 66
    ++ page_of 0x10 0x12 65))))))
    ≡ at 1 (kinds.Otherwise 2) ∷ at 4 (kinds.NotWhole 0) ∷ []
unfolding encode
worked_otherwise = refl

-- a page too late, after the last broadcast or after the stop: of the stopped one only the first broadcast is owed
worked_late :
    found 12 (write ∷ []) (whole ++ (whole ++ page_of 0x10 0x12 65)) ≡ at 8 kinds.AfterLast ∷ []
unfolding encode
worked_late = refl

worked_stopped :
    found 12 (write ∷ kill 7 ∷ []) (whole ++ (idle ++ (idle ++
    (idle ++ (page_of 0x10 0x12 65 ++ page_of 0x10 0x22 66)))))
    ≡ at 7 kinds.AfterStop ∷ []
unfolding encode
worked_stopped = refl

-- another serial number, twice
worked_not_ordered :
    found 4 (write ∷ []) (whole ++ (page_of 0x11 0x11 65 ++ page_of 0x11 0x11 65))
    ≡ record { slot = 4; id = 0x1112; serial = 0x0011; kind = kinds.NotOrdered } ∷ []
unfolding encode
worked_not_ordered = refl

-- pages that can't be shown: number 3 of 2, a reserved data coding, and one of another serial number
worked_not_shown :
    found 8 (write ∷ [])
    (whole ++ (page_of 0x10 0x32 65 ++ (page_in 0xF4 0x10 0x22 66 ++ (page_in 0xF4 0x11 0x11 65 ++ idle))))
    ≡ at 5 (kinds.Otherwise 2) ∷ at 4 (kinds.Otherwise 3) ∷ at 8 (kinds.NotWhole 1)
    ∷ record { slot = 6; id = 0x1112; serial = 0x0011; kind = kinds.NotOrdered } ∷ []
unfolding encode
worked_not_shown = refl

-- three slots late, of slots 0, 1, 4 and 5; and one slot early, of slots 2, 3, 6 and 7, but not if the last page is
-- late
worked_late_shift :
    shift_of_sent 12 (asked_of_log (write ∷ [])) (sent_in (idle ++ (idle ++ (idle ++ (whole ++ whole)))))
    ≡ Some (shifts.Late 3)
unfolding encode
worked_late_shift = refl

worked_early_shift :
    shift_of_sent 12 (asked_of_log (write_at 2 ∷ [])) (sent_in (idle ++ (whole ++ whole))) ≡ Some (shifts.Early 1)
unfolding encode
worked_early_shift = refl

worked_no_shift :
    shift_of_sent 12 (asked_of_log (write_at 2 ∷ []))
    (sent_in (idle ++ (whole ++ (page_of 0x10 0x12 65 ++ (idle ++ (idle ++ (idle ++ page_of 0x10 0x22 66)))))))
    ≡ None
unfolding encode
worked_no_shift = refl
