-- The text of how far a run has come (own).
use Rattle.std.specs.Prelude.{ℕ, ◌/◌, ◌%◌, List, ◌++◌, codes}
use Rattle.std.specs.Fmt.{decimal}

-- octets in units of 1,000,000 with one decimal place, rounded down
abbrev pub megaoctets_text : ℕ → List ℕ
megaoctets_text octets = decimal (octets / 1_000_000) ++ (codes "." ++ decimal (octets / 100_000 % 10))

-- octets that were read, cells that are done, octets that were written, and seconds
abbrev pub counts_text : (read cells written seconds : ℕ) → List ℕ
counts_text read cells written seconds =
    codes "warnc: " ++ (megaoctets_text read ++ (codes " MB read, " ++ (decimal cells ++ (codes " cells done, "
    ++ (megaoctets_text written ++ (codes " MB written, " ++ (decimal seconds ++ codes " s")))))))
