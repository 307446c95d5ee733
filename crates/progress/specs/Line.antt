-- What a contract sees of a `Line` (own).
use Rattle.std.specs.Prelude.{◌≡◌, ℕ, ◌≤◌, ◌/◌, Bool, false, Option, List, ◌++◌, codes}
use Rattle.std.specs.Io.KnownBytes.{Appends}
use Rattle.progress.specs.Counts.{counts_text}
use Rattle.progress.specs.declared.line.Line.{Line}

-- the writer that it is drawn on
abbrev pub screen_of : {E : Type 0} → Line E → E
screen_of line = line.screen

-- whether it stands on the screen, in whole or in part
abbrev pub is_drawn : {E : Type 0} → Line E → Bool
is_drawn line = line.is_drawn

-- whether it is drawn no more
abbrev pub has_ended : {E : Type 0} → Line E → Bool
has_ended line = line.has_ended

-- it is drawn after so many nanoseconds: the first second has passed, and the line hasn't ended
pub record IsTimeToDraw (nanoseconds : ℕ) {E : Type 0} (line : Line E) : Type 0 where
  pub late : 1_000_000_000 ≤ nanoseconds
  pub stays : has_ended line ≡ false

-- what is written to draw it after so many nanoseconds
abbrev pub drawing : (read cells written nanoseconds : ℕ) → List ℕ
drawing read cells written nanoseconds = codes "\r" ++ counts_text read cells written (nanoseconds / 1_000_000_000)

-- these octets are written to its screen
abbrev pub Shows : {E : Type 0} → (held : E → Option (List ℕ)) → (old new : Line E) → List ℕ → Type 0
Shows held old new octets = Appends (held (screen_of old)) (held (screen_of new)) octets

-- what is written to wipe it: 78 spaces, as many signs as it has at most below 10 ^ 13 octets, 10 ^ 7 cells and a year
abbrev pub wiping : List ℕ
wiping = codes "\r                                                                              \r"
