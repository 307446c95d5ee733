-- What a contract sees of a reader that keeps the first octets that it reads.
use Rattle.std.specs.Prelude.{ℕ, List}
use Rattle.warnc_cli.specs.declared.ends.Noted.{Noted}

-- the reader inside
abbrev pub noted_reader : {R : Type 0} → Noted R → R
noted_reader noted = noted.reader

-- the octets that it keeps
abbrev pub front_noted : {R : Type 0} → Noted R → List ℕ
front_noted noted = noted.front.items
