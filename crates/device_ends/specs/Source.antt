-- What a contract sees of a `Source`.
use Rattle.std.specs.Prelude.{Bool}
use Rattle.device_ends.specs.declared.reading.Source.{Source}

-- the reader inside
abbrev pub reader_of : {R : Type 0} → Source R → R
reader_of source = source.reader

-- whether the reader has failed
abbrev pub source_failed : {R : Type 0} → Source R → Bool
source_failed source = source.failed
