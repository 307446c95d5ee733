-- What a writer of lines has written (own). The contracts of private functions alone speak of it.
use Rattle.std.specs.Prelude.{◌≡◌, ℕ, List, Some, false}
use Rattle.std.specs.Global.{Vec}
use Rattle.csv.specs.Writing.{default_writer, fields_written, has_written, text_written, writer_setup}
use Rattle.csv.specs.declared.writer.Writer.{Writer}

-- a writer to memory has written these octets, and the last of its lines is ended
pub record HasWritten (writer : Writer (Vec ℕ)) (octets : List ℕ) : Type 0 where
  pub text : text_written (λ v. Some v.items) writer ≡ Some octets
  pub setup : writer_setup writer ≡ default_writer
  pub ended : fields_written writer ≡ 0
  pub clean : has_written writer ≡ false
