-- What a contract sees of the ends that report to the progress (own): the end inside.
use Rattle.progress.specs.declared.ends.CountedReader.{CountedReader}
use Rattle.progress.specs.declared.ends.CountedWriter.{CountedWriter}
use Rattle.progress.specs.declared.ends.EndingWriter.{EndingWriter}

abbrev pub counted_reader : {E R : Type 0} → CountedReader E R → R
counted_reader counted = counted.reader

abbrev pub counted_writer : {E W : Type 0} → CountedWriter E W → W
counted_writer counted = counted.writer

abbrev pub ending_writer : {T E W : Type 0} → EndingWriter T E W → W
ending_writer ending = ending.writer
