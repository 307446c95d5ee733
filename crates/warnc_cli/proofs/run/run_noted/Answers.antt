use Rattle.warnc_cli.proofs.run.run_noted.Goals as goal

pub returns-clause-refused : goal.returns-clause-refused
returns-clause-refused g c =
    λ is. rw (c.new-book.ensures.reader, c.new-source.ensures.reader) at (c.run_between.ensures.refused is)
