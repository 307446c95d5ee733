use Rattle.std.proofs.Common.{◌∙◌, sym}
use Rattle.gsmtap.specs.TapesSteps.{known_of_each}
use Rattle.gsmtap.proofs.TapesLaws.{all_tapes, first_of_map}
use Rattle.gsmtap.proofs.tapes.made.Goals as goal

pub returns-in-Some-clause-fault : goal.returns-in-Some-clause-fault
returns-in-Some-clause-fault c input file = record {
  known = known_of_each c.args.airs.now;
  file = file;
  first = sym (first_of_map c.args.airs.now) ∙ sym c.first_silent.ensures ∙ c.in-Some.is;
}

pub returns-in-Ok-clause-tapes : goal.returns-in-Ok-clause-tapes
returns-in-Ok-clause-tapes c input file =
    all_tapes c.args.wanted.now input c.in-Ok.output.items (known_of_each c.args.airs.now) file
    (sym (first_of_map c.args.airs.now) ∙ sym c.first_silent.ensures ∙ c.in-None.is) c.in-Ok.ensures
