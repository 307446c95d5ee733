use Rattle.admission.proofs.Scale.{SCALE-divided, SCALE-least, load_of-exact}
use Rattle.admission.proofs.laws.scale_laws.Goals as goal

pub returns : goal.returns
returns c = record {
  divided = SCALE-divided;
  least = SCALE-least;
  exact = load_of-exact;
}
