use Rattle.std.proofs.Common.{arith}
use Rattle.gsm_alphabet.proofs.Latin.{LATIN-is_right}
use Rattle.gsm_alphabet.proofs.alphabet.latin_septet.Goals as goal

pub returns-else-septet-gt127 : goal.returns-else-septet-gt127
returns-else-septet-gt127 c =
    let is_right = LATIN-is_right c.args.character (omega arith) (omega arith) in
    (omega arith, is_right.0, is_right.1)
