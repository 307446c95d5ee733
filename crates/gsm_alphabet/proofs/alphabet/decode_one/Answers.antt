-- Past every arm the code is in no entry of the table.
use Rattle.gsm_alphabet.specs.Alphabet.{main_table}
use Rattle.gsm_alphabet.proofs.Tables.{Lacks, look_up-lacks}
use Rattle.gsm_alphabet.proofs.alphabet.decode_one.Goals as goal

pub returns-in_default : goal.returns-in_default
unfolding main_table
returns-in_default c =
    let lacks : Lacks (λ entry. entry.0) main_table c.args.code = assumption c in
    rw (look_up-lacks (λ entry. entry.0) (λ entry. entry.1) main_table c.args.code lacks)
