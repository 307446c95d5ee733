-- Past every arm the character is in no entry of either table.
use Rattle.std.proofs.Common.{ℕ}
use Rattle.gsm_alphabet.specs.Alphabet.{main_table, extension_table}
use Rattle.gsm_alphabet.proofs.Tables.{Lacks, look_up-lacks}
use Rattle.gsm_alphabet.proofs.alphabet.encode_by_tables.Goals as goal

pub returns-in_default-clause-by_table : goal.returns-in_default-clause-by_table
unfolding main_table extension_table
returns-in_default-clause-by_table c =
    let character : ℕ × ℕ → ℕ = λ entry. entry.1 in
    let septet : ℕ × ℕ → ℕ = λ entry. entry.0 in
    let in_main : Lacks character main_table c.args.character = assumption c in
    let in_extension : Lacks character extension_table c.args.character = assumption c in
    rw (
      look_up-lacks character septet main_table c.args.character in_main,
      look_up-lacks character septet
          extension_table c.args.character in_extension,
    )
