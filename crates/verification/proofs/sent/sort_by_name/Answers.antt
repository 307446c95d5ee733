use Rattle.std.proofs.Common.{◌≤◌, sym, subst, rules}
use Rattle.std.specs.List.{AllPairs}
use Rattle.std.proofs.lemmas.List.Sorted.{IsNonDecreasingBy-from_sort_by_key, answers_always}
use Rattle.verification.specs.declared.judged.JudgedPage.{JudgedPage}
use Rattle.verification.proofs.ByNameLaws.{judged-kept, number_of}
use Rattle.verification.proofs.TimeLaws.{judged-rising}
use Rattle.verification.proofs.sent.sort_by_name.Goals as goal

-- the sort leaves the pages of one name in order
pub returns-clause-same : goal.returns-clause-same
returns-clause-same c = λ a.
    judged-kept a c.args.sent.now.items c.sort_by_key.new.self.items
    (c.in_ok-sort_by_key.ensures.stable number_of (answers_always _ _ _ (λ f a r g h. search rules)))

pub returns-clause-stand : goal.returns-clause-stand
returns-clause-stand c = record {
  named = IsNonDecreasingBy-from_sort_by_key number_of c.sort_by_key.new.self.items
      c.in_ok-sort_by_key.ensures.sorted (λ a r g h. search rules);
  rising = λ a.
      subst (AllPairs (λ (x y : JudgedPage). x.slot ≤ y.slot))
      (sym (judged-kept a c.args.sent.now.items c.sort_by_key.new.self.items
      (c.in_ok-sort_by_key.ensures.stable number_of (answers_always _ _ _ (λ f b r g h. search rules)))))
      (judged-rising a c.args.sent.now.items c.requires);
}
