use Rattle.std.proofs.Common.{◌≡◌, ◌∙◌, ◌++◌, ℕ, List, [], length, take, drop, replicate, refl, ap, sym, arith}
use Rattle.std.proofs.Common.{append-nil}
use Rattle.std.proofs.lemmas.List.{drop_all, length-append, length-drop, take_rest}
use Rattle.std.proofs.Math.Seq.{take-append_seam}
use Rattle.short_pages.proofs.page.whole_page.Goals as goal

-- the front of a page and all that stands after it
put : (front fill back : List ℕ) (n m : ℕ) → length front ≡ n → length fill ≡ m
    → take n (front ++ fill) ++ (back ++ drop m (drop n (front ++ fill))) ≡ front ++ back
put front fill back n m long rest =
    let before : take n (front ++ fill) ≡ front =
    ap (λ k. take k (front ++ fill)) (sym long) ∙ take-append_seam front fill in
    let after : drop m (drop n (front ++ fill)) ≡ [] =
    drop_all m (drop n (front ++ fill)) (omega (arith, length-drop n (front ++ fill), length-append front fill)) in
    rw (before, after) (ap (λ xs. front ++ xs) (append-nil back))

pub returns : goal.returns
returns c =
    put c.copy_from_slice.new.self (replicate 82 0) c.copy_from_slice-2.new.self 6 82 (omega arith) refl
    ∙ rw (
      c.copy_from_slice.ensures.after,
      c.copy_from_slice-2.ensures.after,
      c.whole_content-content.ensures,
      c.alphabet.ensures,
      take_rest c.args.came.now 6,
    ) refl
