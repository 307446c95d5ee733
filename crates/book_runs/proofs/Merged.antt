-- Two lists of what is of cells, merged in the order of the cells: the first has what is of some of them, the second
-- what is of the others.
use Rattle.std.proofs.Common.{◌≡◌, Bool, true, false, cond, not, List, [], ◌∷◌, ◌++◌, map, filter, refl, ap, ◌∙◌}
use Rattle.std.specs.List.{All}
use Rattle.std.proofs.lemmas.List.Elements.{All-cons, All-head, All-nil, All-tail}
use Rattle.cbsp_wire.specs.declared.message.Cell.{Cell}
use Rattle.book_runs.specs.CellParts.{leave, merged, first_in, rest_in}
use Rattle.alert_book.specs.Restricted.{Keep}

first_cell : {X : Type 0} (of : X → Cell) (x : X) (xs : List X) (c : Cell) (cells : List Cell)
    → of x ∷ map of xs ≡ c ∷ cells → of x ≡ c
first_cell of x xs c cells is = cc

later_cells : {X : Type 0} (of : X → Cell) (x : X) (xs : List X) (c : Cell) (cells : List Cell)
    → of x ∷ map of xs ≡ c ∷ cells → map of xs ≡ cells
later_cells of x xs c cells is = cc

none_there : {X : Type 0} (of : X → Cell) (c : Cell) (cells : List Cell) → map of [] ≡ c ∷ cells → ⊥
none_there of c cells is = absurd (cc)

-- what a merged list is: of the cells, and in both parts as before
pub record IsMerge {X : Type 0} (of : X → Cell) (keep : Keep) (cells : List Cell) (xs ys : List X) : Type 0 where
  pub all : map of (merged keep cells xs ys) ≡ cells
  pub one : filter (λ x. keep (of x)) (merged keep cells xs ys) ≡ xs
  pub two : filter (λ x. leave keep (of x)) (merged keep cells xs ys) ≡ ys

-- lists of some cells and of the others merge to one of all, of which they are the parts
pub is_merge : {X : Type 0} (of : X → Cell) (keep : Keep) (cells : List Cell) (xs ys : List X)
    → map of xs ≡ filter keep cells → map of ys ≡ filter (leave keep) cells → IsMerge of keep cells xs ys
is_merge of keep [] [] [] one two = record { all = refl; one = refl; two = refl }
is_merge of keep [] (x ∷ xs) ys one two = absurd (cc)
is_merge of keep [] [] (y ∷ ys) one two = absurd (cc)
is_merge of keep (c ∷ cells) xs ys one two =
    by_keep (keep c) refl xs ys one two (λ l m also more. is_merge of keep cells l m also more)
  where
    by_keep : (here : Bool) → keep c ≡ here → (xs ys : List _)
        → map of xs ≡ cond here (c ∷ filter keep cells) (filter keep cells)
        → map of ys ≡ cond (not here) (c ∷ filter (leave keep) cells) (filter (leave keep) cells)
        → ((l m : List _) → map of l ≡ filter keep cells → map of m ≡ filter (leave keep) cells
        → IsMerge of keep cells l m)
        → IsMerge of keep (c ∷ cells) xs ys
    by_keep true is [] ys one two rest = absurd (none_there of c (filter keep cells) one)
    by_keep true is (x ∷ xs) ys one two rest =
        let cell = first_cell of x xs c (filter keep cells) one in
        let more = rest xs ys (later_cells of x xs c (filter keep cells) one) two in
        let here : keep (of x) ≡ true = ap keep cell ∙ is in record {
          all = rw is (ap (λ (d : Cell). d ∷ map of (merged keep cells xs ys)) cell
              ∙ ap (λ (l : List Cell). c ∷ l) more.all);
          one = rw (is, here) (ap (λ (l : List _). x ∷ l) more.one);
          two = rw (is, here) more.two;
        }
    by_keep false is xs [] one two rest = absurd (none_there of c (filter (leave keep) cells) two)
    by_keep false is xs (y ∷ ys) one two rest =
        let cell = first_cell of y ys c (filter (leave keep) cells) two in
        let more = rest xs ys one (later_cells of y ys c (filter (leave keep) cells) two) in
        let here : keep (of y) ≡ false = ap keep cell ∙ is in record {
          all = rw is (ap (λ (d : Cell). d ∷ map of (merged keep cells xs ys)) cell
              ∙ ap (λ (l : List Cell). c ∷ l) more.all);
          one = rw (is, here) more.one;
          two = rw (is, here) (ap (λ (l : List _). y ∷ l) more.two);
        }

all_first : {X : Type 0} (P : X → Type 0) (xs more : List X) → All P xs → All P more → All P (first_in xs ++ more)
all_first P [] more each rest = rest
all_first P (x ∷ xs) more each rest = All-cons P x more (All-head P x xs each) rest

all_rest : {X : Type 0} (P : X → Type 0) (xs : List X) → All P xs → All P (rest_in xs)
all_rest P [] each = each
all_rest P (x ∷ xs) each = All-tail P x xs each

all_either : {X : Type 0} (P : X → Type 0) (b : Bool) (xs ys : List X) → All P xs → All P ys → All P (cond b xs ys)
all_either P true xs ys one two = one
all_either P false xs ys one two = two

-- what holds of both holds of what is merged
pub all_merged : {X : Type 0} (P : X → Type 0) (keep : Keep) (cells : List Cell) (xs ys : List X) → All P xs
    → All P ys → All P (merged keep cells xs ys)
all_merged P keep [] xs ys one two = All-nil P
all_merged P keep (c ∷ cells) xs ys one two =
    all_first P (cond (keep c) xs ys)
    (merged keep cells (cond (keep c) (rest_in xs) xs) (cond (keep c) ys (rest_in ys)))
    (all_either P (keep c) xs ys one two)
    (all_merged P keep cells (cond (keep c) (rest_in xs) xs) (cond (keep c) ys (rest_in ys))
    (all_either P (keep c) (rest_in xs) xs (all_rest P xs one) one)
    (all_either P (keep c) ys (rest_in ys) two (all_rest P ys two)))
